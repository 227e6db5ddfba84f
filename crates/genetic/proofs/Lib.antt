pub mod Steps
pub mod Broods
