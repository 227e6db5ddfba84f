pub mod Coding
pub mod Place
