pub mod Header
pub mod States
pub mod Whole
