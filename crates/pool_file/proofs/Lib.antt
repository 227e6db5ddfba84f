pub mod Editions
pub mod Whole
