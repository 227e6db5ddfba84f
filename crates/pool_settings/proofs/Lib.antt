pub mod Ints
pub mod Passed
