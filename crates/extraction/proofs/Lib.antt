pub mod Sorting
pub mod Extracting
