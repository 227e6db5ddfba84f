pub mod Storing
pub mod Blocks
