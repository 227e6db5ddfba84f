pub mod Blocks
pub mod Children
pub mod Kept
