pub mod Splitting
pub mod Answer
