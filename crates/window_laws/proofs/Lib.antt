pub mod Least
pub mod Parts
pub mod Window
