pub mod Niching
pub mod Nearest
