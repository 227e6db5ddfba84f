pub mod Xor
pub mod Words
