pub mod Rows
pub mod Pool
