pub mod Maps
pub mod Ahead
pub mod Digits
