pub mod Heads
pub mod Wholes
