pub mod Lines
pub mod Breeding
