pub mod Flat
pub mod Cases
