pub mod Hopeless
pub mod Cases
