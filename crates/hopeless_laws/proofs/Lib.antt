pub mod Hopeless
pub mod Calls
pub mod Cases
