pub mod Bands
pub mod Filled
