pub mod Forms
pub mod Back
pub mod Editions
pub mod Pools
pub mod Twins
pub mod Converts
