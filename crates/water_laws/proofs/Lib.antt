pub mod Litres
pub mod Bands
pub mod Words
pub mod Refused
pub mod Passed
pub mod Charged
pub mod Prices
