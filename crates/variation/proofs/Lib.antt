pub mod Exponent
pub mod Crossing
pub mod Maybe
