-- From the order of all floats to what the product says of draws, doubles from 0 up and bit patterns.
pub mod Units
pub mod Order
pub mod Compared
pub mod Rounding
pub mod Constants
pub mod Arithmetic
pub mod Magnitude
pub mod FromZero
pub mod Sums
pub mod InRange
pub mod Patterns
