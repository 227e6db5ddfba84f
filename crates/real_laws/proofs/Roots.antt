-- The square root: what the definition's whole root is, how a double's digits and exponent lead to it, and the theorems about it.
pub mod Whole
pub mod Scaled
pub mod Units
pub mod Digits
pub mod Pattern
pub mod Monotone
pub mod Nearest
pub mod Apart
pub mod Examples
