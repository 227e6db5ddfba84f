pub mod Accepted
pub mod Answer
pub mod Breeding
pub mod Dimensions
pub mod Refusals
