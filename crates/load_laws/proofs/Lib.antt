pub mod Values
pub mod States
pub mod Plans
pub mod Files
pub mod Refusals
pub mod Holds
pub mod Read
pub mod Promise
