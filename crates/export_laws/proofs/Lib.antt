pub mod Export
pub mod Refusals
pub mod Sessions
