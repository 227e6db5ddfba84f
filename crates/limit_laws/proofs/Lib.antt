pub mod Limit
mod Over
