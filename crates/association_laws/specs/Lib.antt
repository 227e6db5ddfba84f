pub mod Flat
pub mod Request
pub mod Measurable
pub mod Search
pub mod Paper
