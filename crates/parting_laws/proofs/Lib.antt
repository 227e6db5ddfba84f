pub mod Shared
pub mod Parting
pub mod Paper
