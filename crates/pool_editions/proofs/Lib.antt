pub mod Entries
pub mod Planned
