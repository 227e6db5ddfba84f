pub mod Strict
pub mod Ranks
pub mod Flat
pub mod Post
