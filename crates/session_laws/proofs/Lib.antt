pub mod Lists
pub mod Opened
pub mod Window
pub mod Request
pub mod Steps
pub mod Breed
pub mod Bounds
pub mod Sample
