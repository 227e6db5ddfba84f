pub mod Laid
pub mod Stored
pub mod Typed
