pub mod Moved
pub mod Drawable
pub mod Cases
