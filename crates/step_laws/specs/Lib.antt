pub mod Drawable
pub mod Cases
