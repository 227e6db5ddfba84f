pub mod Shifted
pub mod Span
pub mod Unit
pub mod Draws
