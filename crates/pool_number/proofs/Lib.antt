pub mod Options
pub mod Groups
pub mod Numbers
