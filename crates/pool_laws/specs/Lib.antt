pub mod Text
pub mod Choice
