pub mod Steps
pub mod WordsOn
