pub mod Facts
pub mod Paper
pub mod RuleCases
