pub mod Admitted
pub mod Agree
