pub mod Turned
