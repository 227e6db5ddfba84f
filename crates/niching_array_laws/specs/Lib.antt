pub mod Niche
