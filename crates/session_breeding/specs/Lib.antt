pub mod Breeding
