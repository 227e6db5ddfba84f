pub mod Bred
