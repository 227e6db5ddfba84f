pub mod Gap
pub mod Sbx
pub mod Mutating
