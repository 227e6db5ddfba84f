pub mod Ranks
mod Rows
