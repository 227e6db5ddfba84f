pub mod Count
pub mod Table
pub mod First
pub mod Rows
pub mod Divisions
pub mod Ratios
pub mod Doubles
