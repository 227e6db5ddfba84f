pub mod Powers
pub mod Diagonal
pub mod Axes
pub mod Zeros
pub mod Twins
