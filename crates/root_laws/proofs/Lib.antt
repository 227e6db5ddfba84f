pub mod Rising
pub mod Arguments
pub mod Draws
pub mod InOrder
