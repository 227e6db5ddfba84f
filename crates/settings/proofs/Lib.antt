pub mod Signed
pub mod Words
pub mod Valid
pub mod Stepped
pub mod OnStep
pub mod Candidates
pub mod InBounds
pub mod Eta
