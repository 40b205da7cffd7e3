pub mod Magnitudes
pub mod ProductBranches
pub mod Equality
pub mod Choices
