pub mod Constants
pub mod Theorems
