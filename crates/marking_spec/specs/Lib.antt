pub mod Marking
pub mod Theorems
