pub mod Theorems
pub mod Cut
