pub mod Texts
pub mod Buffers
pub mod Inner
pub mod Theorems
