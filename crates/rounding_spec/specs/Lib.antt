pub mod Format
pub mod Nearest
pub mod Round
pub mod Value
pub mod Numbers
pub mod Theorems
pub mod Inner
