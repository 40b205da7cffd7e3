pub mod Answer
pub mod Classes
pub mod Comparisons
pub mod Exact
pub mod Inner
pub mod Theorems
