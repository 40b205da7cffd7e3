pub mod Pairs
pub mod Direct
pub mod Operations
pub mod Cases
pub mod Theorems
pub mod Inner
