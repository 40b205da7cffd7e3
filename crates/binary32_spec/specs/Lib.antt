pub mod Steps
pub mod Marks
pub mod Agreement
pub mod MarkTheorems
pub mod Theorems
pub mod Inner
