pub mod Answers
pub mod Ascii
pub mod Questions
pub mod Theorems
