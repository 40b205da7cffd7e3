pub mod Constants
pub mod Steps
pub mod Refusals
pub mod Lines
pub mod Sheets
pub mod Filling
pub mod Theorems
