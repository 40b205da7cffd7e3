pub mod Writing
pub mod LastText
pub mod Taking
pub mod Answers
pub mod Running
