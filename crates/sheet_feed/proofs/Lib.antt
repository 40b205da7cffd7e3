pub mod Stepped
pub mod Feeding
pub mod Closing
