pub mod Scaled
pub mod Refusals
pub mod Entered
