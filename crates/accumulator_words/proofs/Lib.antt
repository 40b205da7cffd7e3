pub mod Significand
pub mod Placing
