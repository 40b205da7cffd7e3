pub mod Outcomes
pub mod Carries
