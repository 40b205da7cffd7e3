pub mod Chosen
pub mod OneMore
pub mod Starts
pub mod Cases
