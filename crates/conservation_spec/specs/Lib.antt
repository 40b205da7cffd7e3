pub mod Lists
pub mod Claim
pub mod Replay
pub mod Inner
pub mod Theorems
pub mod Refusals
