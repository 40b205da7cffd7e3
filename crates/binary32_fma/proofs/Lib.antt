pub mod Ordering
pub mod Places
