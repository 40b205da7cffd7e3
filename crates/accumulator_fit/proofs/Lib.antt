pub mod Limit
pub mod Lent
