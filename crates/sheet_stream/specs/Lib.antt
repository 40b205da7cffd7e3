pub mod Inner
pub mod Written
