pub mod OfNumbers
pub mod Writing
