pub mod Ready
pub mod Answering
