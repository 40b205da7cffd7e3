pub mod Refusals
pub mod Arrays
pub mod TurnedWords
