pub mod OneDigit
pub mod EightDigits
pub mod Refusals
pub mod ThreeLetters
pub mod Bytes
pub mod Texts
pub mod Whole
pub mod Theorems
