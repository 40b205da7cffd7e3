pub mod Printed
pub mod States
pub mod Positions
pub mod Calls
pub mod Theorems
