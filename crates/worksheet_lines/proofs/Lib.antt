pub mod Row
pub mod Rows
pub mod Unused
pub mod SharedLines
pub mod Copied
