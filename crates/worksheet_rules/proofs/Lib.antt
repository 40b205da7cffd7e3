pub mod SumLines
pub mod ProductLines
