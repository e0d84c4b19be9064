pub mod Arithmetic
pub mod Comparing
pub mod SameValues
