pub mod Divisor
pub mod Operation
pub mod Spelling
