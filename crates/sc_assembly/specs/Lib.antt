pub mod Multiples
pub mod Copies
pub mod inside
