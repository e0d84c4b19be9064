pub mod Solved
pub mod Faults
pub mod Searched
pub mod Halves
pub mod inside
