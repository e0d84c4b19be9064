pub mod Ints
pub mod Sums
pub mod Permutations
pub mod Cycles
