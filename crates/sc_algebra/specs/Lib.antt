pub mod Sums
pub mod Permutations
