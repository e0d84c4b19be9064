pub mod DirectionWords
pub mod Lengths
pub mod Sizes
pub mod FormNumbers
pub mod Refusals
pub mod Balances
pub mod PrimitiveSums
pub mod Neighbours
