pub mod Cycling
pub mod Splitting
pub mod SeedColumns
pub mod Wholes
pub mod Sizes
pub mod PartLoops
pub mod CountedParts
pub mod OneMultiple
