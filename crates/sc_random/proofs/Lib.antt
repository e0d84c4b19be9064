pub mod DrawnWords
pub mod DrawnChains
