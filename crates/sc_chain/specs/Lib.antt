pub mod Faults
pub mod Lookup
pub mod Kept
pub mod Balance
pub mod Pairs
pub mod PairPlaces
pub mod Polygons
pub mod inside
