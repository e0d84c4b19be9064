pub mod Lengths
pub mod Neighbours
pub mod Forms
pub mod inside
