pub mod Directions
pub mod Cones
pub mod Values
pub mod Unions
pub mod Fans
pub mod Searches
pub mod Examples
