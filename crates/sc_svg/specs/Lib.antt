pub mod Layout
pub mod Drawings
pub mod Points
pub mod Fans
pub mod inside
