pub mod Classes
pub mod Shapes
pub mod SideLists
pub mod inside
