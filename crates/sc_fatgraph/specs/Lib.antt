pub mod Flaws
pub mod Faults
pub mod Surfaces
pub mod Texts
pub mod inside
