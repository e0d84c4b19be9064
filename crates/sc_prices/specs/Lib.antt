pub mod Flaws
pub mod Sizes
pub mod Conditions
pub mod inside
