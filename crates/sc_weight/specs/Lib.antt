pub mod Levels
pub mod Evidence
pub mod Laws
