pub mod Cycles
pub mod Gluing
pub mod Seeds
pub mod Laying
pub mod Matching
pub mod Sides
pub mod Letters
pub mod inside
