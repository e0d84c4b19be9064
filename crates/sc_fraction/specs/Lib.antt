pub mod Fault
pub mod Frac
pub mod Ints
pub mod Laws
pub mod Quotient
pub mod Steps
