pub mod Slashes
pub mod Cuts
pub mod Numbering
pub mod Places
