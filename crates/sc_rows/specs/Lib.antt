pub mod Lines
pub mod Standing
pub mod Places
pub mod Updates
pub mod Evidence
pub mod inside
