pub mod Spelling
pub mod ChainText
pub mod Cuts
pub mod inside
