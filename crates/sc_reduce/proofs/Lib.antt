pub mod Stack
pub mod Ends
pub mod LineLaws
pub mod Spelled
pub mod TextLetters
