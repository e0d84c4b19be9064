pub mod TwoTexts
pub mod Behind
pub mod inside
