pub mod DivisorLaws
pub mod ExactDivision
pub mod SpellingLaws
