pub mod Reduced
pub mod TextLaws
pub mod Cuts
pub mod SpellingLaws
pub mod CoefficientLaws
pub mod DecisionLaws
pub mod ReadingLaws
