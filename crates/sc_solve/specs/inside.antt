-- Definitions that no clause of a public function needs.
pub mod Assembling
pub mod Endings
pub mod Lifts
pub mod ListSteps
pub mod PriceLevels
pub mod Searches
pub mod StepCounts
