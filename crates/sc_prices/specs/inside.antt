-- Definitions that no clause of a public function needs.
pub mod Answers
pub mod OneTable
pub mod Sizes
