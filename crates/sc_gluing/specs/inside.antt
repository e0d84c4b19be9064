-- Definitions that no clause of a public function needs.
pub mod Letters
pub mod Matching
pub mod Sides
