-- Definitions that no clause of a public function needs.
pub mod Forms
pub mod Sizes
