-- Definitions that no clause of a public function needs.
pub mod Behind
pub mod Parts
