-- Definitions that no clause of a public function needs.
pub mod PivotLines
pub mod PrintedPairs
