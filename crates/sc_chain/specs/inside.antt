-- Definitions that no clause of a public function needs.
pub mod Lookup
