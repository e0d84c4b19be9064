-- Definitions that no clause of a public function needs.
pub mod Classes
pub mod SideLists
