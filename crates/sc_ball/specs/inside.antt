-- Definitions that no clause of a public function needs.
pub mod Arcs
pub mod Halves
pub mod Neighbours
pub mod Searched
pub mod Solved
