-- Definitions that no clause of a public function needs.
pub mod Evidence
pub mod Leaving
pub mod Orders
pub mod States
pub mod Stops
