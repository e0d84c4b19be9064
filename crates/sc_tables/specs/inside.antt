-- Definitions that no clause of a public function needs.
pub mod CheapPolygons
pub mod Searches
pub mod Splits
pub mod States
pub mod StepFaults
pub mod StepPrices
pub mod Trails
