-- Definitions that no clause of a public function needs.
pub mod Fresh
pub mod Lines
pub mod NewPrices
pub mod Updates
