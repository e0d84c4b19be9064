-- Definitions that no clause of a public function needs.
pub mod Extents
pub mod LaidOut
pub mod Pieces
