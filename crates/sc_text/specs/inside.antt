-- Definitions that no clause of a public function needs.
pub mod Printing
pub mod SurfaceRead
pub mod TableLines
