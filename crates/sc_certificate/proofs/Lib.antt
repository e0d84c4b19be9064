pub mod SmallLists
pub mod PivotLaws
pub mod CertificateLaws
pub mod TextLaws
pub mod LineLaws
pub mod SpelledLaws
pub mod PrintedLines
pub mod Pieces
mod PrintedPairs
pub mod BoundSums
