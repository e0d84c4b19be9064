pub mod MarkWalks
pub mod MarkedOrbits
pub mod NextMarks
pub mod LabelCounts
pub mod FlawLaws
pub mod TextRanges
