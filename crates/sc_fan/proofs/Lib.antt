pub mod CornerLaws
pub mod BlockLaws
pub mod FanLaws
pub mod TextLaws
pub mod Pieces
pub mod Ranges
pub mod ReadingLaws
pub mod ReaderLaws
