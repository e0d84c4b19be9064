pub mod ArcSteps
pub mod EntryLists
pub mod HalfPairs
pub mod SolvedLaws
pub mod SearchLaws
pub mod HalfLaws
pub mod FanRanges
pub mod JoinLaws
