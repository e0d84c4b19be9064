pub mod Problems
pub mod ProblemLaws
pub mod inside
