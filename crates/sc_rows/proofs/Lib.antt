pub mod Divisors
pub mod PriceLaws
pub mod Pushed
pub mod RowLaws
pub mod StandingLaws
pub mod Terms
pub mod UpdateLaws
pub mod Written
