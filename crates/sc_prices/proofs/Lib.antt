pub mod StepPrices
pub mod Sizes
pub mod TableFlaws
pub mod Failing
