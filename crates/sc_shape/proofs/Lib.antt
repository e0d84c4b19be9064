pub mod Spreading
pub mod OrbitLeasts
pub mod Tallying
pub mod ListsBelow
pub mod Placing
pub mod Assembling
pub mod WordSizes
