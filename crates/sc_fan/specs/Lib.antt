pub mod Corners
pub mod Blocks
pub mod Fans
pub mod FanRead
pub mod Printing
pub mod Reading
pub mod FanReader
pub mod inside
