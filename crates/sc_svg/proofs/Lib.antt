pub mod Orbits
pub mod LayingOut
pub mod Drawn
pub mod Greatest
pub mod Fans
