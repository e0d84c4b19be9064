pub mod Lines
pub mod Faults
pub mod LineFaults
pub mod Formats
pub mod Forms
pub mod Printing
