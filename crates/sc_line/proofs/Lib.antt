pub mod LineLaws
pub mod FaultLaws
pub mod NumberLaws
pub mod FormatLaws
pub mod FormLaws
pub mod TextLaws
pub mod PartLaws
pub mod PrintLaws
