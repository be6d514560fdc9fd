pub mod Texts
pub mod Fields
pub mod Round
pub mod Examples
