pub mod Nodes
pub mod Written
pub mod Walk
pub mod One
pub mod Back
pub mod Forth
pub mod Reading
pub mod Round
