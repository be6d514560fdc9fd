pub mod Root
pub mod Looks
pub mod Allowance
pub mod Split
pub mod Meaning
pub mod Demand
