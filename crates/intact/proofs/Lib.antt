pub mod Allowance
pub mod Rounds
pub mod Meaning
pub mod Demand
