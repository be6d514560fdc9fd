pub mod Members
pub mod Steps
