pub mod Run
pub mod Heads
