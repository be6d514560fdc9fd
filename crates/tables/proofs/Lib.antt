pub mod Lists
pub mod Heads
pub mod Runs
pub mod Sound
pub mod Bounds
pub mod Unknown
