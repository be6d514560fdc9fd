pub mod Judged
pub mod Wanted
