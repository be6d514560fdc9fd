pub mod Written
pub mod SameSets
pub mod Naming
pub mod Planning
