pub mod Refused
pub mod Said
