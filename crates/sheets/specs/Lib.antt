pub mod Sheets
pub mod Promises
