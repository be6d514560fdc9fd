pub mod Words
pub mod Bools
pub mod Members
pub mod Size
pub mod Lowest
pub mod Listing
pub mod Order
