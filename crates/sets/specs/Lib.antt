pub mod Sets
pub mod Lists
pub mod Listing
