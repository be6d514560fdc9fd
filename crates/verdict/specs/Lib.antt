pub mod Search
pub mod Promise
