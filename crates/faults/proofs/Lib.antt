pub mod Laws
pub mod Known
pub mod Opening
pub mod Exact
pub mod Numbers
