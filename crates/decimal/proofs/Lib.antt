pub mod Order
pub mod Numeral
pub mod Round
pub mod Place
