pub mod Laws
pub mod Below
