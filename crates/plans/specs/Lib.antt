pub mod Plans
pub mod Alike
pub mod Named
