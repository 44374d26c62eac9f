pub mod Argument
pub mod Asked
pub mod Laws
pub mod Examples
