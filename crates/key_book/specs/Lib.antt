pub mod Limits
pub mod Book
pub mod Lent
pub mod Halving
pub mod Laws
pub mod Known
pub mod Examples
