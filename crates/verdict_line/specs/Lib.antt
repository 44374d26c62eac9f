pub mod Decimal
pub mod Line
pub mod Laws
pub mod Examples
