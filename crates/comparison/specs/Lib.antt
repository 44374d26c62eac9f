pub mod Fields
pub mod Difference
pub mod Entry
pub mod Walk
pub mod Laws
pub mod Examples
