pub mod Layout
pub mod Rows
pub mod Lent
pub mod Shown
pub mod Judging
pub mod Plans
pub mod Laws
pub mod Examples
