pub mod Scanning
pub mod Numerals
mod Rows
pub mod Says
pub mod Computed
