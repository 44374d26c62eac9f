pub mod Digits
pub mod Places
pub mod Lines
pub mod Says
pub mod Computed
