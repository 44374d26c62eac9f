mod Below
mod Keys
mod Steps
pub mod Halves
pub mod Looks
pub mod Says
pub mod Computed
