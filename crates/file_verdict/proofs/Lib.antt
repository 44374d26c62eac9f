pub mod Reading
pub mod Contents
pub mod Stages
pub mod Cards
pub mod Says
pub mod Computed
