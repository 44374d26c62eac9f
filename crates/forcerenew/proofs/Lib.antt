pub mod Soundness
pub mod Leaves
pub mod Cases
pub mod Stored
pub mod Offsets
pub mod Computed
