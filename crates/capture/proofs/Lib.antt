pub mod Computed
pub mod Headers
pub mod Records
pub mod Frames
mod Parts
pub mod Payloads
