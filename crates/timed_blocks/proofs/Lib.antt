pub mod Every
pub mod Rotations
pub mod Steps
