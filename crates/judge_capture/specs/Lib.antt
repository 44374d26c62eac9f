pub mod Window
pub mod Judging
