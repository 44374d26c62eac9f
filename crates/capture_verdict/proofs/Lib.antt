mod Judged
pub mod Answered
pub mod Stepped
pub mod Says
pub mod Computed
