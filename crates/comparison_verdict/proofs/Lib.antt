mod Answers
pub mod Says
