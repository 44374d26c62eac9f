pub mod Whole
pub mod Absorb
pub mod Answers
pub mod Promises
pub mod Limits
pub mod Vectors
