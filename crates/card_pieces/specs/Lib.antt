pub mod Runs
pub mod Pieces
pub mod Numbers
pub mod Laws
pub mod Examples
