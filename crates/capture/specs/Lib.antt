pub mod Layout
pub mod Records
pub mod Frame
pub mod Laws
pub mod Examples
