mod Rows
pub mod Largest
pub mod ByRow
pub mod Trips
pub mod Moved
pub mod Depends
pub mod Computed
