pub mod Calls
pub mod Network
pub mod Shuffled
pub mod Crossed
pub mod MoreNumbers
pub mod OtherBooks
