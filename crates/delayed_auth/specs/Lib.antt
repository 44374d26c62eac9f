pub mod Admit
pub mod Check
pub mod Key
pub mod Seal
