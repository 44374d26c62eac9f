pub mod Macs
pub mod Admits
pub mod Finding
pub mod Judging
pub mod Naming
pub mod Plans
pub mod Writers
