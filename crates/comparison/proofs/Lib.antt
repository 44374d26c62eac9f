mod Reading
mod Walking
mod Bodies
mod Layouts
mod Strips
mod OptionLines
mod Putting
mod FieldLines
pub mod Entries
pub mod Fitting
mod Members
mod Occurring
pub mod Naming
pub mod Equal
mod Stripping
mod RelayMarks
pub mod RelayOnly
pub mod Computed
