pub mod Decoding
pub mod Tokens
pub mod Turns
mod Found
pub mod Passing
mod Shapes
pub mod Forms
pub mod FullForms
pub mod Headers
mod Covers
pub mod Images
mod Fields
pub mod Seals
pub mod Replays
mod Changes
pub mod Relays
pub mod Lowest
pub mod Typing
pub mod Examples
