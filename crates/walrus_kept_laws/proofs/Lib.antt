mod Left
mod Stay
pub mod Reach
mod Refs
mod Low
mod Walk
mod Text
mod Parts
mod Found
pub mod Types
mod Handled
mod Turns
mod Fit
mod Functions
mod Locals
mod Bare
mod Context
mod Sees
mod Bodies
mod Given
mod Looks
mod Kept
mod Planned
