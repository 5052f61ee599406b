pub mod Outcomes
pub mod Programs
pub mod Frames
pub mod Machine
pub mod Traces
pub mod Modules
pub mod Renamed
pub mod Laws
