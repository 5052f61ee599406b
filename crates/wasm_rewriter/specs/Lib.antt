pub mod Faults
pub mod Texts
pub mod Rewrites
pub mod Made
pub mod Run
pub use Rattle.rewriter_devices.specs.Input
pub use Rattle.rewriter_devices.specs.Lines
pub use Rattle.rewriter_devices.specs.Devices
