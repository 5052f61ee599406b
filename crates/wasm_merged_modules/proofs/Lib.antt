mod Orders
mod Steps
mod SentKinds
mod Groups
pub mod Merged
mod Behind
mod Missing
-- Passed on to crates above, which then list this one alone.
pub use Rattle.wasm_normal_modules.proofs.wasm_ruled_renamed.wasm_ruled_normal as wasm_ruled_normal
pub use Rattle.wasm_normal_modules.proofs.wasm_ruled_renamed as wasm_ruled_renamed
pub use Rattle.wasm_normal_modules.proofs as wasm_normal_modules
