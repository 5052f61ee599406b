pub mod Frames
pub mod Rules
pub mod Bodies
pub mod Laws
pub mod Read
pub mod Closed
pub mod Codes
pub mod ReadCodes
pub mod Numbers
-- Passed on to crates above, which then list this one alone.
pub use Rattle.wasm_grammar.specs.wasm_formats as wasm_formats
pub use Rattle.wasm_grammar.specs as wasm_grammar
pub use Rattle.wasm_operators.specs as wasm_operators
