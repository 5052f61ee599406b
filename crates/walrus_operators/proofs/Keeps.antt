-- What stands at the front stays there.
pub use Rattle.wasm_operators.proofs.Keeps.{keeps_all, keeps_on, keeps_front}
