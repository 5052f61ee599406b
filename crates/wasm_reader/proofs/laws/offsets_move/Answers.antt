use Rattle.std.proofs.Common.{ℕ, ℤ}
use Rattle.wasm_reader.specs.Reading.{plain, seen_bytes, seen_window}
use Rattle.wasm_reader.specs.Floats.{seen_bits32, seen_bits64}
use Rattle.wasm_reader.proofs.Moved.{offsets_move_lem}
use Rattle.wasm_reader.proofs.laws.offsets_move.Goals as goal

pub returns-clause-unsigned : goal.returns-clause-unsigned
returns-clause-unsigned c = offsets_move_lem (plain {X = ℕ})

pub returns-clause-signed : goal.returns-clause-signed
returns-clause-signed c = offsets_move_lem (plain {X = ℤ})

pub returns-clause-nothing : goal.returns-clause-nothing
returns-clause-nothing c = offsets_move_lem (plain {X = Unit {0}})

pub returns-clause-f32 : goal.returns-clause-f32
returns-clause-f32 c = offsets_move_lem seen_bits32

pub returns-clause-f64 : goal.returns-clause-f64
returns-clause-f64 c = offsets_move_lem seen_bits64

pub returns-clause-bytes : goal.returns-clause-bytes
returns-clause-bytes c = offsets_move_lem seen_bytes

pub returns-clause-inner : goal.returns-clause-inner
returns-clause-inner c = offsets_move_lem seen_window
