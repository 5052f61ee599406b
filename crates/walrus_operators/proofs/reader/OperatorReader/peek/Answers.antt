use Rattle.std.proofs.Common.{◌∙◌, ◌≡◌, ap, ℕ}
use Rattle.std.specs.Prelude.{slice_get, Option, Some, None}
use Rattle.wasm_operators.specs.wasm_reader.Cursor.{Cursor, rest}
use Rattle.walrus_operators.proofs.Known.{none_left, peeked}
use Rattle.walrus_operators.proofs.reader.OperatorReader.peek.Goals as goal

pub returns-in-Ok : goal.returns-in-Ok
returns-in-Ok c = peeked (rest c.self.inside.reader) c.in-Ok.byte c.in-Ok.ensures.value ∙ ap (λ (z : Cursor). slice_get (rest z) 0) c.self.view_is

pub returns-in-Err : goal.returns-in-Err
returns-in-Err c = none_left (rest c.self.inside.reader) _ c.in-Err.ensures.value ∙ ap (λ (z : Cursor). slice_get (rest z) 0) c.self.view_is
