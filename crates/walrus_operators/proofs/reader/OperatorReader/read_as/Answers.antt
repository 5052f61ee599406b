use Rattle.std.proofs.Common.{subst, sym}
use Rattle.wasm_operators.specs.wasm_reader.Cursor.{Cursor}
use Rattle.walrus_operators.specs.Operators.{IsNext}
use Rattle.walrus_operators.proofs.reader.OperatorReader.read_as.Goals as goal

pub returns-clause-entry : goal.returns-clause-entry
returns-clause-entry c = λ e n. let F : Cursor → Type 0 = λ z. IsNext z e in c.in-Ok.ensures.entry e (subst F (sym c.self.view_is) n)
