use Rattle.std.proofs.Common.{◌≤◌, length}
use Rattle.wasm_reader.specs.Cursor.{rest}
use Rattle.walrus_lookups.proofs.CodeLemmas.{Same}
use Rattle.walrus_lookups.proofs.code.left_at_code.Given as goal

abbrev pub invariant-loop-id : goal.invariant-loop-id
invariant-loop-id l = record {
  same : Same l.sections (rest l.reader);
  within : length (rest l.reader) ≤ length l.sections;
}

abbrev pub decreases-loop-id : goal.decreases-loop-id
decreases-loop-id l = length (rest l.reader)
