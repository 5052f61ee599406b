use Rattle.std.proofs.Common.{length}
use Rattle.wasm_reader.specs.Cursor.{rest}
use Rattle.walrus_body_locals.proofs.Scanning.{Scanned}
use Rattle.walrus_body_locals.proofs.named.named_locals.Given as goal

abbrev pub invariant-loop-numbers : goal.invariant-loop-numbers
invariant-loop-numbers l = Scanned l.params l.count l.fn.body l.reader l.numbers.items

abbrev pub decreases-loop-numbers : goal.decreases-loop-numbers
decreases-loop-numbers l = length (rest l.reader)
