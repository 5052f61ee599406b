use Rattle.std.proofs.Common.{◌≡◌, drop}
use Rattle.walrus_body_writer.specs.Spelled.{clauses}
use Rattle.walrus_body_writer.specs.Numbers.{look_of, put_before}
use Rattle.walrus_body_text.specs.Doing.{label_by}
use Rattle.walrus_body_writer.proofs.operators.clauses_of.Given as goal

abbrev pub invariant-loop-part : goal.invariant-loop-part
invariant-loop-part l =
    put_before l.clauses.items (clauses (look_of l.numbers) (label_by l.depths.depths.items l.depths.height) (drop l.part-index l.parts))
    ≡ clauses (look_of l.numbers) (label_by l.depths.depths.items l.depths.height) l.parts
