use Rattle.std.proofs.Common.{Global, List, Vec, [], ◌∷◌, ℕ, Some, ap, subst, sym}
use Rattle.wasm_reader.specs.Cursor.{rest}
use Rattle.walrus_operators.specs.Operators.{seen}
use Rattle.walrus_body_locals.specs.Named.{Notes, locals_of}
use Rattle.walrus_body_locals.proofs.Scanning.{notes_named, notes_unnamed}
use Rattle.walrus_body_locals.proofs.Taken.{operator_takes}
use Rattle.walrus_body_locals.proofs.named.step.Goals.{in-Some+in_ok-note-in-Ok, in_default}
use Rattle.walrus_body_locals.proofs.named.step.Goals as goal

pub returns-after-local_of-clause-steps : goal.returns-after-local_of-clause-steps
returns-after-local_of-clause-steps c =
    let op = seen c.in-Ok.op in
    let noted : Notes c.args.params c.args.count (locals_of op) c.args.numbers.now.items c.match-local_of.numbers.items =
    elim c.match-local_of.branch [
      | in-Some+in_ok-note-in-Ok w ↦
          notes_named c.args.params c.args.count w.in-Some.number (locals_of op) c.local_of.result c.args.numbers.now.items c.match-local_of.numbers.items c.local_of.ensures w.in-Some.is
          (subst (λ (v : Vec ℕ Global). Notes c.args.params c.args.count (w.in-Some.number ∷ []) c.args.numbers.now.items v.items) (sym w.numbers-is) w.in_ok-note-in-Ok.ensures)
      | in_default w ↦
          notes_unnamed c.args.params c.args.count (locals_of op) c.local_of.result c.args.numbers.now.items c.match-local_of.numbers.items c.local_of.ensures w.in_default.is
          (ap (λ (v : Vec ℕ Global). v.items) w.numbers-is)
    ] in (
      op,
      c.in-Ok.ensures.value,
      noted,
      c.in-Ok.ensures.moves,
      operator_takes c.args.reader.now.window.features (rest c.args.reader.now) (rest c.next.new.reader) (Some op) c.in-Ok.ensures.value,
    )
