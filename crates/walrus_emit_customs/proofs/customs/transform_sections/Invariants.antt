use Rattle.std.specs.Prelude.{◌≡◌, fold, take}
use Rattle.walrus_emit_customs.specs.Told.{change_at}
use Rattle.walrus_emit_customs.proofs.customs.transform_sections.Given as goal

abbrev pub invariant-loop-id : goal.invariant-loop-id
invariant-loop-id g l = l.sections ≡ fold (change_at (λ b. g.B.CustomSection.transformed b l.transform)) l.fn.sections (take l.id-index l.id-items)
