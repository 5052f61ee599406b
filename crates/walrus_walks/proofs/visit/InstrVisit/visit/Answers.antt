use Rattle.std.proofs.Common.{List, [], ◌∷◌, ◌++◌, ℕ, subst, sym, ap, ◌∙◌}
use Rattle.std.specs.List.{FoldsTo}
use Rattle.walrus_walks.specs.Events.{names, events_of, NamesSeq, Event}
use Rattle.walrus_walks.proofs.Folds.{folds_snoc}
use Rattle.walrus_walks.proofs.visit.InstrVisit.visit.Goals as goal

pub returns-in-BrTable : goal.returns-in-BrTable
returns-in-BrTable g c =
    let step = g.V.Visitor.step in
    let labels : List ℕ → List Event = events_of (λ id. NamesSeq id ∷ []) in
    let all = folds_snoc step c.args.visitor.now (labels c.as_slice-in-BrTable.result.now) c.visit_all-in-BrTable.new.visitor (NamesSeq c.in-BrTable.default) c.visit_instr_seq_id.new.self c.visit_all-in-BrTable.ensures c.visit_instr_seq_id.ensures in
    let F : List Event → Type 0 = λ es. FoldsTo step c.args.visitor.now es c.visit_instr_seq_id.new.self in
    let named = ap names c.in-BrTable.is in
    let listed = ap (λ (ids : List ℕ). labels ids ++ NamesSeq c.in-BrTable.default ∷ []) c.as_slice-in-BrTable.ensures.value in
    subst F (listed ∙ sym named) all
