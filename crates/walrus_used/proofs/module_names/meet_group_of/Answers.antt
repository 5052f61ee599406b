use Rattle.std.proofs.Common.{◌∙◌, List, ℕ, refl, sym, ap}
use Rattle.std.specs.List.{fold}
use Rattle.walrus_items.specs.Items.{group_of}
use Rattle.walrus_marks.specs.Marks.{meet}
use Rattle.walrus_used.specs.Looks.{group_items}
use Rattle.walrus_used.proofs.GroupLemmas.{group_meets, alone_meets, dead_meets}
use Rattle.walrus_used.proofs.module_names.meet_group_of.Goals as goal

pub returns-then-is_explicit : goal.returns-then-is_explicit
returns-then-is_explicit c =
    group_meets c.args.types.now c.types_are_grouped.ensures c.args.id (group_of c.in-Some.group.now) c.args.marks.now c.meet_group.new.marks c.in-Some.ensures (sym c.is_explicit.ensures ∙ c.if-is_explicit.true)
    (c.meet_group.ensures ∙ ap (λ (ms : List ℕ). fold meet c.args.marks.now (group_items c.args.id ms)) c.as_slice.ensures.value)

pub returns-else-is_explicit : goal.returns-else-is_explicit
returns-else-is_explicit c =
    alone_meets c.args.types.now c.types_are_grouped.ensures c.args.id (group_of c.in-Some.group.now) c.args.marks.now c.args.marks.now c.in-Some.ensures (sym c.is_explicit.ensures ∙ c.if-is_explicit.false) refl

pub returns-in_default : goal.returns-in_default
returns-in_default c = dead_meets c.args.types.now c.types_are_grouped.ensures c.args.id c.args.marks.now c.args.marks.now c.in_default.ensures refl
