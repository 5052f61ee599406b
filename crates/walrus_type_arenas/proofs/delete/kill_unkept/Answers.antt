use Rattle.std.proofs.Common.{◌≡◌, ◌∙◌, Bool, List, Option, subst, sym}
use Rattle.std.specs.Bool.{OnFalse}
use Rattle.walrus_type_index.specs.walrus_items.declared.subtype.Type.{«Type» as TypeItem}
use Rattle.walrus_type_arenas.specs.Table.{is_spared, table_of}
use Rattle.walrus_type_arenas.proofs.MarkLemmas.{killed-step, killed-not}
use Rattle.walrus_type_arenas.proofs.delete.kill_unkept.Goals as goal
use Rattle.walrus_type_arenas.proofs.delete.kill_unkept.Goals.{then-is_marked+then-kill, then-is_marked+else-kill, else-is_marked}

pub loop-index-preserved : goal.loop-index-preserved
loop-index-preserved c = elim c.if-is_marked.branch [
  | then-is_marked+then-kill w ↦ rw (w.types-is, w.marks-is, w.killed-is, w.if-kill.true) (record {
    killed = killed-step c.args.groups.now.slots c.args.homes.now c.loop-index.index c.from_index-id.result c.args.marks.now c.loop-index.marks w.kill.new.marks
        c.args.types.now.slots c.loop-index.types.slots w.kill.new.types.slots c.from_index-id.ensures (sym c.is_marked.ensures ∙ w.if-is_marked.true) w.kill.ensures.types w.kill.ensures.marks c.loop-index.invariant.killed;
    same = tt;
  })
  | then-is_marked+else-kill w ↦ rw (w.types-is, w.marks-is, w.killed-is) (record {
    killed = killed-step c.args.groups.now.slots c.args.homes.now c.loop-index.index c.from_index-id.result c.args.marks.now c.loop-index.marks w.kill.new.marks
        c.args.types.now.slots c.loop-index.types.slots w.kill.new.types.slots c.from_index-id.ensures (sym c.is_marked.ensures ∙ w.if-is_marked.true) w.kill.ensures.types w.kill.ensures.marks c.loop-index.invariant.killed;
    same = subst (λ (slots : List (Option TypeItem)). OnFalse c.loop-index.killed (slots ≡ c.args.types.now.slots)) (sym (subst (λ (b : Bool). OnFalse b (w.kill.new.types.slots ≡ c.loop-index.types.slots)) w.if-kill.false w.kill.ensures.same)) c.loop-index.invariant.same;
  })
  | else-is_marked w ↦ rw (w.types-is, w.marks-is, w.killed-is) (record {
    killed = killed-not (is_spared (table_of c.args.types.now.slots c.args.groups.now.slots) c.args.homes.now) c.loop-index.index c.from_index-id.result c.args.marks.now c.loop-index.marks
        c.args.types.now.slots c.loop-index.types.slots c.from_index-id.ensures (sym c.is_marked.ensures ∙ w.if-is_marked.false) c.loop-index.invariant.killed;
    same = c.loop-index.invariant.same;
  })
]
