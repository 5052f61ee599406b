use Rattle.std.proofs.Common.{◌≡◌, ◌+◌, ◌++◌, ℕ, Some, Vec, sym, subst, arith}
use Rattle.std.specs.Global.{Global}
use Rattle.walrus_arena.specs.Arena.{item_at, IsLive}
use Rattle.walrus_roots.specs.declared.item.Item.{Item}
use Rattle.walrus_marks.specs.Marks.{lists_of}
use Rattle.walrus_references.specs.walrus_module.Parts.{parts}
use Rattle.walrus_used.specs.Looks.{listed_segment}
use Rattle.walrus_used.specs.Picks.{rooted_element}
use Rattle.walrus_used.proofs.ModuleLemmas.{not_live}
use Rattle.walrus_used.proofs.SegmentLemmas.{ListedBelow, RootedBelow, more_listed, dead_listed, all_listed, more_rooted, dead_rooted, all_rooted}
use Rattle.walrus_used.proofs.segments.element_segments.Goals as goal
use Rattle.walrus_used.proofs.segments.element_segments.Goals.{then-contains+in_ok-list_segment+in_ok-list_rooted, else-contains}

pub loop-index-preserved : goal.loop-index-preserved
loop-index-preserved g c =
    let m = parts c.args.input.now in
    let n = c.loop-index.index in
    elim c.if-contains.branch [
      | then-contains+in_ok-list_segment+in_ok-list_rooted w ↦
          let at = subst (λ (k : ℕ). item_at m.elements k ≡ Some w.get.result.now) c.from_index-id.ensures w.get.ensures in (
            subst (λ (z : Vec (Vec Item Global) Global). ListedBelow m (n + 1) (lists_of z.items)) (sym w.active-is)
                (more_listed m n (lists_of c.loop-index.active.items) (lists_of w.list_segment.new.lists.items) w.get.result.now at
                (subst (λ (k : ℕ). lists_of w.list_segment.new.lists.items ≡ listed_segment (lists_of c.loop-index.active.items) k w.get.result.now.kind) c.from_index-id.ensures w.in_ok-list_segment.ensures)
                c.loop-index.invariant.0),
            subst (λ (z : Vec Item Global). RootedBelow m (n + 1) z.items) (sym w.rooted-is)
                (more_rooted m n c.loop-index.rooted.items w.list_rooted.new.rooted.items w.get.result.now w.config.result.now.keep_segments (λ i. (w.config.ensures i).keep_segments) at
                (subst (λ (k : ℕ). w.list_rooted.new.rooted.items ≡ c.loop-index.rooted.items ++ rooted_element w.config.result.now.keep_segments m.tables k w.get.result.now.kind) c.from_index-id.ensures w.in_ok-list_rooted.ensures)
                c.loop-index.invariant.1),
          )
      | else-contains w ↦
          let dead : IsLive m.elements n → ⊥ = (λ live. not_live c.contains.result c.contains.ensures w.if-contains.false (subst (λ (k : ℕ). IsLive m.elements k) (sym c.from_index-id.ensures) live)) in (
            subst (λ (z : Vec (Vec Item Global) Global). ListedBelow m (n + 1) (lists_of z.items)) (sym w.active-is) (dead_listed m n (lists_of c.loop-index.active.items) dead c.loop-index.invariant.0),
            subst (λ (z : Vec Item Global). RootedBelow m (n + 1) z.items) (sym w.rooted-is) (dead_rooted m n c.loop-index.rooted.items dead c.loop-index.invariant.1),
          )
    ]

pub returns-clause-active : goal.returns-clause-active
returns-clause-active g c = all_listed (parts c.args.input.now) c.loop-index.index (lists_of c.loop-index.active.items) (omega (arith, c.loop-index-test.false, c.loop-index.auto.index-end, c.index-index-end.ensures, c.next_id-2.ensures)) c.loop-index.invariant.0

pub returns-clause-rooted : goal.returns-clause-rooted
returns-clause-rooted g c = all_rooted (parts c.args.input.now) c.loop-index.index c.loop-index.rooted.items (omega (arith, c.loop-index-test.false, c.loop-index.auto.index-end, c.index-index-end.ensures, c.next_id-2.ensures)) c.loop-index.invariant.1
