use Rattle.std.proofs.Common.{◌≡◌, ◌∙◌, ◌-◌, ℕ, List, suc, ap, sym, subst, arith}
use Rattle.walrus_type_index.specs.Places.{Hashed, kinds_in}
use Rattle.walrus_type_index.specs.Ordered.{Indexed}
use Rattle.walrus_type_index.specs.Directory.{joined}
use Rattle.walrus_type_index.proofs.TreeLemmas.{Sorted}
use Rattle.walrus_type_index.proofs.DirectoryLemmas.{widened}
use Rattle.walrus_type_index.proofs.index.Index.double_below.Goals as goal

pub invariant_of-self-2 : goal.invariant_of-self-2
invariant_of-self-2 c =
    let i = c.self.inside in
    let ks = kinds_in c.args.types.now.slots in
    let more : i.shift ≡ suc (i.shift - 1) = omega (arith, c.if-self-le32.false) in (
      omega (arith, c.self.invariant.0),
      (widened ks i.shift (i.shift - 1) i.forest.trees i.forest.last c.halve.new.self.trees c.halve.new.self.last more c.in_ok-halve.ensures.trees c.in_ok-halve.ensures.last
          (subst (λ (v : Indexed). Sorted ks v.ids) (sym c.self.view_is) c.requires.sorted) c.self.invariant.1).0,
    )

pub returns : goal.returns
returns c =
    let i = c.self.inside in
    let ks = kinds_in c.args.types.now.slots in
    let more : i.shift ≡ suc (i.shift - 1) = omega (arith, c.if-self-le32.false) in
    let same = (widened ks i.shift (i.shift - 1) i.forest.trees i.forest.last c.halve.new.self.trees c.halve.new.self.last more c.in_ok-halve.ensures.trees c.in_ok-halve.ensures.last
    (subst (λ (v : Indexed). Sorted ks v.ids) (sym c.self.view_is) c.requires.sorted) c.self.invariant.1).1 in
    ap {A = List Hashed} {B = Indexed} (λ xs. record { ids = xs; room = c.halve.new.self.room }) same
    ∙ ap {A = ℕ} {B = Indexed} (λ n. record { ids = joined i.forest.trees i.forest.last; room = n }) c.in_ok-halve.ensures.room
    ∙ c.self.view_is
