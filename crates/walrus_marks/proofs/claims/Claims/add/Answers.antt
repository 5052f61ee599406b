use Rattle.std.proofs.Common.{ℕ, List, length, ap, subst, arith}
use Rattle.std.proofs.lemmas.List.{length-map}
use Rattle.std.specs.HashSet.{keys}
use Rattle.std.specs.Vec.{with_item}
use Rattle.walrus_marks.specs.Claims.{IsAdded, ids_of}
use Rattle.walrus_marks.proofs.ClaimLemmas.{set_added}
use Rattle.walrus_marks.proofs.claims.Claims.add.Goals as goal

pub returns : goal.returns
returns c =
    subst (λ (old : List (List ℕ)). IsAdded old c.args.item (ids_of (with_item c.self.inside.sets c.space_number.result c.insert.new.self).items)) c.self.view_is
    (set_added c.self.inside.sets.items c.args.item c.space_number.result c.index_mut.result.now c.insert.new.self c.space_number.ensures.number
    (let size = length-map c.self.inside.sets.items keys in omega (arith, c.requires, ap length c.self.view_is, size, c.space_number.ensures.below)) c.index_mut.ensures.value c.in_ok-insert.ensures.updates.0)
