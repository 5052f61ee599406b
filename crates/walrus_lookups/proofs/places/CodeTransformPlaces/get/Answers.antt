use Rattle.std.proofs.Common.{◌≡◌, ◌∙◌, ◌≤◌, ℕ, List, true, false, length, sym, ap, subst}
use Rattle.std.specs.Prelude.{nat_lt, slice_get}
use Rattle.std.specs.List.Sorted.{IsPartitionPoint}
use Rattle.walrus_instr.specs.declared.seq.InstrLocId.{InstrLocId}
use Rattle.walrus_lookups.specs.Places.{Rises, place_at}
use Rattle.walrus_lookups.proofs.PlaceLemmas.{point_found}
use Rattle.walrus_lookups.proofs.places.CodeTransformPlaces.get.Goals as goal

pub returns-clause-place : goal.returns-clause-place
returns-clause-place c = λ rises.
    let map = c.args.self.now.instruction_map.items in
    let at = c.args.location in
    let count = c.count_before.result in
    let same : c.as_slice-map.result.now ≡ map = c.as_slice-map.ensures.value in
    c.place_at.ensures ∙ ap (λ (z : List (InstrLocId × ℕ)). place_at at (slice_get z count)) same
    ∙ point_found at map count rises (subst (λ (z : List (InstrLocId × ℕ)). count ≤ length z) same c.count_before.ensures.within)
    (subst (λ (z : List (InstrLocId × ℕ)). IsPartitionPoint (λ (e : InstrLocId × ℕ). nat_lt e.0.0 at.0 ≡ true) (λ (e : InstrLocId × ℕ). nat_lt e.0.0 at.0 ≡ false) z count) same (c.count_before.ensures.point (subst (λ z. Rises z) (sym same) rises)))
