-- Groups are looked through and described block by block.
use Rattle.std.proofs.Common.{◌≡◌, ◌∙◌, ℕ, ◌+◌, ◌-◌, ◌<◌, ◌≤◌, ◌^◌, Bor, List, [], ◌∷◌, ◌++◌, length, map, take, drop, Option, Some, None, sym, ap, arith, append_assoc}
use Rattle.std.specs.Option.{option_or}
use Rattle.std.proofs.lemmas.Grind.{flat_map-append}
use Rattle.std.proofs.lemmas.List.{length-append, map-append, take-append-drop, drop-drop}
use Rattle.walrus_type_index.specs.walrus_items.walrus_forms.Records.{TypeGroup}
use Rattle.walrus_type_index.specs.walrus_items.Items.{Group}
use Rattle.walrus_type_index.specs.walrus_items.declared.subtype.RecGroup.{RecGroup}
use Rattle.walrus_type_arenas.specs.declared.error.IrError.{IrError}
use Rattle.walrus_type_arenas.specs.Table.{Table}
use Rattle.walrus_type_arenas.specs.Emission.{written_in, written_types, first_fault, fault_at, group_names, groups_fault, described_group}
use Rattle.walrus_type_arenas.proofs.EmitLemmas.{or-assoc, shown-groups}

pub block-split : (gs : List (Bor RecGroup)) (start stop : ℕ) → start ≤ stop → shown-groups (drop start gs) ≡ shown-groups (take (stop - start) (drop start gs)) ++ shown-groups (drop stop gs)
block-split gs start stop upto =
    let e : start + (stop - start) ≡ stop = omega (arith, upto) in
    ap shown-groups (sym (take-append-drop (stop - start) (drop start gs)) ∙ ap (λ (xs : List (Bor RecGroup)). take (stop - start) (drop start gs) ++ xs) (drop-drop (stop - start) start gs ∙ ap (λ n. drop n gs) e))
    ∙ map-append _ (take (stop - start) (drop start gs)) (drop stop gs)

module _ (t : Table) (index : ℕ → ℕ) where
  written-append : (xs ys : List Group) → length (written_types t (xs ++ ys)) ≡ length (written_types t xs) + length (written_types t ys)
  written-append xs ys = ap (λ (ids : List ℕ). length ids) (flat_map-append (written_in t) xs ys) ∙ length-append (written_types t xs) (written_types t ys)

  fault-append : (start : ℕ) (xs ys : List Group) → groups_fault t index start (xs ++ ys) ≡ option_or (groups_fault t index start xs) (groups_fault t index (start + length (written_types t xs)) ys)
  fault-append start [] ys = let e : start ≡ start + 0 = omega arith in ap (λ n. groups_fault t index n ys) e
  fault-append start (x ∷ xs) ys =
      let end = start + length (written_in t x) in
      let first = first_fault (fault_at t index end) (group_names t x) in
      let len : length (written_types t (x ∷ xs)) ≡ length (written_in t x) + length (written_types t xs) = length-append (written_in t x) (written_types t xs) in
      let e : end + length (written_types t xs) ≡ start + length (written_types t (x ∷ xs)) = omega arith in
      ap (λ (o : Option IrError). option_or first o) (fault-append end xs ys ∙ ap (λ n. option_or (groups_fault t index end xs) (groups_fault t index n ys)) e) ∙ sym (or-assoc first (groups_fault t index end xs) _)

  -- what is left after the blocks that are done
  pub record AreDone (groups left : List Group) (end : ℕ) (records : List TypeGroup) : Type 0 where
    pub counted : end + length (written_types t left) ≡ length (written_types t groups)
    pub fault : groups_fault t index end left ≡ groups_fault t index 0 groups
    pub made : records ++ map (described_group t index) left ≡ map (described_group t index) groups

  module _ (groups left block rest : List Group) (end : ℕ) (records : List TypeGroup) (done : AreDone groups left end records) (split : left ≡ block ++ rest) where
    pub block-fits : length (written_types t groups) < 2 ^ 64 → end + length (written_types t block) < 2 ^ 64
    block-fits fits =
        let len : length (written_types t left) ≡ length (written_types t block) + length (written_types t rest) = ap (λ (gs : List Group). length (written_types t gs)) split ∙ written-append block rest in
        omega (arith, fits, done.counted)

    found : groups_fault t index 0 groups ≡ option_or (groups_fault t index end block) (groups_fault t index (end + length (written_types t block)) rest)
    found = sym done.fault ∙ ap (λ (gs : List Group). groups_fault t index end gs) split ∙ fault-append end block rest

    pub block-fault : (fault : IrError) → groups_fault t index end block ≡ Some fault → groups_fault t index 0 groups ≡ Some fault
    block-fault fault is = found ∙ ap (λ (o : Option IrError). option_or o (groups_fault t index (end + length (written_types t block)) rest)) is

    pub block-done : (next : ℕ) (more : List TypeGroup) → groups_fault t index end block ≡ None → next ≡ end + length (written_types t block) → more ≡ records ++ map (described_group t index) block → AreDone groups rest next more
    block-done next more sound is-next is-more =
        let len : length (written_types t left) ≡ length (written_types t block) + length (written_types t rest) = ap (λ (gs : List Group). length (written_types t gs)) split ∙ written-append block rest in
        record {
          counted = omega (arith, done.counted, is-next);
          fault = ap (λ n. groups_fault t index n rest) is-next ∙ sym (found ∙ ap (λ (o : Option IrError). option_or o (groups_fault t index (end + length (written_types t block)) rest)) sound);
          made = ap (λ (rs : List TypeGroup). rs ++ map (described_group t index) rest) is-more ∙ append_assoc records _ _
              ∙ ap (λ (rs : List TypeGroup). records ++ rs) (sym (ap (map (described_group t index)) split ∙ map-append (described_group t index) block rest)) ∙ done.made;
        }
