-- Neighbouring single types change places.
use Rattle.std.proofs.Common.{◌≡◌, ◌∙◌, ℕ, ◌+◌, ◌<◌, inl, inr, false, All, List, [], ◌∷◌, ◌++◌, length, map, Option, slice_index_or, refl, sym, ap, subst, arith, length-append}
use Rattle.std.proofs.lemmas.List.{get_or_append_left, length-map}
use Rattle.std.proofs.lemmas.List.Elements.{All-map}
use Rattle.walrus_forms.specs.Kinds.{Kind}
use Rattle.walrus_forms.specs.declared.record.TypeRecord.{TypeRecord}
use Rattle.walrus_forms.specs.Records.{TypeGroup, record_kind, type_group}
use Rattle.walrus_forms.specs.Renaming.{at}
use Rattle.walrus_types.specs.Table.{next_id}
use Rattle.walrus_types.specs.Parsing.{Parsed, parsed_group, parsed, unparsed, AreBelow}
use Rattle.walrus_types.specs.Mergers.{Entry, is_single, entries_of}
use Rattle.walrus_types.specs.Emission.{IsEmission, index_at}
use Rattle.walrus_types.proofs.ParseLemmas.{group-sized, parsed-append}
use Rattle.walrus_type_laws.specs.Alike.{Alike}
use Rattle.walrus_type_laws.specs.Rounds.{empty_table, read, renamed_types}
use Rattle.walrus_type_laws.proofs.AlikeLemmas.{alike-law}
use Rattle.walrus_type_laws.specs.Swap.{single, RecordsHaveNoEntries, type_count, swapped, SwapChangesNothing}
use Rattle.walrus_type_laws.proofs.Filled.{Filled, section-filled, nothing-filled}
use Rattle.walrus_type_laws.proofs.Follows.{Follows, section-follows}
use Rattle.walrus_type_laws.proofs.Kept.{pair-keeps}
use Rattle.walrus_type_laws.proofs.Starts.{Starts, starts}
use Rattle.walrus_type_laws.proofs.Turned.{all-written, filled-homed, alike-still, alike-turned}

parsed-count : (gs : List TypeGroup) (s : Parsed) → length (parsed gs s).ids ≡ length s.ids + type_count gs
parsed-count [] s = omega arith
parsed-count (g ∷ gs) s =
    let make : Kind → Entry = λ kind. record { single = is_single g; kind = kind } in
    omega (arith, parsed-count gs (parsed_group g s), group-sized g s, length-append (map make g.kinds) (entries_of gs), length-map g.kinds make)

below-left : (xs ys : List TypeGroup) (n : ℕ) → AreBelow n (xs ++ ys) → AreBelow n xs
below-left [] ys n below = tt
below-left (x ∷ xs) ys n below = (below.0, below-left xs ys (n + length x.kinds) below.1)

below-right : (xs ys : List TypeGroup) (n : ℕ) → AreBelow n (xs ++ ys) → AreBelow (n + type_count xs) ys
below-right [] ys n below = let e : n ≡ n + 0 = omega arith in subst (λ (k : ℕ). AreBelow k ys) e below
below-right (x ∷ xs) ys n below =
    let make : Kind → Entry = λ kind. record { single = is_single x; kind = kind } in
    let e : n + length x.kinds + type_count xs ≡ n + type_count (x ∷ xs) = omega (arith, length-append (map make x.kinds) (entries_of xs), length-map x.kinds make) in
    subst (λ (k : ℕ). AreBelow k ys) e (below-right xs ys (n + length x.kinds) below.1)

all-left : {X : Type 0} (P : X → Type 0) (xs ys : List X) → All P (xs ++ ys) → All P xs
all-left P xs ys all = λ k d less. subst P (get_or_append_left xs ys d k less) (all k d (omega (arith, less, length-append xs ys)))

-- what is written of sections that are parsed side by side
alike-written : (r turn : ℕ → ℕ) (s t : Parsed) → Filled s → Follows r turn s t → Alike r s.table t.table
    → (records others : List TypeGroup) (indices places : List (Option ℕ)) → IsEmission s.table records indices → IsEmission t.table others places
    → (others ≡ records) × ((i : ℕ) → i < length s.ids → index_at places (at t.ids (turn i)) ≡ index_at indices (at s.ids i))
alike-written r turn s t filled f alike records others indices places wrote again =
    let out = alike-law r s.table t.table (filled-homed s filled) alike records others indices places wrote again in
    (out.0, λ i less. ap (λ (x : ℕ). index_at places x) (f.ids i less) ∙ out.1 (at s.ids i) (all-written s filled (at s.ids i) (filled.given i less)))

pub swap-law : SwapChangesNothing
swap-law before after a b none_a none_b plain below records others indices places wrote again =
    let empty : Parsed = unparsed empty_table in
    let n : ℕ = type_count before in
    let turn : ℕ → ℕ = swapped n in
    let rest : List TypeGroup = single a ∷ single b ∷ after in
    let others_rest : List TypeGroup = single b ∷ single a ∷ map (renamed_types turn) after in
    let s0 : Parsed = parsed before empty in
    let sized : length s0.ids ≡ n = omega (arith, parsed-count before empty) in
    let filled0 : Filled s0 =
    section-filled before empty nothing-filled (below-left before rest 0 below) (all-left (λ (group : TypeGroup). All (λ (kind : Kind). kind.entry ≡ false) group.kinds) before rest plain) in
    let m : ℕ = next_id s0.table in
    let s1 : Parsed = parsed_group (single b) (parsed_group (single a) s0) in
    let t1 : Parsed = parsed_group (single a) (parsed_group (single b) s0) in
    let s : Parsed = parsed after s1 in
    let t : Parsed = parsed (map (renamed_types turn) after) t1 in
    let s_is : read (before ++ rest) ≡ s = parsed-append before rest empty in
    let t_is : read (before ++ others_rest) ≡ t = parsed-append before others_rest empty in
    let filled : Filled s = subst Filled s_is (section-filled (before ++ rest) empty nothing-filled below plain) in
    let ends : n + 1 + 1 ≡ length s1.ids = omega (arith, group-sized (single b) (parsed_group (single a) s0), group-sized (single a) s0, sized) in
    let zeroth : 0 + n + 1 + 1 ≡ n + 1 + 1 = omega arith in
    let below_after : AreBelow (length s1.ids) after = subst (λ (k : ℕ). AreBelow k after) (zeroth ∙ ends) (below-right before rest 0 below).1.1 in
    let count : length s.ids ≡ type_count (before ++ rest) = ap (λ (p : Parsed). length p.ids) (sym s_is) ∙ omega (arith, parsed-count (before ++ rest) empty) in
    let wrote_s : IsEmission s.table records indices = subst (λ (p : Parsed). IsEmission p.table records indices) s_is wrote in
    let wrote_t : IsEmission t.table others places = subst (λ (p : Parsed). IsEmission p.table others places) t_is again in
    let start : Starts m n a b s1 t1 = subst (λ (k : ℕ). Starts m k a b s1 t1) sized (starts s0 a b filled0 none_a none_b) in
    let both : (others ≡ records) × ((i : ℕ) → i < length s.ids → index_at places (at t.ids (turn i)) ≡ index_at indices (at s.ids i)) =
    elim start as (λ _. (others ≡ records) × ((i : ℕ) → i < length s.ids → index_at places (at t.ids (turn i)) ≡ index_at indices (at s.ids i))) [
      | inl f ↦
          let g = section-follows (λ v. v) turn after s1 t1 f below_after in
          alike-written (λ v. v) turn s t filled g (alike-still turn s t g filled) records others indices places wrote_s wrote_t
      | inr p ↦
          let g = section-follows (swapped m) turn after s1 t1 p.0 below_after in
          alike-written (swapped m) turn s t filled g (alike-turned turn s t m a b g filled (pair-keeps after s1 m a b p.1)) records others indices places wrote_s wrote_t
    ] in (
      both.0,
      λ i less.
          ap (λ (p : Parsed). index_at places (at p.ids (turn i))) t_is ∙ both.1 i (omega (arith, less, count))
          ∙ ap (λ (p : Parsed). index_at indices (at p.ids i)) (sym s_is),
    )

kinds-plain : (types : List TypeRecord) → All (λ (kind : Kind). kind.entry ≡ false) (map record_kind types)
kinds-plain types = All-map (λ (kind : Kind). kind.entry ≡ false) record_kind types (λ k d less. refl)

pub records-law : RecordsHaveNoEntries
records-law section =
    All-map (λ (group : TypeGroup). All (λ (kind : Kind). kind.entry ≡ false) group.kinds) type_group section (λ k d less. kinds-plain (slice_index_or section k d).types.items)
