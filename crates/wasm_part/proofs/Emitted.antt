-- Lemmas: types that are written stand at their places.
use Rattle.std.specs.Prelude.{ℕ, zero, suc, ◌≡◌, ◌<◌, ◌+◌, List, [], ◌∷◌, ◌++◌, All, length, map, filter, Option, Some, None, slice_get, refl, if◌then◌else◌}
use Rattle.std.specs.List.{cons_option, filter_map, range_with_len}
use Rattle.std.specs.Option.{is_some}
use Rattle.std.proofs.Common.{ap, sym, ◌∙◌, subst, arith}
use Rattle.std.proofs.lemmas.List.FromFn.{get_or-range_with_len}
use Rattle.std.proofs.lemmas.List.Elements.{All-head, All-tail}
use Rattle.walrus_forms.specs.Kinds.{Kind}
use Rattle.walrus_forms.specs.Records.{TypeGroup}
use Rattle.walrus_forms.specs.Renaming.{KindBelow, at, renamed_kind}
use Rattle.walrus_types.specs.Emission.{described_group, index_at, is_written, written_in, written_kind, written_types}
use Rattle.walrus_types.specs.Items.{Group}
use Rattle.walrus_types.specs.Parsing.{AreBelow as WalrusBelow}
use Rattle.walrus_types.specs.Table.{Table}
use Rattle.walrus_types.proofs.BelowLemmas.{groups-below}
use Rattle.wasm_merged_modules.specs.Merged.{kinds_of}
use Rattle.wasm_merged_modules.proofs.Merged.{alone_leads}
use Rattle.wasm_modules.specs.Modules.{same_of}
use Rattle.wasm_ruled_modules.specs.Rules.{AreBelow, GroupsBelow}
use Rattle.wasm_part.specs.Emitted.{EmittedTypesStand, ReadBackTypesLead, StandsAt}

some_same : {A : Type 0} (x y : A) → (let some : A → Option A = λ x. Some x in some x ≡ some y) → x ≡ y
some_same x y e = cc

module _ (t : Table) (r : ℕ → ℕ) where
  -- side by side: the ids of types, and their kinds as they are written
  abbrev Along : List ℕ → List Kind → Type 0
  Along [] [] = Unit {0}
  Along (n ∷ ns) (k ∷ ks) = ((kind : Kind) × (written_kind t n ≡ Some kind) × (k ≡ renamed_kind r kind)) × Along ns ks
  Along _ _ = ⊥

  along_join : (ns ms : List ℕ) (ks ls : List Kind) → Along ns ks → Along ms ls → Along (ns ++ ms) (ks ++ ls)
  along_join [] ms [] ls h k = k
  along_join [] ms (x ∷ ks) ls h k = absurd h
  along_join (n ∷ ns) ms [] ls h k = absurd h
  along_join (n ∷ ns) ms (x ∷ ks) ls h k = (h.0, along_join ns ms ks ls h.1 k)

  along_at : (ns : List ℕ) (ks : List Kind) (i n : ℕ) → Along ns ks → slice_get ns i ≡ Some n → StandsAt t r ks i n
  along_at [] ks i n h e = absurd cc
  along_at (m ∷ ns) [] i n h e = absurd h
  along_at (m ∷ ns) (k ∷ ks) zero n h e = record { kind = h.0.0; is = ap (written_kind t) (sym (some_same m n e)) ∙ h.0.1; stands = ap (λ (k : Kind). Some k) h.0.2 }
  along_at (m ∷ ns) (k ∷ ks) (suc i) n h e = let later = along_at ns ks i n h.1 e in record { kind = later.kind; is = later.is; stands = later.stands }

  along_many : (ns : List ℕ) (ks : List Kind) → Along ns ks → length ks ≡ length ns
  along_many [] [] h = refl
  along_many [] (k ∷ ks) h = absurd h
  along_many (n ∷ ns) [] h = absurd h
  along_many (n ∷ ns) (k ∷ ks) h = ap (λ (c : ℕ). suc c) (along_many ns ks h.1)

  one_along : (id : ℕ) (o : Option Kind) (ids : List ℕ) (kinds : List Kind) → written_kind t id ≡ o → Along ids (map (renamed_kind r) kinds)
      → Along (if is_some o then id ∷ ids else ids) (map (renamed_kind r) (cons_option o kinds))
  one_along id None ids kinds e h = h
  one_along id (Some kind) ids kinds e h = ((kind, e, refl), h)

  types_along : (ids : List ℕ) → Along (filter (is_written t) ids) (map (renamed_kind r) (filter_map (written_kind t) ids))
  types_along [] = tt
  types_along (id ∷ ids) = one_along id (written_kind t id) (filter (is_written t) ids) (filter_map (written_kind t) ids) refl (types_along ids)

  groups_along : (groups : List Group) → Along (written_types t groups) (kinds_of (map (described_group t r) groups))
  groups_along [] = tt
  groups_along (g ∷ groups) =
      along_join (written_in t g) (written_types t groups) (map (renamed_kind r) (filter_map (written_kind t) g.types)) (kinds_of (map (described_group t r) groups)) (types_along g.types) (groups_along groups)

kinds_below : (end : ℕ) (kinds : List Kind) → All (KindBelow end) kinds → AreBelow end kinds
kinds_below end [] h = tt
kinds_below end (k ∷ kinds) h = (All-head (KindBelow end) k kinds h, kinds_below end kinds (All-tail (KindBelow end) k kinds h))

below : (types : ℕ) (groups : List TypeGroup) → WalrusBelow types groups → GroupsBelow types groups
below types [] h = tt
below types (g ∷ groups) h = (kinds_below (types + length g.kinds) g.kinds h.0, below (types + length g.kinds) groups h.1)

pub emitted_stand : EmittedTypesStand
emitted_stand t out indices e =
    let r = index_at indices in
    let along : Along t r (written_types t e.groups) (kinds_of out) = subst (λ (l : List TypeGroup). Along t r (written_types t e.groups) (kinds_of l)) (sym e.described) (groups_along t r e.groups) in record {
      stand = λ i n at. along_at t r (written_types t e.groups) (kinds_of out) i n along at;
      many = along_many t r (written_types t e.groups) (kinds_of out) along;
      below = subst (GroupsBelow 0) (sym e.described) (below 0 (map (described_group t r) e.groups) (groups-below t r 0 e.groups e.sound));
    }

own_at : (count k : ℕ) → k < count → at (range_with_len 0 count) k ≡ k
own_at count k lt = get_or-range_with_len 0 count k 0 lt ∙ (let e : 0 + k ≡ k = omega arith in e)

pub types_lead : ReadBackTypesLead
types_lead m count is k lt =
    let own : (j : ℕ) → j < count → same_of m j ≡ j = λ j less. ap (λ (l : List ℕ). at l j) is ∙ own_at count j less in
    alone_leads (same_of m) k (λ j less e. let one : j ≡ k = sym (own j (omega (arith, less, lt))) ∙ e ∙ own k lt in omega (arith, one, less))
