-- Lemmas: what is written of types of which some are deleted, in words of the module that has them all.
use Rattle.std.proofs.Common.{◌≡◌, ◌∙◌, ℕ, ◌+◌, Bool, true, List, [], ◌∷◌, length, map, filter, Option, Some, None, if◌then◌else◌, refl, sym, ap, subst, arith, length-append, unwrap_or}
use Rattle.std.specs.Prelude.{slice_index_or}
use Rattle.std.specs.List.{slice_get, flat_map, range_with_len}
use Rattle.std.proofs.lemmas.List.FromFn.{length-range_with_len}
use Rattle.walrus_forms.specs.Kinds.{Kind, kind_names}
use Rattle.walrus_forms.specs.Records.{TypeGroup}
use Rattle.walrus_forms.specs.Renaming.{index_at}
use Rattle.walrus_forms.proofs.RenamingLemmas.{In}
use Rattle.walrus_types.specs.Emission.{IsEmission, is_written, written_groups, written_kind, written_types}
use Rattle.walrus_types.specs.Items.{Group}
use Rattle.walrus_types.specs.Merged.{IsMerged}
use Rattle.walrus_types.specs.Parsing.{Parsed, parsed, parsed_group, unparsed}
use Rattle.walrus_types.specs.Table.{Table, group_at, next_id}
use Rattle.walrus_types.specs.TypeLaws.{AreGrouped}
use Rattle.walrus_types.proofs.OnceLemmas.{is_shown, place_written}
use Rattle.walrus_types.proofs.ParseLemmas.{group-sized}
use Rattle.walrus_types.proofs.Places.{Has, Once, contains_has, has_contains, maps_agree, maps_twice, once_of}
use Rattle.walrus_type_laws.specs.Alike.{AreHomed, members, renamed_group}
use Rattle.walrus_type_laws.specs.Edited.{EditedAreReadBack}
use Rattle.walrus_type_laws.specs.Rounds.{read}
use Rattle.walrus_type_laws.proofs.Steady.{edited_homed}
use Rattle.walrus_type_laws.proofs.Written.{home_written, types_of}
use Rattle.walrus_meaning.specs.Meaning.{group_kinds, own_groups, type_ids}
use Rattle.wasm_grammar.specs.States.{types_of as kinds_there}
use Rattle.wasm_merged_modules.specs.Merged.{ids_of, kinds_of}
use Rattle.wasm_references.specs.References.{Numbered, numbered}
use Rattle.wasm_part.specs.Written.{GroupsStand, has_types, with_types}
use Rattle.walrus_kept_types_laws.specs.Placed.{place_among, placed_indices, placed_table}
use Rattle.walrus_kept_types_laws.specs.Written.{AreLeft, AreRead, KeptTypesAreWritten, TypesHaveTheirIndices, WritesTypes}
use Rattle.walrus_kept_types_laws.proofs.Lists.{all_places, at_found, filter_mapped, in_has}
use Rattle.walrus_kept_types_laws.proofs.Meant.{groups_kind, groups_many, groups_numbered, ids_members, own_are}
use Rattle.walrus_kept_types_laws.proofs.Placed.{groups_same, kind_found, placed_emission, placed_types, written_same}
use Rattle.walrus_kept_types_laws.proofs.Rest.{groups_rest, has_any, has_types_left, only_kind, only_written, stays_in, stays_merged}

-- as many ids as types
ids_count : (groups : List TypeGroup) (s : Parsed) → length (parsed groups s).ids ≡ length s.ids + length (kinds_of groups)
ids_count [] s = omega arith
ids_count (g ∷ groups) s = omega (arith, ids_count groups (parsed_group g s), group-sized g s, length-append g.kinds (kinds_of groups))

abbrev Marked : Type 0
Marked = Bool × List ℕ

abbrev marked : Bool → List ℕ → Marked
marked b l = (b, l)

-- groups without types aren't written
one_with : (e : Bool) (r : ℕ → ℕ) (l : List ℕ) (xs : List Group) (ys : List Marked) → map (λ (g : Group). marked g.explicit g.types) (map (renamed_group r) xs) ≡ with_types ys
    → map (λ (g : Group). marked g.explicit g.types) (map (renamed_group r) (if has_any l then (let g : Group = record { explicit = e; types = l } in g) ∷ xs else xs))
    ≡ (if has_types (map r l) then marked e (map r l) ∷ with_types ys else with_types ys)
one_with e r [] xs ys h = h
one_with e r (n ∷ ns) xs ys h = ap (λ (l : List Marked). marked e (map r (n ∷ ns)) ∷ l) h

groups_with : (old new : Table) (r : ℕ → ℕ) (only : _) (gs : List Group)
    → map (λ (g : Group). marked g.explicit g.types) (map (renamed_group r) (filter (has_types_left old new only) (map (stays_in old new only) gs)))
    ≡ with_types (map (λ (g : Group). marked g.explicit (map r (filter (is_written new) g.types))) gs)
groups_with old new r only [] = refl
groups_with old new r only (g ∷ gs) =
    one_with g.explicit r (filter (is_written new) g.types) (filter (has_types_left old new only) (map (stays_in old new only) gs)) (map (λ (g : Group). marked g.explicit (map r (filter (is_written new) g.types))) gs)
    (groups_with old new r only gs)

module _ (back : EditedAreReadBack) (old new : Table) (v : Numbered) (are : AreRead old) (grouped : AreGrouped new) (rest : AreLeft old new)
    (groups : v.filled.groups ≡ own_groups old) (types : v.types ≡ range_with_len 0 (length (kinds_there v.filled))) where
  abbrev ids : List ℕ
  ids = type_ids old

  abbrev r : ℕ → ℕ
  r = place_among ids

  abbrev u : Table
  u = placed_table ids new

  abbrev wg : List Group
  wg = written_groups old

  merged : IsMerged new
  merged = stays_merged old new rest.only rest.places rest.left rest.rest are.settled.merged are.settled.single

  homed_old : AreHomed old
  homed_old = edited_homed old are.grouped are.settled.merged

  homed : AreHomed new
  homed = edited_homed new grouped merged

  inside : (place : ℕ) (g : Group) → group_at old place ≡ Some g → is_shown old g ≡ true → (k id : ℕ) → slice_get g.types k ≡ Some id → is_written old id ≡ true
  inside place g at so = let h = place_written old place g at so in λ k id at_k. home_written old homed_old h.0 k g id h.1 at_k

  ids_is : ids ≡ members old
  ids_is = ids_members old inside

  once : Once ids
  once = subst (λ (l : List ℕ). Once l) (sym ids_is) (once_of (members old) homed_old.once)

  has_old : (id : ℕ) → is_written old id ≡ true → Has ids id
  has_old id w = subst (λ (l : List ℕ). Has l id) (sym ids_is) (contains_has (members old) id ((homed_old.homed id).1 w))

  has : (id : ℕ) → is_written new id ≡ true → Has ids id
  has id w = has_old id (only_written old new rest.only id w)

  all_written : (k id : ℕ) → slice_get (flat_map types_of wg) k ≡ Some id → is_written old id ≡ true
  all_written k id at = (homed_old.homed id).0 (has_contains (members old) id (k, at))

  low : (id : ℕ) (kind : Kind) → written_kind new id ≡ Some kind → (m : ℕ) → In m (kind_names kind) → slice_get ids m ≡ Some m
  low id kind is m i = are.first m (are.names id kind (only_kind old new rest.only id kind is) m (has_contains (kind_names kind) m (in_has (kind_names kind) m i)))

  kinds_are : kinds_there v.filled ≡ kinds_of (map (group_kinds old) wg)
  kinds_are = ap kinds_of (groups ∙ own_are old)

  many : length (kinds_there v.filled) ≡ length ids
  many = ap (λ (l : List Kind). length l) kinds_are ∙ groups_many old wg all_written ∙ sym (ap (λ (l : List ℕ). length l) ids_is)

  known : (n : ℕ) (kind : Kind) → written_kind u n ≡ Some kind → slice_get (kinds_there v.filled) n ≡ Some kind
  known n kind is =
      let f = kind_found new ids once has n kind is in
      ap (λ (l : List Kind). slice_get l n) kinds_are
      ∙ groups_kind old wg all_written n f.0 kind (ap (λ (l : List ℕ). slice_get l n) (sym ids_is) ∙ f.1) (only_kind old new rest.only f.0 kind f.2)

  -- ---- groups

  numbers : v.types ≡ map r (flat_map types_of wg)
  numbers = types ∙ ap (range_with_len 0) many ∙ sym (all_places ids once) ∙ ap (map r) ids_is

  numbered_are : numbered v.filled.groups v.types ≡ map (λ (g : Group). (group_kinds old g, map r g.types)) wg
  numbered_are =
      ap (λ (gs : List TypeGroup). numbered gs v.types) (groups ∙ own_are old) ∙ ap (numbered (map (group_kinds old) wg)) numbers
      ∙ groups_numbered old r wg (home_written old homed_old)

  abbrev with_written : TypeGroup × List ℕ → Marked
  with_written g = marked g.0.marked (filter (is_written u) g.1)

  left_alike : (g : Group) → ((k id : ℕ) → slice_get g.types k ≡ Some id → is_written old id ≡ true) → filter (is_written u) (map r g.types) ≡ map r (filter (is_written new) g.types)
  left_alike g all = filter_mapped r (is_written u) (is_written new) g.types (λ k id at. written_same new ids once has id (has_old id (all k id at)))

  grouped_so : GroupsStand u v
  grouped_so =
      ap (map (λ (g : Group). marked g.explicit g.types)) (groups_same new ids once has homed ∙ ap (map (renamed_group r)) (groups_rest old new rest.only rest.places rest.left rest.rest inside))
      ∙ groups_with old new r rest.only wg
      ∙ sym (ap with_types (
      ap (map with_written) numbered_are
      ∙ maps_twice (λ (g : Group). (group_kinds old g, map r g.types)) with_written wg
      ∙ maps_agree (λ (g : Group). with_written (group_kinds old g, map r g.types)) (λ (g : Group). marked g.explicit (map r (filter (is_written new) g.types))) wg
      (λ p g at. ap (λ (l : List ℕ). marked g.explicit l) (left_alike g (λ k id at_k. home_written old homed_old p k g id at at_k)))
      ))

  -- ---- what is written

  module _ (out : List TypeGroup) (indices : List (Option ℕ)) (e : IsEmission new out indices) where
    once_read : ids_of out ≡ range_with_len 0 (length (kinds_of out))
    once_read =
        let b = back new grouped merged out indices e in
        let count : next_id (read out).table ≡ length (kinds_of out) =
        sym (length-range_with_len 0 (next_id (read out).table)) ∙ sym (ap (λ (l : List ℕ). length l) b.ids) ∙ ids_count out (unparsed (record { types = []; groups = [] })) ∙ (let z : 0 + length (kinds_of out) ≡ length (kinds_of out) = omega arith in z) in
        b.ids ∙ ap (range_with_len 0) count

    types_written : WritesTypes v u out (placed_indices ids indices) (map r (written_types new e.groups))
    types_written = record {
      emitted = placed_emission new ids once has homed low out indices e;
      types = sym (placed_types new ids once has homed low out indices e);
      known = known;
      grouped = grouped_so;
      once = once_read;
    }

pub kept_types_written : EditedAreReadBack → KeptTypesAreWritten
kept_types_written back old new v are grouped rest groups types out indices e = types_written back old new v are grouped rest groups types out indices e

pub have_indices : TypesHaveTheirIndices
have_indices old are indices =
    let there : (k id : ℕ) → slice_get (type_ids old) k ≡ Some id → index_at (placed_indices (type_ids old) indices) k ≡ index_at indices id =
    λ k id at. ap (λ (x : Option ℕ). unwrap_or x 0) (at_found (λ n. slice_index_or indices n None) (type_ids old) k id at) in
    record { each = there; first = λ n lt. there n n (are.first n lt) }
