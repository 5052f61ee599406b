-- Lemmas: types that were put into a new table, by their indices.
use Rattle.std.proofs.Common.{◌≡◌, ◌∙◌, ◌<◌, ℕ, zero, suc, List, [], ◌∷◌, length, map, Some, None, slice_get, refl, sym, ap, subst, arith}
use Rattle.std.proofs.lemmas.List.{length-map, map-append}
use Rattle.std.proofs.lemmas.Option.{slice_get_within}
use Rattle.walrus_forms.specs.Kinds.{Kind}
use Rattle.walrus_forms.specs.Records.{TypeGroup}
use Rattle.walrus_forms.specs.Renaming.{at, renamed_kind}
use Rattle.walrus_known_sections.specs.Types.{kinds_in}
use Rattle.walrus_types.specs.Mergers.{Entry, is_single, entries_of, CarriesSame, ParsingCarriesSame}
use Rattle.walrus_types.specs.Table.{type_at}
use Rattle.walrus_types.specs.Parsing.{Parsed}
use Rattle.walrus_types_into.specs.Into.{TypesStand, NewTypesStand}

abbrev kind_in : Entry → Kind
kind_in e = e.kind

own_kinds : (g : TypeGroup) (kinds : List Kind) → map kind_in (map (λ kind. record { single = is_single g; kind = kind }) kinds) ≡ kinds
own_kinds g [] = refl
own_kinds g (kind ∷ kinds) = ap (λ (ks : List Kind). kind ∷ ks) (own_kinds g kinds)

entry_kinds : (groups : List TypeGroup) → map kind_in (entries_of groups) ≡ kinds_in groups
entry_kinds [] = refl
entry_kinds (g ∷ groups) =
    map-append kind_in (map (λ kind. record { single = is_single g; kind = kind }) g.kinds) (entries_of groups)
    ∙ rw (own_kinds g g.kinds, entry_kinds groups) refl

mapped_at : {A B : Type 0} (f : A → B) (xs : List A) (i : ℕ) (y : B) → slice_get (map f xs) i ≡ Some y → (x : A) × (slice_get xs i ≡ Some x) × (f x ≡ y)
mapped_at f [] i y e = absurd cc
mapped_at f (x ∷ xs) zero y e = (x, refl, some_is e)
  where
    some_is : Some (f x) ≡ Some y → f x ≡ y
    some_is e = cc
mapped_at f (x ∷ xs) (suc i) y e = mapped_at f xs i y e

entry_at : (groups : List TypeGroup) (i : ℕ) (kind : Kind) → slice_get (kinds_in groups) i ≡ Some kind → (e : Entry) × (slice_get (entries_of groups) i ≡ Some e) × (e.kind ≡ kind)
entry_at groups i kind is = mapped_at kind_in (entries_of groups) i kind (ap (λ (ks : List Kind). slice_get ks i) (entry_kinds groups) ∙ is)

at_index : (ids : List ℕ) (i : ℕ) → i < length ids → slice_get ids i ≡ Some (at ids i)
at_index [] i lt = absurd (omega (arith, lt))
at_index (id ∷ ids) zero lt = refl
at_index (id ∷ ids) (suc i) lt = at_index ids i (omega (arith, lt))

stands : (groups : List TypeGroup) (p : Parsed) → CarriesSame (entries_of groups) p → TypesStand groups p.ids p.table
stands groups p c = record {
  sized = c.sized ∙ sym (length-map (entries_of groups) kind_in) ∙ ap length (entry_kinds groups);
  stand = λ i kind is.
      let e = entry_at groups i kind is in
      let size = c.sized in
      let there = slice_get_within (entries_of groups) i e.0 e.1 in
      (at p.ids i, at_index p.ids i (omega (arith, size, there)), subst (λ (k : Kind). type_at p.table (at p.ids i) ≡ Some (record { id = at p.ids i; kind = renamed_kind (at p.ids) k; name = None })) e.2 (c.kinds i e.0 e.1));
}

pub new_types_stand : ParsingCarriesSame → NewTypesStand
new_types_stand carries groups below = stands groups _ (carries groups below)
