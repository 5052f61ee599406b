-- Lemmas: the rules of sections don't look at places.
use Rattle.std.specs.Prelude.{ℕ, suc, ◌+◌, ◌≡◌, Bool, true, false, List, [], ◌∷◌, ◌++◌, length, Option, Some, None, refl}
use Rattle.std.proofs.Common.{ap, sym, ◌∙◌, subst, inl, inr}
use Rattle.wasm_features.specs.declared.WasmFeatures.{WasmFeatures}
use Rattle.wasm_features.specs.Features.{GcTypes, enables}
use Rattle.wasm_formats.specs.Stops.{Trouble}
use Rattle.wasm_formats.specs.Formats.{Format}
use Rattle.wasm_formats.specs.Bytes.{either_type}
use Rattle.wasm_formats.specs.Lists.{EntryRules}
use Rattle.wasm_formats.specs.Led.{led}
use Rattle.wasm_grammar.specs.States.{Chunk, State, type_count}
use Rattle.wasm_sections.specs.TypeSection.{Measured, measured, behind, explicit, GroupEntry, single, group, placed, members, sub_test, members_test, at_place, sub_apart, sub_some, sub_wants, add_group}
use Rattle.wasm_section_bytes.specs.Placed.{list_placed, list_count, member_placed, start_of, group_at, types_placed}
use Rattle.wasm_section_bytes.specs.Elsewhere.{elsewhere, group_the_same}

-- ---- entries that look at no places

pub entries_ruled : {A : Type 0} (bodies : Option (List Chunk)) (start offset : ℕ) (add : State → A → State) (entry : State → Format A)
    → ((s : State) (x : A) → add (elsewhere bodies start offset s) x ≡ elsewhere bodies start offset (add s x)) → ((s : State) (x : A) → (entry s).rules x → (entry (elsewhere bodies start offset s)).rules x)
    → (xs : List A) (s : State) → EntryRules add entry s xs → EntryRules add entry (elsewhere bodies start offset s) xs
entries_ruled bodies start offset add entry steady same [] s r = tt
entries_ruled bodies start offset add entry steady same (x ∷ xs) s r =
    (same s x r.0, subst (λ (t : State). EntryRules add entry t xs) (sym (steady s x)) (entries_ruled bodies start offset add entry steady same xs (add s x) r.1))

-- ---- groups of types

-- tests of members with other places hold, too
none_at : (place : ℕ) (o : Option Trouble) (later : Option (ℕ × Trouble)) → o ≡ None → later ≡ None → at_place place o later ≡ None
none_at place o later e f = rw (e, f) refl

at_parts : (place : ℕ) (o : Option Trouble) (later : Option (ℕ × Trouble)) → at_place place o later ≡ None → (o ≡ None) × (later ≡ None)
at_parts place None later e = (refl, e)
at_parts place (Some t) later e = absurd cc

module _ (features : WasmFeatures) where
  members_elsewhere : (end n p q r : ℕ) (xs : List Measured) → members_test end n (placed p xs) ≡ None
      → members_test end n (placed q (list_placed behind (measured features) (member_placed features) r xs)) ≡ None
  members_elsewhere end n p q r [] e = refl
  members_elsewhere end n p q r (x ∷ xs) e =
      let one = at_parts p (sub_test end n x.1) (members_test end (suc n) (placed x.0 xs)) e in
      let y = (member_placed features).placed r x in
      none_at q (sub_test end n x.1) (members_test end (suc n) (placed y.0 (list_placed behind (measured features) (member_placed features) y.0 xs))) one.0
      (members_elsewhere end (suc n) x.0 y.0 y.0 xs one.1)

  placed_count : (p : ℕ) (xs : List Measured) → length (placed p xs) ≡ length xs
  placed_count p [] = refl
  placed_count p (x ∷ xs) = ap (λ (n : ℕ). suc n) (placed_count x.0 xs)

  -- subtypes have no rules of their own
  listed_ruled : (p : ℕ) (xs : List Measured) → EntryRules behind (measured features) p xs
  listed_ruled p [] = tt
  listed_ruled p (x ∷ xs) = (tt, listed_ruled x.0 xs)

  rectype_ruled : (on : Bool) (g : GroupEntry)
      → either_type on ((led 0x4e (explicit features) (measured features 0) (sub_apart features 0) (sub_some features 0) (sub_wants features 0)).rules g) ((single features).rules g)
      → either_type on ((led 0x4e (explicit features) (measured features 0) (sub_apart features 0) (sub_some features 0) (sub_wants features 0)).rules (group_at features g)) ((single features).rules (group_at features g))
  rectype_ruled true (inl g) r = (r.0, listed_ruled (start_of g) (list_placed behind (measured features) (member_placed features) (start_of g) g.1))
  rectype_ruled true (inr x) r = tt
  rectype_ruled false g r = λ y e. tt

  test_elsewhere : (types : ℕ) (g : GroupEntry) → members_test (types + length (members g)) types (members g) ≡ None
      → members_test (types + length (members (group_at features g))) types (members (group_at features g)) ≡ None
  test_elsewhere types (inl g) e =
      let new = list_placed behind (measured features) (member_placed features) (start_of g) g.1 in
      let same : length (placed g.0.0 g.1) ≡ length (placed (start_of g) new) =
      placed_count g.0.0 g.1 ∙ sym (placed_count (start_of g) new ∙ list_count behind (measured features) (member_placed features) (start_of g) g.1) in
      subst (λ (n : ℕ). members_test (types + n) types (placed (start_of g) new) ≡ None) same (members_elsewhere (types + length (placed g.0.0 g.1)) types g.0.0 (start_of g) (start_of g) g.1 e)
  test_elsewhere types (inr x) e = e

  pub groups_ruled : (bodies : Option (List Chunk)) (start offset : ℕ) (xs : List GroupEntry) (r s : State) → EntryRules add_group (group features) s xs
      → EntryRules add_group (group features) (elsewhere bodies start offset s) ((types_placed features).placed r xs)
  groups_ruled bodies start offset [] r s h = tt
  groups_ruled bodies start offset (x ∷ xs) r s h =
      let one = h.0 in
      let later = groups_ruled bodies start offset xs (add_group r (group_at features x)) (add_group s x) h.1 in
      let same : add_group (elsewhere bodies start offset s) (group_at features x) ≡ elsewhere bodies start offset (add_group s x) =
      ap (λ g. elsewhere bodies start offset (record s { filled = record s.filled { groups = s.filled.groups ++ g ∷ [] } })) (group_the_same features x) in (
        (rectype_ruled (enables features GcTypes) x one.0, test_elsewhere (type_count s) x one.1),
        subst (λ (t : State). EntryRules add_group (group features) t ((types_placed features).placed (add_group r (group_at features x)) xs)) (sym same) later,
      )
