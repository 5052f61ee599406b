-- Lemmas: lists of what is due, entry by entry.
use Rattle.std.specs.Prelude.{ℕ, suc, ◌≡◌, Bool, true, false, cond, List, [], ◌∷◌, ◌++◌, length, map, filter, Option, Some, None, refl}
use Rattle.std.specs.List.{cons_option, filter_map, flat_map}
use Rattle.std.proofs.Common.{ap, sym}
use Rattle.wasm_features.specs.declared.WasmFeatures.{WasmFeatures}
use Rattle.wasm_operators.specs.Bytes.{unsigned_bytes, vec_bytes}
use Rattle.wasm_grammar.specs.States.{nothing_yet}
use Rattle.wasm_module_rules.specs.Linked.{Each}
use Rattle.wasm_sections.specs.Sections.{Section}
use Rattle.wasm_section_bytes.specs.Files.{entry_bytes}
use Rattle.wasm_section_bytes.specs.Segments.{sized_bytes}
use Rattle.wasm_canonical.specs.Due.{entry, items_in, section_if}
use Rattle.walrus_emit_parts.specs.Due.{Due, entries, number, vec}
use Rattle.walrus_emit_due.specs.Own.{live}
use Rattle.walrus_due_laws.specs.Spelled.{SpelledAs, in_slots, spelled}
use Rattle.walrus_due_laws.proofs.Parts.{alone, both, plain, section_as, turned}

-- what is due for an item that has an entry is the spelling of that; for others nothing is
abbrev pub EntryAs : {E : Type 0} → (E → List ℕ) → Bool → Due → Option E → Type 0
EntryAs of true due (Some e) = SpelledAs due (of e)
EntryAs of true due None = ⊥
EntryAs of false due None = Unit {0}
EntryAs of false due (Some e) = ⊥

module _ {A E : Type 0} (due : A → Due) (of : E → List ℕ) where
  -- what is due for each is the spelling of an entry, one by one
  abbrev pub EachAs : List A → List E → Type 0
  EachAs [] [] = Unit {0}
  EachAs [] (e ∷ es) = ⊥
  EachAs (x ∷ xs) [] = ⊥
  EachAs (x ∷ xs) (e ∷ es) = SpelledAs (due x) (of e) × EachAs xs es

  pub joined_as : (xs : List A) (es : List E) → EachAs xs es → SpelledAs (flat_map due xs) (flat_map of es)
  joined_as [] [] h = plain []
  joined_as [] (e ∷ es) h = absurd h
  joined_as (x ∷ xs) [] h = absurd h
  joined_as (x ∷ xs) (e ∷ es) h = both (due x) (flat_map due xs) (of e) (flat_map of es) h.0 (joined_as xs es h.1)

  same_count : (xs : List A) (es : List E) → EachAs xs es → length xs ≡ length es
  same_count [] [] h = refl
  same_count [] (e ∷ es) h = absurd h
  same_count (x ∷ xs) [] h = absurd h
  same_count (x ∷ xs) (e ∷ es) h = ap (λ (n : ℕ). suc n) (same_count xs es h.1)

  pub list_as : (xs : List A) (es : List E) → EachAs xs es → SpelledAs (vec due xs) (vec_bytes of es)
  list_as xs es h =
      turned (vec due xs) (unsigned_bytes (length xs) ++ flat_map of es) (vec_bytes of es) (ap (λ (n : ℕ). unsigned_bytes n ++ flat_map of es) (same_count xs es h))
      (both (number (length xs)) (flat_map due xs) (unsigned_bytes (length xs)) (flat_map of es) (plain (unsigned_bytes (length xs))) (joined_as xs es h))

  -- ---- a section of them; none of none

  pub entries_as : (features : WasmFeatures) (id : ℕ) (into : List E → Section) → ((es : List E) → entry_bytes features nothing_yet (entry (into es)) ≡ id ∷ sized_bytes (vec_bytes of es))
      → (xs : List A) (es : List E) → EachAs xs es → SpelledAs (entries id due xs) (spelled features (section_if into es))
  entries_as features id into is [] [] h = plain []
  entries_as features id into is [] (e ∷ es) h = absurd h
  entries_as features id into is (x ∷ xs) [] h = absurd h
  entries_as features id into is (x ∷ xs) (e ∷ es) h =
      alone (entries id due (x ∷ xs)) (id ∷ sized_bytes (vec_bytes of (e ∷ es))) (entry_bytes features nothing_yet (entry (into (e ∷ es)))) (sym (is (e ∷ es)))
      (section_as id (vec due (x ∷ xs)) (vec_bytes of (e ∷ es)) (list_as (x ∷ xs) (e ∷ es) h))

  -- ---- the entries of items

  mapped_each : (from : A → E) → ((x : A) → SpelledAs (due x) (of (from x))) → (xs : List A) → EachAs xs (map from xs)
  mapped_each from each [] = tt
  mapped_each from each (x ∷ xs) = (each x, mapped_each from each xs)

  pub mapped_joined : (from : A → E) → ((x : A) → SpelledAs (due x) (of (from x))) → (xs : List A) → SpelledAs (flat_map due xs) (flat_map of (map from xs))
  mapped_joined from each xs = joined_as xs (map from xs) (mapped_each from each xs)

  pub mapped_as : (from : A → E) → ((x : A) → SpelledAs (due x) (of (from x))) → (xs : List A) → SpelledAs (vec due xs) (vec_bytes of (map from xs))
  mapped_as from each xs = list_as xs (map from xs) (mapped_each from each xs)

  pub mapped_entries : (features : WasmFeatures) (id : ℕ) (into : List E → Section) → ((es : List E) → entry_bytes features nothing_yet (entry (into es)) ≡ id ∷ sized_bytes (vec_bytes of es))
      → (from : A → E) → ((x : A) → SpelledAs (due x) (of (from x))) → (xs : List A) → SpelledAs (entries id due xs) (spelled features (section_if into (map from xs)))
  mapped_entries features id into is from each xs = entries_as features id into is xs (map from xs) (mapped_each from each xs)

  -- of those that have one
  own_one : (b : Bool) (x : A) (o : Option E) (xs : List A) (es : List E) → EntryAs of b (due x) o → EachAs xs es → EachAs (cond b (x ∷ xs) xs) (cons_option o es)
  own_one true x (Some e) xs es h k = (h, k)
  own_one true x None xs es h k = absurd h
  own_one false x None xs es h k = k
  own_one false x (Some e) xs es h k = absurd h

  no_entry : (o : Option E) (xs : List A) (es : List E) → o ≡ None → EachAs xs es → EachAs xs (cons_option o es)
  no_entry None xs es e k = k
  no_entry (Some y) xs es e k = absurd cc

  pub own_each : (is_own : A → Bool) (own : Option A → Option E) (f : A → A) → own None ≡ None → ((x : A) → EntryAs of (is_own x) (due x) (own (Some (f x))))
      → (slots : List (Option A)) → EachAs (filter is_own (live slots)) (filter_map own (in_slots f slots))
  own_each is_own own f none each [] = tt
  own_each is_own own f none each (None ∷ slots) =
      no_entry (own None) (filter is_own (live slots)) (filter_map own (in_slots f slots)) none (own_each is_own own f none each slots)
  own_each is_own own f none each (Some x ∷ slots) =
      own_one (is_own x) x (own (Some (f x))) (filter is_own (live slots)) (filter_map own (in_slots f slots)) (each x) (own_each is_own own f none each slots)

  -- of all that live
  pub all_each : (P : A → Type 0) (from : A → E) (f : A → A) → ((x : A) → P x → SpelledAs (due x) (of (from (f x)))) → (slots : List (Option A)) → Each P slots
      → EachAs (filter (λ _. true) (live slots)) (map from (items_in (in_slots f slots)))
  all_each P from f each [] h = tt
  all_each P from f each (None ∷ slots) h = all_each P from f each slots h
  all_each P from f each (Some x ∷ slots) h = (each x h.0, all_each P from f each slots h.1)

pub each_any : {A : Type 0} (slots : List (Option A)) → Each (λ (x : A). Unit {0}) slots
each_any [] = tt
each_any (None ∷ slots) = each_any slots
each_any (Some x ∷ slots) = (tt, each_any slots)
