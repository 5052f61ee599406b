-- Lemmas: slots that are filled with what was read are seen as it is, renamed.
use Rattle.std.proofs.Common.{◌≡◌, ◌∙◌, ℕ, suc, List, [], ◌∷◌, map, Option, Some, None, refl, sym, ap}
use Rattle.std.specs.Option.{option_map, unwrap_or}
use Rattle.walrus_arena.specs.Arena.{Arena}
use Rattle.walrus_named_bodies.specs.walrus_file_bodies.walrus_items_into.walrus_module_bodies.walrus_body_trees.walrus_meaning.Meaning.{slots_of}
use Rattle.walrus_named_bodies.specs.walrus_file_bodies.walrus_items_into.walrus_tables_into.walrus_sections_into.walrus_pairing.Looks.{Look}
use Rattle.walrus_named_bodies.specs.walrus_file_bodies.walrus_items_into.walrus_tables_into.walrus_sections_into.wasm_operators.Items.{Space, Types, Functions, Tables, Memories, Tags, Globals, ElementSegments, DataSegments, Locals, Labels}
use Rattle.walrus_named_bodies.specs.walrus_file_bodies.walrus_items_into.walrus_tables_into.walrus_sections_into.Becomes.{renames_by}
use Rattle.walrus_named_bodies.specs.walrus_file_bodies.walrus_items_into.walrus_tables_into.walrus_sections_into.Slots.{Become, Filled, filled_seen}
use Rattle.walrus_named_bodies.specs.wasm_spelled_modules.wasm_module_rules.Linked.{Each}
use Rattle.walrus_parse_laws.specs.Renamed.{by_types, each}
use Rattle.walrus_parse_laws.specs.Meaning.{type_id, OthersStay}

-- slots that hold what these have read
abbrev pub slots : {X Z : Type 0} → (X → Z) → List X → List (Option Z)
slots read xs = map (λ x. Some (read x)) xs

module _ {X Y Z : Type 0} (R : ℕ → X → Y → Type 0) (read : X → Z) (see : Y → Z) where
  -- each is seen as it was read
  pub as_read : (xs : List X) (new : Arena Y) → ((slot : ℕ) (x : X) (y : Y) → R slot x y → see y ≡ read x) → Filled R xs [] new.slots → slots_of see new ≡ slots read xs
  as_read xs new same h = ap (λ (l : List (Option Y)). map (option_map see) l) h.behind ∙ filled_seen R read see same xs h.more 0 h.become

  module _ (P : Z → Type 0) (change : Z → Z) (same : (slot : ℕ) (x : X) (y : Y) → P (read x) → R slot x y → see y ≡ change (read x)) where
    changed_so : (xs : List X) (ys : List (Option Y)) (first : ℕ) → Each P (slots read xs) → Become R xs ys first → map (option_map see) ys ≡ each change (slots read xs)
    changed_so [] [] first p h = refl
    changed_so [] (y ∷ ys) first p h = absurd h
    changed_so (x ∷ xs) [] first p h = absurd h
    changed_so (x ∷ xs) (None ∷ ys) first p h = absurd h
    changed_so (x ∷ xs) (Some y ∷ ys) first p h =
        ap (λ (z : Z). Some z ∷ map (option_map see) ys) (same first x y p.0 h.0) ∙ ap (λ (l : List (Option Z)). Some (change (read x)) ∷ l) (changed_so xs ys (suc first) p.1 h.1)

    -- each is seen as it was read, changed, where what was read is fit for it
    pub as_changed : (xs : List X) (new : Arena Y) → Each P (slots read xs) → Filled R xs [] new.slots → slots_of see new ≡ each change (slots read xs)
    as_changed xs new p h = ap (λ (l : List (Option Y)). map (option_map see) l) h.behind ∙ changed_so xs h.more 0 p h.become

-- where nothing is asked
pub nothing_asked : {X Z : Type 0} (read : X → Z) (xs : List X) → Each (λ (z : Z). Unit {0}) (slots read xs)
nothing_asked read [] = tt
nothing_asked read (x ∷ xs) = (tt, nothing_asked read xs)

-- ---- numbers and their ids

pub type_is : (look : Look) (n id : ℕ) → look Types n ≡ Some id → id ≡ type_id look n
type_is look n id h = sym (ap (λ (o : Option ℕ). unwrap_or o n) h)

module _ (look : Look) (stay : OthersStay look) where
  pub stays : (space : Space) (n : ℕ) → (space ≡ Types → ⊥) → renames_by look space n ≡ n
  stays space n other = go (look space n) refl
    where
      go : (o : Option ℕ) → look space n ≡ o → unwrap_or o n ≡ n
      go None e = refl
      go (Some id) e = stay space n id other e

  renamed_at : (space : Space) (n : ℕ) → renames_by look space n ≡ by_types (type_id look) space n
  renamed_at Types n = refl
  renamed_at Functions n = stays Functions n (λ e. absurd cc)
  renamed_at Tables n = stays Tables n (λ e. absurd cc)
  renamed_at Memories n = stays Memories n (λ e. absurd cc)
  renamed_at Tags n = stays Tags n (λ e. absurd cc)
  renamed_at Globals n = stays Globals n (λ e. absurd cc)
  renamed_at ElementSegments n = stays ElementSegments n (λ e. absurd cc)
  renamed_at DataSegments n = stays DataSegments n (λ e. absurd cc)
  renamed_at Locals n = stays Locals n (λ e. absurd cc)
  renamed_at Labels n = stays Labels n (λ e. absurd cc)

  -- types alone have other ids
  pub renames_types : renames_by look ≡ by_types (type_id look)
  renames_types = λ i space n. renamed_at space n i
