-- Subsections of the payload of `name`.
use Rattle.std.specs.Prelude.{ℕ, suc, ◌+◌, ◌-◌, ◌≤◌, ◌<◌, ◌≡◌, ◌≢◌, ◌==◌, ◌&&◌, Bool, true, false, List, [], ◌∷◌, ◌++◌, length, take, drop, map, Option, Some, None, refl}
use Rattle.std.specs.Borrow.{Bor}
use Rattle.std.proofs.Common.{ap, sym, ◌∙◌, subst, arith, inl, inr}
use Rattle.std.proofs.lemmas.Bool.{cases_lt, lt-ltb, le-ltb, le-leb, lt-leb, ne_eqb}
use Rattle.std.proofs.lemmas.List.{append_assoc, append-nil}
use Rattle.wasm_reader.specs.Cursor.{Cursor, rest}
use Rattle.wasm_reader.specs.Reading.{seen_bytes}
use Rattle.wasm_grammar.specs.Modules.{Module}
use Rattle.wasm_grammar.specs.States.{count_of}
use Rattle.wasm_grammar.specs.Values.{run}
use Rattle.wasm_name_payloads.specs.Keepers.{Rest, Behind, Ended, Wrong, Kept, kept, Keeper, one}
use Rattle.wasm_name_payloads.specs.Joined.{each, continued}
use Rattle.wasm_name_payloads.specs.Windows.{closed, parts_of}
use Rattle.wasm_name_payloads.specs.Names as names
use Rattle.wasm_name_payloads.specs.Names.{TheModule, ModuleName, ItemNames, LocalNames, Skipped, given, text, item_in, name_map, local_names, subsection, takes_some}
use Rattle.walrus_payload_readers.specs.Gives.{Gives}
use Rattle.walrus_payload_readers.specs.Keeps.{Keeps, behind, left}
use Rattle.walrus_payload_readers.specs.declared.names.Part.{Part}
use Rattle.walrus_payload_readers.specs.declared.names.Part.TheVariants as parts

abbrev pub part_of : Part → names.Part
part_of parts.ModuleName = ModuleName
part_of (parts.ItemNames space) = ItemNames space
part_of parts.LocalNames = LocalNames

-- one of an id that isn't known is skipped
abbrev pub part_or : Option Part → names.Part
part_or (Some part) = part_of part
part_or None = Skipped

abbrev pub own_name : Keeper names.Given
own_name = each (one text) (λ name. given TheModule name ∷ [])

-- what is kept of a subsection's bytes
abbrev pub inside : Module → names.Part → List ℕ → Kept names.Given
inside m ModuleName bytes = own_name.keeps bytes
inside m (ItemNames space) bytes = (name_map (count_of m space) (item_in space)).keeps bytes
inside m LocalNames bytes = (local_names m).keeps bytes
inside m Skipped bytes = kept [] (Behind [])

-- all bytes were read, without a fault
abbrev pub is_filled : Rest → Bool
is_filled (Behind []) = true
is_filled (Behind (b ∷ later)) = false
is_filled Ended = false
is_filled Wrong = false

-- what is kept was pushed; and whether that is all
pub record Fills {X A : Type 0} (all : Kept A) (view : X → A) (before now : List X) (whole : Bool) : Type 0 where
  pub items : map view now ≡ map view before ++ all.items
  pub bytes : is_filled all.rest ≡ whole

-- ---- Lemmas

empty_is : (later : List ℕ) → is_filled (Behind later) ≡ (length later == 0)
empty_is [] = refl
empty_is (b ∷ later) = rw (ne_eqb (length (b ∷ later)) 0 (λ e. absurd (omega (arith, e)))) refl

pub filled_is : (r : Rest) (whole : Bool) (new : Cursor) → behind r ≡ left whole new → is_filled r ≡ (whole && length (rest new) == 0)
filled_is (Behind later) true new e = let same : later ≡ rest new = cc in subst (λ (l : List ℕ). is_filled (Behind later) ≡ (length l == 0)) same (empty_is later)
filled_is (Behind later) false new e = absurd cc
filled_is Ended true new e = absurd cc
filled_is Ended false new e = refl
filled_is Wrong true new e = absurd cc
filled_is Wrong false new e = refl

pub fills : {X A : Type 0} (keeps : List ℕ → Kept A) (view : X → A) (before now : List X) (old new : Cursor) (whole : Bool) → Keeps keeps view before now old new whole
    → Fills (keeps (rest old)) view before now (whole && length (rest new) == 0)
fills keeps view before now old new whole h = record { items = h.items; bytes = filled_is (keeps (rest old)).rest whole new h.bytes }

-- a window is closed behind what fills it
closed_is : {X A : Type 0} (items : List A) (r : Rest) (view : X → A) (before now : List X) (old new : Cursor) (whole : Bool) (keeps : List ℕ → Kept A)
    → keeps (rest old) ≡ closed items r (rest new) → map view now ≡ map view before ++ items → is_filled r ≡ whole → Keeps keeps view before now old new whole
closed_is items (Behind []) view before now old new true keeps e h b = record { items = rw e h; bytes = rw e refl }
closed_is items (Behind []) view before now old new false keeps e h b = absurd cc
closed_is items (Behind (x ∷ later)) view before now old new true keeps e h b = absurd cc
closed_is items (Behind (x ∷ later)) view before now old new false keeps e h b = record { items = rw e h; bytes = rw e refl }
closed_is items Ended view before now old new true keeps e h b = absurd cc
closed_is items Ended view before now old new false keeps e h b = record { items = rw e h; bytes = rw e refl }
closed_is items Wrong view before now old new true keeps e h b = absurd cc
closed_is items Wrong view before now old new false keeps e h b = record { items = rw e h; bytes = rw e refl }

module _ (m : Module) (part : names.Part) (size : ℕ) where
  contents_kept : (bytes contents later : List ℕ) → size ≤ length bytes → take size bytes ≡ contents → drop size bytes ≡ later
      → (names.contents m part size).keeps bytes ≡ closed (inside m part contents).items (inside m part contents).rest later
  contents_kept bytes contents later le e f = go part
    where
      go : (part : names.Part) → (names.contents m part size).keeps bytes ≡ closed (inside m part contents).items (inside m part contents).rest later
      go ModuleName = rw (le-ltb (length bytes) size le, e, f) refl
      go (ItemNames space) = rw (le-ltb (length bytes) size le, e, f) refl
      go LocalNames = rw (le-ltb (length bytes) size le, e, f) refl
      go Skipped = rw (le-leb size (length bytes) le, f) refl

  contents_missing : (bytes : List ℕ) → length bytes < size → (names.contents m part size).keeps bytes ≡ kept [] Ended
  contents_missing bytes lt = go part
    where
      go : (part : names.Part) → (names.contents m part size).keeps bytes ≡ kept [] Ended
      go ModuleName = rw (lt-ltb (length bytes) size lt) refl
      go (ItemNames space) = rw (lt-ltb (length bytes) size lt) refl
      go LocalNames = rw (lt-ltb (length bytes) size lt) refl
      go Skipped = rw (lt-leb size (length bytes) lt) refl

  module _ {X : Type 0} (view : X → names.Given) where
    pub contents_on : (before now : List X) (old new : Cursor) (run_read : Bor (List ℕ)) (whole : Bool) → Gives (run size).parse seen_bytes old new (Some run_read)
        → Fills (inside m part run_read.now) view before now whole → Keeps (names.contents m part size).keeps view before now old new whole
    contents_on before now old new run_read whole h f = elim (cases_lt (length (rest old)) size) [
      | inl lt ↦ let h = (rw (lt-leb size (length (rest old)) lt) at h) in absurd cc
      | inr le ↦
          let h = (rw (le-leb size (length (rest old)) le) at h) in
          let both : (take size (rest old), drop size (rest old)) ≡ (run_read.now, rest new) = cc in
          closed_is (inside m part run_read.now).items (inside m part run_read.now).rest view before now old new whole (names.contents m part size).keeps
          (contents_kept (rest old) run_read.now (rest new) le (ap (λ (p : List ℕ × List ℕ). p.0) both) (ap (λ (p : List ℕ × List ℕ). p.1) both)) f.items f.bytes
    ]

    pub contents_not : (before : List X) (old mid new : Cursor) → Gives (run size).parse seen_bytes old mid None → Keeps (names.contents m part size).keeps view before before old new false
    contents_not before old mid new h = elim (cases_lt (length (rest old)) size) [
      | inl lt ↦
          let none = contents_missing (rest old) lt in
          record { items = rw none (sym (append-nil (map view before))); bytes = rw none refl }
      | inr le ↦ let h = (rw (le-leb size (length (rest old)) le) at h) in absurd cc
    ]

-- ---- all subsections

module _ {X : Type 0} (m : Module) (view : X → names.Given) where
  -- after `i` of so many rounds: what is left gives, behind what was pushed, what all give
  abbrev pub Rounds : List X → List X → Cursor → List ℕ → ℕ → ℕ → Type 0
  Rounds before now here all count i =
      map view now ++ (parts_of (subsection m) (takes_some m) (count - i) (rest here)).items ≡ map view before ++ (parts_of (subsection m) (takes_some m) count all).items

  parts_none : (fuel : ℕ) (bytes : List ℕ) → length bytes ≡ 0 → (parts_of (subsection m) (takes_some m) fuel bytes).items ≡ []
  parts_none fuel [] e = refl
  parts_none fuel (b ∷ bytes) e = absurd (omega (arith, e))

  parts_over : (bytes : List ℕ) → (parts_of (subsection m) (takes_some m) 0 bytes).items ≡ []
  parts_over [] = refl
  parts_over (b ∷ bytes) = refl

  pub rounds_none : (before : List X) (here : Cursor) (all : List ℕ) (count : ℕ) → rest here ≡ all → Rounds before before here all count 0
  rounds_none before here all count same = let n : count - 0 ≡ count = omega arith in rw (n, same) refl

  -- no bytes are left
  pub rounds_ended : (before now : List X) (here : Cursor) (all : List ℕ) (count i : ℕ) → Rounds before now here all count i → length (rest here) ≡ 0
      → map view now ≡ map view before ++ (parts_of (subsection m) (takes_some m) count all).items
  rounds_ended before now here all count i so e =
      sym (append-nil (map view now)) ∙ ap (λ (l : List names.Given). map view now ++ l) (sym (parts_none (count - i) (rest here) e)) ∙ so

  -- there were as many rounds as bytes
  pub rounds_over : (before now : List X) (here : Cursor) (all : List ℕ) (count i : ℕ) → Rounds before now here all count i → count ≤ i
      → map view now ≡ map view before ++ (parts_of (subsection m) (takes_some m) count all).items
  rounds_over before now here all count i so above =
      let n : count - i ≡ 0 = omega arith in
      sym (append-nil (map view now)) ∙ ap (λ (l : List names.Given). map view now ++ l) (sym (parts_over (rest here))) ∙ sym (rw n refl) ∙ so

  part_on : (fuel : ℕ) (now more : List X) (here new : Cursor) → length (rest here) ≢ 0 → Keeps (subsection m).keeps view now more here new true
      → map view more ++ (parts_of (subsection m) (takes_some m) fuel (rest new)).items ≡ map view now ++ (parts_of (subsection m) (takes_some m) (suc fuel) (rest here)).items
  part_on fuel now more here new some h = go (rest here) (λ e. some (ap length e)) h.items h.bytes
    where
      go : (bytes : List ℕ) → (bytes ≡ [] → ⊥) → map view more ≡ map view now ++ ((subsection m).keeps bytes).items → behind ((subsection m).keeps bytes).rest ≡ left true new
          → map view more ++ (parts_of (subsection m) (takes_some m) fuel (rest new)).items ≡ map view now ++ (parts_of (subsection m) (takes_some m) (suc fuel) bytes).items
      go [] some items on = absurd (some refl)
      go (b ∷ bytes) some items on = rest_on ((subsection m).keeps (b ∷ bytes)).items ((subsection m).keeps (b ∷ bytes)).rest items on
        where
          rest_on : (xs : List names.Given) (r : Rest) → map view more ≡ map view now ++ xs → behind r ≡ left true new
              → map view more ++ (parts_of (subsection m) (takes_some m) fuel (rest new)).items ≡ map view now ++ (continued xs r (parts_of (subsection m) (takes_some m) fuel)).items
          rest_on xs (Behind later) items on = let same : later ≡ rest new = cc in rw (items, same) (append_assoc (map view now) xs (parts_of (subsection m) (takes_some m) fuel (rest new)).items)
          rest_on xs Ended items on = absurd cc
          rest_on xs Wrong items on = absurd cc

  part_not : (fuel : ℕ) (now more : List X) (here new : Cursor) → length (rest here) ≢ 0 → Keeps (subsection m).keeps view now more here new false
      → map view more ≡ map view now ++ (parts_of (subsection m) (takes_some m) (suc fuel) (rest here)).items
  part_not fuel now more here new some h = go (rest here) (λ e. some (ap length e)) h.items h.bytes
    where
      go : (bytes : List ℕ) → (bytes ≡ [] → ⊥) → map view more ≡ map view now ++ ((subsection m).keeps bytes).items → behind ((subsection m).keeps bytes).rest ≡ left false new
          → map view more ≡ map view now ++ (parts_of (subsection m) (takes_some m) (suc fuel) bytes).items
      go [] some items on = absurd (some refl)
      go (b ∷ bytes) some items on = rest_not ((subsection m).keeps (b ∷ bytes)).items ((subsection m).keeps (b ∷ bytes)).rest items on
        where
          rest_not : (xs : List names.Given) (r : Rest) → map view more ≡ map view now ++ xs → behind r ≡ left false new
              → map view more ≡ map view now ++ (continued xs r (parts_of (subsection m) (takes_some m) fuel)).items
          rest_not xs (Behind later) items on = absurd cc
          rest_not xs Ended items on = items
          rest_not xs Wrong items on = items

  pub rounds_on : (before now more : List X) (here new : Cursor) (all : List ℕ) (count i : ℕ) → Rounds before now here all count i → i < count → length (rest here) ≢ 0
      → Keeps (subsection m).keeps view now more here new true → Rounds before more new all count (i + 1)
  rounds_on before now more here new all count i so below some h =
      let n : count - i ≡ suc (count - (i + 1)) = omega arith in
      part_on (count - (i + 1)) now more here new some h ∙ sym (rw n refl) ∙ so

  pub rounds_not : (before now more : List X) (here new : Cursor) (all : List ℕ) (count i : ℕ) → Rounds before now here all count i → i < count → length (rest here) ≢ 0
      → Keeps (subsection m).keeps view now more here new false → map view more ≡ map view before ++ (parts_of (subsection m) (takes_some m) count all).items
  rounds_not before now more here new all count i so below some h =
      let n : count - i ≡ suc (count - (i + 1)) = omega arith in
      part_not (count - (i + 1)) now more here new some h ∙ sym (rw n refl) ∙ so
