-- Lemmas: so many entries of a payload, each of which pushes what it keeps.
use Rattle.std.specs.Prelude.{ℕ, suc, ◌+◌, ◌-◌, ◌≤◌, ◌<◌, ◌≡◌, true, false, List, [], ◌++◌, map, refl}
use Rattle.std.proofs.Common.{ap, sym, ◌∙◌, arith}
use Rattle.std.proofs.lemmas.List.{append_assoc, append-nil}
use Rattle.wasm_reader.specs.Cursor.{Cursor, rest}
use Rattle.wasm_name_payloads.specs.Keepers.{Rest, Behind, Ended, Wrong, Kept, kept, Keeper}
use Rattle.wasm_name_payloads.specs.Joined.{times, continued}
use Rattle.walrus_payload_readers.specs.Keeps.{Keeps, behind, left}

-- items in front of what is kept
abbrev pub with_front : {A : Type 0} → List A → Kept A → Kept A
with_front items k = kept (items ++ k.items) k.rest

module _ {X A : Type 0} (k : Keeper A) (view : X → A) where
  -- after `i` of `count` entries: what is left gives, behind what was pushed, what all give
  abbrev pub Counts : List X → List X → Cursor → Cursor → ℕ → ℕ → Type 0
  Counts before now start here count i = with_front (map view now) ((times k (count - i)).keeps (rest here)) ≡ with_front (map view before) ((times k count).keeps (rest start))

  next_is : (count i : ℕ) (bytes : List ℕ) → i < count → (times k (count - i)).keeps bytes ≡ continued (k.keeps bytes).items (k.keeps bytes).rest (times k (count - (i + 1))).keeps
  next_is count i bytes below = let one : count - i ≡ suc (count - (i + 1)) = omega arith in rw one refl

  pub counts_none : (before : List X) (start : Cursor) (count : ℕ) → Counts before before start start count 0
  counts_none before start count = let all : count - 0 ≡ count = omega arith in rw all refl

  whole_is : (items xs : List A) (r : Rest) (n : ℕ) (here : Cursor) → behind r ≡ left true here
      → with_front items (continued xs r (times k n).keeps) ≡ with_front (items ++ xs) ((times k n).keeps (rest here))
  whole_is items xs (Behind later) n here e =
      let same : later ≡ rest here = cc in rw (same, append_assoc items xs ((times k n).keeps (rest here)).items) refl
  whole_is items xs Ended n here e = absurd cc
  whole_is items xs Wrong n here e = absurd cc

  cut_is : (items xs : List A) (r : Rest) (n : ℕ) (here : Cursor) → behind r ≡ left false here → with_front items (continued xs r (times k n).keeps) ≡ kept (items ++ xs) r
  cut_is items xs (Behind later) n here e = absurd cc
  cut_is items xs Ended n here e = refl
  cut_is items xs Wrong n here e = refl

  pub goes_on : (before now more : List X) (start here new : Cursor) (count i : ℕ) → Counts before now start here count i → i < count → Keeps k.keeps view now more here new true
      → Counts before more start new count (i + 1)
  goes_on before now more start here new count i so below h =
      let one = whole_is (map view now) (k.keeps (rest here)).items (k.keeps (rest here)).rest (count - (i + 1)) new h.bytes in
      ap (λ (l : List A). with_front l ((times k (count - (i + 1))).keeps (rest new))) h.items
      ∙ sym one
      ∙ sym (ap (with_front (map view now)) (next_is count i (rest here) below))
      ∙ so

  pub stops : (before now more : List X) (start here new : Cursor) (count i : ℕ) → Counts before now start here count i → i < count → Keeps k.keeps view now more here new false
      → Keeps (times k count).keeps view before more start new false
  stops before now more start here new count i so below h =
      let one = cut_is (map view now) (k.keeps (rest here)).items (k.keeps (rest here)).rest (count - (i + 1)) new h.bytes in
      let all = sym so ∙ ap (with_front (map view now)) (next_is count i (rest here) below) ∙ one in record {
        items = h.items ∙ sym (ap (λ (r : Kept A). r.items) all);
        bytes = ap (λ (r : Kept A). behind r.rest) all ∙ h.bytes;
      }

  pub ends : (before now : List X) (start here : Cursor) (count i : ℕ) → Counts before now start here count i → count ≤ i → Keeps (times k count).keeps view before now start here true
  ends before now start here count i so above =
      let none : count - i ≡ 0 = omega arith in
      let all : kept (map view now ++ []) (Behind (rest here)) ≡ with_front (map view before) ((times k count).keeps (rest start)) =
      sym (rw none refl) ∙ so in record {
        items = sym (append-nil (map view now)) ∙ ap (λ (r : Kept A). r.items) all;
        bytes = sym (ap (λ (r : Kept A). behind r.rest) all);
      }
