-- Keepers in windows of so many bytes, and what is kept of a whole payload.
use Rattle.std.specs.Prelude.{ℕ, zero, suc, ◌≤◌, ◌<◌, ◌≡◌, nat_lt, List, [], ◌∷◌, ◌++◌, length, take, drop, if◌then◌else◌, refl}
use Rattle.std.specs.List.{flat_map}
use Rattle.std.proofs.Common.{ap, sym, ◌∙◌, subst, arith, inl, inr}
use Rattle.std.proofs.lemmas.Bool.{cases_lt, lt-ltb, le-ltb}
use Rattle.std.proofs.lemmas.List.{append_assoc, append-nil, length-append, take-append-drop, length-take-le, take-append-le}
use Rattle.std.proofs.Math.Seq.{take-append_seam, drop-append_seam}
use Rattle.wasm_reader.specs.Vecs.{later_bytes}
use Rattle.wasm_formats.specs.Formats.{Small, front_small}
use Rattle.wasm_name_payloads.specs.Keepers.{Rest, Behind, Ended, Wrong, Kept, kept, Grows, Keeper, behind_is, ended_behind, wrong_behind}
use Rattle.wasm_name_payloads.specs.Joined.{continued, continued_front}

-- ---- in so many bytes, all of which have to be read: bytes that are missing there are a fault

abbrev pub closed : {A : Type 0} → List A → Rest → List ℕ → Kept A
closed items (Behind []) later = kept items (Behind later)
closed items (Behind (b ∷ left)) later = kept items Wrong
closed items Ended later = kept items Wrong
closed items Wrong later = kept items Wrong

pub closed_grows : {A : Type 0} (items : List A) (rest : Rest) (later more : List ℕ) → Grows more (closed items rest later).items (closed items rest later).rest (closed items rest (later ++ more))
closed_grows items (Behind []) later more = refl
closed_grows items (Behind (b ∷ left)) later more = refl
closed_grows items Ended later more = refl
closed_grows items Wrong later more = refl

-- what is closed without a fault was read to the end
pub closed_is : {A : Type 0} (items xs : List A) (rest : Rest) (behind later : List ℕ) → closed items rest behind ≡ kept xs (Behind later) → (rest ≡ Behind []) × (items ≡ xs) × (behind ≡ later)
closed_is {A} items xs (Behind []) behind later e = (refl, ap (λ (k : Kept A). k.items) e, behind_is behind later (ap (λ (k : Kept A). k.rest) e))
closed_is {A} items xs (Behind (b ∷ left)) behind later e = wrong_behind later (ap (λ (k : Kept A). k.rest) e)
closed_is {A} items xs Ended behind later e = wrong_behind later (ap (λ (k : Kept A). k.rest) e)
closed_is {A} items xs Wrong behind later e = wrong_behind later (ap (λ (k : Kept A). k.rest) e)

module _ {A : Type 0} (size : ℕ) (k : Keeper A) where
  abbrev pub window_keeps : List ℕ → Kept A
  window_keeps bytes =
      if nat_lt (length bytes) size then kept [] Ended
      else closed (k.keeps (take size bytes)).items (k.keeps (take size bytes)).rest (drop size bytes)

  pub there : (bytes : List ℕ) → size ≤ length bytes → window_keeps bytes ≡ closed (k.keeps (take size bytes)).items (k.keeps (take size bytes)).rest (drop size bytes)
  there bytes le = rw (le-ltb (length bytes) size le) refl

  pub window_again : (bytes more : List ℕ) (items : List A) → length bytes ≡ size → k.spells bytes items → window_keeps (bytes ++ more) ≡ kept items (Behind more)
  window_again bytes more items is h =
      let le : size ≤ length (bytes ++ more) = omega (arith, is, length-append bytes more) in
      let front : take size (bytes ++ more) ≡ bytes = subst (λ (n : ℕ). take n (bytes ++ more) ≡ bytes) is (take-append_seam bytes more) in
      let behind : drop size (bytes ++ more) ≡ more = subst (λ (n : ℕ). drop n (bytes ++ more) ≡ more) is (drop-append_seam bytes more) in
      let all : k.keeps bytes ≡ kept items (Behind []) = ap k.keeps (sym (append-nil bytes)) ∙ k.again bytes [] items h in
      there (bytes ++ more) le ∙ rw (front, behind, all) refl

  pub window_found : (bytes later : List ℕ) (items : List A) → Small bytes → window_keeps bytes ≡ kept items (Behind later)
      → (front : List ℕ) × (bytes ≡ front ++ later) × ((length front ≡ size) × k.spells front items)
  window_found bytes later items small e = elim (cases_lt (length bytes) size) [
    | inl lt ↦ let e = (rw (lt-ltb (length bytes) size lt) at e) in ended_behind later (ap (λ (k : Kept A). k.rest) e)
    | inr le ↦
        let c = closed_is (k.keeps (take size bytes)).items items (k.keeps (take size bytes)).rest (drop size bytes) later (sym (there bytes le) ∙ e) in
        let parts : bytes ≡ take size bytes ++ later = sym (take-append-drop size bytes) ∙ ap (λ (l : List ℕ). take size bytes ++ l) c.2 in
        let inner : Small (take size bytes) = front_small (take size bytes) later (subst Small parts small) in
        let read : k.keeps (take size bytes) ≡ kept items (Behind []) = ap (λ (r : Rest). kept (k.keeps (take size bytes)).items r) c.0 ∙ ap (λ (l : List A). kept l (Behind [])) c.1 in
        let s = k.found (take size bytes) [] items inner read in
        (take size bytes, parts, (length-take-le size bytes le, subst (λ (l : List ℕ). k.spells l items) (sym (s.1 ∙ append-nil s.0)) s.2))
  ]

  pub window_grows : (bytes more : List ℕ) → Grows more (window_keeps bytes).items (window_keeps bytes).rest (window_keeps (bytes ++ more))
  window_grows bytes more = elim (cases_lt (length bytes) size) as (λ _. Grows more (window_keeps bytes).items (window_keeps bytes).rest (window_keeps (bytes ++ more))) [
    | inl lt ↦ rw (lt-ltb (length bytes) size lt) ((window_keeps (bytes ++ more)).items, refl)
    | inr le ↦
        let far : size ≤ length (bytes ++ more) = omega (arith, le, length-append bytes more) in
        let short = there bytes le in
        let long = there (bytes ++ more) far in
        let behind : drop size (bytes ++ more) ≡ drop size bytes ++ more = drop_more size bytes le in
        rw (short, long, take-append-le size bytes more le, behind)
        (closed_grows (k.keeps (take size bytes)).items (k.keeps (take size bytes)).rest (drop size bytes) more)
  ]
    where
      drop_more : (n : ℕ) (l : List ℕ) → n ≤ length l → drop n (l ++ more) ≡ drop n l ++ more
      drop_more zero l le = refl
      drop_more (suc n) [] le = absurd (omega (arith, le))
      drop_more (suc n) (b ∷ l) le = drop_more n l (omega (arith, le))

  abbrev pub window : Keeper A
  window = record {
    keeps = window_keeps;
    spells = λ bytes items. (length bytes ≡ size) × k.spells bytes items;
    again = λ bytes more items h. window_again bytes more items h.0 h.1;
    found = window_found;
    grows = λ bytes more small. window_grows bytes more;
  }

-- ---- a whole payload: parts to its end, or to the first fault

module _ {A : Type 0} (k : Keeper A) (takes : (bytes : List ℕ) (items : List A) → k.spells bytes items → 0 < length bytes) where
  -- each part takes a byte at least
  abbrev pub parts_of : ℕ → List ℕ → Kept A
  parts_of fuel [] = kept [] (Behind [])
  parts_of zero (b ∷ bytes) = kept [] Ended
  parts_of (suc fuel) (b ∷ bytes) = continued (k.keeps (b ∷ bytes)).items (k.keeps (b ∷ bytes)).rest (parts_of fuel)

  -- the items of all parts, of the last one those before its fault
  abbrev pub total : List ℕ → List A
  total bytes = (parts_of (length bytes) bytes).items

  -- the bytes of parts without a fault, each with its items
  abbrev pub SpellsParts : List ℕ → List (List A) → Type 0
  SpellsParts bytes [] = bytes ≡ []
  SpellsParts bytes (items ∷ parts) = (front later : List ℕ) × (bytes ≡ front ++ later) × k.spells front items × SpellsParts later parts

  step_again : (fuel : ℕ) (front later : List ℕ) (items : List A) → 0 < length front → k.spells front items
      → (parts_of (suc fuel) (front ++ later)).items ≡ items ++ (parts_of fuel later).items
  step_again fuel [] later items some h = absurd (omega (arith, some))
  step_again fuel (b ∷ front) later items some h =
      let read : k.keeps (b ∷ (front ++ later)) ≡ kept items (Behind later) = k.again (b ∷ front) later items h in rw read refl

  parts_again : (parts : List (List A)) (fuel : ℕ) (bytes : List ℕ) → length bytes ≤ fuel → SpellsParts bytes parts → (parts_of fuel bytes).items ≡ flat_map (λ items. items) parts
  parts_again [] fuel bytes le h = rw h refl
  parts_again (items ∷ parts) zero bytes le h = absurd (omega (arith, le, takes h.0 items h.3, ap length h.2, length-append h.0 h.1))
  parts_again (items ∷ parts) (suc fuel) bytes le h =
      let some = takes h.0 items h.3 in
      rw h.2 (step_again fuel h.0 h.1 items some h.3
      ∙ ap (λ (l : List A). items ++ l) (parts_again parts fuel h.1 (omega (arith, le, some, ap length h.2, length-append h.0 h.1)) h.4))

  -- of a payload without a fault all is kept
  pub total_again : (bytes : List ℕ) (parts : List (List A)) → SpellsParts bytes parts → total bytes ≡ flat_map (λ items. items) parts
  total_again bytes parts h = parts_again parts (length bytes) bytes (omega arith) h

  -- what is behind a part is shorter
  shorter : (bytes later : List ℕ) (items : List A) → Small bytes → k.keeps bytes ≡ kept items (Behind later) → (length later < length bytes) × Small later
  shorter bytes later items small e =
      let s = k.found bytes later items small e in
      (omega (arith, takes s.0 items s.2, ap length s.1, length-append s.0 later), later_bytes s.0 later (subst Small s.1 small))

  -- what is read to the end is a payload without a fault
  parts_found : (fuel : ℕ) (bytes later : List ℕ) → Small bytes → (parts_of fuel bytes).rest ≡ Behind later
      → (parts : List (List A)) × SpellsParts bytes parts × ((parts_of fuel bytes).items ≡ flat_map (λ items. items) parts)
  parts_found fuel [] later small e = ([], refl, refl)
  parts_found zero (b ∷ bytes) later small e = ended_behind later e
  parts_found (suc fuel) (b ∷ bytes) later small e = go (k.keeps (b ∷ bytes)).items (k.keeps (b ∷ bytes)).rest (λ mid small e. parts_found fuel mid later small e) refl e
    where
      go : (items : List A) (rest : Rest)
          → ((mid : List ℕ) → Small mid → (parts_of fuel mid).rest ≡ Behind later → (parts : List (List A)) × SpellsParts mid parts × ((parts_of fuel mid).items ≡ flat_map (λ items. items) parts))
          → k.keeps (b ∷ bytes) ≡ kept items rest → (continued items rest (parts_of fuel)).rest ≡ Behind later
          → (parts : List (List A)) × SpellsParts (b ∷ bytes) parts × ((continued items rest (parts_of fuel)).items ≡ flat_map (λ items. items) parts)
      go items (Behind mid) on first e =
          let s = k.found (b ∷ bytes) mid items small first in
          let inner = on mid (later_bytes s.0 mid (subst Small s.1 small)) e in
          (items ∷ inner.0, (s.0, mid, s.1, s.2, inner.1), ap (λ (l : List A). items ++ l) inner.2)
      go items Ended on first e = ended_behind later e
      go items Wrong on first e = wrong_behind later e

  -- what more bytes make of parts: the items of those that were read stay, and behind a fault nothing is read
  abbrev pub Stays : List A → Rest → Kept A → Type 0
  Stays items (Behind later) after = (others : List A) × (after.items ≡ items ++ others)
  Stays items Ended after = (others : List A) × (after.items ≡ items ++ others)
  Stays items Wrong after = after ≡ kept items Wrong

  stays_behind : (items xs : List A) (rest : Rest) (after : Kept A) → Stays xs rest after → Stays (items ++ xs) rest (kept (items ++ after.items) after.rest)
  stays_behind items xs (Behind later) after h = (h.0, ap (λ (l : List A). items ++ l) h.1 ∙ sym (append_assoc items xs h.0))
  stays_behind items xs Ended after h = (h.0, ap (λ (l : List A). items ++ l) h.1 ∙ sym (append_assoc items xs h.0))
  stays_behind items xs Wrong after h = ap (λ (k : Kept A). kept (items ++ k.items) k.rest) h

  parts_stay : (fuel wide : ℕ) (bytes more : List ℕ) → length bytes ≤ fuel → length (bytes ++ more) ≤ wide → Small bytes
      → Stays (parts_of fuel bytes).items (parts_of fuel bytes).rest (parts_of wide (bytes ++ more))
  parts_stay fuel wide [] more le far small = ((parts_of wide more).items, refl)
  parts_stay zero wide (b ∷ bytes) more le far small = absurd (omega (arith, le))
  parts_stay (suc fuel) zero (b ∷ bytes) more le far small = absurd (omega (arith, far))
  parts_stay (suc fuel) (suc wide) (b ∷ bytes) more le far small = go (k.keeps (b ∷ bytes)).items (k.keeps (b ∷ bytes)).rest
      (λ later le far small. parts_stay fuel wide later more le far small) refl (k.grows (b ∷ bytes) more small)
    where
      go : (items : List A) (rest : Rest)
          → ((later : List ℕ) → length later ≤ fuel → length (later ++ more) ≤ wide → Small later → Stays (parts_of fuel later).items (parts_of fuel later).rest (parts_of wide (later ++ more)))
          → k.keeps (b ∷ bytes) ≡ kept items rest → Grows more items rest (k.keeps (b ∷ (bytes ++ more)))
          → Stays (continued items rest (parts_of fuel)).items (continued items rest (parts_of fuel)).rest (parts_of (suc wide) (b ∷ (bytes ++ more)))
      go items (Behind later) on first h =
          let less = shorter (b ∷ bytes) later items small first in
          let inner = on later (omega (arith, le, less.0)) (omega (arith, far, less.0, length-append (b ∷ bytes) more, length-append later more)) less.1 in
          rw h (stays_behind items (parts_of fuel later).items (parts_of fuel later).rest (parts_of wide (later ++ more)) inner)
      go items Ended on first h =
          let c = continued_front (k.keeps (b ∷ (bytes ++ more))).items (k.keeps (b ∷ (bytes ++ more))).rest (parts_of wide) in
          (h.0 ++ c.0, c.1 ∙ ap (λ (l : List A). l ++ c.0) h.1 ∙ append_assoc items h.0 c.0)
      go items Wrong on first h = rw h refl

  -- what is behind all parts: a fault, or their end
  abbrev pub behind_all : List ℕ → Rest
  behind_all bytes = (parts_of (length bytes) bytes).rest

  all_stay : (bytes more : List ℕ) → Small bytes → Stays (total bytes) (behind_all bytes) (parts_of (length (bytes ++ more)) (bytes ++ more))
  all_stay bytes more small = parts_stay (length bytes) (length (bytes ++ more)) bytes more (omega arith) (omega arith) small

  -- what is kept of a front is kept of the whole, before all else
  pub total_grows : (bytes more : List ℕ) → Small bytes → (others : List A) × (total (bytes ++ more) ≡ total bytes ++ others)
  total_grows bytes more small = go (behind_all bytes) (all_stay bytes more small)
    where
      go : (rest : Rest) → Stays (total bytes) rest (parts_of (length (bytes ++ more)) (bytes ++ more)) → (others : List A) × (total (bytes ++ more) ≡ total bytes ++ others)
      go (Behind later) h = h
      go Ended h = h
      go Wrong h = ([], ap (λ (k : Kept A). k.items) h ∙ sym (append-nil (total bytes)))

  -- behind a fault nothing is read
  pub total_stays : (bytes more : List ℕ) → Small bytes → behind_all bytes ≡ Wrong → total (bytes ++ more) ≡ total bytes
  total_stays bytes more small wrong =
      ap (λ (k : Kept A). k.items) (subst (λ (r : Rest). Stays (total bytes) r (parts_of (length (bytes ++ more)) (bytes ++ more))) wrong (all_stay bytes more small))

  pub total_found : (bytes later : List ℕ) → Small bytes → behind_all bytes ≡ Behind later
      → (parts : List (List A)) × SpellsParts bytes parts × (total bytes ≡ flat_map (λ items. items) parts)
  total_found bytes later small e = parts_found (length bytes) bytes later small e
