-- Keepers made of others.
use Rattle.std.specs.Prelude.{ℕ, zero, suc, ◌≡◌, Bool, true, false, List, [], ◌∷◌, ◌++◌, Ok, Err, refl}
use Rattle.std.specs.List.{flat_map}
use Rattle.std.proofs.Common.{ap, sym, ◌∙◌, subst}
use Rattle.std.proofs.lemmas.List.{append_assoc, append-nil}
use Rattle.wasm_reader.specs.Vecs.{later_bytes}
use Rattle.wasm_formats.specs.Stops.{can_end, Parsing}
use Rattle.wasm_formats.specs.Formats.{Format, Small, behind_small, parsed_final}
use Rattle.wasm_name_payloads.specs.Keepers.{Rest, Behind, Ended, Wrong, Kept, kept, Grows, Keeper, behind_is, ended_behind, wrong_behind, why}

-- ---- nothing

abbrev pub none : {A : Type 0} → Keeper A
none {A} = record {
  keeps = λ bytes. kept [] (Behind bytes);
  spells = λ bytes items. (bytes ≡ []) × (items ≡ []);
  again = λ bytes more items h. rw (h.0, h.1) refl;
  found = λ bytes later items small e. ([], behind_is bytes later (ap (λ (k : Kept A). k.rest) e), (refl, sym (ap (λ (k : Kept A). k.items) e)));
  grows = λ bytes more small. refl;
}

-- ---- items, and then what the bytes behind them give

abbrev pub continued : {A : Type 0} → List A → Rest → (List ℕ → Kept A) → Kept A
continued items (Behind later) more = kept (items ++ (more later).items) (more later).rest
continued items Ended more = kept items Ended
continued items Wrong more = kept items Wrong

-- the items stay in front
pub continued_front : {A : Type 0} (items : List A) (rest : Rest) (more : List ℕ → Kept A) → (others : List A) × ((continued items rest more).items ≡ items ++ others)
continued_front items (Behind later) more = ((more later).items, refl)
continued_front items Ended more = ([], sym (append-nil items))
continued_front items Wrong more = ([], sym (append-nil items))

pub grows_behind : {A : Type 0} (more : List ℕ) (items xs : List A) (rest : Rest) (after : Kept A) → Grows more xs rest after → Grows more (items ++ xs) rest (kept (items ++ after.items) after.rest)
grows_behind {A} more items xs (Behind later) after h = ap (λ (k : Kept A). kept (items ++ k.items) k.rest) h
grows_behind {A} more items xs Ended after h = (h.0, ap (λ (l : List A). items ++ l) h.1 ∙ sym (append_assoc items xs h.0))
grows_behind {A} more items xs Wrong after h = ap (λ (k : Kept A). kept (items ++ k.items) k.rest) h

module _ {A : Type 0} (k l : Keeper A) where
  abbrev pub SpellsBoth : List ℕ → List A → Type 0
  SpellsBoth bytes items = (xs ys : List A) × (front later : List ℕ) × (items ≡ xs ++ ys) × (bytes ≡ front ++ later) × k.spells front xs × l.spells later ys

  pub both_found : (bytes later : List ℕ) (items : List A) → Small bytes → continued (k.keeps bytes).items (k.keeps bytes).rest l.keeps ≡ kept items (Behind later)
      → (front : List ℕ) × (bytes ≡ front ++ later) × SpellsBoth front items
  both_found bytes later items small e = go (k.keeps bytes).items (k.keeps bytes).rest refl e
    where
      go : (xs : List A) (rest : Rest) → k.keeps bytes ≡ kept xs rest → continued xs rest l.keeps ≡ kept items (Behind later) → (front : List ℕ) × (bytes ≡ front ++ later) × SpellsBoth front items
      go xs (Behind mid) first e =
          let s = k.found bytes mid xs small first in
          let same : (l.keeps mid).rest ≡ Behind later = ap (λ (k : Kept A). k.rest) e in
          let t = l.found mid later (l.keeps mid).items (later_bytes s.0 mid (subst Small s.1 small)) (ap (λ (r : Rest). kept (l.keeps mid).items r) same) in (
            s.0 ++ t.0,
            s.1 ∙ ap (λ (b : List ℕ). s.0 ++ b) t.1 ∙ sym (append_assoc s.0 t.0 later),
            (xs, (l.keeps mid).items, s.0, t.0, sym (ap (λ (k : Kept A). k.items) e), refl, s.2, t.2),
          )
      go xs Ended first e = ended_behind later (ap (λ (k : Kept A). k.rest) e)
      go xs Wrong first e = wrong_behind later (ap (λ (k : Kept A). k.rest) e)

  pub both_grows : (bytes more : List ℕ) → Small bytes
      → Grows more (continued (k.keeps bytes).items (k.keeps bytes).rest l.keeps).items (continued (k.keeps bytes).items (k.keeps bytes).rest l.keeps).rest
      (continued (k.keeps (bytes ++ more)).items (k.keeps (bytes ++ more)).rest l.keeps)
  both_grows bytes more small = go (k.keeps bytes).items (k.keeps bytes).rest refl (k.grows bytes more small)
    where
      go : (xs : List A) (rest : Rest) → k.keeps bytes ≡ kept xs rest → Grows more xs rest (k.keeps (bytes ++ more))
          → Grows more (continued xs rest l.keeps).items (continued xs rest l.keeps).rest (continued (k.keeps (bytes ++ more)).items (k.keeps (bytes ++ more)).rest l.keeps)
      go xs (Behind mid) first h =
          let s = k.found bytes mid xs small first in
          let behind = l.grows mid more (later_bytes s.0 mid (subst Small s.1 small)) in
          rw h (grows_behind more xs (l.keeps mid).items (l.keeps mid).rest (l.keeps (mid ++ more)) behind)
      go xs Ended first h =
          let c = continued_front (k.keeps (bytes ++ more)).items (k.keeps (bytes ++ more)).rest l.keeps in
          (h.0 ++ c.0, c.1 ∙ ap (λ (l : List A). l ++ c.0) h.1 ∙ append_assoc xs h.0 c.0)
      go xs Wrong first h = rw h refl

  -- one and then the other
  abbrev pub both : Keeper A
  both = record {
    keeps = λ bytes. continued (k.keeps bytes).items (k.keeps bytes).rest l.keeps;
    spells = SpellsBoth;
    again = λ bytes more items h. rw (h.5, append_assoc h.2 h.3 more, k.again h.2 (h.3 ++ more) h.0 h.6, l.again h.3 more h.1 h.7, h.4) refl;
    found = both_found;
    grows = both_grows;
  }

-- so many, one behind another
abbrev pub times : {A : Type 0} → Keeper A → ℕ → Keeper A
times k zero = none
times k (suc n) = both k (times k n)

-- ---- a value that isn't kept, and then what it leads to

abbrev pub led_by : {A B : Type 0} → (A → Keeper B) → Parsing A → Kept B
led_by g (Ok x) = (g x.0).keeps x.1
led_by g (Err s) = kept [] (why (can_end s.trouble))

module _ {A B : Type 0} (f : Format A) (g : A → Keeper B) where
  abbrev pub SpellsLed : List ℕ → List B → Type 0
  SpellsLed bytes items = (x : A) × (front later : List ℕ) × (bytes ≡ front ++ later) × (f.spells front x × f.rules x) × (g x).spells later items

  pub led_found : (bytes later : List ℕ) (items : List B) → Small bytes → (r : Parsing A) → f.parse bytes ≡ r → led_by g r ≡ kept items (Behind later)
      → (front : List ℕ) × (bytes ≡ front ++ later) × SpellsLed front items
  led_found bytes later items small (Ok x) e same =
      let s = f.found bytes x.1 x.0 small e in
      let t = (g x.0).found x.1 later items (behind_small f bytes x.1 x.0 small e) same in
      (s.0 ++ t.0, s.1 ∙ ap (λ (b : List ℕ). s.0 ++ b) t.1 ∙ sym (append_assoc s.0 t.0 later), (x.0, s.0, t.0, refl, (s.2, s.3), t.2))
  led_found bytes later items small (Err s) e same = go (can_end s.trouble) (ap (λ (k : Kept B). k.rest) same)
    where
      go : (b : Bool) → why b ≡ Behind later → (front : List ℕ) × (bytes ≡ front ++ later) × SpellsLed front items
      go true e = ended_behind later e
      go false e = wrong_behind later e

  pub led_grows : (bytes more : List ℕ) → Small bytes → (r : Parsing A) → f.parse bytes ≡ r → Grows more (led_by g r).items (led_by g r).rest (led_by g (f.parse (bytes ++ more)))
  led_grows bytes more small (Ok x) e = rw (parsed_final f bytes x.1 more x.0 small e) ((g x.0).grows x.1 more (behind_small f bytes x.1 x.0 small e))
  led_grows bytes more small (Err s) e = go (can_end s.trouble) refl
    where
      go : (b : Bool) → can_end s.trouble ≡ b → Grows more [] (why b) (led_by g (f.parse (bytes ++ more)))
      go true is = ((led_by g (f.parse (bytes ++ more))).items, refl)
      go false is = rw (f.final bytes more s small e is, is) refl

  abbrev pub led : Keeper B
  led = record {
    keeps = λ bytes. led_by g (f.parse bytes);
    spells = SpellsLed;
    again = λ bytes more items h. rw (h.3, append_assoc h.1 h.2 more, f.again h.1 (h.2 ++ more) h.0 h.4.0 h.4.1) ((g h.0).again h.2 more items h.5);
    found = λ bytes later items small e. led_found bytes later items small (f.parse bytes) refl e;
    grows = λ bytes more small. led_grows bytes more small (f.parse bytes) refl;
  }

-- ---- each item as some others, or none

pub flat_map_append : {A B : Type 0} (g : A → List B) (xs ys : List A) → flat_map g (xs ++ ys) ≡ flat_map g xs ++ flat_map g ys
flat_map_append g [] ys = refl
flat_map_append {A} {B} g (x ∷ xs) ys = ap (λ (l : List B). g x ++ l) (flat_map_append g xs ys) ∙ sym (append_assoc (g x) (flat_map g xs) (flat_map g ys))

module _ {A B : Type 0} (k : Keeper A) (g : A → List B) where
  abbrev pub as_others : Kept A → Kept B
  as_others r = kept (flat_map g r.items) r.rest

  pub each_grows : (more : List ℕ) (items : List A) (rest : Rest) (after : Kept A) → Grows more items rest after → Grows more (flat_map g items) rest (as_others after)
  each_grows more items (Behind later) after h = ap as_others h
  each_grows more items Ended after h = (flat_map g h.0, ap (flat_map g) h.1 ∙ flat_map_append g items h.0)
  each_grows more items Wrong after h = ap as_others h

  abbrev pub each : Keeper B
  each = record {
    keeps = λ bytes. as_others (k.keeps bytes);
    spells = λ bytes items. (xs : List A) × (items ≡ flat_map g xs) × k.spells bytes xs;
    again = λ bytes more items h. rw (k.again bytes more h.0 h.2, h.1) refl;
    found = λ bytes later items small e.
        let s = k.found bytes later (k.keeps bytes).items small (ap (λ (r : Rest). kept (k.keeps bytes).items r) (ap (λ (k : Kept B). k.rest) e)) in
        (s.0, s.1, ((k.keeps bytes).items, sym (ap (λ (k : Kept B). k.items) e), s.2));
    grows = λ bytes more small. each_grows more (k.keeps bytes).items (k.keeps bytes).rest (k.keeps (bytes ++ more)) (k.grows bytes more small);
  }
