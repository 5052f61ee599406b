-- What is kept of bytes that need not be well formed: the items that stand whole before the first fault, as a total function; with the grammar
-- of bytes without a fault, and the laws that tie them.
use Rattle.std.specs.Prelude.{ℕ, ◌≡◌, Bool, true, false, List, [], ◌∷◌, ◌++◌, Ok, Err, refl}
use Rattle.std.proofs.Common.{ap, sym, ◌∙◌}
use Rattle.wasm_formats.specs.Stops.{can_end, Parsing}
use Rattle.wasm_formats.specs.Formats.{Format, Small, parsed_final}

-- what is behind the items: these bytes, or nothing since the bytes ended, or since there is a fault that more bytes don't mend
pub data Rest : Type 0 where
  Behind : List ℕ → Rest
  Ended : Rest
  Wrong : Rest

pub record Kept (A : Type 0) : Type 0 where
  pub items : List A
  pub rest : Rest

abbrev pub kept : {A : Type 0} → List A → Rest → Kept A
kept items rest = record { items = items; rest = rest }

-- what more bytes make of it
abbrev pub Grows : {A : Type 0} → List ℕ → List A → Rest → Kept A → Type 0
Grows more items (Behind later) after = after ≡ kept items (Behind (later ++ more))
-- the items stay
Grows {A} more items Ended after = (others : List A) × (after.items ≡ items ++ others)
-- nothing
Grows more items Wrong after = after ≡ kept items Wrong

pub record Keeper (A : Type 0) : Type 1 where
  pub keeps : List ℕ → Kept A
  -- the grammar
  pub spells : List ℕ → List A → Type 0
  -- of what is spelled all is kept, whatever follows
  pub again : (bytes more : List ℕ) (items : List A) → spells bytes items → keeps (bytes ++ more) ≡ kept items (Behind more)
  -- what is read without a fault is spelled
  pub found : (bytes later : List ℕ) (items : List A) → Small bytes → keeps bytes ≡ kept items (Behind later) → (front : List ℕ) × (bytes ≡ front ++ later) × spells front items
  -- what stands before a fault, or before the end, is kept, whatever follows
  pub grows : (bytes more : List ℕ) → Small bytes → Grows more (keeps bytes).items (keeps bytes).rest (keeps (bytes ++ more))

-- ---- equal things that were kept

pub items_is : {A : Type 0} (x y : Kept A) → x ≡ y → x.items ≡ y.items
items_is x y e = ap (λ (k : Kept _). k.items) e

abbrev pub behind_or : List ℕ → Rest → List ℕ
behind_or other (Behind later) = later
behind_or other Ended = other
behind_or other Wrong = other

pub behind_is : (a b : List ℕ) → Behind a ≡ Behind b → a ≡ b
behind_is a b e = ap (behind_or []) e

pub ended_behind : {P : Type 0} (a : List ℕ) → Ended ≡ Behind a → P
ended_behind a e = absurd cc

pub wrong_behind : {P : Type 0} (a : List ℕ) → Wrong ≡ Behind a → P
wrong_behind a e = absurd cc

-- ---- one item of a format: all of it or nothing

abbrev pub why : Bool → Rest
why true = Ended
why false = Wrong

abbrev pub kept_of : {A : Type 0} → Parsing A → Kept A
kept_of (Ok x) = kept (x.0 ∷ []) (Behind x.1)
kept_of (Err s) = kept [] (why (can_end s.trouble))

abbrev pub Spells1 : {A : Type 0} → Format A → List ℕ → List A → Type 0
Spells1 {A} f bytes items = (x : A) × (items ≡ x ∷ []) × f.spells bytes x × f.rules x

module _ {A : Type 0} (f : Format A) where
  pub one_found : (bytes later : List ℕ) (items : List A) → Small bytes → (r : Parsing A) → f.parse bytes ≡ r → kept_of r ≡ kept items (Behind later)
      → (front : List ℕ) × (bytes ≡ front ++ later) × Spells1 f front items
  one_found bytes later items small (Ok x) e same =
      let is : x.1 ≡ later = behind_is x.1 later (ap (λ (k : Kept A). k.rest) same) in
      let s = f.found bytes x.1 x.0 small e in
      (s.0, s.1 ∙ ap (λ (l : List ℕ). s.0 ++ l) is, (x.0, sym (ap (λ (k : Kept A). k.items) same), s.2, s.3))
  one_found bytes later items small (Err s) e same = go (can_end s.trouble) (ap (λ (k : Kept A). k.rest) same)
    where
      go : (b : Bool) → why b ≡ Behind later → (front : List ℕ) × (bytes ≡ front ++ later) × Spells1 f front items
      go true e = ended_behind later e
      go false e = wrong_behind later e

  pub one_grows : (bytes more : List ℕ) → Small bytes → (r : Parsing A) → f.parse bytes ≡ r → Grows more (kept_of r).items (kept_of r).rest (kept_of (f.parse (bytes ++ more)))
  one_grows bytes more small (Ok x) e = rw (parsed_final f bytes x.1 more x.0 small e) refl
  one_grows bytes more small (Err s) e = go (can_end s.trouble) refl
    where
      go : (b : Bool) → can_end s.trouble ≡ b → Grows more [] (why b) (kept_of (f.parse (bytes ++ more)))
      go true is = ((kept_of (f.parse (bytes ++ more))).items, refl)
      go false is = rw (f.final bytes more s small e is, is) refl

  abbrev pub one : Keeper A
  one = record {
    keeps = λ bytes. kept_of (f.parse bytes);
    spells = Spells1 f;
    again = λ bytes more items h. rw (f.again bytes more h.0 h.2 h.3, h.1) refl;
    found = λ bytes later items small e. one_found bytes later items small (f.parse bytes) refl e;
    grows = λ bytes more small. one_grows bytes more small (f.parse bytes) refl;
  }
