-- What is written for a value of a format: its shortest spelling.
use Rattle.std.specs.Prelude.{ℕ, ◌<◌, ◌≤◌, ◌≡◌, ◌^◌, Bool, true, false, List, [], ◌∷◌, ◌++◌, length, Option, Some, None, if◌then◌else◌, refl}
use Rattle.std.proofs.Common.{ap, sym, ◌∙◌, subst, arith}
use Rattle.wasm_reader.specs.Laws.{TakesSpelled, IsFinal}
use Rattle.wasm_reader.specs.Reading.{Reading}
use Rattle.wasm_reader.specs.Spelled.{IsShortest-unsigned, spelled_unsigned}
use Rattle.wasm_formats.specs.Stops.{Trouble}
use Rattle.wasm_formats.specs.Formats.{Format, Whole, Small, leaf}
use Rattle.wasm_formats.specs.Bytes.{byte, literal, never, either, either_type}
use Rattle.wasm_formats.specs.Joined.{checked, only, after, pair_checked, built}
use Rattle.wasm_formats.specs.Parts.{nothing, seen, inner_checked}
use Rattle.wasm_formats.specs.Wholes.{u32}
use Rattle.wasm_operators.specs.Bytes.{unsigned_bytes}
use Rattle.wasm_operators.specs.Laws.{WritesShortest}
use Rattle.wasm_operators.specs.Numbers.{u32_short}
use Rattle.wasm_operators.specs.Vecs.{parts_small, parts_short}

pub record Writer {A : Type 0} (f : Format A) : Type 1 where
  -- within the limits of the format
  pub fits : A → Type 0
  pub bytes : A → List ℕ
  -- what is within the limits is spelled so
  pub written : (x : A) → fits x → f.spells (bytes x) x
  -- what is spelled is within the limits, and by no fewer bytes
  pub short : (others : List ℕ) (x : A) → Small others → f.spells others x → fits x × (length (bytes x) ≤ length others)

pub record WholeWriter {A : Type 0} (f : Whole A) : Type 1 where
  pub fits : A → Type 0
  pub bytes : A → List ℕ
  pub written : (x : A) → fits x → f.spells (bytes x) x
  pub short : (others : List ℕ) (x : A) → Small others → f.spells others x → fits x × (length (bytes x) ≤ length others)

pub same_length : (others bytes : List ℕ) → others ≡ bytes → length bytes ≤ length others
same_length others bytes e = let size : length others ≡ length bytes = ap length e in omega (arith, size)

-- ---- what the reader reads

-- limited by what has a spelling
abbrev pub HasSpelling : {A : Type 0} → (List ℕ → A → Type 0) → A → Type 0
HasSpelling spells x = (bytes : List ℕ) × Small bytes × spells bytes x

abbrev pub leaf_writer : {A : Type 0} (reading : List ℕ → Reading A) (spells : List ℕ → A → Type 0) (taken : TakesSpelled reading spells) (final : IsFinal reading) (bytes : A → List ℕ)
    → WritesShortest spells bytes → Writer (leaf reading spells taken final)
leaf_writer reading spells taken final bytes short = record {
  fits = HasSpelling spells;
  bytes = bytes;
  written = λ x h. (short h.0 x h.1 h.2).0;
  short = λ others x small h. ((others, small, h), (short others x small h).1);
}

abbrev pub u32_writer : Writer u32
u32_writer = record {
  fits = λ n. n < 2 ^ 32;
  bytes = unsigned_bytes;
  written = λ n h. (IsShortest-unsigned 10 32 n (omega arith) (omega arith) h).spells;
  short = λ others n small h. (spelled_unsigned 32 others n h, (u32_short others n small h).1);
}

-- ---- bytes

abbrev pub byte_writer : Writer byte
byte_writer = record {
  fits = λ b. b < 256;
  bytes = λ b. b ∷ [];
  written = λ b h. (refl, h);
  short = λ others b small h. (h.1, same_length others (b ∷ []) h.0);
}

abbrev pub literal_writer : (b : ℕ) (t : Trouble) → Writer (literal b t)
literal_writer b t = record {
  fits = λ _. Unit {0};
  bytes = λ _. b ∷ [];
  written = λ x h. refl;
  short = λ others x small h. (tt, same_length others (b ∷ []) h);
}

abbrev pub nothing_writer : {A : Type 0} (x : A) → Writer (nothing x)
nothing_writer x = record {
  fits = λ y. x ≡ y;
  bytes = λ y. [];
  written = λ y h. (refl, h);
  short = λ others y small h. (h.1, same_length others [] h.0);
}

abbrev pub never_writer : {A : Type 0} (t : Trouble) → Writer (never {A = A} t)
never_writer t = record {
  fits = λ y. ⊥;
  bytes = λ y. [];
  written = λ y h. h;
  short = λ others y small h. absurd h;
}

-- ---- tests

abbrev pub checked_writer : {A : Type 0} {f : Format A} → Writer f → (test : A → Option Trouble) → Writer (checked f test)
checked_writer w test = record { fits = w.fits; bytes = w.bytes; written = w.written; short = w.short }

abbrev pub only_writer : {A : Type 0} {f : Format A} → Writer f → (test : A → Option Trouble) → Writer (only f test)
only_writer w test = record {
  fits = λ x. w.fits x × (test x ≡ None);
  bytes = w.bytes;
  written = λ x h. (w.written x h.0, h.1);
  short = λ others x small h. let s = w.short others x small h.0 in ((s.0, h.1), s.1);
}

-- ---- one value and then another

module _ {A B : Type 0} {f : Format A} {g : A → Format B} (w : Writer f) (v : (x : A) → Writer (g x)) where
  pub pair_short : (others : List ℕ) (p : A × B) → Small others → (after f g).spells others p
      → (w.fits p.0 × (v p.0).fits p.1) × (length (w.bytes p.0 ++ (v p.0).bytes p.1) ≤ length others)
  pair_short others p small h =
      let parts = parts_small others h.0 h.1 h.2 small in
      let one = w.short h.0 p.0 parts.0 h.3 in
      let two = (v p.0).short h.1 p.1 parts.1 h.4 in
      ((one.0, two.0), parts_short others h.0 h.1 (w.bytes p.0) ((v p.0).bytes p.1) h.2 one.1 two.1)

  abbrev pub after_writer : Writer (after f g)
  after_writer = record {
    fits = λ p. w.fits p.0 × (v p.0).fits p.1;
    bytes = λ p. w.bytes p.0 ++ (v p.0).bytes p.1;
    written = λ p h. (w.bytes p.0, (v p.0).bytes p.1, refl, w.written p.0 h.0, (v p.0).written p.1 h.1);
    short = pair_short;
  }

  abbrev pub pair_checked_writer : (test late : A × B → Option Trouble) → Writer (pair_checked f g test late)
  pair_checked_writer test late = record {
    fits = λ p. w.fits p.0 × (v p.0).fits p.1;
    bytes = λ p. w.bytes p.0 ++ (v p.0).bytes p.1;
    written = λ p h. (w.bytes p.0, (v p.0).bytes p.1, refl, w.written p.0 h.0, (v p.0).written p.1 h.1);
    short = pair_short;
  }

-- ---- in other words, which are told back

module _ {A B : Type 0} {f : Format A} (w : Writer f) (into : A → B) (injective : (x y : A) → into x ≡ into y → x ≡ y) (back : B → A) (back_is : (x : A) → back (into x) ≡ x) where
  pub back_at : (x : A) (y : B) → into x ≡ y → back y ≡ x
  back_at x y e = ap back (sym e) ∙ back_is x

  abbrev pub built_writer : Writer (built f into injective)
  built_writer = record {
    fits = λ y. (x : A) × (into x ≡ y) × w.fits x;
    bytes = λ y. w.bytes (back y);
    written = λ y h. (h.0, h.1, subst (λ (z : A). f.spells (w.bytes z) h.0) (sym (back_at h.0 y h.1)) (w.written h.0 h.2));
    short = λ others y small h.
        let s = w.short others h.0 small h.2 in
        ((h.0, h.1, s.0), subst (λ (z : A). length (w.bytes z) ≤ length others) (sym (back_at h.0 y h.1)) s.1);
  }

module _ {A B : Type 0} {f : Format A} (w : Writer f) (into : A → Option B) (trouble : Trouble) (once : (x y : A) (z : B) → into x ≡ Some z → into y ≡ Some z → x ≡ y) (back : B → A)
    (back_is : (x : A) (y : B) → into x ≡ Some y → back y ≡ x) where
  abbrev pub seen_writer : Writer (seen f into trouble once)
  seen_writer = record {
    fits = λ y. (x : A) × (into x ≡ Some y) × w.fits x;
    bytes = λ y. w.bytes (back y);
    written = λ y h. (h.0, h.1, subst (λ (z : A). f.spells (w.bytes z) h.0) (sym (back_is h.0 y h.1)) (w.written h.0 h.2));
    short = λ others y small h.
        let s = w.short others h.0 small h.2 in
        ((h.0, h.1, s.0), subst (λ (z : A). length (w.bytes z) ≤ length others) (sym (back_is h.0 y h.1)) s.1);
  }

abbrev pub inner_checked_writer : {A : Type 0} {f : Format A} → Writer f → (test : A → Option (ℕ × Trouble))
    → (inner : (bytes : List ℕ) (x : A) (t : ℕ × Trouble) → f.spells bytes x → test x ≡ Some t → t.0 ≤ length bytes) → Writer (inner_checked f test inner)
inner_checked_writer w test inner = record { fits = w.fits; bytes = w.bytes; written = w.written; short = w.short }

-- ---- either form, by what is known

module _ {A : Type 0} {f g : Format A} (w : Writer f) (v : Writer g) where
  pub either_written : (c : Bool) (x : A) → either_type c (w.fits x) (v.fits x) → either_type c (f.spells (if c then w.bytes x else v.bytes x) x) (g.spells (if c then w.bytes x else v.bytes x) x)
  either_written true x h = w.written x h
  either_written false x h = v.written x h

  pub either_short : (c : Bool) (others : List ℕ) (x : A) → Small others → either_type c (f.spells others x) (g.spells others x)
      → either_type c (w.fits x) (v.fits x) × (length (if c then w.bytes x else v.bytes x) ≤ length others)
  either_short true others x small h = w.short others x small h
  either_short false others x small h = v.short others x small h

  abbrev pub either_writer : (c : Bool) → Writer (either c f g)
  either_writer c = record {
    fits = λ x. either_type c (w.fits x) (v.fits x);
    bytes = λ x. if c then w.bytes x else v.bytes x;
    written = either_written c;
    short = either_short c;
  }
