-- The shortest spellings of lists, and of values that fill their bytes.
use Rattle.std.specs.Prelude.{ℕ, ◌<◌, ◌≤◌, ◌≡◌, ◌^◌, Bool, true, List, [], ◌∷◌, ◌++◌, length, Err, ◌⊎◌, refl}
use Rattle.std.proofs.Common.{arith, inl, inr}
use Rattle.wasm_formats.specs.Stops.{Trouble, Stop, can_end}
use Rattle.wasm_formats.specs.Formats.{Format, Whole, Small}
use Rattle.wasm_formats.specs.Wholes.{whole, followed, sized}
use Rattle.wasm_formats.specs.Lists.{SpellsEntries, vec, listed}
use Rattle.wasm_formats.specs.Files.{entries, ended_by}
use Rattle.wasm_formats.specs.Led.{led}
use Rattle.wasm_formats.specs.Until.{until, SpellsUntil}
use Rattle.wasm_operators.specs.Bytes.{unsigned_bytes}
use Rattle.wasm_operators.specs.Numbers.{shorter}
use Rattle.wasm_operators.specs.Vecs.{parts_small, parts_short}
use Rattle.wasm_format_bytes.specs.Writers.{Writer, WholeWriter, u32_writer, same_length}

-- ---- entries, each at the state that those before it left

module _ {A S : Type 0} (next : S → A → S) (entry : S → Format A) (w : (s : S) → Writer (entry s)) where
  abbrev pub EntriesFit : S → List A → Type 0
  EntriesFit s [] = Unit {0}
  EntriesFit s (x ∷ xs) = (w s).fits x × EntriesFit (next s x) xs

  abbrev pub entries_bytes : S → List A → List ℕ
  entries_bytes s [] = []
  entries_bytes s (x ∷ xs) = (w s).bytes x ++ entries_bytes (next s x) xs

  pub entries_written : (s : S) (xs : List A) → EntriesFit s xs → SpellsEntries next entry s (entries_bytes s xs) xs
  entries_written s [] h = refl
  entries_written s (x ∷ xs) h = ((w s).bytes x, entries_bytes (next s x) xs, refl, (w s).written x h.0, entries_written (next s x) xs h.1)

  pub entries_short : (s : S) (others : List ℕ) (xs : List A) → Small others → SpellsEntries next entry s others xs → EntriesFit s xs × (length (entries_bytes s xs) ≤ length others)
  entries_short s others [] small h = (tt, same_length others [] h)
  entries_short s others (x ∷ xs) small h =
      let parts = parts_small others h.0 h.1 h.2 small in
      let one = (w s).short h.0 x parts.0 h.3 in
      let later = entries_short (next s x) h.1 xs parts.1 h.4 in
      ((one.0, later.0), parts_short others h.0 h.1 ((w s).bytes x) (entries_bytes (next s x) xs) h.2 one.1 later.1)

  abbrev pub listed_writer : (count : ℕ) (s : S) → Writer (listed next entry count s)
  listed_writer count s = record {
    fits = λ xs. EntriesFit s xs × (length xs ≡ count);
    bytes = entries_bytes s;
    written = λ xs h. (entries_written s xs h.0, h.1);
    short = λ others xs small h. let t = entries_short s others xs small h.0 in ((t.0, h.1), t.1);
  }

  abbrev pub vec_writer : (s : S) → Writer (vec next entry s)
  vec_writer s = record {
    fits = λ xs. (length xs < 2 ^ 32) × EntriesFit s xs;
    bytes = λ xs. unsigned_bytes (length xs) ++ entries_bytes s xs;
    written = λ xs h. (unsigned_bytes (length xs), entries_bytes s xs, refl, u32_writer.written (length xs) h.0, entries_written s xs h.1);
    short = λ others xs small h.
        let parts = parts_small others h.0 h.1 h.2 small in
        let count = u32_writer.short h.0 (length xs) parts.0 h.3 in
        let list = entries_short s h.1 xs parts.1 h.4 in
        ((count.0, list.0), parts_short others h.0 h.1 (unsigned_bytes (length xs)) (entries_bytes s xs) h.2 count.1 list.1);
  }

  abbrev pub entries_writer : (takes : (s : S) (bytes : List ℕ) (x : A) → (entry s).spells bytes x → 0 < length bytes) (s : S) → WholeWriter (entries next entry takes s)
  entries_writer takes s = record { fits = EntriesFit s; bytes = entries_bytes s; written = entries_written s; short = entries_short s }

-- ---- values that fill their bytes

abbrev pub whole_writer : {A : Type 0} {f : Format A} → Writer f → WholeWriter (whole f)
whole_writer w = record { fits = w.fits; bytes = w.bytes; written = w.written; short = w.short }

abbrev pub ended_writer : {A : Type 0} {f : Whole A} (trouble : Trouble) (ends : can_end trouble ≡ true) → WholeWriter f → (test : A → Bool) → WholeWriter (ended_by trouble ends f test)
ended_writer trouble ends w test = record { fits = w.fits; bytes = w.bytes; written = w.written; short = w.short }

abbrev pub followed_writer : {A B : Type 0} {f : Format A} {g : A → Whole B} → Writer f → ((x : A) → WholeWriter (g x)) → WholeWriter (followed f g)
followed_writer {A} {B} {f} {g} w v = record {
  fits = λ p. w.fits p.0 × (v p.0).fits p.1;
  bytes = λ p. w.bytes p.0 ++ (v p.0).bytes p.1;
  written = λ p h. (w.bytes p.0, (v p.0).bytes p.1, refl, w.written p.0 h.0, (v p.0).written p.1 h.1);
  short = λ others p small h.
      let parts = parts_small others h.0 h.1 h.2 small in
      let one = w.short h.0 p.0 parts.0 h.3 in
      let two = (v p.0).short h.1 p.1 parts.1 h.4 in
      ((one.0, two.0), parts_short others h.0 h.1 (w.bytes p.0) ((v p.0).bytes p.1) h.2 one.1 two.1);
}

-- a size, and contents of that size: shorter contents have no longer size
abbrev pub sized_writer : {A : Type 0} {f : Whole A} → WholeWriter f → Writer (sized f)
sized_writer {A} {f} w = record {
  fits = λ x. w.fits x × (length (w.bytes x) < 2 ^ 32);
  bytes = λ x. unsigned_bytes (length (w.bytes x)) ++ w.bytes x;
  written = λ x h. (unsigned_bytes (length (w.bytes x)), w.bytes x, refl, u32_writer.written (length (w.bytes x)) h.1, w.written x h.0);
  short = λ others x small h.
      let parts = parts_small others h.0 h.1 h.2 small in
      let contents = w.short h.1 x parts.1 h.4 in
      let size = u32_writer.short h.0 (length h.1) parts.0 h.3 in
      let less = shorter 10 (length (w.bytes x)) (length h.1) contents.1 in
      let below : length (w.bytes x) < 2 ^ 32 = omega (arith, contents.1, size.0) in
      let front : length (unsigned_bytes (length (w.bytes x))) ≤ length h.0 = omega (arith, less, size.1) in
      ((contents.0, below), parts_short others h.0 h.1 (unsigned_bytes (length (w.bytes x))) (w.bytes x) h.2 front contents.1);
}

-- ---- a byte that leads one form, where another begins otherwise

module _ {A B : Type 0} (b : ℕ) (byte : b < 256) {f : Format A} {g : Format B} (w : Writer f) (v : Writer g) (apart : (later : List ℕ) (y : B) → g.spells (b ∷ later) y → ⊥)
    (some : (y : B) → g.spells [] y → ⊥) (wants : (s : Stop) → g.parse [] ≡ Err s → can_end s.trouble ≡ true) where
  abbrev pub LedFits : A ⊎ B → Type 0
  LedFits (inl x) = w.fits x
  LedFits (inr y) = v.fits y

  abbrev pub led_bytes : A ⊎ B → List ℕ
  led_bytes (inl x) = b ∷ w.bytes x
  led_bytes (inr y) = v.bytes y

  pub led_written : (x : A ⊎ B) → LedFits x → (led b f g apart some wants).spells (led_bytes x) x
  led_written (inl x) h = (w.bytes x, refl, w.written x h)
  led_written (inr y) h = v.written y h

  pub led_short : (others : List ℕ) (x : A ⊎ B) → Small others → (led b f g apart some wants).spells others x → LedFits x × (length (led_bytes x) ≤ length others)
  led_short others (inl x) small h =
      let parts = parts_small others (b ∷ []) h.0 h.1 small in
      let one = w.short h.0 x parts.1 h.2 in
      (one.0, parts_short others (b ∷ []) h.0 (b ∷ []) (w.bytes x) h.1 (omega arith) one.1)
  led_short others (inr y) small h = v.short others y small h

  abbrev pub led_writer : Writer (led b f g apart some wants)
  led_writer = record { fits = LedFits; bytes = led_bytes; written = led_written; short = led_short }

-- ---- entries up to a byte

module _ {A : Type 0} (b : ℕ) {entry : Format A} (w : Writer entry) (apart : (later : List ℕ) (x : A) → entry.spells (b ∷ later) x → ⊥) (some : (x : A) → entry.spells [] x → ⊥)
    (wants : (s : Stop) → entry.parse [] ≡ Err s → can_end s.trouble ≡ true) where
  abbrev pub UntilFit : List A → Type 0
  UntilFit [] = Unit {0}
  UntilFit (x ∷ xs) = w.fits x × UntilFit xs

  abbrev pub until_bytes : List A → List ℕ
  until_bytes [] = b ∷ []
  until_bytes (x ∷ xs) = w.bytes x ++ until_bytes xs

  pub until_written : (xs : List A) → UntilFit xs → SpellsUntil b entry apart some wants (until_bytes xs) xs
  until_written [] h = refl
  until_written (x ∷ xs) h = (w.bytes x, until_bytes xs, refl, w.written x h.0, until_written xs h.1)

  pub until_short : (others : List ℕ) (xs : List A) → Small others → SpellsUntil b entry apart some wants others xs → UntilFit xs × (length (until_bytes xs) ≤ length others)
  until_short others [] small h = (tt, same_length others (b ∷ []) h)
  until_short others (x ∷ xs) small h =
      let parts = parts_small others h.0 h.1 h.2 small in
      let one = w.short h.0 x parts.0 h.3 in
      let later = until_short h.1 xs parts.1 h.4 in
      ((one.0, later.0), parts_short others h.0 h.1 (w.bytes x) (until_bytes xs) h.2 one.1 later.1)

  abbrev pub until_writer : Writer (until b entry apart some wants)
  until_writer = record { fits = UntilFit; bytes = until_bytes; written = until_written; short = until_short }
