-- Formats of single bytes, and the choice between two formats.
use Rattle.std.specs.Prelude.{ℕ, ◌+◌, ◌<◌, ◌≡◌, ◌==◌, Bool, true, false, List, [], ◌∷◌, ◌++◌, length, Ok, Err, ◌⊎◌, if◌then◌else◌, refl}
use Rattle.std.proofs.Common.{ap, sym, ◌∙◌, subst, arith, inl, inr}
use Rattle.std.proofs.lemmas.Bool.{cases_Bool, eqb-true, eq-eqb}
use Rattle.std.proofs.lemmas.List.{length-append}
use Rattle.wasm_reader.specs.declared.error.ErrorKind.TheVariants as kinds
use Rattle.wasm_reader.specs.Reading.{byte_at}
use Rattle.wasm_reader.specs.Finals.{byte_final}
use Rattle.wasm_formats.specs.Stops.{Trouble, Read, Stop, stop, moved, can_end, Parsing, ◌>>=◌, value_at}
use Rattle.wasm_formats.specs.Formats.{Format, Small, Stands, Inside, done_is, refused, refused_is, reading_told, reading_final, StopsReading}

-- ---- a byte

abbrev pub SpellsByte : List ℕ → ℕ → Type 0
SpellsByte bytes b = (bytes ≡ b ∷ []) × (b < 256)

pub byte_found : (bytes later : List ℕ) (x : ℕ) → Small bytes → value_at (byte_at bytes) ≡ Ok (x, later) → Stands SpellsByte (λ _. Unit {0}) bytes later x
byte_found [] later x small e = absurd cc
byte_found (b ∷ bytes) later x small e =
    let same = done_is (b, bytes) (x, later) e in
    subst (λ (z : ℕ × List ℕ). Stands SpellsByte (λ _. Unit {0}) (b ∷ bytes) z.1 z.0) same (b ∷ [], refl, (refl, small 0 0 (omega arith)), tt)

pub byte_inside : (bytes : List ℕ) → Inside (length bytes) (value_at (byte_at bytes))
byte_inside [] = omega arith
byte_inside (b ∷ bytes) = omega arith

abbrev pub byte : Format ℕ
byte = record {
  spells = SpellsByte;
  rules = λ _. Unit {0};
  stops = StopsReading byte_at;
  parse = λ bytes. value_at (byte_at bytes);
  found = byte_found;
  again = λ bytes more x h r. rw h.0 refl;
  told = λ bytes s small e. reading_told (byte_at bytes) s e;
  tells = λ bytes s h. rw (h.1, h.2) refl;
  within = byte_inside;
  final = λ bytes more s small e k. reading_final more (byte_at bytes) (byte_at (bytes ++ more)) s (byte_final.grows bytes more) e k;
}

-- ---- one byte, which stands for nothing but itself

abbrev pub literal_at : ℕ → Trouble → List ℕ → Parsing (Unit {0})
literal_at b t bytes = value_at (byte_at bytes) >>= λ x. if x.0 == b then Ok (tt, x.1) else Err (stop t (length bytes))

-- there is no byte, or another one
abbrev pub StopsLiteral : ℕ → Trouble → List ℕ → Stop → Type 0
StopsLiteral b t bytes s = StopsReading byte_at bytes s ⊎ ((c : ℕ) × (later : List ℕ) × (bytes ≡ c ∷ later) × ((c == b) ≡ false) × (s ≡ stop t (length bytes)))

pub literal_found : (b : ℕ) (t : Trouble) (bytes later : List ℕ) (x : Unit {0}) → Small bytes → literal_at b t bytes ≡ Ok (x, later) → Stands (λ bytes _. bytes ≡ b ∷ []) (λ _. Unit {0}) bytes later x
literal_found b t [] later x small e = absurd cc
literal_found b t (c ∷ bytes) later x small e = elim (cases_Bool (c == b)) [
  | inl is ↦
      let same = done_is (tt, bytes) (x, later) (rw is at e) in
      let rest : bytes ≡ later = ap (λ (z : Unit {0} × List ℕ). z.1) same in
      (b ∷ [], rw (eqb-true c b is, rest) refl, refl, tt)
  | inr apart ↦ let e = (rw apart at e) in absurd cc
]

pub literal_within : (b : ℕ) (t : Trouble) (bytes : List ℕ) → Inside (length bytes) (literal_at b t bytes)
literal_within b t [] = omega arith
literal_within b t (c ∷ bytes) = elim (cases_Bool (c == b)) as (λ _. Inside (length (c ∷ bytes)) (literal_at b t (c ∷ bytes))) [
  | inl is ↦ rw is (omega arith)
  | inr apart ↦ rw apart (omega arith)
]

pub literal_told : (b : ℕ) (t : Trouble) (bytes : List ℕ) (s : Stop) → literal_at b t bytes ≡ Err s → StopsLiteral b t bytes s
literal_told b t [] s e = inl (reading_told (byte_at []) s (ap refused (refused_is {A = Unit {0} × List ℕ} (stop (Read (kinds.EndOfFile 1)) 0) s e)))
literal_told b t (c ∷ bytes) s e = elim (cases_Bool (c == b)) [
  | inl is ↦ let e = (rw is at e) in absurd cc
  | inr apart ↦ inr (c, bytes, refl, apart, sym (refused_is {A = Unit {0} × List ℕ} (stop t (length (c ∷ bytes))) s (rw apart at e)))
]

pub literal_tells : (b : ℕ) (t : Trouble) (bytes : List ℕ) (s : Stop) → StopsLiteral b t bytes s → literal_at b t bytes ≡ Err s
literal_tells b t bytes s (inl h) = rw (h.1, h.2) refl
literal_tells b t bytes s (inr h) = rw (h.2, h.3, h.4) (rw h.2 refl)

pub literal_final : (b : ℕ) (t : Trouble) (bytes more : List ℕ) (s : Stop) → literal_at b t bytes ≡ Err s → can_end s.trouble ≡ false → literal_at b t (bytes ++ more) ≡ Err (moved (length more) s)
literal_final b t [] more s e k =
    let same = refused_is {A = Unit {0} × List ℕ} (stop (Read (kinds.EndOfFile 1)) 0) s e in
    let k : can_end (Read (kinds.EndOfFile 1)) ≡ false = subst (λ (s : Stop). can_end s.trouble ≡ false) (sym same) k in
    absurd cc
literal_final b t (c ∷ bytes) more s e k = elim (cases_Bool (c == b)) [
  | inl is ↦ let e = (rw is at e) in absurd cc
  | inr apart ↦
      let same = refused_is {A = Unit {0} × List ℕ} (stop t (length (c ∷ bytes))) s (rw apart at e) in
      let size : length (c ∷ (bytes ++ more)) ≡ length (c ∷ bytes) + length more = length-append (c ∷ bytes) more in
      rw apart (ap (λ (n : ℕ). refused (stop t n)) size ∙ ap (λ (s : Stop). refused (moved (length more) s)) same)
]

abbrev pub literal : ℕ → Trouble → Format (Unit {0})
literal b t = record {
  spells = λ bytes _. bytes ≡ b ∷ [];
  rules = λ _. Unit {0};
  stops = StopsLiteral b t;
  parse = literal_at b t;
  found = literal_found b t;
  again = λ bytes more x h r. rw (h, eq-eqb b b refl) refl;
  told = λ bytes s small e. literal_told b t bytes s e;
  tells = literal_tells b t;
  within = literal_within b t;
  final = λ bytes more s small e k. literal_final b t bytes more s e k;
}

-- ---- nothing is spelled so

pub never_found : {A : Type 0} (t : Trouble) (bytes later : List ℕ) (x : A) → (let no : Parsing A = Err (stop t (length bytes)) in no ≡ Ok (x, later)) → Stands (λ _ _. ⊥) (λ _. Unit {0}) bytes later x
never_found t bytes later x e = absurd cc

abbrev pub never : {A : Type 0} → Trouble → Format A
never {A} t = record {
  spells = λ _ _. ⊥;
  rules = λ _. Unit {0};
  stops = λ bytes s. s ≡ stop t (length bytes);
  parse = λ bytes. Err (stop t (length bytes));
  found = λ bytes later x small e. never_found t bytes later x e;
  again = λ bytes more x h r. absurd h;
  told = λ bytes s small e. sym (refused_is {A = A × List ℕ} (stop t (length bytes)) s e);
  tells = λ bytes s h. rw h refl;
  within = λ bytes. omega arith;
  final = λ bytes more s small e k.
      let same = refused_is {A = A × List ℕ} (stop t (length bytes)) s e in
      ap (λ (n : ℕ). refused (stop t n)) (length-append bytes more) ∙ ap (λ (s : Stop). refused (moved (length more) s)) same;
}

-- ---- one of two forms, by what was read before

abbrev pub either_type : Bool → Type 0 → Type 0 → Type 0
either_type true a b = a
either_type false a b = b

module _ {A : Type 0} (f g : Format A) where
  abbrev pub either_at : Bool → List ℕ → Parsing A
  either_at c bytes = if c then f.parse bytes else g.parse bytes

  pub either_found : (c : Bool) (bytes later : List ℕ) (x : A) → Small bytes → either_at c bytes ≡ Ok (x, later)
      → Stands (λ b x. either_type c (f.spells b x) (g.spells b x)) (λ x. either_type c (f.rules x) (g.rules x)) bytes later x
  either_found true bytes later x small e = f.found bytes later x small e
  either_found false bytes later x small e = g.found bytes later x small e

  pub either_again : (c : Bool) (bytes more : List ℕ) (x : A) → either_type c (f.spells bytes x) (g.spells bytes x) → either_type c (f.rules x) (g.rules x)
      → either_at c (bytes ++ more) ≡ Ok (x, more)
  either_again true bytes more x h r = f.again bytes more x h r
  either_again false bytes more x h r = g.again bytes more x h r

  pub either_told : (c : Bool) (bytes : List ℕ) (s : Stop) → Small bytes → either_at c bytes ≡ Err s → either_type c (f.stops bytes s) (g.stops bytes s)
  either_told true bytes s small e = f.told bytes s small e
  either_told false bytes s small e = g.told bytes s small e

  pub either_tells : (c : Bool) (bytes : List ℕ) (s : Stop) → either_type c (f.stops bytes s) (g.stops bytes s) → either_at c bytes ≡ Err s
  either_tells true bytes s h = f.tells bytes s h
  either_tells false bytes s h = g.tells bytes s h

  pub either_within : (c : Bool) (bytes : List ℕ) → Inside (length bytes) (either_at c bytes)
  either_within true bytes = f.within bytes
  either_within false bytes = g.within bytes

  pub either_final : (c : Bool) (bytes more : List ℕ) (s : Stop) → Small bytes → either_at c bytes ≡ Err s → can_end s.trouble ≡ false → either_at c (bytes ++ more) ≡ Err (moved (length more) s)
  either_final true bytes more s small e k = f.final bytes more s small e k
  either_final false bytes more s small e k = g.final bytes more s small e k

abbrev pub either : {A : Type 0} → Bool → Format A → Format A → Format A
either c f g = record {
  spells = λ bytes x. either_type c (f.spells bytes x) (g.spells bytes x);
  rules = λ x. either_type c (f.rules x) (g.rules x);
  stops = λ bytes s. either_type c (f.stops bytes s) (g.stops bytes s);
  parse = either_at f g c;
  found = either_found f g c;
  again = either_again f g c;
  told = either_told f g c;
  tells = either_tells f g c;
  within = either_within f g c;
  final = either_final f g c;
}
