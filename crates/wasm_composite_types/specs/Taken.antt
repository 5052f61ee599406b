-- Lemmas: how readings that take just the spellings are put together.
use Rattle.std.specs.Prelude.{ℕ, ◌<◌, ◌≡◌, Bool, true, false, List, [], ◌∷◌, ◌++◌, length, All, Ok, Err, if◌then◌else◌, refl}
use Rattle.std.proofs.Common.{ap, sym, ◌∙◌, subst}
use Rattle.std.proofs.lemmas.List.{append_assoc}
use Rattle.std.proofs.lemmas.List.Elements.{All-tail}
use Rattle.wasm_ref_types.specs.wasm_features.declared.WasmFeatures.{WasmFeatures}
use Rattle.wasm_ref_types.specs.wasm_features.Features.{Feature, enables, constant, features_of}
use Rattle.wasm_ref_types.specs.wasm_reader.declared.error.ErrorKind.TheVariants as kinds
use Rattle.wasm_ref_types.specs.wasm_reader.Reading.{Reading, Fault, fault, ◌>>=◌, byte_at}
use Rattle.wasm_ref_types.specs.wasm_reader.Laws.{TakesSpelled}
use Rattle.wasm_ref_types.specs.wasm_reader.Spellings.{ok_is, then_was}
use Rattle.wasm_ref_types.specs.wasm_reader.Vecs.{later_bytes}
use Rattle.wasm_composite_types.specs.Readings.{gated}
use Rattle.wasm_composite_types.specs.Spellings.{SpellsBoth}

abbrev pub Small : List ℕ → Type 0
Small bytes = All (λ b. b < 256) bytes

-- a front of the bytes is spelled so, and these are left
abbrev pub Fronts : {A : Type 0} → (List ℕ → A → Type 0) → List ℕ → List ℕ → A → Type 0
Fronts spells bytes later value = (front : List ℕ) × spells front value × (bytes ≡ front ++ later)

-- what is refused has no spelling
pub none_taken : {A : Type 0} (f : Fault) (spells : List ℕ → A → Type 0) → ((bytes : List ℕ) (value : A) → spells bytes value → ⊥) → TakesSpelled (λ bytes. Err f) spells
none_taken f spells none = record { again = λ bytes more value h. absurd (none bytes value h); found = λ bytes later value small e. absurd cc }

pub test_taken : {A : Type 0} (test : Bool) (f g : List ℕ → Reading A) (spells : List ℕ → A → Type 0) → (test ≡ true → TakesSpelled f spells) → (test ≡ false → TakesSpelled g spells)
    → TakesSpelled (λ bytes. if test then f bytes else g bytes) spells
test_taken true f g spells p q = p refl
test_taken false f g spells p q = q refl

pub gated_taken : {A : Type 0} (features : WasmFeatures) (name : Feature) (start : ℕ) (reading : List ℕ → Reading A) (spells : List ℕ → A → Type 0)
    → (enables features name ≡ true → TakesSpelled reading spells) → ((bytes : List ℕ) (value : A) → spells bytes value → enables features name ≡ true)
    → TakesSpelled (λ bytes. gated features name start (reading bytes)) spells
gated_taken features name start reading spells on asks =
    test_taken (enables features name) reading (λ bytes. Err (fault (kinds.Feature (features_of (constant name))) start)) spells on
    (λ off. none_taken _ spells (λ bytes value h. let is = sym off ∙ asks bytes value h in cc))

-- a value made of the one that was read, or of two that were read one after another
abbrev pub mapped : {A B : Type 0} → (A → B) → Reading A → Reading B
mapped make r = r >>= λ x. Ok (make x.0, x.1)

abbrev pub joined : {A B C : Type 0} → (A → B → C) → Reading A → (List ℕ → Reading B) → Reading C
joined make r second = r >>= λ a. mapped (make a.0) (second a.1)

module _ {A B : Type 0} (reading : List ℕ → Reading A) (spells : List ℕ → A → Type 0) (taken : TakesSpelled reading spells) (make : A → B) (Made : List ℕ → B → Type 0)
    (into : (bytes : List ℕ) (value : B) → Made bytes value → (x : A) × (make x ≡ value) × spells bytes x) (onto : (bytes : List ℕ) (x : A) → spells bytes x → Made bytes (make x)) where
  made_again : (bytes more : List ℕ) (value : B) → Made bytes value → mapped make (reading (bytes ++ more)) ≡ Ok (value, more)
  made_again bytes more value h =
      let was = into bytes value h in
      rw (taken.again bytes more was.0 was.2) (ap (λ (b : B). Ok (b, more)) was.1)

  made_found : (bytes later : List ℕ) (value : B) → Small bytes → mapped make (reading bytes) ≡ Ok (value, later) → Fronts Made bytes later value
  made_found bytes later value small e =
      let was = then_was (reading bytes) (λ x. Ok (make x.0, x.1)) (value, later) e in
      let same = ok_is (make was.0.0, was.0.1) (value, later) was.2 in
      let found = taken.found bytes was.0.1 was.0.0 small was.1 in
      (found.0, subst (Made found.0) (ap (λ p. p.0) same) (onto found.0 was.0.0 found.1), found.2 ∙ ap (λ p. found.0 ++ p.1) same)

  pub made_taken : TakesSpelled (λ bytes. mapped make (reading bytes)) Made
  made_taken = record { again = made_again; found = made_found }

module _ {A B C : Type 0} (first : List ℕ → Reading A) (First : List ℕ → A → Type 0) (taken : TakesSpelled first First)
    (second : List ℕ → Reading B) (Second : List ℕ → B → Type 0) (later_taken : TakesSpelled second Second)
    (make : A → B → C) (Made : List ℕ → C → Type 0) (into : (bytes : List ℕ) (c : C) → Made bytes c → (a : A) × (b : B) × (make a b ≡ c) × SpellsBoth First Second bytes a b)
    (onto : (bytes : List ℕ) (a : A) (b : B) → SpellsBoth First Second bytes a b → Made bytes (make a b)) where
  both_again : (bytes more : List ℕ) (c : C) → Made bytes c → joined make (first (bytes ++ more)) second ≡ Ok (c, more)
  both_again bytes more c h =
      let was = into bytes c h in
      let both = was.3 in
      rw (both.2, append_assoc both.0 both.1 more, taken.again both.0 (both.1 ++ more) was.0 both.3, later_taken.again both.1 more was.1 both.4) (ap (λ (c : C). Ok (c, more)) was.2)

  both_found : (bytes later : List ℕ) (c : C) → Small bytes → joined make (first bytes) second ≡ Ok (c, later) → Fronts Made bytes later c
  both_found bytes later c small e =
      let one = then_was (first bytes) (λ a. mapped (make a.0) (second a.1)) (c, later) e in
      let two = then_was (second one.0.1) (λ b. Ok (make one.0.0 b.0, b.1)) (c, later) one.2 in
      let same = ok_is (make one.0.0 two.0.0, two.0.1) (c, later) two.2 in
      let found = taken.found bytes one.0.1 one.0.0 small one.1 in
      let rest = later_taken.found one.0.1 two.0.1 two.0.0 (later_bytes found.0 one.0.1 (subst Small found.2 small)) two.1 in (
        found.0 ++ rest.0,
        subst (Made (found.0 ++ rest.0)) (ap (λ p. p.0) same) (onto (found.0 ++ rest.0) one.0.0 two.0.0 (found.0, rest.0, refl, found.1, rest.1)),
        found.2 ∙ ap (λ (l : List ℕ). found.0 ++ l) rest.2 ∙ sym (append_assoc found.0 rest.0 two.0.1) ∙ ap (λ p. (found.0 ++ rest.0) ++ p.1) same,
      )

  pub both_taken : TakesSpelled (λ bytes. joined make (first bytes) second) Made
  both_taken = record { again = both_again; found = both_found }

-- the same spellings in other words
pub same_taken : {A : Type 0} (reading : List ℕ → Reading A) (One Other : List ℕ → A → Type 0) → TakesSpelled reading One
    → ((bytes : List ℕ) (value : A) → Other bytes value → One bytes value) → ((bytes : List ℕ) (value : A) → One bytes value → Other bytes value) → TakesSpelled reading Other
same_taken reading One Other taken into onto = record {
  again = λ bytes more value h. taken.again bytes more value (into bytes value h);
  found = λ bytes later value small e. let found = taken.found bytes later value small e in (found.0, onto found.0 value found.1, found.2);
}

-- a byte, and what follows it, by that byte
module _ {A : Type 0} (after : ℕ → ℕ → List ℕ → Reading A) (spells : List ℕ → A → Type 0)
    (none : (value : A) → spells [] value → ⊥) (taken : (b start : ℕ) → TakesSpelled (after b start) (λ bytes value. spells (b ∷ bytes) value)) where
  begun_again : (bytes more : List ℕ) (value : A) → spells bytes value → (byte_at (bytes ++ more) >>= λ b. after b.0 (length (bytes ++ more)) b.1) ≡ Ok (value, more)
  begun_again [] more value h = absurd (none value h)
  begun_again (b ∷ bytes) more value h = (taken b (length (b ∷ (bytes ++ more)))).again bytes more value h

  begun_found : (bytes later : List ℕ) (value : A) → Small bytes → (byte_at bytes >>= λ b. after b.0 (length bytes) b.1) ≡ Ok (value, later) → Fronts spells bytes later value
  begun_found [] later value small e = absurd cc
  begun_found (b ∷ bytes) later value small e =
      let found = (taken b (length (b ∷ bytes))).found bytes later value (All-tail (λ b. b < 256) b bytes small) e in
      (b ∷ found.0, found.1, ap (λ (l : List ℕ). b ∷ l) found.2)

  pub begun_taken : TakesSpelled (λ bytes. byte_at bytes >>= λ b. after b.0 (length bytes) b.1) spells
  begun_taken = record { again = begun_again; found = begun_found }
