-- Lemmas: block types are read from the bytes that spell them, and from no others.
use Rattle.std.specs.Prelude.{ℕ, ◌+◌, ◌-◌, ◌<◌, ◌≤◌, ◌≡◌, ◌⊎◌, ◌==◌, ◌&&◌, ◌^◌, nat_lt, nat_le, Bool, true, false, ℤ, pos, negsuc, ◌-ℤ◌, List, [], ◌∷◌, ◌++◌, length, Ok, Err, All, if◌then◌else◌, refl}
use Rattle.std.proofs.Common.{ap, sym, ◌∙◌, subst, arith, inl, inr}
use Rattle.std.proofs.lemmas.Int.{ints}
use Rattle.std.proofs.lemmas.Bool.{cases_Bool, cases_lt, eqb-true, ltb-true, lt-ltb, le-ltb, ne_eqb, le-leb, lt-leb}
use Rattle.std.proofs.lemmas.List.Elements.{All-tail}
use Rattle.wasm_composite_types.specs.wasm_features.declared.WasmFeatures.{WasmFeatures}
use Rattle.wasm_composite_types.specs.wasm_reader.declared.error.ErrorKind.TheVariants as faults
use Rattle.wasm_composite_types.specs.wasm_reader.Reading.{Reading, Fault, fault, ◌>>=◌, byte_at, next_at}
use Rattle.wasm_composite_types.specs.wasm_reader.Numbers.{Style, signed, Spells, s33_at}
use Rattle.wasm_composite_types.specs.wasm_reader.Laws.{TakesSpelled}
use Rattle.wasm_composite_types.specs.wasm_reader.Spellings.{ok_is, then_was, if_was, number_taken}
use Rattle.wasm_composite_types.specs.wasm_reader.Vecs.{later_bytes}
use Rattle.wasm_composite_types.specs.wasm_ref_types.declared.value.ValType.{ValType}
use Rattle.wasm_composite_types.specs.wasm_ref_types.ReadTypes.{value_at, reference_at, abstract_at}
use Rattle.wasm_composite_types.specs.wasm_ref_types.TypeSpellings.{SpellsValue}
use Rattle.wasm_composite_types.specs.wasm_ref_types.TypesTaken.{value_taken}
use Rattle.wasm_composite_types.specs.wasm_ref_types.TypesFinal.{value_begins}
use Rattle.wasm_operators.specs.declared.block_type.BlockType.{BlockType}
use Rattle.wasm_operators.specs.declared.block_type.BlockType.TheVariants as blocks
use Rattle.wasm_composite_types.specs.Taken.{Small, Fronts}
use Rattle.wasm_operators.specs.Readings.{type_as, type_index_at, empty_at, block_at}
use Rattle.wasm_operators.specs.ItemSpellings.{SpellsBlock}

abbrev Outside : ℕ → Type 0
Outside b = (b < 0x41) ⊎ (0x80 ≤ b)

apart : (b c : ℕ) → Outside b → 0x41 ≤ c → c < 0x80 → (b == c) ≡ false
apart b c (inl h) p q = ne_eqb b c (λ is. omega arith)
apart b c (inr h) p q = ne_eqb b c (λ is. omega arith)

not_value : (features : WasmFeatures) (b : ℕ) (bytes later : List ℕ) (ty : ValType) → Outside b → value_at features (b ∷ bytes) ≡ Ok (ty, later) → ⊥
unfolding value_at reference_at abstract_at
not_value features b bytes later ty h e =
    let e = (rw (
      apart b 0x7f h (omega arith) (omega arith),
      apart b 0x7e h (omega arith) (omega arith),
      apart b 0x7d h (omega arith) (omega arith),
      apart b 0x7c h (omega arith) (omega arith),
      apart b 0x7b h (omega arith) (omega arith),
      apart b 0x63 h (omega arith) (omega arith),
      apart b 0x64 h (omega arith) (omega arith),
      apart b 0x65 h (omega arith) (omega arith),
      apart b 0x70 h (omega arith) (omega arith),
      apart b 0x6f h (omega arith) (omega arith),
      apart b 0x6e h (omega arith) (omega arith),
      apart b 0x71 h (omega arith) (omega arith),
      apart b 0x72 h (omega arith) (omega arith),
      apart b 0x73 h (omega arith) (omega arith),
      apart b 0x6d h (omega arith) (omega arith),
      apart b 0x6b h (omega arith) (omega arith),
      apart b 0x6a h (omega arith) (omega arith),
      apart b 0x6c h (omega arith) (omega arith),
      apart b 0x69 h (omega arith) (omega arith),
      apart b 0x74 h (omega arith) (omega arith),
    ) at e) in cc

value_first : (features : WasmFeatures) (b : ℕ) (bytes later : List ℕ) (ty : ValType) → value_at features (b ∷ bytes) ≡ Ok (ty, later) → (0x41 ≤ b) × (b < 0x80)
value_first features b bytes later ty e = elim (cases_lt b 0x41) [
  | inl low ↦ absurd (not_value features b bytes later ty (inl low) e)
  | inr high ↦ elim (cases_lt b 0x80) [
    | inl below ↦ (high, below)
    | inr above ↦ absurd (not_value features b bytes later ty (inr above) e)
  ]
]

index_first : (b : ℕ) (bytes : List ℕ) (n : ℕ) → Spells signed 33 (b ∷ bytes) (pos n) → (b < 0x40) ⊎ (0x80 ≤ b)
index_first b bytes n (inl h) = elim (cases_lt b 0x40) [
  | inl low ↦ inl low
  | inr high ↦
      let is : pos n ≡ pos b -ℤ pos 128 = (rw (le-ltb b 64 high) at h.3) in
      let small = h.0 in
      absurd (omega (arith, ints))
]
index_first b bytes n (inr h) = inr h.0

-- which of the three forms begins with this byte
tests : (b : ℕ) → (b < 0x40) ⊎ (0x80 ≤ b) → (nat_lt 0x40 b && nat_lt b 0x80) ≡ false
tests b (inl h) = let low : b ≤ 0x40 = omega arith in rw (le-ltb 0x40 b low) refl
tests b (inr h) = let low : 0x40 < b = omega arith in rw (lt-ltb 0x40 b low, le-ltb b 0x80 h) refl

not_empty : (b : ℕ) → (b < 0x40) ⊎ (0x80 ≤ b) → (b == 0x40) ≡ false
not_empty b (inl h) = ne_eqb b 0x40 (λ is. omega arith)
not_empty b (inr h) = ne_eqb b 0x40 (λ is. omega arith)

type_again : (bytes more : List ℕ) (n : ℕ) → n < 2 ^ 32 → Spells signed 33 bytes (pos n) → type_index_at (bytes ++ more) ≡ Ok (blocks.Type n, more)
unfolding type_index_at
type_again bytes more n small h = rw ((number_taken signed faults.TooLong 33).again bytes more (pos n) h, lt-ltb n (2 ^ 32) small) refl

block_again : (features : WasmFeatures) (bytes more : List ℕ) (ty : BlockType) → SpellsBlock features bytes ty → block_at features (bytes ++ more) ≡ Ok (ty, more)
unfolding block_at empty_at
block_again features bytes more blocks.Empty h = rw h refl
block_again features bytes more (blocks.Value ty) h = at (bytes ++ more) ((value_taken features).again bytes more ty h)
  where
    at : (all : List ℕ) → value_at features all ≡ Ok (ty, more) → block_at features all ≡ Ok (blocks.Value ty, more)
    at [] e = let none = sym e ∙ (value_begins features).none in cc
    at (b ∷ all) e =
        let first = value_first features b all more ty e in
        let low : 0x40 < b = omega (arith, first.0) in
        rw (ne_eqb b 0x40 (λ is. omega (arith, first.0)), lt-ltb 0x40 b low, lt-ltb b 0x80 first.1, e) refl
block_again features [] more (blocks.Type n) h = absurd h.1
block_again features (b ∷ bytes) more (blocks.Type n) h =
    let first = index_first b bytes n h.1 in
    rw (not_empty b first, tests b first) (type_again (b ∷ bytes) more n h.0 h.1)

type_was : (z : ℤ) (left : ℕ) (bytes later : List ℕ) (value : BlockType) → type_as z left bytes ≡ Ok (value, later)
    → (n : ℕ) × (z ≡ pos n) × (n < 2 ^ 32) × (value ≡ blocks.Type n) × (bytes ≡ later)
type_was (pos n) left bytes later value e =
    let tested = if_was (nat_lt n (2 ^ 32)) (blocks.Type n, bytes) (value, later) (fault faults.BadByte left) e in
    (n, refl, ltb-true n (2 ^ 32) tested.0, sym (ap (λ p. p.0) tested.1), ap (λ p. p.1) tested.1)
type_was (negsuc n) left bytes later value e = absurd cc

type_found : (features : WasmFeatures) (bytes later : List ℕ) (value : BlockType) → Small bytes → type_index_at bytes ≡ Ok (value, later) → Fronts (SpellsBlock features) bytes later value
unfolding type_index_at
type_found features bytes later value small e =
    let was = then_was (s33_at bytes) (λ n. type_as n.0 (length bytes) n.1) (value, later) e in
    let is = type_was was.0.0 (length bytes) was.0.1 later value was.2 in
    let found = (number_taken signed faults.TooLong 33).found bytes was.0.1 was.0.0 small was.1 in
    (found.0, subst (SpellsBlock features found.0) (sym is.3) (is.2, subst (λ (z : ℤ). Spells signed 33 found.0 z) is.1 found.1), found.2 ∙ ap (λ (l : List ℕ). found.0 ++ l) is.4)

block_found : (features : WasmFeatures) (bytes later : List ℕ) (value : BlockType) → Small bytes → block_at features bytes ≡ Ok (value, later) → Fronts (SpellsBlock features) bytes later value
unfolding block_at empty_at
block_found features [] later value small e = absurd cc
block_found features (b ∷ bytes) later value small e = elim (cases_Bool (b == 0x40)) [
  | inl is ↦
      let same = ok_is (blocks.Empty, bytes) (value, later) (rw is at e) in
      (b ∷ [], subst (SpellsBlock features (b ∷ [])) (ap (λ p. p.0) same) (ap (λ (n : ℕ). n ∷ []) (eqb-true b 0x40 is)), ap (λ p. b ∷ p.1) same)
  | inr not ↦ let e = (rw not at e) in elim (cases_Bool (nat_lt 0x40 b && nat_lt b 0x80)) [
    | inl in_range ↦
        let was = then_was (value_at features (b ∷ bytes)) (λ ty. Ok (blocks.Value ty.0, ty.1)) (value, later) (rw in_range at e) in
        let same = ok_is (blocks.Value was.0.0, was.0.1) (value, later) was.2 in
        let found = (value_taken features).found (b ∷ bytes) was.0.1 was.0.0 small was.1 in
        (found.0, subst (SpellsBlock features found.0) (ap (λ p. p.0) same) found.1, found.2 ∙ ap (λ p. found.0 ++ p.1) same)
    | inr out ↦ type_found features (b ∷ bytes) later value small (rw out at e)
  ]
]

pub block_taken : (features : WasmFeatures) → TakesSpelled (block_at features) (SpellsBlock features)
block_taken features = record { again = block_again features; found = block_found features }
