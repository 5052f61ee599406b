-- Names in sets.
use Rattle.std.proofs.Common.{◌≡◌, ℕ, Bool, true, ◌&&◌, ◌||◌, not, eqb, ◌<◌, ◌-◌, ◌^◌, List, [], ◌∷◌, min, arith, ap, ◌∙◌, sym, refl, lit<, get_or}
use Rattle.std.specs.Prelude.{if◌then◌else◌}
use Rattle.std.specs.Int.RustNames.{bit_and}
use Rattle.std.specs.Int.{bit_at, w32}
use Rattle.std.specs.List.{list_any}
use Rattle.std.proofs.lemmas.Nat.{or_lt, and_le_r}
use Rattle.std.proofs.Math.Pow.{pow-lt}
use Rattle.std.proofs.lemmas.Nat.Bits.{bit_at_and, bit_at_or, bit_at_xor, bit_at_not, bit_at-lt, bit_at-zero, same_from_bits_below}
use Rattle.std.proofs.lemmas.Bool.{agree_below_at, eqb-true, eq-eqb}
use Rattle.wasm_features.specs.declared.WasmFeatures.{WasmFeatures}
use Rattle.wasm_features.specs.Features.{Feature, MutableGlobal, has, place, bits_of, features_of, all_names}
use Rattle.wasm_features.specs.Sets.{IsWithin, IsNamed, union, intersection, difference, symmetric_difference}
use Rattle.wasm_features.specs.Laws.{ListIsSet, SetIsItsNames, UnionByNames, IntersectionByNames, DifferenceByNames, SymmetricDifferenceByNames, ComplementByNames}
use Rattle.wasm_features.proofs.Digits.{has_digit, digit_of_power, either_digit, both_digits, first_digit_alone, one_digit, same_digit, kept_digit}

-- the digit of a name in a set
abbrev digit : WasmFeatures → Feature → ℕ
digit features name = bit_at features.bits (place name)

has_by_digit : (features : WasmFeatures) (name : Feature) → has features name ≡ eqb (digit features name) 1
has_by_digit features name = has_digit features.bits (place name)

small_digit : (features : WasmFeatures) (name : Feature) → digit features name < 2
small_digit features name = bit_at-lt features.bits (place name)

-- ---- the places of the names
pub place_below : (name : Feature) → place name < 24
place_below MutableGlobal = lit< tt
place_below _ = lit< tt

-- the name of a place
abbrev name_at : ℕ → Feature
name_at i = get_or all_names i MutableGlobal

pub name_at-place : (name : Feature) → name_at (place name) ≡ name
name_at-place MutableGlobal = refl
name_at-place _ = refl

place-name_at : (i : ℕ) → i < 24 → place (name_at i) ≡ i
place-name_at i h = eqb-true _ _ (agree_below_at (λ n. eqb (place (name_at n)) n) (λ _. true) 24 i refl h)

pub same_name : (a b : Feature) → eqb (place a) (place b) ≡ true → a ≡ b
same_name a b h = sym (name_at-place a) ∙ ap name_at (eqb-true _ _ h) ∙ name_at-place b

pub listed : (name : Feature) → list_any (λ other. eqb (place other) (place name)) all_names ≡ true
listed MutableGlobal = refl
listed _ = refl

-- ---- a list as a set
pub list_is_set : ListIsSet
list_is_set [] name = has_by_digit (features_of []) name ∙ ap (λ (d : ℕ). eqb d 1) (bit_at-zero (place name))
list_is_set (other ∷ names) name =
    let own = digit_of_power (place other) (place name) in
    let rest = sym (has_by_digit (features_of names) name) ∙ list_is_set names name in
    has_by_digit (features_of (other ∷ names)) name
    ∙ ap (λ (d : ℕ). eqb d 1) (bit_at_or (2 ^ place other) (bits_of names) (place name))
    ∙ either_digit _ _ (bit_at-lt (2 ^ place other) (place name)) (bit_at-lt (bits_of names) (place name))
    ∙ (λ i. own i || rest i)

pub list_is_named : (names : List Feature) → IsNamed (features_of names)
list_is_named [] = lit< tt
list_is_named (name ∷ names) = or_lt 24 (2 ^ place name) (bits_of names) (pow-lt (place_below name)) (list_is_named names)

-- ---- a set is its names
same_digits : (a b : WasmFeatures) → ((name : Feature) → has a name ≡ has b name) → (i : ℕ) → i < 24 → bit_at a.bits i ≡ bit_at b.bits i
same_digits a b same i h =
    let at = place-name_at i h in
    let name = name_at i in
    let e = sym (has_by_digit a name) ∙ same name ∙ has_by_digit b name in
    sym (ap (bit_at a.bits) at) ∙ same_digit _ _ (small_digit a name) (small_digit b name) e ∙ ap (bit_at b.bits) at

pub set_is_its_names : SetIsItsNames
set_is_its_names a b p q same =
    ap (λ (n : ℕ). record { bits = n }) (same_from_bits_below 24 a.bits b.bits p q (same_digits a b same))

-- ---- operations
pub union_by_names : UnionByNames
union_by_names a b name =
    has_by_digit (union a b) name ∙ ap (λ (d : ℕ). eqb d 1) (bit_at_or a.bits b.bits (place name))
    ∙ either_digit _ _ (small_digit a name) (small_digit b name) ∙ (λ i. sym (has_by_digit a name) i || sym (has_by_digit b name) i)

pub intersection_by_names : IntersectionByNames
intersection_by_names a b name =
    has_by_digit (intersection a b) name ∙ ap (λ (d : ℕ). eqb d 1) (bit_at_and a.bits b.bits (place name))
    ∙ both_digits _ _ (small_digit a name) (small_digit b name) ∙ (λ i. sym (has_by_digit a name) i && sym (has_by_digit b name) i)

pub difference_by_names : DifferenceByNames
difference_by_names a b fits name =
    let other = bit_at_not w32 b.bits (place name) fits (omega (arith, place_below name)) in
    has_by_digit (difference a b) name ∙ ap (λ (d : ℕ). eqb d 1) (bit_at_and a.bits (2 ^ 32 - 1 - b.bits) (place name))
    ∙ ap (λ (d : ℕ). eqb (min (digit a name) d) 1) other
    ∙ first_digit_alone _ _ (small_digit a name) (small_digit b name) ∙ (λ i. sym (has_by_digit a name) i && not (sym (has_by_digit b name) i))

pub symmetric_difference_by_names : SymmetricDifferenceByNames
symmetric_difference_by_names a b name =
    has_by_digit (symmetric_difference a b) name ∙ ap (λ (d : ℕ). eqb d 1) (bit_at_xor a.bits b.bits (place name))
    ∙ one_digit _ _ (small_digit a name) (small_digit b name)
    ∙ (λ i. if sym (has_by_digit a name) i then not (sym (has_by_digit b name) i) else sym (has_by_digit b name) i)

has_each : (name : Feature) → has (features_of all_names) name ≡ true
has_each name = list_is_set all_names name ∙ listed name

pub complement_by_names : ComplementByNames
complement_by_names a fits name =
    difference_by_names (features_of all_names) a fits name ∙ ap (λ (b : Bool). b && not (has a name)) (has_each name)

-- ---- subsets
pub within_of_and : (small large : WasmFeatures) → bit_and large.bits small.bits ≡ small.bits → IsWithin small large
within_of_and small large e name h =
    let d = eqb-true _ _ (sym (has_by_digit small name) ∙ h) in
    let at = sym (bit_at_and large.bits small.bits (place name)) ∙ ap (λ (n : ℕ). bit_at n (place name)) e in
    has_by_digit large name ∙ eq-eqb _ _ (omega (arith, at, d, bit_at-lt large.bits (place name)))

kept_digits : (low large : WasmFeatures) → IsWithin low large → (i : ℕ) → i < 24 → bit_at low.bits i ≡ 1 → bit_at large.bits i ≡ 1
kept_digits low large within i h e =
    let at = place-name_at i h in
    let name = name_at i in
    let there = has_by_digit low name ∙ eq-eqb _ _ (ap (bit_at low.bits) at ∙ e) in
    sym (ap (bit_at large.bits) at) ∙ eqb-true _ _ (sym (has_by_digit large name) ∙ within name there)

pub and_of_within : (low large : WasmFeatures) → IsNamed low → IsWithin low large → bit_and large.bits low.bits ≡ low.bits
and_of_within low large named within =
    same_from_bits_below 24 _ _ (omega (arith, and_le_r large.bits low.bits)) named
    (λ i h. bit_at_and large.bits low.bits i ∙ kept_digit _ _ (bit_at-lt low.bits i) (kept_digits low large within i h))
