-- Lists are written item by item.
use Rattle.std.specs.Prelude.{ℕ, zero, suc, ◌≡◌, ◌<◌, ◌≤◌, List, [], ◌∷◌, ◌++◌, length, take, drop, map, slice_index_or, refl}
use Rattle.std.specs.List.{flat_map}
use Rattle.std.proofs.Common.{ap, sym, ◌∙◌, subst, arith, inl, inr}
use Rattle.std.proofs.lemmas.Bool.{cases_lt, lt-ltb, le-ltb}
use Rattle.std.proofs.lemmas.List.{append_assoc, length-append}
use Rattle.wasm_reader.specs.Shortest.{shortest_unsigned, u32_bytes}
use Rattle.wasm_name_payloads.specs.Written.{name_bytes, vec_bytes, value_bytes, field_bytes}
use Rattle.wasm_producers.specs.Entries.{Value, Field}
use Rattle.walrus_errors.specs.declared.error.ModuleError.{ModuleError}
use Rattle.walrus_payload_writers.specs.Writes.{Refused, SizeRefused}
use Rattle.walrus_payload_writers.proofs.Lemmas.{wider, size_cause, refused_front, refused_on}

module _ {Y X : Type 0} (see : Y → X) (f : X → List ℕ) where
  abbrev all_bytes : List Y → List ℕ
  all_bytes xs = flat_map f (map see xs)

  -- the bytes of the items before one, of it, and of those behind it
  around : (xs : List Y) (i : ℕ) (other : Y) → i < length xs → all_bytes xs ≡ all_bytes (take i xs) ++ (f (see (slice_index_or xs i other)) ++ all_bytes (drop (suc i) xs))
  around [] i other lt = absurd (omega (arith, lt))
  around (y ∷ xs) zero other lt = refl
  around (y ∷ xs) (suc i) other lt =
      ap (λ (l : List ℕ). f (see y) ++ l) (around xs i other (omega (arith, lt)))
      ∙ sym (append_assoc (f (see y)) (all_bytes (take i xs)) (f (see (slice_index_or xs i other)) ++ all_bytes (drop (suc i) xs)))

  -- an item is refused behind those before it
  pub item_refused : (xs : List Y) (i : ℕ) (other : Y) (old mid new front : List ℕ) (e : ModuleError) → i < length xs → mid ≡ old ++ (front ++ all_bytes (take i xs))
      → Refused (f (see (slice_index_or xs i other))) mid new e → Refused (front ++ all_bytes xs) old new e
  item_refused xs i other old mid new front e lt same h =
      let now = f (see (slice_index_or xs i other)) in
      let later = all_bytes (drop (suc i) xs) in
      let all : (front ++ all_bytes (take i xs)) ++ (now ++ later) ≡ front ++ all_bytes xs =
      append_assoc front (all_bytes (take i xs)) (now ++ later) ∙ ap (λ (l : List ℕ). front ++ l) (sym (around xs i other lt)) in
      subst (λ (l : List ℕ). Refused l old new e) all
      (refused_on (front ++ all_bytes (take i xs)) (now ++ later) old mid new e same (refused_front now later mid new e h))

  -- the same of an item that a loop names
  pub named_refused : (xs : List Y) (i : ℕ) (other now : Y) (old mid new front : List ℕ) (e : ModuleError) → now ≡ slice_index_or xs i other → i < length xs
      → mid ≡ old ++ (front ++ all_bytes (take i xs)) → Refused (f (see now)) mid new e → Refused (front ++ all_bytes xs) old new e
  named_refused xs i other now old mid new front e is lt same h = item_refused xs i other old mid new front e lt same (subst (λ (y : Y). Refused (f (see y)) mid new e) is h)

  many : ((x : X) → 0 < length (f x)) → (xs : List Y) → length xs ≤ length (all_bytes xs)
  many takes [] = omega arith
  many takes (x ∷ xs) = omega (arith, takes (see x), many takes xs, length-append (f (see x)) (all_bytes xs))

  -- the count is refused
  pub count_refused : ((x : X) → 0 < length (f x)) → (xs : List Y) (old new : List ℕ) (e : ModuleError) → SizeRefused (length xs) old new e → Refused (vec_bytes f (map see xs)) old new e
  count_refused takes xs old new e h = record {
    keeps = h.keeps;
    cause = wider (length xs) (length (vec_bytes f (map see xs))) e (omega (arith, many takes xs, length-append (u32_bytes (length (map see xs))) (all_bytes xs))) (size_cause (length xs) e h.cause);
  }

-- a number takes a byte at least
number_some : (n : ℕ) → 0 < length (u32_bytes n)
unfolding shortest_unsigned
number_some n = elim (cases_lt n 128) [
  | inl lt ↦ rw (lt-ltb n 128 lt) (omega arith)
  | inr le ↦ rw (le-ltb n 128 le) (omega arith)
]

pub numbered_some : (n : ℕ) (later : List ℕ) → 0 < length (u32_bytes n ++ later)
numbered_some n later = omega (arith, number_some n, length-append (u32_bytes n) later)

named_some : (name later : List ℕ) → 0 < length (name_bytes name ++ later)
named_some name later = omega (arith, number_some (length name), length-append (u32_bytes (length name)) name, length-append (name_bytes name) later)

pub named_value : (v : Value) → 0 < length (value_bytes v)
named_value v = named_some v.name (name_bytes v.version)

pub named_field : (f : Field) → 0 < length (field_bytes f)
named_field f = named_some f.name (vec_bytes value_bytes f.values)
