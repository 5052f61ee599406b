-- Entries that there may be no room for: the limit's fault stands at the first byte, before all faults of the entry at later places, and behind
-- one at that very byte.
use Rattle.std.specs.Prelude.{ℕ, ◌+◌, ◌<◌, ◌≤◌, ◌≡◌, nat_lt, Bool, true, false, List, ◌++◌, length, Ok, Err, ◌⊎◌, if◌then◌else◌, refl}
use Rattle.std.proofs.Common.{ap, sym, subst, arith, inl, inr}
use Rattle.std.proofs.lemmas.Bool.{cases_lt, lt-ltb, le-ltb}
use Rattle.std.proofs.lemmas.List.{length-append}
use Rattle.wasm_formats.specs.declared.fault.Limited.{Limited}
use Rattle.wasm_formats.specs.Stops.{Limit, Stop, stop, moved, can_end, Parsing}
use Rattle.wasm_formats.specs.Formats.{Format, Small, Stands, Inside, done_refused, refused, refused_is}
use Rattle.wasm_formats.specs.Bytes.{either}
use Rattle.wasm_formats.specs.Joined.{Behind}

-- trouble of a limit isn't final
pub limit_ends : {P : Type 0} (of : Limited) (left : ℕ) (s : Stop) → s ≡ stop (Limit of) left → can_end s.trouble ≡ false → P
limit_ends of left s e k = let k : true ≡ false = subst (λ (s : Stop). can_end s.trouble ≡ false) e k in absurd cc

module _ {A : Type 0} (of : Limited) (f : Format A) where
  abbrev pub first_or : ℕ → Parsing A → Stop
  first_or left (Ok x) = stop (Limit of) left
  first_or left (Err s) = if nat_lt s.left left then stop (Limit of) left else s

  -- the entry is refused at its first byte; or it stands there, or is refused at a later place, and the limit was reached
  abbrev pub StopsFull : List ℕ → Stop → Type 0
  StopsFull bytes s = (f.stops bytes s × (length bytes ≤ s.left))
      ⊎ ((Behind f bytes (λ x later. Unit {0}) ⊎ ((e : Stop) × f.stops bytes e × (e.left < length bytes))) × (s ≡ stop (Limit of) (length bytes)))

  pub full_found : (bytes later : List ℕ) (x : A) → refused {A = A × List ℕ} (first_or (length bytes) (f.parse bytes)) ≡ Ok (x, later) → Stands f.spells (λ _. ⊥) bytes later x
  full_found bytes later x e = done_refused (x, later) (first_or (length bytes) (f.parse bytes)) (sym e)

  pub full_told : (bytes : List ℕ) (s : Stop) (r : Parsing A) → Small bytes → f.parse bytes ≡ r → first_or (length bytes) r ≡ s → StopsFull bytes s
  full_told bytes s (Ok x) small p e = inr (inl (x.0, x.1, f.found bytes x.1 x.0 small p, tt), sym e)
  full_told bytes s (Err d) small p e = elim (cases_lt d.left (length bytes)) [
    | inl lt ↦ inr (inr (d, f.told bytes d small p, lt), sym (rw (lt-ltb d.left (length bytes) lt) at e))
    | inr le ↦
        let same : d ≡ s = (rw (le-ltb d.left (length bytes) le) at e) in
        inl (subst (λ (s : Stop). f.stops bytes s × (length bytes ≤ s.left)) same (f.told bytes d small p, le))
  ]

  pub full_tells : (bytes : List ℕ) (s : Stop) → StopsFull bytes s → first_or (length bytes) (f.parse bytes) ≡ s
  full_tells bytes s (inl h) = rw (f.tells bytes s h.0, le-ltb s.left (length bytes) h.1) refl
  full_tells bytes s (inr (inl stands, e)) =
      let there = stands.2 in
      let read : f.parse bytes ≡ Ok (stands.0, stands.1) = rw there.1 (f.again there.0 stands.1 stands.0 there.2 there.3) in
      rw (read, e) refl
  full_tells bytes s (inr (inr later, e)) = rw (f.tells bytes later.0 later.1, lt-ltb (later.0).left (length bytes) later.2, e) refl

  pub full_inside : (n : ℕ) (r : Parsing A) → Inside n r → (first_or n r).left ≤ n
  full_inside n (Ok x) h = omega arith
  full_inside n (Err s) h = elim (cases_lt s.left n) as (λ _. (first_or n (Err s)).left ≤ n) [
    | inl lt ↦ rw (lt-ltb s.left n lt) (omega arith)
    | inr le ↦ rw (le-ltb s.left n le) h
  ]

  pub full_final : (bytes more : List ℕ) (s : Stop) (r : Parsing A) → Small bytes → f.parse bytes ≡ r → first_or (length bytes) r ≡ s → can_end s.trouble ≡ false
      → first_or (length (bytes ++ more)) (f.parse (bytes ++ more)) ≡ moved (length more) s
  full_final bytes more s (Ok x) small p e k = limit_ends of (length bytes) s (sym e) k
  full_final bytes more s (Err d) small p e k = elim (cases_lt d.left (length bytes)) [
    | inl lt ↦ limit_ends of (length bytes) s (sym (rw (lt-ltb d.left (length bytes) lt) at e)) k
    | inr le ↦
        let same : d ≡ s = (rw (le-ltb d.left (length bytes) le) at e) in
        let still = f.final bytes more d small p (subst (λ (s : Stop). can_end s.trouble ≡ false) (sym same) k) in
        rw (still, le-ltb (d.left + length more) (length (bytes ++ more)) (omega (arith, le, length-append bytes more))) (ap (λ (s : Stop). moved (length more) s) same)
  ]

  -- no room is left
  abbrev pub full : Format A
  full = record {
    spells = f.spells;
    rules = λ _. ⊥;
    stops = StopsFull;
    parse = λ bytes. Err (first_or (length bytes) (f.parse bytes));
    found = λ bytes later x small e. full_found bytes later x e;
    again = λ bytes more x h r. absurd r;
    told = λ bytes s small e. full_told bytes s (f.parse bytes) small refl (refused_is {A = A × List ℕ} (first_or (length bytes) (f.parse bytes)) s e);
    tells = λ bytes s h. ap refused (full_tells bytes s h);
    within = λ bytes. full_inside (length bytes) (f.parse bytes) (f.within bytes);
    final = λ bytes more s small e k. ap refused (full_final bytes more s (f.parse bytes) small refl (refused_is {A = A × List ℕ} (first_or (length bytes) (f.parse bytes)) s e) k);
  }

-- an entry, where there is room for it
abbrev pub if_room : {A : Type 0} → Bool → Limited → Format A → Format A
if_room room of f = either room f (full of f)
