-- Entries up to a byte that closes them.
use Rattle.std.specs.Prelude.{ℕ, zero, suc, ◌+◌, ◌<◌, ◌≤◌, ◌≡◌, true, false, List, [], ◌∷◌, ◌++◌, length, Ok, Err, ◌⊎◌, refl}
use Rattle.std.proofs.Common.{ap, sym, ◌∙◌, subst, arith, inl, inr}
use Rattle.std.proofs.lemmas.List.{append_assoc, length-append}
use Rattle.wasm_formats.specs.Stops.{Count, Stop, stop, moved, can_end, Parsing, ◌>>=◌}
use Rattle.wasm_formats.specs.Formats.{Format, Small, Stands, Inside, done_is, done_refused, refused_is, step_ok, step_err, inside_wide, inside_later, behind_small, parsed_final}
use Rattle.wasm_formats.specs.Parts.{nothing}
use Rattle.wasm_formats.specs.Led.{led, IsOther}
use Rattle.wasm_formats.specs.Files.{count_ends}

module _ {A : Type 0} (b : ℕ) (entry : Format A) (apart : (later : List ℕ) (x : A) → entry.spells (b ∷ later) x → ⊥) (some : (x : A) → entry.spells [] x → ⊥)
    (wants : (s : Stop) → entry.parse [] ≡ Err s → can_end s.trouble ≡ true) where
  -- entries, one behind another, and the byte
  abbrev pub SpellsUntil : List ℕ → List A → Type 0
  SpellsUntil bytes [] = bytes ≡ b ∷ []
  SpellsUntil bytes (x ∷ xs) = (front later : List ℕ) × (bytes ≡ front ++ later) × entry.spells front x × SpellsUntil later xs

  abbrev pub UntilRules : List A → Type 0
  UntilRules [] = Unit {0}
  UntilRules (x ∷ xs) = entry.rules x × UntilRules xs

  -- entries alone
  abbrev pub SpellsMany : List ℕ → List A → Type 0
  SpellsMany bytes [] = bytes ≡ []
  SpellsMany bytes (x ∷ xs) = (front later : List ℕ) × (bytes ≡ front ++ later) × entry.spells front x × SpellsMany later xs

  -- some entries stand there, what follows isn't the byte, and is refused as an entry
  abbrev pub StopsUntil : List ℕ → Stop → Type 0
  StopsUntil bytes s = (xs : List A) × (front later : List ℕ) × (bytes ≡ front ++ later) × SpellsMany front xs × UntilRules xs × IsOther b later × entry.stops later s

  abbrev pub turn : Format (Unit {0} ⊎ A)
  turn = led b (nothing tt) entry apart some wants

  abbrev pub last_or : (List ℕ → Parsing (List A)) → (Unit {0} ⊎ A) × List ℕ → Parsing (List A)
  last_or rest (inl x, later) = Ok ([], later)
  last_or rest (inr x, later) = rest later >>= λ xs. Ok (x ∷ xs.0, xs.1)

  abbrev pub parse_until : ℕ → List ℕ → Parsing (List A)
  parse_until zero bytes = Err (stop Count 0)
  parse_until (suc fuel) bytes = turn.parse bytes >>= λ x. last_or (parse_until fuel) x

  pub until_found : (fuel : ℕ) (bytes later : List ℕ) (xs : List A) → Small bytes → parse_until fuel bytes ≡ Ok (xs, later) → Stands SpellsUntil UntilRules bytes later xs
  until_found zero bytes later xs small e = absurd cc
  until_found (suc fuel) bytes later xs small e = step_ok (turn.parse bytes) (last_or (parse_until fuel)) (xs, later) e (λ x p q. go x.0 x.1 (λ rest later xs small e. until_found fuel rest later xs small e) p q)
    where
      go : (x : Unit {0} ⊎ A) (rest : List ℕ) → ((rest later : List ℕ) (xs : List A) → Small rest → parse_until fuel rest ≡ Ok (xs, later) → Stands SpellsUntil UntilRules rest later xs)
          → turn.parse bytes ≡ Ok (x, rest) → last_or (parse_until fuel) (x, rest) ≡ Ok (xs, later) → Stands SpellsUntil UntilRules bytes later xs
      go (inl u) rest more p q =
          let s = turn.found bytes rest (inl u) small p in
          let led = s.2 in
          let same = done_is ([], rest) (xs, later) q in
          subst (λ (z : List A × List ℕ). Stands SpellsUntil UntilRules bytes z.1 z.0) same (s.0, s.1, led.1 ∙ ap (λ (l : List ℕ). b ∷ l) led.2.0, tt)
      go (inr x) rest more p q = step_ok (parse_until fuel rest) (λ xs. Ok (x ∷ xs.0, xs.1)) (xs, later) q (λ ys r t.
          let s = turn.found bytes rest (inr x) small p in
          let rests = more rest ys.1 ys.0 (behind_small turn bytes rest (inr x) small p) r in
          let same = done_is (x ∷ ys.0, ys.1) (xs, later) t in
          subst (λ (z : List A × List ℕ). Stands SpellsUntil UntilRules bytes z.1 z.0) same
          (s.0 ++ rests.0, s.1 ∙ ap (λ (l : List ℕ). s.0 ++ l) rests.1 ∙ sym (append_assoc s.0 rests.0 ys.1), (s.0, rests.0, refl, s.2, rests.2), (s.3, rests.3)))

  -- an entry's bytes are some
  pub some_bytes : (bytes : List ℕ) (x : A) → entry.spells bytes x → 0 < length bytes
  some_bytes [] x h = absurd (some x h)
  some_bytes (c ∷ bytes) x h = omega arith

  pub until_again : (xs : List A) (fuel : ℕ) (bytes more : List ℕ) → length bytes ≤ fuel → SpellsUntil bytes xs → UntilRules xs → parse_until fuel (bytes ++ more) ≡ Ok (xs, more)
  until_again [] zero bytes more le h r = absurd (omega (arith, le, ap length h))
  until_again [] (suc fuel) bytes more le h r =
      let first : turn.parse (bytes ++ more) ≡ Ok (inl tt, more) = turn.again bytes more (inl tt) ([], h, (refl, refl)) tt in rw first refl
  until_again (x ∷ xs) zero bytes more le h r = absurd (omega (arith, le, some_bytes h.0 x h.3, ap length h.2, length-append h.0 h.1))
  until_again (x ∷ xs) (suc fuel) bytes more le h r =
      let first : turn.parse (h.0 ++ (h.1 ++ more)) ≡ Ok (inr x, h.1 ++ more) = turn.again h.0 (h.1 ++ more) (inr x) h.3 r.0 in
      rw (h.2, append_assoc h.0 h.1 more, first, until_again xs fuel h.1 more (omega (arith, le, some_bytes h.0 x h.3, ap length h.2, length-append h.0 h.1)) h.4 r.1) refl

  pub until_told : (fuel : ℕ) (bytes : List ℕ) (s : Stop) → length bytes < fuel → Small bytes → parse_until fuel bytes ≡ Err s → StopsUntil bytes s
  until_told zero bytes s le small e = absurd (omega (arith, le))
  until_told (suc fuel) bytes s le small e = step_err (turn.parse bytes) (last_or (parse_until fuel)) s e
      (λ p. first (turn.told bytes s small p)) (λ x p q. go x.0 x.1 (λ rest less small e. until_told fuel rest s less small e) p q)
    where
      first : turn.stops bytes s → StopsUntil bytes s
      first (inl h) = absurd h.2
      first (inr h) = ([], [], bytes, refl, refl, tt, h.0, h.1)

      go : (x : Unit {0} ⊎ A) (rest : List ℕ) → ((rest : List ℕ) → length rest < fuel → Small rest → parse_until fuel rest ≡ Err s → StopsUntil rest s)
          → turn.parse bytes ≡ Ok (x, rest) → last_or (parse_until fuel) (x, rest) ≡ Err s → StopsUntil bytes s
      go (inl u) rest more p q = done_refused ([], rest) s q
      go (inr x) rest more p q = step_err (parse_until fuel rest) (λ xs. Ok (x ∷ xs.0, xs.1)) s q
          (λ r. let f = turn.found bytes rest (inr x) small p in
          let less : length rest < fuel = omega (arith, le, some_bytes f.0 x f.2, ap length f.1, length-append f.0 rest) in
          let t = more rest less (behind_small turn bytes rest (inr x) small p) r in
          (x ∷ t.0, f.0 ++ t.1, t.2, f.1 ∙ ap (λ (l : List ℕ). f.0 ++ l) t.3 ∙ sym (append_assoc f.0 t.1 t.2), (f.0, t.1, refl, f.2, t.4), (f.3, t.5), t.6, t.7))
          (λ ys _ t. done_refused (x ∷ ys.0, ys.1) s t)

  pub until_tells : (xs : List A) (fuel : ℕ) (front later : List ℕ) (s : Stop) → length (front ++ later) < fuel → SpellsMany front xs → UntilRules xs → IsOther b later → entry.stops later s
      → parse_until fuel (front ++ later) ≡ Err s
  until_tells xs zero front later s le h r o t = absurd (omega (arith, le))
  until_tells [] (suc fuel) front later s le h r o t =
      let first : turn.parse later ≡ Err s = turn.tells later s (inr (o, t)) in rw (h, first) refl
  until_tells (x ∷ xs) (suc fuel) front later s le h r o t =
      let whole : length (front ++ later) ≡ length h.0 + length (h.1 ++ later) = rw (h.2, append_assoc h.0 h.1 later) (length-append h.0 (h.1 ++ later)) in
      let first : turn.parse (h.0 ++ (h.1 ++ later)) ≡ Ok (inr x, h.1 ++ later) = turn.again h.0 (h.1 ++ later) (inr x) h.3 r.0 in
      rw (h.2, append_assoc h.0 h.1 later, first, until_tells xs fuel h.1 later s (omega (arith, le, some_bytes h.0 x h.3, whole)) h.4 r.1 o t) refl

  pub until_within : (fuel : ℕ) (bytes : List ℕ) → Inside (length bytes) (parse_until fuel bytes)
  until_within zero bytes = omega arith
  until_within (suc fuel) bytes = inside_wide (length bytes) (turn.parse bytes) (last_or (parse_until fuel)) (turn.within bytes) (λ x le. go x.0 x.1 le (until_within fuel x.1))
    where
      go : (x : Unit {0} ⊎ A) (rest : List ℕ) → length rest ≤ length bytes → Inside (length rest) (parse_until fuel rest) → Inside (length bytes) (last_or (parse_until fuel) (x, rest))
      go (inl u) rest le h = le
      go (inr x) rest le h = inside_wide (length bytes) (parse_until fuel rest) (λ xs. Ok (x ∷ xs.0, xs.1))
          (inside_later (length rest) (length bytes) (parse_until fuel rest) le h) (λ ys le. le)

  pub until_final : (fuel wide : ℕ) (bytes more : List ℕ) (s : Stop) → fuel ≤ wide → Small bytes → parse_until fuel bytes ≡ Err s → can_end s.trouble ≡ false
      → parse_until wide (bytes ++ more) ≡ Err (moved (length more) s)
  until_final zero wide bytes more s le small e k = count_ends 0 s (sym (refused_is {A = List A × List ℕ} (stop Count 0) s e)) k
  until_final (suc fuel) zero bytes more s le small e k = absurd (omega (arith, le))
  until_final (suc fuel) (suc wide) bytes more s le small e k = step_err (turn.parse bytes) (last_or (parse_until fuel)) s e
      (λ p. rw (turn.final bytes more s small p k) refl) (λ x p q. go x.0 x.1 (λ rest small e. until_final fuel wide rest more s (omega (arith, le)) small e k) p q)
    where
      go : (x : Unit {0} ⊎ A) (rest : List ℕ) → ((rest : List ℕ) → Small rest → parse_until fuel rest ≡ Err s → parse_until wide (rest ++ more) ≡ Err (moved (length more) s))
          → turn.parse bytes ≡ Ok (x, rest) → last_or (parse_until fuel) (x, rest) ≡ Err s → parse_until (suc wide) (bytes ++ more) ≡ Err (moved (length more) s)
      go (inl u) rest later p q = done_refused ([], rest) s q
      go (inr x) rest later p q = step_err (parse_until fuel rest) (λ xs. Ok (x ∷ xs.0, xs.1)) s q
          (λ r. rw (parsed_final turn bytes rest more (inr x) small p, later rest (behind_small turn bytes rest (inr x) small p) r) refl)
          (λ ys _ t. done_refused (x ∷ ys.0, ys.1) s t)

  abbrev pub until : Format (List A)
  until = record {
    spells = SpellsUntil;
    rules = UntilRules;
    stops = StopsUntil;
    parse = λ bytes. parse_until (suc (length bytes)) bytes;
    found = λ bytes later xs small e. until_found (suc (length bytes)) bytes later xs small e;
    again = λ bytes more xs h r. until_again xs (suc (length (bytes ++ more))) bytes more (omega (arith, length-append bytes more)) h r;
    told = λ bytes s small e. until_told (suc (length bytes)) bytes s (omega arith) small e;
    tells = λ bytes s h. rw h.3 (until_tells h.0 (suc (length (h.1 ++ h.2))) h.1 h.2 s (omega arith) h.4 h.5 h.6 h.7);
    within = λ bytes. until_within (suc (length bytes)) bytes;
    final = λ bytes more s small e k. until_final (suc (length bytes)) (suc (length (bytes ++ more))) bytes more s (omega (arith, length-append bytes more)) small e k;
  }
