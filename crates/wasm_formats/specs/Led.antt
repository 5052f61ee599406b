-- A byte that leads one form, where another form begins otherwise.
use Rattle.std.specs.Prelude.{ℕ, ◌≡◌, ◌==◌, true, false, List, [], ◌∷◌, ◌++◌, length, Ok, Err, ◌⊎◌, if◌then◌else◌, refl}
use Rattle.std.proofs.Common.{ap, sym, ◌∙◌, subst, arith, inl, inr}
use Rattle.std.proofs.lemmas.Bool.{cases_Bool, eqb-true, eq-eqb}
use Rattle.wasm_reader.specs.Vecs.{later_bytes}
use Rattle.wasm_formats.specs.Stops.{Stop, moved, can_end, Parsing, ◌>>=◌}
use Rattle.wasm_formats.specs.Formats.{Format, Small, Stands, Inside, done_is, done_refused, step_ok, step_err, inside_step, inside_later}

-- the bytes don't begin with it
abbrev pub IsOther : ℕ → List ℕ → Type 0
IsOther b bytes = (later : List ℕ) → bytes ≡ b ∷ later → ⊥

module _ {A B : Type 0} (b : ℕ) (f : Format A) (g : Format B) (apart : (later : List ℕ) (y : B) → g.spells (b ∷ later) y → ⊥) (some : (y : B) → g.spells [] y → ⊥) where
  -- the byte and then the one form, or the other form
  abbrev pub SpellsLed : List ℕ → A ⊎ B → Type 0
  SpellsLed bytes (inl x) = (later : List ℕ) × (bytes ≡ b ∷ later) × f.spells later x
  SpellsLed bytes (inr y) = g.spells bytes y

  abbrev pub LedRules : A ⊎ B → Type 0
  LedRules (inl x) = f.rules x
  LedRules (inr y) = g.rules y

  abbrev pub led_by : A × List ℕ → Parsing (A ⊎ B)
  led_by x = Ok (inl x.0, x.1)

  abbrev pub other_by : B × List ℕ → Parsing (A ⊎ B)
  other_by y = Ok (inr y.0, y.1)

  abbrev pub parse_led : List ℕ → Parsing (A ⊎ B)
  parse_led [] = g.parse [] >>= other_by
  parse_led (c ∷ bytes) = if c == b then (f.parse bytes >>= led_by) else (g.parse (c ∷ bytes) >>= other_by)

  abbrev pub StopsLed : List ℕ → Stop → Type 0
  StopsLed bytes s = ((later : List ℕ) × (bytes ≡ b ∷ later) × f.stops later s) ⊎ (IsOther b bytes × g.stops bytes s)

  pub other_none : IsOther b []
  other_none later e = absurd cc

  pub head_is : (c d : ℕ) (bytes later : List ℕ) → c ∷ bytes ≡ d ∷ later → c ≡ d
  head_is c d bytes later e = cc

  pub tail_is : (c d : ℕ) (bytes later : List ℕ) → c ∷ bytes ≡ d ∷ later → bytes ≡ later
  tail_is c d bytes later e = cc

  pub other_byte : (c : ℕ) (bytes : List ℕ) → (c == b) ≡ false → IsOther b (c ∷ bytes)
  other_byte c bytes apart_is later e = let same_is = eq-eqb c b (head_is c b bytes later e) in let clash : true ≡ false = sym same_is ∙ apart_is in absurd cc

  pub there : (c : ℕ) (bytes : List ℕ) → (c == b) ≡ true → parse_led (c ∷ bytes) ≡ (f.parse bytes >>= led_by)
  there c bytes is = rw is refl

  pub not_there : (bytes : List ℕ) → IsOther b bytes → parse_led bytes ≡ (g.parse bytes >>= other_by)
  not_there [] other = refl
  not_there (c ∷ bytes) other = elim (cases_Bool (c == b)) [
    | inl is ↦ absurd (other bytes (ap (λ (n : ℕ). n ∷ bytes) (eqb-true c b is)))
    | inr apart_is ↦ rw apart_is refl
  ]

  -- what a spelled value of the other form begins with
  pub other_spelled : (bytes : List ℕ) (y : B) → g.spells bytes y → IsOther b bytes
  other_spelled bytes y h later e = apart later y (subst (λ (l : List ℕ). g.spells l y) e h)

  pub led_found : (bytes later : List ℕ) (x : A ⊎ B) → Small bytes → parse_led bytes ≡ Ok (x, later) → Stands SpellsLed LedRules bytes later x
  led_found bytes later x small e = go bytes small e
    where
      by_other : (bytes : List ℕ) → Small bytes → (g.parse bytes >>= other_by) ≡ Ok (x, later) → Stands SpellsLed LedRules bytes later x
      by_other bytes small e = step_ok (g.parse bytes) other_by (x, later) e (λ y p q.
          let s = g.found bytes y.1 y.0 small p in
          subst (λ (z : (A ⊎ B) × List ℕ). Stands SpellsLed LedRules bytes z.1 z.0) (done_is (inr y.0, y.1) (x, later) q) (s.0, s.1, s.2, s.3))

      go : (bytes : List ℕ) → Small bytes → parse_led bytes ≡ Ok (x, later) → Stands SpellsLed LedRules bytes later x
      go [] small e = by_other [] small e
      go (c ∷ bytes) small e = elim (cases_Bool (c == b)) [
        | inl is ↦ step_ok (f.parse bytes) led_by (x, later) (sym (there c bytes is) ∙ e) (λ y p q.
            let s = f.found bytes y.1 y.0 (later_bytes (c ∷ []) bytes small) p in
            subst (λ (z : (A ⊎ B) × List ℕ). Stands SpellsLed LedRules (c ∷ bytes) z.1 z.0) (done_is (inl y.0, y.1) (x, later) q)
            (b ∷ s.0, ap (λ (n : ℕ). n ∷ bytes) (eqb-true c b is) ∙ ap (λ (l : List ℕ). b ∷ l) s.1, (s.0, refl, s.2), s.3))
        | inr apart_is ↦ by_other (c ∷ bytes) small (sym (not_there (c ∷ bytes) (other_byte c bytes apart_is)) ∙ e)
      ]

  pub led_again : (bytes more : List ℕ) (x : A ⊎ B) → SpellsLed bytes x → LedRules x → parse_led (bytes ++ more) ≡ Ok (x, more)
  led_again bytes more (inl x) h r = rw h.1 (there b (h.0 ++ more) (eq-eqb b b refl) ∙ rw (f.again h.0 more x h.2 r) refl)
  led_again [] more (inr y) h r = absurd (some y h)
  led_again (c ∷ bytes) more (inr y) h r =
      not_there (c ∷ (bytes ++ more)) (λ later e. other_spelled (c ∷ bytes) y h bytes (ap (λ (n : ℕ). n ∷ bytes) (head_is c b (bytes ++ more) later e)))
      ∙ (let read : g.parse (c ∷ (bytes ++ more)) ≡ Ok (y, more) = g.again (c ∷ bytes) more y h r in rw read refl)

  pub led_told : (bytes : List ℕ) (s : Stop) → Small bytes → parse_led bytes ≡ Err s → StopsLed bytes s
  led_told [] s small e = step_err (g.parse []) other_by s e (λ p. inr (other_none, g.told [] s small p)) (λ y p q. done_refused (inr y.0, y.1) s q)
  led_told (c ∷ bytes) s small e = elim (cases_Bool (c == b)) [
    | inl is ↦ step_err (f.parse bytes) led_by s (sym (there c bytes is) ∙ e)
        (λ p. inl (bytes, ap (λ (n : ℕ). n ∷ bytes) (eqb-true c b is), f.told bytes s (later_bytes (c ∷ []) bytes small) p))
        (λ x p q. done_refused (inl x.0, x.1) s q)
    | inr apart_is ↦ let other = other_byte c bytes apart_is in
        step_err (g.parse (c ∷ bytes)) other_by s (sym (not_there (c ∷ bytes) other) ∙ e) (λ p. inr (other, g.told (c ∷ bytes) s small p)) (λ y p q. done_refused (inr y.0, y.1) s q)
  ]

  pub led_tells : (bytes : List ℕ) (s : Stop) → StopsLed bytes s → parse_led bytes ≡ Err s
  led_tells bytes s (inl h) = rw h.1 (there b h.0 (eq-eqb b b refl) ∙ rw (f.tells h.0 s h.2) refl)
  led_tells bytes s (inr h) = not_there bytes h.0 ∙ rw (g.tells bytes s h.1) refl

  pub led_within : (bytes : List ℕ) → Inside (length bytes) (parse_led bytes)
  led_within [] = inside_step 0 (g.parse []) other_by (g.within []) (λ y. omega arith)
  led_within (c ∷ bytes) = elim (cases_Bool (c == b)) [
    | inl is ↦ rw (there c bytes is) (inside_later (length bytes) (length (c ∷ bytes)) (f.parse bytes >>= led_by) (omega arith) (inside_step (length bytes) (f.parse bytes) led_by (f.within bytes) (λ x. omega arith)))
    | inr apart_is ↦ rw (not_there (c ∷ bytes) (other_byte c bytes apart_is)) (inside_step (length (c ∷ bytes)) (g.parse (c ∷ bytes)) other_by (g.within (c ∷ bytes)) (λ y. omega arith))
  ]

  -- where no byte is there the other form is refused for want of one
  pub led_final : ((s : Stop) → g.parse [] ≡ Err s → can_end s.trouble ≡ true) → (bytes more : List ℕ) (s : Stop) → Small bytes → parse_led bytes ≡ Err s → can_end s.trouble ≡ false
      → parse_led (bytes ++ more) ≡ Err (moved (length more) s)
  led_final wants [] more s small e k = step_err (g.parse []) other_by s e (λ p. let clash : true ≡ false = sym (wants s p) ∙ k in absurd cc) (λ y p q. done_refused (inr y.0, y.1) s q)
  led_final wants (c ∷ bytes) more s small e k = elim (cases_Bool (c == b)) [
    | inl is ↦ step_err (f.parse bytes) led_by s (sym (there c bytes is) ∙ e)
        (λ p. there c (bytes ++ more) is ∙ rw (f.final bytes more s (later_bytes (c ∷ []) bytes small) p k) refl)
        (λ x p q. done_refused (inl x.0, x.1) s q)
    | inr apart_is ↦ step_err (g.parse (c ∷ bytes)) other_by s (sym (not_there (c ∷ bytes) (other_byte c bytes apart_is)) ∙ e)
        (λ p. not_there (c ∷ (bytes ++ more)) (other_byte c (bytes ++ more) apart_is) ∙ (let still : g.parse (c ∷ (bytes ++ more)) ≡ Err (moved (length more) s) = g.final (c ∷ bytes) more s small p k in rw still refl))
        (λ y p q. done_refused (inr y.0, y.1) s q)
  ]

  abbrev pub led : ((s : Stop) → g.parse [] ≡ Err s → can_end s.trouble ≡ true) → Format (A ⊎ B)
  led wants = record {
    spells = SpellsLed;
    rules = LedRules;
    stops = StopsLed;
    parse = parse_led;
    found = led_found;
    again = led_again;
    told = led_told;
    tells = led_tells;
    within = led_within;
    final = led_final wants;
  }
