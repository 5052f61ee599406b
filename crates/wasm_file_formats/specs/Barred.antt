-- A byte that bars a form: none of its spellings begins so, and the byte has trouble of its own.
use Rattle.std.specs.Prelude.{ℕ, ◌≡◌, ◌==◌, true, false, List, [], ◌∷◌, ◌++◌, length, Ok, Err, ◌⊎◌, if◌then◌else◌, refl}
use Rattle.std.proofs.Common.{ap, sym, ◌∙◌, subst, arith, inl, inr}
use Rattle.std.proofs.lemmas.Bool.{cases_Bool, eqb-true, eq-eqb}
use Rattle.std.proofs.lemmas.List.{length-append}
use Rattle.wasm_formats.specs.Stops.{Trouble, Stop, stop, moved, can_end, Parsing}
use Rattle.wasm_formats.specs.Formats.{Format, Small, Stands, Inside, refused, refused_is}
use Rattle.wasm_formats.specs.Led.{IsOther}

module _ {A : Type 0} (b : ℕ) (t : Trouble) (f : Format A) (apart : (later : List ℕ) (x : A) → f.spells (b ∷ later) x → ⊥) (some : (x : A) → f.spells [] x → ⊥)
    (wants : (s : Stop) → f.parse [] ≡ Err s → can_end s.trouble ≡ true) where
  abbrev pub parse_barred : List ℕ → Parsing A
  parse_barred [] = f.parse []
  parse_barred (c ∷ bytes) = if c == b then Err (stop t (length (c ∷ bytes))) else f.parse (c ∷ bytes)

  abbrev pub StopsBarred : List ℕ → Stop → Type 0
  StopsBarred bytes s = ((later : List ℕ) × (bytes ≡ b ∷ later) × (s ≡ stop t (length bytes))) ⊎ (IsOther b bytes × f.stops bytes s)

  pub is_other : (bytes : List ℕ) → IsOther b bytes → parse_barred bytes ≡ f.parse bytes
  is_other [] other = refl
  is_other (c ∷ bytes) other = elim (cases_Bool (c == b)) [
    | inl is ↦ absurd (other bytes (ap (λ (n : ℕ). n ∷ bytes) (eqb-true c b is)))
    | inr not ↦ rw not refl
  ]

  pub is_barred : (bytes later : List ℕ) → bytes ≡ b ∷ later → parse_barred bytes ≡ Err (stop t (length bytes))
  is_barred bytes later e = rw (e, eq-eqb b b refl) refl

  pub no_other : (c : ℕ) (bytes : List ℕ) → (c == b) ≡ false → IsOther b (c ∷ bytes)
  no_other c bytes not later e = let is = eq-eqb c b (head_is e) in let clash : true ≡ false = sym is ∙ not in absurd cc
    where
      head_is : c ∷ bytes ≡ b ∷ later → c ≡ b
      head_is e = cc

  pub barred_found : (bytes later : List ℕ) (x : A) → Small bytes → parse_barred bytes ≡ Ok (x, later) → Stands f.spells f.rules bytes later x
  barred_found [] later x small e = f.found [] later x small e
  barred_found (c ∷ bytes) later x small e = elim (cases_Bool (c == b)) [
    | inl is ↦ let e = (rw is at e) in absurd cc
    | inr not ↦ f.found (c ∷ bytes) later x small (rw not at e)
  ]

  pub other_spelled : (bytes more : List ℕ) (x : A) → f.spells bytes x → IsOther b (bytes ++ more)
  other_spelled [] more x h later e = absurd (some x h)
  other_spelled (c ∷ bytes) more x h later e = apart bytes x (subst (λ (n : ℕ). f.spells (n ∷ bytes) x) (head_is e) h)
    where
      head_is : c ∷ (bytes ++ more) ≡ b ∷ later → c ≡ b
      head_is e = cc

  pub barred_told : (bytes : List ℕ) (s : Stop) → Small bytes → parse_barred bytes ≡ Err s → StopsBarred bytes s
  barred_told [] s small e = inr ((λ later e. absurd cc), f.told [] s small e)
  barred_told (c ∷ bytes) s small e = elim (cases_Bool (c == b)) [
    | inl is ↦ inl (bytes, ap (λ (n : ℕ). n ∷ bytes) (eqb-true c b is), sym (refused_is {A = A × List ℕ} (stop t (length (c ∷ bytes))) s (rw is at e)))
    | inr not ↦ inr (no_other c bytes not, f.told (c ∷ bytes) s small (rw not at e))
  ]

  pub barred_tells : (bytes : List ℕ) (s : Stop) → StopsBarred bytes s → parse_barred bytes ≡ Err s
  barred_tells bytes s (inl h) = is_barred bytes h.0 h.1 ∙ ap refused (sym h.2)
  barred_tells bytes s (inr h) = is_other bytes h.0 ∙ f.tells bytes s h.1

  pub barred_within : (bytes : List ℕ) → Inside (length bytes) (parse_barred bytes)
  barred_within [] = f.within []
  barred_within (c ∷ bytes) = elim (cases_Bool (c == b)) as (λ _. Inside (length (c ∷ bytes)) (parse_barred (c ∷ bytes))) [
    | inl is ↦ rw is (omega arith)
    | inr not ↦ rw not (f.within (c ∷ bytes))
  ]

  pub barred_final : (bytes more : List ℕ) (s : Stop) → Small bytes → parse_barred bytes ≡ Err s → can_end s.trouble ≡ false → parse_barred (bytes ++ more) ≡ Err (moved (length more) s)
  barred_final [] more s small e k = let clash : true ≡ false = sym (wants s e) ∙ k in absurd cc
  barred_final (c ∷ bytes) more s small e k = elim (cases_Bool (c == b)) [
    | inl is ↦
        let same = refused_is {A = A × List ℕ} (stop t (length (c ∷ bytes))) s (rw is at e) in
        rw is (ap (λ (n : ℕ). refused (stop t n)) (length-append (c ∷ bytes) more) ∙ ap (λ (s : Stop). refused (moved (length more) s)) same)
    | inr not ↦ rw not (f.final (c ∷ bytes) more s small (rw not at e) k)
  ]

  abbrev pub barred : Format A
  barred = record {
    spells = f.spells;
    rules = f.rules;
    stops = StopsBarred;
    parse = parse_barred;
    found = barred_found;
    again = λ bytes more x h r. is_other (bytes ++ more) (other_spelled bytes more x h) ∙ f.again bytes more x h r;
    told = barred_told;
    tells = barred_tells;
    within = barred_within;
    final = barred_final;
  }
