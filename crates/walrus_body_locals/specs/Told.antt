-- Entries that are read one after another, while a validator is told of each.
use Rattle.std.specs.Prelude.{◌≡◌, ◌⊎◌, ◌<◌, ℕ, zero, suc, ◌-◌, List, [], ◌∷◌, ◌++◌, length, fold, Option, Some, None, Result, Ok, Err, refl}
use Rattle.std.proofs.Common.{subst, arith}
use Rattle.wasm_reader.specs.Cursor.{Cursor, rest, end_of, Forward}
use Rattle.wasm_formats.specs.Stops.{Stop, Parsing}
use Rattle.wasm_formats.specs.Formats.{Format}
use Rattle.wasm_formats.specs.Lists.{parse_entries}
use Rattle.walrus_body_nesting.specs.walrus_body_env.declared.error.BodyError.{BodyError}
use Rattle.walrus_body_nesting.specs.walrus_body_env.declared.error.BodyError.TheVariants.{Memory}
use Rattle.walrus_body_locals.specs.Calls.{IsFaultOf}

-- what a validator answers that is told of an entry at this offset: why it refuses it, and what it is left as
abbrev pub Telling : Type 0 → Type 0 → Type 0
Telling A V = V → ℕ → A → Option BodyError × V

-- in bytes that end at this offset, the next entry is refused: reading stops, and the validator is as it was; or it is told of the entry, refuses
-- it, and is left so
abbrev pub Fails : {A V : Type 0} → (List ℕ → Parsing A) → Telling A V → ℕ → V → List ℕ → V → BodyError → Type 0
Fails {A} parse told end v bytes w e =
    ((s : Stop) × (parse bytes ≡ Err s) × IsFaultOf end s e × (w ≡ v)) ⊎ ((x : A) × (later : List ℕ) × (parse bytes ≡ Ok (x, later)) × (told v (end - length bytes) x ≡ (Some e, w)))

-- the answer of a call that reads an entry, of which the validator is told; where memory is wanted it isn't
abbrev pub AnswersTold : {X A V : Type 0} → (List ℕ → Parsing A) → Telling A V → (X → A → Type 0) → Cursor → Cursor → V → V → Result X BodyError → Type 0
AnswersTold {X} {A} parse told Is old new v w (Ok x) =
    (y : A) × (parse (rest old) ≡ Ok (y, rest new)) × (told v (end_of old - length (rest old)) y ≡ (None, w)) × Is x y
AnswersTold parse told Is old new v w (Err e) = ((e ≡ Memory) × (w ≡ v)) ⊎ Fails parse told (end_of old) v (rest old) w e

pub record Tells {X A V : Type 0} (parse : List ℕ → Parsing A) (told : Telling A V) (Is : X → A → Type 0) (old new : Cursor) (v w : V) (result : Result X BodyError) : Type 0 where
  pub value : AnswersTold parse told Is old new v w result
  pub moves : Forward old new

module _ {A S V : Type 0} (next : S → A → S) (parse : S → List ℕ → Parsing A) (told : Telling A V) (end : ℕ) where
  -- these entries stand at the front of the bytes, and the validator accepts each
  abbrev pub Pass : S → V → List ℕ → List A → List ℕ → V → Type 0
  Pass s v bytes [] later w = (later ≡ bytes) × (w ≡ v)
  Pass s v bytes (x ∷ xs) later w =
      (mid : List ℕ) × (u : V) × (parse s bytes ≡ Ok (x, mid)) × (told v (end - length bytes) x ≡ (None, u)) × Pass (next s x) u mid xs later w

  -- one more
  pub pass_on : (xs : List A) (s : S) (v : V) (bytes mid later : List ℕ) (u w : V) (x : A) → Pass s v bytes xs mid u
      → parse (fold next s xs) mid ≡ Ok (x, later) → told u (end - length mid) x ≡ (None, w) → Pass s v bytes (xs ++ x ∷ []) later w
  pass_on [] s v bytes mid later u w x h p t =
      let F : List ℕ → V → Type 0 = λ l z. (parse s l ≡ Ok (x, later)) × (told z (end - length l) x ≡ (None, w)) in
      let G : List ℕ → Type 0 = λ l. F l v in
      let both : F bytes v = subst G h.0 (subst (F mid) h.1 (p, t)) in
      (later, w, both.0, both.1, (refl, refl))
  pass_on (y ∷ xs) s v bytes mid later u w x h p t = (h.0, h.1, h.2, h.3, pass_on xs (next s y) h.1 h.0 mid later u w x h.4 p t)

-- where none is refused the entries are what is parsed, and where one is refused parsing stops there
module _ {A S V : Type 0} (next : S → A → S) (entry : S → Format A) (told : Telling A V) (end : ℕ) where
  pub pass_entries : (xs : List A) (s : S) (v w : V) (bytes later : List ℕ) → Pass next (λ s. (entry s).parse) told end s v bytes xs later w
      → parse_entries next entry (length xs) s bytes ≡ Ok (xs, later)
  pass_entries [] s v w bytes later h = rw h.0 refl
  pass_entries (x ∷ xs) s v w bytes later h = rw (h.2, pass_entries xs (next s x) h.1 w h.0 later h.4) refl

  pub fail_entries : (xs : List A) (count : ℕ) (s : S) (v u : V) (bytes mid : List ℕ) (e : Stop) → length xs < count → Pass next (λ s. (entry s).parse) told end s v bytes xs mid u
      → (entry (fold next s xs)).parse mid ≡ Err e → parse_entries next entry count s bytes ≡ Err e
  fail_entries xs zero s v u bytes mid e l h p = absurd (omega (arith, l))
  fail_entries [] (suc count) s v u bytes mid e l h p = rw (← h.0, p) refl
  fail_entries (x ∷ xs) (suc count) s v u bytes mid e l h p = rw (h.2, fail_entries xs count (next s x) h.1 u h.0 mid e (omega (arith, l)) h.4 p) refl
