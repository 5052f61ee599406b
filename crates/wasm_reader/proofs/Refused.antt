-- A number's fault, by its bytes.
use Rattle.std.proofs.Common.{◌≡◌, ◌+◌, ◌-◌, ◌*◌, ◌<◌, ◌≤◌, ◌⊎◌, ℕ, zero, suc, List, [], ◌∷◌, ◌++◌, length, Ok, Err, refl, sym, ap, ◌∙◌, inl, inr, arith}
use Rattle.std.specs.Prelude.{All}
use Rattle.std.proofs.lemmas.Bool.{cases_lt, cases_Bool}
use Rattle.std.proofs.lemmas.List.{append-nil}
use Rattle.wasm_reader.specs.declared.error.ErrorKind.{ErrorKind}
use Rattle.wasm_reader.specs.declared.error.ErrorKind.TheVariants as kinds
use Rattle.wasm_reader.specs.Reading.{Reading, Fault, fault, ◌>>=◌}
use Rattle.wasm_reader.specs.Numbers.{Style, number_at}
use Rattle.wasm_reader.specs.Spelled.{number_at-last, number_at-wrong, number_at-too_long, number_at-more, number_at-none}
use Rattle.wasm_reader.specs.Faults.{GoesOn, EndsBefore, RunsLong, EndsWrong, RefusesExactly}

all_none : All (λ b. 128 ≤ b) []
all_none k d h = absurd (omega arith)

all_more : (b : ℕ) (bytes : List ℕ) → 128 ≤ b → All (λ c. 128 ≤ c) bytes → All (λ c. 128 ≤ c) (b ∷ bytes)
all_more b bytes first later zero d h = first
all_more b bytes first later (suc k) d h = later k d (omega arith)

all_later : (b : ℕ) (bytes : List ℕ) → All (λ c. 128 ≤ c) (b ∷ bytes) → All (λ c. 128 ≤ c) bytes
all_later b bytes all k d h = all (suc k) d (omega arith)

goes_none : (width : ℕ) → 0 < width → GoesOn width []
goes_none width h = record { goes = all_none; allowed = omega arith }

goes_more : (width b : ℕ) (front : List ℕ) → 128 ≤ b → 7 < width → GoesOn (width - 7) front → GoesOn width (b ∷ front)
goes_more width b front first wide on = record { goes = all_more b front first on.goes; allowed = let h = on.allowed in omega arith }

err_is : {A : Type 0} (f g : Fault) → (let none : Fault → Reading A = λ v. Err v in none f ≡ none g) → f ≡ g
err_is f g e = cc

abbrev made : {A B : Type 0} → (A → B) → Reading A → Reading B
made make r = r >>= λ x. Ok (make x.0, x.1)

made_err : {A B : Type 0} (make : A → B) (r : Reading A) (f : Fault) → made make r ≡ Err f → r ≡ Err f
made_err make (Ok x) f e = cc
made_err {A} {B} make (Err g) f e = let none : Fault → Reading A = λ v. Err v in ap none (err_is {A = B} g f e)

module _ {A : Type 0} (s : Style A) (wrong : ErrorKind) where
  abbrev Refused : ℕ → List ℕ → Fault → Type 0
  Refused width bytes f = EndsBefore width bytes f ⊎ (RunsLong width bytes f ⊎ EndsWrong s wrong width bytes f)

  longer : (width b : ℕ) (bytes : List ℕ) (f : Fault) → 128 ≤ b → 7 < width → Refused (width - 7) bytes f → Refused width (b ∷ bytes) f
  longer width b bytes f first wide (inl h) = inl (record { on = goes_more width b bytes first wide h.on; is = h.is })
  longer width b bytes f first wide (inr (inl h)) = inr (inl (record {
    front = b ∷ h.front;
    last = h.last;
    later = h.later;
    joined = ap (λ (l : List ℕ). b ∷ l) h.joined;
    on = goes_more width b h.front first wide h.on;
    goes = h.goes;
    full = let p = h.full in omega arith;
    is = h.is;
  }))
  longer width b bytes f first wide (inr (inr h)) = inr (inr (record {
    front = b ∷ h.front;
    last = h.last;
    later = h.later;
    joined = ap (λ (l : List ℕ). b ∷ l) h.joined;
    on = goes_more width b h.front first wide h.on;
    ends = h.ends;
    unfit = let same : width - 7 - 7 * length h.front ≡ width - 7 * length (b ∷ h.front) = omega arith in rw same at h.unfit;
    is = h.is;
  }))

  refused : (width : ℕ) (bytes : List ℕ) (f : Fault) → 0 < width → number_at s wrong width bytes ≡ Err f → Refused width bytes f
  refused width [] f some e = inl (record { on = goes_none width some; is = err_is f (fault (kinds.EndOfFile 1) 0) (sym e ∙ number_at-none s wrong width) })
  refused width (b ∷ bytes) f some e = elim (cases_lt b 128) [
    | inl last ↦ elim (cases_Bool (s.fits width b)) [
      | inl fits ↦ let h = sym (number_at-last s wrong width b bytes last fits) ∙ e in cc
      | inr wrongly ↦ inr (inr (record {
        front = [];
        last = b;
        later = bytes;
        joined = refl;
        on = goes_none width some;
        ends = last;
        unfit = let same : width ≡ width - 7 * length {A = ℕ} [] = omega arith in rw same at wrongly;
        is = err_is f (fault wrong (length bytes + 1)) (sym e ∙ number_at-wrong s wrong width b bytes last wrongly);
      }))
    ]
    | inr goes ↦ elim (cases_lt 7 width) [
      | inl wide ↦ longer width b bytes f goes wide (refused (width - 7) bytes f (omega arith)
          (made_err (s.onto (b - 128)) (number_at s wrong (width - 7) bytes) f (sym (number_at-more s wrong width b bytes goes wide) ∙ e)))
      | inr narrow ↦ inr (inl (record {
        front = [];
        last = b;
        later = bytes;
        joined = refl;
        on = goes_none width some;
        goes = goes;
        full = omega arith;
        is = err_is f (fault kinds.TooLong (length bytes + 1)) (sym e ∙ number_at-too_long s wrong width b bytes goes narrow);
      }))
    ]
  ]

  -- bytes that go on leave the fault to those that follow
  runs_on : (width : ℕ) (front bytes : List ℕ) (f : Fault) → GoesOn width front → number_at s wrong (width - 7 * length front) bytes ≡ Err f → number_at s wrong width (front ++ bytes) ≡ Err f
  runs_on width [] bytes f on e = let same : width - 7 * length {A = ℕ} [] ≡ width = omega arith in rw same at e
  runs_on width (b ∷ front) bytes f on e =
      let first : 128 ≤ b = on.goes 0 b (omega arith) in
      let p = on.allowed in
      let wide : 7 < width = omega arith in
      let same : width - 7 * length (b ∷ front) ≡ width - 7 - 7 * length front = omega arith in
      let later = runs_on (width - 7) front bytes f (record { goes = all_later b front on.goes; allowed = omega arith }) (rw same at e) in
      let step : number_at s wrong width (b ∷ (front ++ bytes)) ≡ made (s.onto (b - 128)) (number_at s wrong (width - 7) (front ++ bytes)) = number_at-more s wrong width b (front ++ bytes) first wide in
      let last : made (s.onto (b - 128)) (number_at s wrong (width - 7) (front ++ bytes)) ≡ Err f = ap (made (s.onto (b - 128))) later in
      step ∙ last

  refuses : (width : ℕ) (bytes : List ℕ) (f : Fault) → Refused width bytes f → number_at s wrong width bytes ≡ Err f
  refuses width bytes f (inl h) =
      ap (number_at s wrong width) (sym (append-nil bytes)) ∙ runs_on width bytes [] f h.on (number_at-none s wrong (width - 7 * length bytes) ∙ ap (λ (g : Fault). Err g) (sym h.is))
  refuses width bytes f (inr (inl h)) =
      ap (number_at s wrong width) h.joined ∙ runs_on width h.front (h.last ∷ h.later) f h.on
      (number_at-too_long s wrong (width - 7 * length h.front) h.last h.later h.goes (let p = h.full in omega arith) ∙ ap (λ (g : Fault). Err g) (sym h.is))
  refuses width bytes f (inr (inr h)) =
      ap (number_at s wrong width) h.joined ∙ runs_on width h.front (h.last ∷ h.later) f h.on
      (number_at-wrong s wrong (width - 7 * length h.front) h.last h.later h.ends h.unfit ∙ ap (λ (g : Fault). Err g) (sym h.is))

  pub refuses_exactly : (width : ℕ) → 0 < width → RefusesExactly s wrong width
  refuses_exactly width some bytes f = (refused width bytes f some, refuses width bytes f)
