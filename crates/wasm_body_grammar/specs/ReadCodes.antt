-- Lemmas: the bodies of a module are parsed as they read.
use Rattle.std.specs.Prelude.{ℕ, ◌-◌, ◌+◌, ◌≤◌, ◌≡◌, List, [], ◌∷◌, Result, Ok, Err, refl}
use Rattle.std.proofs.Common.{ap, sym, ◌∙◌, subst, arith, inl, inr}
use Rattle.wasm_grammar.specs.wasm_formats.Stops.{Stop, stop, moved, before, ◌>>=◌}
use Rattle.wasm_grammar.specs.wasm_formats.Formats.{done_is, done_refused, refused_is, step_ok, step_err}
use Rattle.wasm_grammar.specs.Modules.{Body}
use Rattle.wasm_body_grammar.specs.Rules.{Around}
use Rattle.wasm_body_grammar.specs.Bodies.{body_at}
use Rattle.wasm_body_grammar.specs.Read.{parsing_reads, bodies_stop_inside}
use Rattle.wasm_body_grammar.specs.Codes.{Code, left_behind, codes_at, ReadsCodes, StopsCodes, AreBytes, AreInside, ParsingReadsAll}

before_ok : {A : Type 0} (more : ℕ) (r : Result A Stop) (x : A) → before more r ≡ Ok x → r ≡ Ok x
before_ok more (Ok x) y e = cc
before_ok more (Err s) y e = absurd cc

before_err : {A : Type 0} (more : ℕ) (r : Result A Stop) (s : Stop) → before more r ≡ Err s → (t : Stop) × (r ≡ Err t) × (s ≡ moved more t)
before_err more (Ok x) s e = absurd cc
before_err {A} more (Err t) s e = (t, refl, sym (refused_is {A = A} (moved more t) s e))

codes_found : (a : Around) (left : ℕ) (codes : List Code) (xs : List Body) → AreBytes codes → codes_at a left codes ≡ Ok xs → ReadsCodes a codes xs
codes_found a left [] xs small e = subst (ReadsCodes a []) (done_is [] xs e) tt
codes_found a left (c ∷ codes) xs small e =
    step_ok (before (left_behind left c.chunk) (body_at a c.params c.chunk.place c.chunk.bytes)) (λ x. codes_at a left codes >>= λ xs. Ok (x ∷ xs)) xs e (λ x p q.
    step_ok (codes_at a left codes) (λ xs. Ok (x ∷ xs)) xs q (λ ys r t.
    subst (ReadsCodes a (c ∷ codes)) (done_is (x ∷ ys) xs t) (
      parsing_reads.found a c.params c.chunk.place c.chunk.bytes x small.0 (before_ok (left_behind left c.chunk) (body_at a c.params c.chunk.place c.chunk.bytes) x p),
      codes_found a left codes ys small.1 r,
    )))

codes_again : (a : Around) (left : ℕ) (codes : List Code) (xs : List Body) → ReadsCodes a codes xs → codes_at a left codes ≡ Ok xs
codes_again a left [] [] h = refl
codes_again a left [] (x ∷ xs) h = absurd h
codes_again a left (c ∷ codes) [] h = absurd h
codes_again a left (c ∷ codes) (x ∷ xs) h = rw (parsing_reads.again a c.params c.chunk.place c.chunk.bytes x h.0, codes_again a left codes xs h.1) refl

codes_told : (a : Around) (left : ℕ) (codes : List Code) (s : Stop) → AreBytes codes → codes_at a left codes ≡ Err s → StopsCodes a left codes s
codes_told a left [] s small e = done_refused [] s e
codes_told a left (c ∷ codes) s small e =
    step_err (before (left_behind left c.chunk) (body_at a c.params c.chunk.place c.chunk.bytes)) (λ x. codes_at a left codes >>= λ xs. Ok (x ∷ xs)) s e
    (λ p. let t = before_err (left_behind left c.chunk) (body_at a c.params c.chunk.place c.chunk.bytes) s p in
    inl (t.0, parsing_reads.told a c.params c.chunk.place c.chunk.bytes t.0 small.0 t.1, t.2))
    (λ x p q. step_err (codes_at a left codes) (λ xs. Ok (x ∷ xs)) s q
    (λ r. inr (
      x,
      parsing_reads.found a c.params c.chunk.place c.chunk.bytes x small.0 (before_ok (left_behind left c.chunk) (body_at a c.params c.chunk.place c.chunk.bytes) x p),
      codes_told a left codes s small.1 r,
    ))
    (λ xs _ t. done_refused (x ∷ xs) s t))

codes_tells : (a : Around) (left : ℕ) (codes : List Code) (s : Stop) → StopsCodes a left codes s → codes_at a left codes ≡ Err s
codes_tells a left [] s h = absurd h
codes_tells a left (c ∷ codes) s (inl h) = rw (parsing_reads.tells a c.params c.chunk.place c.chunk.bytes h.0 h.1, h.2) refl
codes_tells a left (c ∷ codes) s (inr h) = rw (parsing_reads.again a c.params c.chunk.place c.chunk.bytes h.0 h.1, codes_tells a left codes s h.2) refl

codes_within : (a : Around) (left : ℕ) (codes : List Code) (s : Stop) → AreInside left codes → StopsCodes a left codes s → s.left ≤ left
codes_within a left [] s inside h = absurd h
codes_within a left (c ∷ codes) s inside (inl h) =
    let near = bodies_stop_inside a c.params c.chunk.place c.chunk.bytes h.0 h.1 in
    let is : s.left ≡ h.0.left + left_behind left c.chunk = ap (λ (s : Stop). s.left) h.2 in
    omega (arith, near, is, inside.0)
codes_within a left (c ∷ codes) s inside (inr h) = codes_within a left codes s inside.1 h.2

codes_move : (a : Around) (left other : ℕ) (codes : List Code) (s : Stop) (place : ℕ) → AreInside left codes → AreInside other codes → StopsCodes a left codes s → place + s.left ≡ left
    → StopsCodes a other codes (stop s.trouble (other - place))
codes_move a left other [] s place inside there h sum = absurd h
codes_move a left other (c ∷ codes) s place inside there (inl h) sum =
    let near = bodies_stop_inside a c.params c.chunk.place c.chunk.bytes h.0 h.1 in
    let is : s.left ≡ h.0.left + left_behind left c.chunk = ap (λ (s : Stop). s.left) h.2 in
    let far : other - place ≡ h.0.left + left_behind other c.chunk = omega (arith, near, is, inside.0, there.0, sum) in
    inl (h.0, h.1, ap (λ (s : Stop). stop s.trouble (other - place)) h.2 ∙ ap (λ (n : ℕ). stop h.0.trouble n) far)
codes_move a left other (c ∷ codes) s place inside there (inr h) sum = inr (h.0, h.1, codes_move a left other codes s place inside.1 there.1 h.2 sum)

pub parsing_reads_all : ParsingReadsAll
parsing_reads_all = record { found = codes_found; again = codes_again; told = codes_told; tells = codes_tells; within = codes_within; moves = codes_move }
