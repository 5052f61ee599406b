-- Lemmas: laws of bodies.
use Rattle.std.specs.Prelude.{ℕ, ◌≡◌, ◌⊎◌, true, List, [], ◌∷◌, ◌++◌, length, fold, Result, Ok, Err, refl}
use Rattle.std.proofs.Common.{ap, sym, ◌∙◌, subst, arith, inl, inr}
use Rattle.std.proofs.lemmas.List.{append_assoc, append-nil}
use Rattle.wasm_grammar.specs.wasm_formats.Stops.{Nesting, Stop, stop, moved}
use Rattle.wasm_grammar.specs.wasm_formats.Formats.{InsideAll, front_small, done_is, done_refused, refused_is, step_ok, step_err}
use Rattle.wasm_grammar.specs.Modules.{Body}
use Rattle.wasm_body_grammar.specs.Rules.{Around}
use Rattle.wasm_body_grammar.specs.Bodies.{Parts, Point, next_total, next_point, opened, is_closed, operator_in, body, body_of}
use Rattle.wasm_body_grammar.specs.Closed.{closed_body}
use Rattle.wasm_body_grammar.specs.Laws.{ReadsBody, StopsBody, BodiesReadOnce, ReadDontStop, BodiesReadOrStop, BodiesStopOnce, BodiesStopInside, BodiesStopForGood, BodiesEnd, BodiesArePrefixFree, ParsingReads}

pub bodies_read_once : BodiesReadOnce
bodies_read_once a params place bytes x y h k =
    let f = body a params place in
    let same = done_is h.0 k.0 (sym (f.again bytes h.0 h.1.0 h.1.1) ∙ f.again bytes k.0 k.1.0 k.1.1) in
    sym h.2 ∙ ap body_of same ∙ k.2

pub read_dont_stop : ReadDontStop
read_dont_stop a params place bytes x s h stops =
    let f = body a params place in done_refused h.0 s (sym (f.again bytes h.0 h.1.0 h.1.1) ∙ f.tells bytes s stops)

pub bodies_read_or_stop : BodiesReadOrStop
bodies_read_or_stop a params place bytes small = go ((body a params place).parse bytes) refl
  where
    go : (r : Result Parts Stop) → (body a params place).parse bytes ≡ r → ((x : Body) × ReadsBody a params place bytes x) ⊎ ((s : Stop) × StopsBody a params place bytes s)
    go (Ok parts) e = inl (body_of parts, (parts, (body a params place).found bytes parts small e, refl))
    go (Err s) e = inr (s, (body a params place).told bytes s small e)

pub bodies_stop_once : BodiesStopOnce
bodies_stop_once a params place bytes s t h k =
    let f = body a params place in refused_is {A = Parts} s t (sym (f.tells bytes s h) ∙ f.tells bytes t k)

pub bodies_stop_inside : BodiesStopInside
bodies_stop_inside a params place bytes s h =
    let f = body a params place in subst (λ (r : Result Parts Stop). InsideAll (length bytes) r) (f.tells bytes s h) (f.within bytes)

pub bodies_stop_for_good : BodiesStopForGood
bodies_stop_for_good a params place bytes more s small h lasting =
    let f = body a params place in
    f.told (bytes ++ more) (moved (length more) s) small (closed_body a params place bytes more s (front_small bytes more small) (f.tells bytes s h) lasting)

-- ---- what follows a body

-- once the body is closed, what follows is refused
pub closed_stops : (a : Around) (locals : ℕ) (s : Point) (more : List ℕ) → is_closed s.frames ≡ true → (operator_in a locals s).stops more (stop Nesting (length more))
closed_stops a locals s more e = rw e refl

pub bodies_end : BodiesEnd
bodies_end a params place bytes more x h some =
    let parts = h.0 in
    let s = h.1.0 in
    let locals = fold next_total params parts.0.1 in
    inr (
      parts.0,
      s.1 ++ more,
      (s.0, ap (λ (l : List ℕ). l ++ more) s.2 ∙ append_assoc s.0 s.1 more, s.3, h.1.1.0),
      inl (parts.1, s.1, more, refl, s.4, h.1.1.1.0, some, closed_stops a locals (fold next_point (opened parts.0.0) parts.1) more h.1.1.1.1),
    )

-- of two fronts of a list one begins with the other
pub fronts_agree : (a b x y : List ℕ) → a ++ x ≡ b ++ y → ((more : List ℕ) × (b ≡ a ++ more)) ⊎ ((more : List ℕ) × (a ≡ b ++ more))
fronts_agree [] b x y e = inl (b, refl)
fronts_agree (c ∷ a) [] x y e = inr (c ∷ a, refl)
fronts_agree (c ∷ a) (d ∷ b) x y e = elim (fronts_agree a b x y (tail_is c d (a ++ x) (b ++ y) e)) [
  | inl h ↦ inl (h.0, rw (h.1, head_is c d (a ++ x) (b ++ y) e) refl)
  | inr h ↦ inr (h.0, rw (h.1, head_is c d (a ++ x) (b ++ y) e) refl)
]
  where
    head_is : (c d : ℕ) (xs ys : List ℕ) → c ∷ xs ≡ d ∷ ys → c ≡ d
    head_is c d xs ys e = cc

    tail_is : (c d : ℕ) (xs ys : List ℕ) → c ∷ xs ≡ d ∷ ys → xs ≡ ys
    tail_is c d xs ys e = cc

-- a body's bytes are not the front of another's
pub end_apart : (a : Around) (params place : ℕ) (bytes more : List ℕ) (x y : Body) → ReadsBody a params place bytes x → ReadsBody a params place (bytes ++ more) y → more ≡ []
end_apart a params place bytes [] x y h k = refl
end_apart a params place bytes (b ∷ more) x y h k =
    absurd (read_dont_stop a params place (bytes ++ b ∷ more) y (stop Nesting (length (b ∷ more))) k (bodies_end a params place bytes (b ∷ more) x h (omega arith)))

pub bodies_are_prefix_free : BodiesArePrefixFree
bodies_are_prefix_free a params place b c x y m n h k e = elim (fronts_agree b c x y e) [
  | inl f ↦
      let none = end_apart a params place b f.0 m n h (subst (λ (l : List ℕ). ReadsBody a params place l n) f.1 k) in
      let same : b ≡ c = sym (f.1 ∙ ap (λ (l : List ℕ). b ++ l) none ∙ append-nil b) in
      (same, bodies_read_once a params place b m n h (subst (λ (l : List ℕ). ReadsBody a params place l n) (sym same) k))
  | inr f ↦
      let none = end_apart a params place c f.0 n m k (subst (λ (l : List ℕ). ReadsBody a params place l m) f.1 h) in
      let same : b ≡ c = f.1 ∙ ap (λ (l : List ℕ). c ++ l) none ∙ append-nil c in
      (same, bodies_read_once a params place b m n h (subst (λ (l : List ℕ). ReadsBody a params place l n) (sym same) k))
]

-- ---- as it is parsed

pub parsing_reads : ParsingReads
parsing_reads = record {
  found = λ a params place bytes x small e. step_ok ((body a params place).parse bytes) (λ parts. Ok (body_of parts)) x e (λ parts p q.
      (parts, (body a params place).found bytes parts small p, done_is (body_of parts) x q));
  again = λ a params place bytes x h. rw ((body a params place).again bytes h.0 h.1.0 h.1.1, h.2) refl;
  told = λ a params place bytes s small e. step_err ((body a params place).parse bytes) (λ parts. Ok (body_of parts)) s e
      (λ p. (body a params place).told bytes s small p) (λ parts p q. done_refused (body_of parts) s q);
  tells = λ a params place bytes s h. rw ((body a params place).tells bytes s h) refl;
}
