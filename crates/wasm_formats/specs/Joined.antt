-- Formats made of others: tests, one value behind another, values in constructors.
use Rattle.std.specs.Prelude.{ℕ, ◌+◌, ◌-◌, ◌≤◌, ◌≡◌, List, ◌++◌, length, Option, Some, None, Ok, Err, ◌⊎◌, refl}
use Rattle.std.proofs.Common.{ap, sym, ◌∙◌, subst, arith, inl, inr}
use Rattle.std.proofs.lemmas.List.{append_assoc, length-append}
use Rattle.wasm_formats.specs.Stops.{Trouble, Stop, stop, moved, Parsing, ◌>>=◌}
use Rattle.wasm_formats.specs.Formats.{Format, Stands, Inside, refused_is, done_is, done_refused, step_ok, step_err, inside_later, inside_step, inside_wide, behind_small, parsed_final}

-- ---- a rule that is tested once the value was read whole; its fault stands at the value's first byte

abbrev pub tested : {A : Type 0} → Option Trouble → ℕ → A × List ℕ → Parsing A
tested None left x = Ok x
tested (Some trouble) left x = Err (stop trouble left)

pub tested_ok : {A : Type 0} (t : Option Trouble) (left : ℕ) (x y : A × List ℕ) → tested t left x ≡ Ok y → (t ≡ None) × (x ≡ y)
tested_ok None left x y e = (refl, done_is x y e)
tested_ok (Some t) left x y e = absurd cc

pub tested_err : {A : Type 0} (t : Option Trouble) (left : ℕ) (x : A × List ℕ) (s : Stop) → tested t left x ≡ Err s → (trouble : Trouble) × (t ≡ Some trouble) × (s ≡ stop trouble left)
tested_err None left x s e = absurd cc
tested_err {A} (Some t) left x s e = (t, refl, sym (refused_is {A = A × List ℕ} (stop t left) s e))

pub tested_inside : {A : Type 0} (t : Option Trouble) (left n : ℕ) (x : A × List ℕ) → left ≤ n → length x.1 ≤ n → Inside n (tested t left x)
tested_inside None left n x h k = k
tested_inside (Some t) left n x h k = h

-- a test fails at this place
abbrev pub Fails : Option Trouble → ℕ → Stop → Type 0
Fails t left s = (trouble : Trouble) × (t ≡ Some trouble) × (s ≡ stop trouble left)

-- a failed test fails with more bytes, too
pub fails_final : {A : Type 0} (t : Option Trouble) (left more : ℕ) (x : A × List ℕ) (s : Stop) → Fails t left s → tested t (left + more) x ≡ Err (moved more s)
fails_final t left more x s h = rw (h.1, h.2) refl

-- a value stands there, and what is behind it is refused
abbrev pub Behind : {A : Type 0} → Format A → List ℕ → (A → List ℕ → Type 0) → Type 0
Behind {A} f bytes refusal = (x : A) × (later : List ℕ) × Stands f.spells f.rules bytes later x × refusal x later

abbrev pub checked : {A : Type 0} → Format A → (A → Option Trouble) → Format A
checked {A} f test = record {
  spells = f.spells;
  rules = λ x. f.rules x × (test x ≡ None);
  -- the value is refused itself, or it stands there, meets its rules, and fails the test
  stops = λ bytes s. f.stops bytes s ⊎ Behind f bytes (λ x later. Fails (test x) (length bytes) s);
  parse = λ bytes. f.parse bytes >>= λ x. tested (test x.0) (length bytes) x;
  found = λ bytes later x small e. step_ok (f.parse bytes) (λ x. tested (test x.0) (length bytes) x) (x, later) e (λ y p q.
      let t = tested_ok (test y.0) (length bytes) y (x, later) q in
      let s = f.found bytes later x small (p ∙ ap (λ z. Ok z) t.1) in
      (s.0, s.1, s.2, (s.3, subst (λ (z : A × List ℕ). test z.0 ≡ None) t.1 t.0)));
  again = λ bytes more x h r. rw (f.again bytes more x h r.0, r.1) refl;
  told = λ bytes s small e. step_err (f.parse bytes) (λ x. tested (test x.0) (length bytes) x) s e (λ p. inl (f.told bytes s small p))
      (λ x p q. inr (x.0, x.1, f.found bytes x.1 x.0 small p, tested_err (test x.0) (length bytes) x s q));
  tells = λ bytes s h. elim h [
    | inl p ↦ rw (f.tells bytes s p) refl
    | inr p ↦ let stands = p.2 in rw (stands.1, f.again stands.0 p.1 p.0 stands.2 stands.3) (let t = p.3 in rw (t.1, t.2, stands.1) refl)
  ];
  within = λ bytes. inside_wide (length bytes) (f.parse bytes) (λ x. tested (test x.0) (length bytes) x) (f.within bytes)
      (λ x le. tested_inside (test x.0) (length bytes) (length bytes) x (omega arith) le);
  final = λ bytes more s small e k. step_err (f.parse bytes) (λ x. tested (test x.0) (length bytes) x) s e (λ p. rw (f.final bytes more s small p k) refl)
      (λ x p q. rw (parsed_final f bytes x.1 more x.0 small p, length-append bytes more)
      (fails_final (test x.0) (length bytes) (length more) (x.0, x.1 ++ more) s (tested_err (test x.0) (length bytes) x s q)));
}

-- the same where what fails the test isn't spelled at all
abbrev pub only : {A : Type 0} → Format A → (A → Option Trouble) → Format A
only {A} f test = record {
  spells = λ bytes x. f.spells bytes x × (test x ≡ None);
  rules = f.rules;
  stops = (checked f test).stops;
  parse = (checked f test).parse;
  found = λ bytes later x small e. let s = (checked f test).found bytes later x small e in (s.0, s.1, (s.2, s.3.1), s.3.0);
  again = λ bytes more x h r. (checked f test).again bytes more x h.0 (r, h.1);
  told = (checked f test).told;
  tells = (checked f test).tells;
  within = (checked f test).within;
  final = (checked f test).final;
}

-- ---- one value, then another, whose rules may speak of the first

abbrev pub SpellsAfter : {A B : Type 0} (f : Format A) (g : A → Format B) → List ℕ → A × B → Type 0
SpellsAfter f g bytes p = (front later : List ℕ) × (bytes ≡ front ++ later) × f.spells front p.0 × (g p.0).spells later p.1

abbrev pub after : {A B : Type 0} → Format A → (A → Format B) → Format (A × B)
after {A} {B} f g = record {
  spells = SpellsAfter f g;
  rules = λ p. f.rules p.0 × (g p.0).rules p.1;
  -- the first is refused, or it stands there, meets its rules, and the second is refused behind it
  stops = λ bytes s. f.stops bytes s ⊎ Behind f bytes (λ x later. (g x).stops later s);
  parse = λ bytes. f.parse bytes >>= λ x. (g x.0).parse x.1 >>= λ y. Ok ((x.0, y.0), y.1);
  found = λ bytes later p small e. step_ok (f.parse bytes) (λ x. (g x.0).parse x.1 >>= λ y. Ok ((x.0, y.0), y.1)) (p, later) e (λ x one q.
      step_ok ((g x.0).parse x.1) (λ y. Ok ((x.0, y.0), y.1)) (p, later) q (λ y two r.
      let s = f.found bytes x.1 x.0 small one in
      let t = (g x.0).found x.1 y.1 y.0 (behind_small f bytes x.1 x.0 small one) two in
      let same = done_is ((x.0, y.0), y.1) (p, later) r in (
        s.0 ++ t.0,
        s.1 ∙ ap (λ (l : List ℕ). s.0 ++ l) t.1 ∙ sym (append_assoc s.0 t.0 y.1) ∙ ap (λ (z : (A × B) × List ℕ). (s.0 ++ t.0) ++ z.1) same,
        subst (λ (z : (A × B) × List ℕ). SpellsAfter f g (s.0 ++ t.0) z.0) same (s.0, t.0, refl, s.2, t.2),
        subst (λ (z : (A × B) × List ℕ). f.rules z.0.0 × (g z.0.0).rules z.0.1) same (s.3, t.3),
      )));
  again = λ bytes more p h r. rw (h.2, append_assoc h.0 h.1 more, f.again h.0 (h.1 ++ more) p.0 h.3 r.0, (g p.0).again h.1 more p.1 h.4 r.1) refl;
  told = λ bytes s small e. step_err (f.parse bytes) (λ x. (g x.0).parse x.1 >>= λ y. Ok ((x.0, y.0), y.1)) s e (λ p. inl (f.told bytes s small p))
      (λ x p h. inr (
        x.0,
        x.1,
        f.found bytes x.1 x.0 small p,
        (g x.0).told x.1 s (behind_small f bytes x.1 x.0 small p)
            (step_err ((g x.0).parse x.1) (λ y. Ok ((x.0, y.0), y.1)) s h (λ e. e) (λ y _ n. done_refused ((x.0, y.0), y.1) s n)),
      ));
  tells = λ bytes s h. elim h [
    | inl p ↦ rw (f.tells bytes s p) refl
    | inr p ↦ let stands = p.2 in rw (stands.1, f.again stands.0 p.1 p.0 stands.2 stands.3, (g p.0).tells p.1 s p.3) refl
  ];
  within = λ bytes. inside_step (length bytes) (f.parse bytes) (λ x. (g x.0).parse x.1 >>= λ y. Ok ((x.0, y.0), y.1)) (f.within bytes)
      (λ x. inside_step (length x.1) ((g x.0).parse x.1) (λ y. Ok ((x.0, y.0), y.1)) ((g x.0).within x.1) (λ y. omega arith));
  final = λ bytes more s small e k. step_err (f.parse bytes) (λ x. (g x.0).parse x.1 >>= λ y. Ok ((x.0, y.0), y.1)) s e (λ p. rw (f.final bytes more s small p k) refl)
      (λ x p q. step_err ((g x.0).parse x.1) (λ y. Ok ((x.0, y.0), y.1)) s q
      (λ r. rw (parsed_final f bytes x.1 more x.0 small p, (g x.0).final x.1 more s (behind_small f bytes x.1 x.0 small p) r k) refl)
      (λ y _ n. done_refused ((x.0, y.0), y.1) s n));
}

-- ---- two values, and then two tests that are due together: the first one's fault stands at the first value, the later one's at the second

abbrev pub both_tested : {A : Type 0} → Option Trouble → Option Trouble → ℕ → ℕ → A × List ℕ → Parsing A
both_tested (Some trouble) u left mid x = Err (stop trouble left)
both_tested None u left mid x = tested u mid x

pub both_ok : {A : Type 0} (t u : Option Trouble) (left mid : ℕ) (x y : A × List ℕ) → both_tested t u left mid x ≡ Ok y → (t ≡ None) × (u ≡ None) × (x ≡ y)
both_ok None u left mid x y e = let t = tested_ok u mid x y e in (refl, t.0, t.1)
both_ok (Some t) u left mid x y e = absurd cc

-- the first test fails, or it doesn't and the later one fails
abbrev pub BothFail : Option Trouble → Option Trouble → ℕ → ℕ → Stop → Type 0
BothFail t u left mid s = Fails t left s ⊎ ((t ≡ None) × Fails u mid s)

pub both_err : {A : Type 0} (t u : Option Trouble) (left mid : ℕ) (x : A × List ℕ) (s : Stop) → both_tested t u left mid x ≡ Err s → BothFail t u left mid s
both_err None u left mid x s e = inr (refl, tested_err u mid x s e)
both_err {A} (Some t) u left mid x s e = inl (t, refl, sym (refused_is {A = A × List ℕ} (stop t left) s e))

pub both_fail : {A : Type 0} (t u : Option Trouble) (left mid : ℕ) (x : A × List ℕ) (s : Stop) → BothFail t u left mid s → both_tested t u left mid x ≡ Err s
both_fail t u left mid x s (inl h) = rw (h.1, h.2) refl
both_fail t u left mid x s (inr h) = let f = h.1 in rw (h.0, f.1, f.2) refl

pub both_final : {A : Type 0} (t u : Option Trouble) (left mid more : ℕ) (x : A × List ℕ) (s : Stop) → BothFail t u left mid s → both_tested t u (left + more) (mid + more) x ≡ Err (moved more s)
both_final t u left mid more x s (inl h) = rw (h.1, h.2) refl
both_final t u left mid more x s (inr h) = let f = h.1 in rw (h.0, f.1, f.2) refl

pub both_inside : {A : Type 0} (t u : Option Trouble) (left mid n : ℕ) (x : A × List ℕ) → left ≤ n → mid ≤ n → length x.1 ≤ n → Inside n (both_tested t u left mid x)
both_inside None u left mid n x h m k = tested_inside u mid n x m k
both_inside (Some t) u left mid n x h m k = h

module _ {A B : Type 0} (f : Format A) (g : A → Format B) (test late : A × B → Option Trouble) where
  abbrev pub pair_tested : ℕ → A × List ℕ → B × List ℕ → Parsing (A × B)
  pair_tested left x y = both_tested (test (x.0, y.0)) (late (x.0, y.0)) left (length x.1) ((x.0, y.0), y.1)

  abbrev pub second_tested : ℕ → A × List ℕ → Parsing (A × B)
  second_tested left x = (g x.0).parse x.1 >>= pair_tested left x

  -- both stand there and meet their rules
  abbrev pub PairStands : List ℕ → (A → B → List ℕ → Type 0) → Type 0
  PairStands bytes refusal = Behind f bytes (λ x mid. Behind (g x) mid (λ y later. refusal x y mid))

  abbrev pub pair_checked : Format (A × B)
  pair_checked = record {
    spells = SpellsAfter f g;
    rules = λ p. (f.rules p.0 × (g p.0).rules p.1) × (test p ≡ None) × (late p ≡ None);
    stops = λ bytes s. (after f g).stops bytes s ⊎ PairStands bytes (λ x y mid. BothFail (test (x, y)) (late (x, y)) (length bytes) (length mid) s);
    parse = λ bytes. f.parse bytes >>= second_tested (length bytes);
    found = λ bytes later p small e. step_ok (f.parse bytes) (second_tested (length bytes)) (p, later) e (λ x one q.
        step_ok ((g x.0).parse x.1) (pair_tested (length bytes) x) (p, later) q (λ y two r.
        let b = both_ok (test (x.0, y.0)) (late (x.0, y.0)) (length bytes) (length x.1) ((x.0, y.0), y.1) (p, later) r in
        let s = (after f g).found bytes later p small (rw (one, two) (ap (λ z. Ok z) b.2)) in
        (s.0, s.1, s.2, (s.3, subst (λ (z : (A × B) × List ℕ). test z.0 ≡ None) b.2 b.0, subst (λ (z : (A × B) × List ℕ). late z.0 ≡ None) b.2 b.1))));
    again = λ bytes more p h r. rw (h.2, append_assoc h.0 h.1 more, f.again h.0 (h.1 ++ more) p.0 h.3 r.0.0, (g p.0).again h.1 more p.1 h.4 r.0.1, r.1, r.2) refl;
    told = λ bytes s small e. step_err (f.parse bytes) (second_tested (length bytes)) s e (λ p. inl (inl (f.told bytes s small p)))
        (λ x p h. let behind = behind_small f bytes x.1 x.0 small p in let stands = f.found bytes x.1 x.0 small p in
        step_err ((g x.0).parse x.1) (pair_tested (length bytes) x) s h
        (λ e. inl (inr (x.0, x.1, stands, (g x.0).told x.1 s behind e)))
        (λ y q r. inr (
          x.0,
          x.1,
          stands,
          (
            y.0,
            y.1,
            (g x.0).found x.1 y.1 y.0 behind q,
            both_err (test (x.0, y.0)) (late (x.0, y.0)) (length bytes) (length x.1) ((x.0, y.0), y.1) s r,
          ),
        )));
    tells = λ bytes s h. elim h [
      | inl p ↦ elim p [
        | inl p ↦ rw (f.tells bytes s p) refl
        | inr p ↦ let stands = p.2 in rw (stands.1, f.again stands.0 p.1 p.0 stands.2 stands.3, (g p.0).tells p.1 s p.3) refl
      ]
      | inr p ↦ let stands = p.2 in let q = p.3 in let last = q.2 in
          let first : f.parse bytes ≡ Ok (p.0, p.1) = rw stands.1 (f.again stands.0 p.1 p.0 stands.2 stands.3) in
          let second : (g p.0).parse p.1 ≡ Ok (q.0, q.1) = rw last.1 ((g p.0).again last.0 q.1 q.0 last.2 last.3) in
          rw (first, second) (both_fail (test (p.0, q.0)) (late (p.0, q.0)) (length bytes) (length p.1) ((p.0, q.0), q.1) s q.3)
    ];
    within = λ bytes. inside_wide (length bytes) (f.parse bytes) (second_tested (length bytes)) (f.within bytes)
        (λ x le. inside_wide (length bytes) ((g x.0).parse x.1) (pair_tested (length bytes) x)
        (inside_later (length x.1) (length bytes) ((g x.0).parse x.1) le ((g x.0).within x.1))
        (λ y more. both_inside (test (x.0, y.0)) (late (x.0, y.0)) (length bytes) (length x.1) (length bytes) ((x.0, y.0), y.1) (omega arith) le more));
    final = λ bytes more s small e k. step_err (f.parse bytes) (second_tested (length bytes)) s e (λ p. rw (f.final bytes more s small p k) refl)
        (λ x p q. let behind = behind_small f bytes x.1 x.0 small p in
        step_err ((g x.0).parse x.1) (pair_tested (length bytes) x) s q
        (λ r. rw (parsed_final f bytes x.1 more x.0 small p, (g x.0).final x.1 more s behind r k) refl)
        (λ y r n. rw (parsed_final f bytes x.1 more x.0 small p, parsed_final (g x.0) x.1 y.1 more y.0 behind r, length-append bytes more, length-append x.1 more)
        (both_final (test (x.0, y.0)) (late (x.0, y.0)) (length bytes) (length x.1) (length more) ((x.0, y.0), y.1 ++ more) s
        (both_err (test (x.0, y.0)) (late (x.0, y.0)) (length bytes) (length x.1) ((x.0, y.0), y.1) s n))));
  }

-- ---- a value in a constructor or a record

abbrev pub SpellsIn : {A B : Type 0} (f : Format A) (into : A → B) → List ℕ → B → Type 0
SpellsIn {A} f into bytes y = (x : A) × (into x ≡ y) × f.spells bytes x

abbrev pub built : {A B : Type 0} (f : Format A) (into : A → B) → ((x y : A) → into x ≡ into y → x ≡ y) → Format B
built {A} {B} f into injective = record {
  spells = SpellsIn f into;
  rules = λ y. (x : A) → into x ≡ y → f.rules x;
  stops = f.stops;
  parse = λ bytes. f.parse bytes >>= λ x. Ok (into x.0, x.1);
  found = λ bytes later y small e. step_ok (f.parse bytes) (λ x. Ok (into x.0, x.1)) (y, later) e (λ x p q.
      let s = f.found bytes x.1 x.0 small p in
      let same = done_is (into x.0, x.1) (y, later) q in (
        s.0,
        s.1 ∙ ap (λ (z : B × List ℕ). s.0 ++ z.1) same,
        (x.0, ap (λ (z : B × List ℕ). z.0) same, s.2),
        (λ z i. subst f.rules (sym (injective z x.0 (i ∙ sym (ap (λ (z : B × List ℕ). z.0) same)))) s.3),
      ));
  again = λ bytes more y h r. rw (f.again bytes more h.0 h.2 (r h.0 h.1), h.1) refl;
  told = λ bytes s small e. step_err (f.parse bytes) (λ x. Ok (into x.0, x.1)) s e (λ p. f.told bytes s small p) (λ x p n. done_refused (into x.0, x.1) s n);
  tells = λ bytes s h. rw (f.tells bytes s h) refl;
  within = λ bytes. inside_step (length bytes) (f.parse bytes) (λ x. Ok (into x.0, x.1)) (f.within bytes) (λ x. omega arith);
  final = λ bytes more s small e k. step_err (f.parse bytes) (λ x. Ok (into x.0, x.1)) s e (λ p. rw (f.final bytes more s small p k) refl) (λ x p n. done_refused (into x.0, x.1) s n);
}

-- ---- a value, and the place behind it, where its bytes begin at this place

abbrev pub ends_at : {A : Type 0} → ℕ → Format A → Format (ℕ × A)
ends_at {A} start f = record {
  spells = λ bytes p. f.spells bytes p.1 × (p.0 ≡ start + length bytes);
  rules = λ p. f.rules p.1;
  stops = f.stops;
  parse = λ bytes. f.parse bytes >>= λ x. Ok ((start + (length bytes - length x.1), x.0), x.1);
  found = λ bytes later p small e. step_ok (f.parse bytes) (λ x. Ok ((start + (length bytes - length x.1), x.0), x.1)) (p, later) e (λ x q r.
      let s = f.found bytes x.1 x.0 small q in
      let same = done_is ((start + (length bytes - length x.1), x.0), x.1) (p, later) r in
      let size : start + (length bytes - length x.1) ≡ start + length s.0 = omega (arith, ap length s.1, length-append s.0 x.1) in (
        s.0,
        s.1 ∙ ap (λ (z : (ℕ × A) × List ℕ). s.0 ++ z.1) same,
        subst (λ (z : (ℕ × A) × List ℕ). f.spells s.0 z.0.1 × (z.0.0 ≡ start + length s.0)) same (s.2, size),
        subst (λ (z : (ℕ × A) × List ℕ). f.rules z.0.1) same s.3,
      ));
  again = λ bytes more p h r.
      let size : start + (length (bytes ++ more) - length more) ≡ p.0 = omega (arith, length-append bytes more, h.1) in
      rw (f.again bytes more p.1 h.0 r, size) refl;
  told = λ bytes s small e. step_err (f.parse bytes) (λ x. Ok ((start + (length bytes - length x.1), x.0), x.1)) s e (λ p. f.told bytes s small p) (λ x p n. done_refused ((start + (length bytes - length x.1), x.0), x.1) s n);
  tells = λ bytes s h. rw (f.tells bytes s h) refl;
  within = λ bytes. inside_step (length bytes) (f.parse bytes) (λ x. Ok ((start + (length bytes - length x.1), x.0), x.1)) (f.within bytes) (λ x. omega arith);
  final = λ bytes more s small e k. step_err (f.parse bytes) (λ x. Ok ((start + (length bytes - length x.1), x.0), x.1)) s e (λ p. rw (f.final bytes more s small p k) refl) (λ x p n. done_refused ((start + (length bytes - length x.1), x.0), x.1) s n);
}
