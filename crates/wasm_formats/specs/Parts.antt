-- Formats of parts that may be missing, of values in other words, and tests whose fault stands inside a value.
use Rattle.std.specs.Prelude.{ℕ, ◌+◌, ◌-◌, ◌≤◌, ◌≡◌, Bool, List, [], ◌++◌, length, Option, Some, None, Ok, Err, ◌⊎◌, refl}
use Rattle.std.proofs.Common.{ap, sym, ◌∙◌, subst, arith, inl, inr}
use Rattle.std.proofs.lemmas.List.{length-append}
use Rattle.wasm_formats.specs.Stops.{Trouble, Stop, stop, moved, Parsing, ◌>>=◌}
use Rattle.wasm_formats.specs.Formats.{Format, Inside, done_is, done_refused, refused, refused_is, step_ok, step_err, inside_wide, parsed_final}
use Rattle.wasm_formats.specs.Bytes.{either}
use Rattle.wasm_formats.specs.Joined.{Behind, built}

-- ---- no bytes stand for this value

abbrev pub nothing : {A : Type 0} → A → Format A
nothing {A} x = record {
  spells = λ bytes y. (bytes ≡ []) × (x ≡ y);
  rules = λ _. Unit {0};
  stops = λ _ _. ⊥;
  parse = λ bytes. Ok (x, bytes);
  found = λ bytes later y small e. let same = done_is (x, bytes) (y, later) e in ([], ap (λ (z : A × List ℕ). z.1) same, (refl, ap (λ (z : A × List ℕ). z.0) same), tt);
  again = λ bytes more y h r. rw (h.0, h.1) refl;
  told = λ bytes s small e. done_refused (x, bytes) s e;
  tells = λ bytes s h. absurd h;
  within = λ bytes. omega arith;
  final = λ bytes more s small e k. done_refused (x, bytes) s e;
}

pub some_once : {A : Type 0} (x y : A) → Some x ≡ Some y → x ≡ y
some_once x y e = cc

-- a part that is there or isn't, by what was read before
abbrev pub optional : {A : Type 0} → Bool → Format A → Format (Option A)
optional {A} there f = either there (built f (λ x. Some x) some_once) (nothing None)

-- ---- a value in other words, where it has some

abbrev pub told_as : {A B : Type 0} → (A → Option B) → Trouble → ℕ → A × List ℕ → Option B → Parsing B
told_as into trouble left x None = Err (stop trouble left)
told_as into trouble left x (Some y) = Ok (y, x.1)

pub told_ok : {A B : Type 0} (into : A → Option B) (trouble : Trouble) (left : ℕ) (x : A × List ℕ) (o : Option B) (y : B × List ℕ)
    → told_as into trouble left x o ≡ Ok y → (o ≡ Some y.0) × (x.1 ≡ y.1)
told_ok into trouble left x None y e = absurd cc
told_ok {A} {B} into trouble left x (Some z) y e =
    let same = done_is (z, x.1) y e in
    (ap (λ (w : B × List ℕ). Some w.0) same, ap (λ (w : B × List ℕ). w.1) same)

pub told_err : {A B : Type 0} (into : A → Option B) (trouble : Trouble) (left : ℕ) (x : A × List ℕ) (o : Option B) (s : Stop)
    → told_as into trouble left x o ≡ Err s → (o ≡ None) × (s ≡ stop trouble left)
told_err {A} {B} into trouble left x None s e = (refl, sym (refused_is {A = B × List ℕ} (stop trouble left) s e))
told_err into trouble left x (Some z) s e = done_refused (z, x.1) s e

pub told_inside : {A B : Type 0} (into : A → Option B) (trouble : Trouble) (left n : ℕ) (x : A × List ℕ) (o : Option B) → left ≤ n → length x.1 ≤ n → Inside n (told_as into trouble left x o)
told_inside into trouble left n x None h k = h
told_inside into trouble left n x (Some y) h k = k

module _ {A B : Type 0} (f : Format A) (into : A → Option B) (trouble : Trouble) (once : (x y : A) (z : B) → into x ≡ Some z → into y ≡ Some z → x ≡ y) where
  abbrev pub SpellsTold : List ℕ → B → Type 0
  SpellsTold bytes y = (x : A) × (into x ≡ Some y) × f.spells bytes x

  abbrev pub told_next : ℕ → A × List ℕ → Parsing B
  told_next left x = told_as into trouble left x (into x.0)

  -- a value that has no other words is refused at its first byte
  abbrev pub seen : Format B
  seen = record {
    spells = SpellsTold;
    rules = λ y. (x : A) → into x ≡ Some y → f.rules x;
    stops = λ bytes s. f.stops bytes s ⊎ Behind f bytes (λ x later. (into x ≡ None) × (s ≡ stop trouble (length bytes)));
    parse = λ bytes. f.parse bytes >>= told_next (length bytes);
    found = λ bytes later y small e. step_ok (f.parse bytes) (told_next (length bytes)) (y, later) e (λ x p q.
        let t = told_ok into trouble (length bytes) x (into x.0) (y, later) q in
        let s = f.found bytes x.1 x.0 small p in
        (s.0, s.1 ∙ ap (λ (l : List ℕ). s.0 ++ l) t.1, (x.0, t.0, s.2), (λ z i. subst f.rules (sym (once z x.0 y i t.0)) s.3)));
    again = λ bytes more y h r. rw (f.again bytes more h.0 h.2 (r h.0 h.1), h.1) refl;
    told = λ bytes s small e. step_err (f.parse bytes) (told_next (length bytes)) s e (λ p. inl (f.told bytes s small p))
        (λ x p q. inr (x.0, x.1, f.found bytes x.1 x.0 small p, told_err into trouble (length bytes) x (into x.0) s q));
    tells = λ bytes s h. elim h [
      | inl p ↦ rw (f.tells bytes s p) refl
      | inr p ↦ let stands = p.2 in let none = p.3 in
          let there : f.parse bytes ≡ Ok (p.0, p.1) = rw stands.1 (f.again stands.0 p.1 p.0 stands.2 stands.3) in
          rw (there, none.0, none.1) refl
    ];
    within = λ bytes. inside_wide (length bytes) (f.parse bytes) (told_next (length bytes)) (f.within bytes)
        (λ x le. told_inside into trouble (length bytes) (length bytes) x (into x.0) (omega arith) le);
    final = λ bytes more s small e k. step_err (f.parse bytes) (told_next (length bytes)) s e (λ p. rw (f.final bytes more s small p k) refl)
        (λ x p q. let t = told_err into trouble (length bytes) x (into x.0) s q in
        rw (parsed_final f bytes x.1 more x.0 small p, t.0, length-append bytes more, t.1) refl);
  }

-- ---- a test of a whole value whose fault stands inside it, so many bytes behind its first

abbrev pub inner_tested : {A : Type 0} → Option (ℕ × Trouble) → ℕ → A × List ℕ → Parsing A
inner_tested None left x = Ok x
inner_tested (Some t) left x = Err (stop t.1 (left - t.0))

pub inner_ok : {A : Type 0} (t : Option (ℕ × Trouble)) (left : ℕ) (x y : A × List ℕ) → inner_tested t left x ≡ Ok y → (t ≡ None) × (x ≡ y)
inner_ok None left x y e = (refl, done_is x y e)
inner_ok (Some t) left x y e = absurd cc

-- a test fails so many bytes behind a place
abbrev pub FailsInside : Option (ℕ × Trouble) → ℕ → Stop → Type 0
FailsInside t left s = (f : ℕ × Trouble) × (t ≡ Some f) × (s ≡ stop f.1 (left - f.0))

pub inner_err : {A : Type 0} (t : Option (ℕ × Trouble)) (left : ℕ) (x : A × List ℕ) (s : Stop) → inner_tested t left x ≡ Err s → FailsInside t left s
inner_err None left x s e = absurd cc
inner_err {A} (Some t) left x s e = (t, refl, sym (refused_is {A = A × List ℕ} (stop t.1 (left - t.0)) s e))

pub inner_inside : {A : Type 0} (t : Option (ℕ × Trouble)) (n : ℕ) (x : A × List ℕ) → length x.1 ≤ n → Inside n (inner_tested t n x)
inner_inside None n x le = le
inner_inside (Some t) n x le = omega arith

pub inner_final : {A : Type 0} (t : Option (ℕ × Trouble)) (left more : ℕ) (x : A × List ℕ) (s : Stop) (f : ℕ × Trouble) → t ≡ Some f → f.0 ≤ left → s ≡ stop f.1 (left - f.0)
    → inner_tested t (left + more) x ≡ Err (moved more s)
inner_final t left more x s f e le h = rw (e, h) (ap (λ (n : ℕ). refused (stop f.1 n)) (omega (arith, le)))

module _ {A : Type 0} (f : Format A) (test : A → Option (ℕ × Trouble)) (inner : (bytes : List ℕ) (x : A) (t : ℕ × Trouble) → f.spells bytes x → test x ≡ Some t → t.0 ≤ length bytes) where
  abbrev pub inner_checked : Format A
  inner_checked = record {
    spells = f.spells;
    rules = λ x. f.rules x × (test x ≡ None);
    stops = λ bytes s. f.stops bytes s ⊎ Behind f bytes (λ x later. FailsInside (test x) (length bytes) s);
    parse = λ bytes. f.parse bytes >>= λ x. inner_tested (test x.0) (length bytes) x;
    found = λ bytes later x small e. step_ok (f.parse bytes) (λ x. inner_tested (test x.0) (length bytes) x) (x, later) e (λ y p q.
        let t = inner_ok (test y.0) (length bytes) y (x, later) q in
        let s = f.found bytes later x small (p ∙ ap (λ z. Ok z) t.1) in
        (s.0, s.1, s.2, (s.3, subst (λ (z : A × List ℕ). test z.0 ≡ None) t.1 t.0)));
    again = λ bytes more x h r. rw (f.again bytes more x h r.0, r.1) refl;
    told = λ bytes s small e. step_err (f.parse bytes) (λ x. inner_tested (test x.0) (length bytes) x) s e (λ p. inl (f.told bytes s small p))
        (λ x p q. inr (x.0, x.1, f.found bytes x.1 x.0 small p, inner_err (test x.0) (length bytes) x s q));
    tells = λ bytes s h. elim h [
      | inl p ↦ rw (f.tells bytes s p) refl
      | inr p ↦ let stands = p.2 in let t = p.3 in
          let there : f.parse bytes ≡ Ok (p.0, p.1) = rw stands.1 (f.again stands.0 p.1 p.0 stands.2 stands.3) in
          rw (there, t.1, t.2) refl
    ];
    within = λ bytes. inside_wide (length bytes) (f.parse bytes) (λ x. inner_tested (test x.0) (length bytes) x) (f.within bytes)
        (λ x le. inner_inside (test x.0) (length bytes) x le);
    final = λ bytes more s small e k. step_err (f.parse bytes) (λ x. inner_tested (test x.0) (length bytes) x) s e (λ p. rw (f.final bytes more s small p k) refl)
        (λ x p q. let t = inner_err (test x.0) (length bytes) x s q in
        let stands = f.found bytes x.1 x.0 small p in
        let le : t.0.0 ≤ length bytes = omega (arith, inner stands.0 x.0 t.0 stands.2 t.1, ap length stands.1, length-append stands.0 x.1) in
        rw (parsed_final f bytes x.1 more x.0 small p, length-append bytes more) (inner_final (test x.0) (length bytes) (length more) (x.0, x.1 ++ more) s t.0 t.1 le t.2));
  }
