-- A value that is read whole, then tested at its first byte, and only then tested at places inside it.
use Rattle.std.specs.Prelude.{ℕ, ◌+◌, ◌≡◌, List, ◌++◌, length, Option, None, Ok, Err, ◌⊎◌, refl}
use Rattle.std.proofs.Common.{sym, ◌∙◌, subst, arith, inl, inr}
use Rattle.std.proofs.lemmas.List.{length-append}
use Rattle.wasm_formats.specs.Stops.{Trouble, Stop, moved, Parsing, ◌>>=◌}
use Rattle.wasm_formats.specs.Formats.{Format, done_is, step_ok, step_err, inside_wide, parsed_final}
use Rattle.wasm_formats.specs.Joined.{tested, tested_ok, tested_err, tested_inside, Fails, Behind}

-- one format spells and asks what another does, and may ask more
pub record Refines {A : Type 0} (strict loose : Format A) : Type 0 where
  pub spelled : (bytes : List ℕ) (x : A) → strict.spells bytes x → loose.spells bytes x
  pub ruled : (x : A) → strict.rules x → loose.rules x

pub fails_then : {A B : Type 0} (t : Option Trouble) (left more : ℕ) (x : A × List ℕ) (next : A × List ℕ → Parsing B) (s : Stop) → Fails t left s
    → (tested t (left + more) x >>= next) ≡ Err (moved more s)
fails_then t left more x next s h = rw (h.1, h.2) refl

module _ {A : Type 0} (loose strict : Format A) (refines : Refines strict loose) (test : A → Option Trouble) where
  abbrev pub then_strict : List ℕ → A × List ℕ → Parsing A
  then_strict bytes x = tested (test x.0) (length bytes) x >>= λ _. strict.parse bytes

  -- what the value fails once it was read: the test, at its first byte; or, where it passes that, what more is asked of it
  abbrev pub FailsThen : List ℕ → A → Stop → Type 0
  FailsThen bytes x s = Fails (test x) (length bytes) s ⊎ ((test x ≡ None) × strict.stops bytes s)

  abbrev pub first_checked : Format A
  first_checked = record {
    spells = strict.spells;
    rules = λ x. strict.rules x × (test x ≡ None);
    stops = λ bytes s. loose.stops bytes s ⊎ Behind loose bytes (λ x later. FailsThen bytes x s);
    parse = λ bytes. loose.parse bytes >>= then_strict bytes;
    found = λ bytes later x small e. step_ok (loose.parse bytes) (then_strict bytes) (x, later) e (λ y p q.
        step_ok (tested (test y.0) (length bytes) y) (λ _. strict.parse bytes) (x, later) q (λ z t r.
        let held = (tested_ok (test y.0) (length bytes) y z t).0 in
        let s = strict.found bytes later x small r in
        let there : loose.parse bytes ≡ Ok (x, later) = rw s.1 (loose.again s.0 later x (refines.spelled s.0 x s.2) (refines.ruled x s.3)) in
        let same = done_is y (x, later) (sym p ∙ there) in
        (s.0, s.1, s.2, (s.3, subst (λ (z : A × List ℕ). test z.0 ≡ None) same held))));
    again = λ bytes more x h r. rw (loose.again bytes more x (refines.spelled bytes x h) (refines.ruled x r.0), r.1) (strict.again bytes more x h r.0);
    told = λ bytes s small e. step_err (loose.parse bytes) (then_strict bytes) s e (λ p. inl (loose.told bytes s small p))
        (λ x p q. inr (
          x.0,
          x.1,
          loose.found bytes x.1 x.0 small p,
          step_err (tested (test x.0) (length bytes) x) (λ _. strict.parse bytes) s q (λ r. inl (tested_err (test x.0) (length bytes) x s r))
              (λ z t r. inr ((tested_ok (test x.0) (length bytes) x z t).0, strict.told bytes s small r)),
        ));
    tells = λ bytes s h. elim h [
      | inl p ↦ rw (loose.tells bytes s p) refl
      | inr p ↦ let stands = p.2 in
          let there : loose.parse bytes ≡ Ok (p.0, p.1) = rw stands.1 (loose.again stands.0 p.1 p.0 stands.2 stands.3) in
          elim p.3 [
            | inl t ↦ rw (there, t.1, t.2) refl
            | inr t ↦ rw (there, t.0) (strict.tells bytes s t.1)
          ]
    ];
    within = λ bytes. inside_wide (length bytes) (loose.parse bytes) (then_strict bytes) (loose.within bytes)
        (λ x le. inside_wide (length bytes) (tested (test x.0) (length bytes) x) (λ _. strict.parse bytes)
        (tested_inside (test x.0) (length bytes) (length bytes) x (omega arith) le) (λ z _. strict.within bytes));
    final = λ bytes more s small e k. step_err (loose.parse bytes) (then_strict bytes) s e (λ p. rw (loose.final bytes more s small p k) refl)
        (λ x p q. let there = parsed_final loose bytes x.1 more x.0 small p in
        step_err (tested (test x.0) (length bytes) x) (λ _. strict.parse bytes) s q
        (λ r. rw (there, length-append bytes more)
        (fails_then (test x.0) (length bytes) (length more) (x.0, x.1 ++ more) (λ _. strict.parse (bytes ++ more)) s (tested_err (test x.0) (length bytes) x s r)))
        (λ z t r. rw (there, (tested_ok (test x.0) (length bytes) x z t).0) (strict.final bytes more s small r k)));
  }
