-- Lemmas: bodies that meet the rules are within the limits of the format.
use Rattle.std.specs.Prelude.{ℕ, zero, suc, ◌+◌, ◌≤◌, ◌≡◌, ◌⊎◌, List, [], ◌∷◌, ◌++◌, length, Some, None, refl}
use Rattle.std.specs.List.{AllByRecursion, repeat}
use Rattle.std.proofs.Common.{sym, subst, arith, inl, inr}
use Rattle.std.proofs.lemmas.List.{length-append}
use Rattle.walrus_forms.specs.declared.value.ValType.{ValType}
use Rattle.wasm_grammar.specs.Modules.{Origin, Imported, Own, Body}
use Rattle.wasm_body_grammar.specs.Rules.{Around}
use Rattle.wasm_body_grammar.specs.Bodies.{Run, declared, most_locals, next_total, run}
use Rattle.wasm_body_grammar.specs.Codes.{param_count}
use Rattle.wasm_format_bytes.specs.Lists.{EntriesFit}
use Rattle.wasm_grammar_bytes.specs.Bodies.{run_writer}
use Rattle.wasm_grammar_bytes.specs.Maximal.{maximal_of, each_has_maximal_runs}
use Rattle.wasm_grammar_bytes.specs.Runs.{AreMaximal}
use Rattle.wasm_ruled_modules.specs.Rules.{IsBody, OriginRuled}
use Rattle.wasm_canonical.specs.Bodies.{BodyFits, OperatorsFit, OriginFits}
use Rattle.wasm_canonical.specs.Fits.{OriginSpelled, RuledBodiesFit, TypeFits}

many_length : (n : ℕ) (ty : ValType) → length (repeat n (ty ∷ [])) ≡ n
many_length zero ty = refl
many_length (suc n) ty = let later = many_length n ty in omega (arith, later)

module _ (a : Around) where
  behind_fit : (n : ℕ) (ty : ValType) (tys : List ValType) → AllByRecursion (TypeFits a) (repeat n (ty ∷ []) ++ tys) → AllByRecursion (TypeFits a) tys
  behind_fit zero ty tys h = h
  behind_fit (suc n) ty tys h = behind_fit n ty tys h.1

  runs_fit : (total : ℕ) (list : List Run) → AreMaximal list → AllByRecursion (TypeFits a) (declared list) → length (declared list) ≤ most_locals
      → EntriesFit next_total (run a) (run_writer a) total list × (length list ≤ length (declared list))
  runs_fit total [] h fit le = (tt, omega arith)
  runs_fit total ((zero, t) ∷ list) h fit le = absurd (omega (arith, h.0))
  runs_fit total ((suc n, t) ∷ list) h fit le =
      let size = length-append (repeat (suc n) (t ∷ [])) (declared list) in
      let count = many_length (suc n) t in
      let later = runs_fit (total + suc n) list h.2 (behind_fit (suc n) t (declared list) fit) (omega (arith, le, size, count)) in
      (((omega (arith, le, size, count), fit.0), later.0), omega (arith, later.1, size, count))

  few : (params : ℕ) (x : Body) → ((length x.locals ≡ 0) ⊎ (params + length x.locals ≤ most_locals)) → length x.locals ≤ most_locals
  few params x (inl none) = omega (arith, none)
  few params x (inr le) = omega (arith, le)

  body_fits : (params : ℕ) (x : Body) → IsBody a params x → AllByRecursion (TypeFits a) x.locals → OperatorsFit a x.operators → BodyFits a params x
  body_fits params x ruled types ops =
      let maximal = each_has_maximal_runs x.locals in
      let le = few params x ruled.counted in
      let count : length (declared (maximal_of x.locals)) ≤ most_locals = subst (λ (tys : List ValType). length tys ≤ most_locals) (sym maximal.1) le in
      let runs = runs_fit params (maximal_of x.locals) maximal.0 (subst (AllByRecursion (TypeFits a)) (sym maximal.1) types) count in
      record { few = omega (arith, count, runs.1); runs = runs.0; operators = ops }

  origin_fits : (params : ℕ) (o : Origin Body) → OriginRuled a params o → OriginSpelled a o → OriginFits a params o
  origin_fits params (Imported n) ruled h = tt
  origin_fits params (Own x) ruled h = body_fits params x ruled h.0 h.1

pub bodies_fit : RuledBodiesFit
bodies_fit a [] ruled h = tt
bodies_fit a (None ∷ fs) ruled h = bodies_fit a fs ruled h
bodies_fit a (Some f ∷ fs) ruled h = (origin_fits a (param_count a.filled f.ty) f.origin ruled.0 h.0, bodies_fit a fs ruled.1 h.1)
