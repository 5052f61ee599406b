-- Lemmas: bodies that meet the rules are spelled by their shortest bytes, each operator at the place where it begins.
use Rattle.std.specs.Prelude.{ℕ, zero, suc, ◌+◌, ◌≡◌, Bool, true, false, List, [], ◌∷◌, length, map, fold, Option, Some, None, refl}
use Rattle.std.specs.List.{filter_map, repeat}
use Rattle.std.proofs.Common.{ap, sym, ◌∙◌, subst, arith}
use Rattle.std.proofs.lemmas.List.{length-append}
use Rattle.walrus_forms.specs.declared.value.ValType.{ValType}
use Rattle.wasm_formats.specs.Bytes.{either_type}
use Rattle.wasm_formats.specs.Lists.{SpellsEntries}
use Rattle.wasm_operators.specs.Operators.{Seen}
use Rattle.wasm_operators.specs.Bytes.{operator_bytes}
use Rattle.wasm_grammar.specs.Modules.{Origin, Imported, Own, Placed, Body, Function}
use Rattle.wasm_body_grammar.specs.Frames.{Frame, Plain}
use Rattle.wasm_body_grammar.specs.Rules.{Around}
use Rattle.wasm_body_grammar.specs.Bodies.{Run, next_total, operator, operator_in, is_closed, next_point, opened, Parts, body_of, declared, placed}
use Rattle.wasm_body_grammar.specs.Codes.{coded, own_type, param_count, with_bodies}
use Rattle.wasm_grammar_bytes.specs.Bodies.{frames_behind, operator_writer, point, runs_bytes, runs_writer}
use Rattle.wasm_grammar_bytes.specs.Maximal.{maximal_of, each_has_maximal_runs}
use Rattle.wasm_grammar_bytes.specs.Runs.{AreMaximal}
use Rattle.wasm_grammar_bytes.specs.Shortest.{body_bytes}
use Rattle.wasm_module_bytes.specs.Bytes.{slot_unplaced, unplaced}
use Rattle.wasm_module_rules.specs.Linked.{Each}
use Rattle.wasm_module_spellings.specs.Spelled.{RunsFormed, SpellsBody, SpellsCodes}
use Rattle.wasm_ruled_modules.specs.Rules.{AreOperators, IsBody, OriginRuled, bare_slot}
use Rattle.wasm_canonical.specs.Bodies.{BodyFits, OperatorsFit, OriginFits}
use Rattle.wasm_canonical.specs.Due.{own_bytes}
use Rattle.wasm_places_laws.specs.Begun.{begun, behind_size, body_begun, first_operator, functions_begun}
use Rattle.wasm_places_laws.proofs.Bodies.{ops_bytes}
use Rattle.wasm_places_laws.proofs.Chunks.{chunks_from}

-- ---- runs: none is empty, and they have so many locals

maximal_formed : (a : Around) (total : ℕ) (list : List Run) → AreMaximal list → RunsFormed a total list
maximal_formed a total [] h = tt
maximal_formed a total ((zero, t) ∷ list) h = absurd (omega (arith, h.0))
maximal_formed a total ((suc n, t) ∷ list) h = (λ e. absurd cc, maximal_formed a (total + suc n) list h.2)

many_length : (n : ℕ) (ty : ValType) → length (repeat n (ty ∷ [])) ≡ n
many_length zero ty = refl
many_length (suc n) ty = let rest = many_length n ty in omega (arith, rest)

runs_total : (total : ℕ) (list : List Run) → fold next_total total list ≡ total + length (declared list)
runs_total total [] = omega arith
runs_total total (r ∷ list) =
    let rest = runs_total (total + r.0) list in
    omega (arith, rest, many_length r.0 r.1, length-append (repeat r.0 (r.1 ∷ [])) (declared list))

-- ---- operators, each behind the one before it

abbrev ops_at : ℕ → List Placed → List (ℕ × Seen)
ops_at place [] = []
ops_at place (p ∷ ps) = (place + length (operator_bytes p.op), p.op) ∷ ops_at (place + length (operator_bytes p.op)) ps

ops_spelled : (a : Around) (locals place : ℕ) (frames : List Frame) (ps : List Placed) → AreOperators a locals frames ps → OperatorsFit a ps
    → SpellsEntries next_point (operator_in a locals) (point place frames) (ops_bytes ps) (ops_at place ps)
ops_spelled a locals place frames [] h fits = refl
ops_spelled a locals place frames (p ∷ ps) h fits =
    (operator_bytes p.op, ops_bytes ps, refl, (go (is_closed frames) h.0, refl), ops_spelled a locals (place + length (operator_bytes p.op)) (frames_behind frames p.op) ps h.2 fits.1)
  where
    go : (closed : Bool) → closed ≡ false → either_type closed ⊥ ((operator a.features).spells (operator_bytes p.op) p.op)
    go true e = absurd cc
    go false e = (operator_writer a.features).written p.op fits.0

ops_begun : (place : ℕ) (ps : List Placed) → placed place (ops_at place ps) ≡ begun place ps
ops_begun place [] = refl
ops_begun place (p ∷ ps) = ap (λ (l : List Placed). record { place = place; op = p.op } ∷ l) (ops_begun (place + length (operator_bytes p.op)) ps)

-- ---- one body

body_spelled : (a : Around) (params place : ℕ) (x : Body) → IsBody a params x → BodyFits a params x → SpellsBody a params place (body_bytes a params x) (body_begun a params place x)
body_spelled a params place x ruled fits =
    let list = maximal_of x.locals in
    let maximal = each_has_maximal_runs x.locals in
    let start = first_operator a params place x in
    let parts : Parts = ((start, list), ops_at start x.operators) in
    let total : params + length x.locals ≡ fold next_total params list = sym (runs_total params list ∙ ap (λ tys. params + length tys) maximal.1) in
    let ops = ops_spelled a (params + length x.locals) start (Plain ∷ []) x.operators ruled.operators fits.operators in
    let there = subst (λ (n : ℕ). SpellsEntries next_point (operator_in a n) (opened start) (ops_bytes x.operators) (ops_at start x.operators)) total ops in (
      parts,
      (runs_bytes a params list, ops_bytes x.operators, refl, ((runs_writer a params).written list (fits.few, fits.runs), refl), there),
      maximal_formed a params list maximal.0,
      body_is maximal.1 (ops_begun start x.operators),
    )
  where
    body_is : declared (maximal_of x.locals) ≡ x.locals
        → placed (first_operator a params place x) (ops_at (first_operator a params place x) x.operators) ≡ begun (first_operator a params place x) x.operators
        → body_of ((first_operator a params place x, maximal_of x.locals), ops_at (first_operator a params place x) x.operators) ≡ body_begun a params place x
    body_is e f = λ i. record { locals = e i; operators = f i }

-- ---- all of them

abbrev with_own : Origin Body → List Body → List Body
with_own (Imported n) xs = xs
with_own (Own x) xs = x ∷ xs

abbrev pub own_bodies : List (Option Function) → List Body
own_bodies [] = []
own_bodies (None ∷ fs) = own_bodies fs
own_bodies (Some f ∷ fs) = with_own f.origin (own_bodies fs)

module _ (a : Around) where
  abbrev Spelled : ℕ → List (Option Function) → Type 0
  Spelled at fs = SpellsCodes a (coded a.filled (filter_map own_type fs) (chunks_from at (filter_map (own_bytes a) fs))) (own_bodies (functions_begun a at fs))

  origin_spelled : (ty at : ℕ) (o : Origin Body) (fs : List (Option Function)) → ((next : ℕ) → Spelled next fs) → OriginRuled a (param_count a.filled ty) o → OriginFits a (param_count a.filled ty) o
      → Spelled at (Some (record { ty = ty; origin = o }) ∷ fs)
  origin_spelled ty at (Imported n) fs rest ruled fits = rest at
  origin_spelled ty at (Own x) fs rest ruled fits =
      let params = param_count a.filled ty in
      (body_spelled a params (behind_size a params at x) x ruled fits, rest (behind_size a params at x + length (body_bytes a params x)))

  pub codes_spelled : (at : ℕ) (fs : List (Option Function)) → Each (λ (f : Function). OriginRuled a (param_count a.filled f.ty) f.origin) fs
      → Each (λ (f : Function). OriginFits a (param_count a.filled f.ty) f.origin) fs → Spelled at fs
  codes_spelled at [] ruled fits = tt
  codes_spelled at (None ∷ fs) ruled fits = codes_spelled at fs ruled fits
  codes_spelled at (Some f ∷ fs) ruled fits = origin_spelled f.ty at f.origin fs (λ next. codes_spelled next fs ruled.1 fits.1) ruled.0 fits.0

  -- the functions with these bodies

  abbrev Filled : ℕ → List (Option Function) → Type 0
  Filled at fs = with_bodies (map bare_slot fs) (own_bodies (functions_begun a at fs)) ≡ functions_begun a at fs

  origin_filled : (ty at : ℕ) (o : Origin Body) (fs : List (Option Function)) → ((next : ℕ) → Filled next fs) → Filled at (Some (record { ty = ty; origin = o }) ∷ fs)
  origin_filled ty at (Imported n) fs rest = ap (λ (l : List (Option Function)). Some (record { ty = ty; origin = Imported n }) ∷ l) (rest at)
  origin_filled ty at (Own x) fs rest =
      let params = param_count a.filled ty in
      let begins = behind_size a params at x in
      ap (λ (l : List (Option Function)). Some (record { ty = ty; origin = Own (body_begun a params begins x) }) ∷ l) (rest (begins + length (body_bytes a params x)))

  pub functions_filled : (at : ℕ) (fs : List (Option Function)) → Filled at fs
  functions_filled at [] = refl
  functions_filled at (None ∷ fs) = ap (λ (l : List (Option Function)). None ∷ l) (functions_filled at fs)
  functions_filled at (Some f ∷ fs) = origin_filled f.ty at f.origin fs (λ next. functions_filled next fs)

  -- places aside they are the same

  ops_same : (at : ℕ) (ps : List Placed) → map unplaced (begun at ps) ≡ map unplaced ps
  ops_same at [] = refl
  ops_same at (p ∷ ps) = ap (λ (l : List Placed). record { place = 0; op = p.op } ∷ l) (ops_same (at + length (operator_bytes p.op)) ps)

  abbrev Same : ℕ → List (Option Function) → Type 0
  Same at fs = map slot_unplaced (functions_begun a at fs) ≡ map slot_unplaced fs

  origin_same : (ty at : ℕ) (o : Origin Body) (fs : List (Option Function)) → ((next : ℕ) → Same next fs) → Same at (Some (record { ty = ty; origin = o }) ∷ fs)
  origin_same ty at (Imported n) fs rest = ap (λ (l : List (Option Function)). Some (record { ty = ty; origin = Imported n }) ∷ l) (rest at)
  origin_same ty at (Own x) fs rest =
      let params = param_count a.filled ty in
      let begins = behind_size a params at x in
      let ops = ops_same (first_operator a params begins x) x.operators in
      let later = rest (begins + length (body_bytes a params x)) in
      λ i. Some (record { ty = ty; origin = Own (record { locals = x.locals; operators = ops i }) }) ∷ later i

  pub functions_same : (at : ℕ) (fs : List (Option Function)) → Same at fs
  functions_same at [] = refl
  functions_same at (None ∷ fs) = ap (λ (l : List (Option Function)). None ∷ l) (functions_same at fs)
  functions_same at (Some f ∷ fs) = origin_same f.ty at f.origin fs (λ next. functions_same next fs)
