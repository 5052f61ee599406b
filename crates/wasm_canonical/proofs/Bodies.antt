-- Lemmas: bodies that meet the rules are spelled by their shortest bytes.
use Rattle.std.specs.Prelude.{ℕ, zero, suc, ◌+◌, ◌≡◌, Bool, true, false, List, [], ◌∷◌, length, map, fold, Option, Some, None, refl}
use Rattle.std.specs.List.{cons_option, filter_map, flat_map, repeat}
use Rattle.std.proofs.Common.{ap, sym, ◌∙◌, subst, arith}
use Rattle.std.proofs.lemmas.List.{length-append}
use Rattle.walrus_forms.specs.declared.value.ValType.{ValType}
use Rattle.wasm_formats.specs.Bytes.{either_type}
use Rattle.wasm_formats.specs.Lists.{SpellsEntries}
use Rattle.wasm_operators.specs.Operators.{Seen}
use Rattle.wasm_operators.specs.Bytes.{operator_bytes}
use Rattle.wasm_grammar.specs.Modules.{Origin, Imported, Own, Placed, Body, Function}
use Rattle.wasm_grammar.specs.States.{Chunk}
use Rattle.wasm_body_grammar.specs.Frames.{Frame, Plain}
use Rattle.wasm_body_grammar.specs.Rules.{Around}
use Rattle.wasm_body_grammar.specs.Bodies.{Run, next_total, operator, operator_in, is_closed, next_point, opened, Parts, body_of, declared, placed}
use Rattle.wasm_body_grammar.specs.Codes.{param_count, with_bodies}
use Rattle.wasm_grammar_bytes.specs.Bodies.{frames_behind, operator_writer, point, runs_bytes, runs_writer}
use Rattle.wasm_grammar_bytes.specs.Maximal.{maximal_of, each_has_maximal_runs}
use Rattle.wasm_grammar_bytes.specs.Runs.{AreMaximal}
use Rattle.wasm_grammar_bytes.specs.Shortest.{body_bytes}
use Rattle.wasm_module_bytes.specs.Bytes.{body_unplaced, slot_unplaced, unplaced}
use Rattle.wasm_module_spellings.specs.Spelled.{RunsFormed, SpellsBody}
use Rattle.wasm_ruled_modules.specs.Rules.{AreOperators, IsBody, OriginRuled, bare_slot}
use Rattle.wasm_canonical.specs.Due.{origin_bytes, own_bytes}
use Rattle.wasm_canonical.specs.Bodies.{BodyFits, DueBodiesAreSpelled, OperatorsFit, OriginFits, SpellsFunctions, bytes_of}

-- ---- runs: none is empty

maximal_formed : (a : Around) (total : ℕ) (list : List Run) → AreMaximal list → RunsFormed a total list
maximal_formed a total [] h = tt
maximal_formed a total ((zero, t) ∷ list) h = absurd (omega (arith, h.0))
maximal_formed a total ((suc n, t) ∷ list) h = (λ e. absurd cc, maximal_formed a (total + suc n) list h.2)

-- ---- total of runs

many_length : (n : ℕ) (ty : ValType) → length (repeat n (ty ∷ [])) ≡ n
many_length zero ty = refl
many_length (suc n) ty = let later = many_length n ty in omega (arith, later)

repeat_total : (total : ℕ) (list : List Run) → fold next_total total list ≡ total + length (declared list)
repeat_total total [] = omega arith
repeat_total total (r ∷ list) =
    let later = repeat_total (total + r.0) list in
    omega (arith, later, many_length r.0 r.1, length-append (repeat r.0 (r.1 ∷ [])) (declared list))

-- ---- operators, each behind the one before it

abbrev pub ops_at : ℕ → List Placed → List (ℕ × Seen)
ops_at place [] = []
ops_at place (p ∷ ps) = (place + length (operator_bytes p.op), p.op) ∷ ops_at (place + length (operator_bytes p.op)) ps

abbrev pub ops_bytes : List Placed → List ℕ
ops_bytes ps = flat_map (λ (p : Placed). operator_bytes p.op) ps

ops_spelled : (a : Around) (locals place : ℕ) (frames : List Frame) (ps : List Placed) → AreOperators a locals frames ps → OperatorsFit a ps
    → SpellsEntries next_point (operator_in a locals) (point place frames) (ops_bytes ps) (ops_at place ps)
ops_spelled a locals place frames [] h fits = refl
ops_spelled a locals place frames (p ∷ ps) h fits =
    (operator_bytes p.op, ops_bytes ps, refl, (go (is_closed frames) h.0, refl), ops_spelled a locals (place + length (operator_bytes p.op)) (frames_behind frames p.op) ps h.2 fits.1)
  where
    go : (closed : Bool) → closed ≡ false → either_type closed ⊥ ((operator a.features).spells (operator_bytes p.op) p.op)
    go true e = absurd cc
    go false e = (operator_writer a.features).written p.op fits.0

ops_unplaced : (start place : ℕ) (ps : List Placed) → map unplaced (placed start (ops_at place ps)) ≡ map unplaced ps
ops_unplaced start place [] = refl
ops_unplaced start place (p ∷ ps) =
    ap (λ (l : List Placed). record { place = 0; op = p.op } ∷ l) (ops_unplaced (place + length (operator_bytes p.op)) (place + length (operator_bytes p.op)) ps)

-- ---- one body

abbrev pub parts_due : Around → ℕ → ℕ → Body → Parts
parts_due a params place x =
    let list = maximal_of x.locals in
    let start = place + length (runs_bytes a params list) in
    ((start, list), ops_at start x.operators)

pub body_spelled : (a : Around) (params place : ℕ) (x : Body) → IsBody a params x → BodyFits a params x
    → SpellsBody a params place (body_bytes a params x) (body_of (parts_due a params place x)) × (body_unplaced (body_of (parts_due a params place x)) ≡ body_unplaced x)
body_spelled a params place x ruled fits =
    let list = maximal_of x.locals in
    let maximal = each_has_maximal_runs x.locals in
    let start = place + length (runs_bytes a params list) in
    let total : params + length x.locals ≡ fold next_total params list = sym (repeat_total params list ∙ ap (λ tys. params + length tys) maximal.1) in
    let ops = ops_spelled a (params + length x.locals) start (Plain ∷ []) x.operators ruled.operators fits.operators in
    let there = subst (λ (n : ℕ). SpellsEntries next_point (operator_in a n) (opened start) (ops_bytes x.operators) (ops_at start x.operators)) total ops in (
      (
        parts_due a params place x,
        (runs_bytes a params list, ops_bytes x.operators, refl, ((runs_writer a params).written list (fits.few, fits.runs), refl), there),
        maximal_formed a params list maximal.0,
        refl,
      ),
      body_is maximal.1 (ops_unplaced start start x.operators),
    )
  where
    body_is : declared (maximal_of x.locals) ≡ x.locals → map unplaced (placed (parts_due a params place x).0.0 (parts_due a params place x).1) ≡ map unplaced x.operators
        → body_unplaced (body_of (parts_due a params place x)) ≡ body_unplaced x
    body_is e f = λ i. record { locals = e i; operators = f i }

-- ---- all of them

head_is : (b c : List ℕ) (bs cs : List (List ℕ)) → b ∷ bs ≡ c ∷ cs → b ≡ c
head_is b c bs cs e = cc

tail_is : (b c : List ℕ) (bs cs : List (List ℕ)) → b ∷ bs ≡ c ∷ cs → bs ≡ cs
tail_is b c bs cs e = cc

pub codes_spelled : DueBodiesAreSpelled
codes_spelled a [] [] e ruled fits = ([], tt, refl)
codes_spelled a [] (c ∷ cs) e ruled fits = absurd cc
codes_spelled a (None ∷ fs) cs e ruled fits =
    let rest = codes_spelled a fs cs e ruled fits in
    (rest.0, rest.1, ap (λ (l : List (Option Function)). None ∷ l) rest.2)
codes_spelled a (Some f ∷ fs) cs e ruled fits = go (λ cs e. codes_spelled a fs cs e ruled.1 fits.1) f.origin cs e ruled.0 fits.0
  where
    go : ((cs : List Chunk) → bytes_of cs ≡ filter_map (own_bytes a) fs → SpellsFunctions a fs cs) → (o : Origin Body) (cs : List Chunk) → bytes_of cs ≡ cons_option (origin_bytes a (param_count a.filled f.ty) o) (filter_map (own_bytes a) fs) → OriginRuled a (param_count a.filled f.ty) o
        → OriginFits a (param_count a.filled f.ty) o → SpellsFunctions a (Some (record { ty = f.ty; origin = o }) ∷ fs) cs
    go later (Imported n) cs e ruled fits =
        let rest = later cs e in
        (rest.0, rest.1, ap (λ (l : List (Option Function)). Some (record { ty = f.ty; origin = Imported n }) ∷ l) rest.2)
    go later (Own x) [] e ruled fits = absurd cc
    go later (Own x) (c ∷ cs) e ruled fits =
        let params = param_count a.filled f.ty in
        let own = head_is c.bytes (body_bytes a params x) (bytes_of cs) (filter_map (own_bytes a) fs) e in
        let rest = later cs (tail_is c.bytes (body_bytes a params x) (bytes_of cs) (filter_map (own_bytes a) fs) e) in
        let one = body_spelled a params c.place x ruled fits in
        let y = body_of (parts_due a params c.place x) in (
          y ∷ rest.0,
          (subst (λ (l : List ℕ). SpellsBody a params c.place l y) (sym own) one.0, rest.1),
          ap (λ (b : Body). Some (record { ty = f.ty; origin = Own b }) ∷ map slot_unplaced (with_bodies (map bare_slot fs) rest.0)) one.1
              ∙ ap (λ (l : List (Option Function)). Some (record { ty = f.ty; origin = Own (body_unplaced x) }) ∷ l) rest.2,
        )
