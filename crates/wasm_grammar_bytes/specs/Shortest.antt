-- The shortest spelling of a body: maximal runs of its locals, and its operators.
use Rattle.std.specs.Prelude.{ℕ, zero, suc, ◌+◌, ◌<◌, ◌≤◌, ◌≡◌, ◌^◌, nat_le, Bool, true, false, List, [], ◌∷◌, ◌++◌, length, map, fold, None, ◌⊎◌, refl}
use Rattle.std.specs.List.{flat_map, repeat}
use Rattle.std.proofs.Common.{ap, sym, ◌∙◌, subst, arith, inl, inr}
use Rattle.std.proofs.lemmas.Bool.{leb-true, le-leb}
use Rattle.std.proofs.lemmas.List.{length-append}
use Rattle.walrus_forms.specs.declared.value.ValType.{ValType}
use Rattle.wasm_operators.specs.Operators.{Seen}
use Rattle.wasm_formats.specs.declared.fault.Limited.TheVariants as limits
use Rattle.wasm_formats.specs.Stops.{Trouble, Limit}
use Rattle.wasm_formats.specs.Formats.{Small}
use Rattle.wasm_formats.specs.Lists.{SpellsEntries, EntryRules}
use Rattle.wasm_operators.specs.Bytes.{operator_bytes}
use Rattle.wasm_operators.specs.Vecs.{parts_small, parts_short}
use Rattle.wasm_format_bytes.specs.Lists.{EntriesFit}
use Rattle.wasm_grammar.specs.Modules.{Placed, Body}
use Rattle.wasm_grammar.specs.Values.{must, value_type}
use Rattle.wasm_grammar.specs.States.{types_of}
use Rattle.wasm_body_grammar.specs.Frames.{Plain}
use Rattle.wasm_body_grammar.specs.Rules.{Around}
use Rattle.wasm_body_grammar.specs.Bodies.{Run, run, next_total, most_locals, operator_in, next_point, opened, Parts, declared, placed, body_of, is_closed}
use Rattle.wasm_body_grammar.specs.Laws.{ReadsBody}
use Rattle.wasm_grammar_bytes.specs.Values.{value_type_writer}
use Rattle.wasm_grammar_bytes.specs.Bodies.{run_writer, runs_writer, runs_bytes, operators_bytes, replaced, op_of, operators_short, operators_ruled, frames_same, ops_same}
use Rattle.wasm_grammar_bytes.specs.Runs.{AreMaximal, nil_cons, maximal_runs_are_shortest}
use Rattle.wasm_grammar_bytes.specs.Maximal.{maximal_of, each_has_maximal_runs}

abbrev pub in_runs : Around → ℕ → List Run → Body → List ℕ
in_runs a params list x = runs_bytes a params list ++ flat_map (λ p. operator_bytes p.op) x.operators

-- maximal runs of the locals, and each operator in its shortest spelling
abbrev pub body_bytes : Around → ℕ → Body → List ℕ
body_bytes a params x = in_runs a params (maximal_of x.locals) x

-- the body y is x in these bytes, of which no spelling of x has fewer
pub record IsShortest (a : Around) (params place : ℕ) (others bytes : List ℕ) (x y : Body) : Type 0 where
  pub reads : ReadsBody a params place bytes y
  pub locals : y.locals ≡ x.locals
  pub operators : map op_of y.operators ≡ map op_of x.operators
  pub least : length bytes ≤ length others

-- what reads as a body reads so in its bytes, too, at any other place, places aside; and nothing shorter reads so
abbrev pub BodiesHaveShortest : Type 0
BodiesHaveShortest =
    (a : Around) (params place other : ℕ) (others : List ℕ) (x : Body) → Small others → ReadsBody a params place others x → (y : Body) × IsShortest a params other others (body_bytes a params x) x y

-- ---- how many locals runs declare

many_length : (n : ℕ) (ty : ValType) → length (repeat n (ty ∷ [])) ≡ n
many_length zero ty = refl
many_length (suc n) ty = let later = many_length n ty in omega (arith, later)

total_is : (total : ℕ) (list : List Run) → fold next_total total list ≡ total + length (declared list)
total_is total [] = omega arith
total_is total (r ∷ list) =
    let later = total_is (total + r.0) list in
    omega (arith, later, many_length r.0 r.1, length-append (repeat r.0 (r.1 ∷ [])) (declared list))

-- ---- runs that read, of which there may be others

must_holds : (holds : Bool) (t : Trouble) → must holds t ≡ None → holds ≡ true
must_holds true t e = refl
must_holds false t e = absurd cc

-- the types of locals are within the limits, and meet the rules
abbrev IsRight : Around → ValType → Type 0
IsRight a ty = (value_type_writer a.features (length (types_of a.filled))).fits ty × (value_type a.features (length (types_of a.filled))).rules ty

abbrev AreRight : Around → List ValType → Type 0
AreRight a [] = Unit {0}
AreRight a (ty ∷ tys) = IsRight a ty × AreRight a tys

many_right : (a : Around) (n : ℕ) (ty : ValType) (tys : List ValType) → IsRight a ty → AreRight a tys → AreRight a (repeat n (ty ∷ []) ++ tys)
many_right a zero ty tys h k = k
many_right a (suc n) ty tys h k = (h, many_right a n ty tys h k)

behind_right : (a : Around) (n : ℕ) (ty : ValType) (tys : List ValType) → AreRight a (repeat n (ty ∷ []) ++ tys) → AreRight a tys
behind_right a zero ty tys h = h
behind_right a (suc n) ty tys h = behind_right a n ty tys h.1

module _ (a : Around) where
  declared_right : (total : ℕ) (list : List Run) → EntriesFit next_total (run a) (run_writer a) total list → EntryRules next_total (run a) total list → AreRight a (declared list)
  declared_right total [] fits rules = tt
  declared_right total (r ∷ list) fits rules =
      many_right a r.0 r.1 (declared list) (fits.0.1, rules.0.1) (declared_right (total + r.0) list fits.1 rules.1)

  -- all of them are within the limit
  within_limit : (total : ℕ) (r : Run) (list : List Run) → EntryRules next_total (run a) total (r ∷ list) → fold next_total total (r ∷ list) ≤ most_locals
  within_limit total r [] h = leb-true (total + r.0) most_locals (must_holds (nat_le (total + r.0) most_locals) (Limit limits.Locals) h.0.0.1)
  within_limit total r (s ∷ list) h = within_limit (total + r.0) s list h.1

  -- maximal runs of right types within the limit are right
  runs_right : (total : ℕ) (list : List Run) → AreMaximal list → AreRight a (declared list) → total + length (declared list) ≤ most_locals
      → EntriesFit next_total (run a) (run_writer a) total list × EntryRules next_total (run a) total list × (length list ≤ length (declared list))
  runs_right total [] h right le = (tt, tt, omega arith)
  runs_right total ((zero, t) ∷ list) h right le = absurd (omega (arith, h.0))
  runs_right total ((suc n, t) ∷ list) h right le =
      let size = length-append (repeat (suc n) (t ∷ [])) (declared list) in
      let count = many_length (suc n) t in
      let later = runs_right (total + suc n) list h.2 (behind_right a (suc n) t (declared list) right) (omega (arith, le, size, count)) in
      let below : total + suc n ≤ most_locals = omega (arith, le, size, count) in
      let tested : must (nat_le (total + suc n) most_locals) (Limit limits.Locals) ≡ None = rw (le-leb (total + suc n) most_locals below) refl in
      (((omega (arith, below), right.0.0), later.0), (((tt, tested), right.0.1), later.1), omega (arith, later.2, size, count))

  -- no locals, or so many that they are within the limit
  limited : (params : ℕ) (others list : List Run) → AreMaximal list → declared list ≡ declared others → EntryRules next_total (run a) params others
      → (list ≡ []) ⊎ (params + length (declared list) ≤ most_locals)
  limited params [] [] h e rules = inl refl
  limited params [] ((zero, t) ∷ list) h e rules = absurd (omega (arith, h.0))
  limited params [] ((suc n, t) ∷ list) h e rules = nil_cons t (repeat n (t ∷ []) ++ declared list) (sym e)
  limited params (r ∷ others) list h e rules =
      let le = within_limit params r others rules in
      inr (omega (arith, le, total_is params (r ∷ others), ap length e))

  -- the same locals in maximal runs are right, too
  maximal_right : (params : ℕ) (others list : List Run) → AreMaximal list → declared list ≡ declared others → EntriesFit next_total (run a) (run_writer a) params others
      → EntryRules next_total (run a) params others → length (declared others) < 2 ^ 32
      → ((length list < 2 ^ 32) × EntriesFit next_total (run a) (run_writer a) params list) × EntryRules next_total (run a) params list
  maximal_right params others list h e fits rules few = go (limited params others list h e rules)
    where
      go : (list ≡ []) ⊎ (params + length (declared list) ≤ most_locals)
          → ((length list < 2 ^ 32) × EntriesFit next_total (run a) (run_writer a) params list) × EntryRules next_total (run a) params list
      go (inl none) = rw none ((omega arith, tt), tt)
      go (inr le) =
          let right = runs_right params list h (subst (λ (tys : List ValType). AreRight a tys) (sym e) (declared_right params others fits rules)) le in
          ((omega (arith, right.2, few, ap length e), right.0), right.1)

-- the operators of a body, in their bytes
ops_bytes : (place : ℕ) (ops : List (ℕ × Seen)) → flat_map (λ (p : Placed). operator_bytes p.op) (placed place ops) ≡ operators_bytes ops
ops_bytes place [] = refl
ops_bytes place (x ∷ ops) = ap (λ (l : List ℕ). operator_bytes x.1 ++ l) (ops_bytes x.0 ops)

few_locals : (a : Around) (params : ℕ) (list : List Run) → EntryRules next_total (run a) params list → length (declared list) ≤ most_locals
few_locals a params [] rules = omega arith
few_locals a params (r ∷ list) rules = omega (arith, within_limit a params r list rules, total_is params (r ∷ list))

shortest_in : (a : Around) (params place other : ℕ) (others : List ℕ) (x : Body) (list : List Run) → Small others → ReadsBody a params place others x → AreMaximal list → declared list ≡ x.locals
    → (y : Body) × IsShortest a params other others (in_runs a params list x) x y
shortest_in a params place other others x list small h maximal same =
    let parts = h.0 in
    let spelled = h.1.0 in
    let ruled = h.1.1 in
    let old = parts.0.1 in
    let declares : declared list ≡ declared old = same ∙ sym (ap (λ (b : Body). b.locals) h.2) in
    let sides = parts_small others spelled.0 spelled.1 spelled.2 small in
    let first = (runs_writer a params).short spelled.0 old sides.0 spelled.3.0 in
    let few : length (declared old) < 2 ^ 32 = omega (arith, few_locals a params old ruled.0) in
    let right = maximal_right a params old list maximal declares first.0.1 ruled.0 few in
    let start = other + length (runs_bytes a params list) in
    let count : fold next_total params old ≡ fold next_total params list = omega (arith, total_is params old, total_is params list, ap length declares) in
    let later = operators_short a (fold next_total params old) parts.0.0 start (Plain ∷ []) spelled.1 parts.1 sides.1 spelled.4 in
    let rules = operators_ruled a (fold next_total params old) parts.0.0 start (Plain ∷ []) parts.1 ruled.1.0 in
    let there = subst (λ (n : ℕ). SpellsEntries next_point (operator_in a n) (opened start) (operators_bytes parts.1) (replaced start parts.1)) count later.0 in
    let meets = subst (λ (n : ℕ). EntryRules next_point (operator_in a n) (opened start) (replaced start parts.1)) count rules in
    let ends = ap is_closed (sym (frames_same parts.0.0 start (Plain ∷ []) parts.1)) ∙ ruled.1.1 in
    let new : Parts = ((start, list), replaced start parts.1) in
    let written : in_runs a params list x ≡ runs_bytes a params list ++ operators_bytes parts.1 =
    ap (λ (l : List ℕ). runs_bytes a params list ++ l) (sym (ap (λ (b : Body). flat_map (λ (p : Placed). operator_bytes p.op) b.operators) h.2) ∙ ops_bytes parts.0.0 parts.1) in
    let runs_less = maximal_runs_are_shortest a params list old maximal declares in
    let front_less : length (runs_bytes a params list) ≤ length spelled.0 = omega (arith, runs_less, first.1) in
    let all_less = parts_short others spelled.0 spelled.1 (runs_bytes a params list) (operators_bytes parts.1) spelled.2 front_less later.1 in (
      body_of new,
      record {
        reads = (
          new,
          (
            (
              runs_bytes a params list,
              operators_bytes parts.1,
              written,
              ((runs_writer a params).written list right.0, refl),
              there,
            ),
            (right.1, (meets, ends)),
          ),
          refl,
        );
        locals = same;
        operators = ops_same parts.0.0 start parts.1 ∙ ap (λ (b : Body). map op_of b.operators) h.2;
        least = subst (λ (l : List ℕ). length l ≤ length others) (sym written) all_less;
      },
    )

pub bodies_have_shortest : BodiesHaveShortest
bodies_have_shortest a params place other others x small h =
    let runs = each_has_maximal_runs x.locals in
    shortest_in a params place other others x (maximal_of x.locals) small h runs.0 runs.1
