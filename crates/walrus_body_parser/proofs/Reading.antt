-- Lemmas: an operator that is read inside the open sequences.
use Rattle.std.proofs.Common.{ℕ, suc, ◌≡◌, ◌<◌, ◌+◌, ◌-◌, Bool, List, [], ◌∷◌, length, Option, Some, None, Result, Ok, Err, if◌then◌else◌, refl, sym, ap, subst, inl, inr, ◌∙◌, arith}
use Rattle.std.proofs.lemmas.Bool.{ne_eqb}
use Rattle.walrus_instr.specs.declared.seq.InstrLocId.{InstrLocId}
use Rattle.wasm_reader.specs.Cursor.{Cursor, rest, end_of}
use Rattle.wasm_formats.specs.Stops.{Trouble, stop}
use Rattle.walrus_body_operands.specs.walrus_body_rules.wasm_body_grammar.wasm_operators.Operators.{Seen, flow_of}
use Rattle.walrus_body_locals.specs.wasm_grammar.Values.{first_of}
use Rattle.walrus_body_locals.specs.wasm_body_grammar.Frames.{Frame, turned}
use Rattle.walrus_body_locals.specs.wasm_body_grammar.Rules.{turned_test}
use Rattle.walrus_body_locals.specs.wasm_body_grammar.Bodies.{operator}
use Rattle.walrus_operators.specs.declared.operator.Operator.{Operator}
use Rattle.walrus_operators.specs.Operators.{seen}
use Rattle.walrus_body_locals.specs.walrus_body_env.declared.error.BodyError.{BodyError}
use Rattle.walrus_body_locals.specs.walrus_body_env.declared.error.BodyError.TheVariants as faults
use Rattle.walrus_body_locals.specs.walrus_body_env.Faults as env
use Rattle.walrus_body_locals.specs.walrus_body_nesting.Faults.{fault_at, Fails, IsRefusal}
use Rattle.walrus_body_locals.specs.walrus_body_nesting.Stands.{place_in}
use Rattle.walrus_body_locals.specs.walrus_body_nesting.Opens.{Open, ids_of, kinds_of, Steps}
use Rattle.walrus_body_operands.specs.walrus_body_stack.declared.stack.Stack.{Stack}
use Rattle.walrus_body_operands.specs.walrus_body_stack.Frames.{inner, around, opens, blocks}
use Rattle.walrus_body_operands.specs.walrus_body_rules.Sights.{Sight}
use Rattle.walrus_body_operands.specs.walrus_body_rules.Rules.{operator_test, items_test}
use Rattle.walrus_body_operands.specs.walrus_body_steps.Meanings.{meaning}
use Rattle.walrus_body_operands.specs.walrus_body_steps.Laws.{StepOf}
use Rattle.walrus_body_locals.specs.Calls.{Parses}
use Rattle.walrus_body_locals.proofs.Answering.{accepted, barred}
use Rattle.walrus_body_operands.specs.Listed.{IsListed, known_labels}
use Rattle.walrus_body_parser.specs.Points.{place_at}
use Rattle.walrus_body_parser.specs.Changes.{Refuses, reads_next, ReadsNext}
use Rattle.walrus_body_operands.specs.Counted.{counted}
use Rattle.walrus_body_operands.proofs.Last.{frames_ask_last}

kinds_count : (os : List Open) → length (kinds_of os) ≡ length (ids_of os)
kinds_count [] = refl
kinds_count (o ∷ os) = ap (λ (n : ℕ). suc n) (kinds_count os)

-- of two tests the first trouble is the first one's, or that of the second
first_fails : (a b : Option Trouble) (t : Trouble) → a ≡ Some t → first_of a b ≡ Some t
first_fails a b t e = ap (λ (z : Option Trouble). first_of z b) e

first_passes : (a b : Option Trouble) → a ≡ None → first_of a b ≡ b
first_passes a b e = ap (λ (z : Option Trouble). first_of z b) e

-- where a location stands for a place
pub place_is : (n : ℕ) → n < 4294967295 → place_in (record { 0 = n }) ≡ Some n
place_is n l = ap (λ (b : Bool). if b then None else Some n) (ne_eqb n 4294967295 (λ e. omega (arith, l, e)))

module _ {V : Type 0} (s : Sight) (step : V → ℕ → Seen → Option BodyError × V) (code : ℕ) (old new : Cursor) (stack : Stack) (v : V) (op : Operator) (offset : ℕ)
    (at : offset ≡ end_of old - length (rest old)) (read : Parses (operator old.window.features).parse (λ (op : Operator) x. seen op ≡ x) old new (Ok op)) (listed : IsListed op) where
  abbrev frames : List Frame
  frames = kinds_of (opens stack)

  abbrev items : Option Trouble
  items = items_test s (known_labels (flow_of op.code) (length (ids_of (opens stack)))) (seen op)

  abbrev turning : Option Trouble
  turning = turned_test (turned (flow_of op.code) frames)

  abbrev left : ℕ
  left = length (rest old)

  abbrev Nexts : Cursor → Stack → V → Result Bool BodyError → Type 0
  Nexts = ReadsNext s step code old stack v

  test_is : operator_test s frames (seen op) ≡ first_of items turning
  test_is =
      let count : known_labels (flow_of op.code) (length frames) ≡ known_labels (flow_of op.code) (length (ids_of (opens stack))) = ap (known_labels (flow_of op.code)) (kinds_count (opens stack)) in
      frames_ask_last s op (inner stack).kind (kinds_of (around stack)) listed ∙ ap (λ (n : ℕ). first_of (items_test s n (seen op)) turning) (counted (flow_of op.code) frames ∙ count)

  op_read : (operator old.window.features).parse (rest old) ≡ Ok (seen op, rest new)
  op_read = read.value.1 ∙ ap (λ (x : Seen). Ok (x, rest new)) (sym read.value.2)

  fails_next : (t : Trouble) → operator_test s frames (seen op) ≡ Some t → reads_next s step code old stack v (rest old) ≡ Err (stop t left)
  fails_next t e = rw (op_read, e) refl

  abbrev found : ℕ × Seen
  found = (place_at code old + (left - length (rest new)), seen op)

  passes_next : operator_test s frames (seen op) ≡ None → reads_next s step code old stack v (rest old) ≡ Ok (found, rest new)
  passes_next e = rw (op_read, e) refl

  stops_next : (after : Stack) (e : BodyError) (t : Trouble) → operator_test s frames (seen op) ≡ Some t → fault_at t offset ≡ Some e → Nexts new after v (Err e)
  stops_next after e t q f =
      let F : ℕ → Type 0 = λ k. fault_at t k ≡ Some e in
      inr (inl (inl (stop t left, fails_next t q, subst F at f, refl)))

  -- a test whose trouble is that of all tests
  fails_so : (after : Stack) (e : BodyError) (test : Option Trouble) → operator_test s frames (seen op) ≡ test → Fails test offset e → Nexts new after v (Err e)
  fails_so after e None q f = absurd f
  fails_so after e (Some t) q f = stops_next after e t q f

  fails_items : (after : Stack) (e : BodyError) (i : Option Trouble) → items ≡ i → Fails i offset e → Nexts new after v (Err e)
  fails_items after e None q f = absurd f
  fails_items after e (Some t) q f = stops_next after e t (test_is ∙ first_fails items turning t q) f

  pub items_refused : (after : Stack) (e : BodyError) → IsRefusal items offset e → Nexts new after v (Err e)
  items_refused after e (inl m) = inl (m, refl)
  items_refused after e (inr f) = fails_items after e items refl f

  pub change_refused : (after : Stack) (e : BodyError) → items ≡ None → Refuses s stack (seen op) offset e → Nexts new after v (Err e)
  change_refused after e none (inl (inl m)) = inl (m, refl)
  change_refused after e none (inl (inr f)) = fails_so after e turning (test_is ∙ first_passes items turning none) f
  change_refused after e none (inr h) =
      inr (inr ((found, rest new, passes_next (test_is ∙ first_passes items turning none ∙ h.0), (h.0, h.1, h.2, h.3 ∙ ap (λ (k : ℕ). faults.TypeForm (Some k)) at)), refl))

  -- it may stand there
  turns : (p : InstrLocId) (after : Stack) (done : Bool) → StepOf s (seen op) p stack done after → turning ≡ None
  turns p after done h = ap turned_test h.kinds

  pub told_refused : (p : InstrLocId) (after : Stack) (done : Bool) (w : V) (e : BodyError) → items ≡ None → StepOf s (seen op) p stack done after → env.Answers (step v offset (seen op)) (Err e) w → Nexts new after w (Err e)
  told_refused p after done w e none h t =
      let F : ℕ → Type 0 = λ k. step v k (seen op) ≡ (Some e, w) in
      inr (inl (inr (found, rest new, passes_next (test_is ∙ first_passes items turning none ∙ turns p after done h), subst F at (barred (step v offset (seen op)) w e t))))

  pub next_read : (p : InstrLocId) (after : Stack) (done : Bool) (w : V) → items ≡ None → place_in p ≡ Some (place_at code old) → StepOf s (seen op) p stack done after → env.Answers (step v offset (seen op)) (Ok tt) w
      → Nexts new after w (Ok done)
  next_read p after done w none located h t =
      let F : ℕ → Type 0 = λ k. step v k (seen op) ≡ (None, w) in
      let G : Option ℕ → Type 0 = λ k. Steps (meaning s) (seen op) k (blocks stack) (opens stack) done (blocks after) (opens after) in
      (found, passes_next (test_is ∙ first_passes items turning none ∙ turns p after done h), subst F at (accepted (step v offset (seen op)) w t), subst G located h)
