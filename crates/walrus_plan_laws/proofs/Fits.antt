-- Lemmas: the size of a body that can be written is a number of 64 bits.
use Rattle.std.specs.Prelude.{ℕ, zero, suc, ◌%◌, ◌<◌, ◌≤◌, ◌^◌, ◌≡◌, ◌⊎◌, ◌==◌, Bool, true, false, List, [], ◌∷◌, ◌++◌, length, take, drop, Option, Some, None, Ok, Err, slice_get, slice_index_or, refl, if◌then◌else◌}
use Rattle.std.specs.List.{AllZip, flat_map}
use Rattle.std.proofs.Common.{ap, sym, ◌∙◌, subst, arith, inl, inr, lt-ltb, le-ltb}
use Rattle.std.proofs.lemmas.Bool.{cases_lt}
use Rattle.std.proofs.lemmas.List.{drop-map, drop_at, length-append, take-map, take_at}
use Rattle.std.proofs.lemmas.Option.{none-some, same_Some, slice_get_within}
use Rattle.wasm_formats.specs.declared.fault.Limited.{Limited}
use Rattle.wasm_formats.specs.declared.fault.Limited.TheVariants.{Body, Locals}
use Rattle.wasm_operators.specs.Bytes.{item_bytes, operator_bytes, unsigned_bytes}
use Rattle.wasm_operators.specs.Operators.{Seen}
use Rattle.walrus_arena.specs.Arena.{Arena, entries, item_at}
use Rattle.walrus_errors.specs.declared.error.ModuleError.{ModuleError}
use Rattle.walrus_errors.specs.declared.error.ModuleError.TheVariants.{OutputLimit}
use Rattle.walrus_index_maps.specs.Maps.{Indices}
use Rattle.walrus_instr.specs.declared.seq.InstrSeq.{InstrSeq}
use Rattle.walrus_items.specs.declared.local.Local.{Local}
use Rattle.walrus_pairing.specs.Looks.{Look, Or, number_of}
use Rattle.walrus_body_names.specs.walrus_body_writer.Spelled.{Text, written as written_piece}
use Rattle.walrus_body_names.specs.walrus_body_writer.walrus_body_text.Visiting.{text_size, weight}
use Rattle.walrus_body_names.specs.walrus_body_writer.walrus_tree.walrus_builder.Functions.{seqs_of}
use Rattle.walrus_body_names.specs.walrus_tree.Text.{Piece, Operator, Else, Catch, CatchAll, Delegate, End, operators}
use Rattle.walrus_local_function.specs.declared.local_function.LocalFunction.{LocalFunction}
use Rattle.walrus_module.specs.Parts.{Module}
use Rattle.walrus_module.specs.walrus_collections.LookUps.{local_entries}
use Rattle.walrus_module_items.specs.Functions.{local_of}
use Rattle.walrus_module_items.specs.declared.function.Function.{Function}
use Rattle.walrus_module_items.specs.declared.function.FunctionKind.{FunctionKind}
use Rattle.walrus_module_items.specs.declared.function.FunctionKind.TheVariants as kinds
use Rattle.walrus_body_laws.proofs.Agreeing.{ToldPiece, piece_told}
use Rattle.walrus_emit_parts.specs.Due.{Due, lacking, limited, number, sized, written}
use Rattle.walrus_emit_parts.proofs.Lemmas.{written_size}
use Rattle.walrus_emit_code.specs.Code.{bodies_due, body_due, body_numbers, code, contents, declarations, facts_at, kind_due, local_count, operator_due, operators_due, or_lacking, slot_due, text_due, with_locals}
use Rattle.walrus_emit_numbers.specs.Facts.{AreFacts}
use Rattle.walrus_emit_numbers.specs.Order.{IsOrder}
use Rattle.walrus_emit_numbers.specs.declared.facts.BodyFacts.{BodyFacts}
use Rattle.walrus_plan_laws.specs.Emissions.{SizesFit}
use Rattle.walrus_plan_laws.proofs.Bodies.{in_slots_at, zip_at}
use Rattle.walrus_plan_laws.proofs.Lists.{In, all_in, in_given}
use Rattle.walrus_plan_laws.proofs.Orders.{in_order}

-- ---- what can be written

-- it can be written
abbrev pub CanBe : Due → Type 0
CanBe due = (bytes : List ℕ) × (due ≡ written bytes)

pub front_of : (a b : Due) (bytes : List ℕ) → a ++ b ≡ written bytes → CanBe a
front_of a b bytes e = (take (length a) bytes, sym (take_at a b (length a) refl) ∙ ap (λ (l : Due). take (length a) l) e ∙ take-map (λ (n : ℕ). Ok n) (length a) bytes)

pub back_of : (a b : Due) (bytes : List ℕ) → a ++ b ≡ written bytes → CanBe b
back_of a b bytes e = (drop (length a) bytes, sym (drop_at a b (length a) refl) ∙ ap (λ (l : Due). drop (length a) l) e ∙ drop-map (λ (n : ℕ). Ok n) (length a) bytes)

lacking_not : (e : ModuleError) (bytes : List ℕ) → lacking e ≡ written bytes → ⊥
lacking_not e [] h = absurd cc
lacking_not e (b ∷ bytes) h = absurd cc

limit_kept : (most n : ℕ) (of : Limited) (due : Due) (bytes : List ℕ) → limited most n of due ≡ written bytes → (n ≤ most) × (due ≡ written bytes)
limit_kept most n of due bytes e = go (cases_lt most n)
  where
    go : (most < n) ⊎ (n ≤ most) → (n ≤ most) × (due ≡ written bytes)
    go (inl lt) = absurd (lacking_not (OutputLimit of) bytes (sym (ap (λ (b : Bool). if b then lacking (OutputLimit of) else due) (lt-ltb most n lt)) ∙ e))
    go (inr le) = (le, sym (ap (λ (b : Bool). if b then lacking (OutputLimit of) else due) (le-ltb most n le)) ∙ e)

far : (a b c : ℕ) → a ≤ b → b ≤ c → a ≤ c
far a b c h k = omega (arith, h, k)

below : (n most top : ℕ) → n ≤ most → most < top → n < top
below n most top h k = omega (arith, h, k)

-- ---- a text is no longer than what is due for it

code_long : (one : Bool) (a b : ℕ) (more rest : List ℕ) → 1 ≤ length ((if one then a ∷ [] else (b ∷ more)) ++ rest)
code_long true a b more rest = omega arith
code_long false a b more rest = omega arith

operator_long : (op : Seen) → 1 ≤ length (operator_bytes op)
operator_long op = code_long (op.code.prefix == 0) (op.code.number % 256) op.code.prefix (unsigned_bytes op.code.number) (flat_map item_bytes op.items)

weighs_little : (p : Piece) → weight p ≤ 1
weighs_little (Operator around i) = omega arith
weighs_little Else = omega arith
weighs_little (Catch tag) = omega arith
weighs_little CatchAll = omega arith
weighs_little (Delegate outer) = omega arith
weighs_little End = omega arith

piece_long : (look : Look) (p : Piece) (a : Or (Option Seen)) → ToldPiece look p a → weight p ≤ length (or_lacking operator_due a)
piece_long look p (Ok (Some op)) h =
    let little = weighs_little p in
    let long = operator_long op in
    let same = written_size (operator_bytes op) in
    omega (arith, little, long, same)
piece_long look p (Ok None) h = absurd h
piece_long look p (Err e) h = weighs_little p

text_long : (look : Look) (b : List InstrSeq) (t : Text) → text_size t ≤ length (text_due look b t)
text_long look b [] = omega arith
text_long look b (p ∷ ps) =
    let first = piece_long look p.0 (written_piece look b p.0) (piece_told look b p.0) in
    let rest = text_long look b ps in
    let all = length-append (or_lacking operator_due (written_piece look b p.0)) (text_due look b ps) in
    omega (arith, first, rest, all)

-- ---- code

module _ (locals : List Local) (functions : Arena Function) where
  contents_small : (function : ℕ) (local : LocalFunction) (used : List ℕ) (i : Indices) (bytes : List ℕ) → sized (contents locals function local used i) ≡ written bytes
      → text_size (operators (seqs_of local.builder) 0) ≤ 7654321
  contents_small function local used i bytes e =
      let numbered = with_locals locals function local used i in
      let front = declarations locals local used i in
      let back = operators_due function local numbered in
      let count = local_count (numbered.locals function) (length local.args.items) used in
      let due = contents locals function local used i in
      let can = back_of (number (length due)) due bytes e in
      let outer = limit_kept 50000 count Locals (limited 7654321 (length (front ++ back)) Body (front ++ back)) can.0 can.1 in
      let inner = limit_kept 7654321 (length (front ++ back)) Body (front ++ back) can.0 outer.1 in
      let long = text_long (number_of numbered function) (seqs_of local.builder) (operators (seqs_of local.builder) 0) in
      let sum = length-append front back in
      far (text_size (operators (seqs_of local.builder) 0)) (length (front ++ back)) 7654321 (omega (arith, long, sum)) inner.0

  -- the text of the body of its function is of so many operators
  abbrev pub IsSmall : BodyFacts → Type 0
  IsSmall f = (g : Function) (local : LocalFunction) → item_at functions f.function ≡ Some g → g.kind ≡ kinds.Local local → text_size (operators (seqs_of local.builder) 0) ≤ 7654321

  body_small : (i : Indices) (f : BodyFacts) (bytes : List ℕ) → body_due locals functions i f ≡ written bytes → IsSmall f
  body_small i f bytes e g local is body =
      contents_small f.function local f.used_locals.items i bytes
      (sym (ap (λ (o : Option Function). slot_due locals functions i f o) is ∙ ap (λ (k : FunctionKind). kind_due locals functions i f (local_of k)) body) ∙ e)

  bodies_small : (i : Indices) (fs : List BodyFacts) (bytes : List ℕ) → bodies_due locals functions i fs ≡ written bytes → (f : BodyFacts) → In fs f → IsSmall f
  bodies_small i [] bytes e f (k, is) = absurd (none-some f is)
  bodies_small i (g ∷ fs) bytes e f (zero, is) =
      let can = front_of (body_due locals functions i g) (bodies_due locals functions (body_numbers locals functions i g) fs) bytes e in
      subst IsSmall (same_Some g f is) (body_small i g can.0 can.1)
  bodies_small i (g ∷ fs) bytes e f (suc k, is) =
      let later = body_numbers locals functions i g in
      let can = back_of (body_due locals functions i g) (bodies_due locals functions later fs) bytes e in
      bodies_small later fs can.0 can.1 f (k, is)

  code_small : (i : Indices) (fs : List BodyFacts) (bytes : List ℕ) → code locals functions i fs ≡ written bytes → (f : BodyFacts) → In fs f → IsSmall f
  code_small i [] bytes e f (k, is) = absurd (none-some f is)
  code_small i (g ∷ fs) bytes e f at =
      let bodies = bodies_due locals functions i (g ∷ fs) in
      let all = number (length (g ∷ fs)) ++ bodies in
      let first = back_of (Ok 10 ∷ []) (sized all) bytes e in
      let second = back_of (number (length all)) all first.0 first.1 in
      let third = back_of (number (length (g ∷ fs))) bodies second.0 second.1 in
      bodies_small i (g ∷ fs) third.0 third.1 f at

module _ (a : Module) (facts : List BodyFacts) (order : List ℕ) (zip : AllZip AreFacts (local_entries (entries a.funcs)) facts) (is : IsOrder facts order) (i : Indices) where
  pub sizes_fit : CanBe (code a.locals a.funcs i (facts_at facts order)) → SizesFit facts
  sizes_fit can = all_in (λ (body : BodyFacts). body.size < 2 ^ 64) facts fit
    where
      fit : (body : BodyFacts) → In facts body → body.size < 2 ^ 64
      fit body (k, at) =
          let h = zip_at (local_entries (entries a.funcs)) facts zip k body at in
          let there = in_slots_at a facts zip h.0.0 h.0.1 (k, h.1.0) in
          let picked = in_given (λ (n : ℕ). slice_get facts n) order k body (in_order facts order is k (slice_get_within facts k body at)) at in
          let small =
          code_small a.locals a.funcs i (facts_at facts order) can.0 can.1 body picked there.function h.0.1 (ap (λ (id : ℕ). slice_index_or a.funcs.slots id None) h.1.1.function ∙ there.there) there.kind in
          below body.size 7654321 (2 ^ 64) (subst (λ (n : ℕ). n ≤ 7654321) (sym h.1.1.size) small) (omega arith)
