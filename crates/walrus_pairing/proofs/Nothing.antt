-- Lemmas: operators without immediates come back, and numeric ones with a lane.
use Rattle.std.specs.Prelude.{ℕ, ◌≡◌, ◌==◌, List, [], ◌∷◌, Option, Some, None, if◌then◌else◌, refl}
use Rattle.std.specs.Option.{option_map}
use Rattle.std.proofs.Common.{ap, subst, ◌∙◌, inl, inr}
use Rattle.std.proofs.lemmas.Bool.{cases_Bool}
use Rattle.wasm_operators.specs.Items.{Item}
use Rattle.wasm_operators.specs.declared.op_code.OpCode.{OpCode}
use Rattle.walrus_instr.specs.declared.instr.Instr.{Instr}
use Rattle.walrus_instr.specs.declared.instr.Instr.TheVariants as instrs
use Rattle.walrus_codes.specs.Runs.{in_runs, byte}
use Rattle.walrus_codes.specs.Unary.{unary_at, unary_lane}
use Rattle.walrus_codes.specs.Binary.{binary_at, binary_lane}
use Rattle.walrus_codes.specs.Ternary.{ternary_at}
use Rattle.walrus_pairing.specs.Looks.{Look}
use Rattle.walrus_pairing.specs.Write.{op, operator_at, lane_items}
use Rattle.walrus_pairing.specs.Read.{at, first, bare_at, numeric_at, no_immediates_at}
use Rattle.walrus_pairing.proofs.RowsFound.{AllFit, prefix_found}
use Rattle.walrus_pairing.proofs.Codes.{by_rows, unary_found, binary_found, ternary_found}
use Rattle.walrus_pairing.proofs.Facts.{first_is, made_of}

module _ (back : Look) where
  -- the operator of the instruction has this code and these items
  abbrev pub Back : List Item → OpCode → Instr → Type 0
  Back items code i = operator_at back i ≡ op code items

  -- a numeric operator
  unary_back : (lane : Option ℕ) (code : OpCode) (i : Instr) → option_map instrs.Unop (unary_at code lane) ≡ Some i → Back (lane_items lane) code i
  unfolding operator_at
  unary_back lane code i e =
      let got = made_of instrs.Unop (unary_at code lane) i e in
      let has = unary_found lane code got.0 got.1 in
      subst (Back (lane_items lane) code) got.2 (ap (λ (c : OpCode). op c (lane_items (unary_lane got.0))) has.0 ∙ ap (λ (l : Option ℕ). op code (lane_items l)) has.1)

  binary_back : (lane : Option ℕ) (code : OpCode) (i : Instr) → option_map instrs.Binop (binary_at code lane) ≡ Some i → Back (lane_items lane) code i
  unfolding operator_at
  binary_back lane code i e =
      let got = made_of instrs.Binop (binary_at code lane) i e in
      let has = binary_found lane code got.0 got.1 in
      subst (Back (lane_items lane) code) got.2 (ap (λ (c : OpCode). op c (lane_items (binary_lane got.0))) has.0 ∙ ap (λ (l : Option ℕ). op code (lane_items l)) has.1)

  pub numeric_back : (lane : Option ℕ) (code : OpCode) (i : Instr) → numeric_at code lane ≡ Some i → Back (lane_items lane) code i
  numeric_back lane code i e = elim (first_is (option_map instrs.Unop (unary_at code lane)) (option_map instrs.Binop (binary_at code lane)) i e) [
    | inl h ↦ unary_back lane code i h
    | inr h ↦ binary_back lane code i h
  ]

  ternary_back : (code : OpCode) (i : Instr) → option_map instrs.TernOp (ternary_at code) ≡ Some i → Back [] code i
  unfolding operator_at
  ternary_back code i e =
      let got = made_of instrs.TernOp (ternary_at code) i e in
      subst (Back [] code) got.2 (ap (λ (c : OpCode). op c []) (ternary_found code got.0 got.1))

  abbrev Bare : OpCode → Instr → Type 0
  Bare code i = Back [] code i

  bare_byte : AllFit (λ n i. Bare (byte n) i) (at 0x00 instrs.Unreachable ∷ at 0x0a instrs.ThrowRef ∷ at 0x0f instrs.Return ∷ at 0x1a instrs.Drop
      ∷ at 0x1b (instrs.Select None) ∷ at 0xd1 instrs.RefIsNull ∷ at 0xd3 instrs.RefEq ∷ at 0xd4 instrs.RefAsNonNull ∷ [])
  unfolding operator_at
  bare_byte = ((refl, tt), ((refl, tt), ((refl, tt), ((refl, tt), ((refl, tt), ((refl, tt), ((refl, tt), ((refl, tt), tt))))))))

  abbrev vector_bare : OpCode → Option Instr
  vector_bare code = if code.prefix == 0xfd then in_runs (at 14 instrs.I8x16Swizzle ∷ at 82 instrs.V128Bitselect ∷ []) code.number else None

  abbrev bulk_bare : OpCode → Option Instr
  bulk_bare code = if code.prefix == 0xfc then in_runs (at 19 instrs.I64Add128 ∷ at 20 instrs.I64Sub128 ∷ []) code.number else vector_bare code

  abbrev object_bare : OpCode → Option Instr
  object_bare code = if code.prefix == 0xfb then in_runs (at 15 instrs.ArrayLen ∷ at 26 instrs.AnyConvertExtern ∷ at 27 instrs.ExternConvertAny
      ∷ at 28 instrs.RefI31 ∷ at 29 instrs.I31GetS ∷ at 30 instrs.I31GetU ∷ []) code.number else bulk_bare code

  vector_back : (code : OpCode) (i : Instr) → vector_bare code ≡ Some i → Bare code i
  unfolding operator_at
  vector_back code i e = by_rows Bare 0xfd (at 14 instrs.I8x16Swizzle ∷ at 82 instrs.V128Bitselect ∷ []) ((refl, tt), ((refl, tt), tt)) code i e

  bulk_back : (code : OpCode) (i : Instr) → bulk_bare code ≡ Some i → Bare code i
  unfolding operator_at
  bulk_back code i e = elim (cases_Bool (code.prefix == 0xfc)) [
    | inl is ↦ prefix_found Bare 0xfc (at 19 instrs.I64Add128 ∷ at 20 instrs.I64Sub128 ∷ []) ((refl, tt), ((refl, tt), tt)) code i is (rw is at e)
    | inr out ↦ vector_back code i (rw out at e)
  ]

  object_back : (code : OpCode) (i : Instr) → object_bare code ≡ Some i → Bare code i
  unfolding operator_at
  object_back code i e = elim (cases_Bool (code.prefix == 0xfb)) [
    | inl is ↦ prefix_found Bare 0xfb (at 15 instrs.ArrayLen ∷ at 26 instrs.AnyConvertExtern ∷ at 27 instrs.ExternConvertAny ∷ at 28 instrs.RefI31 ∷ at 29 instrs.I31GetS ∷ at 30 instrs.I31GetU ∷ [])
        ((refl, tt), ((refl, tt), ((refl, tt), ((refl, tt), ((refl, tt), ((refl, tt), tt)))))) code i is (rw is at e)
    | inr out ↦ bulk_back code i (rw out at e)
  ]

  bare_back : (code : OpCode) (i : Instr) → bare_at code ≡ Some i → Bare code i
  bare_back code i e = elim (cases_Bool (code.prefix == 0)) [
    | inl is ↦ prefix_found Bare 0 (at 0x00 instrs.Unreachable ∷ at 0x0a instrs.ThrowRef ∷ at 0x0f instrs.Return ∷ at 0x1a instrs.Drop
        ∷ at 0x1b (instrs.Select None) ∷ at 0xd1 instrs.RefIsNull ∷ at 0xd3 instrs.RefEq ∷ at 0xd4 instrs.RefAsNonNull ∷ []) bare_byte code i is (rw is at e)
    | inr out ↦ object_back code i (rw out at e)
  ]

  pub nothing_back : (code : OpCode) (i : Instr) → no_immediates_at code ≡ Some i → Back [] code i
  nothing_back code i e = elim (first_is (bare_at code) (first (numeric_at code None) (option_map instrs.TernOp (ternary_at code))) i e) [
    | inl h ↦ bare_back code i h
    | inr h ↦ elim (first_is (numeric_at code None) (option_map instrs.TernOp (ternary_at code)) i h) [
      | inl g ↦ numeric_back None code i g
      | inr g ↦ ternary_back code i g
    ]
  ]
