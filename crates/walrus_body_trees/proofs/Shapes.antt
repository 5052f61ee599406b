-- Lemmas: which code and which immediates an operator has, by what it does to the nesting.
use Rattle.std.proofs.Common.{ℕ, ◌<◌, ◌≡◌, ◌==◌, ◌&&◌, Bool, true, false, List, [], ◌∷◌, Option, Some, refl, sym, ap, subst, arith, ◌∙◌}
use Rattle.std.proofs.lemmas.Bool.{and_parts, eqb-true}
use Rattle.wasm_features.specs.declared.WasmFeatures.{WasmFeatures}
use Rattle.walrus_meaning.specs.walrus_body_writer.walrus_pairing.wasm_operators.declared.block_type.BlockType.{BlockType}
use Rattle.walrus_meaning.specs.walrus_body_writer.walrus_pairing.wasm_operators.Items.{Item, Byte, Block, ManyLabels, Form, index, number, s32, s64, bits, run, any_byte, below, zero_byte, heap, block, access, labels, values, clauses}
use Rattle.walrus_meaning.specs.walrus_local_function.walrus_body_parser.wasm_operators.declared.entry.Entry.{Entry}
use Rattle.walrus_meaning.specs.walrus_local_function.walrus_body_parser.wasm_operators.declared.entry.Flow.{Flow}
use Rattle.walrus_meaning.specs.walrus_local_function.walrus_body_parser.wasm_operators.declared.entry.Flow.TheVariants as flows
use Rattle.walrus_meaning.specs.walrus_local_function.walrus_body_parser.wasm_operators.declared.op_code.OpCode.{OpCode}
use Rattle.walrus_meaning.specs.walrus_local_function.walrus_body_parser.wasm_operators.Table.{structure_rows, call_rows, plain_rows, fb_rows, fc_rows, fd_rows, fe_rows}
use Rattle.walrus_meaning.specs.walrus_local_function.walrus_body_parser.wasm_operators.Kinds.{forms}
use Rattle.walrus_meaning.specs.walrus_local_function.walrus_body_parser.wasm_operators.Operators.{Seen, flow_in, flow_of}
use Rattle.wasm_operators.specs.Ranges.{ItemsFit, OperatorFits}
use Rattle.walrus_meaning.specs.walrus_body_writer.walrus_pairing.walrus_codes.Runs.{byte}
use Rattle.walrus_pairing.proofs.Rows.{TablePasses, table_holds}
use Rattle.walrus_pairing.proofs.Kept.{entry_of}

abbrev has_code : ℕ → ℕ → ℕ → Bool
has_code k prefix n = prefix == 0 && n == k

abbrev pub bare : ℕ → ℕ → ℕ → List Form → Bool
bare k prefix n [] = has_code k prefix n
bare k prefix n (_ ∷ _) = false

abbrev pub blocks : ℕ → ℕ → ℕ → List Form → Bool
blocks k prefix n (block ∷ []) = has_code k prefix n
blocks k prefix n _ = false

-- by what it does to the nesting: its code, and the forms of its immediates
abbrev pub by_flow : Flow → ℕ → ℕ → List Form → Bool
by_flow flows.End prefix n fs = bare 0x0b prefix n fs
by_flow flows.Else prefix n fs = bare 0x05 prefix n fs
by_flow flows.CatchAll prefix n fs = bare 0x19 prefix n fs
by_flow flows.Catch prefix n fs = has_code 0x07 prefix n
by_flow flows.Delegate prefix n fs = has_code 0x18 prefix n
by_flow flows.OpensBlock prefix n fs = blocks 0x02 prefix n fs
by_flow flows.OpensLoop prefix n fs = blocks 0x03 prefix n fs
by_flow flows.OpensIf prefix n fs = blocks 0x04 prefix n fs
by_flow flows.OpensTry prefix n fs = blocks 0x06 prefix n fs
by_flow flows.OpensTryTable prefix n fs = has_code 0x1f prefix n
by_flow _ prefix n fs = true

-- labels stand behind the code of `br_table` alone; a byte before other immediates is below 4
abbrev pub by_forms : ℕ → ℕ → List Form → Bool
by_forms prefix n (labels ∷ fs) = has_code 0x0e prefix n
by_forms prefix n (any_byte ∷ f ∷ fs) = false
by_forms prefix n (zero_byte ∷ f ∷ fs) = false
by_forms prefix n (below bound ∷ fs) = bound == 4
by_forms prefix n _ = true

abbrev shape_test : ℕ → Entry → ℕ → Bool
shape_test prefix e n = by_flow e.flow prefix n (forms e.kind) && by_forms prefix n (forms e.kind)

table_shaped : TablePasses shape_test
unfolding structure_rows call_rows plain_rows fb_rows fc_rows fd_rows fe_rows
table_shaped = record { structure = refl; call = refl; plain = refl; fb = refl; fc = refl; fd = refl; fe = refl }

some_flow : (f g : Flow) → ◌≡◌ {A = Option Flow} (Some f) (Some g) → f ≡ g
some_flow f g e = cc

pub code_found : (k : ℕ) (code : OpCode) → has_code k code.prefix code.number ≡ true → code ≡ byte k
code_found k code is =
    let parts = and_parts (code.prefix == 0) (code.number == k) is in
    let prefix : code.prefix ≡ 0 = eqb-true code.prefix 0 parts.0 in
    let number : code.number ≡ k = eqb-true code.number k parts.1 in
    λ i. record { prefix = prefix i; number = number i }

module _ (features : WasmFeatures) (op : Seen) (fits : OperatorFits features op) where
  -- what the table says of it
  record Shaped : Type 0 where
    pub flow : Flow
    pub flows_so : flow_of op.code ≡ Some flow
    pub by_flow_so : by_flow flow op.code.prefix op.code.number (forms fits.kind) ≡ true
    pub by_forms_so : by_forms op.code.prefix op.code.number (forms fits.kind) ≡ true

  shaped : Shaped
  shaped =
      let found = entry_of features op.code fits.kind fits.listed in
      let e = found.0 in
      let parts = and_parts (by_flow e.flow op.code.prefix op.code.number (forms e.kind)) (by_forms op.code.prefix op.code.number (forms e.kind)) (table_holds shape_test table_shaped op.code.prefix op.code.number e found.1) in
      record {
        flow = e.flow;
        flows_so = ap flow_in found.1;
        by_flow_so = ap (λ k. by_flow e.flow op.code.prefix op.code.number (forms k)) (sym found.2) ∙ parts.0;
        by_forms_so = ap (λ k. by_forms op.code.prefix op.code.number (forms k)) (sym found.2) ∙ parts.1;
      }

  flow_so : (f : Flow) → flow_of op.code ≡ Some f → by_flow f op.code.prefix op.code.number (forms fits.kind) ≡ true
  flow_so f e =
      let s = shaped in
      ap (λ (g : Flow). by_flow g op.code.prefix op.code.number (forms fits.kind)) (some_flow f s.flow (sym e ∙ s.flows_so)) ∙ s.by_flow_so

  bare_so : (k : ℕ) (fs : List Form) → bare k op.code.prefix op.code.number fs ≡ true → ItemsFit features fs op.items → (op.code ≡ byte k) × (op.items ≡ [])
  bare_so k [] e h = (code_found k op.code e, h)
  bare_so k (f ∷ fs) e h = absurd cc

  pub bare_is : (k : ℕ) (f : Flow) → flow_of op.code ≡ Some f → by_flow f op.code.prefix op.code.number (forms fits.kind) ≡ bare k op.code.prefix op.code.number (forms fits.kind)
      → (op.code ≡ byte k) × (op.items ≡ [])
  bare_is k f e same = bare_so k (forms fits.kind) (sym same ∙ flow_so f e) fits.items

  pub code_is : (k : ℕ) (f : Flow) → flow_of op.code ≡ Some f → by_flow f op.code.prefix op.code.number (forms fits.kind) ≡ has_code k op.code.prefix op.code.number → op.code ≡ byte k
  code_is k f e same = code_found k op.code (sym same ∙ flow_so f e)

  tail_is : (x y : Item) (xs ys : List Item) → x ∷ xs ≡ y ∷ ys → xs ≡ ys
  tail_is x y xs ys e = cc

  blocks_so : (k : ℕ) (fs : List Form) (w : BlockType) (more : List Item) → blocks k op.code.prefix op.code.number fs ≡ true → ItemsFit features fs op.items → op.items ≡ Block w ∷ more → (op.code ≡ byte k) × (more ≡ [])
  blocks_so k [] w more e h is = absurd cc
  blocks_so k (block ∷ []) w more e h is = (code_found k op.code e, tail_is (Block w) h.0 more h.1 (sym is ∙ h.2) ∙ h.4)
  blocks_so k _ w more e h is = absurd cc

  pub blocks_is : (k : ℕ) (f : Flow) (w : BlockType) (more : List Item) → flow_of op.code ≡ Some f → by_flow f op.code.prefix op.code.number (forms fits.kind) ≡ blocks k op.code.prefix op.code.number (forms fits.kind)
      → op.items ≡ Block w ∷ more → (op.code ≡ byte k) × (more ≡ [])
  blocks_is k f w more e same is = blocks_so k (forms fits.kind) w more (sym same ∙ flow_so f e) fits.items is

  head_is : (x y : Item) (xs ys : List Item) → x ∷ xs ≡ y ∷ ys → x ≡ y
  head_is x y xs ys e = cc

  table_so : (fs : List Form) (ns : List ℕ) (more : List Item) → by_forms op.code.prefix op.code.number fs ≡ true → ItemsFit features fs (ManyLabels ns ∷ more) → op.code ≡ byte 0x0e
  table_so [] ns more e h = absurd cc
  table_so (labels ∷ fs) ns more e h = code_found 0x0e op.code e
  table_so (index space ∷ fs) ns more e h = absurd (let a = head_is (ManyLabels ns) h.0 more h.1 h.2 in let b = h.3.1 in cc)
  table_so (number ∷ fs) ns more e h = absurd (let a = head_is (ManyLabels ns) h.0 more h.1 h.2 in let b = h.3.1 in cc)
  table_so (s32 ∷ fs) ns more e h = absurd (let a = head_is (ManyLabels ns) h.0 more h.1 h.2 in let b = h.3.1 in cc)
  table_so (s64 ∷ fs) ns more e h = absurd (let a = head_is (ManyLabels ns) h.0 more h.1 h.2 in let b = h.3.1 in cc)
  table_so (bits size ∷ fs) ns more e h = absurd (let a = head_is (ManyLabels ns) h.0 more h.1 h.2 in let b = h.3.1 in cc)
  table_so (run size ∷ fs) ns more e h = absurd (let a = head_is (ManyLabels ns) h.0 more h.1 h.2 in let b = h.3.1 in cc)
  table_so (any_byte ∷ fs) ns more e h = absurd (let a = head_is (ManyLabels ns) h.0 more h.1 h.2 in let b = h.3.1 in cc)
  table_so (below bound ∷ fs) ns more e h = absurd (let a = head_is (ManyLabels ns) h.0 more h.1 h.2 in let b = h.3.1 in cc)
  table_so (zero_byte ∷ fs) ns more e h = absurd (let a = head_is (ManyLabels ns) h.0 more h.1 h.2 in let b = h.3.1 in cc)
  table_so (heap ∷ fs) ns more e h = absurd (let a = head_is (ManyLabels ns) h.0 more h.1 h.2 in let b = h.3.1 in cc)
  table_so (block ∷ fs) ns more e h = absurd (let a = head_is (ManyLabels ns) h.0 more h.1 h.2 in let b = h.3.1 in cc)
  table_so (access ∷ fs) ns more e h = absurd (let a = head_is (ManyLabels ns) h.0 more h.1 h.2 in let b = h.3.1 in cc)
  table_so (values ∷ fs) ns more e h = absurd (let a = head_is (ManyLabels ns) h.0 more h.1 h.2 in let b = h.3.1 in cc)
  table_so (clauses ∷ fs) ns more e h = absurd (let a = head_is (ManyLabels ns) h.0 more h.1 h.2 in let b = h.3.1 in cc)

  pub table_is : (ns : List ℕ) (more : List Item) → op.items ≡ ManyLabels ns ∷ more → op.code ≡ byte 0x0e
  table_is ns more is = let s = shaped in table_so (forms fits.kind) ns more s.by_forms_so (subst (ItemsFit features (forms fits.kind)) is fits.items)

  flags_so : (fs : List Form) (b : ℕ) (x : Item) (more : List Item) → by_forms op.code.prefix op.code.number fs ≡ true → ItemsFit features fs (Byte b ∷ x ∷ more) → b < 4
  flags_so [] b x more e h = absurd cc
  flags_so (below bound ∷ fs) b x more e h =
      let four = eqb-true bound 4 e in
      let same : Byte b ≡ Byte h.3.0 = head_is (Byte b) h.0 (x ∷ more) h.1 h.2 ∙ h.3.1 in
      let is : b ≡ h.3.0 = (let f = same in cc) in
      let low = h.3.2 in omega (arith, is, low, four)
  flags_so (any_byte ∷ []) b x more e h = absurd (let a = tail_is (Byte b) h.0 (x ∷ more) h.1 h.2 in let c = h.4 in cc)
  flags_so (any_byte ∷ f ∷ fs) b x more e h = absurd cc
  flags_so (zero_byte ∷ []) b x more e h = absurd (let a = tail_is (Byte b) h.0 (x ∷ more) h.1 h.2 in let c = h.4 in cc)
  flags_so (zero_byte ∷ f ∷ fs) b x more e h = absurd cc
  flags_so (labels ∷ fs) b x more e h = absurd (let a = head_is (Byte b) h.0 (x ∷ more) h.1 h.2 in let c = h.3.1 in cc)
  flags_so (index space ∷ fs) b x more e h = absurd (let a = head_is (Byte b) h.0 (x ∷ more) h.1 h.2 in let c = h.3.1 in cc)
  flags_so (number ∷ fs) b x more e h = absurd (let a = head_is (Byte b) h.0 (x ∷ more) h.1 h.2 in let c = h.3.1 in cc)
  flags_so (s32 ∷ fs) b x more e h = absurd (let a = head_is (Byte b) h.0 (x ∷ more) h.1 h.2 in let c = h.3.1 in cc)
  flags_so (s64 ∷ fs) b x more e h = absurd (let a = head_is (Byte b) h.0 (x ∷ more) h.1 h.2 in let c = h.3.1 in cc)
  flags_so (bits size ∷ fs) b x more e h = absurd (let a = head_is (Byte b) h.0 (x ∷ more) h.1 h.2 in let c = h.3.1 in cc)
  flags_so (run size ∷ fs) b x more e h = absurd (let a = head_is (Byte b) h.0 (x ∷ more) h.1 h.2 in let c = h.3.1 in cc)
  flags_so (heap ∷ fs) b x more e h = absurd (let a = head_is (Byte b) h.0 (x ∷ more) h.1 h.2 in let c = h.3.1 in cc)
  flags_so (block ∷ fs) b x more e h = absurd (let a = head_is (Byte b) h.0 (x ∷ more) h.1 h.2 in let c = h.3.1 in cc)
  flags_so (access ∷ fs) b x more e h = absurd (let a = head_is (Byte b) h.0 (x ∷ more) h.1 h.2 in let c = h.3.1 in cc)
  flags_so (values ∷ fs) b x more e h = absurd (let a = head_is (Byte b) h.0 (x ∷ more) h.1 h.2 in let c = h.3.1 in cc)
  flags_so (clauses ∷ fs) b x more e h = absurd (let a = head_is (Byte b) h.0 (x ∷ more) h.1 h.2 in let c = h.3.1 in cc)

  pub flags_below : (b : ℕ) (x : Item) (more : List Item) → op.items ≡ Byte b ∷ x ∷ more → b < 4
  flags_below b x more is = let s = shaped in flags_so (forms fits.kind) b x more s.by_forms_so (subst (ItemsFit features (forms fits.kind)) is fits.items)
