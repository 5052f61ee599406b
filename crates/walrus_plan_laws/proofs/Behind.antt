-- Lemmas: data segments are due by the numbers of items, whatever numbers locals have.
use Rattle.std.specs.Prelude.{ℕ, ◌==◌, ◌≡◌, true, List, [], ◌∷◌, ◌++◌, length, map, filter, Option, Some, None, refl, if◌then◌else◌}
use Rattle.std.specs.List.{flat_map}
use Rattle.std.specs.Option.{option_map}
use Rattle.std.proofs.Common.{ap, ◌∙◌}
use Rattle.wasm_formats.specs.declared.fault.Limited.{Limited}
use Rattle.wasm_formats.specs.declared.fault.Limited.TheVariants as limits_of
use Rattle.wasm_operators.specs.Items as items
use Rattle.wasm_grammar.specs.Modules.{Segment}
use Rattle.walrus_arena.specs.Arena.{Arena, item_at}
use Rattle.walrus_index_maps.specs.Maps.{Indices}
use Rattle.walrus_instr.specs.Constants.{ops_of}
use Rattle.walrus_instr.specs.declared.const_expr.ConstExpr.{ConstExpr}
use Rattle.walrus_instr.specs.declared.const_expr.ConstOp.{ConstOp}
use Rattle.walrus_instr.specs.declared.const_expr.ConstOp.TheVariants as consts
use Rattle.walrus_items.specs.declared.local.Local.{Local}
use Rattle.walrus_pairing.specs.Looks.{Look, number_of}
use Rattle.walrus_local_function.specs.declared.local_function.LocalFunction.{LocalFunction}
use Rattle.walrus_module.specs.Parts.{parts}
use Rattle.walrus_module_items.specs.Functions.{local_of}
use Rattle.walrus_module_items.specs.Words.{const_seen, own_expr}
use Rattle.walrus_module_items.specs.declared.data.Data.{Data}
use Rattle.walrus_module_items.specs.declared.data.DataKind.{DataKind}
use Rattle.walrus_module_items.specs.declared.data.DataKind.TheVariants as datas
use Rattle.walrus_module_items.specs.declared.function.Function.{Function}
use Rattle.walrus_item_meaning.specs.Meaning.{own_data_mode, own_segment}
use Rattle.walrus_meaning.specs.Meaning.{means}
use Rattle.walrus_emit_parts.specs.Due.{Due, entries, limited, number, section, text, written}
use Rattle.walrus_emit_due.specs.Items.{active, moded, segment, segments}
use Rattle.walrus_emit_due.specs.Own.{live}
use Rattle.walrus_emit_due.specs.Values.{expr, operator}
use Rattle.walrus_emit_code.specs.Code.{bodies_numbers, body_numbers, facts_at, kind_numbers, slot_numbers}
use Rattle.walrus_emit_numbers.specs.declared.facts.BodyFacts.{BodyFacts}
use Rattle.walrus_plan_laws.specs.Behind.{SegmentsNameNoLocals}

-- ---- bodies give numbers to locals alone

abbrev with_locals : Indices → (ℕ → ℕ → Option ℕ) → Indices
with_locals i numbers = record i { locals = numbers }

module _ (locals : List Local) (functions : Arena Function) where
  kind_gives : (i : Indices) (f : BodyFacts) (o : Option LocalFunction) → kind_numbers locals functions i f o ≡ with_locals i (kind_numbers locals functions i f o).locals
  kind_gives i f None = refl
  kind_gives i f (Some local) = refl

  slot_gives : (i : Indices) (f : BodyFacts) (o : Option Function) → slot_numbers locals functions i f o ≡ with_locals i (slot_numbers locals functions i f o).locals
  slot_gives i f None = refl
  slot_gives i f (Some g) = kind_gives i f (local_of g.kind)

  bodies_give : (i : Indices) (fs : List BodyFacts) → bodies_numbers locals functions i fs ≡ with_locals i (bodies_numbers locals functions i fs).locals
  bodies_give i [] = refl
  bodies_give i (f ∷ fs) =
      bodies_give (body_numbers locals functions i f) fs
      ∙ ap (λ (k : Indices). with_locals k (bodies_numbers locals functions i (f ∷ fs)).locals) (slot_gives i f (item_at functions f.function))

-- ---- which data segments don't name

module _ (i : Indices) (numbers : ℕ → ℕ → Option ℕ) where
  abbrev look : Look
  look = number_of i 0

  abbrev other : Look
  other = number_of (with_locals i numbers) 0

  op_same : (op : ConstOp) → operator other (const_seen op) ≡ operator look (const_seen op)
  op_same (consts.I32Const z) = refl
  op_same (consts.I64Const z) = refl
  op_same (consts.F32Const bits) = refl
  op_same (consts.F64Const bits) = refl
  op_same (consts.V128Const bits) = refl
  op_same (consts.GlobalGet global) = refl
  op_same (consts.RefNull ty) = refl
  op_same (consts.RefFunc function) = refl
  op_same consts.I32Add = refl
  op_same consts.I32Sub = refl
  op_same consts.I32Mul = refl
  op_same consts.I64Add = refl
  op_same consts.I64Sub = refl
  op_same consts.I64Mul = refl
  op_same consts.RefI31 = refl
  op_same (consts.StructNew ty) = refl
  op_same (consts.StructNewDefault ty) = refl
  op_same (consts.ArrayNew ty) = refl
  op_same (consts.ArrayNewDefault ty) = refl
  op_same (consts.ArrayNewFixed ty size) = refl
  op_same consts.AnyConvertExtern = refl
  op_same consts.ExternConvertAny = refl

  ops_same : (ops : List ConstOp) → flat_map (operator other) (map const_seen ops) ≡ flat_map (operator look) (map const_seen ops)
  ops_same [] = refl
  ops_same (op ∷ ops) = λ at. op_same op at ++ ops_same ops at

  expr_same : (e : ConstExpr) → expr other (own_expr e) ≡ expr look (own_expr e)
  expr_same e = ap (λ (l : Due). l ++ written (0x0b ∷ [])) (ops_same (ops_of e))

  active_same : (o : Option ℕ) (e : ConstExpr) (bytes : List ℕ) → active other o (own_expr e) bytes ≡ active look o (own_expr e) bytes
  active_same None e bytes = refl
  active_same (Some n) e bytes =
      ap (λ (l : Due). if n == 0 then number 0 ++ (l ++ text bytes) else (number 2 ++ (number n ++ (l ++ text bytes)))) (expr_same e)

  mode_same : (kind : DataKind) (bytes : List ℕ) → moded other (own_data_mode kind) bytes ≡ moded look (own_data_mode kind) bytes
  mode_same datas.Passive bytes = refl
  mode_same (datas.Active memory offset) bytes = active_same (look items.Memories memory) offset bytes

  all_same : (slots : List (Option Data)) → flat_map (segment other) (filter (λ _. true) (live (map (option_map own_segment) slots))) ≡ flat_map (segment look) (filter (λ _. true) (live (map (option_map own_segment) slots)))
  all_same [] = refl
  all_same (None ∷ slots) = all_same slots
  all_same (Some d ∷ slots) = λ at. mode_same d.kind d.value.items at ++ all_same slots at

  entries_by : (id : ℕ) (f g : Segment → Due) (xs : List Segment) → flat_map f xs ≡ flat_map g xs → entries id f xs ≡ entries id g xs
  entries_by id f g [] e = refl
  entries_by id f g (x ∷ xs) e = ap (λ (l : Due). section id (number (length (x ∷ xs)) ++ l)) e

  limited_by : (most n : ℕ) (of : Limited) (x y : Due) → x ≡ y → limited most n of x ≡ limited most n of y
  limited_by most n of x y e = ap (λ (l : Due). limited most n of l) e

  segments_same : (slots : List (Option Data)) → segments other (map (option_map own_segment) slots) ≡ segments look (map (option_map own_segment) slots)
  segments_same slots =
      let xs = filter (λ _. true) (live (map (option_map own_segment) slots)) in
      limited_by 100000 (length (live (map (option_map own_segment) slots))) limits_of.Data (entries 11 (segment other) xs) (entries 11 (segment look) xs)
      (entries_by 11 (segment other) (segment look) xs (all_same slots))

pub segments_name_no_locals : {B : Type 0} → SegmentsNameNoLocals B
segments_name_no_locals input facts order i =
    let all = facts_at facts order in
    ap (λ (k : Indices). segments (number_of k 0) (means (parts input)).segments) (bodies_give input.locals input.funcs i all)
    ∙ segments_same i (bodies_numbers input.locals input.funcs i all).locals input.data_segments.slots
