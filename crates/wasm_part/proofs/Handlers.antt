-- Lemmas: what handlers of legacy `try`s take and give names types of the file, so that the types that are lacking for them are missing ones.
use Rattle.std.specs.Prelude.{ℕ, not, ◌&&◌, ◌≡◌, ◌≤◌, ◌<◌, ◌+◌, Bool, true, false, List, [], ◌∷◌, length, map, filter, All, IfSome, zero, suc, Option, Some, None, slice_get, slice_index_or, refl}
use Rattle.std.specs.List.{AllByRecursion, flat_map}
use Rattle.std.specs.Option.{is_none, option_and_then, option_map}
use Rattle.std.proofs.Common.{cond, subst, arith}
use Rattle.std.proofs.lemmas.List.{length-append}
use Rattle.std.proofs.lemmas.List.Elements.{All-cons, All-head, All-nil, All-tail}
use Rattle.walrus_forms.specs.Forms.{Form, FunctionForm, StructForm, ArrayForm}
use Rattle.walrus_forms.specs.Kinds.{Kind}
use Rattle.walrus_forms.specs.Records.{TypeGroup}
use Rattle.walrus_forms.specs.Renaming.{FormBelow, HeapBelow, KindBelow, ValueBelow, at, renamed_heap, renamed_value}
use Rattle.walrus_forms.specs.Values.{value_name}
use Rattle.walrus_forms.specs.declared.value.AbstractHeapType.{AbstractHeapType}
use Rattle.walrus_forms.specs.declared.value.HeapType.{HeapType}
use Rattle.walrus_forms.specs.declared.value.HeapType.TheVariants as heaps
use Rattle.walrus_forms.specs.declared.value.RefType.{RefType}
use Rattle.walrus_forms.specs.declared.value.ValType.{ValType}
use Rattle.walrus_forms.specs.declared.value.ValType.TheVariants as values
use Rattle.wasm_ref_types.specs.declared.heap.HeapType.{HeapType as ReadHeap}
use Rattle.wasm_ref_types.specs.declared.heap.HeapType.TheVariants.{Abstract, Concrete, Exact}
use Rattle.wasm_ref_types.specs.declared.index.UnpackedIndex.TheVariants.{Module, RecGroup, Id}
use Rattle.wasm_ref_types.specs.declared.value.ValType.{ValType as ReadValue}
use Rattle.wasm_ref_types.specs.declared.value.ValType.TheVariants as from
use Rattle.wasm_operators.specs.Items.{Types, Functions, Tables, Memories, Tags, Globals, ElementSegments, DataSegments, Locals, Labels, Item, Names, Number, S32, S64, Bits, Byte, Bytes, Heap, Block, Access, ManyLabels, ManyValues, ManyClauses}
use Rattle.wasm_operators.specs.declared.block_type.BlockType.{BlockType}
use Rattle.wasm_operators.specs.declared.block_type.BlockType.TheVariants as blocks
use Rattle.wasm_operators.specs.Operators.{flow_of}
use Rattle.wasm_operators.specs.declared.entry.Flow.{Flow}
use Rattle.wasm_operators.specs.declared.entry.Flow.TheVariants as flows
use Rattle.wasm_operators.specs.NameLaws.{same}
use Rattle.wasm_operators.specs.Names.{Name, heap_names, item_names, operator_names, value_names}
use Rattle.wasm_normal_form.specs.Bodies.{is_used, local_in}
use Rattle.wasm_normal_form.specs.Normal.{normal_from, normal_ops, with_pick}
use Rattle.wasm_normal_form.specs.Roles.{Placed, cuts, else_op, is_if}
use Rattle.wasm_normal_form.specs.Trees.{Tree, Close, Arm, Skip, Run, Nest, flat, tree_of}
use Rattle.wasm_grammar.specs.Modules as grammar
use Rattle.wasm_grammar.specs.TypeWords.{abstract_of, heap_of, value_of}
use Rattle.wasm_grammar.specs.States.{types_of}
use Rattle.wasm_features.specs.declared.WasmFeatures.{WasmFeatures}
use Rattle.wasm_body_grammar.specs.Codes.{param_count}
use Rattle.wasm_body_grammar.specs.Frames.{Plain}
use Rattle.wasm_body_grammar.specs.Rules.{Around}
use Rattle.wasm_module_rules.specs.Linked.{Each}
use Rattle.wasm_ruled_modules.specs.Rules.{AreBelow, GroupsBelow, HasBody, IsBody, OriginRuled, around_bodies}
use Rattle.wasm_ruled_normal.proofs.Tests.{all_join, all_split}
use Rattle.wasm_ruled_normal.specs.Normal.{NormalOperatorsAreRuled, located, text_of}
use Rattle.wasm_run_names.specs.Picks.{block_pick}
use Rattle.wasm_ruled_renamed.proofs.Bodies.{all_sent, all_used}
use Rattle.wasm_ruled_renamed.specs.Bodies.{with_numbers}
use Rattle.wasm_ruled_renamed.specs.Renamed.{IsThere, NamesThere}
use Rattle.wasm_merged_modules.specs.Merged.{IsMissing, UnfoundKindsAreMissing, ids_of, kept_of, kinds_of, merged_types}
use Rattle.walrus_types.specs.Table.{Table, found_type}
use Rattle.std.proofs.lemmas.Option.{slice_get_within}
use Rattle.walrus_forms.specs.Renaming.{renamed_kind}
use Rattle.walrus_types.specs.Mergers.{ParsingCarriesSame}
use Rattle.wasm_normal_modules.proofs.Slots.{get_some}
use Rattle.wasm_normal_modules.specs.Modules.{ReadModulesMeetRules}
use Rattle.wasm_merged_modules.proofs.Merged.{kind_there}
use Rattle.wasm_part.specs.Handlers.{HandlersAreMissing, Signature, bodies_handle, bodies_of, block_gives, body_handles, body_if, form_gives, form_takes, function_bodies, is_missing, is_short, kind_of, opened_gives, part_handles, sent, signature_of, tag_takes, text_handles, type_gives, type_takes}

abbrev as_it_is : BlockType → BlockType
as_it_is ty = ty

-- ---- lists of types

abbrev ResultsBelow : ℕ → Option (List ValType) → Type 0
ResultsBelow total o = IfSome o (All (ValueBelow total))

abbrev SignatureBelow : ℕ → Signature → Type 0
SignatureBelow total s = All (ValueBelow total) s.params × All (ValueBelow total) s.results

abbrev FormNames : ℕ → Form → Type 0
FormNames total form = ResultsBelow total (form_takes form) × ResultsBelow total (form_gives form)

abbrev KindNames : ℕ → Kind → Type 0
KindNames total kind = FormNames total kind.form

all_values : (P Q : ValType → Type 0) → ((ty : ValType) → P ty → Q ty) → (tys : List ValType) → All P tys → All Q tys
all_values P Q f [] h = All-nil Q
all_values P Q f (ty ∷ tys) h = All-cons Q ty tys (f ty (All-head P ty tys h)) (all_values P Q f tys (All-tail P ty tys h))

name_wider : (m n : ℕ) → m ≤ n → (o : Option ℕ) → IfSome o (λ k. k < m) → IfSome o (λ k. k < n)
name_wider m n le None h = tt
name_wider m n le (Some k) h = omega (arith, le, h)

values_wider : (m n : ℕ) → m ≤ n → (tys : List ValType) → All (ValueBelow m) tys → All (ValueBelow n) tys
values_wider m n le tys h = all_values (ValueBelow m) (ValueBelow n) (λ ty. name_wider m n le (value_name ty)) tys h

-- ---- types of the file

kind_names : (m n : ℕ) → m ≤ n → (kind : Kind) → KindBelow m kind → KindNames n kind
kind_names m n le kind h = by kind.form h.0
  where
    by : (form : Form) → FormBelow m form → FormNames n form
    by (FunctionForm params results) b = (values_wider m n le params b.0, values_wider m n le results b.1)
    by (StructForm fields) b = (tt, tt)
    by (ArrayForm field) b = (tt, tt)

kinds_names : (m n : ℕ) → m ≤ n → (kinds : List Kind) → AreBelow m kinds → AllByRecursion (KindNames n) kinds
kinds_names m n le [] h = tt
kinds_names m n le (k ∷ kinds) h = (kind_names m n le k h.0, kinds_names m n le kinds h.1)

groups_names : (m n : ℕ) (groups : List TypeGroup) → m + length (kinds_of groups) ≤ n → GroupsBelow m groups → AllByRecursion (KindNames n) (kinds_of groups)
groups_names m n [] le h = tt
groups_names m n (g ∷ groups) le h =
    let many = length-append g.kinds (kinds_of groups) in
    all_join (KindNames n) g.kinds (kinds_of groups) (kinds_names (m + length g.kinds) n (omega (arith, le, many)) g.kinds h.0) (groups_names (m + length g.kinds) n groups (omega (arith, le, many)) h.1)

get_all : (P : Kind → Type 0) (kinds : List Kind) (n : ℕ) → AllByRecursion P kinds → IfSome (slice_get kinds n) P
get_all P [] n h = tt
get_all P (k ∷ kinds) zero h = h.0
get_all P (k ∷ kinds) (suc n) h = get_all P kinds n h.1

-- ---- types that a body writes out

module _ (total : ℕ) (Good : Name → Type 0) (types_are : (n : ℕ) → Good (Types, n) → n < total) where
  heap_below : (ty : ReadHeap) → AllByRecursion Good (heap_names ty) → IfSome (heap_of ty) (HeapBelow total)
  heap_below (Abstract false ty) h = by (abstract_of ty)
    where
      by : (o : Option AbstractHeapType) → IfSome (option_map heaps.Abstract o) (HeapBelow total)
      by None = tt
      by (Some x) = tt
  heap_below (Abstract true ty) h = shared (abstract_of ty)
    where
      shared : (o : Option AbstractHeapType) → IfSome (option_map heaps.Shared o) (HeapBelow total)
      shared None = tt
      shared (Some x) = tt
  heap_below (Concrete (Module n)) h = types_are n h.0
  heap_below (Concrete (RecGroup n)) h = tt
  heap_below (Concrete (Id id)) h = tt
  heap_below (Exact (Module n)) h = types_are n h.0
  heap_below (Exact (RecGroup n)) h = tt
  heap_below (Exact (Id id)) h = tt

  value_below : (ty : ReadValue) → AllByRecursion Good (value_names ty) → IfSome (value_of ty) (ValueBelow total)
  value_below from.I32 h = tt
  value_below from.I64 h = tt
  value_below from.F32 h = tt
  value_below from.F64 h = tt
  value_below from.V128 h = tt
  value_below (from.Ref ty) h = by (heap_of ty.heap_type) (heap_below ty.heap_type h)
    where
      by : (o : Option HeapType) → IfSome o (HeapBelow total) → IfSome (option_map values.Ref (option_map (λ (x : HeapType). (let r : RefType = record { nullable = ty.nullable; heap_type = x } in r)) o)) (ValueBelow total)
      by None b = tt
      by (Some x) b = b

-- ---- a text, operator by operator

module _ (total : ℕ) (types : List Kind) (tags : List (Option grammar.Tag)) (named : AllByRecursion (KindNames total) types) where
  params_below : (n : ℕ) → ResultsBelow total (type_takes types tags n)
  params_below n = by (slice_get types n) (get_all (KindNames total) types n named)
    where
      by : (o : Option Kind) → IfSome o (KindNames total) → ResultsBelow total (option_and_then (λ (k : Kind). form_takes k.form) o)
      by None h = tt
      by (Some k) h = h.0

  results_below : (n : ℕ) → ResultsBelow total (type_gives types tags n)
  results_below n = by (slice_get types n) (get_all (KindNames total) types n named)
    where
      by : (o : Option Kind) → IfSome o (KindNames total) → ResultsBelow total (option_and_then (λ (k : Kind). form_gives k.form) o)
      by None h = tt
      by (Some k) h = h.1

  tag_below : (n : ℕ) → ResultsBelow total (tag_takes types tags n)
  tag_below n = by (slice_index_or tags n None)
    where
      by : (o : Option grammar.Tag) → ResultsBelow total (option_and_then (λ (t : grammar.Tag). type_takes types tags t.ty) o)
      by None = tt
      by (Some t) = params_below t.ty

  signature_below : (params results : Option (List ValType)) → ResultsBelow total params → ResultsBelow total results → AllByRecursion (SignatureBelow total) (signature_of params results)
  signature_below None results h k = tt
  signature_below (Some ps) None h k = tt
  signature_below (Some ps) (Some rs) h k = ((h, k), tt)

  part_below : (results : Option (List ValType)) (flow : Option Flow) (items : List Item) → ResultsBelow total results → AllByRecursion (SignatureBelow total) (part_handles types tags results flow items)
  part_below results None items h = tt
  part_below results (Some flows.CatchAll) items h = signature_below (Some []) results (All-nil (ValueBelow total)) h
  part_below results (Some flows.Passes) items h = tt
  part_below results (Some flows.Goes) items h = tt
  part_below results (Some flows.Traps) items h = tt
  part_below results (Some flows.OpensBlock) items h = tt
  part_below results (Some flows.OpensLoop) items h = tt
  part_below results (Some flows.OpensIf) items h = tt
  part_below results (Some flows.OpensTry) items h = tt
  part_below results (Some flows.OpensTryTable) items h = tt
  part_below results (Some flows.Else) items h = tt
  part_below results (Some flows.Delegate) items h = tt
  part_below results (Some flows.End) items h = tt
  part_below results (Some flows.Branches) items h = tt
  part_below results (Some flows.Chooses) items h = tt
  part_below results (Some flows.Selects) items h = tt
  part_below results (Some flows.Returns) items h = tt
  part_below results (Some flows.Calls) items h = tt
  part_below results (Some flows.CallsIndirectly) items h = tt
  part_below results (Some flows.TailCalls) items h = tt
  part_below results (Some flows.TailCallsIndirectly) items h = tt
  part_below results (Some flows.Throws) items h = tt
  part_below results (Some flows.ThrowsOrTraps) items h = tt
  part_below results (Some flows.Catch) [] h = tt
  part_below results (Some flows.Catch) (Names Tags n ∷ []) h = signature_below (tag_takes types tags n) results (tag_below n) h
  part_below results (Some flows.Catch) (Names Tags n ∷ (x ∷ xs)) h = tt
  part_below results (Some flows.Catch) (Names Types n ∷ xs) h = tt
  part_below results (Some flows.Catch) (Names Functions n ∷ xs) h = tt
  part_below results (Some flows.Catch) (Names Tables n ∷ xs) h = tt
  part_below results (Some flows.Catch) (Names Memories n ∷ xs) h = tt
  part_below results (Some flows.Catch) (Names Globals n ∷ xs) h = tt
  part_below results (Some flows.Catch) (Names ElementSegments n ∷ xs) h = tt
  part_below results (Some flows.Catch) (Names DataSegments n ∷ xs) h = tt
  part_below results (Some flows.Catch) (Names Locals n ∷ xs) h = tt
  part_below results (Some flows.Catch) (Names Labels n ∷ xs) h = tt
  part_below results (Some flows.Catch) (Number n ∷ xs) h = tt
  part_below results (Some flows.Catch) (S32 z ∷ xs) h = tt
  part_below results (Some flows.Catch) (S64 z ∷ xs) h = tt
  part_below results (Some flows.Catch) (Bits size n ∷ xs) h = tt
  part_below results (Some flows.Catch) (Byte b ∷ xs) h = tt
  part_below results (Some flows.Catch) (Bytes run ∷ xs) h = tt
  part_below results (Some flows.Catch) (Heap ty ∷ xs) h = tt
  part_below results (Some flows.Catch) (Block ty ∷ xs) h = tt
  part_below results (Some flows.Catch) (Access a ∷ xs) h = tt
  part_below results (Some flows.Catch) (ManyLabels ns ∷ xs) h = tt
  part_below results (Some flows.Catch) (ManyValues tys ∷ xs) h = tt
  part_below results (Some flows.Catch) (ManyClauses cs ∷ xs) h = tt

  module _ (Good : Name → Type 0) (types_are : (n : ℕ) → Good (Types, n) → n < total) (pick : BlockType → BlockType) (values_stay : (ty : ReadValue) → pick (blocks.Value ty) ≡ blocks.Value ty) where
    abbrev NamesGood : Placed → Type 0
    NamesGood o = AllByRecursion Good (operator_names o.op)

    gives_below : (ty : BlockType) → AllByRecursion Good (item_names (Block (pick ty))) → ResultsBelow total (block_gives types tags ty)
    gives_below blocks.Empty h = All-nil (ValueBelow total)
    gives_below (blocks.Value ty) h = by (value_of ty) (value_below total Good types_are ty (subst (λ (b : BlockType). AllByRecursion Good (item_names (Block b))) (values_stay ty) h))
      where
        by : (o : Option ValType) → IfSome o (ValueBelow total) → ResultsBelow total (option_map (λ v. v ∷ []) o)
        by None b = tt
        by (Some v) b = All-cons (ValueBelow total) v [] b (All-nil (ValueBelow total))
    gives_below (blocks.Type n) h = results_below n

    opened_below : (items : List Item) → AllByRecursion Good (flat_map item_names (map (with_pick pick) items)) → ResultsBelow total (opened_gives types tags (map (with_pick as_it_is) items))
    opened_below [] h = tt
    opened_below (Block ty ∷ xs) h = gives_below ty (all_split Good (item_names (Block (pick ty))) (flat_map item_names (map (with_pick pick) xs)) h).0
    opened_below (Names space n ∷ xs) h = tt
    opened_below (Number n ∷ xs) h = tt
    opened_below (S32 z ∷ xs) h = tt
    opened_below (S64 z ∷ xs) h = tt
    opened_below (Bits size n ∷ xs) h = tt
    opened_below (Byte b ∷ xs) h = tt
    opened_below (Bytes run ∷ xs) h = tt
    opened_below (Heap ty ∷ xs) h = tt
    opened_below (Access a ∷ xs) h = tt
    opened_below (ManyLabels ns ∷ xs) h = tt
    opened_below (ManyValues tys ∷ xs) h = tt
    opened_below (ManyClauses cs ∷ xs) h = tt

    text_below : (t : Tree) (bare dropped : Bool) (results : Option (List ValType)) → ResultsBelow total results → AllByRecursion NamesGood (flat (normal_from pick t bare dropped))
        → AllByRecursion (SignatureBelow total) (text_handles types tags results (normal_from as_it_is t bare dropped))
    text_below (Close o p) true dropped results h k = all_join (SignatureBelow total) (part_handles types tags results (flow_of else_op.code) else_op.items) [] (part_below results (flow_of else_op.code) else_op.items h) tt
    text_below (Close o p) false dropped results h k = tt
    text_below (Arm o p t) bare dropped results h k =
        all_join (SignatureBelow total) (part_handles types tags results (flow_of o.code) o.items) (text_handles types tags results (normal_from as_it_is t false false)) (part_below results (flow_of o.code) o.items h)
        (text_below t false false results h k.1)
    text_below (Skip o p t) bare dropped results h k = text_below t bare dropped results h k
    text_below (Run o p t) bare true results h k = text_below t bare true results h k
    text_below (Run o p t) bare false results h k = text_below t bare (cuts o) results h k.1
    text_below (Nest o p u t) bare true results h k = text_below t bare true results h k
    text_below (Nest o p u t) bare false results h k =
        let inside = normal_from pick u (is_if o) false in
        let both = all_split NamesGood (flat inside) (flat (normal_from pick t bare false)) k.1 in
        let gives = opened_gives types tags (map (with_pick as_it_is) o.items) in
        all_join (SignatureBelow total) (text_handles types tags gives (normal_from as_it_is u (is_if o) false)) (text_handles types tags results (normal_from as_it_is t bare false))
        (text_below u (is_if o) false gives (opened_below o.items k.0) both.0) (text_below t bare false results h both.1)

-- ---- bodies that meet the rules

all_later : {A : Type 0} (P Q : A → Type 0) → ((x : A) → P x → Q x) → (xs : List A) → AllByRecursion P xs → AllByRecursion Q xs
all_later P Q f [] h = tt
all_later P Q f (x ∷ xs) h = (f x h.0, all_later P Q f xs h.1)

module _ (normal : NormalOperatorsAreRuled) (a : Around) (below : GroupsBelow 0 a.filled.groups) where
  abbrev many : ℕ
  many = length (types_of a.filled)

  named : AllByRecursion (KindNames many) (types_of a.filled)
  named = groups_names 0 many a.filled.groups (omega arith) below

  -- it has no place in what is asked here
  nowhere : Option ℕ → ℕ
  nowhere place = 0

  abbrev Good : ℕ → Name → Type 0
  Good locals n = IsThere a locals n.0 (with_numbers (λ k. k) same n.0 n.1)

  unlocated : (locals : ℕ) (ops : List Placed) → AllByRecursion (NamesThere (with_numbers (λ k. k) same) a locals) (map (located nowhere) ops)
      → AllByRecursion (λ (o : Placed). AllByRecursion (Good locals) (operator_names o.op)) ops
  unlocated locals [] h = tt
  unlocated locals (o ∷ ops) h = (h.0, unlocated locals ops h.1)

  body_below : (params : ℕ) (x : grammar.Body) → IsBody a params x → AllByRecursion (SignatureBelow many) (body_handles (types_of a.filled) a.filled.tags x)
  body_below params x h =
      let locals : ℕ = params + length x.locals in
      let ops = normal_ops (block_pick a) (text_of x.operators) in
      let ruled = normal nowhere a locals x.operators below h.operators in
      let there = all_sent same a a locals locals (λ k. k) (λ space n k. k) nowhere ops (Plain ∷ []) ruled
      (all_later (λ (o : Placed). AllByRecursion (λ (n : ℕ). is_used ops n ≡ true) (flat_map local_in o.op.items)) (λ (o : Placed). AllByRecursion (λ (n : ℕ). n < locals → n < locals) (flat_map local_in o.op.items))
      (λ o. all_later (λ (n : ℕ). is_used ops n ≡ true) (λ (n : ℕ). n < locals → n < locals) (λ n _ lt. lt) (flat_map local_in o.op.items)) ops (all_used ops)) in
      text_below many (types_of a.filled) a.filled.tags named (Good locals) (λ n k. k) (block_pick a) (λ ty. refl) (tree_of (text_of x.operators)) false false None tt (unlocated locals ops there)

-- each handler of the file's bodies
module _ (normal : NormalOperatorsAreRuled) (features : WasmFeatures) (counted : Bool) (file : grammar.Module) (below : GroupsBelow 0 file.groups) where
  abbrev a : Around
  a = around_bodies features counted file

  abbrev all : ℕ
  all = length (types_of file)

  bodies_below : (xs : List grammar.Body) → AllByRecursion (λ (x : grammar.Body). AllByRecursion (SignatureBelow all) (body_handles (types_of file) file.tags x)) xs → AllByRecursion (SignatureBelow all) (bodies_handle file xs)
  bodies_below [] h = tt
  bodies_below (x ∷ xs) h = all_join (SignatureBelow all) (body_handles (types_of file) file.tags x) (bodies_handle file xs) h.0 (bodies_below xs h.1)

  abbrev Handles : grammar.Body → Type 0
  Handles x = AllByRecursion (SignatureBelow all) (body_handles (types_of file) file.tags x)

  origin_handles : (params : ℕ) (o : grammar.Origin grammar.Body) → OriginRuled a params o → AllByRecursion Handles (body_if o)
  origin_handles params (grammar.Imported n) h = tt
  origin_handles params (grammar.Own x) h = (body_below normal a below params x h, tt)

  all_handle : (fs : List (Option grammar.Function)) → Each (λ (f : grammar.Function). HasBody a f) fs → AllByRecursion Handles (flat_map function_bodies fs)
  all_handle [] h = tt
  all_handle (None ∷ fs) h = all_handle fs h
  all_handle (Some f ∷ fs) h = all_join Handles (body_if f.origin) (flat_map function_bodies fs) (origin_handles (param_count a.filled f.ty) f.origin h.0) (all_handle fs h.1)

  file_below : Each (λ (f : grammar.Function). HasBody a f) file.functions → AllByRecursion (SignatureBelow all) (bodies_handle file (bodies_of file))
  file_below h = bodies_below (bodies_of file) (all_handle file.functions h)

-- ---- sent to ids

module _ (r : ℕ → ℕ) (m n : ℕ) (ids : (k : ℕ) → k < m → r k < n) where
  heap_sent : (ty : HeapType) → HeapBelow m ty → HeapBelow n (renamed_heap r ty)
  heap_sent (heaps.Abstract ty) h = tt
  heap_sent (heaps.Shared ty) h = tt
  heap_sent (heaps.Concrete k) h = ids k h
  heap_sent (heaps.Exact k) h = ids k h

  value_sent : (ty : ValType) → ValueBelow m ty → ValueBelow n (renamed_value r ty)
  value_sent values.I32 h = tt
  value_sent values.I64 h = tt
  value_sent values.F32 h = tt
  value_sent values.F64 h = tt
  value_sent values.V128 h = tt
  value_sent (values.Ref ty) h = heap_sent ty.heap_type h

  values_sent : (tys : List ValType) → All (ValueBelow m) tys → All (ValueBelow n) (map (renamed_value r) tys)
  values_sent [] h = All-nil (ValueBelow n)
  values_sent (ty ∷ tys) h =
      All-cons (ValueBelow n) (renamed_value r ty) (map (renamed_value r) tys) (value_sent ty (All-head (ValueBelow m) ty tys h)) (values_sent tys (All-tail (ValueBelow m) ty tys h))

  signatures_sent : (ss : List Signature) → AllByRecursion (SignatureBelow m) ss → AllByRecursion (SignatureBelow n) (map (sent r) ss)
  signatures_sent [] h = tt
  signatures_sent (s ∷ ss) h = ((values_sent s.params h.0.0, values_sent s.results h.0.1), signatures_sent ss h.1)

-- ---- those that the file's types don't have

found_none : (b : Bool) (o : Option ℕ) → (not b && is_none o) ≡ true → o ≡ None
found_none true o e = absurd cc
found_none false (Some id) e = absurd cc
found_none false None e = refl

module _ (unfound : UnfoundKindsAreMissing) (groups : List TypeGroup) where
  abbrev t : Table
  t = (merged_types groups).table

  abbrev size : ℕ
  size = length (kinds_of (kept_of groups))

  one_missing : (s : Signature) → SignatureBelow size s → is_missing t s ≡ true → IsMissing groups (kind_of s)
  one_missing s h e = unfound groups s.params s.results ((h.0, h.1), tt) (found_none (is_short s.params s.results) (found_type s.params s.results t) e)

  pub all_missing : (ss : List Signature) → AllByRecursion (SignatureBelow size) ss → AllByRecursion (IsMissing groups) (map kind_of (filter (is_missing t) ss))
  all_missing [] h = tt
  all_missing (s ∷ ss) h = by (is_missing t s) refl (all_missing ss h.1)
    where
      by : (b : Bool) → is_missing t s ≡ b → AllByRecursion (IsMissing groups) (map kind_of (filter (is_missing t) ss))
          → AllByRecursion (IsMissing groups) (map kind_of (cond b (s ∷ filter (is_missing t) ss) (filter (is_missing t) ss)))
      by true e later = (one_missing s h.0 e, later)
      by false e later = later

-- the kinds that the handlers of a file have and its types haven't
pub handlers_missing : NormalOperatorsAreRuled → UnfoundKindsAreMissing → (features : WasmFeatures) (counted : Bool) (file : grammar.Module) → GroupsBelow 0 file.groups
    → ((k : ℕ) → k < length (kinds_of file.groups) → at (ids_of file.groups) k < length (kinds_of (kept_of file.groups))) → Each (λ (f : grammar.Function). HasBody (around_bodies features counted file) f) file.functions
    → AllByRecursion (IsMissing file.groups) (map kind_of (filter (is_missing (merged_types file.groups).table) (map (sent (at (ids_of file.groups))) (bodies_handle file (bodies_of file)))))
handlers_missing normal unfound features counted file below ids bodies =
    all_missing unfound file.groups (map (sent (at (ids_of file.groups))) (bodies_handle file (bodies_of file)))
    (signatures_sent (at (ids_of file.groups)) (length (kinds_of file.groups)) (length (kinds_of (kept_of file.groups))) ids (bodies_handle file (bodies_of file)) (file_below normal features counted file below bodies))

-- the id of a type of the file is that of a merged type
id_below : ParsingCarriesSame → (groups : List TypeGroup) → GroupsBelow 0 groups → (n : ℕ) → n < length (kinds_of groups) → at (ids_of groups) n < length (kinds_of (kept_of groups))
id_below carries groups below n lt =
    let kind = get_some (kinds_of groups) n lt in
    slice_get_within (kinds_of (kept_of groups)) (at (ids_of groups) n) (renamed_kind (at (ids_of groups)) kind.0) (kind_there carries groups below n kind.0 kind.1)

pub read_handlers : NormalOperatorsAreRuled → UnfoundKindsAreMissing → ParsingCarriesSame → ReadModulesMeetRules → HandlersAreMissing
read_handlers normal unfound carries rules features bytes file reads =
    let ruled = rules features bytes file reads in
    handlers_missing normal unfound features true file ruled.groups (id_below carries file.groups ruled.groups) ruled.bodies
