-- Operators name what their flow asks for, by the rows of the table.
use Rattle.std.proofs.Common.{ℕ, ◌≡◌, ◌==◌, Bool, true, false, ◌&&◌, nat_le, nat_lt, List, [], ◌∷◌, ◌++◌, refl, sym, ap, subst, ◌∙◌, if◌then◌else◌}
use Rattle.std.specs.Prelude.{Option, Some, None}
use Rattle.std.specs.List.{flat_map, list_all}
use Rattle.wasm_features.specs.declared.WasmFeatures.{WasmFeatures}
use Rattle.wasm_ref_types.specs.declared.heap.HeapType.{HeapType}
use Rattle.wasm_ref_types.specs.declared.heap.HeapType.TheVariants.{Abstract, Concrete, Exact}
use Rattle.wasm_ref_types.specs.declared.index.UnpackedIndex.TheVariants.{Module, RecGroup, Id}
use Rattle.wasm_operators.specs.Items.{Labels, Functions, Item, Names, Byte, Heap, ManyLabels, index, below, heap, labels}
use Rattle.wasm_operators.specs.ItemSpellings.{SpellsForms}
use Rattle.wasm_operators.specs.declared.entry.Entry.{Entry}
use Rattle.wasm_operators.specs.declared.entry.Flow.{Flow}
use Rattle.wasm_operators.specs.declared.entry.Flow.TheVariants as flows
use Rattle.wasm_operators.specs.declared.entry.Kind.{Kind}
use Rattle.wasm_operators.specs.declared.entry.Kind.TheVariants as kinds
use Rattle.wasm_operators.specs.Kinds.{forms}
use Rattle.wasm_operators.specs.Table.{Row, find, find_byte, find_code, structure_rows, call_rows, plain_rows, fb_rows, fc_rows, fd_rows, fe_rows}
use Rattle.wasm_operators.specs.Operators.{Seen, is_on, kind_of, allowed, flow_in}
use Rattle.wasm_operators.specs.Names.{Name, heap_names, item_names}
use Rattle.wasm_run_laws.specs.wasm_runs.Programs.{label_in, function_in}
use Rattle.wasm_run_names.specs.Asked.{NamesAsked, OperatorsNameWhatIsAsked}

-- a kind of immediates that has what the flow asks for
abbrev has_asked : Flow → Kind → Bool
has_asked flows.Branches kinds.Label = true
has_asked flows.Branches _ = false
has_asked flows.Chooses kinds.Label = true
has_asked flows.Chooses kinds.Cast = true
has_asked flows.Chooses _ = false
has_asked flows.Delegate kinds.Label = true
has_asked flows.Delegate _ = false
has_asked flows.Selects kinds.BrTable = true
has_asked flows.Selects _ = false
has_asked flows.Calls kinds.Function = true
has_asked flows.Calls _ = false
has_asked flows.TailCalls kinds.Function = true
has_asked flows.TailCalls _ = false
has_asked _ kind = true

-- ---- each row has it

abbrev row_has : Row → Bool
row_has r = has_asked r.entry.flow r.entry.kind

abbrev if_some : Option Entry → Bool
if_some None = true
if_some (Some e) = has_asked e.flow e.kind

if_holds : (x y : Option Entry) → if_some x ≡ true → if_some y ≡ true → (b : Bool) → if_some (if b then x else y) ≡ true
if_holds x y h k true = h
if_holds x y h k false = k

and_parts : (a b : Bool) → (a && b) ≡ true → (a ≡ true) × (b ≡ true)
and_parts true true h = (refl, refl)
and_parts true false h = absurd cc
and_parts false b h = absurd cc

found_has : (rows : List Row) → list_all row_has rows ≡ true → (n : ℕ) → if_some (find rows n) ≡ true
found_has [] h n = refl
found_has (r ∷ rows) h n =
    let parts = and_parts (row_has r) (list_all row_has rows) h in
    if_holds (Some r.entry) (find rows n) parts.0 (found_has rows parts.1 n) (nat_le r.first n && nat_le n r.last)

structure_have : list_all row_has structure_rows ≡ true
unfolding structure_rows
structure_have = refl

call_have : list_all row_has call_rows ≡ true
unfolding call_rows
call_have = refl

plain_have : list_all row_has plain_rows ≡ true
unfolding plain_rows
plain_have = refl

fb_have : list_all row_has fb_rows ≡ true
unfolding fb_rows
fb_have = refl

fc_have : list_all row_has fc_rows ≡ true
unfolding fc_rows
fc_have = refl

fd_have : list_all row_has fd_rows ≡ true
unfolding fd_rows
fd_have = refl

fe_have : list_all row_has fe_rows ≡ true
unfolding fe_rows
fe_have = refl

byte_has : (n : ℕ) → if_some (find_byte n) ≡ true
byte_has n =
    let inner = if_holds (find call_rows n) (find plain_rows n) (found_has call_rows call_have n) (found_has plain_rows plain_have n) (nat_lt n 0x28) in
    if_holds (find structure_rows n) (if nat_lt n 0x28 then find call_rows n else find plain_rows n) (found_has structure_rows structure_have n) inner (nat_lt n 0x10)

code_has : (prefix n : ℕ) → if_some (find_code prefix n) ≡ true
code_has prefix n =
    let fe : Option Entry = if prefix == 0xfe then find fe_rows n else None in
    let fd : Option Entry = if prefix == 0xfd then find fd_rows n else fe in
    let fc : Option Entry = if prefix == 0xfc then find fc_rows n else fd in
    let fb : Option Entry = if prefix == 0xfb then find fb_rows n else fc in
    if_holds (find_byte n) fb (byte_has n)
    (if_holds (find fb_rows n) fc (found_has fb_rows fb_have n)
    (if_holds (find fc_rows n) fd (found_has fc_rows fc_have n)
    (if_holds (find fd_rows n) fe (found_has fd_rows fd_have n) (if_holds (find fe_rows n) None (found_has fe_rows fe_have n) refl (prefix == 0xfe)) (prefix == 0xfd)) (prefix == 0xfc)) (prefix == 0xfb))
    (prefix == 0)

-- ---- what immediates name

abbrev labels_in : List Item → List ℕ
labels_in items = flat_map (λ (n : Name). label_in n.0 n.1) (flat_map item_names items)

abbrev functions_in : List Item → List ℕ
functions_in items = flat_map (λ (n : Name). function_in n.0 n.1) (flat_map item_names items)

many_then_one : (ks : List ℕ) (k : ℕ) → labels_in (ManyLabels ks ∷ Names Labels k ∷ []) ≡ ks ++ k ∷ []
many_then_one [] k = refl
many_then_one (j ∷ ks) k = ap (λ (z : List ℕ). j ∷ z) (many_then_one ks k)

-- heap types name no label
heap_none : (h : HeapType) (ns : List Name) → flat_map (λ (n : Name). label_in n.0 n.1) (heap_names h ++ ns) ≡ flat_map (λ (n : Name). label_in n.0 n.1) ns
heap_none (Abstract shared ty) ns = refl
heap_none (Concrete (Module n)) ns = refl
heap_none (Concrete (RecGroup n)) ns = refl
heap_none (Concrete (Id id)) ns = refl
heap_none (Exact (Module n)) ns = refl
heap_none (Exact (RecGroup n)) ns = refl
heap_none (Exact (Id id)) ns = refl

cast_labels : (b k : ℕ) (h j : HeapType) → labels_in (Byte b ∷ Names Labels k ∷ Heap h ∷ Heap j ∷ []) ≡ k ∷ []
cast_labels b k h j = ap (λ (z : List ℕ). k ∷ z) (heap_none h (heap_names j ++ []) ∙ heap_none j [])

module _ (features : WasmFeatures) where
  -- items of one index, of many labels and one, and of the four immediates of a cast
  one_label : (bytes : List ℕ) (items : List Item) → SpellsForms features (index Labels ∷ []) bytes items → (k : ℕ) × (items ≡ Names Labels k ∷ [])
  one_label bytes items (x, xs, front, later, is, split, first, rest) = (first.0, is ∙ ap (λ (z : List Item). x ∷ z) rest.1 ∙ ap (λ (z : Item). z ∷ []) first.1)

  one_function : (bytes : List ℕ) (items : List Item) → SpellsForms features (index Functions ∷ []) bytes items → (k : ℕ) × (items ≡ Names Functions k ∷ [])
  one_function bytes items (x, xs, front, later, is, split, first, rest) = (first.0, is ∙ ap (λ (z : List Item). x ∷ z) rest.1 ∙ ap (λ (z : Item). z ∷ []) first.1)

  one_heap : (bytes : List ℕ) (items : List Item) → SpellsForms features (heap ∷ []) bytes items → (h : HeapType) × (items ≡ Heap h ∷ [])
  one_heap bytes items (x, xs, front, later, is, split, first, rest) = (first.0, is ∙ ap (λ (z : List Item). x ∷ z) rest.1 ∙ ap (λ (z : Item). z ∷ []) first.1)

  two_heaps : (bytes : List ℕ) (items : List Item) → SpellsForms features (heap ∷ heap ∷ []) bytes items → (h j : HeapType) × (items ≡ Heap h ∷ Heap j ∷ [])
  two_heaps bytes items (x, xs, front, later, is, split, first, rest) =
      let more = one_heap later xs rest in (first.0, more.0, is ∙ ap (λ (z : List Item). x ∷ z) more.1 ∙ ap (λ (z : Item). z ∷ Heap more.0 ∷ []) first.1)

  label_and_heaps : (bytes : List ℕ) (items : List Item) → SpellsForms features (index Labels ∷ heap ∷ heap ∷ []) bytes items → (k : ℕ) × (h j : HeapType) × (items ≡ Names Labels k ∷ Heap h ∷ Heap j ∷ [])
  label_and_heaps bytes items (x, xs, front, later, is, split, first, rest) =
      let more = two_heaps later xs rest in
      (first.0, more.0, more.1, is ∙ ap (λ (z : List Item). x ∷ z) more.2 ∙ ap (λ (z : Item). z ∷ Heap more.0 ∷ Heap more.1 ∷ []) first.1)

  of_cast : (bytes : List ℕ) (items : List Item) → SpellsForms features (below 4 ∷ index Labels ∷ heap ∷ heap ∷ []) bytes items → (k : ℕ) × (labels_in items ≡ k ∷ [])
  of_cast bytes items (x, xs, front, later, is, split, first, rest) =
      let more = label_and_heaps later xs rest in
      (more.0, ap labels_in (is ∙ ap (λ (z : List Item). x ∷ z) more.3 ∙ ap (λ (z : Item). z ∷ Names Labels more.0 ∷ Heap more.1 ∷ Heap more.2 ∷ []) first.1) ∙ cast_labels first.0 more.0 more.1 more.2)

  of_table : (bytes : List ℕ) (items : List Item) → SpellsForms features (labels ∷ index Labels ∷ []) bytes items → (ks : List ℕ) × (k : ℕ) × (labels_in items ≡ ks ++ k ∷ [])
  of_table bytes items (x, xs, front, later, is, split, first, rest) =
      let more = one_label later xs rest in
      (first.0, more.0, ap labels_in (is ∙ ap (λ (z : List Item). x ∷ z) more.1 ∙ ap (λ (z : Item). z ∷ Names Labels more.0 ∷ []) first.1) ∙ many_then_one first.0 more.0)

  of_label : (bytes : List ℕ) (items : List Item) → SpellsForms features (index Labels ∷ []) bytes items → (k : ℕ) × (labels_in items ≡ k ∷ [])
  of_label bytes items h = let it = one_label bytes items h in (it.0, ap labels_in it.1)

  of_function : (bytes : List ℕ) (items : List Item) → SpellsForms features (index Functions ∷ []) bytes items → (k : ℕ) × (functions_in items ≡ k ∷ [])
  of_function bytes items h = let it = one_function bytes items h in (it.0, ap functions_in it.1)

  asked : (flow : Flow) (kind : Kind) → has_asked flow kind ≡ true → (op : Seen) (bytes : List ℕ) → SpellsForms features (forms kind) bytes op.items → NamesAsked (Some flow) op
  asked flows.Branches kinds.Label e op bytes h = of_label bytes op.items h
  asked flows.Branches _ e op bytes h = absurd cc
  asked flows.Chooses kinds.Label e op bytes h = of_label bytes op.items h
  asked flows.Chooses kinds.Cast e op bytes h = of_cast bytes op.items h
  asked flows.Chooses _ e op bytes h = absurd cc
  asked flows.Delegate kinds.Label e op bytes h = of_label bytes op.items h
  asked flows.Delegate _ e op bytes h = absurd cc
  asked flows.Selects kinds.BrTable e op bytes h = of_table bytes op.items h
  asked flows.Selects _ e op bytes h = absurd cc
  asked flows.Calls kinds.Function e op bytes h = of_function bytes op.items h
  asked flows.Calls _ e op bytes h = absurd cc
  asked flows.TailCalls kinds.Function e op bytes h = of_function bytes op.items h
  asked flows.TailCalls _ e op bytes h = absurd cc
  asked _ kind e op bytes h = tt

  gated : (on : Bool) (a b : Kind) → (if on then Some a else None) ≡ Some b → a ≡ b
  gated true a b e = cc
  gated false a b e = absurd cc

  listed : (o : Option Entry) → if_some o ≡ true → (kind : Kind) → allowed features o ≡ Some kind → (op : Seen) (bytes : List ℕ) → SpellsForms features (forms kind) bytes op.items → NamesAsked (flow_in o) op
  listed None has kind e op bytes h = absurd cc
  listed (Some entry) has kind e op bytes h =
      let same : entry.kind ≡ kind = gated (is_on features entry.gate) entry.kind kind e in
      asked entry.flow entry.kind has op bytes (subst (λ (k : Kind). SpellsForms features (forms k) bytes op.items) (sym same) h)

pub operators_name_what_is_asked : OperatorsNameWhatIsAsked
unfolding kind_of
operators_name_what_is_asked features bytes op h = listed features (find_code op.code.prefix op.code.number) (code_has op.code.prefix op.code.number) h.kind h.listed op h.later h.items
