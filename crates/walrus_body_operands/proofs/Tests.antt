-- Lemmas: what is asked of operators, family by family.
use Rattle.std.specs.Prelude.{ℕ, ◌≡◌, ◌==◌, ◌||◌, nat_lt, Bool, true, false, not, List, [], ◌∷◌, ◌++◌, length, map, Option, Some, None, refl}
use Rattle.std.specs.List.{list_any, list_all, flat_map}
use Rattle.std.specs.Option.{is_some}
use Rattle.std.proofs.Common.{ap, sym, ◌∙◌}
use Rattle.std.proofs.lemmas.List.{append-nil}
use Rattle.wasm_ref_types.specs.declared.heap.HeapType.{HeapType}
use Rattle.wasm_ref_types.specs.declared.heap.HeapType.TheVariants.{Abstract, Concrete, Exact}
use Rattle.wasm_ref_types.specs.declared.index.UnpackedIndex.{UnpackedIndex}
use Rattle.wasm_ref_types.specs.declared.index.UnpackedIndex.TheVariants.{Module, RecGroup, Id}
use Rattle.wasm_ref_types.specs.declared.value.ValType.{ValType}
use Rattle.wasm_ref_types.specs.declared.value.ValType.TheVariants.{I32, I64, F32, F64, V128, Ref}
use Rattle.wasm_operators.specs.declared.block_type.BlockType.{BlockType}
use Rattle.wasm_operators.specs.declared.block_type.BlockType.TheVariants as blocks
use Rattle.wasm_operators.specs.declared.clause.Clause.{Clause}
use Rattle.wasm_operators.specs.declared.clause.Clause.TheVariants as clauses
use Rattle.wasm_operators.specs.Items.{Space, Types, Labels, Names, Byte, Heap, Block, ManyLabels, ManyValues, ManyClauses}
use Rattle.wasm_operators.specs.declared.op_code.OpCode.{OpCode}
use Rattle.wasm_operators.specs.Operators.{Seen}
use Rattle.walrus_pairing.specs.wasm_operators.Names.{Name, index_names, heap_names, value_names, block_names, clause_names, label_name, operator_names}
use Rattle.wasm_formats.specs.declared.fault.Space.TheVariants as spaces
use Rattle.wasm_formats.specs.declared.fault.Form.TheVariants as unsupported
use Rattle.wasm_formats.specs.Stops.{Trouble, Index, Position, Unsupported}
use Rattle.walrus_body_steps.specs.wasm_grammar.TypeWords.{value_of}
use Rattle.walrus_body_steps.specs.wasm_grammar.Values.{must, first_of}
use Rattle.walrus_body_steps.specs.wasm_body_grammar.Rules.{names_test, space_of, is_segment, first_in, select_rule, words_rule}
use Rattle.walrus_body_steps.specs.walrus_body_rules.Sights.{Sight, room}
use Rattle.walrus_body_steps.specs.walrus_body_rules.Rules.{block_test, form_rule, data_test, access_rule, items_test}
use Rattle.walrus_body_operands.specs.Asked.{named, label_test, tests_of, clause_test, value_named, heap_test, written_test, select_test, cast_test, try_test}

-- ---- the first of troubles

pub first_none : (t : Option Trouble) → first_of t None ≡ t
first_none None = refl
first_none (Some x) = refl

pub first_assoc : (a b c : Option Trouble) → first_of (first_of a b) c ≡ first_of a (first_of b c)
first_assoc None b c = refl
first_assoc (Some x) b c = refl

names_append : (f : Space → ℕ) (a b : List Name) → names_test f (a ++ b) ≡ first_of (names_test f a) (names_test f b)
names_append f [] b = refl
names_append f (n ∷ ns) b =
    let t = must (nat_lt n.1 (f n.0)) (Index (space_of n.0)) in
    ap (λ (u : Option Trouble). first_of t u) (names_append f ns b) ∙ sym (first_assoc t (names_test f ns) (names_test f b))

-- ---- names of no data segment ask for no data count

abbrev pub Free : List Name → Type 0
Free [] = Unit {0}
Free (n ∷ ns) = (is_segment n.0 ≡ false) × Free ns

free_join : (a b : List Name) → Free a → Free b → Free (a ++ b)
free_join [] b h k = k
free_join (n ∷ ns) b h k = (h.0, free_join ns b h.1 k)

any_free : (ns : List Name) → Free ns → list_any (λ (n : Name). is_segment n.0) ns ≡ false
any_free [] h = refl
any_free (n ∷ ns) h = rw h.0 (any_free ns h.1)

pub uncounted : (has any : Bool) → any ≡ false → must (has || not any) Position ≡ None
uncounted true any e = refl
uncounted false any e = rw e refl

pub items_are : (s : Sight) (labels : ℕ) (op : Seen) → Free (operator_names op)
    → items_test s labels op ≡ first_of (names_test (room s labels) (operator_names op)) (first_of (first_in (form_rule s) op.items) (first_of (first_in select_rule op.items) (first_of (first_in words_rule op.items) (first_in (access_rule s) op.items))))
items_are s labels op free =
    let n = names_test (room s labels) (operator_names op) in
    let f = first_in (form_rule s) op.items in
    let c = first_in select_rule op.items in
    let w = first_in words_rule op.items in
    let a = first_in (access_rule s) op.items in
    let none : data_test s (operator_names op) ≡ None = uncounted s.has_data_count (list_any (λ (n : Name). is_segment n.0) (operator_names op)) (any_free (operator_names op) free) in
    ap (λ (t : Option Trouble). first_of n (first_of f (first_of t (first_of c (first_of w (first_of a None)))))) none
    ∙ ap (λ (t : Option Trouble). first_of n (first_of f (first_of c (first_of w t)))) (first_none a)

-- ---- names of types alone

abbrev TypesOnly : List Name → Type 0
TypesOnly [] = Unit {0}
TypesOnly (n ∷ ns) = (n.0 ≡ Types) × TypesOnly ns

types_join : (a b : List Name) → TypesOnly a → TypesOnly b → TypesOnly (a ++ b)
types_join [] b h k = k
types_join (n ∷ ns) b h k = (h.0, types_join ns b h.1 k)

types_free : (ns : List Name) → TypesOnly ns → Free ns
types_free [] h = tt
types_free (n ∷ ns) h = (ap is_segment h.0, types_free ns h.1)

types_named : (s : Sight) (labels : ℕ) (ns : List Name) → TypesOnly ns → names_test (room s labels) ns ≡ named s ns
types_named s labels [] h = refl
types_named s labels (n ∷ ns) h = rw h.0 (ap (λ (t : Option Trouble). first_of (must (nat_lt n.1 (length s.ids.types)) (Index spaces.Type)) t) (types_named s labels ns h.1))

index_only : (i : UnpackedIndex) → TypesOnly (index_names i)
index_only (Module n) = (refl, tt)
index_only (RecGroup n) = tt
index_only (Id id) = tt

heap_only : (ty : HeapType) → TypesOnly (heap_names ty)
heap_only (Abstract shared ty) = tt
heap_only (Concrete i) = index_only i
heap_only (Exact i) = index_only i

value_only : (ty : ValType) → TypesOnly (value_names ty)
value_only I32 = tt
value_only I64 = tt
value_only F32 = tt
value_only F64 = tt
value_only V128 = tt
value_only (Ref ty) = heap_only ty.heap_type

block_only : (ty : BlockType) → TypesOnly (block_names ty)
block_only blocks.Empty = tt
block_only (blocks.Value ty) = value_only ty
block_only (blocks.Type n) = (refl, tt)

-- and nothing behind them
last_named : (s : Sight) (labels : ℕ) (ns : List Name) → TypesOnly ns → names_test (room s labels) (ns ++ []) ≡ named s ns
last_named s labels ns only = ap (names_test (room s labels)) (append-nil ns) ∙ types_named s labels ns only

last_free : (ns : List Name) → TypesOnly ns → Free (ns ++ [])
last_free ns only = free_join ns [] (types_free ns only) tt

-- ---- operators of one item

pub block_tests : (s : Sight) (labels : ℕ) (code : OpCode) (ty : BlockType) → items_test s labels (record { code = code; items = Block ty ∷ [] }) ≡ written_test s ty
block_tests s labels code ty =
    let b = block_test s ty in
    let w = words_rule (Block ty) in
    let n = named s (block_names ty) in
    items_are s labels (record { code = code; items = Block ty ∷ [] }) (last_free (block_names ty) (block_only ty))
    ∙ ap (λ (t : Option Trouble). first_of t (first_of (first_of b None) (first_of (first_of w None) None))) (last_named s labels (block_names ty) (block_only ty))
    ∙ ap (λ (t : Option Trouble). first_of n (first_of t (first_of (first_of w None) None))) (first_none b)
    ∙ ap (λ (t : Option Trouble). first_of n (first_of b t)) (first_none (first_of w None) ∙ first_none w)

pub heap_tests : (s : Sight) (labels : ℕ) (code : OpCode) (ty : HeapType) → items_test s labels (record { code = code; items = Heap ty ∷ [] }) ≡ heap_test s ty
heap_tests s labels code ty =
    let w = words_rule (Heap ty) in
    items_are s labels (record { code = code; items = Heap ty ∷ [] }) (last_free (heap_names ty) (heap_only ty))
    ∙ ap (λ (t : Option Trouble). first_of t (first_of (first_of w None) None)) (last_named s labels (heap_names ty) (heap_only ty))
    ∙ ap (λ (t : Option Trouble). first_of (named s (heap_names ty)) t) (first_none (first_of w None) ∙ first_none w)

values_only : (tys : List ValType) → TypesOnly (flat_map value_names tys)
values_only [] = tt
values_only (ty ∷ tys) = types_join (value_names ty) (flat_map value_names tys) (value_only ty) (values_only tys)

values_named : (s : Sight) (tys : List ValType) → named s (flat_map value_names tys) ≡ tests_of (value_named s) tys
values_named s [] = refl
values_named s (ty ∷ tys) = names_append (room s 0) (value_names ty) (flat_map value_names tys) ∙ ap (λ (t : Option Trouble). first_of (value_named s ty) t) (values_named s tys)

pub select_tests : (s : Sight) (labels : ℕ) (code : OpCode) (tys : List ValType) → items_test s labels (record { code = code; items = ManyValues tys ∷ [] }) ≡ select_test s tys
select_tests s labels code tys =
    let one = must (length tys == 1) (Unsupported unsupported.Select) in
    let w = must (list_all (λ (ty : ValType). is_some (value_of ty)) tys) (Unsupported unsupported.SharedType) in
    let ns = flat_map value_names tys in
    items_are s labels (record { code = code; items = ManyValues tys ∷ [] }) (last_free ns (values_only tys))
    ∙ ap (λ (t : Option Trouble). first_of t (first_of (first_of one None) (first_of (first_of w None) None))) (last_named s labels ns (values_only tys) ∙ values_named s tys)
    ∙ ap (λ (t : Option Trouble). first_of (tests_of (value_named s) tys) (first_of t (first_of (first_of w None) None))) (first_none one)
    ∙ ap (λ (t : Option Trouble). first_of (tests_of (value_named s) tys) (first_of one t)) (first_none (first_of w None) ∙ first_none w)

-- ---- operators with labels

pub label_tests : (s : Sight) (labels : ℕ) (code : OpCode) (n : ℕ) → items_test s labels (record { code = code; items = Names Labels n ∷ [] }) ≡ must (nat_lt n labels) (Index spaces.Label)
label_tests s labels code n =
    let t = must (nat_lt n labels) (Index spaces.Label) in
    items_are s labels (record { code = code; items = Names Labels n ∷ [] }) (refl, tt) ∙ first_none (first_of t None) ∙ first_none t

labels_free : (ns : List ℕ) (more : List Name) → Free more → Free (map label_name ns ++ more)
labels_free [] more h = h
labels_free (n ∷ ns) more h = (refl, labels_free ns more h)

labels_named : (s : Sight) (ids : List ℕ) (ns : List ℕ) → names_test (room s (length ids)) (map label_name ns) ≡ tests_of (label_test ids) ns
labels_named s ids [] = refl
labels_named s ids (n ∷ ns) = ap (λ (t : Option Trouble). first_of (label_test ids n) t) (labels_named s ids ns)

pub table_tests : (s : Sight) (ids : List ℕ) (code : OpCode) (ns : List ℕ) (n : ℕ)
    → items_test s (length ids) (record { code = code; items = ManyLabels ns ∷ Names Labels n ∷ [] }) ≡ first_of (tests_of (label_test ids) ns) (label_test ids n)
table_tests s ids code ns n =
    let last = (Labels, n) ∷ [] in
    items_are s (length ids) (record { code = code; items = ManyLabels ns ∷ Names Labels n ∷ [] }) (labels_free ns last (refl, tt))
    ∙ first_none (names_test (room s (length ids)) (map label_name ns ++ last))
    ∙ names_append (room s (length ids)) (map label_name ns) last
    ∙ ap (λ (t : Option Trouble). first_of t (first_of (label_test ids n) None)) (labels_named s ids ns)
    ∙ ap (λ (t : Option Trouble). first_of (tests_of (label_test ids) ns) t) (first_none (label_test ids n))

pub cast_tests : (s : Sight) (ids : List ℕ) (code : OpCode) (b n : ℕ) (from to : HeapType)
    → items_test s (length ids) (record { code = code; items = Byte b ∷ Names Labels n ∷ Heap from ∷ Heap to ∷ [] }) ≡ cast_test s ids n from to
cast_tests s ids code b n from to =
    let l = label_test ids n in
    let x = named s (heap_names from) in
    let y = named s (heap_names to) in
    let v = words_rule (Heap from) in
    let w = words_rule (Heap to) in
    let later = heap_names to ++ [] in
    let both : names_test (room s (length ids)) (heap_names from ++ later) ≡ first_of x y =
    names_append (room s (length ids)) (heap_names from) later ∙ ap (λ (t : Option Trouble). first_of t (names_test (room s (length ids)) later)) (types_named s (length ids) (heap_names from) (heap_only from))
    ∙ ap (λ (t : Option Trouble). first_of x t) (last_named s (length ids) (heap_names to) (heap_only to)) in
    items_are s (length ids) (record { code = code; items = Byte b ∷ Names Labels n ∷ Heap from ∷ Heap to ∷ [] })
    (refl, free_join (heap_names from) later (types_free (heap_names from) (heap_only from)) (last_free (heap_names to) (heap_only to)))
    ∙ ap (λ (t : Option Trouble). first_of (first_of l t) (first_of (first_of v (first_of w None)) None)) both
    ∙ ap (λ (t : Option Trouble). first_of (first_of l (first_of x y)) t) (first_none (first_of v (first_of w None)) ∙ ap (λ (t : Option Trouble). first_of v t) (first_none w))
    ∙ first_assoc l (first_of x y) (first_of v w) ∙ ap (λ (t : Option Trouble). first_of l t) (first_assoc x y (first_of v w))

-- ---- a block with handlers

clause_free : (c : Clause) → Free (clause_names c)
clause_free (clauses.Catch tag n) = (refl, (refl, tt))
clause_free (clauses.CatchRef tag n) = (refl, (refl, tt))
clause_free (clauses.CatchAll n) = (refl, tt)
clause_free (clauses.CatchAllRef n) = (refl, tt)

clauses_free : (cs : List Clause) → Free (flat_map clause_names cs)
clauses_free [] = tt
clauses_free (c ∷ cs) = free_join (clause_names c) (flat_map clause_names cs) (clause_free c) (clauses_free cs)

clauses_named : (s : Sight) (ids : List ℕ) (cs : List Clause) → names_test (room s (length ids)) (flat_map clause_names cs) ≡ tests_of (clause_test s ids) cs
clauses_named s ids [] = refl
clauses_named s ids (c ∷ cs) =
    names_append (room s (length ids)) (clause_names c) (flat_map clause_names cs) ∙ ap (λ (t : Option Trouble). first_of (clause_test s ids c) t) (clauses_named s ids cs)

pub try_tests : (s : Sight) (ids : List ℕ) (code : OpCode) (ty : BlockType) (cs : List Clause)
    → items_test s (length ids) (record { code = code; items = Block ty ∷ ManyClauses cs ∷ [] }) ≡ try_test s ids ty cs
try_tests s ids code ty cs =
    let n = named s (block_names ty) in
    let c = tests_of (clause_test s ids) cs in
    let b = block_test s ty in
    let w = words_rule (Block ty) in
    let ns = flat_map clause_names cs in
    let both : names_test (room s (length ids)) (block_names ty ++ (ns ++ [])) ≡ first_of n c =
    names_append (room s (length ids)) (block_names ty) (ns ++ []) ∙ ap (λ (t : Option Trouble). first_of t (names_test (room s (length ids)) (ns ++ []))) (types_named s (length ids) (block_names ty) (block_only ty))
    ∙ ap (λ (t : Option Trouble). first_of n t) (ap (names_test (room s (length ids))) (append-nil ns) ∙ clauses_named s ids cs) in
    items_are s (length ids) (record { code = code; items = Block ty ∷ ManyClauses cs ∷ [] })
    (free_join (block_names ty) (ns ++ []) (types_free (block_names ty) (block_only ty)) (free_join ns [] (clauses_free cs) tt))
    ∙ ap (λ (t : Option Trouble). first_of t (first_of (first_of b None) (first_of (first_of w None) None))) both
    ∙ ap (λ (t : Option Trouble). first_of (first_of n c) (first_of t (first_of (first_of w None) None))) (first_none b)
    ∙ ap (λ (t : Option Trouble). first_of (first_of n c) (first_of b t)) (first_none (first_of w None) ∙ first_none w)
    ∙ first_assoc n c (first_of b w)
