-- No item of an abstract module names a local.
use Rattle.std.proofs.Common.{◌≡◌, ◌∙◌, ◌<◌, ℕ, List, [], ◌∷◌, ◌++◌, map, Option, Some, None, Contains, sym, ap, inl, inr, arith}
use Rattle.std.specs.Prelude.{MatchOption}
use Rattle.std.specs.List.{flat_map}
use Rattle.std.specs.Option.{option_to_list}
use Rattle.wasm_references.specs.wasm_formats.declared.fault.Space.{Space}
use Rattle.wasm_references.specs.wasm_formats.declared.fault.Space.TheVariants as spaces
use Rattle.wasm_references.specs.wasm_grammar.Modules.{Item, Expr, Origin, Imported, Own, Placed, Body, Function, Table, Global, Mode, Passive, Declared, Active, Elements, Functions, Expressions, Element}
use Rattle.wasm_references.specs.wasm_operators.Items as immediates
use Rattle.wasm_references.specs.wasm_operators.declared.block_type.BlockType.{BlockType}
use Rattle.wasm_references.specs.wasm_operators.Operators.{Seen}
use Rattle.wasm_references.specs.wasm_operators.Names.{Name, operator_names, block_names}
use Rattle.wasm_references.specs.References.{Numbered, item, ref_items, value_items, local_items, name_items, names_items, no_locals, expr_items, body_items, origin_items, function_items, init_items, table_items, global_items, tag_items, mode_items, held_items, element_items, segment_items, slot, named_by, HasElement, HasData, RefersIn, Refers}
use Rattle.walrus_walks.specs.walrus_forms.Kinds.{kind_names}
use Rattle.walrus_walks.specs.walrus_forms.Values.{ref_name, value_name}
use Rattle.walrus_walks.specs.walrus_forms.declared.value.RefType.{RefType}
use Rattle.walrus_walks.specs.walrus_forms.declared.value.ValType.{ValType}
use Rattle.walrus_roots.specs.Items.{space_number}
use Rattle.walrus_pass_laws.proofs.Sets.{In, in_of, in_cases, in_map, in_flat}

abbrev pub Low : Item → Type 0
Low z = z.space ≡ spaces.Local → ⊥

abbrev pub AllLow : List Item → Type 0
AllLow zs = (z : Item) → In zs z → Low z

pub low_at : (s : Space) → space_number s < 8 → s ≡ spaces.Local → ⊥
low_at s below e = (let same = ap space_number e in omega (arith, below, same))

is_low : (s : Space) (n : ℕ) → space_number s < 8 → (z : Item) → item s n ≡ z → Low z
is_low s n below z same e = low_at s below (ap (λ (x : Item). x.space) same ∙ e)

one_low : (s : Space) (n : ℕ) → space_number s < 8 → AllLow (item s n ∷ [])
one_low s n below z (inl same) = is_low s n below z same
one_low s n below z (inr h) = absurd h

none_low : AllLow []
none_low z h = absurd h

cat_low : (a b : List Item) → AllLow a → AllLow b → AllLow (a ++ b)
cat_low a b p q z h = elim (in_cases a b z h) as (λ _. Low z) [ inl l ↦ p z l | inr r ↦ q z r ]

map_low : (s : Space) → space_number s < 8 → (ns : List ℕ) → AllLow (map (item s) ns)
map_low s below ns z h = (let r = in_map (item s) ns z h in is_low s r.0 below z r.2)

flat_low : {A : Type 0} (f : A → List Item) → ((x : A) → AllLow (f x)) → (xs : List A) → AllLow (flat_map f xs)
flat_low f each xs z h = (let r = in_flat f xs z h in each r.0 z r.2)

ref_low : (ty : RefType) → AllLow (ref_items ty)
ref_low ty = map_low spaces.«Type» (omega arith) (option_to_list (ref_name ty))

value_low : (ty : ValType) → AllLow (value_items ty)
value_low ty = map_low spaces.«Type» (omega arith) (option_to_list (value_name ty))

pub local_low : (o : Option ValType) → AllLow (local_items o)
local_low (Some ty) = value_low ty
local_low None = none_low

name_low : (locals : ℕ → Option ValType) (s : immediates.Space) (n : ℕ) → AllLow (name_items locals s n)
name_low locals immediates.Types n = one_low spaces.«Type» n (omega arith)
name_low locals immediates.Functions n = one_low spaces.Function n (omega arith)
name_low locals immediates.Tables n = one_low spaces.Table n (omega arith)
name_low locals immediates.Memories n = one_low spaces.Memory n (omega arith)
name_low locals immediates.Tags n = one_low spaces.Tag n (omega arith)
name_low locals immediates.Globals n = one_low spaces.Global n (omega arith)
name_low locals immediates.ElementSegments n = one_low spaces.Element n (omega arith)
name_low locals immediates.DataSegments n = one_low spaces.Data n (omega arith)
name_low locals immediates.Locals n = local_low (locals n)
name_low locals immediates.Labels n = none_low

names_low : (locals : ℕ → Option ValType) (ns : List Name) → AllLow (names_items locals ns)
names_low locals ns = flat_low (λ (n : Name). name_items locals n.0 n.1) (λ n. name_low locals n.0 n.1) ns

expr_low : (ops : Expr) → AllLow (expr_items ops)
expr_low ops = flat_low (λ (op : Seen). names_items no_locals (operator_names op)) (λ op. names_low no_locals (operator_names op)) ops

body_low : (locals : ℕ → Option ValType) (ops : List Placed) (parts : List BlockType) → AllLow (body_items locals ops parts)
body_low locals ops parts = cat_low _ _ (flat_low (λ (o : Placed). names_items locals (operator_names o.op)) (λ o. names_low locals (operator_names o.op)) ops)
    (flat_low (λ (ty : BlockType). names_items locals (block_names ty)) (λ ty. names_low locals (block_names ty)) parts)

origin_low : {A : Type 0} (f : A → List Item) → ((x : A) → AllLow (f x)) → (o : Origin A) → AllLow (origin_items f o)
origin_low f each (Imported i) = none_low
origin_low f each (Own x) = each x

init_low : (o : Option Expr) → AllLow (init_items o)
init_low (Some ops) = expr_low ops
init_low None = none_low

mode_low : (s : Space) → space_number s < 8 → (mode : Mode) → AllLow (mode_items s mode)
mode_low s below (Active into offset) = cat_low (item s into ∷ []) (expr_items offset) (one_low s into below) (expr_low offset)
mode_low s below Passive = none_low
mode_low s below Declared = none_low

held_low : (held : Elements) → AllLow (held_items held)
held_low (Functions ns) = map_low spaces.Function (omega arith) ns
held_low (Expressions ty exprs) = cat_low (ref_items ty) (flat_map expr_items exprs) (ref_low ty) (flat_low expr_items expr_low exprs)

function_low : (locals : ℕ → Option ValType) (parts : List BlockType) (f : Function) → AllLow (function_items locals parts f)
function_low locals parts f =
    let body = λ (b : Body). body_items locals b.operators parts in
    cat_low (item spaces.«Type» f.ty ∷ []) (origin_items body f.origin) (one_low spaces.«Type» f.ty (omega arith)) (origin_low body (λ b. body_low locals b.operators parts) f.origin)

table_low : (t : Table) → AllLow (table_items t)
table_low t = cat_low (ref_items t.element) (init_items t.init) (ref_low t.element) (init_low t.init)

global_low : (g : Global) → AllLow (global_items g)
global_low g = cat_low (value_items g.ty) (origin_items expr_items g.origin) (value_low g.ty) (origin_low expr_items expr_low g.origin)

element_low : (e : Element) → AllLow (element_items e)
element_low e = cat_low (mode_items spaces.Table e.mode) (held_items e.items) (mode_low spaces.Table (omega arith) e.mode) (held_low e.items)

named_low : {A : Type 0} (f : A → List Item) → ((x : A) → AllLow (f x)) → (o : Option A) (z : Item) → Contains (named_by f o) z → Low z
named_low f each None z c = none_low z (in_of [] z c)
named_low f each (Some x) z c = each x z (in_of (f x) z c)

there_low : {A : Type 0} (o : Option A) (z : Item) (P : Type 0) → (P → Low z) → MatchOption o ⊥ (λ x. P) → Low z
there_low None z P low h = absurd h
there_low (Some x) z P low h = low h

types_low : (ns : List ℕ) (z : Item) → Contains (map (item spaces.«Type») ns) z → Low z
types_low ns z c = map_low spaces.«Type» (omega arith) ns z (in_of (map (item spaces.«Type») ns) z c)

refers_low : (v : Numbered) (s : Space) (n : ℕ) (z : Item) → RefersIn v s n z → Low z
refers_low v spaces.«Type» n z (group, kind, is, names) = elim names as (λ _. Low z) [ inl c ↦ types_low (kind_names kind) z c | inr h ↦ types_low group.1 z h.1 ]
refers_low v spaces.Function n z c = named_low (function_items (v.local_type n) (v.parts n)) (function_low (v.local_type n) (v.parts n)) (slot v.filled.functions n) z c
refers_low v spaces.Table n z (inl c) = named_low table_items table_low (slot v.filled.tables n) z c
refers_low v spaces.Table n z (inr h) = there_low (slot v.filled.tables n) z (HasElement v n z) (λ has. is_low spaces.Element has.0 (omega arith) z (sym has.1)) h
refers_low v spaces.Memory n z h = there_low (slot v.filled.memories n) z (HasData v n z) (λ has. is_low spaces.Data has.0 (omega arith) z (sym has.1)) h
refers_low v spaces.Global n z c = named_low global_items global_low (slot v.filled.globals n) z c
refers_low v spaces.Tag n z c = named_low tag_items (λ t. one_low spaces.«Type» t.ty (omega arith)) (slot v.filled.tags n) z c
refers_low v spaces.Element n z c = named_low element_items element_low (slot v.filled.elements n) z c
refers_low v spaces.Data n z c = named_low segment_items (λ d. mode_low spaces.Memory (omega arith) d.mode) (slot v.filled.segments n) z c
refers_low v spaces.Local n z h = absurd h
refers_low v spaces.Label n z h = absurd h

pub named_are_low : (v : Numbered) (x z : Item) → Refers v x z → Low z
named_are_low v x z h = refers_low v x.space x.number z h
