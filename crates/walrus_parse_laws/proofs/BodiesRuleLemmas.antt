-- Lemmas: a body's operators name what is there, and so do the picks for its block types.
use Rattle.std.specs.Prelude.{ℕ, ◌≡◌, ◌<◌, ◌≤◌, ◌+◌, ◌&&◌, Bool, true, false, nat_lt, List, [], ◌∷◌, ◌++◌, length, Option, Some, None, IfSome, option_to_list, slice_get, refl, if◌then◌else◌}
use Rattle.std.specs.List.{cons_option, flat_map}
use Rattle.std.specs.Option.{option_map, unwrap_or}
use Rattle.std.proofs.Common.{arith, inl}
use Rattle.std.proofs.lemmas.Bool.{ltb-true}
use Rattle.std.proofs.lemmas.List.{length-append}
use Rattle.walrus_named_bodies.specs.walrus_file_bodies.walrus_body_trees.walrus_body_nesting.wasm_body_grammar.Frames.{Frame, turned}
use Rattle.walrus_named_bodies.specs.walrus_file_bodies.walrus_body_trees.walrus_body_nesting.wasm_body_grammar.Bodies.{frames_of}
use Rattle.walrus_named_bodies.specs.walrus_file_bodies.walrus_body_trees.walrus_body_nesting.wasm_body_grammar.Rules.{Around, found_in, latest_from, leads, names_test, pick, room, serves, space_of}
use Rattle.walrus_named_bodies.specs.walrus_file_bodies.walrus_body_trees.walrus_body_nesting.wasm_body_grammar.wasm_formats.Stops.{Index}
use Rattle.walrus_named_bodies.specs.walrus_file_bodies.walrus_body_trees.walrus_body_nesting.wasm_body_grammar.wasm_formats.declared.fault.Space.TheVariants as spaces
use Rattle.walrus_named_bodies.specs.walrus_file_bodies.walrus_body_trees.walrus_body_nesting.wasm_body_grammar.wasm_grammar.Modules as grammar
use Rattle.walrus_named_bodies.specs.walrus_file_bodies.walrus_body_trees.walrus_body_nesting.wasm_body_grammar.wasm_grammar.States.{count_of, types_of}
use Rattle.walrus_named_bodies.specs.walrus_file_bodies.walrus_body_trees.walrus_body_nesting.wasm_body_grammar.wasm_grammar.TypeWords.{value_from}
use Rattle.walrus_named_bodies.specs.walrus_file_bodies.walrus_body_trees.walrus_body_nesting.wasm_body_grammar.wasm_grammar.Values.{must}
use Rattle.wasm_operators.specs.Items.{Space, Types, Functions, Tables, Memories, Tags, Globals, ElementSegments, DataSegments, Locals, Labels}
use Rattle.wasm_operators.specs.declared.block_type.BlockType.{BlockType}
use Rattle.wasm_operators.specs.declared.block_type.BlockType.TheVariants as blocks
use Rattle.walrus_named_bodies.specs.walrus_file_bodies.walrus_items_into.wasm_module_rules.Keeps.{first_none, must_holds}
use Rattle.wasm_operators.specs.Names.{Name, block_names, operator_names, value_names}
use Rattle.walrus_named_bodies.specs.walrus_file_bodies.walrus_body_trees.walrus_body_nesting.wasm_body_grammar.wasm_operators.Operators.{flow_of}
use Rattle.wasm_import_links.specs.wasm_ruled_modules.Rules.{AreBelow, AreOperators, GroupsBelow}
use Rattle.walrus_named_bodies.specs.walrus_file_bodies.walrus_items_into.walrus_module_env.wasm_run_names.Picks.{block_pick, form_pick, kind_pick}
use Rattle.walrus_forms.proofs.RenamingLemmas.{In, kinds-below}
use Rattle.walrus_forms.specs.Forms.{Form, FunctionForm, StructForm, ArrayForm, form_names}
use Rattle.walrus_forms.specs.Kinds.{Kind, kind_names}
use Rattle.walrus_forms.specs.Records.{TypeGroup}
use Rattle.walrus_forms.specs.Values.{heap_name, value_name}
use Rattle.walrus_forms.specs.declared.value.HeapType.{HeapType}
use Rattle.walrus_forms.specs.declared.value.HeapType.TheVariants.{Abstract, Shared, Concrete, Exact}
use Rattle.walrus_forms.specs.declared.value.ValType.{ValType}
use Rattle.walrus_forms.specs.declared.value.ValType.TheVariants.{I32, I64, F32, F64, V128, Ref}
use Rattle.walrus_parse_laws.proofs.ListLemmas.{AllOf, all_at, all_join}

-- a number of the space is one of the module's; labels and locals aside
abbrev pub InRange : grammar.Module → Space → ℕ → Type 0
InRange m Locals n = Unit {0}
InRange m Labels n = Unit {0}
InRange m space n = n < count_of m (space_of space)

abbrev pub NameInRange : grammar.Module → Name → Type 0
NameInRange m name = InRange m name.0 name.1

-- ---- what rules ask

in_room : (a : Around) (locals labels : ℕ) (space : Space) (n : ℕ) → nat_lt n (room a locals labels space) ≡ true → InRange a.filled space n
in_room a locals labels Types n e = ltb-true n (count_of a.filled spaces.«Type») e
in_room a locals labels Functions n e = ltb-true n (count_of a.filled spaces.Function) e
in_room a locals labels Tables n e = ltb-true n (count_of a.filled spaces.Table) e
in_room a locals labels Memories n e = ltb-true n (count_of a.filled spaces.Memory) e
in_room a locals labels Tags n e = ltb-true n (count_of a.filled spaces.Tag) e
in_room a locals labels Globals n e = ltb-true n (count_of a.filled spaces.Global) e
in_room a locals labels ElementSegments n e = ltb-true n (count_of a.filled spaces.Element) e
in_room a locals labels DataSegments n e = ltb-true n (count_of a.filled spaces.Data) e
in_room a locals labels Locals n e = tt
in_room a locals labels Labels n e = tt

names_in_range : (a : Around) (locals labels : ℕ) (names : List Name) → names_test (room a locals labels) names ≡ None → AllOf (NameInRange a.filled) names
names_in_range a locals labels [] e = tt
names_in_range a locals labels (n ∷ names) e =
    let both = first_none (must (nat_lt n.1 (room a locals labels n.0)) (Index (space_of n.0))) (names_test (room a locals labels) names) e in
    (in_room a locals labels n.0 n.1 (must_holds (nat_lt n.1 (room a locals labels n.0)) (Index (space_of n.0)) both.0), names_in_range a locals labels names both.1)

pub operators_in_range : (a : Around) (locals : ℕ) (frames : List Frame) (ops : List grammar.Placed) → AreOperators a locals frames ops
    → AllOf (λ (o : grammar.Placed). AllOf (NameInRange a.filled) (operator_names o.op)) ops
operators_in_range a locals frames [] h = tt
operators_in_range a locals frames (o ∷ ops) h =
    (names_in_range a locals _ (operator_names o.op) (first_none _ _ h.1).0, operators_in_range a locals (frames_of (turned (flow_of o.op.code) frames) frames) ops h.2)

-- ---- types name types that are there

abbrev kinds_of : List TypeGroup → List Kind
kinds_of groups = flat_map (λ (g : TypeGroup). g.kinds) groups

-- these are below this number
abbrev pub NamesBelow : ℕ → List ℕ → Type 0
NamesBelow end ns = (n : ℕ) → In n ns → n < end

-- each kind names types below it
abbrev pub KindsBelow : ℕ → List Kind → Type 0
KindsBelow end = AllOf (λ (k : Kind). NamesBelow end (kind_names k))

kinds_more : (end more : ℕ) → end ≤ more → (ks : List Kind) → AreBelow end ks → KindsBelow more ks
kinds_more end more le [] h = tt
kinds_more end more le (k ∷ ks) h = (λ n i. (let less = kinds-below k end h.0 n i in omega (arith, le, less)), kinds_more end more le ks h.1)

pub groups_below : (groups : List TypeGroup) (n end : ℕ) → n + length (kinds_of groups) ≤ end → GroupsBelow n groups → KindsBelow end (kinds_of groups)
groups_below [] n end le h = tt
groups_below (g ∷ groups) n end le h =
    let size : length (kinds_of (g ∷ groups)) ≡ length g.kinds + length (kinds_of groups) = length-append g.kinds (kinds_of groups) in
    all_join (λ (k : Kind). NamesBelow end (kind_names k)) g.kinds (kinds_of groups)
    (kinds_more (n + length g.kinds) end (omega (arith, le, size)) g.kinds h.0)
    (groups_below groups (n + length g.kinds) end (omega (arith, le, size)) h.1)

-- ---- picks

heap_in : (m : grammar.Module) (nullable : Bool) (heap : HeapType) (rest : List ℕ) → NamesBelow (length (types_of m)) (cons_option (heap_name heap) [] ++ rest)
    → AllOf (NameInRange m) (value_names (value_from (Ref (record { nullable = nullable; heap_type = heap }))))
heap_in m nullable (Abstract ty) rest h = tt
heap_in m nullable (Shared ty) rest h = tt
heap_in m nullable (Concrete n) rest h = (h n (inl refl), tt)
heap_in m nullable (Exact n) rest h = (h n (inl refl), tt)

value_in : (m : grammar.Module) (ty : ValType) (rest : List ℕ) → NamesBelow (length (types_of m)) (cons_option (value_name ty) [] ++ rest) → AllOf (NameInRange m) (value_names (value_from ty))
value_in m I32 rest h = tt
value_in m I64 rest h = tt
value_in m F32 rest h = tt
value_in m F64 rest h = tt
value_in m V128 rest h = tt
value_in m (Ref ty) rest h = heap_in m ty.nullable ty.heap_type rest h

latest_within : (test : ℕ → Kind → Bool) (rest : List Kind) (n end : ℕ) (found : Option ℕ) → n + length rest ≤ end → IfSome found (λ k. k < end) → IfSome (latest_from test n found rest) (λ k. k < end)
latest_within test [] n end found le h = h
latest_within test (kind ∷ rest) n end found le h =
    latest_within test rest (n + 1) end (if test n kind then Some n else found) (omega (arith, le)) (either (test n kind))
  where
    either : (b : Bool) → IfSome (if b then Some n else found) (λ k. k < end)
    either true = omega (arith, le)
    either false = h

module _ (a : Around) (below : KindsBelow (length (types_of a.filled)) (types_of a.filled)) where
  abbrev Fits : BlockType → Type 0
  Fits ty = AllOf (NameInRange a.filled) (block_names ty)

  of_found : (ty : BlockType) (o : Option ℕ) → Fits ty → IfSome o (λ k. k < length (types_of a.filled)) → Fits (unwrap_or (option_map blocks.Type o) ty)
  of_found ty None h k = h
  of_found ty (Some n) h k = (k, tt)

  found_fits : (ty : BlockType) (params results : List ValType) → Fits ty → Fits (unwrap_or (option_map blocks.Type (found_in a.same params results (types_of a.filled))) ty)
  found_fits ty params results h =
      of_found ty (found_in a.same params results (types_of a.filled)) h
      (latest_within (λ n kind. leads a.same n && serves a.same params results kind) (types_of a.filled) 0 (length (types_of a.filled)) None (omega arith) tt)

  pick_fits : (ty : BlockType) (params results : List ValType) (rest : List ℕ) → Fits ty → NamesBelow (length (types_of a.filled)) (form_names (FunctionForm params results) ++ rest) → Fits (unwrap_or (pick a params results) ty)
  pick_fits ty [] [] rest h k = tt
  pick_fits ty [] (x ∷ []) rest h k = value_in a.filled x rest k
  pick_fits ty [] (x ∷ (y ∷ zs)) rest h k = found_fits ty [] (x ∷ (y ∷ zs)) h
  pick_fits ty (x ∷ xs) results rest h k = found_fits ty (x ∷ xs) results h

  form_fits : (ty : BlockType) (form : Form) (rest : List ℕ) → Fits ty → NamesBelow (length (types_of a.filled)) (form_names form ++ rest) → Fits (form_pick a ty form)
  form_fits ty (FunctionForm params results) rest h k = pick_fits ty params results rest h k
  form_fits ty (StructForm fields) rest h k = h
  form_fits ty (ArrayForm field) rest h k = h

  kind_fits : (n : ℕ) (o : Option Kind) → slice_get (types_of a.filled) n ≡ o → Fits (blocks.Type n) → Fits (kind_pick a (blocks.Type n) o)
  kind_fits n None e h = h
  kind_fits n (Some kind) e h = form_fits (blocks.Type n) kind.form (option_to_list kind.supertype) h (all_at (λ (k : Kind). NamesBelow (length (types_of a.filled)) (kind_names k)) (types_of a.filled) n kind below e)

  fits : (ty : BlockType) → Fits ty → Fits (block_pick a ty)
  fits blocks.Empty h = h
  fits (blocks.Value ty) h = h
  fits (blocks.Type n) h = kind_fits n (slice_get (types_of a.filled) n) refl h

-- the pick for a block type names what is there, as that does
pub picks_in_range : (a : Around) → GroupsBelow 0 a.filled.groups → (ty : BlockType) → AllOf (NameInRange a.filled) (block_names ty) → AllOf (NameInRange a.filled) (block_names (block_pick a ty))
picks_in_range a below ty h = fits a (groups_below a.filled.groups 0 (length (types_of a.filled)) (omega arith) below) ty h
