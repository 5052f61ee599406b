-- The locals that a body uses, and those that it declares.
use Rattle.std.specs.Prelude.{◌≡◌, ◌↔◌, ℕ, List, Option, Some, Contains, slice_get}
use Rattle.std.specs.List.{flat_map}
use Rattle.std.specs.Option.{option_map}
use Rattle.wasm_references.specs.wasm_grammar.Modules.{Placed}
use Rattle.wasm_references.specs.wasm_operators.Items.{Locals}
use Rattle.wasm_references.specs.wasm_operators.Names.{operator_names}
use Rattle.wasm_formats.specs.declared.fault.Space.TheVariants as spaces
use Rattle.walrus_walks.specs.Walk.{body_walk}
use Rattle.walrus_walks.specs.walrus_forms.declared.value.ValType.{ValType}
use Rattle.walrus_walks.specs.walrus_instr.walrus_items.declared.local.Local.{Local}
use Rattle.walrus_tree.specs.Trees.{IsTree}
use Rattle.walrus_builder.specs.Functions.{seqs_of}
use Rattle.walrus_marks.specs.Named.{items_of}
use Rattle.walrus_roots.specs.Items.{item}
use Rattle.walrus_meaning.specs.walrus_local_function.declared.local_function.LocalFunction.{LocalFunction}
use Rattle.walrus_meaning.specs.Bodies.{named_locals, own_body, own_operators}

-- the type of a known local
abbrev pub type_of_local : List Local → ℕ → Option ValType
type_of_local locals id = option_map (λ (l : Local). l.ty) (slice_get locals id)

-- an operator of the body names the local
abbrev pub UsesLocal : LocalFunction → ℕ → Type 0
UsesLocal local id = Contains (flat_map (λ (o : Placed). operator_names o.op) (own_operators local)) (Locals, id)

-- the types of the locals that a body declares are those of the known locals that its operators name and that are no arguments
abbrev pub UsedLocalsAreDeclared : Type 0
UsedLocalsAreDeclared = (locals : List Local) (local : LocalFunction) (ty : ValType)
    → Contains (own_body locals local).locals ty ↔ ((id : ℕ) × UsesLocal local id × (Contains local.args.items id → ⊥) × (type_of_local locals id ≡ Some ty))

-- the locals that the walk of a body names, whose sequences form a tree, are named by its operators
abbrev pub WalksNameUsedLocals : Type 0
WalksNameUsedLocals = (local : LocalFunction) → IsTree (seqs_of local.builder) 0 → (id : ℕ)
    → Contains (items_of (body_walk (seqs_of local.builder) 0)) (item spaces.Local id) → Contains (named_locals (own_operators local)) id
