-- How many items of each kind live in a module, and why they aren't told.
use Rattle.std.specs.Prelude.{ℕ, ◌≡◌, ◌⊎◌, List, [], ◌∷◌, not, count_by, sum_by, length, map}
use Rattle.walrus_arena.specs.Arena.{Arena, ids}
use Rattle.walrus_errors.specs.declared.error.ModuleError.{ModuleError}
use Rattle.walrus_errors.specs.declared.error.ModuleError.TheVariants.{Memory, NoTree}
use Rattle.walrus_module.specs.Parts.{Module}
use Rattle.walrus_module.specs.walrus_body_writer.walrus_body_text.Visiting.{text_size}
use Rattle.walrus_module.specs.walrus_builder.Functions.{seqs_of}
use Rattle.walrus_module.specs.walrus_collections.LookUps.{items}
use Rattle.walrus_module.specs.walrus_module_items.declared.function.Function.{Function}
use Rattle.walrus_module.specs.walrus_module_items.declared.function.FunctionKind.{FunctionKind}
use Rattle.walrus_module.specs.walrus_module_items.declared.function.FunctionKind.TheVariants.{Import, Local, Uninitialized}
use Rattle.walrus_module.specs.walrus_tree.Text.{operators}
use Rattle.walrus_module.specs.walrus_tree.Trees.{IsTree}
use Rattle.walrus_module.specs.walrus_types.Items.{Item}
use Rattle.walrus_module.specs.walrus_types.Table as types
use Rattle.inspect_lines.specs.declared.counts.Counts.{Counts}

-- the live types that aren't entry types
abbrev pub type_count : types.Table → ℕ
type_count t = count_by (λ (item : Item). not item.kind.entry) (map (λ e. e.1) (types.entries t))

-- a function's operators, none where it has no body
abbrev pub kind_size : FunctionKind → ℕ
kind_size (Local f) = text_size (operators (seqs_of f.builder) 0)
kind_size (Import imported) = 0
kind_size (Uninitialized ty) = 0

abbrev pub operator_count : Arena Function → ℕ
operator_count a = sum_by (λ (f : Function). kind_size f.kind) (items a)

-- each of the numbers counts the items of its kind, and there are so many operators
pub record AreCountsWith (operators : ℕ) (m : Module) (c : Counts) : Type 0 where
  pub types_are : c.types ≡ type_count m.types
  pub functions_are : c.functions ≡ length (ids m.funcs)
  pub tables_are : c.tables ≡ length (ids m.tables)
  pub memories_are : c.memories ≡ length (ids m.memories)
  pub tags_are : c.tags ≡ length (ids m.tags)
  pub globals_are : c.globals ≡ length (ids m.globals)
  pub elements_are : c.elements ≡ length (ids m.elements)
  pub data_are : c.data ≡ length (ids m.data_segments)
  pub imports_are : c.imports ≡ length (ids m.imports)
  pub exports_are : c.exports ≡ length (ids m.exports)
  pub operators_are : c.operators ≡ operators

-- each of the numbers counts the items of its kind, that of operators those of all bodies
abbrev pub AreCounts : Module → Counts → Type 0
AreCounts m c = AreCountsWith (operator_count m.funcs) m c

-- it has a body whose sequences form no tree
abbrev pub HasNoTree : FunctionKind → Type 0
HasNoTree (Local f) = IsTree (seqs_of f.builder) 0 → ⊥
HasNoTree (Import imported) = ⊥
HasNoTree (Uninitialized ty) = ⊥

-- one of these functions has such a body
abbrev pub HaveNoTree : List Function → Type 0
HaveNoTree [] = ⊥
HaveNoTree (f ∷ rest) = HasNoTree f.kind ⊎ HaveNoTree rest

-- sequences form no tree where this says so, and that memory is wanted says nothing
abbrev pub IsCause : Type 0 → ModuleError → Type 0
IsCause has_no_tree NoTree = has_no_tree
IsCause has_no_tree Memory = Unit {0}
IsCause has_no_tree _ = ⊥
