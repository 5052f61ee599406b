-- A module as it stands in a file, and what the sections that are due to it leave: its state, bodies aside.
use Rattle.std.specs.Prelude.{ℕ, ◌≡◌, ◌+◌, ◌++◌, Bool, true, false, List, [], ◌∷◌, length, map, drop, Option, Some, None, slice_index_or}
use Rattle.std.specs.List.{AllByRecursion}
use Rattle.wasm_formats.specs.declared.fault.Space.{Space}
use Rattle.wasm_formats.specs.declared.fault.Space.TheVariants as spaces
use Rattle.wasm_grammar.specs.Modules.{Expr, Imported, Own, Body, Function, Table, Memory, Tag, Global, Element, Segment, Import, Export, Custom, Module}
use Rattle.wasm_ruled_modules.specs.Rules.{bare}
use Rattle.wasm_sections.specs.Modules.{state_of}
use Rattle.wasm_section_bytes.specs.Files.{bodies_of}
use Rattle.wasm_section_bytes.specs.Flags.{IsNotDeclared}
use Rattle.wasm_module_bytes.specs.Due.{IsExported, IsWritten}
use Rattle.wasm_canonical.specs.Due.{items_in, sections_due}

-- ---- imports come first in each space

-- how many imports there are, and how many items of each space these bring
pub record Counts : Type 0 where
  pub imports : ℕ
  pub functions : ℕ
  pub tables : ℕ
  pub memories : ℕ
  pub tags : ℕ
  pub globals : ℕ

abbrev pub none_brought : Counts
none_brought = record { imports = 0; functions = 0; tables = 0; memories = 0; tags = 0; globals = 0 }

abbrev pub one_more : Counts → Space → Counts
one_more c spaces.Function = record c { imports = c.imports + 1; functions = c.functions + 1 }
one_more c spaces.Table = record c { imports = c.imports + 1; tables = c.tables + 1 }
one_more c spaces.Memory = record c { imports = c.imports + 1; memories = c.memories + 1 }
one_more c spaces.Tag = record c { imports = c.imports + 1; tags = c.tags + 1 }
one_more c spaces.Global = record c { imports = c.imports + 1; globals = c.globals + 1 }
one_more c _ = record c { imports = c.imports + 1 }

-- the import brings the next item of its space, which names it back
abbrev pub Brings : Module → Counts → Space → ℕ → Type 0
Brings m c spaces.Function n = (n ≡ c.functions) × ((f : Function) × (slice_index_or m.functions n None ≡ Some f) × (f.origin ≡ Imported c.imports))
Brings m c spaces.Table n = (n ≡ c.tables) × ((t : Table) × (slice_index_or m.tables n None ≡ Some t) × (t.imported ≡ Some c.imports) × (t.init ≡ None))
Brings m c spaces.Memory n = (n ≡ c.memories) × ((x : Memory) × (slice_index_or m.memories n None ≡ Some x) × (x.imported ≡ Some c.imports))
Brings m c spaces.Global n = (n ≡ c.globals) × ((g : Global) × (slice_index_or m.globals n None ≡ Some g) × (g.origin ≡ Imported c.imports))
Brings m c spaces.Tag n = (n ≡ c.tags) × ((t : Tag) × (slice_index_or m.tags n None ≡ Some t) × (t.imported ≡ Some c.imports))
Brings m c _ n = ⊥

abbrev pub BringAll : Module → Counts → List Import → Type 0
BringAll m c [] = Unit {0}
BringAll m c (i ∷ imports) = Brings m c i.item.space i.item.number × BringAll m (one_more c i.item.space) imports

abbrev pub all_of : Counts → List Import → Counts
all_of c [] = c
all_of c (i ∷ imports) = all_of (one_more c i.item.space) imports

abbrev pub brought : Module → Counts
brought m = all_of none_brought (items_in m.imports)

-- ---- the module's own items, all there

abbrev pub IsOwnFunction : Option Function → Type 0
IsOwnFunction None = ⊥
IsOwnFunction (Some f) = (x : Body) × (f.origin ≡ Own x)

abbrev pub IsOwnTable : Option Table → Type 0
IsOwnTable None = ⊥
IsOwnTable (Some t) = t.imported ≡ None

abbrev pub IsOwnMemory : Option Memory → Type 0
IsOwnMemory None = ⊥
IsOwnMemory (Some x) = x.imported ≡ None

abbrev pub IsOwnTag : Option Tag → Type 0
IsOwnTag None = ⊥
IsOwnTag (Some t) = t.imported ≡ None

abbrev pub IsOwnGlobal : Option Global → Type 0
IsOwnGlobal None = ⊥
IsOwnGlobal (Some g) = (e : Expr) × (g.origin ≡ Own e)

-- each slot is filled, with such an item
abbrev pub AreThere : {A : Type 0} → (A → Type 0) → List (Option A) → Type 0
AreThere P [] = Unit {0}
AreThere P (None ∷ xs) = ⊥
AreThere P (Some x ∷ xs) = P x × AreThere P xs

-- a module as it stands in a file: all slots are filled, imported items come first in their order, no type of a body's own block is
-- among its types
pub record IsDense (m : Module) : Type 0 where
  pub groups : AllByRecursion IsWritten m.groups
  pub imports : AreThere (λ (i : Import). Unit {0}) m.imports
  pub brings : BringAll m none_brought (items_in m.imports)
  pub functions : AllByRecursion IsOwnFunction (drop (brought m).functions m.functions)
  pub tables : AllByRecursion IsOwnTable (drop (brought m).tables m.tables)
  pub memories : AllByRecursion IsOwnMemory (drop (brought m).memories m.memories)
  pub tags : AllByRecursion IsOwnTag (drop (brought m).tags m.tags)
  pub globals : AllByRecursion IsOwnGlobal (drop (brought m).globals m.globals)
  pub exports : AreThere (λ (e : Export). IsExported e.item.space) m.exports
  pub elements : AreThere (λ (e : Element). Unit {0}) m.elements
  pub segments : AreThere (λ (x : Segment). IsNotDeclared x.mode) m.segments

-- ---- the law

abbrev pub count_of : Bool → ℕ → Option ℕ
count_of false n = None
count_of true n = Some n

abbrev pub bodies_if : List (List ℕ) → Option (List (List ℕ))
bodies_if [] = None
bodies_if (b ∷ bodies) = Some (b ∷ bodies)

pub record LeavesModule (bodies : List (List ℕ)) (counted : Bool) (first last : List Custom) (m : Module) : Type 0 where
  pub filled : (state_of (tt, sections_due bodies counted first last m)).filled ≡ record (bare m) { customs = map (λ (c : Custom). Some c) (first ++ last) }
  pub counted_is : (state_of (tt, sections_due bodies counted first last m)).data_count ≡ count_of counted (length m.segments)
  pub bodies_are : bodies_of (state_of (tt, sections_due bodies counted first last m)).bodies ≡ bodies_if bodies
  pub imported : (state_of (tt, sections_due bodies counted first last m)).imported ≡ (brought m).functions

abbrev pub DueSectionsFill : Type 0
DueSectionsFill = (bodies : List (List ℕ)) (counted : Bool) (first last : List Custom) (m : Module) → IsDense m → LeavesModule bodies counted first last m
