-- What can't be written of a reached item, though it lives: a type that names one past its own group, a shared global, and an exact heap type.
use Rattle.std.specs.Prelude.{◌≡◌, ◌⊎◌, ℕ, ◌≤◌, false, Bool, List, Option, Some, MatchOption, Contains, slice_get}
use Rattle.wasm_formats.specs.declared.fault.Space.{Space}
use Rattle.wasm_formats.specs.declared.fault.Space.TheVariants as spaces
use Rattle.walrus_arena.specs.Arena.{item_at}
use Rattle.walrus_forms.specs.Kinds.{kind_names}
use Rattle.walrus_items.specs.Items.{Item as TypeItem, Group}
use Rattle.walrus_items.specs.declared.local.Local.{Local}
use Rattle.walrus_types.specs.Table.{Table as TypeTable, HasMember, type_at}
use Rattle.walrus_instr.specs.declared.seq.InstrSeq.{InstrSeq}
use Rattle.walrus_builder.specs.Functions.{seqs_of}
use Rattle.walrus_used.specs.walrus_module.walrus_module_items.declared.function.Function.{Function}
use Rattle.walrus_used.specs.walrus_module.walrus_module_items.declared.function.FunctionKind.{FunctionKind}
use Rattle.walrus_used.specs.walrus_module.walrus_module_items.declared.function.FunctionKind.TheVariants as functions
use Rattle.walrus_used.specs.walrus_module.walrus_module_items.declared.global.Global.{Global}
use Rattle.walrus_used.specs.walrus_module.walrus_module_items.declared.data.Data.{Data}
use Rattle.walrus_exact.specs.Exact.{form_exact, seq_exact, table_exact, global_exact, element_exact, data_exact, val_exact}
use Rattle.walrus_used.specs.walrus_module.Parts.{Module}
use Rattle.walrus_roots.specs.declared.item.Item.{Item}
use Rattle.walrus_used.specs.walrus_references.References.{Reaches}

-- ---- types in their order
-- the two are members of one group, whether it is explicit or not
abbrev pub AreInOneGroup : TypeTable → ℕ → ℕ → Type 0
AreInOneGroup t id name = (group : Group) × HasMember t id group × Contains group.types name

-- the type may name the other: one that stands no later, or a member of its group
abbrev pub MayName : TypeTable → ℕ → ℕ → Type 0
MayName t id name = (name ≤ id) ⊎ AreInOneGroup t id name

abbrev pub NamesNoLater : TypeTable → ℕ → Type 0
NamesNoLater t id = MatchOption (type_at t id) (Unit {0}) (λ (ty : TypeItem). (name : ℕ) → Contains (kind_names ty.kind) name → MayName t id name)

abbrev pub StaysIn : Module → Space → ℕ → Type 0
StaysIn m spaces.Type id = NamesNoLater m.types id
StaysIn m _ id = Unit {0}

-- a type names none past its own group
abbrev pub StaysInGroup : Module → Item → Type 0
StaysInGroup m x = StaysIn m x.space x.id

-- ---- forms that stand in no file
abbrev pub IsUnsharedIn : Module → Space → ℕ → Type 0
IsUnsharedIn m spaces.Global id = MatchOption (item_at m.globals id) (Unit {0}) (λ (g : Global). g.shared ≡ false)
IsUnsharedIn m _ id = Unit {0}

-- a global isn't shared
abbrev pub IsUnshared : Module → Item → Type 0
IsUnshared m x = IsUnsharedIn m x.space x.id

-- in what is there, if anything is, none is exact
abbrev pub HasNone : {A : Type 0} → (A → Bool) → Option A → Type 0
HasNone exact o = MatchOption o (Unit {0}) (λ x. exact x ≡ false)

-- nor in a sequence that is reached from a body's own
abbrev pub BodyHasNone : List InstrSeq → Type 0
BodyHasNone b = (k : ℕ) (s : InstrSeq) → Reaches b k → slice_get b k ≡ Some s → seq_exact k s ≡ false

abbrev pub KindHasNone : FunctionKind → Type 0
KindHasNone (functions.Local local) = BodyHasNone (seqs_of local.builder)
KindHasNone _ = Unit {0}

abbrev pub HasNoExactIn : Module → Space → ℕ → Type 0
HasNoExactIn m spaces.Type id = HasNone (λ (ty : TypeItem). form_exact ty.kind.form) (type_at m.types id)
HasNoExactIn m spaces.Function id = MatchOption (item_at m.funcs id) (Unit {0}) (λ (f : Function). KindHasNone f.kind)
HasNoExactIn m spaces.Table id = HasNone table_exact (item_at m.tables id)
HasNoExactIn m spaces.Memory id = Unit {0}
HasNoExactIn m spaces.Tag id = Unit {0}
HasNoExactIn m spaces.Global id = HasNone global_exact (item_at m.globals id)
HasNoExactIn m spaces.Element id = HasNone element_exact (item_at m.elements id)
HasNoExactIn m spaces.Data id = HasNone (λ (d : Data). data_exact d.kind) (item_at m.data_segments id)
HasNoExactIn m spaces.Local id = HasNone (λ (l : Local). val_exact l.ty) (slice_get m.locals id)
HasNoExactIn m spaces.Label id = Unit {0}

-- no heap type in the item is exact
abbrev pub HasNoExact : Module → Item → Type 0
HasNoExact m x = HasNoExactIn m x.space x.id
