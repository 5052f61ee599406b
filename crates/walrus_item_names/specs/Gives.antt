-- Names that are given to what is in a module.
use Rattle.std.specs.Prelude.{ℕ, ◌≡◌, List, [], ◌∷◌, ◌++◌, map, Option, Some, None, if◌then◌else◌, slice_get, string_bytes, refl}
use Rattle.std.specs.Option.{option_map}
use Rattle.std.specs.declared.alloc.Global.{Global as Alloc}
use Rattle.std.specs.declared.string.String.{String}
use Rattle.std.proofs.Common.{ap, sym, ◌∙◌}
use Rattle.std.proofs.lemmas.Iterator.Adapters.{option_map_id}
use Rattle.wasm_formats.specs.declared.fault.Space.{Space}
use Rattle.wasm_formats.specs.declared.fault.Space.TheVariants as spaces
use Rattle.wasm_name_payloads.specs.Names.{Bearer, TheModule, AnItem, ALocal, Given, given, item_in, same_bearer, last_name}
use Rattle.walrus_arena.specs.Arena.{Arena}
use Rattle.walrus_item_names.specs.Holder.{Holder}
use Rattle.walrus_module.specs.walrus_types.walrus_items.declared.local.Local.{Local}
use Rattle.walrus_module.specs.walrus_types.Table.{Table as TypeTable, type_at}
use Rattle.walrus_module.specs.walrus_module_items.declared.function.Function.{Function}
use Rattle.walrus_module.specs.walrus_module_items.declared.table.Table.{Table}
use Rattle.walrus_module.specs.walrus_module_items.declared.memory.Memory.{Memory}
use Rattle.walrus_module.specs.walrus_module_items.declared.tag.Tag.{Tag}
use Rattle.walrus_module.specs.walrus_module_items.declared.global.Global.{Global}
use Rattle.walrus_module.specs.walrus_module_items.declared.element.Element.{Element}
use Rattle.walrus_module.specs.walrus_module_items.declared.data.Data.{Data}
use Rattle.walrus_item_names.specs.Called.{renamed, IsCalled}
use Rattle.walrus_item_names.specs.Names.{item_name, name_at, unnamed, bare_types, type_called, bare_local, local_called, function_called, bare_function, table_called, bare_table, memory_called, bare_memory, tag_called, bare_tag, global_called, bare_global, element_called, bare_element, data_called, bare_data}

-- of each that is there, the last name that it was given, or else the one that it had; names aside all is as it was
pub record GivesNames (names : List Given) (old new : Holder) : Type 0 where
  pub named : (bearer : Bearer) → name_at new bearer ≡ option_map (λ found. last_name bearer found names) (name_at old bearer)
  pub same : unnamed new ≡ unnamed old

-- the same of one table or list
pub record IsTypeCalled (id : ℕ) (name : List ℕ) (old new : TypeTable) : Type 0 where
  pub names : (other : ℕ) → option_map type_called (type_at new other) ≡ option_map (renamed id name other) (option_map type_called (type_at old other))
  pub same : bare_types new ≡ bare_types old

pub record IsLocalCalled (id : ℕ) (name : List ℕ) (old new : List Local) : Type 0 where
  pub names : (other : ℕ) → option_map local_called (slice_get new other) ≡ option_map (renamed id name other) (option_map local_called (slice_get old other))
  pub same : map bare_local new ≡ map bare_local old

-- ---- Lemmas: none, and some behind others

same_name : (o : Option (Option (List ℕ))) → o ≡ option_map (λ found. found) o
same_name o = sym (option_map_id o)

pub gives_none : (m : Holder) → GivesNames [] m m
gives_none m = record { named = λ bearer. same_name (name_at m bearer); same = refl }

last_of_both : (bearer : Bearer) (found : Option (List ℕ)) (xs ys : List Given) → last_name bearer (last_name bearer found xs) ys ≡ last_name bearer found (xs ++ ys)
last_of_both bearer found [] ys = refl
last_of_both bearer found (g ∷ xs) ys = last_of_both bearer (if same_bearer g.bearer bearer then Some g.name else found) xs ys

both_named : (bearer : Bearer) (xs ys : List Given) (o p q : Option (Option (List ℕ))) → p ≡ option_map (λ found. last_name bearer found xs) o
    → q ≡ option_map (λ found. last_name bearer found ys) p → q ≡ option_map (λ found. last_name bearer found (xs ++ ys)) o
both_named bearer xs ys None p q first second = second ∙ ap (option_map (λ found. last_name bearer found ys)) first
both_named bearer xs ys (Some found) p q first second =
    second ∙ ap (option_map (λ found. last_name bearer found ys)) first ∙ ap (λ (f : Option (List ℕ)). Some f) (last_of_both bearer found xs ys)

pub gives_both : (xs ys : List Given) (a b c : Holder) → GivesNames xs a b → GivesNames ys b c → GivesNames (xs ++ ys) a c
gives_both xs ys a b c first second = record {
  named = λ bearer. both_named bearer xs ys (name_at a bearer) (name_at b bearer) (name_at c bearer) (first.named bearer) (second.named bearer);
  same = second.same ∙ first.same;
}

-- ---- Lemmas: one item of each kind, or the module

pub module_given : (m : Holder) (own : Option (String Alloc)) (name : List ℕ) → option_map string_bytes own ≡ Some name
    → GivesNames (given TheModule name ∷ []) m (record m { name = own })
module_given m own name h = record { named = named; same = refl }
  where
    named : (bearer : Bearer) → name_at (record m { name = own }) bearer ≡ option_map (λ found. last_name bearer found (given TheModule name ∷ [])) (name_at m bearer)
    named TheModule = ap (λ (o : Option (List ℕ)). Some o) h
    named (AnItem x) = same_name (item_name m x.space x.number)
    named (ALocal function local) = refl

pub type_given : (m : Holder) (id : ℕ) (name : List ℕ) (types : TypeTable) → IsTypeCalled id name m.types types
    → GivesNames (given (item_in spaces.«Type» id) name ∷ []) m (record m { types = types })
type_given m id name types h = record { named = named; same = ap (λ (t : TypeTable). record (unnamed m) { types = t }) h.same }
  where
    at : (space : Space) (n : ℕ)
        → item_name (record m { types = types }) space n ≡ option_map (λ found. last_name (item_in space n) found (given (item_in spaces.«Type» id) name ∷ [])) (item_name m space n)
    at spaces.«Type» n = h.names n
    at spaces.Function n = same_name (item_name m spaces.Function n)
    at spaces.Table n = same_name (item_name m spaces.Table n)
    at spaces.Memory n = same_name (item_name m spaces.Memory n)
    at spaces.Tag n = same_name (item_name m spaces.Tag n)
    at spaces.Global n = same_name (item_name m spaces.Global n)
    at spaces.Element n = same_name (item_name m spaces.Element n)
    at spaces.Data n = same_name (item_name m spaces.Data n)
    at spaces.Local n = same_name (item_name m spaces.Local n)
    at spaces.Label n = refl

    named : (bearer : Bearer) → name_at (record m { types = types }) bearer ≡ option_map (λ found. last_name bearer found (given (item_in spaces.«Type» id) name ∷ [])) (name_at m bearer)
    named TheModule = same_name (name_at m TheModule)
    named (AnItem x) = at x.space x.number
    named (ALocal function local) = refl

pub function_given : (m : Holder) (id : ℕ) (name : List ℕ) (items : Arena Function) → IsCalled function_called bare_function id name m.funcs items
    → GivesNames (given (item_in spaces.Function id) name ∷ []) m (record m { funcs = items })
function_given m id name items h = record { named = named; same = ap (λ (a : Arena Function). record (unnamed m) { funcs = a }) h.same }
  where
    at : (space : Space) (n : ℕ)
        → item_name (record m { funcs = items }) space n ≡ option_map (λ found. last_name (item_in space n) found (given (item_in spaces.Function id) name ∷ [])) (item_name m space n)
    at spaces.«Type» n = same_name (item_name m spaces.«Type» n)
    at spaces.Function n = h.names n
    at spaces.Table n = same_name (item_name m spaces.Table n)
    at spaces.Memory n = same_name (item_name m spaces.Memory n)
    at spaces.Tag n = same_name (item_name m spaces.Tag n)
    at spaces.Global n = same_name (item_name m spaces.Global n)
    at spaces.Element n = same_name (item_name m spaces.Element n)
    at spaces.Data n = same_name (item_name m spaces.Data n)
    at spaces.Local n = same_name (item_name m spaces.Local n)
    at spaces.Label n = refl

    named : (bearer : Bearer) → name_at (record m { funcs = items }) bearer ≡ option_map (λ found. last_name bearer found (given (item_in spaces.Function id) name ∷ [])) (name_at m bearer)
    named TheModule = same_name (name_at m TheModule)
    named (AnItem x) = at x.space x.number
    named (ALocal function local) = refl

pub table_given : (m : Holder) (id : ℕ) (name : List ℕ) (items : Arena Table) → IsCalled table_called bare_table id name m.tables items
    → GivesNames (given (item_in spaces.Table id) name ∷ []) m (record m { tables = items })
table_given m id name items h = record { named = named; same = ap (λ (a : Arena Table). record (unnamed m) { tables = a }) h.same }
  where
    at : (space : Space) (n : ℕ)
        → item_name (record m { tables = items }) space n ≡ option_map (λ found. last_name (item_in space n) found (given (item_in spaces.Table id) name ∷ [])) (item_name m space n)
    at spaces.«Type» n = same_name (item_name m spaces.«Type» n)
    at spaces.Function n = same_name (item_name m spaces.Function n)
    at spaces.Table n = h.names n
    at spaces.Memory n = same_name (item_name m spaces.Memory n)
    at spaces.Tag n = same_name (item_name m spaces.Tag n)
    at spaces.Global n = same_name (item_name m spaces.Global n)
    at spaces.Element n = same_name (item_name m spaces.Element n)
    at spaces.Data n = same_name (item_name m spaces.Data n)
    at spaces.Local n = same_name (item_name m spaces.Local n)
    at spaces.Label n = refl

    named : (bearer : Bearer) → name_at (record m { tables = items }) bearer ≡ option_map (λ found. last_name bearer found (given (item_in spaces.Table id) name ∷ [])) (name_at m bearer)
    named TheModule = same_name (name_at m TheModule)
    named (AnItem x) = at x.space x.number
    named (ALocal function local) = refl

pub memory_given : (m : Holder) (id : ℕ) (name : List ℕ) (items : Arena Memory) → IsCalled memory_called bare_memory id name m.memories items
    → GivesNames (given (item_in spaces.Memory id) name ∷ []) m (record m { memories = items })
memory_given m id name items h = record { named = named; same = ap (λ (a : Arena Memory). record (unnamed m) { memories = a }) h.same }
  where
    at : (space : Space) (n : ℕ)
        → item_name (record m { memories = items }) space n ≡ option_map (λ found. last_name (item_in space n) found (given (item_in spaces.Memory id) name ∷ [])) (item_name m space n)
    at spaces.«Type» n = same_name (item_name m spaces.«Type» n)
    at spaces.Function n = same_name (item_name m spaces.Function n)
    at spaces.Table n = same_name (item_name m spaces.Table n)
    at spaces.Memory n = h.names n
    at spaces.Tag n = same_name (item_name m spaces.Tag n)
    at spaces.Global n = same_name (item_name m spaces.Global n)
    at spaces.Element n = same_name (item_name m spaces.Element n)
    at spaces.Data n = same_name (item_name m spaces.Data n)
    at spaces.Local n = same_name (item_name m spaces.Local n)
    at spaces.Label n = refl

    named : (bearer : Bearer) → name_at (record m { memories = items }) bearer ≡ option_map (λ found. last_name bearer found (given (item_in spaces.Memory id) name ∷ [])) (name_at m bearer)
    named TheModule = same_name (name_at m TheModule)
    named (AnItem x) = at x.space x.number
    named (ALocal function local) = refl

pub tag_given : (m : Holder) (id : ℕ) (name : List ℕ) (items : Arena Tag) → IsCalled tag_called bare_tag id name m.tags items
    → GivesNames (given (item_in spaces.Tag id) name ∷ []) m (record m { tags = items })
tag_given m id name items h = record { named = named; same = ap (λ (a : Arena Tag). record (unnamed m) { tags = a }) h.same }
  where
    at : (space : Space) (n : ℕ)
        → item_name (record m { tags = items }) space n ≡ option_map (λ found. last_name (item_in space n) found (given (item_in spaces.Tag id) name ∷ [])) (item_name m space n)
    at spaces.«Type» n = same_name (item_name m spaces.«Type» n)
    at spaces.Function n = same_name (item_name m spaces.Function n)
    at spaces.Table n = same_name (item_name m spaces.Table n)
    at spaces.Memory n = same_name (item_name m spaces.Memory n)
    at spaces.Tag n = h.names n
    at spaces.Global n = same_name (item_name m spaces.Global n)
    at spaces.Element n = same_name (item_name m spaces.Element n)
    at spaces.Data n = same_name (item_name m spaces.Data n)
    at spaces.Local n = same_name (item_name m spaces.Local n)
    at spaces.Label n = refl

    named : (bearer : Bearer) → name_at (record m { tags = items }) bearer ≡ option_map (λ found. last_name bearer found (given (item_in spaces.Tag id) name ∷ [])) (name_at m bearer)
    named TheModule = same_name (name_at m TheModule)
    named (AnItem x) = at x.space x.number
    named (ALocal function local) = refl

pub global_given : (m : Holder) (id : ℕ) (name : List ℕ) (items : Arena Global) → IsCalled global_called bare_global id name m.globals items
    → GivesNames (given (item_in spaces.Global id) name ∷ []) m (record m { globals = items })
global_given m id name items h = record { named = named; same = ap (λ (a : Arena Global). record (unnamed m) { globals = a }) h.same }
  where
    at : (space : Space) (n : ℕ)
        → item_name (record m { globals = items }) space n ≡ option_map (λ found. last_name (item_in space n) found (given (item_in spaces.Global id) name ∷ [])) (item_name m space n)
    at spaces.«Type» n = same_name (item_name m spaces.«Type» n)
    at spaces.Function n = same_name (item_name m spaces.Function n)
    at spaces.Table n = same_name (item_name m spaces.Table n)
    at spaces.Memory n = same_name (item_name m spaces.Memory n)
    at spaces.Tag n = same_name (item_name m spaces.Tag n)
    at spaces.Global n = h.names n
    at spaces.Element n = same_name (item_name m spaces.Element n)
    at spaces.Data n = same_name (item_name m spaces.Data n)
    at spaces.Local n = same_name (item_name m spaces.Local n)
    at spaces.Label n = refl

    named : (bearer : Bearer) → name_at (record m { globals = items }) bearer ≡ option_map (λ found. last_name bearer found (given (item_in spaces.Global id) name ∷ [])) (name_at m bearer)
    named TheModule = same_name (name_at m TheModule)
    named (AnItem x) = at x.space x.number
    named (ALocal function local) = refl

pub element_given : (m : Holder) (id : ℕ) (name : List ℕ) (items : Arena Element) → IsCalled element_called bare_element id name m.elements items
    → GivesNames (given (item_in spaces.Element id) name ∷ []) m (record m { elements = items })
element_given m id name items h = record { named = named; same = ap (λ (a : Arena Element). record (unnamed m) { elements = a }) h.same }
  where
    at : (space : Space) (n : ℕ)
        → item_name (record m { elements = items }) space n ≡ option_map (λ found. last_name (item_in space n) found (given (item_in spaces.Element id) name ∷ [])) (item_name m space n)
    at spaces.«Type» n = same_name (item_name m spaces.«Type» n)
    at spaces.Function n = same_name (item_name m spaces.Function n)
    at spaces.Table n = same_name (item_name m spaces.Table n)
    at spaces.Memory n = same_name (item_name m spaces.Memory n)
    at spaces.Tag n = same_name (item_name m spaces.Tag n)
    at spaces.Global n = same_name (item_name m spaces.Global n)
    at spaces.Element n = h.names n
    at spaces.Data n = same_name (item_name m spaces.Data n)
    at spaces.Local n = same_name (item_name m spaces.Local n)
    at spaces.Label n = refl

    named : (bearer : Bearer) → name_at (record m { elements = items }) bearer ≡ option_map (λ found. last_name bearer found (given (item_in spaces.Element id) name ∷ [])) (name_at m bearer)
    named TheModule = same_name (name_at m TheModule)
    named (AnItem x) = at x.space x.number
    named (ALocal function local) = refl

pub data_given : (m : Holder) (id : ℕ) (name : List ℕ) (items : Arena Data) → IsCalled data_called bare_data id name m.data_segments items
    → GivesNames (given (item_in spaces.Data id) name ∷ []) m (record m { data_segments = items })
data_given m id name items h = record { named = named; same = ap (λ (a : Arena Data). record (unnamed m) { data_segments = a }) h.same }
  where
    at : (space : Space) (n : ℕ)
        → item_name (record m { data_segments = items }) space n ≡ option_map (λ found. last_name (item_in space n) found (given (item_in spaces.Data id) name ∷ [])) (item_name m space n)
    at spaces.«Type» n = same_name (item_name m spaces.«Type» n)
    at spaces.Function n = same_name (item_name m spaces.Function n)
    at spaces.Table n = same_name (item_name m spaces.Table n)
    at spaces.Memory n = same_name (item_name m spaces.Memory n)
    at spaces.Tag n = same_name (item_name m spaces.Tag n)
    at spaces.Global n = same_name (item_name m spaces.Global n)
    at spaces.Element n = same_name (item_name m spaces.Element n)
    at spaces.Data n = h.names n
    at spaces.Local n = same_name (item_name m spaces.Local n)
    at spaces.Label n = refl

    named : (bearer : Bearer) → name_at (record m { data_segments = items }) bearer ≡ option_map (λ found. last_name bearer found (given (item_in spaces.Data id) name ∷ [])) (name_at m bearer)
    named TheModule = same_name (name_at m TheModule)
    named (AnItem x) = at x.space x.number
    named (ALocal function local) = refl

pub local_given : (m : Holder) (id : ℕ) (name : List ℕ) (locals : List Local) → IsLocalCalled id name m.locals locals
    → GivesNames (given (item_in spaces.Local id) name ∷ []) m (record m { locals = locals })
local_given m id name locals h = record { named = named; same = ap (λ (l : List Local). record (unnamed m) { locals = l }) h.same }
  where
    at : (space : Space) (n : ℕ)
        → item_name (record m { locals = locals }) space n ≡ option_map (λ found. last_name (item_in space n) found (given (item_in spaces.Local id) name ∷ [])) (item_name m space n)
    at spaces.«Type» n = same_name (item_name m spaces.«Type» n)
    at spaces.Function n = same_name (item_name m spaces.Function n)
    at spaces.Table n = same_name (item_name m spaces.Table n)
    at spaces.Memory n = same_name (item_name m spaces.Memory n)
    at spaces.Tag n = same_name (item_name m spaces.Tag n)
    at spaces.Global n = same_name (item_name m spaces.Global n)
    at spaces.Element n = same_name (item_name m spaces.Element n)
    at spaces.Data n = same_name (item_name m spaces.Data n)
    at spaces.Local n = h.names n
    at spaces.Label n = refl

    named : (bearer : Bearer) → name_at (record m { locals = locals }) bearer ≡ option_map (λ found. last_name bearer found (given (item_in spaces.Local id) name ∷ [])) (name_at m bearer)
    named TheModule = same_name (name_at m TheModule)
    named (AnItem x) = at x.space x.number
    named (ALocal function local) = refl
