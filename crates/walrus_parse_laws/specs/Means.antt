-- The module in memory that was read from a file, and the file's module.
use Rattle.std.specs.Prelude.{ℕ, ◌≡◌, ◌≢◌, ◌<◌, ◌^◌, ◌||◌, Bool, true, false, List, [], ◌∷◌, ◌++◌, All, IfSome, codes, length, map, replicate, Option, Some, None, slice_get, if◌then◌else◌}
use Rattle.std.specs.BTreeMap.{is_at}
use Rattle.std.specs.Cmp.Lexicographic.{slice_cmp}
use Rattle.std.specs.List.{flat_map}
use Rattle.std.specs.Ordering.{nat_cmp}
use Rattle.walrus_named_bodies.specs.walrus_file_bodies.walrus_items_into.walrus_module_env.walrus_handler_types.walrus_body_steps.wasm_body_grammar.Codes.{param_count}
use Rattle.walrus_named_bodies.specs.walrus_file_bodies.walrus_items_into.walrus_module_env.walrus_handler_types.walrus_body_steps.wasm_body_grammar.wasm_grammar.Modules as grammar
use Rattle.walrus_named_bodies.specs.walrus_file_bodies.walrus_items_into.walrus_module_env.walrus_handler_types.walrus_body_steps.wasm_body_grammar.wasm_grammar.States.{types_of}
use Rattle.walrus_named_bodies.specs.walrus_file_bodies.walrus_items_into.walrus_module_env.walrus_handler_types.walrus_body_steps.wasm_body_grammar.wasm_grammar.walrus_forms.Forms.{params_of}
use Rattle.walrus_named_bodies.specs.walrus_file_bodies.walrus_items_into.walrus_module_env.walrus_handler_types.walrus_body_steps.wasm_body_grammar.wasm_grammar.walrus_forms.Kinds.{Kind}
use Rattle.walrus_named_bodies.specs.walrus_file_bodies.walrus_items_into.walrus_module_env.walrus_handler_types.walrus_body_steps.wasm_body_grammar.wasm_grammar.walrus_forms.Renaming.{at, renamed_kind, renamed_value}
use Rattle.walrus_named_bodies.specs.walrus_file_bodies.walrus_items_into.walrus_module_env.walrus_handler_types.walrus_body_steps.wasm_body_grammar.wasm_grammar.walrus_forms.declared.value.ValType.{ValType}
use Rattle.walrus_named_bodies.specs.walrus_file_bodies.walrus_items_into.walrus_module_env.walrus_handler_types.walrus_body_steps.wasm_body_grammar.wasm_operators.Items.{Locals, Space}
use Rattle.walrus_named_bodies.specs.walrus_file_bodies.walrus_items_into.walrus_module_env.walrus_handler_types.walrus_body_steps.wasm_body_grammar.wasm_operators.declared.block_type.BlockType.{BlockType}
use Rattle.walrus_named_bodies.specs.wasm_name_payloads.Names.{Bearer, Given, last_name, local_count, names_of}
use Rattle.walrus_named_bodies.specs.wasm_name_payloads.Producers.{processed, producers_of}
use Rattle.wasm_import_links.specs.wasm_ruled_modules.Rules.{IsRuled}
use Rattle.walrus_arena.specs.Arena.{Arena, item_at}
use Rattle.walrus_config.specs.declared.config.ModuleConfig.{ModuleConfig}
use Rattle.walrus_customs.specs.Producers.{fields_of}
use Rattle.walrus_named_bodies.specs.walrus_file_bodies.walrus_items_into.wasm_module_rules.Linked.{Each}
use Rattle.walrus_named_bodies.specs.walrus_file_bodies.walrus_items_into.wasm_module_rules.wasm_modules.Modules.{Reads}
use Rattle.walrus_named_bodies.specs.walrus_file_bodies.walrus_items_into.walrus_tables_into.walrus_sections_into.Becomes.{look_of}
use Rattle.walrus_named_bodies.specs.walrus_file_bodies.walrus_items_into.walrus_tables_into.walrus_sections_into.Numbers.{upto}
use Rattle.walrus_named_bodies.specs.walrus_file_bodies.walrus_items_into.walrus_tables_into.walrus_sections_into.walrus_known_sections.Types.{kinds_in}
use Rattle.walrus_parse_laws.specs.FilledGroups.{kept}
use Rattle.walrus_named_bodies.specs.walrus_file_bodies.walrus_items_into.walrus_functions_into.walrus_types_into.Into.{no_types}
use Rattle.walrus_named_bodies.specs.walrus_file_bodies.walrus_items_into.walrus_module_bodies.walrus_body_trees.walrus_meaning.Bodies.{local_ids}
use Rattle.walrus_named_bodies.specs.walrus_file_bodies.walrus_items_into.walrus_module_bodies.walrus_body_trees.walrus_meaning.Meaning.{means, slots_of, type_ids}
use Rattle.walrus_body_laws.specs.walrus_pairing.walrus_index_maps.Maps.{Ids}
use Rattle.walrus_body_laws.specs.walrus_pairing.walrus_index_maps.Runs.{nowhere}
use Rattle.walrus_named_bodies.specs.walrus_file_bodies.walrus_items_into.walrus_module_bodies.walrus_body_trees.walrus_meaning.walrus_local_function.walrus_body_locals.Named.{kept_by}
use Rattle.walrus_named_bodies.specs.walrus_file_bodies.walrus_items_into.walrus_module_bodies.walrus_body_trees.walrus_meaning.walrus_linked.Linked.{IsLinked}
use Rattle.walrus_named_bodies.specs.walrus_item_names.walrus_module.walrus_module_items.declared.function.Function.{Function}
use Rattle.walrus_named_bodies.specs.walrus_item_names.walrus_module.walrus_module_items.declared.function.FunctionKind.TheVariants as kinds
use Rattle.walrus_named_bodies.specs.walrus_file_bodies.walrus_items_into.walrus_module_bodies.walrus_body_trees.walrus_meaning.walrus_local_function.declared.local_function.LocalFunction.{LocalFunction}
use Rattle.walrus_named_bodies.specs.walrus_file_bodies.walrus_items_into.walrus_module_env.walrus_handler_types.walrus_body_steps.wasm_normal_form.Bodies.{used_keys}
use Rattle.walrus_named_bodies.specs.walrus_file_bodies.walrus_items_into.walrus_module_env.walrus_handler_types.walrus_body_steps.wasm_normal_form.Normal.{normal, normal_ops}
use Rattle.walrus_named_bodies.specs.walrus_file_bodies.walrus_items_into.walrus_module_env.walrus_handler_types.walrus_body_steps.wasm_normal_form.Trees.{tree_of}
use Rattle.walrus_named_bodies.specs.walrus_file_bodies.walrus_items_into.walrus_module_env.walrus_handler_types.walrus_body_steps.Meanings.{meaning}
use Rattle.walrus_named_bodies.specs.walrus_file_bodies.walrus_items_into.walrus_module_env.walrus_handler_types.walrus_body_steps.walrus_body_nesting.Stands.{StandsAs}
use Rattle.walrus_named_bodies.specs.walrus_file_bodies.walrus_items_into.walrus_module_env.walrus_handler_types.walrus_body_steps.walrus_body_rules.Sights.{Sight, look}
use Rattle.walrus_function_types.specs.FunctionTypes.{params_at, results_at}
use Rattle.walrus_body_laws.specs.walrus_pairing.Looks.{id_of}
use Rattle.walrus_body_laws.specs.walrus_pairing.walrus_instr.BlockTypes.{picked}
use Rattle.walrus_named_bodies.specs.walrus_file_bodies.walrus_items_into.walrus_module_env.Env.{own_pick, tag_type_at}
use Rattle.walrus_named_bodies.specs.walrus_item_names.walrus_module.walrus_builder.Built.{seq_of}
use Rattle.walrus_named_bodies.specs.walrus_item_names.walrus_module.walrus_builder.Functions.{seqs_of}
use Rattle.walrus_named_bodies.specs.walrus_item_names.walrus_module.walrus_module_items.declared.tag.Tag.{Tag}
use Rattle.walrus_named_bodies.specs.walrus_item_names.walrus_module.Parts.{Module, parts}
use Rattle.walrus_named_bodies.specs.walrus_item_names.walrus_module.declared.module.Module.{Module as Whole}
use Rattle.walrus_named_bodies.specs.walrus_item_names.walrus_module.walrus_module_items.declared.global.Global.{Global}
use Rattle.walrus_named_bodies.specs.walrus_item_names.walrus_module.walrus_types.Parsing.{Parsed, parsed, unparsed}
use Rattle.walrus_named_bodies.specs.walrus_item_names.walrus_module.walrus_types.Table.{Table, next_id, type_at}
use Rattle.walrus_named_bodies.specs.walrus_item_names.walrus_module.walrus_types.walrus_items.declared.local.Local.{Local}
use Rattle.walrus_named_bodies.specs.walrus_file_bodies.walrus_items_into.walrus_module_env.walrus_handler_types.walrus_tree.walrus_walks.walrus_types.Items.{Item}
use Rattle.walrus_parse_laws.specs.Added.{added}
use Rattle.walrus_parse_laws.specs.Files.{bodies_handle, sent}
use Rattle.walrus_parse_laws.specs.Meaning.{OthersStay, own_custom}
use Rattle.walrus_named_bodies.specs.Named.{all_names}
use Rattle.walrus_named_bodies.specs.Parsed.{IsReadAs, read_features}
use Rattle.walrus_named_bodies.specs.walrus_item_names.Holder.{Holder, holder}
use Rattle.walrus_named_bodies.specs.walrus_item_names.Names.{name_at}
use Rattle.walrus_parse_laws.specs.Locals.{kept_numbers, typed}
use Rattle.walrus_parse_laws.specs.BodiesTexts.{naming, text_of}
use Rattle.walrus_parse_laws.specs.Meant.{module_meant, picks}

-- in the table there is a type of this kind under the id
pub record TypeIs (t : Table) (id : ℕ) (kind : Kind) : Type 0 where
  pub item : Item
  pub there : type_at t id ≡ Some item
  pub own_id : item.id ≡ id
  pub kind_is : item.kind ≡ kind

-- each type of a file has an id by its index, and stands under it, renamed
abbrev pub HasTypes : grammar.Module → Table → Ids → Type 0
HasTypes file t found =
    (n : ℕ) (kind : Kind) → slice_get (types_of file) n ≡ Some kind → (id : ℕ) × (slice_get found.types n ≡ Some id) × TypeIs t id (renamed_kind (at found.types) kind)

-- as the groups stand in what a module means, the types of those of the file have the ids 0, 1 and on
abbrev pub HasTypesInOrder : grammar.Module → Table → Ids → Type 0
HasTypesInOrder file t found = (later : List ℕ) × (type_ids t ≡ upto (length (kinds_in (kept found.types 0 file.groups))) ++ later)

-- no two locals have one id
abbrev pub AreApart : Ids → Type 0
AreApart found = (f g n k id : ℕ) → id ≢ nowhere → slice_get (found.locals f) n ≡ Some id → slice_get (found.locals g) k ≡ Some id → (f ≡ g) × (n ≡ k)

-- each index of the file has an id, which is itself, types and locals aside; a function has as many indices of locals as in the file, each with an id of its
-- own where it names a local
pub record HasIndices (file : grammar.Module) (found : Ids) : Type 0 where
  pub functions : found.functions ≡ upto (length file.functions)
  pub tables : found.tables ≡ upto (length file.tables)
  pub memories : found.memories ≡ upto (length file.memories)
  pub tags : found.tags ≡ upto (length file.tags)
  pub globals : found.globals ≡ upto (length file.globals)
  pub elements : found.elements ≡ upto (length file.elements)
  pub segments : found.segments ≡ upto (length file.segments)
  pub locals : (f : ℕ) → f < length file.functions → length (found.locals f) ≡ local_count file f
  pub apart : AreApart found

-- in the module there is a local of this type under the id
pub record LocalIs (locals : List Local) (id : ℕ) (ty : ValType) : Type 0 where
  pub local : Local
  pub there : slice_get locals id ≡ Some local
  pub own_id : local.id ≡ id
  pub type_is : local.ty ≡ ty

-- the types of the parameters of a function of this type
abbrev pub kind_types : Option Kind → List ValType
kind_types None = []
kind_types (Some kind) = params_of kind.form

abbrev pub param_types : grammar.Module → ℕ → List ValType
param_types file ty = kind_types (slice_get (types_of file) ty)

-- which locals of a function of so many parameters the module has: these, and of those that its body declares those that its operators name, or all, where
-- all are wanted
abbrev pub has_local : Bool → ℕ → grammar.Body → List Bool
has_local all params x = replicate params true ++ kept_by all params (length x.locals) (map (λ (o : grammar.Placed). o.op) x.operators)

-- under the id stands the local of this type, where the module has it; else the id is that of none
abbrev pub StandsIf : List Local → Bool → ℕ → ValType → Type 0
StandsIf locals true id ty = LocalIs locals id ty
StandsIf locals false id ty = id ≡ nowhere

abbrev pub AreLocals : List Local → List Bool → List ℕ → List ValType → Type 0
AreLocals locals [] ids tys = (ids ≡ []) × (tys ≡ [])
AreLocals locals (k ∷ ks) [] tys = ⊥
AreLocals locals (k ∷ ks) (id ∷ ids) [] = ⊥
AreLocals locals (k ∷ ks) (id ∷ ids) (ty ∷ tys) = StandsIf locals k id ty × AreLocals locals ks ids tys

-- the locals of a function of this type stand under their ids, parameters and then those that its body declares and the module has, each of its type, renamed
abbrev pub HasTypedLocals : grammar.Module → List Local → Ids → (number ty : ℕ) → grammar.Body → Type 0
HasTypedLocals file locals found number ty x =
    AreLocals locals (has_local found.all_locals (length (param_types file ty)) x) (found.locals number) (map (renamed_value (at found.types)) (param_types file ty ++ x.locals))

-- in the module the locals of the function of this number, by their new numbers, have the ids that are named by its parameters, and then by
-- the locals that its body uses, by type
pub record HasLocals (m : Module) (found : Ids) (pick : BlockType → BlockType) (number params : ℕ) (x : grammar.Body) : Type 0 where
  pub function : Function
  pub there : item_at m.funcs number ≡ Some function
  pub local : LocalFunction
  pub kind : function.kind ≡ kinds.Local local
  pub ids : local_ids m.locals local ≡ map (naming found number Locals) (kept_numbers params (used_keys params (typed found x).locals (normal_ops pick (text_of x))))

-- what of a module in memory has names
abbrev pub holder_of : {B : Type 0} → Whole B → Holder
holder_of m = holder m.types m.funcs m.tables m.memories m.tags m.globals m.elements m.data_segments m.locals m.name

-- the names that it is given: synthetic ones first, where they are wanted, and those of the file, each to what its index names
abbrev pub names_in : {B : Type 0} → ModuleConfig → grammar.Module → Whole B → Ids → List Given
names_in config file m found = all_names config.generate_synthetic_names_for_anonymous_items found (holder_of m) (names_of file)

-- what bears a name has the last one that it was given, and where it was given none it has none
abbrev pub HasNames : List Given → Holder → Type 0
HasNames names m = (bearer : Bearer) → IfSome (name_at m bearer) (λ own. own ≡ last_name bearer None names)

-- where addresses have 32 bits, the sizes are below 2^32
abbrev pub IsSmall : Bool → ℕ → Option ℕ → Type 0
IsSmall wide initial maximum = wide ≡ false → (initial < 2 ^ 32) × IfSome maximum (λ n. n < 2 ^ 32)

pub record AreSized (m : grammar.Module) : Type 0 where
  pub tables : Each (λ (t : grammar.Table). IsSmall t.wide t.initial t.maximum) m.tables
  pub memories : Each (λ (x : grammar.Memory). IsSmall x.wide x.initial x.maximum) m.memories

-- names and producers have places of their own
abbrev pub is_payload : grammar.Custom → Bool
is_payload c = is_at (slice_cmp nat_cmp c.name) (codes "name") || is_at (slice_cmp nat_cmp c.name) (codes "producers")

-- the custom sections that stay sections
abbrev pub section_if : Option grammar.Custom → List (Option grammar.Custom)
section_if None = []
section_if (Some c) = if is_payload c then [] else Some c ∷ []

abbrev pub sections_of : grammar.Module → List (Option grammar.Custom)
sections_of file = flat_map section_if file.customs

-- the bodies of a file's functions, in their order
abbrev pub body_if : grammar.Origin grammar.Body → List grammar.Body
body_if (grammar.Imported import) = []
body_if (grammar.Own x) = x ∷ []

abbrev pub function_bodies : Option grammar.Function → List grammar.Body
function_bodies None = []
function_bodies (Some f) = body_if f.origin

abbrev pub bodies_of : grammar.Module → List grammar.Body
bodies_of file = flat_map function_bodies file.functions

-- the types of a file, in a table that began empty
abbrev pub types_in : grammar.Module → Parsed
types_in file = parsed file.groups (unparsed no_types)

-- the types that the handlers of its bodies have and the file hasn't, in the order of the text, each once
abbrev pub handler_kinds : grammar.Module → List Kind
handler_kinds file = added (types_in file).table (map (sent (at (types_in file).ids)) (bodies_handle file (bodies_of file)))

-- who reads the body of a function sees the module so: what each index names, what types take and give, and the types of tags; of the block types that are
-- there, those of the file's types where they are written, and all for handlers
pub record Sees (file : grammar.Module) (types : Table) (tags : Arena Tag) (found : Ids) (number : ℕ) (s : Sight) : Type 0 where
  pub names : (space : Space) (n : ℕ) → look s space n ≡ id_of found number space n
  pub takes : (id : ℕ) → s.params id ≡ params_at types id
  pub gives : (id : ℕ) → s.results id ≡ results_at types id
  pub picks_so : (ps rs : List ValType) → s.block_type ps rs ≡ own_pick (next_id (types_in file).table) types ps rs
  pub handles : (ps rs : List ValType) → s.handler_type ps rs ≡ picked ps rs types
  pub tag_types : (id : ℕ) → s.tag_type id ≡ tag_type_at tags id

-- the sequences of the function of this number stand as the normal form of this body, for who sees the module so: the type of a block is picked, an `else` has
-- that of its `if`, and a `catch` or `catch_all` the block type of what its tag's type takes and its block gives
pub record HasSequences (file : grammar.Module) (m : Module) (found : Ids) (pick : BlockType → BlockType) (number : ℕ) (x : grammar.Body) : Type 0 where
  pub function : Function
  pub there : item_at m.funcs number ≡ Some function
  pub local : LocalFunction
  pub kind : function.kind ≡ kinds.Local local
  pub sight : Sight
  pub sees : Sees file m.types m.tags found number sight
  pub stands : StandsAs (meaning sight) (map seq_of (seqs_of local.builder)) (normal pick (tree_of (text_of x)))

-- a module in memory that was read from a file of this module; found says which id each index names
pub record MeansFile {B : Type 0} (config : ModuleConfig) (file : grammar.Module) (m : Whole B) (found : Ids) : Type 0 where
  -- the id of a type's index is that of what the type stands for, and any other index is its own id, but for those of locals
  pub types : found.types ≡ (types_in file).ids
  pub others : OthersStay (look_of (record found { locals = λ function. [] }))
  -- each index has one; types stand in the module under theirs, and those of the file's groups stand there in the order of their ids
  pub indices : HasIndices file found
  pub types_stand : HasTypes file m.types found
  pub types_in_order : HasTypesInOrder file m.types found
  -- it means the file's module, so renamed, with the types of handlers behind
  pub meant : means (parts m) ≡ module_meant found (picks (read_features config) file) file (handler_kinds file)
  pub locals : (n : ℕ) (f : grammar.Function) (x : grammar.Body) → slice_get file.functions n ≡ Some (Some f) → f.origin ≡ grammar.Own x
      → HasLocals (parts m) found (picks (read_features config) file) n (param_count file f.ty) x
  -- each local that a body declares has an id where synthetic names are asked for
  pub wanted : found.all_locals ≡ config.generate_synthetic_names_for_anonymous_items
  pub typed_locals : (n : ℕ) (f : grammar.Function) (x : grammar.Body) → slice_get file.functions n ≡ Some (Some f) → f.origin ≡ grammar.Own x → HasTypedLocals file m.locals found n f.ty x
  -- their sequences stand as the file's bodies
  pub sequences : (n : ℕ) (f : grammar.Function) (x : grammar.Body) → slice_get file.functions n ≡ Some (Some f) → f.origin ≡ grammar.Own x
      → HasSequences file (parts m) found (picks (read_features config) file) n x
  -- no global is shared by threads
  pub unshared : Each (λ (g : Global). g.shared ≡ false) m.globals.slots
  -- it is linked, and the file's module meets the rules; sizes with addresses of 32 bits are below 2^32
  pub linked : IsLinked (parts m)
  pub sized : AreSized (means (parts m))
  -- (whether the file has a data count section, which rules of bodies ask for, its module doesn't tell)
  pub counted : Bool
  pub ruled : IsRuled (read_features config) counted file
  -- its custom sections, whatever boxes would give, and its producers, this tool with them
  pub customs : (given : B → grammar.Custom) → slots_of (own_custom given) m.customs ≡ sections_of file
  pub producers : fields_of m.producers ≡ processed (producers_of file)
  pub names : HasNames (names_in config file m found) (holder_of m)

-- the bytes that a module was read from read as the module of a file, and the module means that one
abbrev pub ReadModulesMeanFiles : Type 0 → Type 0
ReadModulesMeanFiles B = (config : ModuleConfig) (bytes : List ℕ) (m : Whole B) (found : Ids) → All (λ b. b < 256) bytes → IsReadAs config bytes m found
    → (file : grammar.Module) × Reads (read_features config) bytes file × MeansFile config file m found
