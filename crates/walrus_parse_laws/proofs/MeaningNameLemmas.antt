-- Lemmas: the names in a module that was read.
use Rattle.std.specs.Prelude.{ℕ, zero, suc, ◌≡◌, ◌+◌, Bool, true, false, List, [], ◌∷◌, ◌++◌, IfSome, length, map, MatchOption, Option, Some, None, slice_get, slice_index_or, slice_set, string_bytes, refl}
use Rattle.std.specs.List.{AllByRecursion}
use Rattle.std.specs.Option.{option_and_then, option_map}
use Rattle.std.proofs.Common.{ap, sym, subst, ◌∙◌}
use Rattle.walrus_named_bodies.specs.walrus_file_bodies.walrus_items_into.walrus_module_env.walrus_handler_types.walrus_body_steps.wasm_body_grammar.wasm_formats.declared.fault.Space.{Space}
use Rattle.walrus_named_bodies.specs.walrus_file_bodies.walrus_items_into.walrus_module_env.walrus_handler_types.walrus_body_steps.wasm_body_grammar.wasm_formats.declared.fault.Space.TheVariants as spaces
use Rattle.walrus_named_bodies.specs.walrus_file_bodies.walrus_items_into.walrus_module_env.walrus_handler_types.walrus_body_steps.wasm_body_grammar.wasm_formats.wasm_features.declared.WasmFeatures.{WasmFeatures}
use Rattle.walrus_named_bodies.specs.walrus_file_bodies.walrus_items_into.walrus_module_env.walrus_handler_types.walrus_body_steps.wasm_body_grammar.wasm_grammar.walrus_forms.Kinds.{Kind, entry_kind, function_kind}
use Rattle.walrus_named_bodies.specs.walrus_file_bodies.walrus_items_into.walrus_module_env.walrus_handler_types.walrus_body_steps.wasm_body_grammar.wasm_grammar.walrus_forms.Records.{TypeGroup}
use Rattle.walrus_named_bodies.specs.walrus_file_bodies.walrus_items_into.walrus_module_env.walrus_handler_types.walrus_body_steps.wasm_body_grammar.wasm_grammar.walrus_forms.Renaming.{at, renamed_kind}
use Rattle.walrus_named_bodies.specs.walrus_file_bodies.walrus_items_into.walrus_module_env.walrus_handler_types.walrus_body_steps.wasm_body_grammar.wasm_grammar.walrus_forms.declared.value.ValType.{ValType}
use Rattle.walrus_named_bodies.specs.wasm_name_payloads.Names.{ALocal, AnItem, Bearer, Given, TheModule, last_name}
use Rattle.walrus_arena.specs.Arena.{Arena, item_at}
use Rattle.walrus_named_bodies.specs.walrus_file_bodies.walrus_items_into.Filled.{IsFilledFrom}
use Rattle.walrus_named_bodies.specs.walrus_file_bodies.walrus_items_into.Spaces.{Spaces}
use Rattle.walrus_named_bodies.specs.walrus_file_bodies.walrus_items_into.walrus_functions_into.Functions.{functions_from}
use Rattle.walrus_named_bodies.specs.walrus_file_bodies.walrus_items_into.walrus_functions_into.declared.bodies.FunctionBody.{FunctionBody}
use Rattle.walrus_named_bodies.specs.walrus_file_bodies.walrus_items_into.walrus_tables_into.walrus_sections_into.Slots.{Become, Filled}
use Rattle.walrus_named_bodies.specs.walrus_file_bodies.walrus_items_into.walrus_tables_into.walrus_sections_into.walrus_known_sections.declared.items.Function.{Function as ReadFunction}
use Rattle.walrus_named_bodies.specs.walrus_file_bodies.walrus_items_into.walrus_tables_into.walrus_sections_into.walrus_known_sections.declared.sections.Sections.{Sections}
use Rattle.walrus_named_bodies.specs.walrus_file_bodies.walrus_items_into.wasm_module_rules.Linked.{Each}
use Rattle.walrus_named_bodies.specs.walrus_file_bodies.walrus_module_bodies.Steps.{IsStep, State, Steps}
use Rattle.walrus_named_bodies.specs.walrus_file_bodies.walrus_module_bodies.declared.file.FileEnv.{FileEnv}
use Rattle.walrus_named_bodies.specs.walrus_file_bodies.walrus_items_into.walrus_functions_into.walrus_types_into.Into.{no_types}
use Rattle.walrus_named_bodies.specs.walrus_file_bodies.walrus_items_into.walrus_module_env.walrus_handler_types.Giving.{Finds, FindsIf, Gives, GivesAt, block_results, caught}
use Rattle.walrus_named_bodies.specs.walrus_file_bodies.walrus_items_into.walrus_module_env.walrus_handler_types.walrus_handler_laws.Handlers.{told_by, tree_ids}
use Rattle.walrus_named_bodies.specs.walrus_file_bodies.walrus_items_into.walrus_module_env.walrus_handler_types.walrus_handler_laws.declared.handler.Handler.{Handler}
use Rattle.walrus_body_laws.specs.walrus_pairing.walrus_index_maps.Maps.{Ids}
use Rattle.walrus_named_bodies.specs.walrus_item_names.walrus_module.walrus_module_items.declared.function.Function.{Function}
use Rattle.walrus_named_bodies.specs.walrus_item_names.walrus_module.walrus_module_items.declared.function.FunctionKind.TheVariants as kinds
use Rattle.walrus_named_bodies.specs.walrus_file_bodies.walrus_items_into.walrus_module_bodies.walrus_body_trees.walrus_meaning.walrus_local_function.walrus_body_locals.Locals.{locals_from}
use Rattle.walrus_named_bodies.specs.walrus_file_bodies.walrus_items_into.walrus_module_env.walrus_handler_types.walrus_tree.walrus_builder.Built.{Seq, contents, seq_of}
use Rattle.walrus_named_bodies.specs.walrus_item_names.walrus_module.walrus_types.Groups.{new_items}
use Rattle.walrus_named_bodies.specs.walrus_item_names.walrus_module.walrus_types.Parsing.{Parsed, added, known_ids, merged, parsed, parsed_group, unparsed}
use Rattle.walrus_named_bodies.specs.walrus_item_names.walrus_module.walrus_types.Table.{Adds, Merges, Table, equal_type, next_id}
use Rattle.walrus_body_laws.specs.walrus_pairing.walrus_items.Items.{Item}
use Rattle.walrus_body_laws.specs.walrus_pairing.walrus_items.declared.local.Local.{Local}
use Rattle.walrus_body_laws.specs.walrus_pairing.walrus_instr.BlockTypes.{Makes, picked, short_form}
use Rattle.walrus_body_laws.specs.walrus_pairing.walrus_instr.declared.seq.InstrSeqType.{InstrSeqType}
use Rattle.walrus_body_laws.specs.walrus_pairing.walrus_instr.declared.seq.InstrSeqType.TheVariants.{MultiValue}
use Rattle.walrus_parse_laws.proofs.WholeLemmas.{bare_same}
use Rattle.walrus_named_bodies.specs.walrus_item_names.Gives.{GivesNames}
use Rattle.walrus_named_bodies.specs.walrus_item_names.Holder.{Holder}
use Rattle.walrus_named_bodies.specs.walrus_item_names.Names.{bare_function, data_called, element_called, function_called, global_called, item_name, local_called, memory_called, name_at, table_called, tag_called, type_called}
use Rattle.walrus_named_bodies.specs.walrus_item_names.Synthetic.{args_of, body_args, each_below, function_names, synthetic}
use Rattle.walrus_named_bodies.specs.walrus_file_bodies.walrus_items_into.walrus_module_env.Env.{tag_type_at}
use Rattle.walrus_named_bodies.specs.walrus_file_bodies.walrus_items_into.walrus_payloads_into.Numbered.{locals_in}
use Rattle.walrus_parse_laws.proofs.ItemsSlotLemmas.{each_at}
use Rattle.walrus_parse_laws.specs.Means.{HasNames}

-- ---- lists of slots

each_join : {A : Type 0} (P : A → Type 0) (xs ys : List (Option A)) → Each P xs → Each P ys → Each P (xs ++ ys)
each_join P [] ys h k = k
each_join P (None ∷ xs) ys h k = each_join P xs ys h k
each_join P (Some x ∷ xs) ys h k = (h.0, each_join P xs ys h.1 k)

each_set : {A : Type 0} (P : A → Type 0) (xs : List (Option A)) (n : ℕ) (y : A) → Each P xs → P y → Each P (slice_set xs n (Some y))
each_set P [] n y h p = tt
each_set P (None ∷ xs) zero y h p = (p, h)
each_set P (None ∷ xs) (suc n) y h p = each_set P xs n y h p
each_set P (Some x ∷ xs) zero y h p = (p, h.1)
each_set P (Some x ∷ xs) (suc n) y h p = (h.0, each_set P xs n y h.1 p)

become_each : {X Y : Type 0} (R : ℕ → X → Y → Type 0) (P : Y → Type 0) → ((slot : ℕ) (x : X) (y : Y) → R slot x y → P y) → (xs : List X) (ys : List (Option Y)) (first : ℕ) → Become R xs ys first → Each P ys
become_each R P f [] [] first h = tt
become_each R P f [] (y ∷ ys) first h = absurd h
become_each R P f (x ∷ xs) [] first h = absurd h
become_each R P f (x ∷ xs) (None ∷ ys) first h = absurd h
become_each R P f (x ∷ xs) (Some y ∷ ys) first h = (f first x y h.0, become_each R P f xs ys (suc first) h.1)

filled_each : {X Y : Type 0} (R : ℕ → X → Y → Type 0) (P : Y → Type 0) → ((slot : ℕ) (x : X) (y : Y) → R slot x y → P y) → (xs : List X) (slots : List (Option Y)) → Filled R xs [] slots → Each P slots
filled_each R P f xs slots h = subst (Each P) (sym h.behind) (become_each R P f xs h.more 0 h.become)

-- ---- types

abbrev IsBare : Item → Type 0
IsBare x = x.name ≡ None

abbrev AreBare : Table → Type 0
AreBare t = Each IsBare t.types

items_bare : (id : ℕ) (kinds : List Kind) → Each IsBare (new_items id kinds)
items_bare id [] = tt
items_bare id (kind ∷ kinds) = (refl, items_bare (id + 1) kinds)

merged_bare : (found : Option ℕ) (kind : Kind) (s : Parsed) → AreBare s.table → AreBare (merged found kind s).table
merged_bare (Some id) kind s h = h
merged_bare None kind s h = each_join IsBare s.table.types (new_items (next_id s.table) (kind ∷ [])) h (items_bare (next_id s.table) (kind ∷ []))

added_bare : (marked : Bool) (ks : List Kind) (s : Parsed) → AreBare s.table → AreBare (added marked ks s).table
added_bare true ks s h = each_join IsBare s.table.types (new_items (next_id s.table) ks) h (items_bare (next_id s.table) ks)
added_bare false [] s h = each_join IsBare s.table.types (new_items (next_id s.table) []) h tt
added_bare false (kind ∷ []) s h = merged_bare (equal_type kind s.table) kind s h
added_bare false (a ∷ b ∷ ks) s h = each_join IsBare s.table.types (new_items (next_id s.table) (a ∷ b ∷ ks)) h (items_bare (next_id s.table) (a ∷ b ∷ ks))

parsed_bare : (groups : List TypeGroup) (s : Parsed) → AreBare s.table → AreBare (parsed groups s).table
parsed_bare [] s h = h
parsed_bare (g ∷ groups) s h = parsed_bare groups (parsed_group g s) (added_bare g.marked (map (renamed_kind (at (known_ids g s))) g.kinds) s h)

merges_bare : (kind : Kind) (id : ℕ) (t v : Table) → Merges kind id t v → AreBare t → AreBare v
merges_bare kind id t v m h = go (equal_type kind t) m
  where
    go : (o : Option ℕ) → MatchOption o (Adds kind id t v) (λ found. (id ≡ found) × (v ≡ t)) → AreBare v
    go (Some found) k = subst AreBare (sym k.1) h
    go None k = subst (Each IsBare) (sym k.types) (each_join IsBare t.types _ h (refl, tt))

makes_bare : (ps rs : List ValType) (ty : InstrSeqType) (t v : Table) → Makes ps rs ty t v → AreBare t → AreBare v
makes_bare ps rs ty t v m h = go (short_form ps rs) m
  where
    go : (o : Option InstrSeqType) → MatchOption o ((id : ℕ) × (ty ≡ MultiValue id) × Merges (function_kind ps rs) id t v) (λ short. (ty ≡ short) × (v ≡ t)) → AreBare v
    go (Some short) k = subst AreBare (sym k.1) h
    go None k = merges_bare (function_kind ps rs) k.0 t v k.2 h

finds_bare : (ps rs : List ValType) (ty : InstrSeqType) (t v : Table) → Finds ps rs t ty v → AreBare t → AreBare v
finds_bare ps rs ty t v f h = go (picked ps rs t) f
  where
    go : (o : Option InstrSeqType) → MatchOption o (Makes ps rs ty t v) (λ found. (ty ≡ found) × (v ≡ t)) → AreBare v
    go (Some found) k = subst AreBare (sym k.1) h
    go None k = makes_bare ps rs ty t v k h

if_bare : (o p : Option (List ValType)) (was ty : InstrSeqType) (t v : Table) → FindsIf o p was t ty v → AreBare t → AreBare v
if_bare (Some ps) (Some rs) was ty t v f h = finds_bare ps rs ty t v f h
if_bare (Some ps) None was ty t v f h = subst AreBare (sym f.1) h
if_bare None (Some rs) was ty t v f h = subst AreBare (sym f.1) h
if_bare None None was ty t v f h = subst AreBare (sym f.1) h

at_bare : (k : ℕ) (x : Option Handler) (b c : List Seq) (t v : Table) → GivesAt k x b t c v → AreBare t → AreBare v
at_bare k None b c t v g h = subst AreBare (sym g.1) h
at_bare k (Some x) b c t v (y, found, ty, g, is) h = if_bare (caught t x.tag_type) (block_results t x.block) y.ty ty t v g h

gives_bare : (told : ℕ → Option Handler) (ks : List ℕ) (b c : List Seq) (t v : Table) → Gives told ks b t c v → AreBare t → AreBare v
gives_bare told [] b c t v g h = subst AreBare (sym g.1) h
gives_bare told (k ∷ ks) b c t v (mid, u, one, rest) h = gives_bare told ks mid c u v rest (at_bare k (told k) b mid t u one h)

-- ---- functions and locals

abbrev IsPlain : Function → Type 0
IsPlain f = f.name ≡ None

functions_plain : (types : List ℕ) (id : ℕ) (reads : List ReadFunction) → Each IsPlain (functions_from types id reads)
functions_plain types id [] = tt
functions_plain types id (read ∷ reads) = (refl, functions_plain types (suc id) reads)

abbrev IsBareLocal : Local → Type 0
IsBareLocal l = l.name ≡ None

locals_bare : (id : ℕ) (tys : List ValType) → AllByRecursion IsBareLocal (locals_from id tys)
locals_bare id [] = tt
locals_bare id (ty ∷ tys) = (refl, locals_bare (suc id) tys)

all_join : {A : Type 0} (P : A → Type 0) (xs ys : List A) → AllByRecursion P xs → AllByRecursion P ys → AllByRecursion P (xs ++ ys)
all_join P [] ys h k = k
all_join P (x ∷ xs) ys h k = (h.0, all_join P xs ys h.1 k)

-- ---- all of it, while bodies are read

pub record NoNames (s : State) : Type 0 where
  pub types : AreBare s.types
  pub functions : Each IsPlain s.functions.slots
  pub locals : AllByRecursion IsBareLocal s.locals

module _ (file : FileEnv) (features : WasmFeatures) where
  step_bare : (b : FunctionBody) (old new : State) → IsStep file features b old new → NoNames old → NoNames new
  step_bare b old new s h = record {
    types = gives_bare (told_by (tag_type_at s.handled.env.tags.now) s.handled.own (tree_ids s.handled.tree)) (tree_ids s.handled.tree) (map seq_of s.handled.own) (contents s.body.builder.builder) s.mid new.types s.handled.given
        (merges_bare (entry_kind s.results) s.entry old.types s.mid s.entered h.types);
    functions = subst (λ (a : Arena Function). Each IsPlain a.slots) (sym s.given)
        (each_set IsPlain old.functions.slots b.number (record s.item { kind = kinds.Local s.body }) h.functions (each_at IsPlain old.functions.slots b.number s.item h.functions s.was));
    locals = subst (AllByRecursion IsBareLocal) (sym s.left.added)
        (all_join IsBareLocal s.named (locals_from (length s.named) s.left.tys)
        (subst (AllByRecursion IsBareLocal) (sym s.arguments.added) (all_join IsBareLocal old.locals (locals_from (length old.locals) s.params) h.locals (locals_bare (length old.locals) s.params)))
        (locals_bare (length s.named) s.left.tys));
  }

  pub steps_bare : (bs : List FunctionBody) (old new : State) → Steps file features bs old new → NoNames old → NoNames new
  steps_bare [] old new e h = subst NoNames (sym e) h
  steps_bare (b ∷ bs) old new (mid, step, rest) h = steps_bare bs mid new rest (step_bare b old mid step h)

-- ---- names that are given

if_none : (o p : Option (Option (List ℕ))) (f : Option (List ℕ) → Option (List ℕ)) → p ≡ option_map f o → IfSome o (λ own. own ≡ None) → IfSome p (λ own. own ≡ f None)
if_none None p f e h = rw e tt
if_none (Some old) p f e h = rw e (ap f h)

called_none : {A : Type 0} (called : A → Option (List ℕ)) (P : A → Type 0) → ((x : A) → P x → called x ≡ None) → (slots : List (Option A)) (n : ℕ) → Each P slots
    → IfSome (option_map called (slice_index_or slots n None)) (λ own. own ≡ None)
called_none called P f [] n h = tt
called_none called P f (None ∷ slots) zero h = tt
called_none called P f (Some x ∷ slots) zero h = f x h.0
called_none called P f (None ∷ slots) (suc n) h = called_none called P f slots n h
called_none called P f (Some x ∷ slots) (suc n) h = called_none called P f slots n h.1

local_none : (ls : List Local) (n : ℕ) → AllByRecursion IsBareLocal ls → IfSome (option_map local_called (slice_get ls n)) (λ own. own ≡ None)
local_none [] n h = tt
local_none (l ∷ ls) zero h = ap (option_map string_bytes) h.0
local_none (l ∷ ls) (suc n) h = local_none ls n h.1

-- what a module has that its file filled, before names are given
module _ {B : Type 0} (s : Sections) (begin : Option ℕ) (i : Ids) (f : Spaces B) (filled : IsFilledFrom s begin i f) (bodied : State) (none : NoNames bodied) (m : Holder) (types : m.types ≡ bodied.types)
    (funcs : m.funcs ≡ bodied.functions) (locals : m.locals ≡ bodied.locals) (tables : m.tables ≡ f.tables) (memories : m.memories ≡ f.memories) (tags : m.tags ≡ f.tags) (globals : m.globals ≡ f.globals)
    (elements : m.elements ≡ f.elements) (segments : m.data_segments ≡ f.segments) (own : m.name ≡ None) where
  none_in : (space : Space) (n : ℕ) → IfSome (item_name m space n) (λ own. own ≡ None)
  none_in spaces.«Type» n = rw types (called_none type_called IsBare (λ x e. e) bodied.types.types n none.types)
  none_in spaces.Function n = rw funcs (called_none function_called IsPlain (λ x e. ap (option_map string_bytes) e) bodied.functions.slots n none.functions)
  none_in spaces.Table n = rw tables (called_none table_called (λ x. x.name ≡ None) (λ x e. ap (option_map string_bytes) e) f.tables.slots n (filled_each _ (λ x. x.name ≡ None) (λ slot x y r. r.no_name) s.tables.items f.tables.slots filled.tables))
  none_in spaces.Memory n = rw memories (called_none memory_called (λ x. x.name ≡ None) (λ x e. ap (option_map string_bytes) e) f.memories.slots n (filled_each _ (λ x. x.name ≡ None) (λ slot x y r. r.no_name) s.memories.items f.memories.slots filled.memories))
  none_in spaces.Tag n = rw tags (called_none tag_called (λ x. x.name ≡ None) (λ x e. ap (option_map string_bytes) e) f.tags.slots n (filled_each _ (λ x. x.name ≡ None) (λ slot x y r. r.no_name) s.tags.items f.tags.slots filled.tags))
  none_in spaces.Global n = rw globals (called_none global_called (λ x. x.name ≡ None) (λ x e. ap (option_map string_bytes) e) f.globals.slots n (filled_each _ (λ x. x.name ≡ None) (λ slot x y r. r.no_name) s.globals.items f.globals.slots filled.globals))
  none_in spaces.Element n = rw elements (called_none element_called (λ x. x.name ≡ None) (λ x e. ap (option_map string_bytes) e) f.elements.slots n (filled_each _ (λ x. x.name ≡ None) (λ slot x y r. r.no_name) s.elements.items f.elements.slots filled.elements))
  none_in spaces.Data n = rw segments (called_none data_called (λ x. x.name ≡ None) (λ x e. ap (option_map string_bytes) e) f.segments.slots n (filled_each _ (λ x. x.name ≡ None) (λ slot x y r. r.no_name) s.segments.items f.segments.slots filled.segments))
  none_in spaces.Local n = rw locals (local_none bodied.locals n none.locals)
  none_in spaces.Label n = tt

  none_at : (bearer : Bearer) → IfSome (name_at m bearer) (λ own. own ≡ None)
  none_at TheModule = ap (option_map string_bytes) own
  none_at (AnItem x) = none_in x.space x.number
  none_at (ALocal function local) = tt

  pub named_so : (names : List Given) (n : Holder) → GivesNames names m n → HasNames names n
  named_so names n gives bearer = if_none (name_at m bearer) (name_at n bearer) (λ found. last_name bearer found names) (gives.named bearer) (none_at bearer)

-- ---- synthetic names don't depend on names

args_bare : (o : Option Function) → args_of o ≡ args_of (option_map bare_function o)
args_bare None = refl
args_bare (Some f) = refl

pub synthetic_same : (ids : Ids) (m n : Holder) → map (option_map bare_function) m.funcs.slots ≡ map (option_map bare_function) n.funcs.slots → synthetic ids m ≡ synthetic ids n
synthetic_same ids m n e =
    ap (λ (args : ℕ → Option ℕ). each_below (length ids.functions) (λ number. function_names number (length (locals_in ids number)) (option_and_then args (slice_get ids.functions number))))
    (λ i id. one id i)
  where
    one : (id : ℕ) → body_args m id ≡ body_args n id
    one id = args_bare (item_at m.funcs id) ∙ ap args_of (bare_same bare_function m.funcs.slots n.funcs.slots id e) ∙ sym (args_bare (item_at n.funcs id))

-- types of a file, and its functions
pub filled_bare : {B : Type 0} (s : Sections) (begin : Option ℕ) (i : Ids) (f : Spaces B) → IsFilledFrom s begin i f → NoNames (record { types = f.types; locals = []; ids = i; functions = f.functions })
filled_bare s begin i f h = record {
  types = subst AreBare (sym h.types) (parsed_bare s.types (unparsed no_types) tt);
  functions = subst (Each IsPlain) (sym h.functions) (functions_plain i.types 0 s.functions.items);
  locals = tt;
}
