-- The custom sections that are written (Core Specification, appendix Custom Sections): the names of what is kept, the producers, and those of the file.
use Rattle.std.specs.Prelude.{ℕ, suc, ◌||◌, ◌++◌, Bool, true, false, not, List, [], ◌∷◌, filter, map, take, Option, Some, None, slice_index_or, if◌then◌else◌}
use Rattle.std.specs.List.{range_with_len}
use Rattle.walrus_forms.specs.Renaming.{at, renamed_value}
use Rattle.wasm_features.specs.declared.WasmFeatures.{WasmFeatures}
use Rattle.wasm_formats.specs.declared.fault.Space.{Space}
use Rattle.wasm_formats.specs.declared.fault.Space.TheVariants as spaces
use Rattle.wasm_operators.specs.Items.{Types, Functions, Tables, Memories, Tags, Globals, ElementSegments, DataSegments}
use Rattle.wasm_grammar.specs.Modules.{Item, Custom, Origin, Imported, Own, Body, Function, Module}
use Rattle.wasm_body_grammar.specs.Codes.{param_count}
use Rattle.wasm_body_grammar.specs.Rules.{Around}
use Rattle.wasm_name_payloads.specs.Names.{Bearer, TheModule, AnItem, ALocal, Given, given, last_name, names_of, same_name, section_name}
use Rattle.wasm_name_payloads.specs.Producers.{processed, producers_of, section_name as producers_name}
use Rattle.wasm_name_payloads.specs.Written.{NameMap, Names, payload_bytes, producers_bytes}
use Rattle.wasm_normal_form.specs.Bodies.{is_used, used_keys}
use Rattle.wasm_normal_form.specs.Locals.{Key}
use Rattle.wasm_normal_form.specs.Normal.{normal_ops}
use Rattle.wasm_normal_form.specs.Roles.{Placed}
use Rattle.wasm_ruled_modules.specs.Rules.{around_bodies}
use Rattle.wasm_ruled_normal.specs.Normal.{text_of}
use Rattle.wasm_run_names.specs.Picks.{block_pick}
use Rattle.wasm_merged_modules.specs.Merged.{ids_of}
use Rattle.wasm_part.specs.Part.{Plan}
use Rattle.wasm_canonical.specs.Canonical.{is_linking}
use Rattle.wasm_canonical.specs.Due.{items_in}

-- ---- the last name that was read: of a type, for any type that it stands for

abbrev pub stands_for : (ℕ → ℕ) → Bearer → Bearer
stands_for same (AnItem i) = AnItem (by i.space)
  where
    by : Space → Item
    by spaces.«Type» = record { space = spaces.«Type»; number = same i.number }
    by space = record { space = space; number = i.number }
stands_for same bearer = bearer

abbrev pub names_read : Module → List Given
names_read file = map (λ (g : Given). given (stands_for (at (ids_of file.groups)) g.bearer) g.name) (names_of file)

abbrev pub name_read : Module → Bearer → Option (List ℕ)
name_read file bearer = last_name bearer None (names_read file)

-- ---- names by new numbers

abbrev pub named_if : ℕ → Option (List ℕ) → NameMap
named_if i None = []
named_if i (Some name) = (i, name) ∷ []

-- of these old numbers, which are numbered from here on
abbrev pub names_from : (ℕ → Option (List ℕ)) → ℕ → List ℕ → NameMap
names_from name i [] = []
names_from name i (n ∷ ns) = named_if i (name n) ++ names_from name (suc i) ns

abbrev pub listed_in : Plan → Space → List ℕ
listed_in p spaces.«Type» = p.listed Types
listed_in p spaces.Function = p.listed Functions
listed_in p spaces.Table = p.listed Tables
listed_in p spaces.Memory = p.listed Memories
listed_in p spaces.Tag = p.listed Tags
listed_in p spaces.Global = p.listed Globals
listed_in p spaces.Element = p.listed ElementSegments
listed_in p spaces.Data = p.listed DataSegments
listed_in p _ = []

abbrev pub item_names : Module → Plan → Space → NameMap
item_names file p space = names_from (λ n. name_read file (AnItem (record { space = space; number = n }))) 0 (listed_in p space)

-- of a body's locals, arguments too, those that its normal form names
abbrev pub used_name : List Placed → (ℕ → Option (List ℕ)) → ℕ → Option (List ℕ)
used_name ops name n = if is_used ops n then name n else None

-- its locals in their new order: the parameters, and then those that are used
abbrev pub body_names : Module → Around → ℕ → (ℕ → Option (List ℕ)) → Body → NameMap
body_names file a params name x =
    let ops = normal_ops (block_pick a) (text_of x.operators) in
    names_from (used_name ops name) 0 (range_with_len 0 params ++ map (λ (k : Key). k.1) (used_keys params (map (renamed_value (at (ids_of file.groups))) x.locals) ops))

abbrev pub origin_names : Module → Around → ℕ → (ℕ → Option (List ℕ)) → Origin Body → NameMap
origin_names file a params name (Imported n) = []
origin_names file a params name (Own x) = body_names file a params name x

abbrev pub slot_names : Module → Around → ℕ → Option Function → NameMap
slot_names file a f None = []
slot_names file a f (Some g) = origin_names file a (param_count a.filled g.ty) (λ n. name_read file (ALocal f n)) g.origin

abbrev pub function_if : ℕ → NameMap → List (ℕ × NameMap)
function_if i [] = []
function_if i (e ∷ entries) = (i, e ∷ entries) ∷ []

abbrev pub local_names : WasmFeatures → Module → ℕ → List ℕ → List (ℕ × NameMap)
local_names features file i [] = []
local_names features file i (f ∷ fs) =
    function_if i (slot_names file (around_bodies features true file) f (slice_index_or file.functions f None)) ++ local_names features file (suc i) fs

-- of each kept item the last name that was read for it, of locals where the normal form names them; the module's name
abbrev pub names_kept : WasmFeatures → Module → Plan → Names
names_kept features file p = record { own = name_read file TheModule; items = item_names file p; locals = local_names features file 0 (p.listed Functions) }

-- ---- sections: those of dynamic linking, names, producers, all others; none whose name begins with `.debug`

abbrev pub is_debug : Custom → Bool
is_debug c = same_name (take 6 c.name) (0x2e ∷ 0x64 ∷ 0x65 ∷ 0x62 ∷ 0x75 ∷ 0x67 ∷ [])

abbrev pub stays : Custom → Bool
stays c = not (is_debug c || (same_name c.name section_name || same_name c.name producers_name))

abbrev pub section_of : List ℕ → List ℕ → List Custom
section_of name [] = []
section_of name (b ∷ bytes) = record { name = name; bytes = b ∷ bytes } ∷ []

abbrev pub section_if : Bool → List Custom → List Custom
section_if false cs = []
section_if true cs = cs

-- whether names are written, and whether producers are, with the entry of this tool
abbrev pub customs_written : (names producers : Bool) → WasmFeatures → Module → Plan → List Custom
customs_written names producers features file p =
    filter is_linking (filter stays (items_in file.customs))
    ++ (section_if names (section_of section_name (payload_bytes (names_kept features file p)))
    ++ (section_if producers (section_of producers_name (producers_bytes (processed (producers_of file)))) ++ filter (λ c. not (is_linking c)) (filter stays (items_in file.customs))))
