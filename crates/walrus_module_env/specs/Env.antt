-- What the body of a function asks of its module while the file is read (Core Specification, validation: contexts).
use Rattle.std.specs.Prelude.{ℕ, nat_lt, Bool, true, false, List, Option, Some, None, if◌then◌else◌}
use Rattle.std.specs.Option.{option_map, option_map_or}
use Rattle.walrus_arena.specs.Arena.{Arena, item_at}
use Rattle.walrus_forms.specs.declared.value.ValType.{ValType}
use Rattle.walrus_types.specs.Table.{Table, found_type}
use Rattle.walrus_body_env.specs.walrus_instr.BlockTypes.{picked}
use Rattle.walrus_body_env.specs.walrus_instr.declared.seq.InstrSeqType.{InstrSeqType}
use Rattle.walrus_body_env.specs.walrus_instr.declared.seq.InstrSeqType.TheVariants.{Simple, MultiValue}
use Rattle.walrus_functions_into.specs.walrus_collections.walrus_module_items.declared.memory.Memory.{Memory}
use Rattle.walrus_functions_into.specs.walrus_collections.walrus_module_items.declared.tag.Tag.{Tag}
-- the parameters and results of a form, and of a live function type
pub use Rattle.walrus_function_types.specs.FunctionTypes.{form_params, form_results, params_at, results_at}

-- the type of a block names none of the types behind the file's own, which have the first ids
abbrev pub is_own : ℕ → InstrSeqType → Bool
is_own own (Simple ty) = true
is_own own (MultiValue id) = nat_lt id own

abbrev pub if_own : ℕ → Option InstrSeqType → Option InstrSeqType
if_own own None = None
if_own own (Some ty) = if is_own own ty then Some ty else None

-- the type that is found for parameters and results, if it is one of the file's own
abbrev pub own_found : ℕ → Table → List ValType → List ValType → Option InstrSeqType
own_found own t params results = if_own own (option_map MultiValue (found_type params results t))

-- the block type that a written one picks, among the file's own types
abbrev pub own_pick : ℕ → Table → List ValType → List ValType → Option InstrSeqType
own_pick own t params results = if_own own (picked params results t)

-- the type of a live tag, and whether a live memory has 64-bit addresses
abbrev pub tag_type_at : Arena Tag → ℕ → Option ℕ
tag_type_at tags id = option_map (λ (t : Tag). t.ty) (item_at tags id)

abbrev pub is_wide_at : Arena Memory → ℕ → Bool
is_wide_at memories id = option_map_or (λ (m : Memory). m.memory64) (item_at memories id) false
