-- Lemmas: where locations were sent, all that has names has those that it had.
use Rattle.std.specs.Prelude.{ℕ, ◌≡◌, false, List, [], ◌++◌, length, IfSome, Option, Some, None, slice_get, refl, if◌then◌else◌}
use Rattle.std.specs.Option.{option_and_then, option_map}
use Rattle.std.proofs.Common.{ap, sym, subst}
use Rattle.wasm_merged_modules.specs.wasm_normal_modules.wasm_ruled_renamed.wasm_ruled_normal.wasm_ruled_modules.wasm_module_rules.wasm_modules.wasm_body_grammar.wasm_formats.declared.fault.Space.{Space}
use Rattle.wasm_merged_modules.specs.wasm_normal_modules.wasm_ruled_renamed.wasm_ruled_normal.wasm_ruled_modules.wasm_module_rules.wasm_modules.wasm_body_grammar.wasm_formats.declared.fault.Space.TheVariants as spaces
use Rattle.wasm_merged_modules.specs.wasm_normal_modules.wasm_ruled_renamed.wasm_ruled_normal.wasm_ruled_modules.wasm_module_rules.wasm_modules.wasm_body_grammar.wasm_grammar.Modules as grammar
use Rattle.walrus_config.specs.declared.config.ModuleConfig.{ModuleConfig}
use Rattle.walrus_parse_laws.specs.walrus_meaning.walrus_body_writer.walrus_pairing.walrus_index_maps.Maps.{Ids}
use Rattle.walrus_parse_laws.specs.walrus_named_bodies.walrus_item_names.Names.{function_called, item_name, name_at}
use Rattle.walrus_parse_laws.specs.walrus_named_bodies.walrus_item_names.Sent.{sent_names}
use Rattle.walrus_parse_laws.specs.walrus_named_bodies.walrus_item_names.Synthetic.{args_of, each_below, function_names}
use Rattle.walrus_parse_laws.specs.walrus_named_bodies.walrus_item_names.walrus_module.declared.module.Module.{Module as Whole}
use Rattle.walrus_parse_laws.specs.walrus_named_bodies.walrus_item_names.walrus_module.walrus_module_items.declared.function.Function.{Function}
use Rattle.walrus_parse_laws.specs.walrus_named_bodies.walrus_item_names.walrus_module.walrus_module_items.declared.function.FunctionKind.{FunctionKind}
use Rattle.walrus_parse_laws.specs.walrus_named_bodies.walrus_item_names.walrus_module.walrus_module_items.declared.function.FunctionKind.TheVariants as kinds
use Rattle.walrus_parse_laws.specs.walrus_named_bodies.walrus_item_names.walrus_module.walrus_module_items.Functions.{local_of}
use Rattle.walrus_parse_laws.specs.walrus_meaning.walrus_local_function.declared.local_function.LocalFunction.{LocalFunction}
use Rattle.walrus_parse_laws.specs.Means.{HasNames, holder_of, names_in}
use Rattle.walrus_parse_gc_laws.proofs.SentLemmas.{FunctionShifted, KindShifted, SlotsShifted}
use Rattle.walrus_parse_gc_laws.proofs.ZipLemmas.{OptionZip, zip_slots}
use Rattle.walrus_meaning.specs.walrus_linked.walrus_module.walrus_types.walrus_forms.walrus_arena.Arena.{Arena, item_at}
use Rattle.walrus_walks.specs.walrus_instr.declared.seq.InstrLocId.{InstrLocId}
use Rattle.walrus_parse_laws.specs.walrus_named_bodies.wasm_name_payloads.Names.{ALocal, AnItem, Bearer, Given, TheModule, last_name, names_of}
use Rattle.walrus_parse_laws.specs.walrus_named_bodies.walrus_file_bodies.walrus_items_into.walrus_payloads_into.Numbered.{locals_in}

module _ (P : InstrLocId → InstrLocId → Type 0) where
  -- how many arguments a function has
  abbrev kind_args : FunctionKind → Option ℕ
  kind_args kind = option_map (λ (body : LocalFunction). length body.args.items) (local_of kind)

  args_stay : (kind after : FunctionKind) → KindShifted P kind after → kind_args after ≡ kind_args kind
  args_stay (kinds.Local local) after (new, is, moved) = subst (λ (k : FunctionKind). kind_args k ≡ kind_args (kinds.Local local)) (sym is) (λ i. Some (length (moved.args i)))
  args_stay (kinds.Import imported) after is = ap kind_args is
  args_stay (kinds.Uninitialized ty) after is = ap kind_args is

  slot_args : (o p : Option Function) → OptionZip (FunctionShifted P) o p → args_of p ≡ args_of o
  slot_args None None z = refl
  slot_args None (Some g) z = absurd z
  slot_args (Some f) None z = absurd z
  slot_args (Some f) (Some g) z = args_stay f.kind g.kind z.kind

  slot_called : (o p : Option Function) → OptionZip (FunctionShifted P) o p → option_map function_called p ≡ option_map function_called o
  slot_called None None z = refl
  slot_called None (Some g) z = absurd z
  slot_called (Some f) None z = absurd z
  slot_called (Some f) (Some g) z = λ i. Some (function_called (z.rest i))

  module _ {B : Type 0} (m : Whole B) (functions : Arena Function) (moved : SlotsShifted P m.funcs.slots functions.slots) where
    abbrev n : Whole B
    n = record m { funcs = functions }

    shifted_at : (id : ℕ) → OptionZip (FunctionShifted P) (item_at m.funcs id) (item_at functions id)
    shifted_at id = zip_slots (FunctionShifted P) m.funcs.slots functions.slots moved id

    item_called : (space : Space) (id : ℕ) → item_name (holder_of n) space id ≡ item_name (holder_of m) space id
    item_called spaces.Function id = slot_called (item_at m.funcs id) (item_at functions id) (shifted_at id)
    item_called _ id = refl

    bearer_called : (bearer : Bearer) → name_at (holder_of n) bearer ≡ name_at (holder_of m) bearer
    bearer_called TheModule = refl
    bearer_called (AnItem x) = item_called x.space x.number
    bearer_called (ALocal function local) = refl

    given_same : (config : ModuleConfig) (file : grammar.Module) (found : Ids) → names_in config file n found ≡ names_in config file m found
    given_same config file found =
        let flag = config.generate_synthetic_names_for_anonymous_items in
        let by = λ (args : ℕ → Option ℕ) (number : ℕ). function_names number (length (locals_in found number)) (option_and_then args (slice_get found.functions number)) in
        λ i. sent_names false found (if flag then each_below (length found.functions) (by (λ id. slot_args (item_at m.funcs id) (item_at functions id) (shifted_at id) i)) else []) ++ sent_names flag found (names_of file)

    pub names_stay : (config : ModuleConfig) (file : grammar.Module) (found : Ids) → HasNames (names_in config file m found) (holder_of m) → HasNames (names_in config file n found) (holder_of n)
    names_stay config file found has = λ bearer.
        let Named : List Given → Type 0 = λ names. IfSome (name_at (holder_of n) bearer) (λ own. own ≡ last_name bearer None names) in
        let Here : Option (Option (List ℕ)) → Type 0 = λ o. IfSome o (λ own. own ≡ last_name bearer None (names_in config file m found)) in
        subst Named (sym (given_same config file found)) (subst Here (sym (bearer_called bearer)) (has bearer))
