-- Lemmas: the groups of a module that was read.
use Rattle.std.proofs.Common.{◌≡◌, ◌∙◌, ℕ, false, List, [], ◌++◌, length, map, Option, sym, ap, subst}
use Rattle.std.specs.List.{AllByRecursion, flat_map}
use Rattle.std.specs.Option.{option_map}
use Rattle.walrus_named_bodies.specs.walrus_file_bodies.walrus_items_into.walrus_module_env.walrus_handler_types.walrus_handler_laws.walrus_body_steps.wasm_body_grammar.Rules.{Around}
use Rattle.walrus_named_bodies.specs.walrus_file_bodies.walrus_items_into.wasm_module_rules.wasm_modules.Modules.{around}
use Rattle.walrus_named_bodies.specs.walrus_file_bodies.walrus_items_into.wasm_sections.Within.{bodies_inside}
use Rattle.walrus_named_bodies.proofs.walrus_file_bodies.PairLemmas.{are_apart, chunks_fit}
use Rattle.walrus_named_bodies.proofs.walrus_file_bodies.StopLemmas.{bodies_wait, chunks_fit_in, count_in}
use Rattle.walrus_named_bodies.specs.walrus_file_bodies.Laws.{BodiesReadFiles}
use Rattle.walrus_named_bodies.specs.walrus_file_bodies.Read.{grows_none}
use Rattle.walrus_named_bodies.specs.walrus_file_bodies.Ready.{bodies_in}
use Rattle.walrus_forms.specs.Records.{TypeGroup}
use Rattle.walrus_function_types.specs.Growth.{EntryTypesGrow, FoundTypesStay, TablesGrowOn}
use Rattle.walrus_named_bodies.specs.walrus_file_bodies.walrus_items_into.walrus_functions_into.Laws.{read_bodies}
use Rattle.walrus_named_bodies.specs.walrus_file_bodies.walrus_items_into.walrus_functions_into.declared.bodies.FunctionBody.{FunctionBody}
use Rattle.walrus_parse_laws.specs.FilledGroups.{GroupsMean, ReadTypesAreDeclared, kept}
use Rattle.walrus_named_bodies.specs.walrus_file_bodies.walrus_items_into.walrus_module_env.walrus_handler_types.walrus_handler_laws.declared.handler.Handler.{Handler}
use Rattle.walrus_body_laws.specs.walrus_pairing.walrus_index_maps.Maps.{Ids}
use Rattle.walrus_named_bodies.specs.walrus_item_names.Holder.{Holder}
use Rattle.walrus_named_bodies.specs.walrus_item_names.Names.{bare_type}
use Rattle.walrus_named_bodies.specs.walrus_file_bodies.walrus_items_into.Laws.{FilledFunctionsStand, FilledModulesAreFiled}
use Rattle.walrus_named_bodies.specs.walrus_file_bodies.walrus_items_into.Numbers.{types_in}
use Rattle.walrus_named_bodies.specs.walrus_file_bodies.walrus_items_into.walrus_tables_into.walrus_sections_into.walrus_known_sections.State.{state_of}
use Rattle.walrus_named_bodies.specs.walrus_file_bodies.walrus_module_bodies.Steps.{State, state}
use Rattle.walrus_body_laws.specs.walrus_pairing.Laws.{OperatorComesBack}
use Rattle.walrus_named_bodies.specs.Parsed.{read_features}
use Rattle.walrus_named_bodies.specs.walrus_item_names.walrus_module.walrus_types.Table.{Table}
use Rattle.walrus_named_bodies.specs.walrus_file_bodies.walrus_items_into.walrus_functions_into.walrus_types_into.Into.{TypesNameBelow}
use Rattle.walrus_parse_laws.specs.Added.{Signature, added, is_missing, single}
use Rattle.walrus_parse_laws.specs.Groups.{ReadModulesHaveGroups, handlers_of}
use Rattle.walrus_parse_laws.specs.Handlers.{signatures}
use Rattle.walrus_parse_laws.proofs.GroupsFileLemmas.{all_found, all_signatures, all_types, file_closed, same_groups}
use Rattle.walrus_parse_laws.proofs.FoundLemmas.{none_missing}
use Rattle.walrus_body_laws.proofs.walrus_body_trees.Bodies.{AreSpelled}
use Rattle.walrus_parse_laws.proofs.GroupsStepLemmas.{steps_stand}
use Rattle.walrus_parse_laws.proofs.GroupsTableLemmas.{Stands, stands_first}

pub have_groups : {B : Type 0} → OperatorComesBack → AreSpelled → FilledFunctionsStand B → FilledModulesAreFiled B → BodiesReadFiles B → EntryTypesGrow → FoundTypesStay → TablesGrowOn → GroupsMean → TypesNameBelow
    → ReadTypesAreDeclared → ReadModulesHaveGroups B
have_groups {B} back spelled stands filed bodies enter stay on mean below declares config bytes m found small is =
    let h = is.1 in
    let s = h.sections in
    let features = read_features config in
    let a : Around = around features (state_of s) in
    let bs : List FunctionBody = bodies_in s h.filled.functions in
    let old : State = state h.filled.types [] h.numbers h.filled.functions in
    let hs : List (Option Handler) = handlers_of config bytes m found is in
    let table : Table = (types_in s).table in
    let ids : List ℕ = (types_in s).ids in
    let final : Table = h.bodied.types in
    let read = bodies features bytes s m.start h.numbers h.filled h.file [] h.bodied h.reads.short small h.reads.sections h.are_filled h.is_file h.bodies_are in
    let numbered : found.types ≡ ids = ap (λ (j : Ids). j.types) (h.found_are ∙ read.3) ∙ ap (λ (j : Ids). j.types) h.are_filled.numbers in
    let stand = stands features bytes s m.start h.numbers h.filled h.reads.sections h.are_filled in
    let fit = chunks_fit_in s.code_start (length bytes) bs (read_bodies s.bodies) stand.paired.chunks_are (chunks_fit s.code_start (length bytes) s.bodies (bodies_inside features bytes (state_of s) small h.reads.sections)) in
    let waits = bodies_wait features bytes s m.start h.numbers h.filled h.file filed h.reads.sections h.are_filled h.is_file bs [] (are_apart h.filled.functions.slots 0 (read_bodies s.bodies)) in
    let first : Stands table [] h.filled.types = subst (Stands table []) (sym h.are_filled.types) (stands_first table (file_closed s.types)) in
    let ended = steps_stand back spelled stay on enter h.file features a (count_in s) table s.code_start (length bytes) bs old h.bodied fit waits h.bodies_are final (grows_none final) [] first in
    let bare : map (option_map bare_type) m.types.types ≡ map (option_map bare_type) final.types = ap (λ (x : Holder). x.types.types) h.names.same in
    let alike : m.types.groups ≡ final.groups = ap (λ (x : Holder). x.types.groups) h.names.same in
    record {
      groups =
          same_groups m.types final bare alike
          ∙ ended.0.groups
          ∙ ap (λ (l : List TypeGroup). l ++ map single (added table (flat_map (signatures final) hs))) (mean s.types (below features bytes (state_of s) h.reads.sections) (declares features bytes (state_of s) h.reads.sections))
          ∙ ap (λ (l : List Signature). kept ids 0 s.types ++ map single (added table l)) (sym (all_signatures m.types final bare hs))
          ∙ ap (λ (l : List ℕ). kept l 0 s.types ++ map single (added table (flat_map (signatures m.types) hs))) (sym numbered);
      typed = all_types m.types final bare hs ended.1;
      found =
          subst (λ (l : List Signature). AllByRecursion (λ x. is_missing m.types x ≡ false) l) (sym (all_signatures m.types final bare hs))
          (all_found m.types final bare (flat_map (signatures final) hs) (none_missing table (flat_map (signatures final) hs) final ended.0));
    }
