-- Lemmas: the handlers of a module that was read are those of its file's text.
use Rattle.std.proofs.Common.{◌≡◌, List, [], length, map, ap}
use Rattle.std.specs.Option.{option_map}
use Rattle.walrus_named_bodies.specs.walrus_file_bodies.walrus_items_into.walrus_module_env.walrus_handler_types.walrus_handler_laws.walrus_body_steps.wasm_body_grammar.Rules.{Around}
use Rattle.walrus_named_bodies.specs.walrus_file_bodies.walrus_items_into.wasm_module_rules.wasm_modules.Modules.{around}
use Rattle.walrus_named_bodies.specs.walrus_file_bodies.walrus_items_into.wasm_sections.Within.{bodies_inside}
use Rattle.walrus_named_bodies.proofs.walrus_file_bodies.PairLemmas.{are_apart, chunks_fit}
use Rattle.walrus_named_bodies.proofs.walrus_file_bodies.StopLemmas.{bodies_wait, chunks_fit_in, count_in}
use Rattle.walrus_named_bodies.specs.walrus_file_bodies.Read.{grows_none}
use Rattle.walrus_named_bodies.specs.walrus_file_bodies.Ready.{bodies_in}
use Rattle.walrus_function_types.specs.Growth.{EntryTypesGrow, FoundTypesStay, TablesGrowOn}
use Rattle.walrus_named_bodies.specs.walrus_file_bodies.walrus_items_into.walrus_functions_into.Laws.{read_bodies}
use Rattle.walrus_named_bodies.specs.walrus_file_bodies.walrus_items_into.walrus_functions_into.declared.bodies.FunctionBody.{FunctionBody}
use Rattle.walrus_named_bodies.specs.walrus_file_bodies.walrus_items_into.walrus_module_env.walrus_handler_types.walrus_handler_laws.Handlers.{TreesTell}
use Rattle.walrus_named_bodies.specs.walrus_item_names.Holder.{Holder}
use Rattle.walrus_named_bodies.specs.walrus_item_names.Names.{bare_type}
use Rattle.walrus_named_bodies.specs.walrus_file_bodies.walrus_items_into.Laws.{FilledFunctionsStand, FilledModulesAreFiled}
use Rattle.walrus_named_bodies.specs.walrus_file_bodies.walrus_items_into.walrus_tables_into.walrus_sections_into.walrus_known_sections.State.{state_of}
use Rattle.walrus_named_bodies.specs.walrus_file_bodies.walrus_module_bodies.Steps.{State, state}
use Rattle.walrus_body_laws.specs.walrus_pairing.Laws.{OperatorComesBack}
use Rattle.walrus_named_bodies.specs.Parsed.{read_features}
use Rattle.walrus_named_bodies.specs.walrus_item_names.walrus_module.walrus_types.Table.{Table}
use Rattle.walrus_parse_laws.specs.GroupsTexts.{ReadModulesTellTexts}
use Rattle.walrus_body_laws.proofs.walrus_body_trees.Bodies.{AreSpelled}
use Rattle.walrus_parse_laws.proofs.GroupsTextLemmas.{steps_tell, texts_named}

pub tell_texts : {B : Type 0} → OperatorComesBack → AreSpelled → TreesTell → FilledFunctionsStand B → FilledModulesAreFiled B → EntryTypesGrow → FoundTypesStay → TablesGrowOn → ReadModulesTellTexts B
tell_texts {B} back spelled tell stands filed enter stay on config bytes m found small is =
    let h = is.1 in
    let s = h.sections in
    let features = read_features config in
    let a : Around = around features (state_of s) in
    let bs : List FunctionBody = bodies_in s h.filled.functions in
    let old : State = state h.filled.types [] h.numbers h.filled.functions in
    let final : Table = h.bodied.types in
    let stand = stands features bytes s m.start h.numbers h.filled h.reads.sections h.are_filled in
    let fit = chunks_fit_in s.code_start (length bytes) bs (read_bodies s.bodies) stand.paired.chunks_are (chunks_fit s.code_start (length bytes) s.bodies (bodies_inside features bytes (state_of s) small h.reads.sections)) in
    let waits = bodies_wait features bytes s m.start h.numbers h.filled h.file filed h.reads.sections h.are_filled h.is_file bs [] (are_apart h.filled.functions.slots 0 (read_bodies s.bodies)) in
    let bare : map (option_map bare_type) m.types.types ≡ map (option_map bare_type) final.types = ap (λ (x : Holder). x.types.types) h.names.same in
    texts_named h.file features a m.types final bare bs old h.bodied h.bodies_are
    (steps_tell back spelled tell stay on enter h.file features a (count_in s) final s.code_start (length bytes) bs old h.bodied fit waits h.bodies_are (grows_none final))
