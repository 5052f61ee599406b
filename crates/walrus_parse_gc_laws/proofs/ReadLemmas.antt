-- Lemmas: no heap type in a module that was read is exact.
use Rattle.std.proofs.Common.{ap, inl, inr, subst, sym, ◌∙◌}
use Rattle.std.specs.List.{flat_map}
use Rattle.std.specs.Option.{option_map}
use Rattle.std.specs.Prelude.{List, MatchOption, None, Option, Some, [], length, map, refl, slice_get, slice_index_or, suc, zero, ℕ, ◌∷◌, ◌≡◌}
use Rattle.walrus_meaning.specs.walrus_linked.walrus_module.walrus_types.walrus_forms.walrus_arena.Arena.{item_at}
use Rattle.walrus_parse_laws.specs.walrus_named_bodies.walrus_file_bodies.walrus_items_into.walrus_module_env.walrus_handler_types.walrus_tree.walrus_builder.Functions.{seqs_of}
use Rattle.walrus_pass_laws.specs.walrus_exact.Exact.{data_exact, element_exact, global_exact, table_exact, val_exact}
use Rattle.walrus_parse_laws.proofs.walrus_file_bodies.StopLemmas.{count_in}
use Rattle.walrus_parse_laws.specs.walrus_named_bodies.walrus_file_bodies.Read.{Waits, grows_none, steps_grow}
use Rattle.walrus_parse_laws.specs.walrus_named_bodies.walrus_file_bodies.Ready.{bodies_in}
use Rattle.walrus_parse_laws.specs.walrus_pairing.walrus_forms.Renaming.{at}
use Rattle.walrus_function_types.specs.Growth.{EntryTypesGrow, FoundTypesStay, TablesGrowOn}
use Rattle.walrus_parse_laws.specs.walrus_named_bodies.walrus_file_bodies.walrus_items_into.walrus_functions_into.Functions.{kind_of}
use Rattle.walrus_parse_laws.specs.walrus_named_bodies.walrus_file_bodies.walrus_items_into.walrus_functions_into.declared.bodies.FunctionBody.{FunctionBody}
use Rattle.walrus_parse_laws.specs.Meaning.{type_id}
use Rattle.walrus_parse_laws.specs.Renamed.{retyped_element, retyped_global, retyped_segment, retyped_table}
use Rattle.walrus_parse_laws.specs.walrus_named_bodies.walrus_item_names.Holder.{Holder}
use Rattle.walrus_parse_laws.specs.walrus_named_bodies.walrus_item_names.Names.{bare_function, bare_local, bare_type}
use Rattle.walrus_parse_laws.specs.walrus_pairing.walrus_items.declared.local.Local.{Local}
use Rattle.walrus_parse_laws.specs.walrus_named_bodies.walrus_file_bodies.walrus_items_into.Laws.{FilledFunctionsStand, FilledModulesAreFiled}
use Rattle.walrus_parse_laws.specs.walrus_named_bodies.walrus_file_bodies.walrus_items_into.walrus_functions_into.walrus_types_into.walrus_known_sections.Items.{chunk_of}
use Rattle.walrus_parse_laws.specs.walrus_named_bodies.walrus_file_bodies.walrus_items_into.walrus_functions_into.walrus_types_into.walrus_known_sections.State.{state_of}
use Rattle.walrus_parse_laws.specs.walrus_named_bodies.walrus_file_bodies.walrus_items_into.walrus_functions_into.walrus_types_into.walrus_known_sections.declared.sections.Sections.{Sections}
use Rattle.walrus_parse_laws.specs.walrus_named_bodies.walrus_file_bodies.walrus_items_into.walrus_module_env.walrus_collections.walrus_local_function.declared.local_function.LocalFunction.{LocalFunction}
use Rattle.walrus_parse_laws.specs.walrus_named_bodies.walrus_file_bodies.walrus_items_into.walrus_module_bodies.walrus_body_trees.walrus_meaning.Meaning.{means, own_element, own_global, own_segment, own_table}
use Rattle.walrus_pass_laws.specs.walrus_references.walrus_module.Parts.{Module, parts}
use Rattle.walrus_parse_laws.specs.walrus_named_bodies.walrus_file_bodies.walrus_module_bodies.Steps.{State, state}
use Rattle.walrus_parse_laws.specs.walrus_named_bodies.walrus_file_bodies.walrus_items_into.walrus_module_env.Parsed.{PicksAreSeen}
use Rattle.walrus_parse_laws.specs.walrus_named_bodies.walrus_file_bodies.walrus_items_into.walrus_module_env.walrus_collections.walrus_module_items.declared.data.Data.{Data}
use Rattle.walrus_parse_laws.specs.walrus_named_bodies.walrus_file_bodies.walrus_items_into.walrus_module_env.walrus_collections.walrus_module_items.declared.function.Function.{Function}
use Rattle.walrus_parse_laws.specs.walrus_named_bodies.walrus_file_bodies.walrus_items_into.walrus_module_env.walrus_collections.walrus_module_items.declared.function.FunctionKind.TheVariants as kinds
use Rattle.walrus_parse_laws.specs.walrus_named_bodies.walrus_file_bodies.walrus_items_into.walrus_module_env.walrus_collections.walrus_module_items.declared.function.FunctionKind.{FunctionKind}
use Rattle.walrus_parse_laws.specs.walrus_pairing.Laws.{OperatorComesBack}
use Rattle.walrus_parse_laws.specs.walrus_named_bodies.Parsed.{read_features}
use Rattle.walrus_parse_laws.proofs.BodiesSlotLemmas.{read_kind}
use Rattle.walrus_parse_laws.proofs.BodiesStepLemmas.{steps_have}
use Rattle.walrus_parse_laws.proofs.WholeLemmas.{bare_same, bodies_are_due, bodies_lie, kind_at}
use Rattle.walrus_parse_laws.specs.Files.{ReadModulesHaveHandlers, bodies_handle}
use Rattle.walrus_parse_laws.specs.Groups.{handlers_in}
use Rattle.walrus_parse_laws.specs.Handlers.{signatures}
use Rattle.walrus_parse_gc_laws.proofs.InexactItemLemmas.{data_false, element_false, global_false, none_in, table_false}
use Rattle.walrus_parse_laws.proofs.walrus_body_laws.walrus_body_trees.Bodies.{AreSpelled}
use Rattle.walrus_parse_gc_laws.proofs.StepLemmas.{InexactLocals, step_body, steps_locals}
use Rattle.walrus_parse_gc_laws.proofs.InexactTextLemmas.{InexactSignatures, codes_so, handled_so, sent_so}
use Rattle.walrus_parse_gc_laws.proofs.TypeLemmas.{IsPlain, all_fit, file_plain, same_caught, same_results, steps_plain, type_none}
use Rattle.walrus_parse_gc_laws.proofs.ValueLemmas.{some_is, value_false}
use Rattle.walrus_parse_gc_laws.specs.Passed.{IsPassed, ReadModulesHaveNoExact, ReadModulesPass}
use Rattle.walrus_parse_laws.specs.Items.{HasItems, ReadModulesHaveItems, file_of}
use Rattle.walrus_parse_gc_laws.specs.Served.{IsServed, ReadModulesAreServed}
use Rattle.walrus_pass_laws.specs.walrus_refusals.Written.{BodyHasNone, HasNoExact, HasNoExactIn, HasNone, KindHasNone}
use Rattle.walrus_parse_laws.specs.walrus_named_bodies.walrus_file_bodies.walrus_items_into.walrus_tables_into.walrus_sections.walrus_roots.declared.item.Item.{Item}
use Rattle.walrus_parse_laws.specs.walrus_named_bodies.walrus_file_bodies.walrus_items_into.walrus_tables_into.walrus_sections_into.Becomes.{look_of}
use Rattle.walrus_marks.specs.walrus_instr.walrus_types.Table.{Table}
use Rattle.walrus_parse_laws.specs.walrus_named_bodies.walrus_file_bodies.walrus_items_into.walrus_module_env.walrus_handler_types.walrus_body_steps.wasm_body_grammar.Bodies.{body}
use Rattle.walrus_parse_laws.specs.walrus_named_bodies.walrus_file_bodies.walrus_items_into.walrus_module_env.walrus_handler_types.walrus_body_steps.wasm_body_grammar.Rules.{Around}
use Rattle.walrus_parse_laws.specs.walrus_named_bodies.walrus_file_bodies.walrus_items_into.walrus_module_env.walrus_body_parser.wasm_operators.wasm_features.declared.WasmFeatures.{WasmFeatures}
use Rattle.walrus_parse_laws.specs.walrus_named_bodies.walrus_file_bodies.walrus_items_into.wasm_sections.wasm_grammar.wasm_formats.declared.fault.Space.TheVariants as spaces
use Rattle.walrus_parse_laws.specs.walrus_named_bodies.walrus_file_bodies.walrus_items_into.wasm_sections.wasm_grammar.wasm_formats.declared.fault.Space.{Space}
use Rattle.walrus_parse_laws.specs.walrus_named_bodies.walrus_file_bodies.walrus_items_into.wasm_sections.wasm_grammar.Modules as grammar
use Rattle.wasm_inexact_modules.specs.Inexact.{InexactElements, InexactInit, InexactMode, InexactOrigin, InexactRef, InexactValue, IsInexact, ReadBodiesAreInexact, ReadSectionsAreInexact}
use Rattle.walrus_parse_laws.specs.walrus_named_bodies.walrus_file_bodies.walrus_items_into.wasm_module_rules.wasm_modules.Modules.{around, codes, module_of}
use Rattle.walrus_parse_laws.specs.walrus_named_bodies.walrus_file_bodies.walrus_items_into.wasm_sections.Within.{ChunksFit}

-- a function of the file has no body by itself
no_body : (ty : ℕ) (import : Option ℕ) (kind : FunctionKind) → kind ≡ kind_of ty import → KindHasNone kind
no_body ty None kind e = subst KindHasNone (sym e) tt
no_body ty (Some n) kind e = subst KindHasNone (sym e) tt

locals_none : (ls ms : List Local) → map bare_local ls ≡ map bare_local ms → InexactLocals ms → (id : ℕ) → HasNone (λ (l : Local). val_exact l.ty) (slice_get ls id)
locals_none [] ms e h id = tt
locals_none (l ∷ ls) [] e h id = absurd cc
locals_none (l ∷ ls) (m ∷ ms) e h zero =
    let head : bare_local l ≡ bare_local m = cc in
    value_false l.ty (subst InexactValue (sym (ap (λ (x : Local). x.ty) head)) h.0)
locals_none (l ∷ ls) (m ∷ ms) e h (suc id) =
    let tail : map bare_local ls ≡ map bare_local ms = cc in
    locals_none ls ms tail h.1 id

pub have_none : {B : Type 0} → ReadModulesHaveItems B → ReadModulesHaveHandlers B → FilledFunctionsStand B → FilledModulesAreFiled B → EntryTypesGrow → FoundTypesStay → TablesGrowOn → OperatorComesBack → AreSpelled → PicksAreSeen
    → ReadSectionsAreInexact → ReadBodiesAreInexact → ReadModulesHaveNoExact B
have_none {B} items handlers stands filed enter stay on back spelled seen sections bodies config bytes m found small is x = by_space x.space x.id
  where
    n : Module
    n = parts m

    s : Sections
    s = is.1.sections

    features : WasmFeatures
    features = read_features config

    a : Around
    a = around features (state_of s)

    bs : List FunctionBody
    bs = bodies_in s is.1.filled.functions

    old : State
    old = state is.1.filled.types [] is.1.numbers is.1.filled.functions

    final : Table
    final = is.1.bodied.types

    file : grammar.Module
    file = file_of config bytes m found is

    r : ℕ → ℕ
    r = type_id (look_of found)

    read : IsInexact (state_of s).filled
    read = sections features bytes (state_of s) is.1.reads.sections

    has : HasItems r file (means n)
    has = (items config bytes m found small is).1

    fit : ChunksFit s.code_start (length bytes) (map (λ (b : FunctionBody). chunk_of b.chunk) bs)
    fit = bodies_lie stands config bytes m found small is

    waits : Waits is.1.file features a (count_in s) old bs
    waits = bodies_are_due filed config bytes m found is

    types_bare : map (option_map bare_type) m.types.types ≡ map (option_map bare_type) final.types
    types_bare = ap (λ (x : Holder). x.types.types) is.1.names.same

    locals_bare : map bare_local m.locals ≡ map bare_local is.1.bodied.locals
    locals_bare = ap (λ (x : Holder). x.locals) is.1.names.same

    funcs_bare : map (option_map bare_function) m.funcs.slots ≡ map (option_map bare_function) is.1.bodied.functions.slots
    funcs_bare = ap (λ (x : Holder). x.funcs.slots) is.1.names.same

    -- ---- types

    signed_so : InexactSignatures (flat_map (signatures m.types) (handlers_in is.1.file features bs old is.1.bodied is.1.bodies_are))
    signed_so = subst InexactSignatures (sym (handlers config bytes m found small is))
        (sent_so (at found.types) (bodies_handle (module_of (state_of s) is.1.bodies) is.1.bodies) (handled_so (module_of (state_of s) is.1.bodies) is.1.bodies read.groups (codes_so bodies a (codes (state_of s)) is.1.bodies is.1.reads.codes_are)))

    plain : IsPlain final
    plain = steps_plain final is.1.file features bs old is.1.bodied is.1.bodies_are (grows_none final)
        (all_fit final m.types (same_caught m.types final types_bare) (same_results m.types final types_bare) (handlers_in is.1.file features bs old is.1.bodied is.1.bodies_are) signed_so)
        (subst IsPlain (sym is.1.are_filled.types) (file_plain s.types read.groups))

    -- ---- bodies, and their locals

    locals_so : InexactLocals is.1.bodied.locals
    locals_so = steps_locals stay on enter back spelled seen bodies is.1.file features a (count_in s) final plain s.code_start (length bytes) bs old is.1.bodied fit waits is.1.bodies_are (grows_none final) tt

    Bodied : LocalFunction → Type 0
    Bodied local = BodyHasNone (seqs_of local.builder)

    function_none : (f : ℕ) (function : Function) → item_at m.funcs f ≡ Some function → KindHasNone function.kind
    function_none f function there =
        let ends = steps_have stay on enter is.1.file features a (count_in s) is.1.bodied (λ _. Unit {0}) Bodied
        (λ b bs old new small w step rest i.
        (step_body stay on enter back spelled seen bodies is.1.file features a (count_in s) final plain b bs old new small w step (steps_grow on is.1.file features bs new is.1.bodied rest), tt))
        s.code_start (length bytes) bs old fit waits is.1.bodies_are tt f in
        let slot = slice_index_or is.1.bodied.functions.slots f None in
        let same = kind_at function slot (sym (ap (option_map bare_function) there) ∙ bare_same bare_function m.funcs.slots is.1.bodied.functions.slots f funcs_bare) in
        elim ends as (λ _. KindHasNone function.kind) [
          | inl was ↦
              let one = read_kind is.1.numbers.types 0 f s.functions.items same.function
              (ap (λ (l : List (Option Function)). slice_index_or l f None) (sym is.1.are_filled.functions) ∙ sym was.0 ∙ same.there) in
              subst KindHasNone same.kind_is (no_body _ one.0.import same.function.kind one.1)
          | inr body ↦
              let alike : same.function ≡ body.function = some_is same.function body.function (sym same.there ∙ body.there) in
              let kind : function.kind ≡ kinds.Local body.local = sym same.kind_is ∙ ap (λ (x : Function). x.kind) alike ∙ body.kind in
              subst KindHasNone (sym kind) body.good
        ]

    functions_none : (f : ℕ) (o : Option Function) → item_at m.funcs f ≡ o → MatchOption o (Unit {0}) (λ (g : Function). KindHasNone g.kind)
    functions_none f None e = tt
    functions_none f (Some function) e = function_none f function e

    -- ---- all

    by_space : (space : Space) (id : ℕ) → HasNoExactIn n space id
    by_space spaces.«Type» id = type_none m.types final types_bare plain id
    by_space spaces.Function id = functions_none id (item_at m.funcs id) refl
    by_space spaces.Table id = none_in own_table (retyped_table r) (λ (t : grammar.Table). InexactRef t.element × InexactInit t.init) table_exact (table_false r) m.tables.slots file.tables has.tables read.tables id
    by_space spaces.Memory id = tt
    by_space spaces.Tag id = tt
    by_space spaces.Global id = none_in own_global (retyped_global r) (λ (g : grammar.Global). InexactValue g.ty × InexactOrigin g.origin) global_exact (global_false r) m.globals.slots file.globals has.globals read.globals id
    by_space spaces.Element id =
        none_in own_element (retyped_element r) (λ (e : grammar.Element). InexactMode e.mode × InexactElements e.items) element_exact (element_false r) m.elements.slots file.elements has.elements read.elements id
    by_space spaces.Data id =
        none_in own_segment (retyped_segment r) (λ (e : grammar.Segment). InexactMode e.mode) (λ (d : Data). data_exact d.kind) (data_false r) m.data_segments.slots file.segments has.segments read.segments id
    by_space spaces.Local id = locals_none m.locals is.1.bodied.locals locals_bare locals_so id
    by_space spaces.Label id = tt

-- ---- passes

pub passed : (m : Module) (pushed : List Item) → IsServed m pushed → ((x : Item) → HasNoExact m x) → IsPassed m pushed
passed m pushed h none = record {
  not_unlinked = h.not_unlinked;
  not_treeless = h.not_treeless;
  sound = λ live. h.sound live (λ x reached. none x);
  memory_alone = λ live. h.memory_alone live (λ x reached. none x);
}

pub read_pass : {B : Type 0} → ReadModulesAreServed B → ReadModulesHaveNoExact B → ReadModulesPass B
read_pass served none config bytes m found small is pushed = passed (parts m) pushed (served config bytes m found small is pushed) (none config bytes m found small is)
