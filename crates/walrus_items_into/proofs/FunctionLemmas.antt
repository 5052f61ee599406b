-- Lemmas: the functions of a module that a file filled.
use Rattle.std.proofs.Common.{◌≡◌, ◌∙◌, List, Option, sym, ap, subst}
use Rattle.walrus_module_bodies.specs.walrus_functions_into.wasm_module_rules.Linked.{Each}
use Rattle.walrus_read_laws.specs.walrus_tables_into.walrus_sections_into.walrus_instr.walrus_types.Table.{Table, IsFunctionType}
use Rattle.walrus_module_bodies.specs.walrus_functions_into.walrus_types_into.Into.{TypesNameBelow, NewTypesStand}
use Rattle.walrus_module_bodies.specs.walrus_functions_into.Bodies.{bodiless_from}
use Rattle.walrus_module_bodies.specs.walrus_functions_into.Functions.{functions_from}
use Rattle.walrus_module_bodies.specs.walrus_functions_into.Laws.{ArePaired, ReadFunctionsStand, ReadBodiesArePaired}
use Rattle.walrus_read_laws.specs.walrus_tables_into.walrus_sections_into.walrus_index_maps.Maps.{Ids}
use Rattle.walrus_read_laws.specs.walrus_tables_into.walrus_sections_into.walrus_known_sections.State.{state_of}
use Rattle.walrus_module_bodies.specs.walrus_module_env.walrus_collections.walrus_module_items.declared.function.Function.{Function}
use Rattle.walrus_module_bodies.specs.walrus_module_env.walrus_collections.walrus_module_items.Functions.{type_of}
use Rattle.walrus_items_into.specs.Laws.{FilledFunctionsStand}
use Rattle.walrus_items_into.specs.Numbers.{types_in}

pub functions_stand : {B : Type 0} → TypesNameBelow → NewTypesStand → ReadFunctionsStand → ReadBodiesArePaired → FilledFunctionsStand B
functions_stand names stand functions bodies features bytes s begin i m reads f =
    let named : functions_from (types_in s).ids 0 s.functions.items ≡ m.functions.slots =
    sym (f.functions ∙ ap (λ (j : Ids). functions_from j.types 0 s.functions.items) f.numbers) in
    let typed = (functions features bytes s (types_in s).ids (types_in s).table 0 reads (stand s.types (names features bytes (state_of s) reads))).1 in
    let live = subst (λ (t : Table). Each (λ (f : Function). IsFunctionType t (type_of f.kind)) (functions_from (types_in s).ids 0 s.functions.items)) (sym f.types) typed in record {
      typed = subst (λ (slots : List (Option Function)). Each (λ (f : Function). IsFunctionType m.types (type_of f.kind)) slots) named live;
      paired = subst (λ (slots : List (Option Function)). ArePaired s (bodiless_from 0 slots)) named (bodies features bytes s (types_in s).ids reads);
    }
