use Rattle.std.specs.Prelude.{◌++◌}
use Rattle.walrus_index_maps.specs.Views.{indices}
use Rattle.walrus_meaning.specs.Meaning.{means}
use Rattle.walrus_module.specs.Parts.{parts}
use Rattle.walrus_module.specs.walrus_body_writer.walrus_pairing.Looks.{Look, number_of}
use Rattle.wasm_grammar.specs.Modules.{Module}
use Rattle.walrus_emit_parts.specs.Due.{Due}
use Rattle.walrus_emit_parts.proofs.Lemmas.{refused_front, writes_on}
use Rattle.walrus_emit.proofs.WholeLemmas.{refused_later}
use Rattle.walrus_emit_numbers.specs.Numbers.{functions_at}
use Rattle.walrus_emit_due.specs.FunctionTypes.{function_types}
use Rattle.walrus_emit_due.specs.Imports.{imports}
use Rattle.walrus_emit.specs.Whole.{types}
use Rattle.walrus_emit.proofs.contents.write_front.Goals as goal

pub returns-in-Err : goal.returns-in-Err
returns-in-Err g c = refused_front (types c.args.types.now) _ _ _ _ c.in-Err.ensures

pub returns-in-Err-emit_imports : goal.returns-in-Err-emit_imports
returns-in-Err-emit_imports g c =
    let look : Look = number_of (indices c.args.maps.now) 0 in
    let m : Module = means (parts c.args.input.now) in
    let functions : Due = function_types look m.functions (functions_at c.args.facts.now c.args.order.now) in
    refused_later _ _ _ (types c.args.types.now) (imports look m ++ functions) _ c.in-Ok.ensures (refused_front (imports look m) functions _ _ _ c.in-Err-emit_imports.ensures)

pub returns : goal.returns
returns g c =
    let look : Look = number_of (indices c.args.maps.now) 0 in
    let m : Module = means (parts c.args.input.now) in
    let functions : Due = function_types look m.functions (functions_at c.args.facts.now c.args.order.now) in
    writes_on _ _ _ (types c.args.types.now) (imports look m ++ functions) _ c.in-Ok.ensures (writes_on _ _ _ (imports look m) functions _ c.in-Ok-emit_imports.ensures c.write_functions.ensures)
