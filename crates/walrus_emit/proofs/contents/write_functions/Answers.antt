use Rattle.std.proofs.Common.{◌∙◌}
use Rattle.walrus_index_maps.specs.Views.{indices}
use Rattle.walrus_meaning.specs.Meaning.{own_function, slots_of}
use Rattle.walrus_module.specs.walrus_body_writer.walrus_pairing.Looks.{number_of}
use Rattle.walrus_emit.proofs.WholeLemmas.{functions_written}
use Rattle.walrus_emit.proofs.contents.write_functions.Goals as goal

pub returns : goal.returns
returns g c =
    let locals = c.args.input.now.locals in
    functions_written (number_of (indices c.args.maps.now) 0) (slots_of (own_function locals) c.args.input.now.funcs) _ _ _ _ _ (c.as_slice.ensures.value ∙ c.in-Ok.ensures) (c.emit_function_types.ensures locals)
