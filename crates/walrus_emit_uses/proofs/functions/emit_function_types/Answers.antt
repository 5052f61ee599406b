use Rattle.wasm_formats.specs.declared.fault.Limited.TheVariants as limits_of
use Rattle.walrus_index_maps.specs.Views.{indices}
use Rattle.walrus_pairing.specs.Looks.{number_of}
use Rattle.walrus_meaning.specs.Meaning.{own_function}
use Rattle.walrus_emit_sections.proofs.OwnLemmas.{live_passed}
use Rattle.walrus_emit_uses.proofs.Lemmas.{types_written}
use Rattle.walrus_emit_uses.proofs.functions.emit_function_types.Goals as goal

pub returns-in-Err : goal.returns-in-Err
returns-in-Err c = λ locals. live_passed (own_function locals) c.args.items.now 1000000 limits_of.Functions _ _ _ c.in-Err.ensures

pub returns : goal.returns
returns c = λ locals. types_written (number_of (indices c.args.maps.now) 0) c.args.items.now locals c.args.order.now _ _ _ c.in-Ok.ensures c.write_types.ensures
