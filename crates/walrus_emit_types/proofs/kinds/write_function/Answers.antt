use Rattle.std.specs.Prelude.{map}
use Rattle.walrus_forms.specs.Records.{value_of}
use Rattle.walrus_emit_values.proofs.Lemmas.{byte_refused}
use Rattle.walrus_emit_due.specs.Types.{list, value}
use Rattle.walrus_emit_types.proofs.kinds.write_function.Goals as goal

pub returns-in-Err-write_list : goal.returns-in-Err-write_list
returns-in-Err-write_list c =
    byte_refused 0x60 (list 1000 value (map value_of c.args.params.now)) (list 1000 value (map value_of c.args.results.now)) _ _ _ _ c.in-Ok.ensures c.in-Err-write_list.ensures
