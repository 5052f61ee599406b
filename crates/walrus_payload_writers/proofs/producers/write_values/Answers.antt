use Rattle.std.proofs.Common.{◌≡◌, length}
use Rattle.std.proofs.lemmas.List.{length-map}
use Rattle.std.proofs.lemmas.Result.{err_from_is_err_and}
use Rattle.wasm_reader.specs.Shortest.{u32_bytes}
use Rattle.wasm_name_payloads.specs.Written.{value_bytes}
use Rattle.walrus_customs.specs.Producers.{value_of, values_of}
use Rattle.walrus_payload_writers.proofs.Lists.{named_refused, count_refused, named_value}
use Rattle.walrus_payload_writers.proofs.producers.write_values.Goals as goal

pub returns-in_err-write_size : goal.returns-in_err-write_size
returns-in_err-write_size c =
    let p = err_from_is_err_and c.from_residual.result c.from_residual.ensures.1 in
    rw (p.1, p.2) (count_refused value_of value_bytes named_value c.args.values.now _ _ _ c.in_err-write_size.ensures)

pub returns-in_err-write_value : goal.returns-in_err-write_value
returns-in_err-write_value c =
    let p = err_from_is_err_and c.from_residual-in_err-write_value.result c.from_residual-in_err-write_value.ensures.1 in
    let count : length (values_of c.args.values.now) ≡ length c.args.values.now = length-map c.args.values.now value_of in
    rw (p.1, p.2, count) (named_refused value_of value_bytes c.args.values.now c.loop-value.value-index _ c.value-item.result _ _ _ (u32_bytes (length c.args.values.now)) _ c.value-item.is c.loop-value-test.true c.loop-value.invariant c.in_err-write_value.ensures)
