use Rattle.std.proofs.Common.{◌≡◌, length}
use Rattle.std.proofs.lemmas.List.{length-map}
use Rattle.std.proofs.lemmas.Result.{err_from_is_err_and}
use Rattle.wasm_reader.specs.Shortest.{u32_bytes}
use Rattle.wasm_name_payloads.specs.Written.{field_bytes}
use Rattle.walrus_customs.specs.Producers.{field_of, fields_of}
use Rattle.walrus_payload_writers.proofs.Lists.{named_refused, count_refused, named_field}
use Rattle.walrus_payload_writers.proofs.producers.write_fields.Goals as goal

pub returns-in_err-write_size : goal.returns-in_err-write_size
returns-in_err-write_size c =
    let p = err_from_is_err_and c.from_residual.result c.from_residual.ensures.1 in
    rw (p.1, p.2) (count_refused field_of field_bytes named_field c.args.fields.now _ _ _ c.in_err-write_size.ensures)

pub returns-in_err-write_field : goal.returns-in_err-write_field
returns-in_err-write_field c =
    let p = err_from_is_err_and c.from_residual-in_err-write_field.result c.from_residual-in_err-write_field.ensures.1 in
    let count : length (fields_of c.args.fields.now) ≡ length c.args.fields.now = length-map c.args.fields.now field_of in
    rw (p.1, p.2, count) (named_refused field_of field_bytes c.args.fields.now c.loop-field.field-index _ c.field-item.result _ _ _ (u32_bytes (length c.args.fields.now)) _ c.field-item.is c.loop-field-test.true c.loop-field.invariant c.in_err-write_field.ensures)
