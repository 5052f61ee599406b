use Rattle.std.proofs.Common.{subst}
use Rattle.walrus_payload_writers.specs.Writes.{Refused}
use Rattle.std.proofs.lemmas.Result.{err_from_is_err_and}
use Rattle.wasm_name_payloads.specs.Written.{payload_bytes}
use Rattle.walrus_payload_writers.specs.Sections.{names_of}
use Rattle.walrus_payload_writers.proofs.Sections.{payload_refused}
use Rattle.walrus_payload_writers.proofs.names.write_names.Goals as goal

pub returns-in_err-write_payload : goal.returns-in_err-write_payload
returns-in_err-write_payload c =
    let p = err_from_is_err_and c.from_residual.result c.from_residual.ensures.1 in
    rw (p.1, p.2) (payload_refused (payload_bytes (names_of c.args.names.now)) _ _ _
    (subst (λ old. Refused (payload_bytes (names_of c.args.names.now)) old c.write_payload.new.out.items c.in_err-write_payload.field-0.0) c.new-payload.ensures.items c.in_err-write_payload.ensures))
