use Rattle.std.proofs.Common.{◌≡◌, length}
use Rattle.std.proofs.lemmas.List.{length-map}
use Rattle.std.proofs.lemmas.Result.{err_from_is_err_and}
use Rattle.wasm_reader.specs.Shortest.{u32_bytes}
use Rattle.wasm_name_payloads.specs.Written.{map_bytes}
use Rattle.walrus_payload_writers.specs.Names.{function_of, functions_of, function_bytes}
use Rattle.walrus_payload_writers.proofs.Lists.{named_refused, count_refused, numbered_some}
use Rattle.walrus_payload_writers.proofs.entries.write_functions.Goals as goal

pub returns-in_err-write_size : goal.returns-in_err-write_size
returns-in_err-write_size c =
    let p = err_from_is_err_and c.from_residual.result c.from_residual.ensures.1 in
    rw (p.1, p.2) (count_refused function_of function_bytes (λ e. numbered_some e.0 (map_bytes e.1)) c.args.functions.now _ _ _ c.in_err-write_size.ensures)

pub returns-in_err-write_function : goal.returns-in_err-write_function
returns-in_err-write_function c =
    let p = err_from_is_err_and c.from_residual-in_err-write_function.result c.from_residual-in_err-write_function.ensures.1 in
    let count : length (functions_of c.args.functions.now) ≡ length c.args.functions.now = length-map c.args.functions.now function_of in
    rw (p.1, p.2, count) (named_refused function_of function_bytes c.args.functions.now c.loop-function.function-index _ c.function-item.result _ _ _ (u32_bytes (length c.args.functions.now)) _ c.function-item.is c.loop-function-test.true c.loop-function.invariant c.in_err-write_function.ensures)
