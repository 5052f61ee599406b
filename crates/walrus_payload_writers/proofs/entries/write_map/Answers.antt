use Rattle.std.proofs.Common.{◌≡◌, length}
use Rattle.std.proofs.lemmas.List.{length-map}
use Rattle.std.proofs.lemmas.Result.{err_from_is_err_and}
use Rattle.wasm_reader.specs.Shortest.{u32_bytes}
use Rattle.wasm_name_payloads.specs.Written.{association_bytes, name_bytes}
use Rattle.walrus_payload_writers.specs.Names.{entry_of, entries_of}
use Rattle.walrus_payload_writers.proofs.Lists.{item_refused, count_refused, numbered_some}
use Rattle.walrus_payload_writers.proofs.entries.write_map.Goals as goal

pub returns-in_err-write_size : goal.returns-in_err-write_size
returns-in_err-write_size c =
    let p = err_from_is_err_and c.from_residual.result c.from_residual.ensures.1 in
    rw (p.1, p.2) (count_refused entry_of association_bytes (λ e. numbered_some e.0 (name_bytes e.1)) c.args.entries.now _ _ _ c.in_err-write_size.ensures)

pub returns-in_err-write_entry : goal.returns-in_err-write_entry
returns-in_err-write_entry c =
    let p = err_from_is_err_and c.from_residual-in_err-write_entry.result c.from_residual-in_err-write_entry.ensures.1 in
    let count : length (entries_of c.args.entries.now) ≡ length c.args.entries.now = length-map c.args.entries.now entry_of in
    rw (p.1, p.2, count) (item_refused entry_of association_bytes c.args.entries.now c.loop-entry.entry-index _ _ _ _ (u32_bytes (length c.args.entries.now)) _ c.loop-entry-test.true c.loop-entry.invariant c.in_err-write_entry.ensures)
