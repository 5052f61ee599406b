use Rattle.std.proofs.Common.{◌≡◌, ◌++◌, take}
use Rattle.wasm_name_payloads.specs.Written.{later_spaces}
use Rattle.walrus_payload_writers.specs.Sections.{later_parts}
use Rattle.walrus_payload_writers.proofs.names.write_later.Given as goal

abbrev pub invariant-loop-space : goal.invariant-loop-space
invariant-loop-space l = l.out.items ≡ l.fn.out.items ++ later_parts l.names (take l.space-index later_spaces)
