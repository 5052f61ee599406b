-- What stands at the front stays there, call by call.
use Rattle.std.specs.Prelude.{ℕ, ◌≡◌, List, ◌++◌, map, Result, Ok, Err}
use Rattle.walrus_operators.specs.Appended.{Keeps}
use Rattle.wasm_operators.proofs.Keeps.{keeps_on}
use Rattle.walrus_errors.specs.declared.error.ModuleError.{ModuleError}
use Rattle.walrus_emit_parts.specs.Due.{Due, Writes, written}
use Rattle.walrus_emit_parts.proofs.Lemmas.{behind_it, ok_of}
use Rattle.walrus_payload_writers.specs.Writes as payloads

pub keeps_written : (old new : List ℕ) (due : Due) → written new ≡ written old ++ due → Keeps old new
keeps_written old new due h = record { more = map ok_of due; behind = behind_it old new due h }

pub keeps_both : (old mid new : List ℕ) → Keeps old mid → Keeps mid new → Keeps old new
keeps_both old mid new a b = keeps_on old mid new a.more a.behind b

-- whatever a call writes
pub kept : (due : Due) (old new : List ℕ) (r : Result (Unit {0}) ModuleError) → Writes due old new r → Keeps old new
kept due old new (Ok x) h = keeps_written old new due h
kept due old new (Err e) h = h.keeps

-- the same of a section whose payload is written by itself
pub payload_kept : (bytes old new : List ℕ) (r : Result (Unit {0}) ModuleError) → payloads.Writes bytes old new r → Keeps old new
payload_kept bytes old new (Ok x) h = record { more = bytes; behind = h }
payload_kept bytes old new (Err e) h = h.keeps
