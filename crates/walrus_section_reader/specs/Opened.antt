-- A section's contents, before they are looked at.
use Rattle.std.specs.Prelude.{ℕ, nat_lt, List, length, take, drop, Ok, Err, if◌then◌else◌}
use Rattle.wasm_formats.specs.Stops.{SectionSize, stop, Parsing, ◌>>=◌}
use Rattle.wasm_formats.specs.Wholes.{u32}

abbrev pub opens : ℕ → ℕ × List ℕ → Parsing (List ℕ)
opens left n = if nat_lt (length n.1) n.0 then Err (stop SectionSize left) else Ok (take n.0 n.1, drop n.0 n.1)

-- a size, and that many bytes; one that passes the end of the bytes is refused at its first byte
unfoldable pub opened_at : List ℕ → Parsing (List ℕ)
opened_at bytes = u32.parse bytes >>= opens (length bytes)
