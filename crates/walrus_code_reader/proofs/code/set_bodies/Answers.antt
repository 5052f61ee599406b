use Rattle.std.proofs.Common.{refl, arith, ◌-◌, ◌+◌, ◌≡◌}
use Rattle.walrus_known_sections.specs.wasm_sections.Sections.{code_size}
use Rattle.walrus_code_reader.specs.Code.{code_entry_of}
use Rattle.walrus_code_reader.proofs.ChunkLemmas.{chunks_are}
use Rattle.walrus_code_reader.proofs.code.set_bodies.Goals as goal

pub returns : goal.returns
returns c =
    let size = code_size (code_entry_of c.args.code) in
    let start : (c.args.code.start + size) - size ≡ c.args.code.start = omega arith in
    rw (start, chunks_are c.args.code.bodies.items) refl
