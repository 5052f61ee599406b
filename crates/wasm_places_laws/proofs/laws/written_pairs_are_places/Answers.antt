use Rattle.wasm_places_laws.proofs.Written.{written_pairs}
use Rattle.wasm_places_laws.proofs.laws.written_pairs_are_places.Goals as goal

pub returns : goal.returns
returns c = written_pairs c.canonical_are_read_at_places.ensures c.reads_once.ensures c.part_pairs_are_places.ensures
