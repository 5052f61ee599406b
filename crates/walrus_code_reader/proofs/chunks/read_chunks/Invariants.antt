use Rattle.walrus_code_reader.specs.Code.{chunks_of}
use Rattle.walrus_code_reader.proofs.ChunkLemmas.{Chunked}
use Rattle.walrus_code_reader.proofs.chunks.read_chunks.Given as goal

abbrev pub invariant-loop : goal.invariant-loop
invariant-loop l = Chunked l.start l.fn.reader l.reader l.count l.counter (chunks_of l.chunks)
