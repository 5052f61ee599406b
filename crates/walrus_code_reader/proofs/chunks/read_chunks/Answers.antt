use Rattle.std.proofs.Common.{subst, sym, ◌∙◌, ◌+◌, ap, map, List}
use Rattle.std.proofs.lemmas.List.{map-append}
use Rattle.std.proofs.lemmas.Result.{err_from_is_err_and}
use Rattle.walrus_known_sections.specs.wasm_sections.Sections.{ChunkEntry}
use Rattle.walrus_code_reader.specs.Code.{chunk_entry_of, chunks_of}
use Rattle.walrus_code_reader.proofs.ChunkLemmas.{Chunked, chunked, chunked_not}
use Rattle.walrus_code_reader.proofs.chunks.read_chunks.Goals as goal

pub returns-in_err-chunk-clause-chunks : goal.returns-in_err-chunk-clause-chunks
returns-in_err-chunk-clause-chunks c =
    let p = err_from_is_err_and c.from_residual.result c.from_residual.ensures.1 in
    rw (p.1, p.2) (chunked_not c.args.start c.args.count c.loop.counter c.args.reader.now c.loop.reader c.read_chunk.new.reader (chunks_of c.loop.chunks) chunks_of _ c.loop.invariant c.loop-test.true c.in_err-chunk.ensures.chunk)

pub loop-preserved : goal.loop-preserved
loop-preserved c =
    let items = ap (map chunk_entry_of) c.in_ok-push.ensures.items ∙ map-append chunk_entry_of c.loop.chunks.items _ in
    subst (λ (l : List ChunkEntry). Chunked c.args.start c.args.reader.now c.read_chunk.new.reader c.args.count (c.loop.counter + 1) l) (sym items)
    (chunked c.args.start c.args.count c.loop.counter c.args.reader.now c.loop.reader c.read_chunk.new.reader (chunks_of c.loop.chunks) c.in_ok-chunk.chunk c.loop.invariant c.loop-test.true c.in_ok-chunk.ensures.chunk c.in_ok-chunk.ensures.place)
