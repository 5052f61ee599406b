use Rattle.std.proofs.Common.{arith}
use Rattle.wasm_reader.specs.Cursor.{rest}
use Rattle.walrus_lookups.proofs.CodeLemmas.{found, passed}
use Rattle.walrus_lookups.proofs.code.left_at_code.Goals as goal

pub returns-then-id-eq-CODE-clause-found : goal.returns-then-id-eq-CODE-clause-found
returns-then-id-eq-CODE-clause-found c =
    found c.args.sections.now (rest c.loop-id.reader) (rest c.read_section.new.reader) c.in-Some.id c.in-Some.size c.loop-id.invariant.same c.bytes_remaining.result c.in-Some.ensures.read c.if-id-eq-CODE.true c.bytes_remaining.ensures

pub loop-id-preserved : goal.loop-id-preserved
loop-id-preserved c = record {
  same =
      let h = c.in-Some-skip_bytes.ensures.read in
      passed c.args.sections.now (rest c.loop-id.reader) (rest c.read_section.new.reader) c.in-Some.id c.in-Some.size c.loop-id.invariant.same h.0 (rest c.skip_bytes.new.reader) c.in-Some.ensures.read c.if-id-eq-CODE.false h.1;
  within = omega (arith, c.in-Some.ensures.moves, c.in-Some-skip_bytes.ensures.moves, c.loop-id.invariant.within);
}
