use Rattle.std.proofs.lemmas.Result.{IfOk-weaker}
use Rattle.wasm_rewriter.specs.Made.{WritesOut, WritesWhatIsKept}
use Rattle.wasm_rewriter.proofs.rewriting.write_kept.Goals as goal

pub returns-clause-written : goal.returns-clause-written
returns-clause-written c =
    IfOk-weaker c.write.result (λ emitted. WritesOut c.keep.new.input c.write.new.input emitted) (λ emitted. WritesWhatIsKept c.args.input.now c.write.new.input emitted)
    (λ emitted writes. record { kept = c.keep.new.input; keeps = c.in_ok-keep.ensures.kept; writes = writes }) c.write.ensures.written
