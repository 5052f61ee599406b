use Rattle.std.proofs.Common.{ap, map}
use Rattle.walrus_builder.specs.Built.{seq_of}
use Rattle.walrus_builder.specs.Built.IsRefused.{Failed}
use Rattle.walrus_builder.proofs.BuiltLemmas.{called_as, if_err}
use Rattle.walrus_builder.proofs.seq_builder.InstrSeqBuilder.fill_seq.Goals as goal

pub returns-in_err-made-clause-refused : goal.returns-in_err-made-clause-refused
returns-in_err-made-clause-refused g c =
    if_err c.from_residual-in_err-made.result (Failed c.in_err-made.field-0.0 record {
      begun = _;
      left = c.make-made.new.arg2;
      begins = c.in_ok-id.ensures.begun.1;
      calls = called_as g.F.FnOnce c.args.make _ _ c.make-made.result _ c.in_err-made.was c.make-made.ensures;
      stays = ap (map seq_of) c.go_back.ensures.seqs;
      back = c.go_back.ensures.id;
    })
