use Rattle.walrus_pairing.specs.Seen.{as_seen}
use Rattle.walrus_body_text.specs.Doing.{piece_of}
use Rattle.walrus_body_writer.specs.Numbers.{look_of}
use Rattle.walrus_body_writer.specs.Spelled.{written}
use Rattle.walrus_body_writer.proofs.Refused.{done, end_gives}
use Rattle.walrus_body_writer.proofs.emit.write_any_end.Goals as goal

pub returns : goal.returns
returns c = λ b.
    let look = look_of c.args.numbers.now in
    let a = as_seen c.closer_of-operator.result in
    done ⊥ (written look b (piece_of c.args.closer)) a c.args.place c.args.out.now c.put.new.out c.put.result (end_gives look b c.args.closer a (c.closer_of-operator.ensures b)) c.put.ensures
