use Rattle.walrus_emit_numbers.specs.Undeclared.{undeclared_of}
use Rattle.walrus_emit.proofs.ToldLemmas.{still_told}
use Rattle.walrus_emit.proofs.WrittenLemmas.{is_emitted, is_written}
use Rattle.walrus_emit.proofs.whole.emit_sound.Goals as goal

pub returns-clause-stands : goal.returns-clause-stands
returns-clause-stands g c =
    is_emitted g.B.CustomSection.own_name g.B.CustomSection.contents c.args.input.now c.declare.new.input c.tell.new.input c.in_ok-found.found.items c.as_slice-facts.result.now c.in_ok-emission.emission c.emit_last.result
    c.as_slice-facts.ensures.value c.in_ok-found.ensures.facts c.in_ok-declare.ensures.added c.in_ok-declare.ensures.customs c.in_ok-emission.ensures c.in_ok-tell.ensures.rest c.emit_last.ensures.written c.emit_last.ensures.rest

pub returns-clause-written : goal.returns-clause-written
returns-clause-written g c =
    is_written g.B.CustomSection.own_name g.B.CustomSection.contents c.args.input.now c.tell.new.input c.emit_last.result
    (is_emitted g.B.CustomSection.own_name g.B.CustomSection.contents c.args.input.now c.declare.new.input c.tell.new.input c.in_ok-found.found.items c.as_slice-facts.result.now c.in_ok-emission.emission c.emit_last.result
    c.as_slice-facts.ensures.value c.in_ok-found.ensures.facts c.in_ok-declare.ensures.added c.in_ok-declare.ensures.customs c.in_ok-emission.ensures c.in_ok-tell.ensures.rest c.emit_last.ensures.written c.emit_last.ensures.rest)

pub returns-clause-told : goal.returns-clause-told
returns-clause-told g c =
    still_told g.B.CustomSection.own_name g.B.CustomSection.transformed (undeclared_of c.args.input.now c.as_slice-facts.result.now) c.args.input.now c.declare.new.input c.tell.new.input.customs c.in_ok-emission.emission
    c.emit_last.result c.in_ok-declare.ensures.added c.in_ok-declare.ensures.customs c.in_ok-tell.ensures.told c.emit_last.ensures.rest
