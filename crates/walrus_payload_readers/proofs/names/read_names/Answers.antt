use Rattle.std.proofs.Common.{sym, ◌∙◌, subst, length}
use Rattle.std.proofs.lemmas.Bool.{eqb-false}
use Rattle.wasm_name_payloads.specs.Names.{subsection}
use Rattle.walrus_payload_readers.specs.Keeps.{Keeps}
use Rattle.walrus_payload_readers.specs.Bearers.{given_of}
use Rattle.walrus_payload_readers.specs.Parts.{rounds_on, rounds_not}
use Rattle.walrus_payload_readers.proofs.names.read_names.Goals as goal

pub returns-then-not-branch : goal.returns-then-not-branch
returns-then-not-branch g c =
    let m = g.B.Bearers.file c.args.bearers.now in
    rounds_not m given_of c.args.names.now.items c.loop.names.items c.read_subsection.new.names.items c.loop.reader c.read_subsection.new.reader c.args.payload.now (length c.args.payload.now)
    c.loop.counter c.loop.invariant c.loop-test.true (eqb-false _ _ (sym c.eof.ensures ∙ c.if-eof.false))
    (subst (λ b. Keeps (subsection m).keeps given_of c.loop.names.items c.read_subsection.new.names.items c.loop.reader c.read_subsection.new.reader b) c.if-not-branch.true c.in_ok-read_subsection.ensures)

pub loop-preserved : goal.loop-preserved
loop-preserved g c =
    let m = g.B.Bearers.file c.args.bearers.now in
    rounds_on m given_of c.args.names.now.items c.loop.names.items c.read_subsection.new.names.items c.loop.reader c.read_subsection.new.reader c.args.payload.now (length c.args.payload.now)
    c.loop.counter c.loop.invariant c.loop-test.true (eqb-false _ _ (sym c.eof.ensures ∙ c.if-eof.false))
    (subst (λ b. Keeps (subsection m).keeps given_of c.loop.names.items c.read_subsection.new.names.items c.loop.reader c.read_subsection.new.reader b) c.if-not-branch.false c.in_ok-read_subsection.ensures)
