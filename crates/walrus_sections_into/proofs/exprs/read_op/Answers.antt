use Rattle.walrus_index_maps.specs.Views.{ids}
use Rattle.walrus_sections_into.specs.Becomes.{look_of}
use Rattle.walrus_sections_into.proofs.OperatorLemmas.{op_becomes}
use Rattle.walrus_sections_into.proofs.exprs.read_op.Goals as goal

pub returns-in-Some-const_of-clause-becomes : goal.returns-in-Some-const_of-clause-becomes
returns-in-Some-const_of-clause-becomes c =
    op_becomes (look_of (ids c.args.maps.now)) c.args.op.now c.in-Some.instr c.in-Some-const_of.op c.in-Some.ensures c.in-Some-const_of.ensures.form c.in-Some-const_of.ensures.means
