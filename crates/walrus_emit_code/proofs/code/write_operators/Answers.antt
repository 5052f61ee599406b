use Rattle.std.proofs.Common.{ap}
use Rattle.walrus_body_writer.specs.walrus_tree.walrus_builder.Functions.{seqs_of}
use Rattle.walrus_index_maps.specs.Views.{indices}
use Rattle.walrus_emit_code.proofs.CodeLemmas.{operators_of}
use Rattle.walrus_emit_code.proofs.PlaceLemmas.{places_of}
use Rattle.walrus_emit_code.proofs.code.write_operators.Goals as goal

pub returns-clause-written : goal.returns-clause-written
returns-clause-written c =
    operators_of c.args.body.now.facts.now.function c.args.body.now.local.now (indices c.args.maps.now) (seqs_of c.builder.result.now) c.args.out.now c.write_instructions.new.out (ap seqs_of c.builder.ensures)
    c.in_ok-write_instructions.ensures.written

pub returns-clause-placed : goal.returns-clause-placed
returns-clause-placed c =
    places_of c.args.body.now.facts.now.function c.args.body.now.local.now (indices c.args.maps.now) (seqs_of c.builder.result.now) c.args.out.now c.write_instructions.new.out (ap seqs_of c.builder.ensures)
    c.in_ok-write_instructions.ensures.written

pub returns-clause-same : goal.returns-clause-same
returns-clause-same c = c.in_ok-write_instructions.ensures.written.keeps
