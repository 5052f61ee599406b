use Rattle.walrus_index_maps.specs.Views.{indices}
use Rattle.walrus_pairing.specs.Looks.{number_of}
use Rattle.walrus_body_text.specs.walrus_tree.walrus_builder.Functions.{seqs_of}
use Rattle.walrus_body_writer.proofs.Behind.{if_true, on_true, refused_straight, straight}
use Rattle.walrus_body_writer.proofs.emit.write_instructions.Goals as goal

pub returns-in-Ok-true-clause-written : goal.returns-in-Ok-true-clause-written
returns-in-Ok-true-clause-written c =
    straight (number_of (indices c.args.maps.now) c.args.function) (seqs_of c.args.body.now) c.seqs.result.now c.func_body_id-entry.result c.seqs.ensures c.func_body_id-entry.ensures
    c.args.out.now c.write_tree.new.out (on_true _ _ c.in-Ok-true.field-0-test c.in-Ok-true.ensures.written)

pub returns-in-Ok-true-check_tree-clause-refused : goal.returns-in-Ok-true-check_tree-clause-refused
returns-in-Ok-true-check_tree-clause-refused c =
    refused_straight (number_of (indices c.args.maps.now) c.args.function) (seqs_of c.args.body.now) c.seqs.result.now c.func_body_id-entry.result c.seqs.ensures c.func_body_id-entry.ensures
    c.args.out.now c.write_tree.new.out c.in-Err.error c.fault_of.result c.fault_of.ensures c.in-Err.ensures.left
    (if_true _ _ _ c.in-Ok-true-check_tree.field-0-test c.in-Ok-true-check_tree.ensures)
