use Rattle.walrus_index_maps.specs.Views.{indices}
use Rattle.walrus_pairing.specs.Looks.{number_of}
use Rattle.walrus_body_text.specs.walrus_tree.walrus_builder.Functions.{seqs_of}
use Rattle.walrus_body_writer.proofs.Behind.{behind, if_true, memory_wanted, on_true, refused_behind}
use Rattle.walrus_body_writer.proofs.emit.emit_instructions.Goals as goal

pub returns-in-Ok-take-clause-written : goal.returns-in-Ok-take-clause-written
returns-in-Ok-take-clause-written c =
    behind (number_of (indices c.args.maps.now) c.args.function) (seqs_of c.args.body.now) c.seqs.result.now c.func_body_id-entry.result c.seqs.ensures c.func_body_id-entry.ensures
    c.in-Ok.own c.write_tree.new.out c.args.out.now _ c.in-Ok.ensures c.in-Ok-take.ensures.taken (on_true _ _ c.in-Ok-true.field-0-test c.in-Ok-true.ensures.written)

pub returns-in-Ok-take-2-clause-refused : goal.returns-in-Ok-take-2-clause-refused
returns-in-Ok-take-2-clause-refused c =
    refused_behind (number_of (indices c.args.maps.now) c.args.function) (seqs_of c.args.body.now) c.seqs.result.now c.func_body_id-entry.result c.seqs.ensures c.func_body_id-entry.ensures
    c.in-Ok.own c.write_tree.new.out c.args.out.now _ c.in-Ok.ensures c.in-Ok-take-2.ensures.taken c.in-Err-write_tree.error c.fault_of.result c.fault_of.ensures c.in-Err-write_tree.ensures.left
    (if_true _ _ _ c.in-Ok-true-check_tree.field-0-test c.in-Ok-true-check_tree.ensures)

pub returns-in-Err-take-clause-refused : goal.returns-in-Err-take-clause-refused
returns-in-Err-take-clause-refused c = memory_wanted (number_of (indices c.args.maps.now) c.args.function) (seqs_of c.args.body.now) c.args.out.now _ c.in-Err-take.ensures.untaken

pub returns-in-Err-take-2-clause-refused : goal.returns-in-Err-take-2-clause-refused
returns-in-Err-take-2-clause-refused c = memory_wanted (number_of (indices c.args.maps.now) c.args.function) (seqs_of c.args.body.now) c.args.out.now _ c.in-Err-take-2.ensures.untaken
