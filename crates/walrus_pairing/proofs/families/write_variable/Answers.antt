use Rattle.std.proofs.Common.{◌∙◌}
use Rattle.walrus_index_maps.specs.Views.{indices}
use Rattle.walrus_pairing.specs.Looks.{number_of}
use Rattle.walrus_pairing.proofs.Alike.{functions, calls, references, locals, globals, tables}
use Rattle.walrus_pairing.proofs.families.write_variable.Goals as goal

pub returns-in-Throw : goal.returns-in-Throw
returns-in-Throw c = rw c.in-Throw.is (rw c.get_tag_index.ensures at c.one_op.ensures)

pub returns-in-TableInit : goal.returns-in-TableInit
returns-in-TableInit c = rw c.in-TableInit.is (rw (c.get_element_index.ensures, c.get_table_index.ensures) at c.two_op.ensures)

pub returns-in-ElemDrop : goal.returns-in-ElemDrop
returns-in-ElemDrop c = rw c.in-ElemDrop.is (rw c.get_element_index-in-ElemDrop.ensures at c.one_op-in-ElemDrop.ensures)

pub returns-in-Call : goal.returns-in-Call
returns-in-Call c =
    (rw (c.named_code-in-Call.ensures) at c.function_op.ensures) ∙ functions (number_of (indices c.args.maps.now) c.args.function) c.args.instr.now c.in-Call.func c.in-Call.is

pub returns-in-CallIndirect : goal.returns-in-CallIndirect
returns-in-CallIndirect c =
    (rw (c.named_code-in-CallIndirect.ensures, c.get_type_index-in-CallIndirect.ensures, c.get_table_index-in-CallIndirect.ensures) at c.two_op-in-CallIndirect.ensures) ∙ calls (number_of (indices c.args.maps.now) c.args.function) c.args.instr.now c.in-CallIndirect.ty c.in-CallIndirect.table c.in-CallIndirect.is

pub returns-in-CallRef : goal.returns-in-CallRef
returns-in-CallRef c =
    (rw (c.named_code-in-CallRef.ensures, c.get_type_index.ensures) at c.one_op-in-CallRef.ensures) ∙ references (number_of (indices c.args.maps.now) c.args.function) c.args.instr.now c.in-CallRef.ty c.in-CallRef.is

pub returns-in-LocalGet : goal.returns-in-LocalGet
returns-in-LocalGet c =
    (rw (c.named_code-in-LocalGet.ensures) at c.local_op.ensures) ∙ locals (number_of (indices c.args.maps.now) c.args.function) c.args.instr.now c.in-LocalGet.local c.in-LocalGet.is

pub returns-in-GlobalGet : goal.returns-in-GlobalGet
returns-in-GlobalGet c =
    (rw (c.named_code-in-GlobalGet.ensures) at c.global_op.ensures) ∙ globals (number_of (indices c.args.maps.now) c.args.function) c.args.instr.now c.in-GlobalGet.global c.in-GlobalGet.is

pub returns-in-TableGet : goal.returns-in-TableGet
returns-in-TableGet c =
    (rw (c.named_code.ensures, c.get_table_index-in-TableGet.ensures) at c.one_op-in-TableGet.ensures) ∙ tables (number_of (indices c.args.maps.now) c.args.function) c.args.instr.now c.in-TableGet.table c.in-TableGet.is
