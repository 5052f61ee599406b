use Rattle.std.proofs.Common.{◌∙◌}
use Rattle.walrus_index_maps.specs.Views.{indices}
use Rattle.walrus_pairing.specs.Looks.{number_of}
use Rattle.walrus_pairing.proofs.Alike.{types, fields, from_segments, from_elements}
use Rattle.walrus_pairing.proofs.families.write_object.Goals as goal

pub returns-in-RefNull : goal.returns-in-RefNull
returns-in-RefNull c = rw c.in-RefNull.is c.heap_op.ensures

pub returns-in-RefTest : goal.returns-in-RefTest
returns-in-RefTest c = rw c.in-RefTest.is (rw c.code_of_test.ensures at c.heap_op-in-RefTest.ensures)

pub returns-in-RefCast : goal.returns-in-RefCast
returns-in-RefCast c = rw c.in-RefCast.is (rw c.code_of_cast.ensures at c.heap_op-in-RefCast.ensures)

pub returns-in-StructNew : goal.returns-in-StructNew
returns-in-StructNew c =
    (rw (c.named_code-in-StructNew.ensures, c.get_type_index-in-StructNew.ensures) at c.one_op.ensures) ∙ types (number_of (indices c.args.maps.now) 0) c.args.instr.now c.in-StructNew.ty c.in-StructNew.is

pub returns-in-StructGet : goal.returns-in-StructGet
returns-in-StructGet c =
    (rw (c.named_code-in-StructGet.ensures) at c.type_number_op.ensures) ∙ fields (number_of (indices c.args.maps.now) 0) c.args.instr.now c.in-StructGet.ty c.in-StructGet.n c.in-StructGet.is

pub returns-in-ArrayNewData : goal.returns-in-ArrayNewData
returns-in-ArrayNewData c =
    (rw (c.named_code-in-ArrayNewData.ensures, c.get_type_index-in-ArrayNewData.ensures, c.get_data_index.ensures) at c.two_op-in-ArrayNewData.ensures) ∙ from_segments (number_of (indices c.args.maps.now) 0) c.args.instr.now c.in-ArrayNewData.ty c.in-ArrayNewData.data c.in-ArrayNewData.is

pub returns-in-ArrayNewElem : goal.returns-in-ArrayNewElem
returns-in-ArrayNewElem c =
    (rw (c.named_code.ensures, c.get_type_index-in-ArrayNewElem.ensures, c.get_element_index.ensures) at c.two_op-in-ArrayNewElem.ensures) ∙ from_elements (number_of (indices c.args.maps.now) 0) c.args.instr.now c.in-ArrayNewElem.ty c.in-ArrayNewElem.elem c.in-ArrayNewElem.is
