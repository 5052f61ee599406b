use Rattle.std.proofs.Common.{sym, ◌∙◌}
use Rattle.walrus_pairing.proofs.Reserved.{of_selected}
use Rattle.walrus_pairing.proofs.to_operator.operator_of.Goals as goal

pub returns-in-Some-clause-reserved : goal.returns-in-Some-clause-reserved
returns-in-Some-clause-reserved c =
    c.select_operator.ensures.reserved ∙ of_selected c.args.instr.now c.in-Some.ty (sym c.in-Some.is ∙ c.selected_type.ensures)
