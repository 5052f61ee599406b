use Rattle.walrus_emit_numbers.proofs.OneOrder as lemmas
use Rattle.walrus_emit_numbers.proofs.laws.orders_are_one.Goals as goal

pub returns : goal.returns
returns c = lemmas.orders_are_one
