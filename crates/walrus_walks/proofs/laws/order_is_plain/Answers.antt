use Rattle.walrus_walks.proofs.Plain.{order_is_plain, plain_order_is_one, order_is_kept}
use Rattle.walrus_walks.proofs.laws.order_is_plain.Goals as goal

pub returns-clause-plain : goal.returns-clause-plain
returns-clause-plain c = order_is_plain

pub returns-clause-one : goal.returns-clause-one
returns-clause-one c = plain_order_is_one

pub returns-clause-kept : goal.returns-clause-kept
returns-clause-kept c = order_is_kept
