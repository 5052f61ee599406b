use Rattle.walrus_body_writer.proofs.Fronts.{first_done, first_itself}
use Rattle.walrus_body_writer.proofs.emit.write_instr.Goals as goal

pub returns-in_default-clause-front : goal.returns-in_default-clause-front
returns-in_default-clause-front c = first_itself c.args.out.now

pub returns-in_default-item_at-clause-front : goal.returns-in_default-item_at-clause-front
returns-in_default-item_at-clause-front c = first_itself c.args.out.now

pub returns-clause-front : goal.returns-clause-front
returns-clause-front c = first_done _ _ _ _ _ _ c.write_holder.ensures
