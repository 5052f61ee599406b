use Rattle.std.proofs.Common.{ap, sym}
use Rattle.walrus_body_names.specs.Names.{local_in}
use Rattle.walrus_body_names.proofs.Same.{told_none}
use Rattle.walrus_body_names.proofs.facts.gather_all.Goals as goal

pub returns-in-RefFunc-clause-told : goal.returns-in-RefFunc-clause-told
returns-in-RefFunc-clause-told c = told_none c.args.facts.now.found.items (local_in c.args.instr.now) (sym (ap local_in c.in-RefFunc.is))
