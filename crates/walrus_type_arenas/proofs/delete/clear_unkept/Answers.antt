use Rattle.walrus_type_arenas.proofs.IndexLemmas.{held-swept}
use Rattle.walrus_type_arenas.proofs.MarkLemmas.{cleared-shown}
use Rattle.walrus_type_arenas.proofs.delete.clear_unkept.Goals as goal

pub returns-then-kill_unkept-clause-types : goal.returns-then-kill_unkept-clause-types
returns-then-kill_unkept-clause-types c = cleared-shown c.kill_unkept.new.marks c.args.types.now.slots c.kill_unkept.new.types.slots c.kill_unkept.ensures.sized c.kill_unkept.ensures.each

pub returns-then-kill_unkept-clause-held : goal.returns-then-kill_unkept-clause-held
returns-then-kill_unkept-clause-held c =
    held-swept c.args.types.now.slots c.kill_unkept.new.types.slots c.kill_unkept.new.marks c.args.index.now c.sweep.new.self c.requires.held c.kill_unkept.ensures.sized c.kill_unkept.ensures.each
    c.sweep.ensures.ids c.sweep.ensures.room

pub returns-else-kill_unkept-clause-types : goal.returns-else-kill_unkept-clause-types
returns-else-kill_unkept-clause-types c = cleared-shown c.kill_unkept.new.marks c.args.types.now.slots c.kill_unkept.new.types.slots c.kill_unkept.ensures.sized c.kill_unkept.ensures.each
