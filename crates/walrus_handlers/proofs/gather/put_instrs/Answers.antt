use Rattle.std.proofs.Common.{◌∙◌, map}
use Rattle.walrus_handler_laws.specs.walrus_tree.walrus_builder.Built.{seq_of}
use Rattle.walrus_handlers.proofs.Gathers.{put_next}
use Rattle.walrus_handlers.proofs.gather.put_instrs.Goals as goal

pub loop-item-preserved : goal.loop-item-preserved
loop-item-preserved g c =
    put_next (g.E.BodyEnv.tag_type c.args.env.now) (map seq_of c.args.seqs.now) c.args.instrs.now c.loop-item.item-index c.item-item.result c.loop-item.told c.put_instr.new.told c.loop-item-test.true c.item-item.is c.put_instr.ensures
    ∙ c.loop-item.invariant
