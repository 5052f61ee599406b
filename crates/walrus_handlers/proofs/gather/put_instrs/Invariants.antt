use Rattle.std.proofs.Common.{◌≡◌, map, drop}
use Rattle.walrus_handler_laws.specs.walrus_tree.walrus_builder.Built.{seq_of}
use Rattle.walrus_handlers.specs.Gathering.{put_all}
use Rattle.walrus_handler_laws.specs.Handlers.{slots_in}
use Rattle.walrus_handlers.proofs.gather.put_instrs.Given as goal

abbrev pub invariant-loop-item : goal.invariant-loop-item
invariant-loop-item g l =
    let tags = g.E.BodyEnv.tag_type l.env in
    put_all (slots_in tags (map seq_of l.seqs) (drop l.item-index l.instrs)) l.told ≡ put_all (slots_in tags (map seq_of l.seqs) l.instrs) l.fn.told
