use Rattle.std.proofs.Common.{◌≡◌, map, drop}
use Rattle.walrus_handler_laws.specs.walrus_body_steps.walrus_body_nesting.Opens.{type_at}
use Rattle.walrus_handler_laws.specs.walrus_tree.walrus_builder.Built.{seq_of}
use Rattle.walrus_handlers.specs.Gathering.{put_all}
use Rattle.walrus_handler_laws.specs.Handlers.{part_slots}
use Rattle.walrus_handlers.proofs.gather.put_parts.Given as goal

abbrev pub invariant-loop-part : goal.invariant-loop-part
invariant-loop-part g l =
    let tags = g.E.BodyEnv.tag_type l.env in
    let ty = type_at (map seq_of l.seqs) l.first in
    put_all (part_slots tags ty (drop l.part-index l.parts)) l.told ≡ put_all (part_slots tags ty l.parts) l.fn.told
