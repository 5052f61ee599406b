use Rattle.std.proofs.Common.{List, refl, subst}
use Rattle.walrus_walks.specs.Changes.{Threads}
use Rattle.walrus_walks.specs.walrus_instr.declared.instr.Instr.{Instr}
use Rattle.walrus_walks.specs.walrus_instr.declared.seq.InstrLocId.{InstrLocId}
use Rattle.walrus_locations.specs.Sent.{ItemSent}
use Rattle.walrus_locations.proofs.bodies.send_seq.Goals as goal

pub returns : goal.returns
returns g c = (
  c.send_items.new.items,
  c.send-seq.result,
  refl,
  (
    c.send_items.new.sends,
    subst (λ (items : List (Instr × InstrLocId)). Threads (ItemSent (goal.F-step g)) c.args.sends.now items c.send_items.new.sends c.send_items.new.items) c.as_mut_slice.ensures.value c.send_items.ensures,
    c.send-seq.ensures,
  ),
)
