use Rattle.std.proofs.Common.{◌≡◌, [], ◌∷◌, ◌++◌, ◌∙◌, ap}
use Rattle.walrus_instr.specs.declared.instr.Instr.{Instr}
use Rattle.walrus_instr.specs.declared.seq.InstrLocId.{InstrLocId}
use Rattle.walrus_body_stack.specs.Held.{added}
use Rattle.walrus_body_stack.specs.Slots.{Instrs}
use Rattle.walrus_body_stack.proofs.Nests.{nested_added, fits_added}
use Rattle.walrus_body_stack.proofs.nest.Nest.add.Goals as goal

pub invariant_of-self-2 : goal.invariant_of-self-2
invariant_of-self-2 c =
    let n = c.self.inside in
    let i : Instr × InstrLocId = (c.args.instr, c.args.place) in
    let items : c.push_reserved.new.self.items ≡ n.list.items ++ i ∷ [] = c.push_reserved.ensures.items ∙ ap (λ (l : Instrs). l ++ i ∷ []) c.in_ok-make_room.ensures.rest in
    fits_added n.inner n.outer n.list.items c.push_reserved.new.self.items n.aside i items c.self.invariant

pub returns : goal.returns
returns c =
    let n = c.self.inside in
    let i : Instr × InstrLocId = (c.args.instr, c.args.place) in
    let items : c.push_reserved.new.self.items ≡ n.list.items ++ i ∷ [] = c.push_reserved.ensures.items ∙ ap (λ (l : Instrs). l ++ i ∷ []) c.in_ok-make_room.ensures.rest in
    nested_added n.inner n.outer n.list.items c.push_reserved.new.self.items n.aside i c.self.invariant.0 items ∙ ap (added i) (c.self.view_is ∙ c.in_ok-parted.ensures)
