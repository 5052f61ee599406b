use Rattle.std.proofs.Common.{ap, sym, ◌∙◌, length}
use Rattle.std.specs.Fn.{CalledAtMut}
use Rattle.wasm_types.specs.Remap.{VisitsSub}
use Rattle.wasm_types.specs.Members.{group_of}
use Rattle.wasm_composite_types.proofs.Visits.{as_long}
use Rattle.wasm_types.proofs.group.RecGroup.remap_indices.Goals as goal

pub invariant_of-self : goal.invariant_of-self
invariant_of-self g c =
    let visits = c.remap_members.ensures.visits in
    ap length visits.2 ∙ c.self.invariant
    ∙ sym (as_long (CalledAtMut g.F.FnMut) (VisitsSub (CalledAtMut g.F.FnMut)) c.args.map.now c.remap_members.new.map (group_of c.self.inside.members).types (group_of c.remap_members.new.members).types c.remap_members.result visits.0)
