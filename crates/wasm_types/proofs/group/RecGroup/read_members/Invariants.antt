use Rattle.wasm_types.proofs.Members.{Collects}
use Rattle.wasm_types.proofs.group.RecGroup.read_members.Given as goal

abbrev pub invariant-loop : goal.invariant-loop
invariant-loop l = Collects l.fn.reader l.reader l.fn.count l.counter l.offsets.items l.types.items
