use Rattle.std.proofs.Common.{◌≡◌, ◌<◌, ℕ, Some}
use Rattle.walrus_used.specs.walrus_module.Parts.{parts}
use Rattle.walrus_arena.specs.Arena.{item_at}
use Rattle.walrus_used.specs.walrus_module.walrus_module_items.declared.import.Import.{Import}
use Rattle.walrus_refusals.specs.Checks.{ClaimsTruly}
use Rattle.walrus_refusals.proofs.linked.all_claim_truly.Given as goal

abbrev pub invariant-loop-index : goal.invariant-loop-index
invariant-loop-index g l = (id : ℕ) (import : Import) → id < l.index → item_at l.input.imports id ≡ Some import → ClaimsTruly (parts l.input) l.marks id import
