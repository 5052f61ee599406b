use Rattle.std.proofs.Common.{◌+◌, ◌<◌, ℕ}
use Rattle.walrus_type_arenas.specs.Table.{IsLive}
use Rattle.walrus_types.proofs.table.ModuleTypes.highest.Given as goal

abbrev pub invariant-loop-past : goal.invariant-loop-past
invariant-loop-past l = (id : ℕ) → IsLive l.self id → id + l.past < l.count
