-- Handlers of a legacy `try`.
use Rattle.std.specs.Prelude.{List, [], ◌∷◌}
use Rattle.walrus_instr.specs.declared.instr.LegacyCatch.{LegacyCatch}
use Rattle.walrus_instr.specs.declared.instr.LegacyCatch.TheVariants as legacy

-- none of them hands exceptions on
abbrev pub AreHandlers : List LegacyCatch → Type 0
AreHandlers [] = Unit {0}
AreHandlers (legacy.Catch tag k ∷ cs) = AreHandlers cs
AreHandlers (legacy.CatchAll k ∷ cs) = AreHandlers cs
AreHandlers (legacy.Delegate n ∷ cs) = ⊥
