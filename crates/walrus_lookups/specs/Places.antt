-- Where instructions were written.
use Rattle.std.specs.Prelude.{ℕ, ◌==◌, List, find, Option, Some, None, if◌then◌else◌}
use Rattle.std.specs.List.Sorted.{IsNonDecreasingBy}
use Rattle.std.specs.Option.{option_map}
use Rattle.walrus_instr.specs.declared.seq.InstrLocId.{InstrLocId}

-- the locations rise
abbrev pub Rises : List (InstrLocId × ℕ) → Type 0
Rises map = IsNonDecreasingBy (λ e. e.0.0) map

-- the place of the first pair of this location
abbrev pub place_of : InstrLocId → List (InstrLocId × ℕ) → Option ℕ
place_of location map = option_map (λ e. e.1) (find (λ e. e.0.0 == location.0) map)

-- the place of this pair, if it is there and has the location
abbrev pub place_at : InstrLocId → Option (InstrLocId × ℕ) → Option ℕ
place_at location None = None
place_at location (Some e) = if e.0.0 == location.0 then Some e.1 else None
