-- What contracts see of the maps.
use Rattle.std.specs.Prelude.{ℕ, zero, suc, ◌==◌, List, [], ◌∷◌, Option, Some, None, if◌then◌else◌, slice_index_or}
use Rattle.std.specs.BTreeMap.{get}
use Rattle.std.specs.declared.cmp.Ordering.{Ordering}
use Rattle.std.specs.Ordering.{on, nat_cmp, then_cmp}
use Rattle.walrus_index_maps.specs.declared.numbers.Numbers.{Numbers}
use Rattle.walrus_index_maps.specs.declared.indices_to_ids.IndicesToIds.{IndicesToIds}
use Rattle.walrus_index_maps.specs.declared.locals.Said.{Said}
use Rattle.walrus_index_maps.specs.declared.locals.LocalNumbers.{LocalNumbers}
use Rattle.walrus_index_maps.specs.declared.ids_to_indices.IdsToIndices.{IdsToIndices}
use Rattle.walrus_index_maps.specs.Maps.{Ids, Numbering, Indices}

-- the list of a function, empty where there is none
abbrev pub items_at : List (List ℕ) → ℕ → List ℕ
items_at [] f = []
items_at (ids ∷ lists) zero = ids
items_at (ids ∷ lists) (suc f) = items_at lists f

abbrev pub ids : IndicesToIds → Ids
ids m = record { types = m.types.items; functions = m.funcs; tables = m.tables; memories = m.memories; tags = m.tags; globals = m.globals; elements = m.elements; segments = m.segments; locals = items_at m.locals.items; all_locals = m.all_locals }

abbrev pub numbering : {S : Type 0} → Numbers S → Numbering
numbering m = record { number = λ id. slice_index_or m.numbers.items id None; given = m.given }

-- keys by function, then by local
abbrev pub key_cmp : ℕ × ℕ → ℕ × ℕ → Ordering
key_cmp = then_cmp (on (λ k. k.0) nat_cmp) (on (λ k. k.1) nat_cmp)

-- what was said last of a local, if this function said it, or else what was said before
abbrev pub said_or : Option Said → ℕ → Option ℕ → Option ℕ
said_or None function earlier = earlier
said_or (Some said) function earlier = if said.function == function then Some said.number else earlier

abbrev pub local_numbers : LocalNumbers → ℕ → ℕ → Option ℕ
local_numbers m function local = said_or (slice_index_or m.last.items local None) function (get key_cmp m.earlier (function, local))

abbrev pub indices : IdsToIndices → Indices
indices m = record { types = numbering m.types; functions = numbering m.funcs; tables = numbering m.tables; memories = numbering m.memories; tags = numbering m.tags; globals = numbering m.globals; elements = numbering m.elements; segments = numbering m.segments; locals = local_numbers m.locals }
