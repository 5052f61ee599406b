-- What a visitor was told.
use Rattle.std.specs.Prelude.{◌≡◌, false, List, ◌++◌}
use Rattle.walrus_roots.specs.declared.item.Item.{Item}
use Rattle.walrus_reasons.specs.declared.told.Told.{Told}

-- where memory never lacked, these items were added
abbrev pub Tells : List Item → Told → Told → Type 0
Tells items old new = new.is_short ≡ false → (old.is_short ≡ false) × (new.items.items ≡ old.items.items ++ items)
