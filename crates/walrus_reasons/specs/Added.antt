-- What a list gets behind what it has.
use Rattle.std.specs.Prelude.{◌≡◌, ◌↔◌, List, ◌++◌, Contains}
use Rattle.walrus_roots.specs.declared.item.Item.{Item}

-- just these items stand in the list, some of them perhaps more than once
abbrev pub AreJust : List Item → (Item → Type 0) → Type 0
AreJust items P = (x : Item) → Contains items x ↔ P x

-- just these items are added
pub record Adds (P : Item → Type 0) (old new : List Item) : Type 0 where
  pub items : List Item
  pub are : AreJust items P
  pub added : new ≡ old ++ items
