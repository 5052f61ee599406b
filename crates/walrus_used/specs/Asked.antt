-- What holds of all that was reached.
use Rattle.std.specs.Prelude.{IsTrue}
use Rattle.walrus_roots.specs.declared.item.Item.{Item}
use Rattle.walrus_marks.specs.Marks.{State, is_marked}

-- it holds of all that is marked
abbrev pub AllHold : (Item → Type 0) → State → Type 0
AllHold holds s = (x : Item) → IsTrue (is_marked s.met.marks x) → holds x
