-- What is reached by chains.
use Rattle.std.specs.Prelude.{◌≡◌, ◌↔◌, ◌⊎◌, ℕ, ◌<◌, List, MatchOption, IsTrue, Contains, slice_index_or}
use Rattle.std.specs.List.{fold}
use Rattle.walrus_roots.specs.declared.item.Item.{Item}
use Rattle.walrus_roots.specs.Items.{space_number}
use Rattle.walrus_marks.specs.Marks.{Missing, State, meet, is_claimed, is_marked}

-- a finite chain of references leads to the item from a root
pub data Chain (Root : Item → Type 0) (Refers : Item → Item → Type 0) : Item → Type 0 where
  root : {x : Item} → Root x → Chain Root Refers x
  refers : {x y : Item} → Chain Root Refers x → Refers x y → Chain Root Refers y

-- there are so many ids by space, and the item's is one of them
abbrev pub FitsIn : List ℕ → Item → Type 0
FitsIn counts x = x.id < slice_index_or counts (space_number x.space) 0

-- just these items were met, some of them perhaps more than once
pub record Meets (Named : Item → Type 0) (old new : State) : Type 0 where
  pub items : List Item
  pub are : (x : Item) → Contains items x ↔ Named x
  pub met : new ≡ fold meet old items

-- one of those that chains reach and that don't fit is known, if there is one: one that is claimed, if there is such a one
abbrev pub Lacks : List ℕ → (Item → Type 0) → (Item → Item → Type 0) → Missing → Type 0
Lacks counts Root Refers m = MatchOption m.item ((x : Item) → Chain Root Refers x → FitsIn counts x)
    (λ i. Chain Root Refers i × (FitsIn counts i → ⊥) × (IsTrue (is_claimed m.claimed i) ⊎ ((x : Item) → Chain Root Refers x → IsTrue (is_claimed m.claimed x) → FitsIn counts x)))

-- of what chains reach, what fits is marked, and nothing else; and what doesn't fit is known
pub record IsReached (counts : List ℕ) (Root : Item → Type 0) (Refers : Item → Item → Type 0) (s : State) : Type 0 where
  pub marked : (x : Item) → IsTrue (is_marked s.met.marks x) ↔ (Chain Root Refers x × FitsIn counts x)
  pub missing : Lacks counts Root Refers s.missing
