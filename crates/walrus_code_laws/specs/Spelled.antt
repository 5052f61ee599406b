-- What numbers have to be, so that bodies are spelled by them.
use Rattle.std.specs.Prelude.{ℕ, ◌≡◌, List, Option, Some, None}
use Rattle.wasm_operators.specs.Items.{Locals, Labels}
use Rattle.wasm_operators.specs.Names.{Renaming}
use Rattle.walrus_index_maps.specs.Maps.{Indices}
use Rattle.walrus_pairing.specs.Looks.{Look, number_of}
use Rattle.walrus_due_laws.specs.Spelled.{Follows}
use Rattle.walrus_meaning.specs.Bodies.{depth_of}

-- no number is that of two ids
abbrev pub IsOneToOne : (ℕ → Option ℕ) → Type 0
IsOneToOne numbers = (m n k : ℕ) → numbers m ≡ Some k → numbers n ≡ Some k → m ≡ n

-- the numbers of items, without those of locals
abbrev pub items_of : Indices → Look
items_of i = number_of (record i { locals = λ _ _. None }) 0

-- items are renamed to the numbers that they have, no two types to one; locals and labels are counted, and stay
pub record ServesBodies (r : Renaming) (i : Indices) : Type 0 where
  pub follows : Follows r (items_of i)
  pub types : IsOneToOne i.types.number
  pub locals : (n : ℕ) → r Locals n ≡ n
  pub labels : (n : ℕ) → r Labels n ≡ n

-- those of these locals that have a number have their place
abbrev pub HavePlaces : List ℕ → (ℕ → Option ℕ) → Type 0
HavePlaces ids numbers = (id n : ℕ) → numbers id ≡ Some n → n ≡ depth_of ids id
