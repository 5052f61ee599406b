-- Leastness.
use Rattle.std.proofs.Common.{◌≡◌, Bool, true, List}
use Rattle.wasm_grammar.specs.Modules.{Item}
use Rattle.wasm_references.specs.Kept.{IsReached, root, refers, KeptIsLeast}
use Rattle.wasm_references.specs.References.{Numbered, Refers}
use Rattle.wasm_references.specs.Roots.{Root}

module _ (v : Numbered) (keep : Bool) (pushed : List Item) (part : Item → Bool) (rooted : (x : Item) → Root v.filled keep pushed x → part x ≡ true) (closed : (x y : Item) → part x ≡ true → Refers v x y → part y ≡ true) where
  kept_in : (x : Item) → IsReached v keep pushed x → part x ≡ true
  kept_in x (root r) = rooted x r
  kept_in y (refers {x} k n) = closed x y (kept_in x k) n

pub least : KeptIsLeast
least v keep pushed part rooted closed x k = kept_in v keep pushed part rooted closed x k
