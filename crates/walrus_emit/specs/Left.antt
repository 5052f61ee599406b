-- What an emission leaves of a module.
use Rattle.std.specs.Prelude.{ℕ, ◌≡◌, List, [], ◌∷◌, ◌++◌, None, Some}
use Rattle.std.specs.declared.alloc.Global.{Global}
use Rattle.std.specs.declared.vec.Vec.{Vec}
use Rattle.walrus_arena.specs.Arena.{Arena, next_id}
use Rattle.walrus_module.specs.walrus_module_items.declared.element.Element.{Element}
use Rattle.walrus_module.specs.walrus_module_items.declared.element.ElementItems.TheVariants.{Functions}
use Rattle.walrus_module.specs.walrus_module_items.declared.element.ElementKind.TheVariants.{Declared}
use Rattle.walrus_module.specs.Parts.{Module}

-- a declared segment of these functions, without a name, was added, last
pub record AddsDeclared (functions : List ℕ) (old new : Arena Element) : Type 0 where
  pub items : Vec ℕ Global
  pub holds : items.items ≡ functions
  pub added : new.slots ≡ old.slots ++ Some (record { id = next_id old; kind = Declared; items = Functions items; name = None }) ∷ []

-- that is all that was done, and nothing where there are none
abbrev pub Declares : List ℕ → Module → Module → Type 0
Declares [] old new = new ≡ old
Declares (function ∷ functions) old new = (new ≡ record old { elements = new.elements }) × AddsDeclared (function ∷ functions) old.elements new.elements

-- the module is as it was, but for at most one declared segment, which was added last
pub record LeavesDeclared (old new : Module) : Type 0 where
  pub functions : List ℕ
  pub declares : Declares functions old new
