-- A declared segment that was added.
use Rattle.std.specs.Prelude.{ℕ, ◌≡◌, ◌==◌, Bool, true, false, List, [], ◌∷◌, ◌++◌, length, None, Some, refl}
use Rattle.std.proofs.Common.{◌∙◌, arith, eq-eqb, subst, sym}
use Rattle.std.proofs.lemmas.Bool.{eqb-true, false≢true}
use Rattle.std.specs.declared.alloc.Global.{Global}
use Rattle.std.specs.declared.vec.Vec.{Vec}
use Rattle.walrus_arena.specs.Arena.{Arena, next_id}
use Rattle.walrus_module.specs.walrus_module_items.declared.element.Element.{Element}
use Rattle.walrus_module.specs.walrus_module_items.declared.element.ElementItems.TheVariants.{Functions}
use Rattle.walrus_module.specs.walrus_module_items.declared.element.ElementKind.TheVariants.{Declared}
use Rattle.walrus_module.specs.Parts.{Module}
use Rattle.walrus_emit.specs.Left.{AddsDeclared, Declares, LeavesDeclared}

adds_declared : (items : Vec ℕ Global) (functions : List ℕ) (old new : Arena Element) (id : ℕ) → items.items ≡ functions → id ≡ next_id old
    → new.slots ≡ old.slots ++ Some (record { id = id; kind = Declared; items = Functions items; name = None }) ∷ [] → AddsDeclared functions old new
adds_declared items functions old new id holds is added = record {
  items = items;
  holds = holds;
  added = subst (λ (i : ℕ). new.slots ≡ old.slots ++ Some (record { id = i; kind = Declared; items = Functions items; name = None }) ∷ []) is added;
}

declares : (functions : List ℕ) (old new : Module) (r : Bool) → r ≡ (length functions == 0) → r ≡ false → new ≡ record old { elements = new.elements }
    → AddsDeclared functions old.elements new.elements → Declares functions old new
declares [] old new r is some same adds = absurd (false≢true (sym some ∙ is ∙ eq-eqb 0 0 refl))
declares (f ∷ fs) old new r is some same adds = (same, adds)

pub some_declared : (items : Vec ℕ Global) (found functions : List ℕ) (old new : Module) (id : ℕ) (r : Bool) → r ≡ (length found == 0) → r ≡ false → found ≡ items.items → items.items ≡ functions
    → new ≡ record old { elements = new.elements } → id ≡ next_id old.elements
    → new.elements.slots ≡ old.elements.slots ++ Some (record { id = id; kind = Declared; items = Functions items; name = None }) ∷ [] → Declares functions old new
some_declared items found functions old new id r is some at holds same number added =
    declares functions old new r (subst (λ (l : List ℕ). r ≡ (length l == 0)) (at ∙ holds) is) some same (adds_declared items functions old.elements new.elements id holds number added)

pub none_declared : (found functions : List ℕ) (old : Module) (r : Bool) → r ≡ (length found == 0) → r ≡ true → found ≡ functions → Declares functions old old
none_declared [] functions old r is none same = subst (λ (l : List ℕ). Declares l old old) same refl
none_declared (f ∷ fs) functions old r is none same = absurd (omega (arith, eqb-true (length (f ∷ fs)) 0 (sym is ∙ none)))

pub leaves : (functions : List ℕ) (old new : Module) → Declares functions old new → LeavesDeclared old new
leaves functions old new h = record { functions = functions; declares = h }

pub leaves_it : (old : Module) → LeavesDeclared old old
leaves_it old = record { functions = []; declares = refl }
