-- What an instruction holds is left to do.
use Rattle.std.proofs.Common.{ℕ, ◌≡◌, List, [], ◌∷◌, ◌++◌, sym, ap, ◌∙◌}
use Rattle.std.proofs.lemmas.List.{append_assoc}
use Rattle.std.specs.Prelude.{Result, Ok, Err, OnOk}
use Rattle.std.specs.declared.alloc.AllocError.{AllocError}
use Rattle.walrus_tree.specs.walrus_walks.walrus_instr.declared.instr.Instr.{Instr}
use Rattle.walrus_tree.specs.walrus_walks.walrus_instr.declared.instr.Instr.TheVariants.{IfElse}
use Rattle.walrus_body_text.specs.declared.todo.Closer.TheVariants as closers
use Rattle.walrus_body_text.specs.declared.todo.Todo.{Todo}
use Rattle.walrus_body_text.specs.declared.todo.Todo.TheVariants.{Enter}
use Rattle.walrus_body_text.specs.Doing.{entering}

-- both arms of an `if`, the second one first
pub arms_pushed : (r : Result (Unit {0}) AllocError) (old mid new : List Todo) (i : Instr) (k other : ℕ) → i ≡ IfElse k other → mid ≡ old ++ Enter other closers.End ∷ []
    → OnOk r (new ≡ mid ++ Enter k closers.Else ∷ []) → OnOk r (new ≡ old ++ entering i)
arms_pushed (Ok x) old mid new i k other is first second =
    second ∙ ap (λ (z : List Todo). z ++ Enter k closers.Else ∷ []) first ∙ append_assoc old (Enter other closers.End ∷ []) (Enter k closers.Else ∷ []) ∙ ap (λ (z : Instr). old ++ entering z) (sym is)
arms_pushed (Err e) old mid new i k other is first second = tt
