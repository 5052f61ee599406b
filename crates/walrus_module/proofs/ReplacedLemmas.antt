-- What is found of a function that is replaced.
use Rattle.std.proofs.Common.{◌≡◌, ◌∙◌, ℕ, Option, Some, IfSome, ap, subst}
use Rattle.std.specs.Option.{option_and_then}
use Rattle.walrus_arena.specs.Arena.{Arena, item_at}
use Rattle.walrus_collections.specs.walrus_local_function.declared.local_function.LocalFunction.{LocalFunction}
use Rattle.walrus_collections.specs.walrus_module_items.declared.function.Function.{Function}
use Rattle.walrus_collections.specs.walrus_module_items.declared.function.FunctionKind.TheVariants.{Local}
use Rattle.walrus_collections.specs.walrus_module_items.Functions.{local_of}
use Rattle.walrus_module.specs.Replaced.{body_at}

-- a live function's body is the one that is found
pub body_found : (fs : Arena Function) (id : ℕ) (f : Function) (local : LocalFunction) → item_at fs id ≡ Some f → f.kind ≡ Local local → body_at fs id ≡ Some local
body_found fs id f local at is = ap (option_and_then (λ (g : Function). local_of g.kind)) at ∙ ap local_of is

-- what holds of a value that is there holds of it
pub if_some : {A : Type 0} (P : A → Type 0) (o : Option A) (x : A) → o ≡ Some x → IfSome o P → P x
if_some {A} P o x is h = let F : Option A → Type 0 = λ v. IfSome v P in subst F is h
