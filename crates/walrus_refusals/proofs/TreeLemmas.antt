-- Trees of functions.
use Rattle.std.proofs.Common.{◌≡◌, ℕ, Bool, true, false, Result, refl, sym, subst}
use Rattle.std.specs.Prelude.{Decides, IfOk, MatchBool}
use Rattle.std.proofs.lemmas.Bool.{false≢true}
use Rattle.std.proofs.lemmas.Result.{IfOk-weaker}
use Rattle.std.specs.declared.alloc.AllocError.{AllocError}
use Rattle.walrus_builder.specs.declared.function.FunctionBuilder.{FunctionBuilder}
use Rattle.walrus_builder.specs.Functions.{seqs_of}
use Rattle.walrus_tree.specs.Trees.{IsTree}
use Rattle.walrus_used.specs.walrus_module.walrus_local_function.declared.local_function.LocalFunction.{LocalFunction}
use Rattle.walrus_used.specs.walrus_module.walrus_module_items.declared.function.FunctionKind.{FunctionKind}
use Rattle.walrus_used.specs.walrus_module.walrus_module_items.declared.function.FunctionKind.TheVariants as functions
use Rattle.walrus_used.specs.walrus_references.Refused.{HasTree}

decided : {P : Type 0} (b : Bool) → MatchBool b P (P → ⊥) → Decides b P
decided true p = (λ _. p, λ _. refl)
decided false n = (λ e. absurd (false≢true e), λ p. absurd (n p))

pub tree_decided : (r : Result Bool AllocError) (shown : FunctionBuilder) (entry : ℕ) (local : LocalFunction) (kind : FunctionKind) → shown ≡ local.builder → entry ≡ 0 → kind ≡ functions.Local local
    → IfOk r (λ tree. MatchBool tree (IsTree (seqs_of shown) entry) (IsTree (seqs_of shown) entry → ⊥)) → IfOk r (λ ok. Decides ok (HasTree kind))
tree_decided r shown entry local kind builder begins is h =
    subst (λ k. IfOk r (λ ok. Decides ok (HasTree k))) (sym is)
    (subst (λ b. IfOk r (λ ok. Decides ok (IsTree (seqs_of b) 0))) builder
    (subst (λ e. IfOk r (λ ok. Decides ok (IsTree (seqs_of shown) e))) begins
    (IfOk-weaker r (λ tree. MatchBool tree (IsTree (seqs_of shown) entry) (IsTree (seqs_of shown) entry → ⊥)) (λ ok. Decides ok (IsTree (seqs_of shown) entry)) (λ b m. decided b m) h)))
