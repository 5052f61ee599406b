-- One more function is counted.
use Rattle.std.proofs.Common.{ℕ, ◌≡◌, ◌+◌, ◌∙◌, List, ◌∷◌, fold, inl, sym, ap, subst}
use Rattle.walrus_errors.specs.declared.error.ModuleError.{ModuleError}
use Rattle.walrus_module.specs.walrus_module_items.declared.function.Function.{Function}
use Rattle.walrus_counts.specs.Counts.{HasNoTree, HaveNoTree, IsCause, kind_size}
use Rattle.walrus_counts.proofs.CauseLemmas.{wider}

abbrev pub add : ℕ → Function → ℕ
add n f = n + kind_size f.kind

-- the sum goes on behind it
pub added : (left rest : List Function) (f : Function) (count size sum all : ℕ) → left ≡ f ∷ rest → size ≡ kind_size f.kind → sum ≡ count + size → fold add count left ≡ all → fold add sum rest ≡ all
added left rest f count size sum all first size_is sum_is was =
    ap (λ n. fold add n rest) (sum_is ∙ ap (λ n. count + n) size_is) ∙ (sym (ap (λ xs. fold add count xs) first) ∙ was)

-- why its body is refused is why all are
pub refused : (left rest all : List Function) (f : Function) (e : ModuleError) → left ≡ f ∷ rest → (HaveNoTree left → HaveNoTree all) → IsCause (HasNoTree f.kind) e → IsCause (HaveNoTree all) e
refused left rest all f e first among h = wider (λ it. among (subst HaveNoTree (sym first) (inl it))) e h
