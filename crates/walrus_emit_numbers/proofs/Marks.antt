-- Of the functions those that are told of alone.
use Rattle.std.proofs.Common.{ℕ, ◌+◌, ◌≡◌, Bool, true, false, cond, List, [], ◌∷◌, ◌++◌, ap, sym, ◌∙◌, append-nil}
use Rattle.std.specs.Prelude.{filter}
use Rattle.std.proofs.lemmas.List.Elements.{filter-append}
use Rattle.walrus_index_maps.specs.Runs.{run_from}
use Rattle.walrus_emit_numbers.proofs.Orders.{run_at}

module _ (test : ℕ → Bool) (at : ℕ) (old : List ℕ) where
  pub kept : (id : ℕ) → id ≡ at → test at ≡ true → old ++ id ∷ [] ≡ old ++ filter test (at ∷ [])
  kept id same passes = ap (λ (k : ℕ). old ++ k ∷ []) same ∙ ap (λ (b : Bool). old ++ cond b (at ∷ []) []) (sym passes)

  pub dropped : test at ≡ false → old ≡ old ++ filter test (at ∷ [])
  dropped fails = sym (append-nil old) ∙ ap (λ (b : Bool). old ++ cond b (at ∷ []) []) (sym fails)

  pub one_more : (new : List ℕ) → old ≡ filter test (run_from 0 at) → new ≡ old ++ filter test (at ∷ []) → new ≡ filter test (run_from 0 (at + 1))
  one_more new h is = is ∙ ap (λ (l : List ℕ). l ++ filter test (at ∷ [])) h ∙ sym (ap (filter test) (run_at at) ∙ filter-append test (run_from 0 at) (at ∷ []))
