-- Lemmas: of all locals of a module those that a body uses are the used ones that it declares.
use Rattle.std.specs.Prelude.{ℕ, ◌≡◌, ◌<◌, ◌≤◌, ◌+◌, ◌&&◌, not, Bool, true, false, List, [], ◌++◌, length, map, refl}
use Rattle.std.proofs.Common.{ap, ◌∙◌, arith}
use Rattle.std.proofs.Math.Bool.{and-true}
use Rattle.std.proofs.lemmas.Bool.{and_left, and_right}
use Rattle.std.proofs.lemmas.List.{append-nil}
use Rattle.std.proofs.lemmas.List.Elements.{filter-append}
use Rattle.walrus_named_bodies.specs.walrus_file_bodies.walrus_body_trees.walrus_body_nesting.wasm_body_grammar.wasm_grammar.walrus_forms.declared.value.ValType.{ValType}
use Rattle.walrus_named_bodies.specs.walrus_file_bodies.walrus_items_into.walrus_module_bodies.walrus_body_trees.walrus_meaning.walrus_local_function.walrus_body_locals.wasm_normal_form.Locals.{Key, in_order, numbered}
use Rattle.walrus_parse_laws.proofs.KeyLemmas.{has, moved, none_pass, numbered_append, order_moved, pass_moved, passing}
use Rattle.walrus_parse_laws.proofs.ListLemmas.{AllOf}
use Rattle.walrus_parse_laws.proofs.LocalsNameLemmas.{Below, has_moved, none_before, none_behind}

-- behind these locals stand the parameters of a function, and those that it declares, and then others; names of its own are moved so
module _ (before params own later : List ValType) (names args : List ℕ) (below : AllOf (Below (length params + length own)) names)
    (arguments : (k : ℕ) → length before ≤ k → k < length before + length params → has args k ≡ true) (others : (k : ℕ) → length before + length params ≤ k → has args k ≡ false) where
  abbrev moved_names : List ℕ
  moved_names = map (λ (n : ℕ). length before + n) names

  abbrev test : ℕ → Bool
  test k = has moved_names k && not (has args k)

  split : (n : ℕ) (xs ys : List ValType) → passing test (numbered n (xs ++ ys)) ≡ passing test (numbered n xs) ++ passing test (numbered (n + length xs) ys)
  split n xs ys = ap (passing test) (numbered_append n xs ys) ∙ filter-append (λ (k : Key). test k.1) (numbered n xs) (numbered (n + length xs) ys)

  none_first : passing test (numbered 0 before) ≡ []
  none_first = none_pass test 0 before (λ k le lt. and_left (has moved_names k) (not (has args k)) (none_before (length before) names k (omega (arith, lt))))

  none_given : passing test (numbered (length before) params) ≡ []
  none_given = none_pass test (length before) params (λ k le lt. and_right (has moved_names k) (not (has args k)) (ap not (arguments k le lt)))

  none_later : passing test (numbered (length before + length params + length own) later) ≡ []
  none_later = none_pass test (length before + length params + length own) later
      (λ k le lt. and_left (has moved_names k) (not (has args k)) (none_behind (length before) (length params + length own) names k below (omega (arith, le))))

  own_pass : passing test (numbered (length before + length params) own) ≡ map (moved (length before)) (passing (has names) (numbered (length params) own))
  own_pass = pass_moved test (has names) (length before) (length params) (length before + length params) refl own (λ k le lt.
      ap (λ (b : Bool). b && not (has args (length before + k))) (has_moved (length before) names k)
      ∙ ap (λ (b : Bool). has names k && not b) (others (length before + k) (omega (arith, le)))
      ∙ and-true (has names k))

  pub used_are : in_order (passing test (numbered 0 (before ++ (params ++ (own ++ later))))) ≡ map (moved (length before)) (in_order (passing (has names) (numbered (length params) own)))
  used_are =
      ap in_order (
      split 0 before (params ++ (own ++ later))
      ∙ ap (λ (l : List Key). l ++ passing test (numbered (0 + length before) (params ++ (own ++ later)))) none_first
      ∙ ap (λ (n : ℕ). passing test (numbered n (params ++ (own ++ later)))) (omega arith)
      ∙ split (length before) params (own ++ later)
      ∙ ap (λ (l : List Key). l ++ passing test (numbered (length before + length params) (own ++ later))) none_given
      ∙ split (length before + length params) own later
      ∙ ap (λ (l : List Key). passing test (numbered (length before + length params) own) ++ l) none_later
      ∙ append-nil (passing test (numbered (length before + length params) own))
      ∙ own_pass
      )
      ∙ order_moved (length before) (passing (has names) (numbered (length params) own))
