-- Lemmas: the order and the equality of reference types are what comparisons have to be.
use Rattle.std.specs.Prelude.{ℕ, ◌≡◌, ◌==◌, Bool, true, false, refl, ◌&&◌}
use Rattle.std.specs.Bool.{beq}
use Rattle.std.specs.declared.cmp.Ordering.{Ordering}
use Rattle.std.specs.declared.cmp.Ordering.TheVariants.{Less, Equal, Greater}
use Rattle.std.specs.Ordering.{nat_cmp, bool_cmp, ordering_then, is_eq}
use Rattle.std.specs.Cmp.{IsTotalOrder, IsEquivalence, bool_cmp_total}
use Rattle.std.specs.Cmp.Rules.{comparing}
use Rattle.std.proofs.Common.{rules, ap, ◌∙◌, arith}
use Rattle.std.proofs.lemmas.Cmp.{then_total, on_total, nat_cmp_total, on_equiv, and_equiv, nat_eq_equiv}
use Rattle.std.proofs.lemmas.Bool.Decides.{nat_tests}
use Rattle.wasm_ref_types.specs.Heaps.{heap_form, heap_kind, heap_number}
use Rattle.wasm_ref_types.specs.Reference.{Reference, reference_cmp, reference_eq}

pub reference_cmp-total : IsTotalOrder reference_cmp
reference_cmp-total =
    then_total (on_total (λ r. r.nullable) bool_cmp_total)
    (then_total (on_total (λ r. heap_form r.heap_type) nat_cmp_total)
    (then_total (on_total (λ r. heap_kind r.heap_type) nat_cmp_total) (on_total (λ r. heap_number r.heap_type) nat_cmp_total)))

pub reference_eq-equiv : IsEquivalence reference_eq
reference_eq-equiv =
    and_equiv (on_equiv (λ r. r.nullable) (search (comparing, rules)))
    (and_equiv (on_equiv (λ r. heap_form r.heap_type) nat_eq_equiv)
    (and_equiv (on_equiv (λ r. heap_kind r.heap_type) nat_eq_equiv) (on_equiv (λ r. heap_number r.heap_type) nat_eq_equiv)))

bool-ties : (a b : Bool) → beq a b ≡ is_eq (bool_cmp a b)
bool-ties false false = refl
bool-ties false true = refl
bool-ties true false = refl
bool-ties true true = refl

pub number-ties : (a b : ℕ) → (a == b) ≡ is_eq (nat_cmp a b)
number-ties a b = grind (arith, nat_tests)

both-ties : (p q : Bool) (o s : Ordering) → p ≡ is_eq o → q ≡ is_eq s → (p && q) ≡ is_eq (ordering_then o s)
both-ties p q Less s e f = ap (λ b. b && q) e
both-ties p q Equal s e f = ap (λ b. b && q) e ∙ f
both-ties p q Greater s e f = ap (λ b. b && q) e

pub reference-ties : (a b : Reference) → reference_eq a b ≡ is_eq (reference_cmp a b)
reference-ties a b =
    both-ties _ _ _ _ (bool-ties a.nullable b.nullable)
    (both-ties _ _ _ _ (number-ties (heap_form a.heap_type) (heap_form b.heap_type))
    (both-ties _ _ _ _ (number-ties (heap_kind a.heap_type) (heap_kind b.heap_type)) (number-ties (heap_number a.heap_type) (heap_number b.heap_type))))
