-- Locals keep their ids.
use Rattle.std.proofs.Common.{◌≡◌, ◌∙◌, ℕ, zero, suc, ◌+◌, inl, inr, List, [], ◌∷◌, length, Some, None, refl, sym, ap, subst, arith}
use Rattle.std.specs.Prelude.{slice_set}
use Rattle.std.specs.List.{slice_get}
use Rattle.std.proofs.lemmas.Option.{same_Some, none-some}
use Rattle.walrus_items.specs.declared.local.Local.{Local}
use Rattle.walrus_types.proofs.Places.{append_at}
use Rattle.walrus_type_laws.specs.Locals.{LocalsHaveOwnIds, LocalEdit, LocalIdsAreKept}
use Rattle.walrus_type_laws.specs.Locals.LocalEdit.{LocalStays, LocalAdded, LocalWritten}

at_new : (z local : Local) (i n : ℕ) → z.id ≡ n → slice_get (z ∷ []) i ≡ Some local → local.id ≡ n + i
at_new z local zero n own is = let e : n ≡ n + 0 = omega arith in ap (λ (l : Local). l.id) (sym (same_Some z local is)) ∙ own ∙ e
at_new z local (suc i) n own is = absurd (none-some local is)

-- the local at a place after another was written
written_at : (xs : List Local) (k : ℕ) (x y : Local) → slice_get xs k ≡ Some x → y.id ≡ x.id → (i : ℕ) (local : Local) → slice_get (slice_set xs k y) i ≡ Some local
    → (z : Local) × (slice_get xs i ≡ Some z) × (local.id ≡ z.id)
written_at [] k x y at_k same i local is = absurd (none-some x at_k)
written_at (z ∷ xs) zero x y at_k same zero local is =
    (x, at_k, ap (λ (l : Local). l.id) (sym (same_Some y local is)) ∙ same)
written_at (z ∷ xs) zero x y at_k same (suc i) local is = (local, is, refl)
written_at (z ∷ xs) (suc k) x y at_k same zero local is = (local, is, refl)
written_at (z ∷ xs) (suc k) x y at_k same (suc i) local is = written_at xs k x y at_k same i local is

kept : (old new : List Local) → LocalEdit old new → LocalsHaveOwnIds old → LocalsHaveOwnIds new
kept old new (LocalStays is) own = subst LocalsHaveOwnIds (sym is) own
kept old new (LocalAdded ty is) own =
    let z : Local = record { id = length old; ty = ty; name = None } in
    subst LocalsHaveOwnIds (sym is) (λ id local there. elim (append_at old (z ∷ []) id local there) as (λ _. local.id ≡ id) [
      | inl before ↦ own id local before
      | inr last ↦ at_new z local last.0 (length old) refl last.2 ∙ last.1
    ])
kept old new (LocalWritten k x y at_k same is) own =
    subst LocalsHaveOwnIds (sym is) (λ id local there. let w = written_at old k x y at_k same id local there in w.2 ∙ own id w.0 w.1)

pub locals-law : LocalIdsAreKept
locals-law = record { begins = λ id local is. absurd (none-some local is); keeps = kept }
