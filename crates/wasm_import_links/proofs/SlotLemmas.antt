-- Lemmas: one more slot.
use Rattle.std.specs.Prelude.{ℕ, zero, suc, ◌≡◌, ◌⊎◌, List, [], ◌∷◌, ◌++◌, length, Option, Some, None, slice_index_or, refl}
use Rattle.std.proofs.Common.{ap, sym, ◌∙◌, subst, arith, inl, inr}
use Rattle.wasm_formats.specs.declared.fault.Space.{Space}
use Rattle.wasm_grammar.specs.Modules.{Item, Import}
use Rattle.wasm_import_links.specs.Links.{AreLinked}

pub front_stays : {A : Type 0} (xs more : List (Option A)) (n : ℕ) (y : A) → slice_index_or xs n None ≡ Some y → slice_index_or (xs ++ more) n None ≡ Some y
front_stays [] more n y e = absurd cc
front_stays (x ∷ xs) more zero y e = e
front_stays (x ∷ xs) more (suc n) y e = front_stays xs more n y e

pub last_is : {A : Type 0} (xs : List (Option A)) (x : Option A) → slice_index_or (xs ++ x ∷ []) (length xs) None ≡ x
last_is [] x = refl
last_is (y ∷ xs) x = last_is xs x

pub get_push : {A P : Type 0} (xs : List (Option A)) (x : Option A) (n : ℕ) (y : A) → slice_index_or (xs ++ x ∷ []) n None ≡ Some y
    → (slice_index_or xs n None ≡ Some y → P) → (n ≡ length xs → x ≡ Some y → P) → P
get_push [] x zero y e p q = q refl e
get_push [] x (suc n) y e p q = absurd cc
get_push (z ∷ xs) x zero y e p q = p e
get_push (z ∷ xs) x (suc n) y e p q = get_push xs x n y e p (λ is at. q (omega (arith, is)) at)

some_is : {A : Type 0} (x y : A) → Some x ≡ Some y → x ≡ y
some_is x y e = cc

none_is : {A : Type 0} (x : A) → ◌≡◌ {A = Option A} None (Some x) → ⊥
none_is x e = absurd cc

-- where each space has the slots that it had, or one more, whose item no import brings
pub own_pushed : (b c : Space → List (Option ℕ)) (imports : List (Option Import)) → ((space : Space) → (c space ≡ b space) ⊎ (c space ≡ b space ++ None ∷ []))
    → AreLinked b imports → AreLinked c imports
own_pushed b c imports more h = record { named = named; told = told }
  where
    named : (i : ℕ) (x : Import) → slice_index_or imports i None ≡ Some x → slice_index_or (c x.item.space) x.item.number None ≡ Some i
    named i x e = elim (more x.item.space) [
      | inl same ↦ subst (λ (l : List (Option ℕ)). slice_index_or l x.item.number None ≡ Some i) (sym same) (h.named i x e)
      | inr pushed ↦ subst (λ (l : List (Option ℕ)). slice_index_or l x.item.number None ≡ Some i) (sym pushed) (front_stays (b x.item.space) (None ∷ []) x.item.number i (h.named i x e))
    ]

    told : (space : Space) (n i : ℕ) → slice_index_or (c space) n None ≡ Some i → (x : Import) × (slice_index_or imports i None ≡ Some x) × (x.item ≡ record { space = space; number = n })
    told space n i e = elim (more space) [
      | inl same ↦ h.told space n i (subst (λ (l : List (Option ℕ)). slice_index_or l n None ≡ Some i) same e)
      | inr pushed ↦ get_push (b space) None n i (subst (λ (l : List (Option ℕ)). slice_index_or l n None ≡ Some i) pushed e) (h.told space n i) (λ is at. absurd (none_is i at))
    ]

-- an import of this number names the item
abbrev Told : List (Option Import) → Space → ℕ → ℕ → Type 0
Told imports space n i = (y : Import) × (slice_index_or imports i None ≡ Some y) × (y.item ≡ record { space = space; number = n })

-- where the space that one more import names has one more slot, whose item this import brings
pub import_pushed : (b c : Space → List (Option ℕ)) (imports : List (Option Import)) (x : Import) → c x.item.space ≡ b x.item.space ++ Some (length imports) ∷ []
    → x.item.number ≡ length (b x.item.space) → ((space : Space) → (space ≡ x.item.space) ⊎ (c space ≡ b space)) → AreLinked b imports → AreLinked c (imports ++ Some x ∷ [])
import_pushed b c imports x pushed number others h = record { named = named; told = told }
  where
    later : (space : Space) (n i : ℕ) → slice_index_or (b space) n None ≡ Some i → slice_index_or (c space) n None ≡ Some i
    later space n i e = elim (others space) [
      | inl same ↦ subst (λ (s : Space). slice_index_or (c s) n None ≡ Some i) (sym same)
          (subst (λ (l : List (Option ℕ)). slice_index_or l n None ≡ Some i) (sym pushed)
          (front_stays (b x.item.space) (Some (length imports) ∷ []) n i (subst (λ (s : Space). slice_index_or (b s) n None ≡ Some i) same e)))
      | inr same ↦ subst (λ (l : List (Option ℕ)). slice_index_or l n None ≡ Some i) (sym same) e
    ]

    own : (i : ℕ) → i ≡ length imports → slice_index_or (c x.item.space) x.item.number None ≡ Some i
    own i is =
        ap (λ (l : List (Option ℕ)). slice_index_or l x.item.number None) pushed
        ∙ ap (λ (n : ℕ). slice_index_or (b x.item.space ++ Some (length imports) ∷ []) n None) number
        ∙ last_is (b x.item.space) (Some (length imports)) ∙ ap (λ (n : ℕ). Some n) (sym is)

    named : (i : ℕ) (y : Import) → slice_index_or (imports ++ Some x ∷ []) i None ≡ Some y → slice_index_or (c y.item.space) y.item.number None ≡ Some i
    named i y e = get_push imports (Some x) i y e (λ f. later y.item.space y.item.number i (h.named i y f))
        (λ is at. subst (λ (z : Import). slice_index_or (c z.item.space) z.item.number None ≡ Some i) (some_is x y at) (own i is))

    old : (space : Space) (n i : ℕ) → slice_index_or (b space) n None ≡ Some i → Told (imports ++ Some x ∷ []) space n i
    old space n i e = let t = h.told space n i e in (t.0, front_stays imports (Some x ∷ []) i t.0 t.1, t.2)

    new : (n i : ℕ) → n ≡ length (b x.item.space) → Some (length imports) ≡ Some i → Told (imports ++ Some x ∷ []) x.item.space n i
    new n i is at = (
      x,
      ap (λ (k : ℕ). slice_index_or (imports ++ Some x ∷ []) k None) (sym (some_is (length imports) i at)) ∙ last_is imports (Some x),
      ap (λ (k : ℕ). record { space = x.item.space; number = k }) (number ∙ sym is),
    )

    told : (space : Space) (n i : ℕ) → slice_index_or (c space) n None ≡ Some i → Told (imports ++ Some x ∷ []) space n i
    told space n i e = elim (others space) [
      | inl same ↦ subst (λ (s : Space). Told (imports ++ Some x ∷ []) s n i) (sym same)
          (get_push (b x.item.space) (Some (length imports)) n i
          (subst (λ (l : List (Option ℕ)). slice_index_or l n None ≡ Some i) pushed (subst (λ (s : Space). slice_index_or (c s) n None ≡ Some i) same e))
          (old x.item.space n i) (new n i))
      | inr same ↦ old space n i (subst (λ (l : List (Option ℕ)). slice_index_or l n None ≡ Some i) same e)
    ]

-- where all slots have the same imports
pub same_links : (b c : Space → List (Option ℕ)) (before after : List (Option Import)) → ((space : Space) → c space ≡ b space) → after ≡ before → AreLinked b before → AreLinked c after
same_links b c before after same imports h = record {
  named = λ i x e.
      subst (λ (l : List (Option ℕ)). slice_index_or l x.item.number None ≡ Some i) (sym (same x.item.space))
      (h.named i x (subst (λ (l : List (Option Import)). slice_index_or l i None ≡ Some x) imports e));
  told = λ space n i e.
      let t = h.told space n i (subst (λ (l : List (Option ℕ)). slice_index_or l n None ≡ Some i) (same space) e) in
      (t.0, subst (λ (l : List (Option Import)). slice_index_or l i None ≡ Some t.0) (sym imports) t.1, t.2);
}
