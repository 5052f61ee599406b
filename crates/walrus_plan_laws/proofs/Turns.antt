-- Lemmas: ids that have their numbers in turn have as their numbers their places among them.
use Rattle.std.specs.Prelude.{ℕ, ◌+◌, ◌≡◌, ◌⊎◌, ◌==◌, Bool, is_some, List, [], ◌∷◌, ◌++◌, length, fold, Option, Some, None, slice_get, refl, if◌then◌else◌}
use Rattle.std.proofs.Common.{ap, sym, ◌∙◌, subst, arith, inl, inr, append_assoc, append-nil}
use Rattle.std.proofs.lemmas.Bool.{cases_eq, eq-eqb, ne_eqb}
use Rattle.std.proofs.lemmas.List.{length_push}
use Rattle.std.proofs.lemmas.Option.{none-some, same_Some}
use Rattle.walrus_index_maps.specs.Maps.{Numbering, next_numbered, unnumbered}
use Rattle.walrus_emit_numbers.specs.Numbers.{in_turn}
use Rattle.walrus_plan_laws.proofs.Lists.{Apart, In, apart_middle, before_it, behind_it, one_of}

-- the number of each of these ids is its place among them, and no other id has one
pub record AreNumbers (ids : List ℕ) (number : ℕ → Option ℕ) : Type 0 where
  pub told : (id n : ℕ) → number id ≡ Some n → slice_get ids n ≡ Some id
  pub has : (id n : ℕ) → slice_get ids n ≡ Some id → number id ≡ Some n

pub no_numbers : AreNumbers [] (λ (id : ℕ). None)
no_numbers = record { told = λ id n e. absurd (none-some n e); has = λ id n e. absurd (none-some id e) }

abbrev with_number : (ℕ → Option ℕ) → ℕ → ℕ → ℕ → Option ℕ
with_number number id n other = if other == id then Some n else number other

other_stays : (number : ℕ → Option ℕ) (id n other : ℕ) → (other ≡ id → ⊥) → with_number number id n other ≡ number other
other_stays number id n other differs = ap (λ (b : Bool). if b then Some n else number other) (ne_eqb other id differs)

it_is : (number : ℕ → Option ℕ) (id n other : ℕ) → other ≡ id → with_number number id n other ≡ Some n
it_is number id n other e = ap (λ (b : Bool). if b then Some n else number other) (eq-eqb other id e)

-- one more id has the next number
pub one_more : (ids : List ℕ) (number : ℕ → Option ℕ) (x n : ℕ) → n ≡ length ids → (In ids x → ⊥) → AreNumbers ids number → AreNumbers (ids ++ x ∷ []) (with_number number x n)
one_more ids number x n long fresh h = record {
  told = λ id k e. told_at id k e (cases_eq id x);
  has = λ id k e. has_at id k (one_of ids x id k e);
}
  where
    told_at : (id k : ℕ) → with_number number x n id ≡ Some k → (id ≡ x) ⊎ (id ≡ x → ⊥) → slice_get (ids ++ x ∷ []) k ≡ Some id
    told_at id k e (inl same) =
        let at : n ≡ k = same_Some n k (sym (it_is number x n id same) ∙ e) in
        let place : length ids + 0 ≡ k = omega (arith, at, long) in
        subst (λ (j : ℕ). slice_get (ids ++ x ∷ []) j ≡ Some id) place (behind_it ids (x ∷ []) id 0 (ap (λ (y : ℕ). Some y) (sym same)))
    told_at id k e (inr differs) = before_it ids (x ∷ []) id k (h.told id k (sym (other_stays number x n id differs) ∙ e))

    has_at : (id k : ℕ) → (slice_get ids k ≡ Some id) ⊎ ((k ≡ length ids) × (x ≡ id)) → with_number number x n id ≡ Some k
    has_at id k (inl at) = other_stays number x n id (λ same. fresh (k, subst (λ (y : ℕ). slice_get ids k ≡ Some y) same at)) ∙ h.has id k at
    has_at id k (inr last) = it_is number x n id (sym last.1) ∙ ap (λ (j : ℕ). Some j) (long ∙ sym last.0)

abbrev pub turn : Numbering → ℕ → Numbering
turn m id = in_turn id m

-- so many were given
pub record IsNumbering (ids : List ℕ) (m : Numbering) : Type 0 where
  pub given : m.given ≡ length ids
  pub numbers : AreNumbers ids m.number

none_has : (ids : List ℕ) (m : Numbering) (x : ℕ) → (In ids x → ⊥) → AreNumbers ids m.number → (o : Option ℕ) → m.number x ≡ o → o ≡ None
none_has ids m x fresh h None e = refl
none_has ids m x fresh h (Some n) e = absurd (fresh (n, h.told x n e))

one_turn : (ids : List ℕ) (m : Numbering) (x : ℕ) → (In ids x → ⊥) → IsNumbering ids m → IsNumbering (ids ++ x ∷ []) (turn m x)
one_turn ids m x fresh h =
    let none : m.number x ≡ None = none_has ids m x fresh h.numbers (m.number x) refl in
    let is : next_numbered x m ≡ turn m x = sym (ap (λ (o : Option ℕ). if is_some o then m else next_numbered x m) none) in
    subst (λ (k : Numbering). IsNumbering (ids ++ x ∷ []) k) is
    (record {
      given = ap (λ (n : ℕ). n + 1) h.given ∙ sym (length_push ids x);
      numbers = one_more ids m.number x m.given h.given fresh h.numbers;
    })

turned_on : (done ids : List ℕ) (m : Numbering) → Apart (done ++ ids) → IsNumbering done m → IsNumbering (done ++ ids) (fold turn m ids)
turned_on done [] m apart h = subst (λ (l : List ℕ). IsNumbering l m) (sym (append-nil done)) h
turned_on done (x ∷ ids) m apart h =
    let same : (done ++ x ∷ []) ++ ids ≡ done ++ x ∷ ids = append_assoc done (x ∷ []) ids in
    subst (λ (l : List ℕ). IsNumbering l (fold turn (turn m x) ids)) same
    (turned_on (done ++ x ∷ []) ids (turn m x) (subst Apart (sym same) apart) (one_turn done m x (apart_middle done x ids apart) h))

pub turned : (ids : List ℕ) → Apart ids → AreNumbers ids (fold turn unnumbered ids).number
turned ids apart = (turned_on [] ids unnumbered apart (record { given = refl; numbers = no_numbers })).numbers
