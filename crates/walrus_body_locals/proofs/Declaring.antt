-- Lemmas: the locals of a run, and of all runs, of which some are kept.
use Rattle.std.proofs.Common.{ℕ, zero, suc, ◌≡◌, ◌+◌, ◌-◌, ◌<◌, ◌≤◌, Bool, true, false, List, [], ◌∷◌, ◌++◌, length, replicate, drop, take, slice_get, Option, Some, None, nat_lt, if◌then◌else◌, refl, ap, sym, subst, inl, inr, ◌∙◌, arith, append-nil}
use Rattle.std.specs.List.{repeat}
use Rattle.std.specs.Option.{option_and_then}
use Rattle.std.proofs.lemmas.Bool.{cases_lt, lt-ltb, le-ltb}
use Rattle.std.proofs.lemmas.List.{append_assoc, length-append}
use Rattle.std.proofs.lemmas.Option.{slice_get_within}
use Rattle.walrus_forms.specs.declared.value.ValType.{ValType}
use Rattle.walrus_pairing.specs.walrus_items.declared.local.Local.{Local}
use Rattle.walrus_index_maps.specs.Maps.{Ids, with_last, with_skipped}
use Rattle.walrus_body_locals.specs.Named.{AreAll, AreNumbers, kept_numbers, next_below}
use Rattle.walrus_body_locals.specs.Locals.{AddsKept, Leaves}
use Rattle.walrus_body_locals.proofs.Keeping.{adds_none_kept, adds_on_kept, keeps_one, leaves_kept, leaves_on_kept, leaves_one_kept, skips}
use Rattle.walrus_body_locals.proofs.Numbers.{next_kept, none_left}

-- ---- lists

repeat_more : (m n : ℕ) (ty : ValType) → repeat m (ty ∷ []) ++ repeat n (ty ∷ []) ≡ repeat (m + n) (ty ∷ [])
repeat_more zero n ty = ap (λ (k : ℕ). repeat k (ty ∷ [])) (let z : n ≡ zero + n = omega arith in z)
repeat_more (suc m) n ty = ap (λ (l : List ValType). ty ∷ l) (repeat_more m n ty) ∙ ap (λ (k : ℕ). repeat k (ty ∷ [])) (let z : suc (m + n) ≡ suc m + n = omega arith in z)

replicate_many : (n : ℕ) (b : Bool) → length (replicate n b) ≡ n
replicate_many zero b = refl
replicate_many (suc n) b = ap suc (replicate_many n b)

drop_next : (ns : List ℕ) (place n : ℕ) → slice_get ns place ≡ Some n → drop place ns ≡ n ∷ drop (suc place) ns
drop_next [] place n e = absurd cc
drop_next (m ∷ ns) zero n e = ap (λ (k : ℕ). k ∷ ns) (some_is e)
  where
    some_is : Some m ≡ Some n → m ≡ n
    some_is e = cc
drop_next (m ∷ ns) (suc place) n e = drop_next ns place n e

drop_at : (ns : List ℕ) (place n : ℕ) → slice_get ns place ≡ Some n → drop place ns ≡ n ∷ drop (place + 1) ns
drop_at ns place n e = drop_next ns place n e ∙ ap (λ (k : ℕ). n ∷ drop k ns) (let z : suc place ≡ place + 1 = omega arith in z)

drop_head : (ns : List ℕ) (place n : ℕ) (rest : List ℕ) → drop place ns ≡ n ∷ rest → slice_get ns place ≡ Some n
drop_head [] zero n rest e = absurd cc
drop_head [] (suc place) n rest e = absurd cc
drop_head (m ∷ ns) zero n rest e = ap (λ (k : ℕ). Some k) (let z : m ≡ n = cc in z)
drop_head (m ∷ ns) (suc place) n rest e = drop_head ns place n rest e

-- ---- the next number

below_is : (o : Option ℕ) (n end : ℕ) → option_and_then (λ (k : ℕ). if nat_lt k end then Some k else None) o ≡ Some n → (o ≡ Some n) × (n < end)
below_is None n end e = absurd cc
below_is (Some k) n end e = elim (cases_lt k end) as (λ _. (Some k ≡ Some n) × (n < end)) [
  | inl lt ↦
      let at : Some k ≡ Some n = sym (ap (λ (b : Bool). if b then Some k else None) (lt-ltb k end lt)) ∙ e in
      let same : k ≡ n = cc in
      (at, omega (arith, lt, same))
  | inr ge ↦ absurd (let at : None ≡ Some n = sym (ap (λ (b : Bool). if b then Some k else None) (le-ltb k end ge)) ∙ e in cc)
]

below_none : (k end : ℕ) → option_and_then (λ (k : ℕ). if nat_lt k end then Some k else None) (Some k) ≡ None → end ≤ k
below_none k end e = elim (cases_lt k end) as (λ _. end ≤ k) [
  | inl lt ↦ absurd (let at : Some k ≡ None = sym (ap (λ (b : Bool). if b then Some k else None) (lt-ltb k end lt)) ∙ e in cc)
  | inr ge ↦ ge
]

-- where there is one, its place is among theirs
pub place_inside : (numbers : List ℕ) (place n end : ℕ) → next_below numbers place end ≡ Some n → place < length numbers
place_inside numbers place n end e = slice_get_within numbers place n (below_is (slice_get numbers place) n end e).0

-- ---- a run

module _ (function : ℕ) (ty : ValType) (numbers : List ℕ) (first begin end : ℕ) (ls : List Local) (i : Ids) where
  -- the locals below this number are declared
  pub record Running (place from : ℕ) (ms : List Local) (j : Ids) : Type 0 where
    pub done : List Bool
    pub adds : AddsKept function done (repeat (length done) (ty ∷ [])) ls ms i j
    pub goes : (kept more : List Bool) → AreNumbers numbers first begin end kept more
        → (left : List Bool) × (kept ≡ done ++ left) × (from + length left ≡ end) × (drop place numbers ≡ kept_numbers from (left ++ more))

  pub run_starts : Running first begin ls i
  run_starts = record {
    done = [];
    adds = adds_none_kept function ls i;
    goes = λ kept more h. (kept, refl, h.many, h.follow);
  }

  module _ (place from : ℕ) (ms : List Local) (j : Ids) (h : Running place from ms j) where
    -- so many that aren't kept
    skipped : (n : ℕ) (k : Ids) → k ≡ record j { locals = with_skipped function n j.locals } → AddsKept function (h.done ++ replicate n false) (repeat (length (h.done ++ replicate n false)) (ty ∷ [])) ls ms i k
    skipped n k e =
        let count : length h.done + n ≡ length (h.done ++ replicate n false) = sym (length-append h.done (replicate n false) ∙ ap (λ (m : ℕ). length h.done + m) (replicate_many n false)) in
        let T : List ValType → Type 0 = λ tys. AddsKept function (h.done ++ replicate n false) tys ls ms i k in
        subst T (repeat_more (length h.done) n ty ∙ ap (λ (m : ℕ). repeat m (ty ∷ [])) count)
        (adds_on_kept function h.done (replicate n false) (repeat (length h.done) (ty ∷ [])) (repeat n (ty ∷ [])) ls ms ms i j k h.adds (skips function n ty ms j k e))

    module _ (n : ℕ) (k : Ids) (e : k ≡ record j { locals = with_skipped function (n - from) j.locals }) where
      -- up to the next one that is kept, and that one
      pub run_on : next_below numbers place end ≡ Some n → (ns : List Local) (l : Ids) (id : ℕ) → id ≡ length ms → ns ≡ ms ++ record { id = id; ty = ty; name = None } ∷ [] → l ≡ record k { locals = with_last function id k.locals }
          → Running (place + 1) (n + 1) ns l
      run_on next ns l id at added named =
          let before = h.done ++ replicate (n - from) false in
          let count : length before + 1 ≡ length (before ++ true ∷ []) = sym (length-append before (true ∷ [])) in
          let T : List ValType → Type 0 = λ tys. AddsKept function (before ++ true ∷ []) tys ls ns i l in
          record {
            done = before ++ true ∷ [];
            adds = subst T (repeat_more (length before) 1 ty ∙ ap (λ (m : ℕ). repeat m (ty ∷ [])) count)
                (adds_on_kept function before (true ∷ []) (repeat (length before) (ty ∷ [])) (ty ∷ []) ls ms ns i k l (skipped (n - from) k e) (keeps_one function ty ms ns k l id at added named));
            goes = λ kept more are.
                let r = h.goes kept more are in
                let q = below_is (slice_get numbers place) n end next in
                let lt : n < from + length r.0 = (let a = q.1 in let b = r.2 in omega (arith, a, b)) in
                let s = next_kept from n r.0 more (drop (place + 1) numbers) (sym (drop_at numbers place n q.0) ∙ r.3) lt in (
                  s.behind,
                  r.1 ∙ ap (λ (l : List Bool). h.done ++ l) s.split ∙ sym (append_assoc h.done (replicate (n - from) false) (true ∷ s.behind)) ∙ sym (append_assoc before (true ∷ []) s.behind),
                  (let a = r.2 in
                      let b = ap (λ (l : List Bool). length l) s.split ∙ length-append (replicate (n - from) false) (true ∷ s.behind) ∙ ap (λ (m : ℕ). m + suc (length s.behind)) (replicate_many (n - from) false) in
                      let c = s.from_below in
                      omega (arith, a, b, c)),
                  s.follow ∙ ap (λ (m : ℕ). kept_numbers m (s.behind ++ more)) (let z : suc n ≡ n + 1 = omega arith in z),
                );
          }

      -- memory was wanted for its index
      pub run_short : (ns : List Local) (l : Ids) (id : ℕ) → id ≡ length ms → ns ≡ ms ++ record { id = id; ty = ty; name = None } ∷ [] → l ≡ k → Leaves function ls ns i l
      run_short ns l id at added named =
          let before = h.done ++ replicate (n - from) false in
          leaves_on_kept function before [] (repeat (length before) (ty ∷ [])) [] ls ms ns i k l (skipped (n - from) k e) (leaves_one_kept function ty ms ns k l id at added named)

      pub run_skipped : Leaves function ls ms i k
      run_skipped = let before = h.done ++ replicate (n - from) false in leaves_kept function before (repeat (length before) (ty ∷ [])) ls ms i k (skipped (n - from) k e)

    pub run_left : Leaves function ls ms i j
    run_left = leaves_kept function h.done (repeat (length h.done) (ty ∷ [])) ls ms i j h.adds

    -- none of those that are left is kept
    pub run_ends : next_below numbers place end ≡ None → (k : Ids) → k ≡ record j { locals = with_skipped function (end - from) j.locals } → (kept more : List Bool) → AreNumbers numbers first begin end kept more
        → AddsKept function kept (repeat (length kept) (ty ∷ [])) ls ms i k × (drop place numbers ≡ kept_numbers end more)
    run_ends none k e kept more are =
        let r = h.goes kept more are in
        let far : (n : ℕ) (rest : List ℕ) → drop place numbers ≡ n ∷ rest → from + length r.0 ≤ n = λ n rest at.
        let stands = drop_head numbers place n rest at in
        let le : end ≤ n = below_none n end (sym (ap (option_and_then (λ (k : ℕ). if nat_lt k end then Some k else None)) stands) ∙ none) in
        let a = r.2 in
        omega (arith, le, a) in
        let s = none_left from r.0 more (drop place numbers) r.3 far in
        let many : length r.0 ≡ end - from = (let a = r.2 in omega (arith, a)) in
        let all : kept ≡ h.done ++ replicate (end - from) false = r.1 ∙ ap (λ (l : List Bool). h.done ++ l) (s.0 ∙ ap (λ (m : ℕ). replicate m false) many) in
        let T : List Bool → Type 0 = λ ks. AddsKept function ks (repeat (length ks) (ty ∷ [])) ls ms i k in (
          subst T (sym all) (skipped (end - from) k e),
          s.1 ∙ ap (λ (m : ℕ). kept_numbers m more) r.2,
        )
