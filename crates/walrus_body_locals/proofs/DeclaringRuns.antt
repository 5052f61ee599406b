-- Lemmas: the locals of all runs, of which some are kept.
use Rattle.std.proofs.Common.{ℕ, zero, suc, ◌≡◌, ◌+◌, ◌-◌, ◌<◌, ◌≤◌, Bool, List, [], ◌∷◌, ◌++◌, length, drop, take, slice_get, Some, refl, ap, sym, subst, ◌∙◌, arith, append-nil}
use Rattle.std.specs.List.{repeat}
use Rattle.std.proofs.lemmas.List.{append_assoc, length-append}
use Rattle.walrus_forms.specs.declared.value.ValType.{ValType}
use Rattle.walrus_pairing.specs.walrus_items.declared.local.Local.{Local}
use Rattle.walrus_index_maps.specs.Maps.{Ids}
use Rattle.walrus_body_nesting.specs.wasm_body_grammar.Bodies.{Run, declared}
use Rattle.walrus_body_locals.specs.Named.{AreAll, AreNumbers, kept_numbers}
use Rattle.walrus_body_locals.specs.Locals.{AddsKept, Leaves}
use Rattle.walrus_body_locals.proofs.Going.{own_declared, repeat_length}
use Rattle.walrus_body_locals.proofs.Keeping.{adds_none_kept, adds_on_kept, leaves_kept, leaves_on_kept}

-- ---- lists

pub take_one : {A : Type 0} (xs : List A) (n : ℕ) (x : A) → slice_get xs n ≡ Some x → take (suc n) xs ≡ take n xs ++ x ∷ []
take_one [] n x e = absurd cc
take_one (y ∷ xs) zero x e = ap (λ (l : List _). l) (let z : y ≡ x = cc in ap (λ (k : _). k ∷ []) z)
take_one (y ∷ xs) (suc n) x e = ap (λ (l : List _). y ∷ l) (take_one xs n x e)

both_parts : {A : Type 0} (n : ℕ) (xs : List A) → take n xs ++ drop n xs ≡ xs
both_parts zero xs = refl
both_parts (suc n) [] = refl
both_parts (suc n) (x ∷ xs) = ap (λ (l : List _). x ∷ l) (both_parts n xs)

pub take_length : {A : Type 0} (n : ℕ) (xs : List A) → n ≤ length xs → length (take n xs) ≡ n
take_length zero xs le = refl
take_length (suc n) [] le = absurd (omega (arith, le))
take_length (suc n) (x ∷ xs) le = ap suc (take_length n xs (omega (arith, le)))

take_whole : {A : Type 0} (xs : List A) → take (length xs) xs ≡ xs
take_whole [] = refl
take_whole (x ∷ xs) = ap (λ (l : List _). x ∷ l) (take_whole xs)

front_below : (n : ℕ) (runs : List Run) → length (declared (take n runs)) ≤ length (declared runs)
front_below zero runs = omega arith
front_below (suc n) [] = omega arith
front_below (suc n) (r ∷ runs) =
    let le = front_below n runs in
    let a = length-append (repeat r.0 (r.1 ∷ [])) (declared (take n runs)) in
    let b = length-append (repeat r.0 (r.1 ∷ [])) (declared runs) in
    omega (arith, le, a, b)

-- one run more
pub declared_next : (runs : List Run) (index : ℕ) (run : Run) → slice_get runs index ≡ Some run → declared (take (index + 1) runs) ≡ declared (take index runs) ++ repeat run.0 (run.1 ∷ [])
declared_next runs index run e =
    ap (λ (n : ℕ). declared (take n runs)) (let z : index + 1 ≡ suc index = omega arith in z) ∙ ap declared (take_one runs index run e) ∙ own_declared (take index runs) run

-- ---- the runs in front of an index are declared

module _ (function : ℕ) (runs : List Run) (numbers : List ℕ) (ls : List Local) (i : Ids) where
  abbrev front : ℕ → List ValType
  front n = declared (take n runs)

  pub record Declaring (index place from : ℕ) (ms : List Local) (j : Ids) : Type 0 where
    pub from_is : from ≡ length (front index)
    pub goes : (kept : List Bool) → AreAll numbers (length (declared runs)) kept
        → (done : List Bool) × (left : List Bool) × (kept ≡ done ++ left) × (length done ≡ from) × (drop place numbers ≡ kept_numbers from left) × AddsKept function done (front index) ls ms i j

  pub runs_start : Declaring 0 0 0 ls i
  runs_start = record {
    from_is = refl;
    goes = λ kept all. ([], kept, refl, refl, all.are, adds_none_kept function ls i);
  }

  module _ (index place from : ℕ) (ms : List Local) (j : Ids) (h : Declaring index place from ms j) (run : Run) (at : slice_get runs index ≡ Some run) where
    next_front : front (suc index) ≡ front index ++ repeat run.0 (run.1 ∷ [])
    next_front = ap declared (take_one runs index run at) ∙ own_declared (take index runs) run

    pub end_is : from + run.0 ≡ length (front (suc index))
    end_is =
        let a = h.from_is in
        let b = ap (λ (l : List ValType). length l) next_front ∙ length-append (front index) (repeat run.0 (run.1 ∷ [])) ∙ ap (λ (n : ℕ). length (front index) + n) (repeat_length run.0 run.1) in
        omega (arith, a, b)

    pub end_fits : from + run.0 ≤ length (declared runs)
    end_fits = let le = front_below (suc index) runs in let e = end_is in omega (arith, le, e)

    left_many : (kept : List Bool) → AreAll numbers (length (declared runs)) kept → (done left : List Bool) → kept ≡ done ++ left → length done ≡ from → run.0 ≤ length left
    left_many kept all done left e d =
        let a = all.many in
        let b = ap (λ (l : List Bool). length l) e ∙ length-append done left in
        let c = end_fits in
        omega (arith, a, b, c, d)

    -- those of this run
    pub run_numbers : (kept : List Bool) → AreAll numbers (length (declared runs)) kept → (ks : List Bool) × (more : List Bool) × AreNumbers numbers place from (from + run.0) ks more
    run_numbers kept all =
        let r = h.goes kept all in
        let enough = left_many kept all r.0 r.1 r.2 r.3 in (
          take run.0 r.1,
          drop run.0 r.1,
          record {
            many = ap (λ (n : ℕ). from + n) (take_length run.0 r.1 enough);
            follow = r.4 ∙ ap (λ (l : List Bool). kept_numbers from l) (sym (both_parts run.0 r.1));
          },
        )

    pub runs_on : (behind : ℕ) (ns : List Local) (k : Ids)
        → ((kept more : List Bool) → AreNumbers numbers place from (from + run.0) kept more → AddsKept function kept (repeat (length kept) (run.1 ∷ [])) ms ns j k × (drop behind numbers ≡ kept_numbers (from + run.0) more))
        → Declaring (suc index) behind (from + run.0) ns k
    runs_on behind ns k adds = record {
      from_is = end_is;
      goes = λ kept all.
          let r = h.goes kept all in
          let enough = left_many kept all r.0 r.1 r.2 r.3 in
          let ks = take run.0 r.1 in
          let more = drop run.0 r.1 in
          let many : length ks ≡ run.0 = take_length run.0 r.1 enough in
          let q = adds ks more (record { many = ap (λ (n : ℕ). from + n) many; follow = r.4 ∙ ap (λ (l : List Bool). kept_numbers from l) (sym (both_parts run.0 r.1)) }) in
          let tys : front index ++ repeat (length ks) (run.1 ∷ []) ≡ front (suc index) = ap (λ (n : ℕ). front index ++ repeat n (run.1 ∷ [])) many ∙ sym next_front in (
            r.0 ++ ks,
            more,
            r.2 ∙ ap (λ (l : List Bool). r.0 ++ l) (sym (both_parts run.0 r.1)) ∙ sym (append_assoc r.0 ks more),
            length-append r.0 ks ∙ (let a = r.3 in omega (arith, a, many)),
            q.1,
            subst (λ (l : List ValType). AddsKept function (r.0 ++ ks) l ls ns i k) tys (adds_on_kept function r.0 ks (front index) (repeat (length ks) (run.1 ∷ [])) ls ms ns i j k r.5 q.0),
          );
    }

    -- memory was wanted for some of this run
    pub runs_short : (kept : List Bool) → AreAll numbers (length (declared runs)) kept → (ns : List Local) (k : Ids) → Leaves function ms ns j k → Leaves function ls ns i k
    runs_short kept all ns k left = let r = h.goes kept all in leaves_on_kept function r.0 [] (front index) [] ls ms ns i j k r.5 left

  -- all are declared
  pub runs_end : (index place from : ℕ) (ms : List Local) (j : Ids) → Declaring index place from ms j → index ≡ length runs → (kept : List Bool) → AreAll numbers (length (declared runs)) kept → AddsKept function kept (declared runs) ls ms i j
  runs_end index place from ms j h e kept all =
      let r = h.goes kept all in
      let whole : front index ≡ declared runs = ap (λ (n : ℕ). declared (take n runs)) e ∙ ap declared (take_whole runs) in
      let none : length r.1 ≡ 0 =
      (let a = all.many in let b = ap (λ (l : List Bool). length l) r.2 ∙ length-append r.0 r.1 in let c = r.3 in let d = h.from_is ∙ ap (λ (l : List ValType). length l) whole in omega (arith, a, b, c, d)) in
      let same : kept ≡ r.0 = r.2 ∙ ap (λ (l : List Bool). r.0 ++ l) (empty r.1 none) ∙ append-nil r.0 in
      subst (λ (l : List ValType). AddsKept function kept l ls ms i j) whole (subst (λ (l : List Bool). AddsKept function l (front index) ls ms i j) (sym same) r.5)
    where
      empty : (l : List Bool) → length l ≡ 0 → l ≡ []
      empty [] e = refl
      empty (x ∷ l) e = absurd (omega (arith, e))
