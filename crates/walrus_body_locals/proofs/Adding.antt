-- Lemmas: locals that are added.
use Rattle.std.proofs.Common.{ℕ, zero, suc, ◌≡◌, ◌+◌, ◌==◌, Bool, true, false, List, [], ◌∷◌, ◌++◌, length, None, if◌then◌else◌, refl, ap, sym, ◌∙◌, arith, append-nil}
use Rattle.std.specs.List.{repeat}
use Rattle.std.proofs.lemmas.List.{append_assoc, length-append}
use Rattle.walrus_forms.specs.declared.value.ValType.{ValType}
use Rattle.walrus_pairing.specs.walrus_items.declared.local.Local.{Local}
use Rattle.walrus_index_maps.specs.Maps.{Ids, with_last}
use Rattle.walrus_body_locals.specs.Locals.{locals_from, ids_from, with_more, with_locals, Adds}

pub locals_more : (xs ys : List ValType) (n : ℕ) → locals_from n (xs ++ ys) ≡ locals_from n xs ++ locals_from (n + length xs) ys
locals_more [] ys n = ap (λ (k : ℕ). locals_from k ys) (omega arith)
locals_more (x ∷ xs) ys n =
    let k : suc n + length xs ≡ n + length (x ∷ xs) = omega arith in
    ap (λ (l : List Local). record { id = n; ty = x; name = None } ∷ l) (locals_more xs ys (suc n) ∙ ap (λ (m : ℕ). locals_from (suc n) xs ++ locals_from m ys) k)

pub ids_more : (xs ys : List ValType) (n : ℕ) → ids_from n (xs ++ ys) ≡ ids_from n xs ++ ids_from (n + length xs) ys
ids_more [] ys n = ap (λ (k : ℕ). ids_from k ys) (omega arith)
ids_more (x ∷ xs) ys n =
    let k : suc n + length xs ≡ n + length (x ∷ xs) = omega arith in
    ap (λ (l : List ℕ). n ∷ l) (ids_more xs ys (suc n) ∙ ap (λ (m : ℕ). ids_from (suc n) xs ++ ids_from m ys) k)

pub length_locals : (xs : List ValType) (n : ℕ) → length (locals_from n xs) ≡ length xs
length_locals [] n = refl
length_locals (x ∷ xs) n = ap suc (length_locals xs (suc n))

-- no more, and more of more
agree : {A B : Type 0} (f g : A → B) → ((x : A) → f x ≡ g x) → f ≡ g
agree f g h = λ i x. h x i

pub locals_none : (function : ℕ) (i : Ids) → i ≡ with_locals function [] i
locals_none function i = ap (λ (l : ℕ → List ℕ). record i { locals = l }) (agree i.locals (with_more function [] i.locals) (λ f. at (f == function) f))
  where
    at : (b : Bool) (f : ℕ) → i.locals f ≡ (if b then i.locals f ++ [] else i.locals f)
    at true f = sym (append-nil (i.locals f))
    at false f = refl

pub with_both : (function : ℕ) (js ks : List ℕ) (i : Ids) → with_locals function ks (with_locals function js i) ≡ with_locals function (js ++ ks) i
with_both function js ks i = ap (λ (l : ℕ → List ℕ). record i { locals = l }) (agree (with_more function ks (with_more function js i.locals)) (with_more function (js ++ ks) i.locals) (λ f. at (f == function) f))
  where
    at : (b : Bool) (f : ℕ) → (if b then (if b then i.locals f ++ js else i.locals f) ++ ks else (if b then i.locals f ++ js else i.locals f)) ≡ (if b then i.locals f ++ (js ++ ks) else i.locals f)
    at true f = append_assoc (i.locals f) js ks
    at false f = refl

-- ---- additions

pub adds_none : (function : ℕ) (ls : List Local) (i : Ids) → Adds function [] ls ls i i
adds_none function ls i = record { added = sym (append-nil ls); named = locals_none function i }

pub adds_more : (function : ℕ) (xs ys : List ValType) (ls ms ns : List Local) (i j k : Ids) → Adds function xs ls ms i j → Adds function ys ms ns j k → Adds function (xs ++ ys) ls ns i k
adds_more function xs ys ls ms ns i j k a b =
    let many : length ms ≡ length ls + length xs = ap length a.added ∙ length-append ls (locals_from (length ls) xs) ∙ ap (λ (n : ℕ). length ls + n) (length_locals xs (length ls)) in
    record {
      added = b.added ∙ ap (λ (n : ℕ). ms ++ locals_from n ys) many ∙ ap (λ (l : List Local). l ++ locals_from (length ls + length xs) ys) a.added
          ∙ append_assoc ls (locals_from (length ls) xs) (locals_from (length ls + length xs) ys) ∙ ap (λ (l : List Local). ls ++ l) (sym (locals_more xs ys (length ls)));
      named = b.named ∙ ap (λ (n : ℕ). with_locals function (ids_from n ys) j) many ∙ ap (λ (l : Ids). with_locals function (ids_from (length ls + length xs) ys) l) a.named
          ∙ with_both function (ids_from (length ls) xs) (ids_from (length ls + length xs) ys) i ∙ ap (λ (l : List ℕ). with_locals function l i) (sym (ids_more xs ys (length ls)));
    }

-- one local
pub adds_one : (function : ℕ) (ty : ValType) (ls ms : List Local) (i j : Ids) (id : ℕ) → id ≡ length ls → ms ≡ ls ++ record { id = id; ty = ty; name = None } ∷ [] → j ≡ record i { locals = with_last function id i.locals }
    → Adds function (ty ∷ []) ls ms i j
adds_one function ty ls ms i j id e a n = record {
  added = a ∙ ap (λ (k : ℕ). ls ++ record { id = k; ty = ty; name = None } ∷ []) e;
  named = n ∙ ap (λ (k : ℕ). with_locals function (k ∷ []) i) e;
}

many_behind : (n : ℕ) (ty : ValType) → repeat n (ty ∷ []) ++ ty ∷ [] ≡ repeat (suc n) (ty ∷ [])
many_behind zero ty = refl
many_behind (suc n) ty = ap (λ (l : List ValType). ty ∷ l) (many_behind n ty)

pub many_more : (n : ℕ) (ty : ValType) → repeat n (ty ∷ []) ++ ty ∷ [] ≡ repeat (n + 1) (ty ∷ [])
many_more n ty = let k : suc n ≡ n + 1 = omega arith in many_behind n ty ∙ ap (λ (m : ℕ). repeat m (ty ∷ [])) k
