-- Lemmas: of the locals that are declared, those that are kept are added.
use Rattle.std.proofs.Common.{ℕ, zero, suc, ◌≡◌, ◌+◌, ◌-◌, ◌<◌, ◌≤◌, Bool, true, false, List, [], ◌∷◌, ◌++◌, length, replicate, None, Result, Ok, Err, OnErr, refl, ap, sym, ◌∙◌, arith, append-nil}
use Rattle.std.specs.List.{repeat}
use Rattle.std.proofs.lemmas.List.{append_assoc, length-append}
use Rattle.walrus_forms.specs.declared.value.ValType.{ValType}
use Rattle.walrus_pairing.specs.walrus_items.declared.local.Local.{Local}
use Rattle.walrus_index_maps.specs.Maps.{Ids, with_last, with_skipped}
use Rattle.walrus_index_maps.specs.Runs.{nowhere}
use Rattle.walrus_body_locals.specs.Named.{kept_count, kept_of}
use Rattle.walrus_body_locals.specs.Locals.{locals_from, ids_from, with_locals, kept_ids, Adds, AddsKept, Leaves}
use Rattle.walrus_body_locals.proofs.Adding.{locals_more, length_locals, locals_none, with_both}

-- of a refusal there is no more to say
pub on_err : {X E P : Type 0} (r : Result X E) → P → OnErr r P
on_err (Ok x) p = tt
on_err (Err e) p = p

-- ---- lists of them

kept_more : {A : Type 0} (ks js : List Bool) (xs ys : List A) → length ks ≡ length xs → kept_of (ks ++ js) (xs ++ ys) ≡ kept_of ks xs ++ kept_of js ys
kept_more [] js [] ys e = refl
kept_more [] js (x ∷ xs) ys e = absurd (omega (arith, e))
kept_more (k ∷ ks) js [] ys e = absurd (omega (arith, e))
kept_more (true ∷ ks) js (x ∷ xs) ys e = ap (λ (l : List _). x ∷ l) (kept_more ks js xs ys (omega (arith, e)))
kept_more (false ∷ ks) js (x ∷ xs) ys e = kept_more ks js xs ys (omega (arith, e))

kept_length : {A : Type 0} (ks : List Bool) (xs : List A) → length ks ≡ length xs → length (kept_of ks xs) ≡ kept_count ks
kept_length [] xs e = refl
kept_length (k ∷ ks) [] e = absurd (omega (arith, e))
kept_length (true ∷ ks) (x ∷ xs) e = let h = kept_length ks xs (omega (arith, e)) in omega (arith, h)
kept_length (false ∷ ks) (x ∷ xs) e = kept_length ks xs (omega (arith, e))

kept_ids_more : (id : ℕ) (ks js : List Bool) → kept_ids id (ks ++ js) ≡ kept_ids id ks ++ kept_ids (id + kept_count ks) js
kept_ids_more id [] js = ap (λ (n : ℕ). kept_ids n js) (omega arith)
kept_ids_more id (true ∷ ks) js =
    ap (λ (l : List ℕ). id ∷ l) (kept_ids_more (suc id) ks js ∙ ap (λ (n : ℕ). kept_ids (suc id) ks ++ kept_ids n js) (omega arith))
kept_ids_more id (false ∷ ks) js = ap (λ (l : List ℕ). nowhere ∷ l) (kept_ids_more id ks js)

many_more : (ks js : List Bool) → kept_count (ks ++ js) ≡ kept_count ks + kept_count js
many_more [] js = omega arith
many_more (true ∷ ks) js = let h = many_more ks js in omega (arith, h)
many_more (false ∷ ks) js = let h = many_more ks js in omega (arith, h)

-- ---- none, and more of more

pub adds_none_kept : (function : ℕ) (ls : List Local) (i : Ids) → AddsKept function [] [] ls ls i i
adds_none_kept function ls i = record { many = refl; added = sym (append-nil ls); named = locals_none function i }

module _ (function : ℕ) (ks js : List Bool) (xs ys : List ValType) (ls ms ns : List Local) (i j k : Ids) (a : AddsKept function ks xs ls ms i j) where
  now_many : length ms ≡ length ls + kept_count ks
  now_many =
      ap length a.added ∙ length-append ls (locals_from (length ls) (kept_of ks xs))
      ∙ ap (λ (n : ℕ). length ls + n) (length_locals (kept_of ks xs) (length ls) ∙ kept_length ks xs a.many)

  pub adds_on_kept : AddsKept function js ys ms ns j k → AddsKept function (ks ++ js) (xs ++ ys) ls ns i k
  adds_on_kept b =
      let behind : length ls + kept_count ks ≡ length ls + length (kept_of ks xs) = ap (λ (n : ℕ). length ls + n) (sym (kept_length ks xs a.many)) in
      record {
        many = length-append ks js ∙ ap (λ (n : ℕ). n + length js) a.many ∙ ap (λ (n : ℕ). length xs + n) b.many ∙ sym (length-append xs ys);
        added = b.added ∙ ap (λ (n : ℕ). ms ++ locals_from n (kept_of js ys)) (now_many ∙ behind)
            ∙ ap (λ (l : List Local). l ++ locals_from (length ls + length (kept_of ks xs)) (kept_of js ys)) a.added
            ∙ append_assoc ls (locals_from (length ls) (kept_of ks xs)) (locals_from (length ls + length (kept_of ks xs)) (kept_of js ys))
            ∙ ap (λ (l : List Local). ls ++ l) (sym (locals_more (kept_of ks xs) (kept_of js ys) (length ls)))
            ∙ ap (λ (l : List ValType). ls ++ locals_from (length ls) l) (sym (kept_more ks js xs ys a.many));
        named = b.named ∙ ap (λ (n : ℕ). with_locals function (kept_ids n js) j) now_many
            ∙ ap (λ (l : Ids). with_locals function (kept_ids (length ls + kept_count ks) js) l) a.named
            ∙ with_both function (kept_ids (length ls) ks) (kept_ids (length ls + kept_count ks) js) i
            ∙ ap (λ (l : List ℕ). with_locals function l i) (sym (kept_ids_more (length ls) ks js));
      }

  pub leaves_on_kept : Leaves function ms ns j k → Leaves function ls ns i k
  leaves_on_kept b =
      let behind : length ls + kept_count ks ≡ length ls + length (kept_of ks xs) = ap (λ (n : ℕ). length ls + n) (sym (kept_length ks xs a.many)) in
      record {
        tys = kept_of ks xs ++ b.tys;
        ids = kept_ids (length ls) ks ++ b.ids;
        added = b.added ∙ ap (λ (n : ℕ). ms ++ locals_from n b.tys) (now_many ∙ behind)
            ∙ ap (λ (l : List Local). l ++ locals_from (length ls + length (kept_of ks xs)) b.tys) a.added
            ∙ append_assoc ls (locals_from (length ls) (kept_of ks xs)) (locals_from (length ls + length (kept_of ks xs)) b.tys)
            ∙ ap (λ (l : List Local). ls ++ l) (sym (locals_more (kept_of ks xs) b.tys (length ls)));
        named = b.named ∙ ap (λ (l : Ids). with_locals function b.ids l) a.named ∙ with_both function (kept_ids (length ls) ks) b.ids i;
        kept = ks ++ b.kept;
        ids_are = ap (λ (l : List ℕ). kept_ids (length ls) ks ++ l) (b.ids_are ∙ ap (λ (n : ℕ). kept_ids n b.kept) now_many) ∙ sym (kept_ids_more (length ls) ks b.kept);
        unnamed = b.unnamed;
        all =
            let m = many_more ks b.kept in
            let rest = b.all in
            let own = kept_length ks xs a.many in
            let total = length-append (kept_of ks xs) b.tys in
            omega (arith, m, rest, own, total);
        few = b.few;
      }

pub leaves_kept : (function : ℕ) (ks : List Bool) (xs : List ValType) (ls ms : List Local) (i j : Ids) → AddsKept function ks xs ls ms i j → Leaves function ls ms i j
leaves_kept function ks xs ls ms i j a = record {
  tys = kept_of ks xs;
  ids = kept_ids (length ls) ks;
  added = a.added;
  named = a.named;
  kept = ks;
  ids_are = refl;
  unnamed = 0;
  all = let own = kept_length ks xs a.many in omega (arith, own);
  few = omega arith;
}

-- ---- one that is kept, and some that aren't

pub keeps_one : (function : ℕ) (ty : ValType) (ls ms : List Local) (i j : Ids) (id : ℕ) → id ≡ length ls → ms ≡ ls ++ record { id = id; ty = ty; name = None } ∷ [] → j ≡ record i { locals = with_last function id i.locals }
    → AddsKept function (true ∷ []) (ty ∷ []) ls ms i j
keeps_one function ty ls ms i j id e a n = record {
  many = refl;
  added = a ∙ ap (λ (k : ℕ). ls ++ record { id = k; ty = ty; name = None } ∷ []) e;
  named = n ∙ ap (λ (k : ℕ). with_locals function (k ∷ []) i) e;
}

pub leaves_one_kept : (function : ℕ) (ty : ValType) (ls ms : List Local) (i j : Ids) (id : ℕ) → id ≡ length ls → ms ≡ ls ++ record { id = id; ty = ty; name = None } ∷ [] → j ≡ i → Leaves function ls ms i j
leaves_one_kept function ty ls ms i j id e a n = record {
  tys = ty ∷ [];
  ids = [];
  added = a ∙ ap (λ (k : ℕ). ls ++ record { id = k; ty = ty; name = None } ∷ []) e;
  named = n ∙ locals_none function i;
  kept = [];
  ids_are = refl;
  unnamed = 1;
  all = refl;
  few = omega arith;
}

none_kept : (n : ℕ) (ty : ValType) → kept_of (replicate n false) (repeat n (ty ∷ [])) ≡ []
none_kept zero ty = refl
none_kept (suc n) ty = none_kept n ty

none_ids : (n id : ℕ) → replicate n nowhere ≡ kept_ids id (replicate n false)
none_ids zero id = refl
none_ids (suc n) id = ap (λ (l : List ℕ). nowhere ∷ l) (none_ids n id)

as_many : (n : ℕ) (ty : ValType) → length (replicate n false) ≡ length (repeat n (ty ∷ []))
as_many zero ty = refl
as_many (suc n) ty = ap suc (as_many n ty)

pub skips : (function n : ℕ) (ty : ValType) (ls : List Local) (i j : Ids) → j ≡ record i { locals = with_skipped function n i.locals } → AddsKept function (replicate n false) (repeat n (ty ∷ [])) ls ls i j
skips function n ty ls i j e = record {
  many = as_many n ty;
  added = sym (append-nil ls) ∙ ap (λ (l : List ValType). ls ++ locals_from (length ls) l) (sym (none_kept n ty));
  named = e ∙ ap (λ (l : List ℕ). with_locals function l i) (none_ids n (length ls));
}

-- ---- all are kept

all_kept : (xs : List ValType) → kept_of (replicate (length xs) true) xs ≡ xs
all_kept [] = refl
all_kept (x ∷ xs) = ap (λ (l : List ValType). x ∷ l) (all_kept xs)

all_ids : (id : ℕ) (xs : List ValType) → ids_from id xs ≡ kept_ids id (replicate (length xs) true)
all_ids id [] = refl
all_ids id (x ∷ xs) = ap (λ (l : List ℕ). id ∷ l) (all_ids (suc id) xs)

all_many : (n : ℕ) → length (replicate n true) ≡ n
all_many zero = refl
all_many (suc n) = ap suc (all_many n)

pub keeps_all : (function : ℕ) (xs : List ValType) (ls ms : List Local) (i j : Ids) → Adds function xs ls ms i j → AddsKept function (replicate (length xs) true) xs ls ms i j
keeps_all function xs ls ms i j a = record {
  many = all_many (length xs);
  added = a.added ∙ ap (λ (l : List ValType). ls ++ locals_from (length ls) l) (sym (all_kept xs));
  named = a.named ∙ ap (λ (l : List ℕ). with_locals function l i) (all_ids (length ls) xs);
}

pub adds_leaves : (function : ℕ) (xs : List ValType) (ls ms : List Local) (i j : Ids) → Adds function xs ls ms i j → Leaves function ls ms i j
adds_leaves function xs ls ms i j a = leaves_kept function (replicate (length xs) true) xs ls ms i j (keeps_all function xs ls ms i j a)

pub leaves_more : (function : ℕ) (xs : List ValType) (ls ms ns : List Local) (i j k : Ids) → Adds function xs ls ms i j → Leaves function ms ns j k → Leaves function ls ns i k
leaves_more function xs ls ms ns i j k a b = leaves_on_kept function (replicate (length xs) true) [] xs [] ls ms ns i j k (keeps_all function xs ls ms i j a) b
