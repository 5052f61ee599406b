-- Lemmas: arguments that are added one by one.
use Rattle.std.proofs.Common.{ℕ, suc, ◌≡◌, ◌+◌, ◌==◌, ◌<◌, Bool, true, false, List, [], ◌∷◌, ◌++◌, length, take, None, if◌then◌else◌, refl, ap, sym, ◌∙◌, arith, append-nil}
use Rattle.std.specs.Prelude.{slice_index_or}
use Rattle.std.proofs.lemmas.List.{append_assoc, length-append, take_more}
use Rattle.walrus_forms.specs.declared.value.ValType.{ValType}
use Rattle.walrus_module_env.specs.walrus_body_parser.walrus_body_stack.walrus_instr.walrus_types.walrus_items.declared.local.Local.{Local}
use Rattle.walrus_index_maps.specs.Maps.{Ids, with_last}
use Rattle.walrus_module_env.specs.walrus_collections.walrus_local_function.walrus_body_locals.Locals.{locals_from, ids_from, with_more, with_locals}
use Rattle.walrus_module_bodies.specs.Steps.{HasArguments}

locals_behind : (xs : List ValType) (y : ValType) (n : ℕ) → locals_from n (xs ++ y ∷ []) ≡ locals_from n xs ++ record { id = n + length xs; ty = y; name = None } ∷ []
locals_behind [] y n = ap (λ (k : ℕ). record { id = k; ty = y; name = None } ∷ []) (let e : n ≡ n + 0 = omega arith in e)
locals_behind (x ∷ xs) y n =
    let e : suc n + length xs ≡ n + suc (length xs) = omega arith in
    ap (λ (l : List Local). record { id = n; ty = x; name = None } ∷ l) (locals_behind xs y (suc n) ∙ ap (λ (k : ℕ). locals_from (suc n) xs ++ record { id = k; ty = y; name = None } ∷ []) e)

ids_behind : (xs : List ValType) (y : ValType) (n : ℕ) → ids_from n (xs ++ y ∷ []) ≡ ids_from n xs ++ (n + length xs) ∷ []
ids_behind [] y n = ap (λ (k : ℕ). k ∷ []) (let e : n ≡ n + 0 = omega arith in e)
ids_behind (x ∷ xs) y n =
    let e : suc n + length xs ≡ n + suc (length xs) = omega arith in
    ap (λ (l : List ℕ). n ∷ l) (ids_behind xs y (suc n) ∙ ap (λ (k : ℕ). ids_from (suc n) xs ++ k ∷ []) e)

many_locals : (xs : List ValType) (n : ℕ) → length (locals_from n xs) ≡ length xs
many_locals [] n = refl
many_locals (x ∷ xs) n = ap suc (many_locals xs (suc n))

pub many_ids : (xs : List ValType) (n : ℕ) → length (ids_from n xs) ≡ length xs
many_ids [] n = refl
many_ids (x ∷ xs) n = ap suc (many_ids xs (suc n))

agree : {A B : Type 0} (f g : A → B) → ((x : A) → f x ≡ g x) → f ≡ g
agree f g h = λ i x. h x i

no_more : (function : ℕ) (i : Ids) → i ≡ with_locals function [] i
no_more function i = ap (λ (l : ℕ → List ℕ). record i { locals = l }) (agree i.locals (with_more function [] i.locals) (λ f. at (f == function) f))
  where
    at : (b : Bool) (f : ℕ) → i.locals f ≡ (if b then i.locals f ++ [] else i.locals f)
    at true f = sym (append-nil (i.locals f))
    at false f = refl

one_more : (function : ℕ) (js : List ℕ) (k : ℕ) (i : Ids) → record (with_locals function js i) { locals = with_last function k (with_locals function js i).locals } ≡ with_locals function (js ++ k ∷ []) i
one_more function js k i = ap (λ (l : ℕ → List ℕ). record i { locals = l }) (agree (with_last function k (with_more function js i.locals)) (with_more function (js ++ k ∷ []) i.locals) (λ f. at (f == function) f))
  where
    at : (b : Bool) (f : ℕ) → (if b then (if b then i.locals f ++ js else i.locals f) ++ k ∷ [] else (if b then i.locals f ++ js else i.locals f)) ≡ (if b then i.locals f ++ (js ++ k ∷ []) else i.locals f)
    at true f = append_assoc (i.locals f) js (k ∷ [])
    at false f = refl

pub arguments_none : (function : ℕ) (ls : List Local) (i : Ids) → HasArguments function [] ls ls i i []
arguments_none function ls i = record { adds = record { added = sym (append-nil ls); named = no_more function i }; args_are = refl }

pub arguments_on : (function : ℕ) (params : List ValType) (at : ℕ) (other ty : ValType) (ls ms ns : List Local) (i j k : Ids) (args more : List ℕ) (id : ℕ)
    → ty ≡ slice_index_or params at other → at < length params → HasArguments function (take at params) ls ms i j args
    → id ≡ length ms → ns ≡ ms ++ record { id = id; ty = ty; name = None } ∷ [] → k ≡ record j { locals = with_last function id j.locals } → more ≡ args ++ id ∷ []
    → HasArguments function (take (at + 1) params) ls ns i k more
arguments_on function params at other ty ls ms ns i j k args more id is lt h id_is added named args_are = rw (take_more params at other lt, sym is) (record {
  adds = record {
    added = added ∙ ap (λ (l : List Local). l ++ record { id = id; ty = ty; name = None } ∷ []) h.adds.added
        ∙ append_assoc ls (locals_from (length ls) xs) (record { id = id; ty = ty; name = None } ∷ [])
        ∙ ap (λ (n : ℕ). ls ++ (locals_from (length ls) xs ++ record { id = n; ty = ty; name = None } ∷ [])) many
        ∙ ap (λ (l : List Local). ls ++ l) (sym (locals_behind xs ty (length ls)));
    named = named ∙ ap (λ (m : Ids). record m { locals = with_last function id m.locals }) h.adds.named
        ∙ one_more function (ids_from (length ls) xs) id i
        ∙ ap (λ (n : ℕ). with_locals function (ids_from (length ls) xs ++ n ∷ []) i) many
        ∙ ap (λ (l : List ℕ). with_locals function l i) (sym (ids_behind xs ty (length ls)));
  };
  args_are = args_are ∙ ap (λ (l : List ℕ). l ++ id ∷ []) h.args_are ∙ ap (λ (n : ℕ). ids_from (length ls) xs ++ n ∷ []) many ∙ sym (ids_behind xs ty (length ls));
})
  where
    xs : List ValType
    xs = take at params

    many : id ≡ length ls + length xs
    many = id_is ∙ ap length h.adds.added ∙ length-append ls (locals_from (length ls) xs) ∙ ap (λ (n : ℕ). length ls + n) (many_locals xs (length ls))
