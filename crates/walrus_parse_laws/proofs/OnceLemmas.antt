-- Lemmas: kinds that are kept once, with one more behind them.
use Rattle.std.proofs.Common.{◌≡◌, ◌∙◌, Bool, true, false, not, cond, ◌||◌, ◌&&◌, List, [], ◌∷◌, ◌++◌, map, filter, refl, sym, ap}
use Rattle.std.specs.Prelude.{if◌then◌else◌}
use Rattle.std.specs.List.{list_any}
use Rattle.std.proofs.lemmas.List.{append-nil, map-append}
use Rattle.std.proofs.lemmas.List.Elements.{filter-append}
use Rattle.walrus_forms.specs.Kinds.{Kind}
use Rattle.walrus_forms.specs.Same.{same_kind}
use Rattle.walrus_forms.proofs.EqLemmas.{same-kind-law}
use Rattle.walrus_named_bodies.specs.walrus_item_names.walrus_module.walrus_types.Table.{Table}
use Rattle.walrus_parse_laws.specs.Added.{Signature, added, is_missing, kind_of, once}

-- whether a kind is among these
abbrev pub has : List Kind → Kind → Bool
has ks k = list_any (λ other. same_kind other k) ks

abbrev pub others : Kind → List Kind → List Kind
others k ks = filter (λ other. not (same_kind k other)) ks

not_both : (b : Bool) → b ≡ true → b ≡ false → ⊥
not_both b h g = cc

-- what is another kind is among the others, too
pub has_others : (k x : Kind) (ks : List Kind) → has ks x ≡ true → same_kind k x ≡ false → has (others k ks) x ≡ true
has_others k x [] h n = absurd cc
has_others k x (y ∷ ks) h n = go (same_kind y x) (same_kind k y) refl refl h (λ later. has_others k x ks later n)
  where
    go : (c d : Bool) → same_kind y x ≡ c → same_kind k y ≡ d → (c || has ks x) ≡ true → (has ks x ≡ true → has (others k ks) x ≡ true) → has (cond (not d) (y ∷ others k ks) (others k ks)) x ≡ true
    go true true e f h on = absurd (let same : k ≡ x = (same-kind-law k y).0 f ∙ (same-kind-law y x).0 e in not_both (same_kind k x) ((same-kind-law k x).1 same) n)
    go true false e f h on = ap (λ (c : Bool). c || has (others k ks) x) e
    go false true e f h on = on h
    go false false e f h on = ap (λ (c : Bool). c || has (others k ks) x) e ∙ on h

-- what isn't among all isn't among the others
others_none : (k x : Kind) (ks : List Kind) → has ks x ≡ false → has (others k ks) x ≡ false
others_none k x [] h = refl
others_none k x (y ∷ ks) h = go (same_kind y x) (same_kind k y) refl h (others_none k x ks)
  where
    go : (c d : Bool) → same_kind y x ≡ c → (c || has ks x) ≡ false → (has ks x ≡ false → has (others k ks) x ≡ false) → has (cond (not d) (y ∷ others k ks) (others k ks)) x ≡ false
    go true d e h on = absurd cc
    go false true e h on = on h
    go false false e h on = ap (λ (c : Bool). c || has (others k ks) x) e ∙ on h

-- one more is added if it isn't there
once_more : (ks : List Kind) (x : Kind) → once (ks ++ x ∷ []) ≡ (if has (once ks) x then once ks else once ks ++ x ∷ [])
once_more [] x = refl
once_more (k ∷ ks) x = go (has (once ks) x) (same_kind k x) refl refl (once_more ks x)
  where
    mine : List Kind
    mine = once ks

    goal : Type 0
    goal = k ∷ others k (once (ks ++ x ∷ [])) ≡ (if has (k ∷ others k mine) x then k ∷ others k mine else (k ∷ others k mine) ++ x ∷ [])

    there : has (k ∷ others k mine) x ≡ true → once (ks ++ x ∷ []) ≡ mine → goal
    there h e = ap (λ (l : List Kind). k ∷ others k l) e ∙ sym (ap (λ (c : Bool). if c then k ∷ others k mine else (k ∷ others k mine) ++ x ∷ []) h)

    split : once (ks ++ x ∷ []) ≡ mine ++ x ∷ [] → (k ∷ others k (once (ks ++ x ∷ []))) ≡ (k ∷ (others k mine ++ others k (x ∷ [])))
    split e = ap (λ (l : List Kind). k ∷ others k l) e ∙ ap (λ (l : List Kind). k ∷ l) (filter-append (λ other. not (same_kind k other)) mine (x ∷ []))

    go : (c d : Bool) → has mine x ≡ c → same_kind k x ≡ d → once (ks ++ x ∷ []) ≡ (if c then mine else mine ++ x ∷ []) → goal
    go true true h n e = there (ap (λ (c : Bool). c || has (others k mine) x) n) e
    go true false h n e = there (ap (λ (c : Bool). c || has (others k mine) x) n ∙ has_others k x mine h n) e
    go false true h n e =
        split e
        ∙ ap (λ (c : Bool). k ∷ (others k mine ++ cond (not c) (x ∷ []) [])) n
        ∙ ap (λ (l : List Kind). k ∷ l) (append-nil (others k mine))
        ∙ sym (ap (λ (c : Bool). if c then k ∷ others k mine else (k ∷ others k mine) ++ x ∷ []) (ap (λ (c : Bool). c || has (others k mine) x) n))
    go false false h n e =
        split e
        ∙ ap (λ (c : Bool). k ∷ (others k mine ++ cond (not c) (x ∷ []) [])) n
        ∙ sym (ap (λ (c : Bool). if c then k ∷ others k mine else (k ∷ others k mine) ++ x ∷ []) (ap (λ (c : Bool). c || has (others k mine) x) n ∙ others_none k x mine h))

-- what is added for one more: a type, if it is missing and wasn't added before
pub added_more : (t : Table) (ss : List Signature) (s : Signature)
    → added t (ss ++ s ∷ []) ≡ (if is_missing t s && not (has (added t ss) (kind_of s)) then added t ss ++ kind_of s ∷ [] else added t ss)
added_more t ss s = ap (λ (l : List Signature). once (map kind_of l)) (filter-append (is_missing t) ss (s ∷ [])) ∙ go (is_missing t s) refl
  where
    front : List Signature
    front = filter (is_missing t) ss

    go : (c : Bool) → is_missing t s ≡ c
        → once (map kind_of (front ++ cond (is_missing t s) (s ∷ []) [])) ≡ (if is_missing t s && not (has (added t ss) (kind_of s)) then added t ss ++ kind_of s ∷ [] else added t ss)
    go false e =
        ap (λ (c : Bool). once (map kind_of (front ++ cond c (s ∷ []) []))) e
        ∙ ap (λ (l : List Signature). once (map kind_of l)) (append-nil front)
        ∙ sym (ap (λ (c : Bool). if c && not (has (added t ss) (kind_of s)) then added t ss ++ kind_of s ∷ [] else added t ss) e)
    go true e =
        ap (λ (c : Bool). once (map kind_of (front ++ cond c (s ∷ []) []))) e
        ∙ ap once (map-append kind_of front (s ∷ []))
        ∙ once_more (map kind_of front) (kind_of s)
        ∙ turned (has (added t ss) (kind_of s))
        ∙ sym (ap (λ (c : Bool). if c && not (has (added t ss) (kind_of s)) then added t ss ++ kind_of s ∷ [] else added t ss) e)
      where
        turned : (c : Bool) → (if c then added t ss else added t ss ++ kind_of s ∷ []) ≡ (if true && not c then added t ss ++ kind_of s ∷ [] else added t ss)
        turned true = refl
        turned false = refl
