-- Lemmas: what was lacking is found once it was added.
use Rattle.std.proofs.Common.{◌≡◌, ◌∙◌, Bool, true, false, not, cond, ◌||◌, ◌&&◌, List, [], ◌∷◌, map, filter, refl, ap}
use Rattle.std.specs.List.{AllByRecursion}
use Rattle.walrus_forms.specs.Kinds.{Kind}
use Rattle.walrus_forms.specs.Same.{same_kind}
use Rattle.walrus_forms.proofs.EqLemmas.{same-kind-law}
use Rattle.walrus_named_bodies.specs.walrus_item_names.walrus_module.walrus_types.Table.{Table}
use Rattle.walrus_parse_laws.specs.Added.{Signature, added, is_missing, kind_of, once}
use Rattle.walrus_parse_laws.proofs.OnceLemmas.{has, has_others, others}
use Rattle.walrus_parse_laws.proofs.GroupsTableLemmas.{Stands}

once_has : (ks : List Kind) (x : Kind) → has ks x ≡ true → has (once ks) x ≡ true
once_has [] x h = absurd cc
once_has (k ∷ ks) x h = go (same_kind k x) refl h (once_has ks x)
  where
    go : (c : Bool) → same_kind k x ≡ c → (c || has ks x) ≡ true → (has ks x ≡ true → has (once ks) x ≡ true) → has (once (k ∷ ks)) x ≡ true
    go true e h on = ap (λ (c : Bool). c || has (others k (once ks)) x) e
    go false e h on = ap (λ (c : Bool). c || has (others k (once ks)) x) e ∙ has_others k x (once ks) (on h) e

all_later : {X : Type 0} (P Q : X → Type 0) → ((x : X) → P x → Q x) → (xs : List X) → AllByRecursion P xs → AllByRecursion Q xs
all_later P Q f [] h = tt
all_later P Q f (x ∷ xs) h = (f x h.0, all_later P Q f xs h.1)

module _ (t : Table) where
  abbrev IsIn : List Signature → Signature → Type 0
  IsIn ss s = is_missing t s ≡ true → has (map kind_of (filter (is_missing t) ss)) (kind_of s) ≡ true

  one_more : (s : Signature) (ss : List Signature) (x : Kind) → has (map kind_of (filter (is_missing t) ss)) x ≡ true → has (map kind_of (filter (is_missing t) (s ∷ ss))) x ≡ true
  one_more s ss x h = go (is_missing t s)
    where
      either : (c : Bool) → (c || has (map kind_of (filter (is_missing t) ss)) x) ≡ true
      either true = refl
      either false = h

      go : (c : Bool) → has (map kind_of (cond c (s ∷ filter (is_missing t) ss) (filter (is_missing t) ss))) x ≡ true
      go true = either (same_kind (kind_of s) x)
      go false = h

  each_in : (ss : List Signature) → AllByRecursion (IsIn ss) ss
  each_in [] = tt
  each_in (s ∷ ss) = (
    (λ e. ap (λ (c : Bool). has (map kind_of (cond c (s ∷ filter (is_missing t) ss) (filter (is_missing t) ss))) (kind_of s)) e
        ∙ ap (λ (c : Bool). c || has (map kind_of (filter (is_missing t) ss)) (kind_of s)) ((same-kind-law (kind_of s) (kind_of s)).1 refl)),
    all_later (IsIn ss) (IsIn (s ∷ ss)) (λ x h e. one_more s ss (kind_of x) (h e)) ss (each_in ss),
  )

  -- once they were added none is missing
  pub none_missing : (ss : List Signature) (u : Table) → Stands t ss u → AllByRecursion (λ s. is_missing u s ≡ false) ss
  none_missing ss u h = all_later (IsIn ss) (λ s. is_missing u s ≡ false) one ss (each_in ss)
    where
      one : (s : Signature) → IsIn ss s → is_missing u s ≡ false
      one s inside = h.missing s ∙ go (is_missing t s) refl
        where
          go : (c : Bool) → is_missing t s ≡ c → (c && not (has (added t ss) (kind_of s))) ≡ false
          go false e = refl
          go true e = ap (λ (c : Bool). not c) (once_has (map kind_of (filter (is_missing t) ss)) (kind_of s) (inside e))
