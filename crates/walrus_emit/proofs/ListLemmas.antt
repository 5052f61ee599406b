-- Lists that grow item by item.
use Rattle.std.specs.Prelude.{◌≡◌, Bool, true, false, List, [], ◌∷◌, ◌++◌, map, filter, refl}
use Rattle.std.proofs.Common.{ap, sym, ◌∙◌}
use Rattle.std.proofs.lemmas.List.{append_assoc, append-nil}

module _ {T A : Type 0} (f : T → A) where
  -- an item moves from what is left to what is listed
  pub moved : (left rest : List T) (x : T) (now next all : List A) → left ≡ x ∷ rest → next ≡ now ++ f x ∷ [] → now ++ map f left ≡ all → next ++ map f rest ≡ all
  moved left rest x now next all e n h = ap (λ (l : List A). l ++ map f rest) n ∙ append_assoc now (f x ∷ []) (map f rest) ∙ sym (ap (λ (l : List T). now ++ map f l) e) ∙ h

  -- nothing is left
  pub ended : (left : List T) (now all : List A) → left ≡ [] → now ++ map f left ≡ all → now ≡ all
  ended left now all e h = sym (append-nil now) ∙ sym (ap (λ (l : List T). now ++ map f l) e) ∙ h

module _ {T A : Type 0} (test : T → Bool) (f : T → A) where
  kept_one : (rest : List T) (x : T) → test x ≡ true → filter test (x ∷ rest) ≡ x ∷ filter test rest
  kept_one rest x h = rw h refl

  skipped_one : (rest : List T) (x : T) → test x ≡ false → filter test (x ∷ rest) ≡ filter test rest
  skipped_one rest x h = rw h refl

  -- the same of items that pass a test
  pub passed : (left rest : List T) (x : T) (now next all : List A) → left ≡ x ∷ rest → test x ≡ true → next ≡ now ++ f x ∷ []
      → now ++ map f (filter test left) ≡ all → next ++ map f (filter test rest) ≡ all
  passed left rest x now next all e t n h =
      moved f (filter test left) (filter test rest) x now next all (ap (λ (l : List T). filter test l) e ∙ kept_one rest x t) n h

  pub skipped : (left rest : List T) (x : T) (now all : List A) → left ≡ x ∷ rest → test x ≡ false → now ++ map f (filter test left) ≡ all → now ++ map f (filter test rest) ≡ all
  skipped left rest x now all e t h = sym (ap (λ (l : List T). now ++ map f l) (ap (λ (l : List T). filter test l) e ∙ skipped_one rest x t)) ∙ h

  pub passed_end : (left : List T) (now all : List A) → left ≡ [] → now ++ map f (filter test left) ≡ all → now ≡ all
  passed_end left now all e h = ended f (filter test left) now all (ap (λ (l : List T). filter test l) e) h
