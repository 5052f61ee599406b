-- The loops over lists whose items' indices are changed.
use Rattle.std.proofs.Common.{ℕ, suc, ◌≡◌, ◌+◌, ◌<◌, ◌≤◌, List, [], ◌∷◌, ◌++◌, length, take, drop, get_or, set, Result, Ok, Err, refl, sym, ap, ◌∙◌, subst, arith, inl, inr}
use Rattle.std.proofs.lemmas.List.{append_assoc, take_more_set, drop-set-lt, set_split, take-append-drop, drop_all}
use Rattle.std.proofs.Math.Seq.{drop-cons}
use Rattle.wasm_ref_types.specs.declared.index.UnpackedIndex.{UnpackedIndex}
use Rattle.wasm_composite_types.specs.Remap.{VisitsEach}

module _ {F E : Type 0} (call : F → UnpackedIndex → Result (Unit {0}) E → F → UnpackedIndex → Type 0) {X : Type 0} (One : F → X → Result (Unit {0}) E → F → X → Type 0) where
  -- after `i` items: what visits those to come visits all
  pub record Visited (start : F) (old : List X) (now : F) (xs : List X) (i : ℕ) : Type 0 where
    pub completes : (r : Result (Unit {0}) E) (g : F) (ys : List X) → VisitsEach call One now (drop i xs) r g ys → VisitsEach call One start old r g (take i xs ++ ys)

  pub begins : (start : F) (old : List X) → Visited start old start old 0
  begins start old = record { completes = λ r g ys h. h }

  module _ (start now new : F) (old xs : List X) (i : ℕ) (x : X) (so : Visited start old now xs i) (here : x ≡ get_or xs i x) (below : i < length xs) where
    next : drop i xs ≡ x ∷ drop (suc i) xs
    next = drop-cons xs i x below ∙ ap (λ (y : X). y ∷ drop (suc i) xs) (sym here)

    pub more : (y : X) → One now x (Ok tt) new y → Visited start old new (set xs i y) (i + 1)
    more y h = record {
      completes = λ r g ys later.
          let same : drop (i + 1) (set xs i y) ≡ drop (suc i) xs = drop-set-lt (i + 1) xs i y (omega arith) ∙ (let n : i + 1 ≡ suc i = omega arith in ap (λ (k : ℕ). drop k xs) n) in
          let visit : VisitsEach call One now (x ∷ drop (suc i) xs) r g (y ∷ ys) = inl (new, h, subst (λ (l : List X). VisitsEach call One new l r g ys) same later) in
          let all = so.completes r g (y ∷ ys) (subst (λ (l : List X). VisitsEach call One now l r g (y ∷ ys)) (sym next) visit) in
          subst (λ (l : List X). VisitsEach call One start old r g l)
          (sym (append_assoc (take i xs) (y ∷ []) ys) ∙ ap (λ (l : List X). l ++ ys) (sym (take_more_set xs i y below))) all;
    }

    -- an item is refused, and may have changed
    pub stops : (e : E) (y : X) → One now x (Err e) new y → VisitsEach call One start old (Err e) new (set xs i y)
    stops e y h =
        let visit : VisitsEach call One now (x ∷ drop (suc i) xs) (Err e) new (y ∷ drop (suc i) xs) = inr (e, h, refl, refl) in
        let all = so.completes (Err e) new (y ∷ drop (suc i) xs) (subst (λ (l : List X). VisitsEach call One now l (Err e) new (y ∷ drop (suc i) xs)) (sym next) visit) in
        subst (λ (l : List X). VisitsEach call One start old (Err e) new l) (sym (set_split xs i y below)) all

    -- an item is refused, and stays
    pub stays : (e : E) → One now x (Err e) new x → VisitsEach call One start old (Err e) new xs
    stays e h =
        let visit : VisitsEach call One now (x ∷ drop (suc i) xs) (Err e) new (x ∷ drop (suc i) xs) = inr (e, h, refl, refl) in
        let all = so.completes (Err e) new (x ∷ drop (suc i) xs) (subst (λ (l : List X). VisitsEach call One now l (Err e) new (x ∷ drop (suc i) xs)) (sym next) visit) in
        subst (λ (l : List X). VisitsEach call One start old (Err e) new l) (ap (λ (l : List X). take i xs ++ l) (sym next) ∙ take-append-drop i xs) all

  pub ends : (start now : F) (old xs : List X) (i : ℕ) → Visited start old now xs i → length xs ≤ i → VisitsEach call One start old (Ok tt) now xs
  ends start now old xs i so above =
      let none = drop_all i xs above in
      let all = so.completes (Ok tt) now [] (subst (λ (l : List X). VisitsEach call One now l (Ok tt) now []) (sym none) (refl, refl, refl)) in
      subst (λ (l : List X). VisitsEach call One start old (Ok tt) now l) (ap (λ (l : List X). take i xs ++ l) (sym none) ∙ take-append-drop i xs) all

  pub as_long : (start now : F) (xs ys : List X) (r : Result (Unit {0}) E) → VisitsEach call One start xs r now ys → length ys ≡ length xs
  as_long start now [] ys r h = ap length h.2
  as_long start now (x ∷ xs) [] r h = absurd h
  as_long start now (x ∷ xs) (y ∷ ys) r (inl h) = let later = as_long h.0 now xs ys r h.2 in omega arith
  as_long start now (x ∷ xs) (y ∷ ys) r (inr h) = let later : length ys ≡ length xs = ap length h.3 in omega arith
