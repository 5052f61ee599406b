-- Lemmas: lists of numbers that pass a test.
use Rattle.std.specs.Prelude.{ℕ, zero, suc, ◌≡◌, ◌+◌, Bool, true, false, List, [], ◌∷◌, ◌++◌, length, map, filter, take, drop, Some, slice_get, refl, if◌then◌else◌}
use Rattle.std.specs.List.{flat_map}
use Rattle.std.proofs.Common.{ap, sym, ◌∙◌, subst, arith}
use Rattle.std.proofs.lemmas.List.{length-append}
use Rattle.std.proofs.lemmas.Option.{none-some, same_Some}
use Rattle.walrus_forms.specs.Kinds.{Kind}
use Rattle.walrus_forms.specs.Records.{TypeGroup}
use Rattle.walrus_types.specs.Items.{Group}
use Rattle.walrus_types.proofs.Places.{Has}
use Rattle.wasm_references.specs.References.{numbered}
use Rattle.wasm_part.specs.Written.{with_types}

module _ (w : ℕ → Bool) where
  wider : (b : Bool) (x y : ℕ) (xs : List ℕ) → Has xs y → Has (if b then x ∷ xs else xs) y
  wider true x y xs h = (suc h.0, h.1)
  wider false x y xs h = h

  pub in_filter : (xs : List ℕ) (i y : ℕ) → slice_get xs i ≡ Some y → w y ≡ true → Has (filter w xs) y
  in_filter [] i y at is = absurd (none-some y at)
  in_filter (x ∷ xs) zero y at is =
      let e : x ≡ y = same_Some x y at in subst (λ (l : List ℕ). Has l y) (sym (ap (λ (b : Bool). if b then x ∷ filter w xs else filter w xs) (ap w e ∙ is))) (zero, at)
  in_filter (x ∷ xs) (suc i) y at is = wider (w x) x y (filter w xs) (in_filter xs i y at is)

  of_one : (x y : ℕ) (xs : List ℕ) → ((i : ℕ) → slice_get xs i ≡ Some y → w y ≡ true) → (b : Bool) → w x ≡ b → (i : ℕ) → slice_get (if b then x ∷ xs else xs) i ≡ Some y → w y ≡ true
  of_one x y xs later false e i at = later i at
  of_one x y xs later true e zero at = ap w (sym (same_Some x y at)) ∙ e
  of_one x y xs later true e (suc i) at = later i at

  pub of_filter : (xs : List ℕ) (i y : ℕ) → slice_get (filter w xs) i ≡ Some y → w y ≡ true
  of_filter [] i y at = absurd (none-some y at)
  of_filter (x ∷ xs) i y at = of_one x y (filter w xs) (λ i at. of_filter xs i y at) (w x) refl i at

  one_more : (b : Bool) (x : ℕ) (xs ys zs : List ℕ) → xs ++ ys ≡ zs → (if b then x ∷ xs else xs) ++ ys ≡ (if b then x ∷ zs else zs)
  one_more true x xs ys zs e = ap (λ (l : List ℕ). x ∷ l) e
  one_more false x xs ys zs e = e

  split : (k : ℕ) (ns : List ℕ) → filter w (take k ns) ++ filter w (drop k ns) ≡ filter w ns
  split zero ns = refl
  split (suc k) [] = refl
  split (suc k) (n ∷ ns) = one_more (w n) n (filter w (take k ns)) (filter w (drop k ns)) (filter w ns) (split k ns)

  dropped : (k rest : ℕ) (ns : List ℕ) → length ns ≡ k + rest → length (drop k ns) ≡ rest
  dropped zero rest ns e = omega (arith, e)
  dropped (suc k) rest [] e = absurd (omega (arith, e))
  dropped (suc k) rest (n ∷ ns) e = dropped k rest ns (omega (arith, e))

  -- the numbers of the groups that pass, one group behind the other, are the numbers that pass
  pub numbered_pass : (gs : List TypeGroup) (ns : List ℕ) → length ns ≡ length (flat_map (λ (g : TypeGroup). g.kinds) gs)
      → flat_map (λ (e : Bool × List ℕ). e.1) (map (λ (g : TypeGroup × List ℕ). (g.0.marked, filter w g.1)) (numbered gs ns)) ≡ filter w ns
  numbered_pass [] [] e = refl
  numbered_pass [] (n ∷ ns) e = absurd (omega (arith, e))
  numbered_pass (g ∷ gs) ns e =
      let rest : List Kind = flat_map (λ (g : TypeGroup). g.kinds) gs in
      let k : ℕ = length g.kinds in
      let long : length ns ≡ k + length rest = e ∙ length-append g.kinds rest in
      ap (λ (l : List ℕ). filter w (take k ns) ++ l) (numbered_pass gs (drop k ns) (dropped k (length rest) ns long)) ∙ split k ns

-- groups without types have none
pub with_types_pass : (es : List (Bool × List ℕ)) → flat_map (λ (e : Bool × List ℕ). e.1) (with_types es) ≡ flat_map (λ (e : Bool × List ℕ). e.1) es
with_types_pass [] = refl
with_types_pass ((b, []) ∷ es) = with_types_pass es
with_types_pass ((b, n ∷ ns) ∷ es) = ap (λ (l : List ℕ). (n ∷ ns) ++ l) (with_types_pass es)

abbrev pub pair_of : Group → Bool × List ℕ
pair_of g = (g.explicit, g.types)

abbrev pub group_of : Bool × List ℕ → Group
group_of e = record { explicit = e.0; types = e.1 }

pub pairs_flat : (gs : List Group) → flat_map (λ (g : Group). g.types) gs ≡ flat_map (λ (e : Bool × List ℕ). e.1) (map (λ (g : Group). (g.explicit, g.types)) gs)
pairs_flat [] = refl
pairs_flat (g ∷ gs) = ap (λ (l : List ℕ). g.types ++ l) (pairs_flat gs)

pub pairs_back : (gs : List Group) → map group_of (map (λ (g : Group). (g.explicit, g.types)) gs) ≡ gs
pairs_back [] = refl
pairs_back (g ∷ gs) = ap (λ (l : List Group). g ∷ l) (pairs_back gs)
