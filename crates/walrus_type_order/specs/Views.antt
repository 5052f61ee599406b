-- An order by keys is one by what stands for the keys.
use Rattle.std.proofs.Common.{◌≡◌, ℕ, ◌<◌, ◌⊎◌, Ordering, List, map, Option, Some, None, refl, sym, ap, subst, ◌∙◌}
use Rattle.std.specs.Prelude.{slice_get, IsPermutation}
use Rattle.std.specs.List.{range_with_len}
use Rattle.std.specs.Option.{option_map}
use Rattle.std.specs.declared.cmp.Ordering.TheVariants.{Less, Equal}
use Rattle.std.proofs.Math.ListN.{length-map}
use Rattle.std.proofs.lemmas.Option.{slice_get-map, same_Some, none-some}
use Rattle.walrus_type_order.specs.Order.{HasAnchor, IsLess, IsEmissionOrder}

module _ {X Y : Type 0} (f : X → Y) where
  anchor_back : (e : Option (Option X)) → option_map (option_map f) e ≡ Some None → e ≡ Some None
  anchor_back None h = absurd (none-some None h)
  anchor_back (Some None) h = refl
  anchor_back (Some (Some x)) h = absurd (none-some (f x) (sym (same_Some (Some (f x)) None h)))

  key_back : (e : Option (Option X)) (y : Y) → option_map (option_map f) e ≡ Some (Some y) → (x : X) × (e ≡ Some (Some x)) × (f x ≡ y)
  key_back None y h = absurd (none-some (Some y) h)
  key_back (Some None) y h = absurd (none-some y (same_Some None (Some y) h))
  key_back (Some (Some x)) y h = (x, refl, same_Some (f x) y (same_Some (Some (f x)) (Some y) h))

  anchor_forth : (es : List (Option X)) (i j : ℕ) → HasAnchor es i j → HasAnchor (map (option_map f) es) i j
  anchor_forth es i j has = record {
    position = has.position;
    anchor = slice_get-map (option_map f) es has.position ∙ ap (option_map (option_map f)) has.anchor;
    from = has.from;
    upto = has.upto;
  }

  anchor_of : (es : List (Option X)) (i j : ℕ) → HasAnchor (map (option_map f) es) i j → HasAnchor es i j
  anchor_of es i j has = record {
    position = has.position;
    anchor = anchor_back (slice_get es has.position) (sym (slice_get-map (option_map f) es has.position) ∙ has.anchor);
    from = has.from;
    upto = has.upto;
  }

  less_of : (cmp : X → X → Ordering) (by : Y → Y → Ordering) → ((a b : X) → cmp a b ≡ by (f a) (f b)) → (es : List (Option X)) (i j : ℕ) → IsLess cmp es i j → IsLess by (map (option_map f) es) i j
  less_of cmp by same es i j less = λ y z at_y at_z.
      let a = key_back (slice_get es i) y (sym (slice_get-map (option_map f) es i) ∙ at_y) in
      let b = key_back (slice_get es j) z (sym (slice_get-map (option_map f) es j) ∙ at_z) in
      let is : cmp a.0 b.0 ≡ by y z = same a.0 b.0 ∙ ap (λ (v : Y). by v (f b.0)) a.2 ∙ ap (λ (v : Y). by y v) b.2 in
      subst (λ (o : Ordering). (o ≡ Less) ⊎ ((o ≡ Equal) × (i < j))) is (less a.0 b.0 a.1 b.1)

  less_under : (cmp : X → X → Ordering) (by : Y → Y → Ordering) → ((a b : X) → by (f a) (f b) ≡ cmp a b) → (es : List (Option X)) (i j : ℕ) → IsLess by (map (option_map f) es) i j → IsLess cmp es i j
  less_under cmp by same es i j less = λ x y at_x at_y.
      subst (λ (o : Ordering). (o ≡ Less) ⊎ ((o ≡ Equal) × (i < j))) (same x y)
      (less (f x) (f y) (slice_get-map (option_map f) es i ∙ ap (option_map (option_map f)) at_x) (slice_get-map (option_map f) es j ∙ ap (option_map (option_map f)) at_y))

  -- what compares as the keys do may stand for them
  pub ordered_by : (cmp : X → X → Ordering) (by : Y → Y → Ordering) → ((a b : X) → cmp a b ≡ by (f a) (f b)) → (es : List (Option X)) (order : List ℕ) →
      IsEmissionOrder cmp es order → IsEmissionOrder by (map (option_map f) es) order
  ordered_by cmp by same es order is = record {
    whole = subst (λ n. IsPermutation (range_with_len 0 n) order) (sym (length-map es (option_map f))) is.whole;
    anchored = λ i j d before small has. is.anchored i j d before small (anchor_of es _ _ has);
    sorted = λ i j d before small none. less_of cmp by same es _ _ (is.sorted i j d before small (λ has. none (anchor_forth es _ _ has)));
  }

  -- and the keys for it
  pub ordered_under : (cmp : X → X → Ordering) (by : Y → Y → Ordering) → ((a b : X) → by (f a) (f b) ≡ cmp a b) → (es : List (Option X)) (order : List ℕ) →
      IsEmissionOrder by (map (option_map f) es) order → IsEmissionOrder cmp es order
  ordered_under cmp by same es order is = record {
    whole = subst (λ n. IsPermutation (range_with_len 0 n) order) (length-map es (option_map f)) is.whole;
    anchored = λ i j d before small has. is.anchored i j d before small (anchor_forth es _ _ has);
    sorted = λ i j d before small none. less_under cmp by same es _ _ (is.sorted i j d before small (λ has. none (anchor_of es _ _ has)));
  }
