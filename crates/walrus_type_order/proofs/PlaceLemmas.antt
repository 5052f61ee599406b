-- The places of the first entries, one by one.
use Rattle.std.proofs.Common.{◌≡◌, ℕ, zero, suc, ◌+◌, ◌<◌, true, false, List, [], ◌∷◌, ◌++◌, length, get_or, map, take, All, Option, Some, None, refl, sym, ap, subst, ◌∙◌, arith}
use Rattle.std.specs.Prelude.{slice_get, count_by, is_none, is_some}
use Rattle.std.proofs.lemmas.Bool.{false≢true}
use Rattle.std.specs.List.{range_with_len}
use Rattle.std.proofs.lemmas.List.{map-append}
use Rattle.std.proofs.lemmas.List.Sums.{count_by_more_no, count_by_more_yes}
use Rattle.std.proofs.lemmas.List.Elements.{All-push}
use Rattle.std.proofs.lemmas.Option.{slice_get-get_or}
use Rattle.walrus_type_order.specs.Places.{IsPlaceIn}
use Rattle.walrus_type_order.specs.declared.order.Place.{Place}

-- what holds of the places of the first n entries
pub record AreFirst {T : Type 0} (entries : List (Option T)) (n anchors : ℕ) (ps : List (Place T)) : Type 0 where
  pub positions : map (λ (p : Place T). p.position) ps ≡ range_with_len 0 n
  pub each : All (IsPlaceIn entries) ps
  pub counted : anchors ≡ count_by is_none (take n entries)

range_more_from : (a n j : ℕ) → a + n ≡ j → range_with_len a (suc n) ≡ range_with_len a n ++ j ∷ []
range_more_from a zero j e = ap (λ k. k ∷ []) (omega arith)
range_more_from a (suc n) j e = ap (λ ks. a ∷ ks) (range_more_from (a + 1) n j (omega arith))

range_more : (n : ℕ) → range_with_len 0 (n + 1) ≡ range_with_len 0 n ++ n ∷ []
range_more n =
    let e : n + 1 ≡ suc n = omega arith in
    ap (λ m. range_with_len 0 m) e ∙ range_more_from 0 n n (omega arith)

none_key : {T : Type 0} (key : Option T) → is_some key ≡ false → is_none key ≡ true
none_key None e = refl
none_key (Some key) e = absurd (false≢true (sym e))

some_key : {T : Type 0} (key : Option T) → is_some key ≡ true → is_none key ≡ false
some_key None e = absurd (false≢true e)
some_key (Some key) e = refl

module _ {T : Type 0} where
  found_entry : (es : List (Option T)) (i : ℕ) (key : Option T) → i < length es → key ≡ get_or es i key → slice_get es i ≡ Some key
  found_entry es i key small is = slice_get-get_or es i key small ∙ sym (ap (λ (k : Option T). Some k) is)

  -- one more entry, with so many anchors up to it
  pub first_more : (es : List (Option T)) (i anchors more : ℕ) (ps qs : List (Place T)) (key : Option T) → i < length es → key ≡ get_or es i key →
      more ≡ count_by is_none (take (i + 1) es) → qs ≡ ps ++ record { anchors = more; key = key; position = i } ∷ [] → AreFirst es i anchors ps → AreFirst es (i + 1) more qs
  first_more es i anchors more ps qs key small is count pushed first = record {
    positions = ap (map (λ (p : Place T). p.position)) pushed ∙ map-append (λ (p : Place T). p.position) ps _ ∙ ap (λ (ns : List ℕ). ns ++ i ∷ []) first.positions ∙ sym (range_more i);
    each = subst (λ (xs : List (Place T)). All (IsPlaceIn es) xs) (sym pushed) (All-push (IsPlaceIn es) ps _ first.each (record { key = found_entry es i key small is; anchors = count }));
    counted = count;
  }

  pub anchor_more : (es : List (Option T)) (i anchors : ℕ) (key : Option T) → i < length es → key ≡ get_or es i key → is_some key ≡ false →
      anchors ≡ count_by is_none (take i es) → anchors + 1 ≡ count_by is_none (take (i + 1) es)
  anchor_more es i anchors key small is none counted = ap (λ n. n + 1) counted ∙ sym (count_by_more_yes is_none es i key small (ap is_none (sym is) ∙ none_key key none))

  pub anchor_same : (es : List (Option T)) (i anchors : ℕ) (key : Option T) → i < length es → key ≡ get_or es i key → is_some key ≡ true →
      anchors ≡ count_by is_none (take i es) → anchors ≡ count_by is_none (take (i + 1) es)
  anchor_same es i anchors key small is some counted = counted ∙ sym (count_by_more_no is_none es i key small (ap is_none (sym is) ∙ some_key key some))
