-- Lemmas: the keys of the first exports, one by one.
use Rattle.std.specs.Prelude.{ℕ, zero, suc, ◌+◌, ◌<◌, ◌≡◌, List, [], ◌∷◌, ◌++◌, length, map, All, Some, slice_get, slice_index_or, refl}
use Rattle.std.specs.List.{range_with_len}
use Rattle.std.proofs.Common.{ap, sym, ◌∙◌, arith}
use Rattle.std.proofs.lemmas.List.{map-append}
use Rattle.std.proofs.lemmas.List.Elements.{All-push}
use Rattle.walrus_known_sections.specs.declared.items.Export.{Export}
use Rattle.walrus_export_reader.specs.declared.repeats.Key.{Key}
use Rattle.walrus_export_reader.specs.Keys.{IsKey, mixed_of}
use Rattle.walrus_export_reader.specs.Repeats.{names_of}

pub record AreFirst (exports : List Export) (n : ℕ) (keys : List Key) : Type 0 where
  pub numbers : map (λ (k : Key). k.number) keys ≡ range_with_len 0 n
  pub each : All (IsKey (names_of exports)) keys

range_more_from : (a n j : ℕ) → a + n ≡ j → range_with_len a (suc n) ≡ range_with_len a n ++ j ∷ []
range_more_from a zero j e = ap (λ k. k ∷ []) (omega arith)
range_more_from a (suc n) j e = ap (λ ks. a ∷ ks) (range_more_from (a + 1) n j (omega arith))

range_more : (n : ℕ) → range_with_len 0 (n + 1) ≡ range_with_len 0 n ++ n ∷ []
range_more n =
    let e : n + 1 ≡ suc n = omega arith in
    ap (λ m. range_with_len 0 m) e ∙ range_more_from 0 n n (omega arith)

name_there : (exports : List Export) (i : ℕ) (d : Export) → i < length exports → slice_get (names_of exports) i ≡ Some (slice_index_or exports i d).name.now
name_there [] i d below = absurd (omega (arith, below))
name_there (x ∷ exports) zero d below = refl
name_there (x ∷ exports) (suc i) d below = name_there exports i d (omega (arith, below))

pub one_more : (exports : List Export) (i : ℕ) (keys : List Key) (k : Key) (d : Export) → i < length exports → k.number ≡ i → k.name.now ≡ (slice_index_or exports i d).name.now
    → k.mixed ≡ mixed_of k.name.now → AreFirst exports i keys → AreFirst exports (i + 1) (keys ++ k ∷ [])
one_more exports i keys k d below number name mixed h = record {
  numbers = map-append (λ (k : Key). k.number) keys (k ∷ []) ∙ rw (h.numbers, number) (sym (range_more i));
  each = All-push (IsKey (names_of exports)) keys k h.each (record { name = rw (number, name) (name_there exports i d below); mixed = mixed });
}
