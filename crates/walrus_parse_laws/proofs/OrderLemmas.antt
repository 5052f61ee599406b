-- Lemmas: where items are in their order each number is its own id.
use Rattle.std.proofs.Common.{◌≡◌, ◌∙◌, ℕ, zero, suc, List, [], ◌∷◌, ◌++◌, length, Some, slice_get, refl, sym, arith, subst}
use Rattle.std.proofs.lemmas.List.{length-append}
use Rattle.walrus_named_bodies.specs.walrus_file_bodies.walrus_items_into.walrus_tables_into.walrus_sections_into.Numbers.{upto}
use Rattle.walrus_named_bodies.specs.walrus_file_bodies.walrus_items_into.walrus_tables_into.walrus_sections_into.wasm_operators.Items.{Types, Functions, Tables, Memories, Tags, Globals, ElementSegments, DataSegments, Locals, Labels}
use Rattle.walrus_parse_laws.specs.Meaning.{IsInOrder, OrderedStay}

count_is : (n : ℕ) → length (upto n) ≡ n
count_is zero = refl
count_is (suc n) = let k = count_is n in omega (arith, k, length-append (upto n) (n ∷ []))

-- one more behind those
last_is : (ids : List ℕ) (last i id : ℕ) {P : Type 0} → slice_get (ids ++ last ∷ []) i ≡ Some id → (slice_get ids i ≡ Some id → P) → (i ≡ length ids → id ≡ last → P) → P
last_is [] last zero id e p q = q refl (sym (some_is last id e))
  where
    some_is : (a b : ℕ) → Some a ≡ Some b → a ≡ b
    some_is a b e = cc
last_is [] last (suc i) id e p q = absurd cc
last_is (x ∷ ids) last zero id e p q = p e
last_is (x ∷ ids) last (suc i) id e p q = last_is ids last i id e p (λ at is. q (omega (arith, at)) is)

upto_is : (count n id : ℕ) → slice_get (upto count) n ≡ Some id → id ≡ n
upto_is zero n id e = absurd cc
upto_is (suc count) n id e = last_is (upto count) count n id e (upto_is count n id) (λ at is. is ∙ sym (at ∙ count_is count))

in_order : (ids : List ℕ) (n id : ℕ) → IsInOrder ids → slice_get ids n ≡ Some id → id ≡ n
in_order ids n id h e = upto_is h.0 n id (subst (λ (l : List ℕ). slice_get l n ≡ Some id) h.1 e)

none_there : (ids : List ℕ) (n id : ℕ) → ids ≡ [] → slice_get ids n ≡ Some id → id ≡ n
none_there ids n id is e = let none = subst (λ (l : List ℕ). slice_get l n ≡ Some id) is e in absurd cc

pub ordered_stay : OrderedStay
ordered_stay m h Types n id other e = absurd (other refl)
ordered_stay m h Functions n id other e = in_order m.functions n id h.functions e
ordered_stay m h Tables n id other e = in_order m.tables n id h.tables e
ordered_stay m h Memories n id other e = in_order m.memories n id h.memories e
ordered_stay m h Tags n id other e = in_order m.tags n id h.tags e
ordered_stay m h Globals n id other e = in_order m.globals n id h.globals e
ordered_stay m h ElementSegments n id other e = in_order m.elements n id h.elements e
ordered_stay m h DataSegments n id other e = in_order m.segments n id h.segments e
ordered_stay m h Locals n id other e = none_there (m.locals 0) n id h.locals e
ordered_stay m h Labels n id other e = absurd cc
