-- Lemmas: functions that were read, added one by one.
use Rattle.std.proofs.Common.{◌≡◌, ◌∙◌, ◌<◌, ℕ, zero, suc, ◌+◌, List, [], ◌∷◌, ◌++◌, length, take, drop, slice_index_or, Option, Some, None, IfSome, Result, Err, OnErr, refl, sym, ap, subst, arith, add-one}
use Rattle.std.specs.Prelude.{slice_set}
use Rattle.std.specs.List.{range_with_len}
use Rattle.std.proofs.lemmas.List.{append-nil, append_assoc, length-append, length-take-le, take-append-drop}
use Rattle.walrus_arena.specs.Arena.{Arena, item_at, next_id, with_item}
use Rattle.walrus_index_maps.specs.Maps.{Ids}
use Rattle.walrus_collections.specs.walrus_module_items.declared.function.Function.{Function}
use Rattle.walrus_types_into.specs.walrus_known_sections.declared.items.Function.{Function as ReadFunction}
use Rattle.walrus_functions_into.specs.Functions.{AddsFunctions, NumbersSome, function_as, functions_from, with_functions}

-- the last one gets another item
last_is : {T : Type 0} (old : List (Option T)) (x : Option T) → slice_index_or (old ++ x ∷ []) (length old) None ≡ x
last_is [] x = refl
last_is (y ∷ old) x = last_is old x

last_set : {T : Type 0} (old : List (Option T)) (x y : Option T) → slice_set (old ++ x ∷ []) (length old) y ≡ old ++ y ∷ []
last_set [] x y = refl
last_set {T} (z ∷ old) x y = ap (λ (l : List (Option T)). z ∷ l) (last_set old x y)

pub replaced : {T : Type 0} (f : T → T) (old mid new : Arena T) (id : ℕ) (x : T) → id ≡ next_id old → mid.slots ≡ old.slots ++ Some x ∷ [] → IfSome (item_at mid id) (λ item. new ≡ with_item mid id (f item))
    → new.slots ≡ old.slots ++ Some (f x) ∷ []
replaced {T} f old mid new id x own added h =
    let there : item_at mid id ≡ Some x = ap (λ (s : List (Option T)). slice_index_or s id None) added ∙ ap (λ (k : ℕ). slice_index_or (old.slots ++ Some x ∷ []) k None) own ∙ last_is old.slots (Some x) in
    let is : new ≡ with_item mid id (f x) = subst (λ (o : Option T). IfSome o (λ item. new ≡ with_item mid id (f item))) there h in
    ap (λ (a : Arena T). a.slots) is
    ∙ ap (λ (s : List (Option T)). slice_set s id (Some (f x))) added
    ∙ ap (λ (k : ℕ). slice_set (old.slots ++ Some x ∷ []) k (Some (f x))) own
    ∙ last_set old.slots (Some x) (Some (f x))

range_more : (a n j : ℕ) → a + n ≡ j → range_with_len a (suc n) ≡ range_with_len a n ++ j ∷ []
range_more a zero j e = let same : a ≡ j = omega (arith, e) in ap (λ (k : ℕ). k ∷ []) same
range_more a (suc n) j e = ap (λ (ks : List ℕ). a ∷ ks) (range_more (a + 1) n j (omega (arith, e)))

pub length_from : (types : List ℕ) (id : ℕ) (reads : List ReadFunction) → length (functions_from types id reads) ≡ length reads
length_from types id [] = refl
length_from types id (r ∷ reads) = ap suc (length_from types (suc id) reads)

from_more : (types : List ℕ) (id : ℕ) (reads : List ReadFunction) (i : ℕ) (d : ReadFunction) → i < length reads
    → functions_from types id (take (suc i) reads) ≡ functions_from types id (take i reads) ++ Some (function_as types (id + i) (slice_index_or reads i d)) ∷ []
from_more types id [] i d lt = absurd (omega (arith, lt))
from_more types id (r ∷ reads) zero d lt =
    let same : id ≡ id + 0 = omega arith in
    ap (λ (n : ℕ). Some (function_as types n r) ∷ []) same
from_more types id (r ∷ reads) (suc i) d lt =
    let same : suc id + i ≡ id + suc i = omega arith in
    ap (λ (l : List (Option Function)). Some (function_as types id r) ∷ l)
    (from_more types (suc id) reads i d (omega (arith, lt))
    ∙ ap (λ (n : ℕ). functions_from types (suc id) (take i reads) ++ Some (function_as types n (slice_index_or reads i d)) ∷ []) same)

-- the first so many were added, and have their numbers
pub record AreAdded (reads : List ReadFunction) (i : ℕ) (old new : Arena Function) (m n : Ids) : Type 0 where
  pub added : new.slots ≡ old.slots ++ functions_from m.types (next_id old) (take i reads)
  pub numbered : n ≡ with_functions (next_id old) i m

pub none_added : (reads : List ReadFunction) (old : Arena Function) (m : Ids) → AreAdded reads 0 old old m m
none_added reads old m = record { added = sym (append-nil old.slots); numbered = rw (append-nil m.functions) refl }

-- the next one was added
pub one_added : (reads : List ReadFunction) (i : ℕ) (d now : ReadFunction) (old mid new : Arena Function) (m n : Ids) → now ≡ slice_index_or reads i d → i < length reads → AreAdded reads i old mid m n
    → new.slots ≡ mid.slots ++ Some (function_as n.types (next_id mid) now) ∷ []
    → (next_id mid ≡ next_id old + i) × (new.slots ≡ old.slots ++ functions_from m.types (next_id old) (take (i + 1) reads))
one_added reads i d now old mid new m n is lt h more =
    let first = functions_from m.types (next_id old) (take i reads) in
    let size : length first ≡ i = length_from m.types (next_id old) (take i reads) ∙ length-take-le i reads (omega (arith, lt)) in
    let behind : next_id mid ≡ next_id old + i = ap length h.added ∙ length-append old.slots first ∙ ap (λ (k : ℕ). next_id old + k) size in
    let types : n.types ≡ m.types = ap (λ (x : Ids). x.types) h.numbered in
    let same : Some (function_as n.types (next_id mid) now) ≡ Some (function_as m.types (next_id old + i) (slice_index_or reads i d)) = rw (types, behind, is) refl in (
      behind,
      more
          ∙ ap (λ (s : List (Option Function)). s ++ Some (function_as n.types (next_id mid) now) ∷ []) h.added
          ∙ append_assoc old.slots first (Some (function_as n.types (next_id mid) now) ∷ [])
          ∙ ap (λ (f : Option Function). old.slots ++ (first ++ f ∷ [])) same
          ∙ ap (λ (l : List (Option Function)). old.slots ++ l) (sym (from_more m.types (next_id old) reads i d lt) ∙ ap (λ (k : ℕ). functions_from m.types (next_id old) (take k reads)) (sym (add-one i))),
    )

pub next_added : (reads : List ReadFunction) (i : ℕ) (d now : ReadFunction) (old mid new : Arena Function) (m n k : Ids) (id : ℕ) → now ≡ slice_index_or reads i d → i < length reads → AreAdded reads i old mid m n
    → new.slots ≡ mid.slots ++ Some (function_as n.types (next_id mid) now) ∷ [] → id ≡ next_id mid → k ≡ record n { functions = n.functions ++ id ∷ [] } → AreAdded reads (i + 1) old new m k
next_added reads i d now old mid new m n k id is lt h more own push =
    let one = one_added reads i d now old mid new m n is lt h more in
    let first = range_with_len (next_id old) i in
    let range : first ++ id ∷ [] ≡ range_with_len (next_id old) (i + 1) = ap (λ (j : ℕ). first ++ j ∷ []) (own ∙ one.0) ∙ sym (range_more (next_id old) i (next_id old + i) refl) ∙ ap (range_with_len (next_id old)) (sym (add-one i)) in
    record {
      added = one.1;
      numbered =
          push
          ∙ ap (λ (x : Ids). record x { functions = x.functions ++ id ∷ [] }) h.numbered
          ∙ ap (λ (l : List ℕ). record m { functions = l }) (append_assoc m.functions first (id ∷ []) ∙ ap (λ (l : List ℕ). m.functions ++ l) range);
    }

-- what is left where memory was wanted
pub on_err : {T E P : Type 0} (result : Result T E) (e : E) → result ≡ Err e → P → OnErr result P
on_err result e is h = rw is h

pub some_added : (reads : List ReadFunction) (i : ℕ) (old mid new : Arena Function) (m n : Ids) → AreAdded reads i old mid m n → new ≡ mid → AddsFunctions m.types reads old new
some_added reads i old mid new m n h same = (take i reads, drop i reads, sym (take-append-drop i reads), ap (λ (a : Arena Function). a.slots) same ∙ h.added)

pub more_added : (reads : List ReadFunction) (i : ℕ) (d now : ReadFunction) (old mid new : Arena Function) (m n : Ids) → now ≡ slice_index_or reads i d → i < length reads → AreAdded reads i old mid m n
    → new.slots ≡ mid.slots ++ Some (function_as n.types (next_id mid) now) ∷ [] → AddsFunctions m.types reads old new
more_added reads i d now old mid new m n is lt h more = (take (i + 1) reads, drop (i + 1) reads, sym (take-append-drop (i + 1) reads), (one_added reads i d now old mid new m n is lt h more).1)

pub some_numbered : (reads : List ReadFunction) (i : ℕ) (old mid : Arena Function) (m n k : Ids) → i < length reads → AreAdded reads i old mid m n → k ≡ n → NumbersSome (next_id old) (length reads) m k
some_numbered reads i old mid m n k lt h same = (i, omega (arith, lt), same ∙ h.numbered)

-- all of them
pub all_added : (reads : List ReadFunction) (i : ℕ) (old new : Arena Function) (m n : Ids) → take i reads ≡ reads → AreAdded reads i old new m n → new.slots ≡ old.slots ++ functions_from m.types (next_id old) reads
all_added reads i old new m n all h = h.added ∙ ap (λ (l : List ReadFunction). old.slots ++ functions_from m.types (next_id old) l) all
