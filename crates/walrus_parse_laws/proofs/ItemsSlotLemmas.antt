-- Lemmas: slots, and what is seen of them.
use Rattle.std.specs.Prelude.{ℕ, zero, suc, ◌≡◌, ◌<◌, Bool, true, false, List, [], ◌∷◌, length, map, Option, Some, None, IsSome, slice_index_or, refl}
use Rattle.std.specs.Option.{is_some, option_map}
use Rattle.std.proofs.Common.{ap, sym, ◌∙◌, arith}
use Rattle.wasm_import_links.specs.Full.{IsFull}
use Rattle.wasm_import_links.specs.Links.{slot_import}
use Rattle.wasm_module_rules.specs.Linked.{Each}

-- what is seen of an item stands at its id
pub seen_at : {A B : Type 0} (see : A → B) (slots : List (Option A)) (n : ℕ) → slice_index_or (map (option_map see) slots) n None ≡ option_map see (slice_index_or slots n None)
seen_at see [] n = refl
seen_at see (slot ∷ slots) zero = refl
seen_at see (slot ∷ slots) (suc n) = seen_at see slots n

-- the import that brings what is seen is the one that brings the item
pub import_at : {A B : Type 0} (see : A → B) (brings : B → Option ℕ) (own : A → Option ℕ) → ((x : A) → brings (see x) ≡ own x) → (slots : List (Option A)) (n : ℕ)
    → slice_index_or (map (slot_import brings) (map (option_map see) slots)) n None ≡ slot_import own (slice_index_or slots n None)
import_at see brings own same [] n = refl
import_at see brings own same (None ∷ slots) zero = refl
import_at see brings own same (Some x ∷ slots) zero = same x
import_at see brings own same (slot ∷ slots) (suc n) = import_at see brings own same slots n

-- the imports of items that are changed and keep theirs
pub imports_same : {A : Type 0} (f : A → A) (brings : A → Option ℕ) → ((x : A) → brings (f x) ≡ brings x) → (xs : List (Option A))
    → map (slot_import brings) (map (option_map f) xs) ≡ map (slot_import brings) xs
imports_same f brings same [] = refl
imports_same f brings same (None ∷ xs) = ap (λ (l : List (Option ℕ)). None ∷ l) (imports_same f brings same xs)
imports_same f brings same (Some x ∷ xs) =
    ap (λ (o : Option ℕ). o ∷ map (slot_import brings) (map (option_map f) xs)) (same x) ∙ ap (λ (l : List (Option ℕ)). brings x ∷ l) (imports_same f brings same xs)

-- which slots are filled
abbrev pub flags : {A : Type 0} → List (Option A) → List Bool
flags = map is_some

pub flags_seen : {A B : Type 0} (see : A → B) (slots : List (Option A)) → flags (map (option_map see) slots) ≡ flags slots
flags_seen see [] = refl
flags_seen see (None ∷ slots) = ap (λ (l : List Bool). false ∷ l) (flags_seen see slots)
flags_seen see (Some x ∷ slots) = ap (λ (l : List Bool). true ∷ l) (flags_seen see slots)

flag_at : {A : Type 0} (slots : List (Option A)) (n : ℕ) → slice_index_or (flags slots) n false ≡ is_some (slice_index_or slots n None)
flag_at [] n = refl
flag_at (slot ∷ slots) zero = refl
flag_at (slot ∷ slots) (suc n) = flag_at slots n

full_flag : {A : Type 0} (slots : List (Option A)) (n : ℕ) → IsFull slots → n < length slots → slice_index_or (flags slots) n false ≡ true
full_flag [] n h lt = absurd (omega (arith, lt))
full_flag (None ∷ slots) n h lt = absurd h
full_flag (Some x ∷ slots) zero h lt = refl
full_flag (Some x ∷ slots) (suc n) h lt = full_flag slots n h (omega (arith, lt))

-- where slots are filled as those of a space without empty ones, each number below its count is live
pub live_at : {A B : Type 0} (slots : List (Option A)) (full : List (Option B)) (n : ℕ) → flags slots ≡ flags full → IsFull full → n < length full → IsSome (slice_index_or slots n None)
live_at slots full n same h lt =
    sym (flag_at slots n) ∙ ap (λ (l : List Bool). slice_index_or l n false) same ∙ full_flag full n h lt

-- what holds of each item
pub each_at : {A : Type 0} (P : A → Type 0) (slots : List (Option A)) (n : ℕ) (x : A) → Each P slots → slice_index_or slots n None ≡ Some x → P x
each_at P [] n x h e = absurd cc
each_at P (None ∷ slots) zero x h e = absurd cc
each_at P (Some y ∷ slots) zero x h e = some_holds P y x h.0 e
  where
    some_holds : {A : Type 0} (P : A → Type 0) (y x : A) → P y → Some y ≡ Some x → P x
    some_holds P y x p e = let same : y ≡ x = cc in rw same at p
each_at P (None ∷ slots) (suc n) x h e = each_at P slots n x h e
each_at P (Some y ∷ slots) (suc n) x h e = each_at P slots n x h.1 e

-- an item that is seen is there
pub seen_there : {A B : Type 0} (see : A → B) (o : Option A) (y : B) → option_map see o ≡ Some y → (x : A) × (o ≡ Some x) × (see x ≡ y)
seen_there see None y e = absurd cc
seen_there see (Some x) y e = (x, refl, some_is (see x) y e)
  where
    some_is : {B : Type 0} (x y : B) → Some x ≡ Some y → x ≡ y
    some_is x y e = cc
