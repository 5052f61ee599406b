-- Flags by space and id.
use Rattle.std.proofs.Common.{◌≡◌, ℕ, ◌+◌, ◌<◌, ◌⊎◌, zero, suc, Bool, true, false, List, [], ◌∷◌, length, get_or, Contains, refl, sym, ap, subst, ◌∙◌, inl, inr, arith}
use Rattle.std.proofs.Math.ListN.{set, length-set}
use Rattle.std.proofs.lemmas.List.{get_or-set_same, get_or-set_other, get_or_past}
use Rattle.std.proofs.lemmas.List.Sums.{sum_by-set}
use Rattle.std.proofs.lemmas.Bool.{cases_eq, cases_lt}
use Rattle.wasm_formats.specs.declared.fault.Space.{Space}
use Rattle.wasm_formats.specs.declared.fault.Space.TheVariants as spaces
use Rattle.walrus_roots.specs.declared.item.Item.{Item}
use Rattle.walrus_roots.specs.Items.{space_number}
use Rattle.walrus_marks.specs.Marks.{flags_of, is_marked, Fits, mark, left_in, left_out}
use Rattle.walrus_marks.proofs.FlagLemmas.{one_flag_less}

pub contains_first : {X : Type 0} (y : X) (xs : List X) (x : X) → y ≡ x → Contains (y ∷ xs) x
contains_first y xs x e = (0, omega arith, e)

pub contains_later : {X : Type 0} (y : X) (xs : List X) (x : X) → Contains xs x → Contains (y ∷ xs) x
contains_later y xs x c = (suc c.0, omega (arith, c.1), c.2)

contains_at : {X : Type 0} (y : X) (xs : List X) (x : X) (k : ℕ) → k < length (y ∷ xs) → get_or (y ∷ xs) k x ≡ x → (y ≡ x) ⊎ Contains xs x
contains_at y xs x zero below e = inl e
contains_at y xs x (suc k) below e = inr (k, omega arith, e)

pub contains_cases : {X : Type 0} (y : X) (xs : List X) (x : X) → Contains (y ∷ xs) x → (y ≡ x) ⊎ Contains xs x
contains_cases y xs x c = contains_at y xs x c.0 c.1 c.2

-- a space is known by its number
space_from : ℕ → Space
space_from zero = spaces.Type
space_from (suc zero) = spaces.Function
space_from (suc (suc zero)) = spaces.Table
space_from (suc (suc (suc zero))) = spaces.Memory
space_from (suc (suc (suc (suc zero)))) = spaces.Tag
space_from (suc (suc (suc (suc (suc zero))))) = spaces.Global
space_from (suc (suc (suc (suc (suc (suc zero)))))) = spaces.Element
space_from (suc (suc (suc (suc (suc (suc (suc zero))))))) = spaces.Data
space_from (suc (suc (suc (suc (suc (suc (suc (suc zero)))))))) = spaces.Local
space_from (suc (suc (suc (suc (suc (suc (suc (suc (suc n))))))))) = spaces.Label

from_number : (s : Space) → space_from (space_number s) ≡ s
unfolding space_from
from_number spaces.Type = refl
from_number spaces.Function = refl
from_number spaces.Table = refl
from_number spaces.Memory = refl
from_number spaces.Tag = refl
from_number spaces.Global = refl
from_number spaces.Element = refl
from_number spaces.Data = refl
from_number spaces.Local = refl
from_number spaces.Label = refl

same_parts : (i j : Item) → i.space ≡ j.space → i.id ≡ j.id → i ≡ j
same_parts i j p q = λ k. record { space = p k; id = q k }

pub same_item : (i j : Item) → space_number i.space ≡ space_number j.space → i.id ≡ j.id → i ≡ j
same_item i j space id = same_parts i j (sym (from_number i.space) ∙ ap space_from space ∙ from_number j.space) id

abbrev pub IsMarked : List (List Bool) → Item → Type 0
IsMarked marks i = is_marked marks i ≡ true

pub space_fits : (marks : List (List Bool)) (i : Item) → Fits marks i → space_number i.space < length marks
space_fits marks i fits = elim (cases_lt (space_number i.space) (length marks)) as (λ _. space_number i.space < length marks) [
  | inl below ↦ below
  | inr past ↦ absurd (omega (arith, fits, ap length (get_or_past marks (space_number i.space) [] past)))
]

-- the flags of a space after a mark
flags_here : (marks : List (List Bool)) (i j : Item) → Fits marks i → space_number j.space ≡ space_number i.space → flags_of (mark marks i) j ≡ set (flags_of marks i) i.id true
flags_here marks i j fits same = ap (λ s. get_or (mark marks i) s []) same ∙ get_or-set_same marks (space_number i.space) (set (flags_of marks i) i.id true) [] (space_fits marks i fits)

flags_there : (marks : List (List Bool)) (i j : Item) → (space_number j.space ≡ space_number i.space → ⊥) → flags_of (mark marks i) j ≡ flags_of marks j
flags_there marks i j other = get_or-set_other marks (space_number i.space) (space_number j.space) (set (flags_of marks i) i.id true) [] other

pub marked_itself : (marks : List (List Bool)) (i : Item) → Fits marks i → IsMarked (mark marks i) i
marked_itself marks i fits = ap (λ (fs : List Bool). get_or fs i.id false) (flags_here marks i i fits refl) ∙ get_or-set_same (flags_of marks i) i.id true false fits

pub marked_before : (marks : List (List Bool)) (i j : Item) → Fits marks i → IsMarked (mark marks i) j → (j ≡ i) ⊎ IsMarked marks j
marked_before marks i j fits h = elim (cases_eq (space_number j.space) (space_number i.space)) as (λ _. (j ≡ i) ⊎ IsMarked marks j) [
  | inl space ↦ elim (cases_eq j.id i.id) as (λ _. (j ≡ i) ⊎ IsMarked marks j) [
    | inl id ↦ inl (same_item j i space id)
    | inr other ↦ inr (ap (λ s. get_or (get_or marks s []) j.id false) space ∙ sym (get_or-set_other (flags_of marks i) i.id j.id true false other)
        ∙ sym (ap (λ (fs : List Bool). get_or fs j.id false) (flags_here marks i j fits space)) ∙ h)
  ]
  | inr other ↦ inr (sym (ap (λ (fs : List Bool). get_or fs j.id false) (flags_there marks i j other)) ∙ h)
]

pub marked_still : (marks : List (List Bool)) (i j : Item) → Fits marks i → IsMarked marks j → IsMarked (mark marks i) j
marked_still marks i j fits h = elim (cases_eq (space_number j.space) (space_number i.space)) as (λ _. IsMarked (mark marks i) j) [
  | inl space ↦ elim (cases_eq j.id i.id) as (λ _. IsMarked (mark marks i) j) [
    | inl id ↦ subst (λ k. IsMarked (mark marks i) k) (sym (same_item j i space id)) (marked_itself marks i fits)
    | inr other ↦ ap (λ (fs : List Bool). get_or fs j.id false) (flags_here marks i j fits space) ∙ get_or-set_other (flags_of marks i) i.id j.id true false other
        ∙ sym (ap (λ s. get_or (get_or marks s []) j.id false) space) ∙ h
  ]
  | inr other ↦ ap (λ (fs : List Bool). get_or fs j.id false) (flags_there marks i j other) ∙ h
]

-- a mark leaves as many flags to each space
pub flags_sized : (marks : List (List Bool)) (i j : Item) → Fits marks i → length (flags_of (mark marks i) j) ≡ length (flags_of marks j)
flags_sized marks i j fits = elim (cases_eq (space_number j.space) (space_number i.space)) as (λ _. length (flags_of (mark marks i) j) ≡ length (flags_of marks j)) [
  | inl space ↦ ap length (flags_here marks i j fits space) ∙ length-set (flags_of marks i) i.id true ∙ sym (ap (λ s. length (get_or marks s [])) space)
  | inr other ↦ ap length (flags_there marks i j other)
]

pub one_less : (marks : List (List Bool)) (i : Item) → Fits marks i → is_marked marks i ≡ false → left_out (mark marks i) + 1 ≡ left_out marks
one_less marks i fits h =
    let moved = sum_by-set left_in marks (space_number i.space) (set (flags_of marks i) i.id true) [] (space_fits marks i fits) in
    let one = one_flag_less (flags_of marks i) i.id fits h in
    omega (arith, moved, one)
