-- Marks of ids, and what is left without the marked ones.
use Rattle.std.proofs.Common.{◌≡◌, ◌∙◌, ℕ, zero, suc, ◌+◌, ◌<◌, ◌≤◌, Bool, true, false, cond, not, ◌&&◌, List, [], ◌∷◌, length, map, filter, Contains, Option, Some, None, inl, inr, refl, sym, ap, subst, arith, ⊎_elim, slice_index, slice_index_or, slice_set}
use Rattle.std.specs.Prelude.{is_some}
use Rattle.std.specs.Option.{option_map, option_map_or, option_and_then}
use Rattle.std.proofs.Math.Bool.{and-false}
use Rattle.std.proofs.lemmas.Bool.{cases_Bool, cases_eq, cases_lt, false≢true}
use Rattle.std.proofs.lemmas.List.{ext_get_or, get_or_past, get_or-set_other, get_or-set_same, length-map, length-set}
use Rattle.walrus_type_index.proofs.walrus_forms.walrus_arena.ArenaLemmas.{at-other}
use Rattle.walrus_type_index.specs.Ordered.{is_marked}
use Rattle.walrus_type_index.specs.walrus_items.declared.subtype.Type.{«Type» as TypeItem}
use Rattle.walrus_type_index.specs.walrus_items.Items.{Item, Group, item_of, group_of}
use Rattle.walrus_type_index.specs.walrus_items.declared.subtype.RecGroup.{RecGroup}
use Rattle.walrus_type_arenas.specs.Table.{IsGrouped, clear_all, is_explicit_at, is_spared, marked, marked_from, nonempty_group, table_of, with_live, without_marked}
use Rattle.walrus_type_arenas.proofs.TableLemmas.{at-map}
use Rattle.walrus_type_arenas.proofs.DeleteLemmas.{at-cleared, cleared-at, cons-cases, cons-here, cons-later, length-clear_all, nothing}

-- a place that is counted is one of a set mark
counted-marked : (place : ℕ) (marks : List Bool) (i : ℕ) → Contains (marked_from place marks) i → (j : ℕ) × (i ≡ place + j) × (is_marked marks j ≡ true)
counted-marked place [] i c = absurd (nothing i c)
counted-marked place (true ∷ marks) i c = ⊎_elim
    (λ is. (0, omega (arith, is), refl))
    (λ later. let h = counted-marked (suc place) marks i later in (suc h.0, omega (arith, h.1), h.2))
    (cons-cases place (marked_from (suc place) marks) i c)
counted-marked place (false ∷ marks) i c = let h = counted-marked (suc place) marks i c in (suc h.0, omega (arith, h.1), h.2)

pub marked-is : (marks : List Bool) (i : ℕ) → Contains (marked marks) i → is_marked marks i ≡ true
marked-is marks i c = let h = counted-marked 0 marks i c in ap (is_marked marks) (let e : i ≡ h.0 = omega (arith, h.1) in e) ∙ h.2

-- and the other way round
marked-counted : (place : ℕ) (marks : List Bool) (i j : ℕ) → i ≡ place + j → is_marked marks j ≡ true → Contains (marked_from place marks) i
marked-counted place [] i j is m = absurd (false≢true m)
marked-counted place (true ∷ marks) i zero is m = cons-here place (marked_from (suc place) marks) i (omega (arith, is))
marked-counted place (false ∷ marks) i zero is m = absurd (false≢true m)
marked-counted place (true ∷ marks) i (suc j) is m = cons-later place (marked_from (suc place) marks) i (marked-counted (suc place) marks i j (omega (arith, is)) m)
marked-counted place (false ∷ marks) i (suc j) is m = marked-counted (suc place) marks i j (omega (arith, is)) m

pub is-marked : (marks : List Bool) (i : ℕ) → is_marked marks i ≡ true → Contains (marked marks) i
is-marked marks i m = marked-counted 0 marks i i (omega arith) m

-- what is left at an id
gone-item : (o : Option Item) → ((item : Item) → o ≡ Some item → ⊥) → o ≡ None
gone-item None none = refl
gone-item (Some item) none = absurd (none item refl)

pub cleared-marked : (marks : List Bool) (types : List (Option Item)) (i : ℕ)
    → slice_index_or (clear_all (marked marks) types) i None ≡ cond (is_marked marks i) None (slice_index_or types i None)
cleared-marked marks types i = elim (cases_Bool (is_marked marks i)) as (λ _. slice_index_or (clear_all (marked marks) types) i None ≡ cond (is_marked marks i) None (slice_index_or types i None)) [
  | inl dies ↦
      gone-item (slice_index_or (clear_all (marked marks) types) i None) (λ item at. (at-cleared (marked marks) types i item at).1 (is-marked marks i dies))
      ∙ sym (ap (λ (b : Bool). cond b None (slice_index_or types i None)) dies)
  | inr stays ↦
      cleared-at (marked marks) types i (λ c. false≢true (sym stays ∙ marked-is marks i c))
      ∙ sym (ap (λ (b : Bool). cond b None (slice_index_or types i None)) stays)
]

-- the types of the marked ids died, and no others
abbrev pub IsCleared : List Bool → List (Option TypeItem) → List (Option TypeItem) → Type 0
IsCleared marks old new = (id : ℕ) → slice_index_or new id None ≡ cond (is_marked marks id) None (slice_index_or old id None)

item-left : (dies : Bool) (slot : Option TypeItem) → option_map item_of (cond dies None slot) ≡ cond dies None (option_map item_of slot)
item-left true slot = refl
item-left false slot = refl

pub cleared-shown : (marks : List Bool) (old new : List (Option TypeItem)) → length new ≡ length old → IsCleared marks old new
    → map (option_map item_of) new ≡ clear_all (marked marks) (map (option_map item_of) old)
cleared-shown marks old new same cleared =
    let seen : List (Option Item) = map (option_map item_of) old in
    ext_get_or None (map (option_map item_of) new) (clear_all (marked marks) seen)
    (length-map new (option_map item_of) ∙ same ∙ sym (length-map old (option_map item_of)) ∙ sym (length-clear_all (marked marks) seen))
    (λ i less. at-map item_of new i
    ∙ ap (option_map item_of) (cleared i)
    ∙ item-left (is_marked marks i) (slice_index_or old i None)
    ∙ ap (λ (o : Option Item). cond (is_marked marks i) None o) (sym (at-map item_of old i))
    ∙ sym (cleared-marked marks seen i))

-- which ids stay marked
abbrev left : List Bool → (ℕ → Bool) → ℕ → Bool
left marks spared id = is_marked marks id && not (spared id)

-- so far the marked ids' types died and the spared ids' marks are off, and from there on all is as it was
pub record IsKilledTo (spared : ℕ → Bool) (place : ℕ) (marks now : List Bool) (old new : List (Option TypeItem)) : Type 0 where
  pub sized : length new ≡ length old
  pub counted : length now ≡ length marks
  pub before : (id : ℕ) → id < place → is_marked now id ≡ left marks spared id
  pub behind : (id : ℕ) → place ≤ id → is_marked now id ≡ is_marked marks id
  pub dead : (id : ℕ) → id < place → slice_index_or new id None ≡ cond (left marks spared id) None (slice_index_or old id None)
  pub same : (id : ℕ) → place ≤ id → slice_index_or new id None ≡ slice_index_or old id None

pub killed-none : (spared : ℕ → Bool) (marks : List Bool) (old : List (Option TypeItem)) → IsKilledTo spared 0 marks marks old old
killed-none spared marks old = record {
  sized = refl;
  counted = refl;
  before = λ id less. absurd (omega (arith, less));
  behind = λ id far. refl;
  dead = λ id less. absurd (omega (arith, less));
  same = λ id far. refl;
}

set-none : (slots : List (Option TypeItem)) (id : ℕ) → slice_index_or (slice_set slots id None) id None ≡ None
set-none slots id = ⊎_elim
    (λ less. get_or-set_same slots id None None less)
    (λ past. get_or_past (slice_set slots id None) id None (omega (arith, length-set slots id None, past)))
    (cases_lt id (length slots))

-- the mark of the next id comes to this, and its slot to that
killed-next : (spared : ℕ → Bool) (place : ℕ) (marks now after : List Bool) (old slots new : List (Option TypeItem)) → length new ≡ length slots → length after ≡ length now
    → is_marked after place ≡ left marks spared place → slice_index_or new place None ≡ cond (left marks spared place) None (slice_index_or old place None)
    → ((id : ℕ) → (id ≡ place → ⊥) → is_marked after id ≡ is_marked now id) → ((id : ℕ) → (id ≡ place → ⊥) → slice_index_or new id None ≡ slice_index_or slots id None)
    → IsKilledTo spared place marks now old slots → IsKilledTo spared (place + 1) marks after old new
killed-next spared place marks now after old slots new sized counted mark slot marks-same slots-same k = record {
  sized = sized ∙ k.sized;
  counted = counted ∙ k.counted;
  before = λ id less. ⊎_elim
      (λ is. subst (λ (i : ℕ). is_marked after i ≡ left marks spared i) (sym is) mark)
      (λ apart. marks-same id apart ∙ k.before id (omega (arith, less, apart)))
      (cases_eq id place);
  behind = λ id far. marks-same id (λ is. omega (arith, far, is)) ∙ k.behind id (omega (arith, far));
  dead = λ id less. ⊎_elim
      (λ is. subst (λ (i : ℕ). slice_index_or new i None ≡ cond (left marks spared i) None (slice_index_or old i None)) (sym is) slot)
      (λ apart. slots-same id apart ∙ k.dead id (omega (arith, less, apart)))
      (cases_eq id place);
  same = λ id far. slots-same id (λ is. omega (arith, far, is)) ∙ k.same id (omega (arith, far));
}

-- an id that isn't marked
pub killed-not : (spared : ℕ → Bool) (place id : ℕ) (marks now : List Bool) (old slots : List (Option TypeItem)) → id ≡ place → is_marked now id ≡ false
    → IsKilledTo spared place marks now old slots → IsKilledTo spared (place + 1) marks now old slots
killed-not spared place id marks now old slots is stays k =
    let unmarked : is_marked marks place ≡ false = sym (k.behind place (omega arith)) ∙ ap (is_marked now) (sym is) ∙ stays in
    let none : left marks spared place ≡ false = ap (λ (b : Bool). b && not (spared place)) unmarked in
    killed-next spared place marks now now old slots slots refl refl
    (k.behind place (omega arith) ∙ unmarked ∙ sym none)
    (k.same place (omega arith) ∙ sym (ap (λ (b : Bool). cond b None (slice_index_or old place None)) none))
    (λ i apart. refl)
    (λ i apart. refl)
    k

-- a marked id: whether it is spared is told by the slots as they are there
pub killed-one : (spared : ℕ → Bool) (place id : ℕ) (marks now after : List Bool) (old slots new : List (Option TypeItem)) (b : Bool) → id ≡ place → is_marked now id ≡ true
    → id < length now → b ≡ spared id
    → new ≡ cond b slots (slice_set slots id None) → after ≡ cond b (slice_set now id false) now
    → IsKilledTo spared place marks now old slots → IsKilledTo spared (place + 1) marks after old new
killed-one spared place id marks now after old slots new true is marked less told types marks-new k =
    let none : left marks spared place ≡ false = ap (λ (b : Bool). is_marked marks place && not b) (ap spared (sym is) ∙ sym told) ∙ and-false (is_marked marks place) in
    killed-next spared place marks now after old slots new
    (ap (λ (xs : List (Option TypeItem)). length xs) types)
    (ap (λ (xs : List Bool). length xs) marks-new ∙ length-set now id false)
    (ap (λ (xs : List Bool). is_marked xs place) marks-new ∙ ap (is_marked (slice_set now id false)) (sym is) ∙ get_or-set_same now id false false less ∙ sym none)
    (ap (λ (xs : List (Option TypeItem)). slice_index_or xs place None) types ∙ k.same place (omega arith) ∙ sym (ap (λ (b : Bool). cond b None (slice_index_or old place None)) none))
    (λ i apart. ap (λ (xs : List Bool). is_marked xs i) marks-new ∙ get_or-set_other now id i false false (λ same. apart (same ∙ is)))
    (λ i apart. ap (λ (xs : List (Option TypeItem)). slice_index_or xs i None) types)
    k
killed-one spared place id marks now after old slots new false is marked less told types marks-new k =
    let here : is_marked marks place ≡ true = sym (k.behind place (omega arith)) ∙ ap (is_marked now) (sym is) ∙ marked in
    let goes : left marks spared place ≡ true = ap (λ (b : Bool). b && not (spared place)) here ∙ ap (λ (b : Bool). not b) (ap spared (sym is) ∙ sym told) in
    killed-next spared place marks now after old slots new
    (ap (λ (xs : List (Option TypeItem)). length xs) types ∙ length-set slots id None)
    (ap (λ (xs : List Bool). length xs) marks-new)
    (ap (λ (xs : List Bool). is_marked xs place) marks-new ∙ ap (is_marked now) (sym is) ∙ marked ∙ sym goes)
    (ap (λ (xs : List (Option TypeItem)). slice_index_or xs place None) types ∙ ap (λ (i : ℕ). slice_index_or (slice_set slots id None) i None) (sym is) ∙ set-none slots id ∙ sym (ap (λ (b : Bool). cond b None (slice_index_or old place None)) goes))
    (λ i apart. ap (λ (xs : List Bool). is_marked xs i) marks-new)
    (λ i apart. ap (λ (xs : List (Option TypeItem)). slice_index_or xs i None) types ∙ at-other slots None id i (λ same. apart (same ∙ is)))
    k

-- whether a type is spared is told by its own slot and the groups
pub spared-same : (slots old : List (Option TypeItem)) (groups : List (Option RecGroup)) (homes : List ℕ) (id : ℕ) → slice_index_or slots id None ≡ slice_index_or old id None
    → is_spared (table_of slots groups) homes id ≡ is_spared (table_of old groups) homes id
spared-same slots old groups homes id same =
    ap (λ (o : Option Item). option_map_or (λ (item : Item). item.kind.entry && not (is_explicit_at (map (option_map group_of) groups) (slice_index homes id))) o false)
    (at-map item_of slots id ∙ ap (option_map item_of) same ∙ sym (at-map item_of old id))

-- a marked id is below their number
marked-below : (marks : List Bool) (id : ℕ) → is_marked marks id ≡ true → id < length marks
marked-below marks id m = ⊎_elim
    (λ less. less)
    (λ far. absurd (false≢true (sym (get_or_past marks id false far) ∙ m)))
    (cases_lt id (length marks))

-- what a call did with a marked id
pub killed-step : (groups : List (Option RecGroup)) (homes : List ℕ) (place id : ℕ) (marks now after : List Bool) (old slots new : List (Option TypeItem)) → id ≡ place → is_marked now id ≡ true
    → new ≡ cond (is_spared (table_of slots groups) homes id) slots (slice_set slots id None) → after ≡ cond (is_spared (table_of slots groups) homes id) (slice_set now id false) now
    → IsKilledTo (is_spared (table_of old groups) homes) place marks now old slots → IsKilledTo (is_spared (table_of old groups) homes) (place + 1) marks after old new
killed-step groups homes place id marks now after old slots new is marked types marks-new k =
    killed-one (is_spared (table_of old groups) homes) place id marks now after old slots new (is_spared (table_of slots groups) homes id) is marked
    (marked-below now id marked)
    (spared-same slots old groups homes id (k.same id (omega (arith, is)))) types marks-new k

-- a dead id isn't spared
spared-none : (old : List (Option TypeItem)) (groups : List (Option RecGroup)) (homes : List ℕ) (id : ℕ) → slice_index_or old id None ≡ None
    → is_spared (table_of old groups) homes id ≡ false
spared-none old groups homes id none =
    ap (λ (o : Option Item). option_map_or (λ (item : Item). item.kind.entry && not (is_explicit_at (map (option_map group_of) groups) (slice_index homes id))) o false)
    (at-map item_of old id ∙ ap (option_map item_of) none)

none-either : (b : Bool) (o : Option TypeItem) → o ≡ None → cond b None o ≡ o
none-either true o none = sym none
none-either false o none = refl

and-true : (b : Bool) → (b && true) ≡ b
and-true true = refl
and-true false = refl

module _ (groups : List (Option RecGroup)) (homes : List ℕ) (place : ℕ) (marks now : List Bool) (old new : List (Option TypeItem)) (all : length old ≤ place)
    (k : IsKilledTo (is_spared (table_of old groups) homes) place marks now old new) where
  pub killed-left : (id : ℕ) → is_marked now id ≡ left marks (is_spared (table_of old groups) homes) id
  killed-left id = ⊎_elim
      (λ less. k.before id less)
      (λ far.
      let none : is_spared (table_of old groups) homes id ≡ false = spared-none old groups homes id (get_or_past old id None (omega (arith, all, far))) in
      k.behind id far ∙ sym (and-true (is_marked marks id)) ∙ sym (ap (λ (b : Bool). is_marked marks id && not b) none))
      (cases_lt id place)

  pub killed-each : IsCleared now old new
  killed-each id = ⊎_elim
      (λ less. k.dead id less ∙ ap (λ (b : Bool). cond b None (slice_index_or old id None)) (sym (k.before id less)))
      (λ far.
      let none : slice_index_or old id None ≡ None = get_or_past old id None (omega (arith, all, far)) in
      k.same id far ∙ sym (none-either (is_marked now id) (slice_index_or old id None) none))
      (cases_lt id place)

-- the groups
filter-alike : (p q : ℕ → Bool) (xs : List ℕ) → ((x : ℕ) → Contains xs x → p x ≡ q x) → filter p xs ≡ filter q xs
filter-alike p q [] same = refl
filter-alike p q (x ∷ xs) same =
    ap (λ (b : Bool). cond b (x ∷ filter p xs) (filter p xs)) (same x (cons-here x xs x refl))
    ∙ ap (λ (ys : List ℕ). cond (q x) (x ∷ ys) ys) (filter-alike p q xs (λ y c. same y (cons-later x xs y c)))

groups-alike : (f g : Group → Option Group) (slots : List (Option Group)) → ((place : ℕ) (group : Group) → slice_index_or slots place None ≡ Some group → f group ≡ g group)
    → map (option_and_then f) slots ≡ map (option_and_then g) slots
groups-alike f g [] same = refl
groups-alike f g (None ∷ slots) same = ap (λ (rest : List (Option Group)). None ∷ rest) (groups-alike f g slots (λ place group at. same (suc place) group at))
groups-alike f g (Some x ∷ slots) same =
    ap (λ (slot : Option Group). slot ∷ map (option_and_then f) slots) (same 0 x refl)
    ∙ ap (λ (rest : List (Option Group)). g x ∷ rest) (groups-alike f g slots (λ place group at. same (suc place) group at))

live-unmarked : (dies : Bool) (o : Option Item) (item : Item) → o ≡ Some item → not dies ≡ is_some (cond dies None o)
live-unmarked true o item at = refl
live-unmarked false o item at = sym (ap (λ (p : Option Item). is_some p) at)

-- what is left of a group has the members that aren't marked, as all of them lived
pub groups-left : (marks : List Bool) (types : List (Option Item)) (groups : List (Option Group)) (homes : List ℕ) → IsGrouped types groups homes
    → map (option_and_then (without_marked marks)) groups ≡ map (option_and_then (with_live (clear_all (marked marks) types))) groups
groups-left marks types groups homes g =
    groups-alike (without_marked marks) (with_live (clear_all (marked marks) types)) groups
    (λ place group at. ap (nonempty_group group.explicit)
    (filter-alike (λ id. not (is_marked marks id)) (λ id. is_some (slice_index_or (clear_all (marked marks) types) id None)) group.types
    (λ id in_it.
    let m = g.member place group at id in_it in
    live-unmarked (is_marked marks id) (slice_index_or types id None) m.0 m.1 ∙ sym (ap (λ (o : Option Item). is_some o) (cleared-marked marks types id)))))
