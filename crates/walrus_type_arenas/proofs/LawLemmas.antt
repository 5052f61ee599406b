-- The laws of the words on types and tables.
use Rattle.std.proofs.Common.{◌≡◌, ◌∙◌, ℕ, zero, suc, ◌+◌, ◌<◌, Bool, true, false, cond, List, [], ◌∷◌, length, Option, Some, None, slice_index, slice_index_or, map, refl, sym, ap, arith, ◌⊎◌, inl, inr, ⊎_elim, subst}
use Rattle.std.specs.Option.{option_map, MatchOption}
use Rattle.std.proofs.lemmas.Bool.{cases_Bool, cases_eq, cases_lt}
use Rattle.walrus_type_index.specs.walrus_items.walrus_arena.Arena.{entries_from}
use Rattle.walrus_type_index.proofs.walrus_forms.walrus_arena.ArenaLemmas.{live-within}
use Rattle.walrus_type_index.specs.walrus_items.declared.subtype.Type.{«Type» as TypeItem}
use Rattle.walrus_type_index.specs.walrus_items.declared.subtype.RecGroup.{RecGroup}
use Rattle.walrus_type_index.specs.walrus_items.Items.{Item, item_of, group_of}
use Rattle.walrus_type_arenas.specs.Table.{Table, IsGrouped, table_of, type_at, latest_in, latest_id}
use Rattle.walrus_type_arenas.specs.TypeLaws.{AreGrouped, IsLatest, FindsLatest}

-- a sound table's types are grouped
pub grouped-law : (types : List (Option TypeItem)) (groups : List (Option RecGroup)) (homes : List ℕ) (t : Table)
    → IsGrouped (map (option_map item_of) types) (map (option_map group_of) groups) homes
    → table_of types groups ≡ t → AreGrouped t
grouped-law types groups homes t g view = subst AreGrouped view (record {
  listed = λ id item at.
      let h = g.listed id item at in
      (h.0, record { place = slice_index homes id; live = h.1; listed = h.2 });
  live = λ place group at id in_it. let m = g.member place group at id in_it in (m.0, m.1);
  one = λ id p q a b at_p in_a at_q in_b.
      sym (g.member p a at_p id in_a).2 ∙ (g.member q b at_q id in_b).2;
  once = g.once;
  rising = λ p q a b less at_p at_q i j in_a in_b.
      let m = g.member p a at_p i in_a in
      let n = g.member q b at_q j in_b in
      let within : i < length homes = omega (arith, g.sized, live-within (map (option_map item_of) types) i m.0 m.1) in
      ⊎_elim
      (λ ordered. ordered)
      (λ past. ⊎_elim
      (λ same. let h : slice_index homes i ≡ slice_index homes j = ap (λ (k : ℕ). slice_index homes k) same in absurd (omega (arith, h, m.2, n.2)))
      (λ apart. let h = g.homes_rise.rising j i (let before : j < i = omega (arith, apart) in before) within in absurd (omega (arith, h, m.2, n.2)))
      (cases_eq i j))
      (cases_lt i j);
})

-- what a search for the latest finds: what was found before where none passes, or the latest that passes
latest-found : (test : ℕ × Item → Bool) (first : ℕ) (slots : List (Option Item)) (found : Option ℕ) (id : ℕ)
    → latest_in test found (entries_from first slots) ≡ Some id
    → ((found ≡ Some id) × ((i j : ℕ) (x : Item) → first + i ≡ j → slice_index_or slots i None ≡ Some x → test (j, x) ≡ false))
    ⊎ ((i : ℕ) × (item : Item) × (first + i ≡ id) × (slice_index_or slots i None ≡ Some item) × (test (id, item) ≡ true)
    × ((k j : ℕ) (x : Item) → i < k → first + k ≡ j → slice_index_or slots k None ≡ Some x → test (j, x) ≡ false))
latest-found test first [] found id is = inl (is, λ i j x e at. absurd cc)
latest-found test first (None ∷ rest) found id is =
    ⊎_elim
    (λ (none : (found ≡ Some id) × ((i j : ℕ) (x : Item) → first + 1 + i ≡ j → slice_index_or rest i None ≡ Some x → test (j, x) ≡ false)).
    inl (
      none.0,
      λ i j x e at. elim i as (λ k. first + k ≡ j → slice_index_or (None ∷ rest) k None ≡ Some x → test (j, x) ≡ false) [
        | zero ↦ λ e' at'. absurd cc
        | suc k ↦ λ e' at'. none.1 k j x (omega arith) at'
      ] e at,
    ))
    (λ (some : (i : ℕ) × (item : Item) × (first + 1 + i ≡ id) × (slice_index_or rest i None ≡ Some item) × (test (id, item) ≡ true)
    × ((k j : ℕ) (x : Item) → i < k → first + 1 + k ≡ j → slice_index_or rest k None ≡ Some x → test (j, x) ≡ false)).
    inr (
      suc some.0,
      some.1,
      omega (arith, some.2),
      some.3,
      some.4,
      λ k j x less e at.
          elim k as (λ m. suc some.0 < m → first + m ≡ j → slice_index_or (None ∷ rest) m None ≡ Some x → test (j, x) ≡ false) [
            | zero ↦ λ l e' at'. absurd cc
            | suc m ↦ λ l e' at'. some.5 m j x (omega arith) (omega arith) at'
          ] less e at,
    ))
    (latest-found test (first + 1) rest found id is)
latest-found test first (Some here ∷ rest) found id is =
    ⊎_elim
    (λ (none : (cond (test (first, here)) (Some first) found ≡ Some id) × ((i j : ℕ) (x : Item) → first + 1 + i ≡ j → slice_index_or rest i None ≡ Some x → test (j, x) ≡ false)).
    ⊎_elim
    (λ passes.
    let this : Some first ≡ Some id = ap (λ (b : Bool). cond b (Some first) found) (sym passes) ∙ none.0 in
    let e0 : first ≡ id = cc in
    inr (
      0,
      here,
      omega arith,
      refl,
      ap (λ (k : ℕ). test (k, here)) (sym e0) ∙ passes,
      λ k j x less e at.
          elim k as (λ m. 0 < m → first + m ≡ j → slice_index_or (Some here ∷ rest) m None ≡ Some x → test (j, x) ≡ false) [
            | zero ↦ λ l e' at'. absurd (omega arith)
            | suc m ↦ λ l e' at'. none.1 m j x (omega arith) at'
          ] less e at,
    ))
    (λ fails.
    let before : found ≡ Some id = ap (λ (b : Bool). cond b (Some first) found) (sym fails) ∙ none.0 in
    inl (
      before,
      λ i j x e at.
          elim i as (λ m. first + m ≡ j → slice_index_or (Some here ∷ rest) m None ≡ Some x → test (j, x) ≡ false) [
            | zero ↦ λ e' at'.
                let same : here ≡ x = cc in
                let place : first ≡ j = omega arith in
                ap (λ (k : ℕ). test (k, x)) (sym place) ∙ ap (λ (y : Item). test (first, y)) (sym same) ∙ fails
            | suc m ↦ λ e' at'. none.1 m j x (omega arith) at'
          ] e at,
    ))
    (cases_Bool (test (first, here))))
    (λ (some : (i : ℕ) × (item : Item) × (first + 1 + i ≡ id) × (slice_index_or rest i None ≡ Some item) × (test (id, item) ≡ true)
    × ((k j : ℕ) (x : Item) → i < k → first + 1 + k ≡ j → slice_index_or rest k None ≡ Some x → test (j, x) ≡ false)).
    inr (
      suc some.0,
      some.1,
      omega (arith, some.2),
      some.3,
      some.4,
      λ k j x less e at.
          elim k as (λ m. suc some.0 < m → first + m ≡ j → slice_index_or (Some here ∷ rest) m None ≡ Some x → test (j, x) ≡ false) [
            | zero ↦ λ l e' at'. absurd (omega arith)
            | suc m ↦ λ l e' at'. some.5 m j x (omega arith) (omega arith) at'
          ] less e at,
    ))
    (latest-found test (first + 1) rest (cond (test (first, here)) (Some first) found) id is)

-- where it finds nothing, nothing was found before and none passes
latest-none : (test : ℕ × Item → Bool) (first : ℕ) (slots : List (Option Item)) (found : Option ℕ)
    → latest_in test found (entries_from first slots) ≡ None
    → (found ≡ None) × ((i j : ℕ) (x : Item) → first + i ≡ j → slice_index_or slots i None ≡ Some x → test (j, x) ≡ false)
latest-none test first [] found is = (is, λ i j x e at. absurd cc)
latest-none test first (None ∷ rest) found is =
    let h = latest-none test (first + 1) rest found is in (
      h.0,
      λ i j x e at. elim i as (λ k. first + k ≡ j → slice_index_or (None ∷ rest) k None ≡ Some x → test (j, x) ≡ false) [
        | zero ↦ λ e' at'. absurd cc
        | suc k ↦ λ e' at'. h.1 k j x (omega arith) at'
      ] e at,
    )
latest-none test first (Some here ∷ rest) found is =
    let h = latest-none test (first + 1) rest (cond (test (first, here)) (Some first) found) is in
    ⊎_elim
    (λ passes.
    let this : Some first ≡ None = ap (λ (b : Bool). cond b (Some first) found) (sym passes) ∙ h.0 in
    absurd cc)
    (λ fails. (
      ap (λ (b : Bool). cond b (Some first) found) (sym fails) ∙ h.0,
      λ i j x e at.
          elim i as (λ m. first + m ≡ j → slice_index_or (Some here ∷ rest) m None ≡ Some x → test (j, x) ≡ false) [
            | zero ↦ λ e' at'.
                let same : here ≡ x = cc in
                let place : first ≡ j = omega arith in
                ap (λ (k : ℕ). test (k, x)) (sym place) ∙ ap (λ (y : Item). test (first, y)) (sym same) ∙ fails
            | suc m ↦ λ e' at'. h.1 m j x (omega arith) at'
          ] e at,
    ))
    (cases_Bool (test (first, here)))

pub latest-law : (t : Table) (test : ℕ × Item → Bool) → FindsLatest test t
latest-law t test =
    elim (latest_id test t) as (λ o. latest_id test t ≡ o
    → MatchOption o ((id : ℕ) (item : Item) → type_at t id ≡ Some item → test (id, item) ≡ false) (IsLatest test t)) [
      | None ↦ λ is. let h = latest-none test 0 t.types None is in λ id item at. h.1 id id item (omega arith) at
      | Some id ↦ λ is. ⊎_elim
          (λ (none : (None ≡ Some id) × ((i j : ℕ) (x : Item) → 0 + i ≡ j → slice_index_or t.types i None ≡ Some x → test (j, x) ≡ false)). absurd (cc (none.0)))
          (λ (some : (i : ℕ) × (item : Item) × (0 + i ≡ id) × (slice_index_or t.types i None ≡ Some item) × (test (id, item) ≡ true)
          × ((k j : ℕ) (x : Item) → i < k → 0 + k ≡ j → slice_index_or t.types k None ≡ Some x → test (j, x) ≡ false)).
          let place : some.0 ≡ id = omega (arith, some.2) in
          record {
            item = some.1;
            live = ap (λ (i : ℕ). type_at t i) (sym place) ∙ some.3;
            passes = some.4;
            latest = λ other x less at. some.5 other other x (omega arith) (omega arith) at;
          })
          (latest-found test 0 t.types None id is)
    ] refl
