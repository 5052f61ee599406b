-- What stands for what is determined.
use Rattle.std.proofs.Common.{◌≡◌, ◌∙◌, ℕ, zero, suc, ◌+◌, ◌<◌, ◌≤◌, inl, inr, Bool, true, false, not, ◌==◌, List, [], ◌∷◌, ◌++◌, length, map, Some, None, sym, ap, arith, subst, length-append, append_assoc}
use Rattle.std.specs.List.{slice_get}
use Rattle.std.proofs.lemmas.Bool.{cases_lt, cases_eq, eqb-true, and_parts, cases_Bool}
use Rattle.std.proofs.lemmas.List.{length-map}
use Rattle.std.proofs.lemmas.Option.{slice_get-get_or, slice_get_within}
use Rattle.walrus_type_arenas.specs.walrus_type_index.walrus_items.walrus_forms.Forms.{StructForm}
use Rattle.walrus_type_arenas.specs.walrus_type_index.walrus_items.walrus_forms.Kinds.{Kind, kind_names}
use Rattle.walrus_type_arenas.specs.walrus_type_index.walrus_items.walrus_forms.Records.{TypeGroup}
use Rattle.walrus_type_arenas.specs.walrus_type_index.walrus_items.walrus_forms.Renaming.{KindBelow, at, renamed_kind}
use Rattle.walrus_type_arenas.proofs.walrus_type_index.walrus_forms.RenamingLemmas.{In, in-any, kinds-agree, kinds-below}
use Rattle.walrus_type_arenas.specs.Table.{names_itself}
use Rattle.walrus_types.specs.Parsing.{AreBelow}
use Rattle.walrus_types.specs.Mergers.{Entry, is_single, entries_of, IsEqual, StandsFor, IsSame, SameIsOne}
use Rattle.walrus_types.proofs.MergerLemmas.{get-left, get-split, kind-at}

-- a single type and those before it name types below its end
record Closed (entries : List Entry) (first : ℕ) : Type 0 where
  own : (i : ℕ) (e : Entry) (m : ℕ) → first ≤ i → slice_get entries i ≡ Some e → e.single ≡ true → In m (kind_names e.kind) → m ≤ i
  before : (i j : ℕ) (e f : Entry) (m : ℕ) → first ≤ i → j < i → slice_get entries i ≡ Some e → e.single ≡ true → slice_get entries j ≡ Some f → In m (kind_names f.kind) → m < i

closed : (groups : List TypeGroup) (entries : List Entry)
    → ((j : ℕ) (f : Entry) (m : ℕ) → slice_get entries j ≡ Some f → In m (kind_names f.kind) → m < length entries)
    → AreBelow (length entries) groups → Closed (entries ++ entries_of groups) (length entries)
closed [] entries known below = record {
  own = λ i e m past get one x. let w = slice_get_within (entries ++ []) i e get in absurd (omega (arith, w, past, length-append entries []));
  before = λ i j e f m past less get one get_j x. let w = slice_get_within (entries ++ []) i e get in absurd (omega (arith, w, past, length-append entries []));
}
closed (g ∷ gs) entries known below =
    let b : Bool = is_single g in
    let news : List Entry = map (λ (kind : Kind). let x : Entry = record { single = b; kind = kind } in x) g.kinds in
    let n : ℕ = length entries in
    let total : n + length g.kinds ≡ length (entries ++ news) =
    omega (arith, length-append entries news, length-map g.kinds (λ (kind : Kind). let x : Entry = record { single = b; kind = kind } in x)) in
    let more : (j : ℕ) (f : Entry) (m : ℕ) → slice_get (entries ++ news) j ≡ Some f → In m (kind_names f.kind) → m < length (entries ++ news) =
    λ j f m get x.
    elim (get-split entries b g.kinds j f get) as (λ _. m < length (entries ++ news)) [
      | inl old ↦ let l = known j f m old.1 x in omega (arith, l, total)
      | inr new ↦
          let l = kinds-below new.1 (n + length g.kinds) (kind-at (KindBelow (n + length g.kinds)) g.kinds new.0 new.1 new.4 below.0) m (subst (λ (z : Entry). In m (kind_names z.kind)) new.5 x) in
          omega (arith, l, total)
    ] in
    let rest : Closed (entries ++ news ++ entries_of gs) (length (entries ++ news)) = closed gs (entries ++ news) more (subst (λ (k : ℕ). AreBelow k gs) total below.1) in
    let here : (i : ℕ) (e : Entry) → n ≤ i → i < length (entries ++ news) → slice_get (entries ++ news ++ entries_of gs) i ≡ Some e → e.single ≡ true → (i ≡ n) × (length (entries ++ news) ≡ n + 1) =
    λ i e past less get one.
    elim (get-split entries b g.kinds i e (sym (get-left (entries ++ news) (entries_of gs) i less) ∙ get)) as (λ _. (i ≡ n) × (length (entries ++ news) ≡ n + 1)) [
      | inl old ↦ absurd (omega (arith, old.0, past))
      | inr new ↦
          let single : b ≡ true = sym (ap (λ (z : Entry). z.single) new.5) ∙ one in
          let parts = and_parts (not g.marked) (length g.kinds == 1) single in
          let count : length g.kinds ≡ 1 = eqb-true (length g.kinds) 1 parts.1 in
          let a : i ≡ n = omega (arith, new.2, new.3, count) in
          let c : length (entries ++ news) ≡ n + 1 = omega (arith, total, count) in
          (a, c)
    ] in
    subst (λ (es : List Entry). Closed es n) (append_assoc entries news (entries_of gs)) (record {
      own = λ i e m past get one x.
          elim (cases_lt i (length (entries ++ news))) as (λ _. m ≤ i) [
            | inl less ↦
                let h = here i e past less get one in
                let l = more i e m (sym (get-left (entries ++ news) (entries_of gs) i less) ∙ get) x in
                omega (arith, l, h.0, h.1)
            | inr later ↦ rest.own i e m (omega (arith, later)) get one x
          ];
      before = λ i j e f m past under get one get_j x.
          elim (cases_lt i (length (entries ++ news))) as (λ _. m < i) [
            | inl less ↦
                let h = here i e past less get one in
                let j_less : j < n = omega (arith, under, h.0) in
                let get_old : slice_get entries j ≡ Some f =
                sym (get-left entries news j j_less) ∙ sym (get-left (entries ++ news) (entries_of gs) j (omega (arith, j_less, total))) ∙ get_j in
                let l = known j f m get_old x in
                omega (arith, l, h.0)
            | inr later ↦ rest.before i j e f m (omega (arith, later)) under get one get_j x
          ];
    })

-- an equal type under one list is one under the other
equal-under : (entries : List Entry) (same other : List ℕ) (i : ℕ) → Closed entries 0 → ((k : ℕ) → k < i → at same k ≡ at other k)
    → (e : Entry) → slice_get entries i ≡ Some e → e.single ≡ true → (j : ℕ) → IsEqual entries same i j → IsEqual entries other i j
equal-under entries same other i c agree e get one j q =
    let e_is : Some q.a ≡ Some e = sym q.at_i ∙ get in
    let a_is : q.a ≡ e = cc in
    let mine : renamed_kind (at same) q.a.kind ≡ renamed_kind (at other) q.a.kind =
    kinds-agree (at same) (at other) q.a.kind (λ m x.
    elim (cases_eq m i) as (λ _. at same m ≡ at other m) [
      | inl is ↦
          let yes : names_itself i q.a.kind ≡ true = in-any (kind_names q.a.kind) i (subst (λ (z : ℕ). In z (kind_names q.a.kind)) is x) in
          let wrong : true ≡ false = sym yes ∙ q.apart_i in
          absurd cc
      | inr apart ↦
          let l = c.own i e m (omega arith) get one (subst (λ (z : Entry). In m (kind_names z.kind)) a_is x) in
          agree m (omega (arith, l, apart))
    ]) in
    let its : renamed_kind (at same) q.b.kind ≡ renamed_kind (at other) q.b.kind =
    kinds-agree (at same) (at other) q.b.kind (λ m x. agree m (c.before i j e q.b m (omega arith) q.earlier get one q.at_j x)) in
    record {
      earlier = q.earlier;
      itself = sym (agree j q.earlier) ∙ q.itself;
      a = q.a;
      b = q.b;
      at_i = q.at_i;
      at_j = q.at_j;
      kinds = sym mine ∙ q.kinds ∙ its;
      apart_i = q.apart_i;
      apart_j = q.apart_j;
    }

stands-once : (entries : List Entry) (same other : List ℕ) (i k l : ℕ) → ((j : ℕ) → IsEqual entries same i j → IsEqual entries other i j)
    → ((j : ℕ) → IsEqual entries other i j → IsEqual entries same i j) → StandsFor entries same i k → StandsFor entries other i l → k ≡ l
stands-once entries same other i k l to from (inl a) (inl b) =
    elim (cases_eq k l) as (λ _. k ≡ l) [
      | inl is ↦ is
      | inr apart ↦ elim (cases_lt k l) as (λ _. k ≡ l) [
        | inl less ↦ absurd (a.1 l less (from l b.0))
        | inr past ↦ absurd (b.1 k (omega (arith, past, apart)) (to k a.0))
      ]
    ]
stands-once entries same other i k l to from (inl a) (inr b) = absurd (b.1 k (to k a.0))
stands-once entries same other i k l to from (inr a) (inl b) = absurd (a.1 l (from l b.0))
stands-once entries same other i k l to from (inr a) (inr b) = a.0 ∙ sym b.0

one-at : (entries : List Entry) (same other : List ℕ) → Closed entries 0 → IsSame entries same → IsSame entries other
    → (i : ℕ) → i < length entries → ((k : ℕ) → k < i → at same k ≡ at other k) → (e : Entry) → slice_get entries i ≡ Some e → at same i ≡ at other i
one-at entries same other c a b i less agree e get =
    elim (cases_Bool e.single) as (λ _. at same i ≡ at other i) [
      | inl one ↦ stands-once entries same other i (at same i) (at other i)
          (equal-under entries same other i c agree e get one) (equal-under entries other same i c (λ k l. sym (agree k l)) e get one)
          (a.single i e get one) (b.single i e get one)
      | inr grouped ↦ a.grouped i e get grouped ∙ sym (b.grouped i e get grouped)
    ]

up-to : (entries : List Entry) (same other : List ℕ) → Closed entries 0 → IsSame entries same → IsSame entries other
    → (n : ℕ) → n ≤ length entries → (i : ℕ) → i < n → at same i ≡ at other i
up-to entries same other c a b zero fits i less = absurd (omega (arith, less))
up-to entries same other c a b (suc n) fits i less =
    let before = up-to entries same other c a b n (omega (arith, fits)) in
    elim (cases_lt i n) as (λ _. at same i ≡ at other i) [
      | inl lower ↦ before i lower
      | inr past ↦
          let is : i ≡ n = omega (arith, past, less) in
          let none : Entry = record { single = false; kind = record { form = StructForm []; final = true; supertype = None; entry = false } } in
          one-at entries same other c a b i (omega (arith, less, fits)) (λ k l. before k (omega (arith, l, is))) _ (slice_get-get_or entries i none (omega (arith, less, fits)))
    ]

pub once-law : SameIsOne
once-law groups below same other a b i less =
    up-to (entries_of groups) same other (closed groups [] (λ j f m get x. absurd cc) below) a b (length (entries_of groups)) (omega arith) i less
