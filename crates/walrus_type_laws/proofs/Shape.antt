-- What a new table is after groups were read into it.
use Rattle.std.proofs.Common.{◌≡◌, ◌∙◌, ℕ, zero, suc, ◌+◌, ◌-◌, ◌<◌, ◌≤◌, ◌⊎◌, inl, inr, Bool, true, false, not, ◌==◌, List, [], ◌∷◌, ◌++◌, length, map, take, Option, Some, refl, sym, ap, subst, arith, length-append}
use Rattle.std.specs.List.{slice_get, range_with_len}
use Rattle.std.proofs.lemmas.Bool.{false≢true, cases_lt, and_parts, eqb-true}
use Rattle.std.proofs.lemmas.List.{append-nil, get_or_append_left, get_or-append-add, length-map, take_at, take-append-le}
use Rattle.std.proofs.lemmas.List.FromFn.{length-range_with_len, get_or-range_with_len}
use Rattle.std.proofs.lemmas.Option.{slice_get_within, same_Some, none-some}
use Rattle.walrus_forms.specs.Kinds.{Kind}
use Rattle.walrus_forms.specs.Records.{TypeGroup}
use Rattle.walrus_forms.specs.Renaming.{at}
use Rattle.walrus_types.specs.Items.{Group}
use Rattle.walrus_types.specs.Table.{next_id, names_itself}
use Rattle.walrus_types.specs.Parsing.{Parsed, with_group}
use Rattle.walrus_types.specs.Mergers.{Entry, is_single, entries_of}
use Rattle.walrus_type_laws.specs.Rounds.{is_explicit}
use Rattle.walrus_types.proofs.Places.{Has, get, append_at, left_at, right_at}
use Rattle.walrus_type_laws.proofs.Dense.{Dense, dense_length, dense_member, one_group, one_is, of_one, dense_more}

-- how many types stand in groups
pub entries_more : (g : TypeGroup) (gs : List TypeGroup) → length (entries_of (g ∷ gs)) ≡ length g.kinds + length (entries_of gs)
entries_more g gs =
    let b : Bool = is_single g in
    let make : Kind → Entry = λ kind. record { single = b; kind = kind } in
    omega (arith, length-append (map make g.kinds) (entries_of gs), length-map g.kinds make)

pub entries_append : (xs ys : List TypeGroup) → length (entries_of (xs ++ ys)) ≡ length (entries_of xs) + length (entries_of ys)
entries_append [] ys = omega arith
entries_append (x ∷ xs) ys = omega (arith, entries_more x (xs ++ ys), entries_more x xs, entries_append xs ys)

pub before_end : (gs : List TypeGroup) (p : ℕ) (g : TypeGroup) → slice_get gs p ≡ Some g → length (entries_of (take p gs)) + length g.kinds ≤ length (entries_of gs)
before_end [] p g is = absurd (none-some g is)
before_end (h ∷ gs) zero g is =
    let e : length h.kinds ≡ length g.kinds = ap (λ (w : TypeGroup). length w.kinds) (same_Some h g is) in
    omega (arith, e, entries_more h gs)
before_end (h ∷ gs) (suc p) g is = omega (arith, before_end gs p g is, entries_more h gs, entries_more h (take p gs))

-- a group's types were merged away, or stand in a group of the table one after the other
abbrev pub Stood : List ℕ → List Group → ℕ → TypeGroup → Type 0
Stood ids gs b g =
    ((is_single g ≡ true) × (j : ℕ) × (j < b) × (at ids j ≡ at ids b))
    ⊎ (Has gs (record { explicit = is_explicit g; types = range_with_len (at ids b) (length g.kinds) }) × ((k : ℕ) → k < length g.kinds → at ids (b + k) ≡ at ids b + k))

-- no single type equals an earlier one, unless one of them names itself
abbrev pub NoTwins : List Kind → List Group → Type 0
NoTwins kinds gs = (p a b : ℕ) (k : Kind) → slice_get gs p ≡ Some (record { explicit = false; types = b ∷ [] }) → a < b
    → slice_get kinds a ≡ Some k → slice_get kinds b ≡ Some k → names_itself a k ≡ false → names_itself b k ≡ false → ⊥

-- groups without a mark have one member
abbrev pub UnmarkedHaveOne : List Group → Type 0
UnmarkedHaveOne gs = (p : ℕ) (g : Group) → slice_get gs p ≡ Some g → g.explicit ≡ false → length g.types ≡ 1

pub not_false : (b : Bool) → not b ≡ false → b ≡ true
not_false true h = refl
not_false false h = absurd (false≢true (sym h))

-- one that isn't explicit is of one type
one_unmarked : (g : TypeGroup) → is_explicit g ≡ false → length g.kinds ≡ 1
one_unmarked g h = eqb-true (length g.kinds) 1 (and_parts (not g.marked) (length g.kinds == 1) (not_false (is_single g) h)).1

pub record Shape (done : List TypeGroup) (s : Parsed) : Type 0 where
  pub kinds : List Kind
  pub gs : List Group
  pub dense : Dense kinds gs s.table
  pub sized : length s.ids ≡ length (entries_of done)
  pub reached : (v : ℕ) → v < length kinds → (i : ℕ) × (i < length s.ids) × (at s.ids i ≡ v)
  pub stood : (p : ℕ) (g : TypeGroup) → slice_get done p ≡ Some g → 0 < length g.kinds → Stood s.ids gs (length (entries_of (take p done))) g
  pub twins : NoTwins kinds gs
  pub single : UnmarkedHaveOne gs

at_left : (ids more : List ℕ) (i : ℕ) → i < length ids → at (ids ++ more) i ≡ at ids i
at_left ids more i less = get_or_append_left ids more 0 i less

stood_kept : (ids more : List ℕ) (gs news : List Group) (b : ℕ) (g : TypeGroup) → 0 < length g.kinds → b + length g.kinds ≤ length ids → Stood ids gs b g → Stood (ids ++ more) (gs ++ news) b g
stood_kept ids more gs news b g some fits stood =
    let first : at (ids ++ more) b ≡ at ids b = at_left ids more b (omega (arith, some, fits)) in
    elim stood as (λ _. Stood (ids ++ more) (gs ++ news) b g) [
      | inl m ↦ inl (m.0, m.1, m.2, at_left ids more m.1 (let l = m.2 in omega (arith, l, some, fits)) ∙ m.3 ∙ sym first)
      | inr h ↦ inr (
        (
          h.0.0,
          left_at gs news h.0.0 (record { explicit = is_explicit g; types = range_with_len (at (ids ++ more) b) (length g.kinds) })
              (h.0.1 ∙ ap (λ (n : ℕ). let o : Option Group = Some (record { explicit = is_explicit g; types = range_with_len n (length g.kinds) }) in o) (sym first)),
        ),
        λ k less. at_left ids more (b + k) (omega (arith, less, fits)) ∙ h.1 k less ∙ ap (λ (n : ℕ). n + k) (sym first),
      )
    ]

at_front : (ks ls : List Kind) (i : ℕ) (k : Kind) → i < length ks → slice_get (ks ++ ls) i ≡ Some k → slice_get ks i ≡ Some k
at_front ks ls i k less is =
    let x = get ks i less in
    x.1 ∙ sym (left_at ks ls i x.0 x.1) ∙ is

at_back : (ks ls : List Kind) (i j : ℕ) (k : Kind) → length ks + i ≡ j → slice_get (ks ++ ls) j ≡ Some k → slice_get ls i ≡ Some k
at_back ks ls i j k place is = elim (append_at ks ls j k is) as (λ _. slice_get ls i ≡ Some k) [
  | inl old ↦ absurd (omega (arith, slice_get_within ks j k old, place))
  | inr new ↦ let e : i ≡ new.0 = omega (arith, place, new.1) in ap (λ (n : ℕ). slice_get ls n) e ∙ new.2
]

-- a group of those done and one more
split_done : (done : List TypeGroup) (g : TypeGroup) (p : ℕ) (h : TypeGroup) → slice_get (done ++ g ∷ []) p ≡ Some h
    → ((slice_get done p ≡ Some h) × (take p (done ++ g ∷ []) ≡ take p done)) ⊎ ((h ≡ g) × (take p (done ++ g ∷ []) ≡ done))
split_done done g p h is = elim (append_at done (g ∷ []) p h is) as (λ _. ((slice_get done p ≡ Some h) × (take p (done ++ g ∷ []) ≡ take p done)) ⊎ ((h ≡ g) × (take p (done ++ g ∷ []) ≡ done))) [
  | inl old ↦ inl (old, take-append-le p done (g ∷ []) (let w = slice_get_within done p h old in omega (arith, w)))
  | inr new ↦
      let w = slice_get_within (g ∷ []) new.0 h new.2 in
      let e : new.0 ≡ 0 = omega (arith, w) in
      inr (
        sym (same_Some g h (ap (λ (i : ℕ). slice_get (g ∷ []) i) (sym e) ∙ new.2)),
        take_at done (g ∷ []) p (omega (arith, new.1, e)),
      )
]

-- the groups done stand as they did
stood_before : (done : List TypeGroup) (g : TypeGroup) (s : Parsed) (shape : Shape done s) (more : List ℕ) (news : List Group) (p : ℕ) (h : TypeGroup)
    → slice_get done p ≡ Some h → take p (done ++ g ∷ []) ≡ take p done → 0 < length h.kinds → Stood (s.ids ++ more) (shape.gs ++ news) (length (entries_of (take p (done ++ g ∷ [])))) h
stood_before done g s shape more news p h is front some =
    subst (λ (hs : List TypeGroup). Stood (s.ids ++ more) (shape.gs ++ news) (length (entries_of hs)) h) (sym front)
    (stood_kept s.ids more shape.gs news (length (entries_of (take p done))) h some (let e = before_end done p h is in omega (arith, e, shape.sized)) (shape.stood p h is some))

entries_push : (done : List TypeGroup) (g : TypeGroup) → length (entries_of (done ++ g ∷ [])) ≡ length (entries_of done) + length g.kinds
entries_push done g = omega (arith, entries_append done (g ∷ []), entries_more g [])

-- a single type for which another stands
pub shape_merged : (done : List TypeGroup) (g : TypeGroup) (s : Parsed) (found : ℕ) → Shape done s → is_single g ≡ true → length g.kinds ≡ 1 → found < next_id s.table
    → Shape (done ++ g ∷ []) (record { ids = s.ids ++ found ∷ []; table = s.table })
shape_merged done g s found shape single one less =
    let len : next_id s.table ≡ length shape.kinds = dense_length shape.kinds shape.gs s.table shape.dense in
    let n : ℕ = length s.ids in
    let last : at (s.ids ++ found ∷ []) n ≡ found =
    let e : n ≡ length s.ids + 0 = omega arith in
    ap (λ (i : ℕ). at (s.ids ++ found ∷ []) i) e ∙ get_or-append-add s.ids (found ∷ []) 0 0 in
    record {
      kinds = shape.kinds;
      gs = shape.gs;
      dense = shape.dense;
      sized = omega (arith, length-append s.ids (found ∷ []), shape.sized, entries_push done g, one);
      reached = λ v small.
          let r = shape.reached v small in
          (r.0, (let l = r.1 in omega (arith, l, length-append s.ids (found ∷ []))), at_left s.ids (found ∷ []) r.0 r.1 ∙ r.2);
      stood = λ p h is some.
          elim (split_done done g p h is) as (λ _. Stood (s.ids ++ found ∷ []) shape.gs (length (entries_of (take p (done ++ g ∷ [])))) h) [
            | inl old ↦
                subst (λ (hs : List Group). Stood (s.ids ++ found ∷ []) hs (length (entries_of (take p (done ++ g ∷ [])))) h) (append-nil shape.gs)
                (stood_before done g s shape (found ∷ []) [] p h old.0 old.1 some)
            | inr new ↦
                let b : length (entries_of (take p (done ++ g ∷ []))) ≡ n = ap (λ (hs : List TypeGroup). length (entries_of hs)) new.1 ∙ sym shape.sized in
                let r = shape.reached found (omega (arith, less, len)) in
                inl (
                  ap is_single new.0 ∙ single,
                  r.0,
                  (let l = r.1 in omega (arith, l, b)),
                  at_left s.ids (found ∷ []) r.0 r.1 ∙ r.2 ∙ sym last ∙ ap (λ (i : ℕ). at (s.ids ++ found ∷ []) i) (sym b),
                )
          ];
      twins = shape.twins;
      single = shape.single;
    }

-- new types
pub shape_more : (done : List TypeGroup) (g : TypeGroup) (s : Parsed) (ks : List Kind) (shape : Shape done s) → length ks ≡ length g.kinds → ((i : ℕ) (k : Kind) → slice_get ks i ≡ Some k → k.entry ≡ false)
    → (is_explicit g ≡ false → length ks ≡ 1 → (a : ℕ) (k : Kind) → slice_get shape.kinds a ≡ Some k → slice_get ks 0 ≡ Some k → names_itself a k ≡ false → names_itself (length shape.kinds) k ≡ false → ⊥)
    → Shape (done ++ g ∷ []) (record { ids = s.ids ++ range_with_len (next_id s.table) (length ks); table = with_group (is_explicit g) ks s.table })
shape_more done g s ks shape count plain alone =
    let kinds : List Kind = shape.kinds in
    let n : ℕ = length kinds in
    let c : ℕ = length ks in
    let next : ℕ = next_id s.table in
    let len : next ≡ n = dense_length kinds shape.gs s.table shape.dense in
    let own : List ℕ = range_with_len next c in
    let news : List Group = one_group (is_explicit g) (range_with_len n c) in
    let m : ℕ = length s.ids in
    let later : (k : ℕ) → k < c → at (s.ids ++ own) (m + k) ≡ next + k =
    λ k less. get_or-append-add s.ids own k 0 ∙ get_or-range_with_len next c k 0 less in
    record {
      kinds = kinds ++ ks;
      gs = shape.gs ++ news;
      dense = dense_more kinds ks shape.gs s.table (is_explicit g) shape.dense plain;
      sized = omega (arith, length-append s.ids own, length-range_with_len next c, shape.sized, entries_push done g, count);
      reached = λ v small.
          elim (cases_lt v n) as (λ _. (i : ℕ) × (i < length (s.ids ++ own)) × (at (s.ids ++ own) i ≡ v)) [
            | inl old ↦
                let r = shape.reached v old in
                (r.0, (let l = r.1 in omega (arith, l, length-append s.ids own)), at_left s.ids own r.0 r.1 ∙ r.2)
            | inr past ↦
                let k : ℕ = v - n in
                let is : n + k ≡ v = omega (arith, past) in
                let within : k < c = omega (arith, small, is, length-append kinds ks) in
                (m + k, omega (arith, within, length-append s.ids own, length-range_with_len next c), omega (arith, later k within, len, is))
          ];
      stood = λ p h is some.
          elim (split_done done g p h is) as (λ _. Stood (s.ids ++ own) (shape.gs ++ news) (length (entries_of (take p (done ++ g ∷ [])))) h) [
            | inl old ↦ stood_before done g s shape own news p h old.0 old.1 some
            | inr new ↦
                let b : ℕ = length (entries_of (take p (done ++ g ∷ []))) in
                let b_is : b ≡ m = ap (λ (hs : List TypeGroup). length (entries_of hs)) new.1 ∙ sym shape.sized in
                let here : length h.kinds ≡ c = ap (λ (w : TypeGroup). length w.kinds) new.0 ∙ sym count in
                let each : (k : ℕ) → k < c → at (s.ids ++ own) (b + k) ≡ next + k = λ k less. ap (λ (i : ℕ). at (s.ids ++ own) (i + k)) b_is ∙ later k less in
                let first : at (s.ids ++ own) b ≡ n =
                let z : b ≡ b + 0 = omega arith in
                ap (λ (i : ℕ). at (s.ids ++ own) i) z ∙ omega (arith, each 0 (omega (arith, some, here)), len) in
                let group : Group = record { explicit = is_explicit h; types = range_with_len (at (s.ids ++ own) b) (length h.kinds) } in
                let made : news ≡ group ∷ [] =
                one_is (is_explicit g) (range_with_len n c) (omega (arith, length-range_with_len n c, some, here))
                ∙ ap (λ (e : Bool). let hs : List Group = record { explicit = e; types = range_with_len n c } ∷ [] in hs) (ap (λ (w : TypeGroup). is_explicit w) (sym new.0))
                ∙ ap (λ (x : ℕ). let hs : List Group = record { explicit = is_explicit h; types = range_with_len x c } ∷ [] in hs) (sym first)
                ∙ ap (λ (x : ℕ). let hs : List Group = record { explicit = is_explicit h; types = range_with_len (at (s.ids ++ own) b) x } ∷ [] in hs) (sym here) in
                inr (
                  (length shape.gs, right_at shape.gs news 0 (length shape.gs) group (omega arith) (ap (λ (hs : List Group). slice_get hs 0) made)),
                  λ k less. each k (omega (arith, less, here)) ∙ ap (λ (x : ℕ). x + k) (len ∙ sym first),
                )
          ];
      twins = λ p a b k at_p less at_a at_b apart_a apart_b.
          elim (append_at shape.gs news p (record { explicit = false; types = b ∷ [] }) at_p) as (λ _. ⊥) [
            | inl old ↦
                let small : b < n = dense_member kinds shape.gs s.table shape.dense p 0 (record { explicit = false; types = b ∷ [] }) b old refl in
                shape.twins p a b k old less (at_front kinds ks a k (omega (arith, less, small)) at_a) (at_front kinds ks b k small at_b) apart_a apart_b
            | inr new ↦
                let o = of_one (is_explicit g) (range_with_len n c) new.0 (record { explicit = false; types = b ∷ [] }) new.2 in
                let unmarked : is_explicit g ≡ false = ap (λ (w : Group). w.explicit) (sym o.0) in
                let types : b ∷ [] ≡ range_with_len n c = ap (λ (w : Group). w.types) o.0 in
                let one : c ≡ 1 = sym (length-range_with_len n c) ∙ ap (λ (xs : List ℕ). length xs) (sym types) in
                let b_is : b ≡ n = same_Some b n (ap (λ (xs : List ℕ). slice_get xs 0) (types ∙ ap (λ (x : ℕ). range_with_len n x) one)) in
                let new_kind : slice_get ks 0 ≡ Some k = at_back kinds ks 0 b k (omega (arith, b_is)) at_b in
                alone unmarked one a k (at_front kinds ks a k (omega (arith, less, b_is)) at_a) new_kind apart_a (ap (λ (x : ℕ). names_itself x k) (sym b_is) ∙ apart_b)
          ];
      single = λ p group at_p unmarked.
          elim (append_at shape.gs news p group at_p) as (λ _. length group.types ≡ 1) [
            | inl old ↦ shape.single p group old unmarked
            | inr new ↦
                let o = of_one (is_explicit g) (range_with_len n c) new.0 group new.2 in
                ap (λ (w : Group). length w.types) o.0 ∙ length-range_with_len n c ∙ count ∙ one_unmarked g (sym (ap (λ (w : Group). w.explicit) o.0) ∙ unmarked)
          ];
    }
