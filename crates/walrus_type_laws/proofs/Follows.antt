-- Two sections are parsed side by side, where the second is the first under a renaming.
use Rattle.std.proofs.Common.{◌≡◌, ◌∙◌, ℕ, zero, suc, ◌+◌, ◌-◌, ◌<◌, ◌≤◌, inl, inr, Bool, true, false, not, cond, All, List, [], ◌∷◌, ◌++◌, length, map, Option, Some, None, slice_index_or, refl, sym, ap, subst, arith, length-append}
use Rattle.std.specs.List.{range_with_len}
use Rattle.std.specs.Option.{option_map, MatchOption}
use Rattle.std.proofs.lemmas.Bool.{cases_lt, cases_order, and_parts}
use Rattle.std.proofs.lemmas.List.{get_or_append_left, get_or-append-add, get_or-append_right, length-map}
use Rattle.std.proofs.lemmas.List.Elements.{All-head, All-tail}
use Rattle.std.proofs.lemmas.List.FromFn.{length-range_with_len, get_or-range_with_len}
use Rattle.walrus_forms.specs.Kinds.{Kind}
use Rattle.walrus_forms.specs.Records.{TypeGroup}
use Rattle.walrus_forms.specs.Renaming.{KindBelow, at, renamed_kind}
use Rattle.walrus_forms.specs.Same.{same_kind}
use Rattle.walrus_forms.proofs.EqLemmas.{same-kind-law}
use Rattle.walrus_forms.proofs.RenamingLemmas.{kinds-agree, kinds-twice, kinds-below}
use Rattle.walrus_types.specs.Items.{Item, Group}
use Rattle.walrus_types.specs.Groups.{new_items, group_slot}
use Rattle.walrus_types.specs.Table.{next_id, type_at, names_itself, merges, latest_id, equal_type}
use Rattle.walrus_types.specs.TypeLaws.{IsLatest}
use Rattle.walrus_types.specs.Parsing.{Parsed, with_group, merged, added, known_ids, parsed_group, parsed, AreBelow}
use Rattle.walrus_types.proofs.GroupLemmas.{length-new_items}
use Rattle.walrus_types.proofs.LawLemmas.{latest-law}
use Rattle.walrus_types.proofs.ParseLemmas.{group-sized}
use Rattle.walrus_type_laws.specs.Rounds.{renamed_types}
use Rattle.walrus_type_laws.proofs.Renamed.{renamed_item, itself-alike, merges-alike}

-- a state with one group more, in which no type merges
abbrev pub grown : Bool → List Kind → Parsed → Parsed
grown marked kinds s = record { ids = s.ids ++ range_with_len (next_id s.table) (length kinds); table = with_group marked kinds s.table }

-- type i of the one section is type `turn i` of the other, and id v of the one table is id r v of the
-- other. Of two types of one kind the earlier is the earlier in both.
pub record Follows (r turn : ℕ → ℕ) (s t : Parsed) : Type 0 where
  pub sized : length t.ids ≡ length s.ids
  pub near : (i : ℕ) → i < length s.ids → turn i < length s.ids
  pub past : (i : ℕ) → length s.ids ≤ i → turn i ≡ i
  pub ids : (i : ℕ) → i < length s.ids → at t.ids (turn i) ≡ r (at s.ids i)
  pub next : next_id t.table ≡ next_id s.table
  pub twice : (x : ℕ) → r (r x) ≡ x
  pub above : (x : ℕ) → next_id s.table ≤ x → r x ≡ x
  pub types : (id : ℕ) → type_at t.table (r id) ≡ option_map (renamed_item r) (type_at s.table id)
  pub apart : (x y : ℕ) (a b : Item) → x < y → r y < r x → type_at s.table x ≡ Some a → type_at s.table y ≡ Some b → a.kind ≡ b.kind → ⊥
  pub groups : t.table.groups ≡ s.table.groups

-- look-ups in a list with more behind it
pub at-left : (xs ys : List ℕ) (i : ℕ) → i < length xs → at (xs ++ ys) i ≡ at xs i
at-left xs ys i less = get_or_append_left xs ys 0 i less

pub at-right : (xs ys : List ℕ) (n i j : ℕ) → length xs ≡ n → n + i ≡ j → at (xs ++ ys) j ≡ at ys i
at-right xs ys n i j sized is =
    let e : j ≡ length xs + i = omega (arith, sized, is) in
    ap (λ (k : ℕ). at (xs ++ ys) k) e ∙ get_or-append-add xs ys i 0

pub at-range : (xs : List ℕ) (n a c i j : ℕ) → length xs ≡ n → i < c → n + i ≡ j → at (xs ++ range_with_len a c) j ≡ a + i
at-range xs n a c i j sized less is = at-right xs (range_with_len a c) n i j sized is ∙ get_or-range_with_len a c i 0 less

-- ids that were given out stay among these
within : (r : ℕ → ℕ) (n x : ℕ) → ((x : ℕ) → r (r x) ≡ x) → ((x : ℕ) → n ≤ x → r x ≡ x) → x < n → r x < n
within r n x twice above less =
    elim (cases_lt (r x) n) as (λ _. r x < n) [
      | inl low ↦ low
      | inr past ↦ let e : r (r x) ≡ r x = above (r x) past in absurd (omega (arith, e, twice x, past, less))
    ]

new-alike : (r : ℕ → ℕ) (k : ℕ) (kinds : List Kind) (j : ℕ) → ((x : ℕ) → k ≤ x → r x ≡ x)
    → slice_index_or (new_items k (map (renamed_kind r) kinds)) j None ≡ option_map (renamed_item r) (slice_index_or (new_items k kinds) j None)
new-alike r k [] j above = refl
new-alike r k (kind ∷ kinds) zero above =
    ap (λ (id : ℕ). let o : Option Item = Some (record { id = id; kind = renamed_kind r kind; name = None }) in o) (sym (above k (omega arith)))
new-alike r k (kind ∷ kinds) (suc j) above = new-alike r (k + 1) kinds j (λ x past. above x (omega (arith, past)))

-- a group more on both sides
pub grown-follows : (r turn : ℕ → ℕ) (s t : Parsed) (marked : Bool) (kinds : List Kind) → Follows r turn s t
    → Follows r turn (grown marked kinds s) (grown marked (map (renamed_kind r) kinds) t)
grown-follows r turn s t marked kinds f =
    let n : ℕ = length s.ids in
    let c : ℕ = length kinds in
    let k : ℕ = next_id s.table in
    let l : ℕ = next_id t.table in
    let others : List Kind = map (renamed_kind r) kinds in
    let d : length others ≡ c = length-map kinds (renamed_kind r) in
    let first : length (s.ids ++ range_with_len k c) ≡ n + c = omega (arith, length-append s.ids (range_with_len k c), length-range_with_len k c) in
    let second : length (t.ids ++ range_with_len l (length others)) ≡ n + c =
    omega (arith, length-append t.ids (range_with_len l (length others)), length-range_with_len l (length others), d, f.sized) in
    let after : length (s.table.types ++ new_items k kinds) ≡ k + c = omega (arith, length-append s.table.types (new_items k kinds), length-new_items k kinds) in
    let beyond : length (t.table.types ++ new_items l others) ≡ k + c =
    omega (arith, length-append t.table.types (new_items l others), length-new_items l others, d, f.next) in
    record {
      sized = second ∙ sym first;
      near = λ i less.
          elim (cases_lt i n) as (λ _. turn i < length (s.ids ++ range_with_len k c)) [
            | inl low ↦ let h = f.near i low in omega (arith, h, first)
            | inr high ↦ omega (arith, f.past i high, less)
          ];
      past = λ i high. f.past i (omega (arith, high, first));
      ids = λ i less.
          elim (cases_lt i n) as (λ _. at (t.ids ++ range_with_len l (length others)) (turn i) ≡ r (at (s.ids ++ range_with_len k c) i)) [
            | inl low ↦
                let h = f.near i low in
                at-left t.ids (range_with_len l (length others)) (turn i) (omega (arith, h, f.sized)) ∙ f.ids i low
                ∙ ap r (sym (at-left s.ids (range_with_len k c) i low))
            | inr high ↦
                let j : ℕ = i - n in
                let is : n + j ≡ i = omega (arith, high) in
                let inside : j < c = omega (arith, less, first, is) in
                let e : at (s.ids ++ range_with_len k c) i ≡ k + j = at-range s.ids n k c j i refl inside is in
                ap (λ (x : ℕ). at (t.ids ++ range_with_len l (length others)) x) (f.past i high)
                ∙ at-range t.ids n l (length others) j i f.sized (omega (arith, inside, d)) is
                ∙ ap (λ (x : ℕ). x + j) f.next ∙ sym (f.above (k + j) (omega arith)) ∙ ap r (sym e)
          ];
      next = beyond ∙ sym after;
      twice = f.twice;
      above = λ x high. f.above x (omega (arith, high, after));
      types = λ id.
          elim (cases_lt id k) as (λ _. slice_index_or (t.table.types ++ new_items l others) (r id) None
          ≡ option_map (renamed_item r) (slice_index_or (s.table.types ++ new_items k kinds) id None)) [
            | inl low ↦
                let h = within r k id f.twice f.above low in
                get_or_append_left t.table.types (new_items l others) None (r id) (omega (arith, h, f.next)) ∙ f.types id
                ∙ ap (λ (o : Option Item). option_map (renamed_item r) o) (sym (get_or_append_left s.table.types (new_items k kinds) None id low))
            | inr high ↦
                ap (λ (x : ℕ). slice_index_or (t.table.types ++ new_items l others) x None) (f.above id high)
                ∙ get_or-append_right t.table.types (new_items l others) k id None f.next high
                ∙ ap (λ (x : ℕ). slice_index_or (new_items x others) (id - k) None) f.next
                ∙ new-alike r k kinds (id - k) f.above
                ∙ ap (λ (o : Option Item). option_map (renamed_item r) o) (sym (get_or-append_right s.table.types (new_items k kinds) k id None refl high))
          ];
      apart = λ x y a b less back at_x at_y same.
          elim (cases_lt y k) as (λ _. ⊥) [
            | inl low ↦ f.apart x y a b less back
                (sym (get_or_append_left s.table.types (new_items k kinds) None x (omega (arith, less, low))) ∙ at_x)
                (sym (get_or_append_left s.table.types (new_items k kinds) None y low) ∙ at_y) same
            | inr high ↦ elim (cases_lt x k) as (λ _. ⊥) [
              | inl low ↦ let h = within r k x f.twice f.above low in omega (arith, h, f.above y high, high, back)
              | inr past ↦ omega (arith, f.above x past, f.above y high, less, back)
            ]
          ];
      groups =
          ap (λ (gs : List (Option Group)). gs ++ group_slot marked (range_with_len l (length others))) f.groups
          ∙ ap (λ (x : ℕ). s.table.groups ++ group_slot marked (range_with_len x (length others))) f.next
          ∙ ap (λ (x : ℕ). s.table.groups ++ group_slot marked (range_with_len k x)) d;
    }

-- a type that merges, on both sides
joined-follows : (r turn : ℕ → ℕ) (s t : Parsed) (v : ℕ) → Follows r turn s t
    → Follows r turn (record { ids = s.ids ++ v ∷ []; table = s.table }) (record { ids = t.ids ++ r v ∷ []; table = t.table })
joined-follows r turn s t v f =
    let n : ℕ = length s.ids in
    let first : length (s.ids ++ v ∷ []) ≡ n + 1 = length-append s.ids (v ∷ []) in
    let second : length (t.ids ++ r v ∷ []) ≡ n + 1 = omega (arith, length-append t.ids (r v ∷ []), f.sized) in
    record {
      sized = second ∙ sym first;
      near = λ i less.
          elim (cases_lt i n) as (λ _. turn i < length (s.ids ++ v ∷ [])) [
            | inl low ↦ let h = f.near i low in omega (arith, h, first)
            | inr high ↦ omega (arith, f.past i high, less)
          ];
      past = λ i high. f.past i (omega (arith, high, first));
      ids = λ i less.
          elim (cases_lt i n) as (λ _. at (t.ids ++ r v ∷ []) (turn i) ≡ r (at (s.ids ++ v ∷ []) i)) [
            | inl low ↦
                let h = f.near i low in
                at-left t.ids (r v ∷ []) (turn i) (omega (arith, h, f.sized)) ∙ f.ids i low ∙ ap r (sym (at-left s.ids (v ∷ []) i low))
            | inr high ↦
                let is : n + 0 ≡ i = omega (arith, high, less, first) in
                ap (λ (x : ℕ). at (t.ids ++ r v ∷ []) x) (f.past i high) ∙ at-right t.ids (r v ∷ []) n 0 i f.sized is
                ∙ ap r (sym (at-right s.ids (v ∷ []) n 0 i refl is))
          ];
      next = f.next;
      twice = f.twice;
      above = f.above;
      types = f.types;
      apart = f.apart;
      groups = f.groups;
    }

-- what an optional value was made of
pub option-from : {X Y : Type 0} (f : X → Y) (o : Option X) (y : Y) → option_map f o ≡ Some y → (x : X) × (o ≡ Some x) × (y ≡ f x)
option-from f None y is = absurd cc
option-from f (Some x) y is = let e : y ≡ f x = cc in (x, refl, e)

-- a type that passes the test on the right comes from one that does on the left
passes-back : (r turn : ℕ → ℕ) (s t : Parsed) (kind : Kind) (w : ℕ) (y : Item) → Follows r turn s t → type_at t.table w ≡ Some y
    → merges (renamed_kind r kind) (w, y) ≡ true → (x : Item) × (type_at s.table (r w) ≡ Some x) × (merges kind (r w, x) ≡ true)
passes-back r turn s t kind w y f at_w passes =
    let from = option-from (renamed_item r) (type_at s.table (r w)) y (sym (f.types (r w)) ∙ ap (λ (i : ℕ). type_at t.table i) (f.twice w) ∙ at_w) in (
      from.0,
      from.1,
      sym (merges-alike r f.twice kind (r w) from.0)
          ∙ ap (λ (i : ℕ). merges (renamed_kind r kind) (i, renamed_item r from.0)) (f.twice w)
          ∙ ap (λ (z : Item). merges (renamed_kind r kind) (w, z)) (sym from.2) ∙ passes,
    )

live-forth : (r turn : ℕ → ℕ) (s t : Parsed) (v : ℕ) (x : Item) → Follows r turn s t → type_at s.table v ≡ Some x → type_at t.table (r v) ≡ Some (renamed_item r x)
live-forth r turn s t v x f at_v = f.types v ∙ ap (λ (o : Option Item). option_map (renamed_item r) o) at_v

one-kind : (kind : Kind) (v : ℕ) (x : Item) → merges kind (v, x) ≡ true → x.kind ≡ kind
one-kind kind v x passes = (same-kind-law x.kind kind).0 (and_parts (same_kind x.kind kind) (not (names_itself v x.kind)) passes).0

-- what is found on the right is what is found on the left, renamed
latest-follows : (r turn : ℕ → ℕ) (s t : Parsed) (kind : Kind) (o p : Option ℕ) → Follows r turn s t
    → MatchOption o ((id : ℕ) (item : Item) → type_at s.table id ≡ Some item → merges kind (id, item) ≡ false) (IsLatest (merges kind) s.table)
    → MatchOption p ((id : ℕ) (item : Item) → type_at t.table id ≡ Some item → merges (renamed_kind r kind) (id, item) ≡ false) (IsLatest (merges (renamed_kind r kind)) t.table)
    → p ≡ option_map r o
latest-follows r turn s t kind None None f a b = refl
latest-follows r turn s t kind None (Some w) f a b =
    let from = passes-back r turn s t kind w b.item f b.live b.passes in
    let wrong : true ≡ false = sym from.2 ∙ a (r w) from.0 from.1 in
    absurd cc
latest-follows r turn s t kind (Some v) None f a b =
    let wrong : true ≡ false = sym (merges-alike r f.twice kind v a.item ∙ a.passes) ∙ b (r v) (renamed_item r a.item) (live-forth r turn s t v a.item f a.live) in
    absurd cc
latest-follows r turn s t kind (Some v) (Some w) f a b =
    let from = passes-back r turn s t kind w b.item f b.live b.passes in
    let same : w ≡ r v =
    elim (cases_order (r w) v) as (λ _. w ≡ r v) [
      | inl e ↦ sym (f.twice w) ∙ ap r e
      | inr other ↦ elim other as (λ _. w ≡ r v) [
        | inl below ↦ elim (cases_order w (r v)) as (λ _. w ≡ r v) [
          | inl e ↦ e
          | inr far ↦ elim far as (λ _. w ≡ r v) [
            | inl low ↦
                let wrong : true ≡ false =
                sym (merges-alike r f.twice kind v a.item ∙ a.passes) ∙ b.latest (r v) (renamed_item r a.item) low (live-forth r turn s t v a.item f a.live) in
                absurd cc
            | inr high ↦ absurd (f.apart (r w) v from.0 a.item below (omega (arith, high, f.twice w)) from.1 a.live
                (one-kind kind (r w) from.0 from.2 ∙ sym (one-kind kind v a.item a.passes)))
          ]
        ]
        | inr above ↦
            let wrong : true ≡ false = sym from.2 ∙ a.latest (r w) from.0 above from.1 in
            absurd cc
      ]
    ] in
    ap Some same

equal-follows : (r turn : ℕ → ℕ) (s t : Parsed) (kind : Kind) → Follows r turn s t → equal_type (renamed_kind r kind) t.table ≡ option_map r (equal_type kind s.table)
equal-follows r turn s t kind f =
    let one : Option ℕ = latest_id (merges kind) s.table in
    let other : Option ℕ = latest_id (merges (renamed_kind r kind)) t.table in
    let names : names_itself (next_id t.table) (renamed_kind r kind) ≡ names_itself (next_id s.table) kind =
    ap (λ (n : ℕ). names_itself n (renamed_kind r kind)) (f.next ∙ sym (f.above (next_id s.table) (omega arith))) ∙ itself-alike r f.twice (next_id s.table) kind in
    let push : (b : Bool) → cond b None (option_map r one) ≡ option_map r (cond b None one) = elim [ true ↦ refl | false ↦ refl ] in
    ap (λ (b : Bool). cond b None other) names
    ∙ ap (λ (o : Option ℕ). cond (names_itself (next_id s.table) kind) None o)
    (latest-follows r turn s t kind one other f (latest-law s.table (merges kind)) (latest-law t.table (merges (renamed_kind r kind))))
    ∙ push (names_itself (next_id s.table) kind)

-- a single type more
merged-follows : (r turn : ℕ → ℕ) (s t : Parsed) (kind : Kind) (o p : Option ℕ) → Follows r turn s t → p ≡ option_map r o
    → Follows r turn (merged o kind s) (merged p (renamed_kind r kind) t)
merged-follows r turn s t kind None p f is =
    subst (λ (q : Option ℕ). Follows r turn (merged None kind s) (merged q (renamed_kind r kind) t)) (sym is) (grown-follows r turn s t false (kind ∷ []) f)
merged-follows r turn s t kind (Some v) p f is =
    subst (λ (q : Option ℕ). Follows r turn (merged (Some v) kind s) (merged q (renamed_kind r kind) t)) (sym is) (joined-follows r turn s t v f)

added-follows : (r turn : ℕ → ℕ) (s t : Parsed) (marked : Bool) (kinds : List Kind) → Follows r turn s t
    → Follows r turn (added marked kinds s) (added marked (map (renamed_kind r) kinds) t)
added-follows r turn s t true kinds f = grown-follows r turn s t true kinds f
added-follows r turn s t false [] f = grown-follows r turn s t true [] f
added-follows r turn s t false (kind ∷ []) f =
    merged-follows r turn s t kind (equal_type kind s.table) (equal_type (renamed_kind r kind) t.table) f (equal-follows r turn s t kind f)
added-follows r turn s t false (kind ∷ second ∷ rest) f = grown-follows r turn s t true (kind ∷ second ∷ rest) f

-- the kinds of a group, with ids for their names
kinds-follow : (f g r turn : ℕ → ℕ) (n : ℕ) → ((m : ℕ) → m < n → g (turn m) ≡ r (f m)) → (ks : List Kind) → All (KindBelow n) ks
    → map (renamed_kind g) (map (renamed_kind turn) ks) ≡ map (renamed_kind r) (map (renamed_kind f) ks)
kinds-follow f g r turn n each [] below = refl
kinds-follow f g r turn n each (k ∷ ks) below =
    let here : renamed_kind g (renamed_kind turn k) ≡ renamed_kind r (renamed_kind f k) =
    kinds-twice turn g k
    ∙ kinds-agree (λ m. g (turn m)) (λ m. r (f m)) k (λ m i. each m (kinds-below k n (All-head (KindBelow n) k ks below) m i))
    ∙ sym (kinds-twice f r k) in
    ap (λ (x : Kind). x ∷ map (renamed_kind g) (map (renamed_kind turn) ks)) here
    ∙ ap (λ (xs : List Kind). renamed_kind r (renamed_kind f k) ∷ xs) (kinds-follow f g r turn n each ks (All-tail (KindBelow n) k ks below))

group-follows : (r turn : ℕ → ℕ) (s t : Parsed) (g : TypeGroup) → Follows r turn s t → All (KindBelow (length s.ids + length g.kinds)) g.kinds
    → Follows r turn (parsed_group g s) (parsed_group (renamed_types turn g) t)
group-follows r turn s t g f below =
    let other : TypeGroup = renamed_types turn g in
    let both = grown-follows r turn s t g.marked g.kinds f in
    let counts : length (map (renamed_kind r) g.kinds) ≡ length other.kinds = length-map g.kinds (renamed_kind r) ∙ sym (length-map g.kinds (renamed_kind turn)) in
    let total : length (s.ids ++ range_with_len (next_id s.table) (length g.kinds)) ≡ length s.ids + length g.kinds =
    omega (arith, length-append s.ids (range_with_len (next_id s.table) (length g.kinds)), length-range_with_len (next_id s.table) (length g.kinds)) in
    let known : (m : ℕ) → m < length s.ids + length g.kinds → at (known_ids other t) (turn m) ≡ r (at (known_ids g s) m) =
    λ m less.
    ap (λ (c : ℕ). at (t.ids ++ range_with_len (next_id t.table) c) (turn m)) (sym counts) ∙ both.ids m (omega (arith, less, total)) in
    let kinds : map (renamed_kind (at (known_ids other t))) other.kinds ≡ map (renamed_kind r) (map (renamed_kind (at (known_ids g s))) g.kinds) =
    kinds-follow (at (known_ids g s)) (at (known_ids other t)) r turn (length s.ids + length g.kinds) known g.kinds below in
    subst (λ (ks : List Kind). Follows r turn (parsed_group g s) (added g.marked ks t)) (sym kinds)
    (added-follows r turn s t g.marked (map (renamed_kind (at (known_ids g s))) g.kinds) f)

pub section-follows : (r turn : ℕ → ℕ) (gs : List TypeGroup) (s t : Parsed) → Follows r turn s t → AreBelow (length s.ids) gs
    → Follows r turn (parsed gs s) (parsed (map (renamed_types turn) gs) t)
section-follows r turn [] s t f below = f
section-follows r turn (g ∷ gs) s t f below =
    section-follows r turn gs (parsed_group g s) (parsed_group (renamed_types turn g) t) (group-follows r turn s t g f below.0)
    (subst (λ (n : ℕ). AreBelow n gs) (sym (group-sized g s)) below.1)
