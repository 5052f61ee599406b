-- Lemmas: tables of types that grow, and what their groups mean.
use Rattle.std.proofs.Common.{◌≡◌, ◌∙◌, ℕ, ◌+◌, ◌<◌, Bool, true, false, not, ◌||◌, ◌&&◌, List, [], ◌∷◌, ◌++◌, length, map, filter, Option, Some, None, refl, sym, ap, subst, arith}
use Rattle.std.specs.Prelude.{MatchOption, slice_index_or, if◌then◌else◌}
use Rattle.std.specs.List.{AllByRecursion, flat_map}
use Rattle.std.specs.Option.{is_none, option_map, option_or}
use Rattle.std.proofs.lemmas.List.{length-append, append_assoc, append-nil, map-append}
use Rattle.std.proofs.lemmas.List.Elements.{filter-append}
use Rattle.std.proofs.lemmas.List.Folds.{list_any-append}
use Rattle.walrus_arena.specs.Arena.{entries_from}
use Rattle.walrus_forms.specs.declared.value.ValType.{ValType}
use Rattle.walrus_forms.specs.Kinds.{Kind, entry_kind, function_kind}
use Rattle.walrus_forms.specs.Records.{TypeGroup}
use Rattle.walrus_forms.specs.Same.{same_kind}
use Rattle.walrus_forms.proofs.EqLemmas.{same-kind-law}
use Rattle.walrus_function_types.proofs.GrowthLemmas.{front}
use Rattle.walrus_body_laws.specs.walrus_pairing.walrus_instr.BlockTypes.{Makes, picked, short_form}
use Rattle.walrus_body_laws.specs.walrus_pairing.walrus_instr.declared.seq.InstrSeqType.{InstrSeqType}
use Rattle.walrus_body_laws.specs.walrus_pairing.walrus_instr.declared.seq.InstrSeqType.TheVariants.{MultiValue}
use Rattle.walrus_named_bodies.specs.walrus_file_bodies.walrus_items_into.walrus_module_bodies.walrus_body_trees.walrus_meaning.Meaning.{group_kinds, has_kinds, own_groups, plain_kind}
use Rattle.walrus_named_bodies.specs.walrus_item_names.walrus_module.walrus_types.Items.{Group, Item}
use Rattle.walrus_named_bodies.specs.walrus_item_names.walrus_module.walrus_types.Table.{Adds, Merges, Table, equal_type, found_type, latest_in, next_id, type_at}
use Rattle.walrus_named_bodies.proofs.walrus_handler_types.Growing.{equal_none, latest_push}
use Rattle.walrus_parse_laws.specs.Added.{Signature, added, is_missing, kind_of, single}
use Rattle.walrus_parse_laws.proofs.OnceLemmas.{added_more, has}

-- ---- groups by slots

-- the live groups, where types of ids are so
abbrev pub seen : (ℕ → Option Item) → List (Option Group) → List TypeGroup
seen f [] = []
seen f (None ∷ gs) = seen f gs
seen f (Some g ∷ gs) = record { marked = g.explicit; kinds = flat_map (λ id. plain_kind (f id)) g.types } ∷ seen f gs

map_is : (t : Table) (id : ℕ) (gs : List (Option Group)) → map (λ (e : ℕ × Group). group_kinds t e.1) (entries_from id gs) ≡ seen (type_at t) gs
map_is t id [] = refl
map_is t id (None ∷ gs) = map_is t (id + 1) gs
map_is t id (Some g ∷ gs) = ap (λ (l : List TypeGroup). group_kinds t g ∷ l) (map_is t (id + 1) gs)

pub own_is : (t : Table) → own_groups t ≡ filter has_kinds (seen (type_at t) t.groups)
own_is t = ap (λ (l : List TypeGroup). filter has_kinds l) (map_is t 0 t.groups)

seen_both : (f : ℕ → Option Item) (a b : List (Option Group)) → seen f (a ++ b) ≡ seen f a ++ seen f b
seen_both f [] b = refl
seen_both f (None ∷ a) b = seen_both f a b
seen_both f (Some g ∷ a) b = ap (λ (l : List TypeGroup). record { marked = g.explicit; kinds = flat_map (λ id. plain_kind (f id)) g.types } ∷ l) (seen_both f a b)

-- it holds of each member of these groups
abbrev pub Members : (ℕ → Type 0) → List (Option Group) → Type 0
Members P [] = Unit {0}
Members P (None ∷ gs) = Members P gs
Members P (Some g ∷ gs) = AllByRecursion P g.types × Members P gs

all_later : (P Q : ℕ → Type 0) → ((id : ℕ) → P id → Q id) → (ids : List ℕ) → AllByRecursion P ids → AllByRecursion Q ids
all_later P Q f [] h = tt
all_later P Q f (id ∷ ids) h = (f id h.0, all_later P Q f ids h.1)

pub members_later : (P Q : ℕ → Type 0) → ((id : ℕ) → P id → Q id) → (gs : List (Option Group)) → Members P gs → Members Q gs
members_later P Q f [] h = tt
members_later P Q f (None ∷ gs) h = members_later P Q f gs h
members_later P Q f (Some g ∷ gs) h = (all_later P Q f g.types h.0, members_later P Q f gs h.1)

pub members_both : (P : ℕ → Type 0) (a b : List (Option Group)) → Members P a → Members P b → Members P (a ++ b)
members_both P [] b h k = k
members_both P (None ∷ a) b h k = members_both P a b h k
members_both P (Some g ∷ a) b h k = (h.0, members_both P a b h.1 k)

kinds_same : (f g : ℕ → Option Item) (ids : List ℕ) → AllByRecursion (λ id. plain_kind (f id) ≡ plain_kind (g id)) ids → flat_map (λ id. plain_kind (f id)) ids ≡ flat_map (λ id. plain_kind (g id)) ids
kinds_same f g [] h = refl
kinds_same f g (id ∷ ids) h =
    ap (λ (l : List Kind). l ++ flat_map (λ id. plain_kind (f id)) ids) h.0 ∙ ap (λ (l : List Kind). plain_kind (g id) ++ l) (kinds_same f g ids h.1)

-- what their members are seen as is all that is seen of groups
pub seen_same : (f g : ℕ → Option Item) (gs : List (Option Group)) → Members (λ id. plain_kind (f id) ≡ plain_kind (g id)) gs → seen f gs ≡ seen g gs
seen_same f g [] h = refl
seen_same f g (None ∷ gs) h = seen_same f g gs h
seen_same f g (Some x ∷ gs) h =
    ap (λ (l : List Kind). let y : TypeGroup = record { marked = x.explicit; kinds = l } in y ∷ seen f gs) (kinds_same f g x.types h.0)
    ∙ ap (λ (l : List TypeGroup). let y : TypeGroup = record { marked = x.explicit; kinds = flat_map (λ id. plain_kind (g id)) x.types } in y ∷ l) (seen_same f g gs h.1)

-- each member was given out
abbrev pub IsClosed : Table → Type 0
IsClosed t = Members (λ id. id < next_id t) t.groups

-- ---- one more type

last_is : (xs : List (Option Item)) (x : Item) → slice_index_or (xs ++ Some x ∷ []) (length xs) None ≡ Some x
last_is [] x = refl
last_is (y ∷ xs) x = last_is xs x

module _ (kind : Kind) (id : ℕ) (t u : Table) (adds : Adds kind id t u) where
  abbrev pub item : Item
  item = record { id = id; kind = kind; name = None }

  as_before : (k : ℕ) → k < next_id t → type_at u k ≡ type_at t k
  as_before k lt = ap (λ (l : List (Option Item)). slice_index_or l k None) adds.types ∙ front t.types (Some item ∷ []) k lt

  own_type : type_at u id ≡ Some item
  own_type = ap (type_at u) adds.given ∙ ap (λ (l : List (Option Item)). slice_index_or l (length t.types) None) adds.types ∙ last_is t.types item

  more : next_id u ≡ next_id t + 1
  more = ap length adds.types ∙ length-append t.types (Some item ∷ [])

  pub closed_on : IsClosed t → IsClosed u
  closed_on h = subst (Members (λ k. k < next_id u)) (sym adds.groups)
      (members_both (λ k. k < next_id u) t.groups (Some (record { explicit = false; types = id ∷ [] }) ∷ [])
      (members_later (λ k. k < next_id t) (λ k. k < next_id u) (λ k lt. let e = more in omega (arith, lt, e)) t.groups h)
      (((let g = adds.given in let e = more in omega (arith, g, e)), tt), tt))

  -- the groups that there were, and the type alone, unless it is an entry type
  pub groups_on : IsClosed t → own_groups u ≡ own_groups t ++ filter has_kinds (record { marked = false; kinds = plain_kind (Some item) ++ [] } ∷ [])
  groups_on h =
      own_is u
      ∙ ap (λ (gs : List (Option Group)). filter has_kinds (seen (type_at u) gs)) adds.groups
      ∙ ap (λ (l : List TypeGroup). filter has_kinds l) (seen_both (type_at u) t.groups (Some (record { explicit = false; types = id ∷ [] }) ∷ []))
      ∙ filter-append has_kinds (seen (type_at u) t.groups) (record { marked = false; kinds = plain_kind (type_at u id) ++ [] } ∷ [])
      ∙ ap (λ (o : Option Item). filter has_kinds (seen (type_at u) t.groups) ++ filter has_kinds (record { marked = false; kinds = plain_kind o ++ [] } ∷ [])) own_type
      ∙ ap (λ (l : List TypeGroup). filter has_kinds l ++ filter has_kinds (record { marked = false; kinds = plain_kind (Some item) ++ [] } ∷ []))
      (seen_same (type_at u) (type_at t) t.groups (members_later (λ k. k < next_id t) (λ k. plain_kind (type_at u k) ≡ plain_kind (type_at t k)) (λ k lt. ap plain_kind (as_before k lt)) t.groups h))
      ∙ ap (λ (l : List TypeGroup). l ++ filter has_kinds (record { marked = false; kinds = plain_kind (Some item) ++ [] } ∷ [])) (sym (own_is t))

  -- it is found where it is looked for
  pub found_on : (ps rs : List ValType) → found_type ps rs u ≡ (if same_kind kind (function_kind ps rs) then Some id else found_type ps rs t)
  found_on ps rs =
      ap (λ (l : List (Option Item)). latest_in test None (entries_from 0 l)) adds.types ∙ latest_push test 0 t.types item None id (let g = adds.given in omega (arith, g))
    where
      test : ℕ × Item → Bool
      test e = same_kind e.1.kind (function_kind ps rs)

-- ---- where nothing is found, a type of these lists is added

none_of : (o : Option InstrSeqType) (a : Option ℕ) → option_or o (option_map MultiValue a) ≡ None → (o ≡ None) × (a ≡ None)
none_of (Some s) a h = absurd cc
none_of None (Some id) h = absurd cc
none_of None None h = (refl, refl)

pub made_adds : (ps rs : List ValType) (ty : InstrSeqType) (t u : Table) → picked ps rs t ≡ None → Makes ps rs ty t u → (id : ℕ) × Adds (function_kind ps rs) id t u
made_adds ps rs ty t u none makes =
    let both = none_of (short_form ps rs) (found_type ps rs t) none in
    let m = subst (λ (o : Option InstrSeqType). MatchOption o ((id : ℕ) × (ty ≡ MultiValue id) × Merges (function_kind ps rs) id t u) (λ short. (ty ≡ short) × (u ≡ t))) both.0 makes in
    (m.0, subst (λ (o : Option ℕ). MatchOption o (Adds (function_kind ps rs) m.0 t u) (λ found. (m.0 ≡ found) × (u ≡ t))) (equal_none (function_kind ps rs) t both.1) m.2)

-- ---- what stands of a table to which types were added

-- to a table t those were added that these lack in it
pub record Stands (t : Table) (ss : List Signature) (u : Table) : Type 0 where
  pub closed : IsClosed u
  pub groups : own_groups u ≡ own_groups t ++ map single (added t ss)
  pub missing : (s : Signature) → is_missing u s ≡ (is_missing t s && not (has (added t ss) (kind_of s)))

pub stands_first : (t : Table) → IsClosed t → Stands t [] t
stands_first t h = record { closed = h; groups = sym (append-nil (own_groups t)); missing = λ s. same (is_missing t s) }
  where
    same : (b : Bool) → b ≡ (b && not false)
    same true = refl
    same false = refl

entry_other : (results ps rs : List ValType) (c : Bool) → same_kind (entry_kind results) (function_kind ps rs) ≡ c → c ≡ false
entry_other results ps rs false e = refl
entry_other results ps rs true e = absurd (let is = ap (λ (k : Kind). k.entry) ((same-kind-law (entry_kind results) (function_kind ps rs)).0 e) in cc)

-- an entry type isn't seen
pub stands_entered : (t : Table) (ss : List Signature) (u : Table) → Stands t ss u → (results : List ValType) (id : ℕ) (v : Table) → Merges (entry_kind results) id u v → Stands t ss v
stands_entered t ss u h results id v m = go (equal_type (entry_kind results) u) m
  where
    go : (o : Option ℕ) → MatchOption o (Adds (entry_kind results) id u v) (λ found. (id ≡ found) × (v ≡ u)) → Stands t ss v
    go (Some found) e = subst (Stands t ss) (sym e.1) h
    go None adds = record {
      closed = closed_on (entry_kind results) id u v adds h.closed;
      groups = groups_on (entry_kind results) id u v adds h.closed ∙ append-nil (own_groups u) ∙ h.groups;
      missing = λ s.
          ap (λ (o : Option ℕ). is_none (option_or (short_form s.params s.results) (option_map MultiValue o)))
          (found_on (entry_kind results) id u v adds s.params s.results ∙ ap (λ (c : Bool). if c then Some id else found_type s.params s.results u) (entry_other results s.params s.results _ refl))
          ∙ h.missing s;
    }

-- ---- one more signature

module _ (t : Table) (ss : List Signature) (u : Table) (h : Stands t ss u) (s : Signature) where
  abbrev was : List Kind
  was = added t ss

  abbrev now : List Kind
  now = added t (ss ++ s ∷ [])

  -- it isn't missing
  stands_same : is_missing u s ≡ false → Stands t (ss ++ s ∷ []) u
  stands_same there = record {
    closed = h.closed;
    groups = h.groups ∙ ap (λ (ks : List Kind). own_groups t ++ map single ks) (sym same);
    missing = λ x. h.missing x ∙ ap (λ (ks : List Kind). is_missing t x && not (has ks (kind_of x))) (sym same);
  }
    where
      same : now ≡ was
      same = added_more t ss s ∙ ap (λ (c : Bool). if c then was ++ kind_of s ∷ [] else was) (sym (h.missing s) ∙ there)

  short_or : (o : Option InstrSeqType) (c : Bool) (id : ℕ) (a : Option ℕ)
      → is_none (option_or o (option_map MultiValue (if c then Some id else a))) ≡ (if c then false else is_none (option_or o (option_map MultiValue a)))
  short_or (Some x) true id a = refl
  short_or (Some x) false id a = refl
  short_or None true id a = refl
  short_or None false id a = refl

  joined : (b c d : Bool) → (if d then false else (b && not c)) ≡ (b && not (c || (d || false)))
  joined true true true = refl
  joined true true false = refl
  joined true false true = refl
  joined true false false = refl
  joined false true true = refl
  joined false true false = refl
  joined false false true = refl
  joined false false false = refl

  -- it is missing, and is added
  stands_more : is_missing u s ≡ true → (id : ℕ) (v : Table) → Adds (kind_of s) id u v → Stands t (ss ++ s ∷ []) v
  stands_more lacks id v adds = record {
    closed = closed_on (kind_of s) id u v adds h.closed;
    groups = groups_on (kind_of s) id u v adds h.closed
        ∙ ap (λ (l : List TypeGroup). l ++ single (kind_of s) ∷ []) h.groups
        ∙ append_assoc (own_groups t) (map single was) (single (kind_of s) ∷ [])
        ∙ ap (λ (l : List TypeGroup). own_groups t ++ l) (sym (map-append single was (kind_of s ∷ [])))
        ∙ ap (λ (ks : List Kind). own_groups t ++ map single ks) (sym grown);
    missing = λ x.
        ap (λ (o : Option ℕ). is_none (option_or (short_form x.params x.results) (option_map MultiValue o))) (found_on (kind_of s) id u v adds x.params x.results)
        ∙ short_or (short_form x.params x.results) (same_kind (kind_of s) (kind_of x)) id (found_type x.params x.results u)
        ∙ ap (λ (b : Bool). if same_kind (kind_of s) (kind_of x) then false else b) (h.missing x)
        ∙ joined (is_missing t x) (has was (kind_of x)) (same_kind (kind_of s) (kind_of x))
        ∙ ap (λ (b : Bool). is_missing t x && not b) (sym (list_any-append (λ other. same_kind other (kind_of x)) was (kind_of s ∷ [])))
        ∙ ap (λ (ks : List Kind). is_missing t x && not (has ks (kind_of x))) (sym grown);
  }
    where
      grown : now ≡ was ++ kind_of s ∷ []
      grown = added_more t ss s ∙ ap (λ (c : Bool). if c then was ++ kind_of s ∷ [] else was) (sym (h.missing s) ∙ lacks)

  -- the block type is found, or is added
  pub stands_found : (ty : InstrSeqType) (v : Table) → MatchOption (picked s.params s.results u) (Makes s.params s.results ty u v) (λ found. (ty ≡ found) × (v ≡ u)) → Stands t (ss ++ s ∷ []) v
  stands_found ty v = go (picked s.params s.results u) refl
    where
      go : (o : Option InstrSeqType) → picked s.params s.results u ≡ o → MatchOption o (Makes s.params s.results ty u v) (λ found. (ty ≡ found) × (v ≡ u)) → Stands t (ss ++ s ∷ []) v
      go (Some found) e f = subst (Stands t (ss ++ s ∷ [])) (sym f.1) (stands_same (ap is_none e))
      go None e f = let m = made_adds s.params s.results ty u v e f in stands_more (ap is_none e) m.0 v m.1
