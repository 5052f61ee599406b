-- What the walk of a tree tells is named by the body.
use Rattle.std.proofs.Common.{◌≡◌, ◌∙◌, ◌⊎◌, ℕ, zero, suc, List, [], ◌∷◌, ◌++◌, Option, Some, None, Contains, map, length, refl, sym, ap, subst, inl, inr}
use Rattle.std.specs.Prelude.{slice_get, nat_eq, if◌then◌else◌}
use Rattle.std.specs.List.{flat_map}
use Rattle.std.proofs.lemmas.Bool.{ne_eqb}
use Rattle.std.proofs.lemmas.Grind.{flat_map-append}
use Rattle.std.proofs.lemmas.List.Elements.{Contains-append_left, Contains-append_right, Contains-append_cases}
use Rattle.wasm_formats.specs.declared.fault.Space.{Space}
use Rattle.wasm_formats.specs.declared.fault.Space.TheVariants as spaces
use Rattle.walrus_instr.specs.declared.instr.Instr.{Instr}
use Rattle.walrus_instr.specs.declared.seq.InstrLocId.{InstrLocId}
use Rattle.walrus_instr.specs.declared.seq.InstrSeq.{InstrSeq}
use Rattle.walrus_walks.specs.Tree.{children, children_in}
use Rattle.walrus_walks.specs.Events.{Event, EndOf, names, block_names, events_of}
use Rattle.walrus_walks.specs.Walk.{of_items, of_seq, walk_within, walk, body_walk}
use Rattle.walrus_tree.specs.Trees.{Has, Trees, Nothing, Tree, ids, Stand, IsTree}
use Rattle.walrus_roots.specs.declared.item.Item.{Item}
use Rattle.walrus_roots.specs.Items.{item}
use Rattle.walrus_marks.specs.Chains.{Chain, root, refers}
use Rattle.walrus_marks.specs.Named.{event_items, items_of}
use Rattle.walrus_passes.specs.walrus_refusals.walrus_used.walrus_references.References.{BodyNames, Reaches, Holds, IsEntry, held, held_in, instr_items, seq_items, known_items}
use Rattle.walrus_passes.proofs.walrus_used.LooksLemmas.{none_in, first_in, cases_in, only_in}

-- ---- lists of ids
has_left : (a b : List ℕ) (c : ℕ) → Has a c → Has (a ++ b) c
has_left [] b c h = absurd h
has_left (k ∷ a) b c (inl e) = inl e
has_left (k ∷ a) b c (inr h) = inr (has_left a b c h)

has_right : (a b : List ℕ) (c : ℕ) → Has b c → Has (a ++ b) c
has_right [] b c h = h
has_right (k ∷ a) b c h = inr (has_right a b c h)

pub has_cases : (a b : List ℕ) (c : ℕ) → Has (a ++ b) c → Has a c ⊎ Has b c
has_cases [] b c h = inr h
has_cases (k ∷ a) b c (inl e) = inl (inl e)
has_cases (k ∷ a) b c (inr h) = elim (has_cases a b c h) as (λ _. Has (k ∷ a) c ⊎ Has b c) [ inl l ↦ inl (inr l) | inr r ↦ inr r ]

of_labels : (js : List ℕ) (y : Item) → Contains (map (item spaces.Label) js) y → (c : ℕ) × Has js c × (y ≡ item spaces.Label c)
of_labels [] y c = absurd (none_in y c)
of_labels (j ∷ js) y c = elim (cases_in (item spaces.Label j) (map (item spaces.Label) js) y c) as (λ _. (d : ℕ) × Has (j ∷ js) d × (y ≡ item spaces.Label d)) [
  | inl e ↦ (j, inl refl, sym e)
  | inr d ↦ (let h = of_labels js y d in (h.0, inr h.1, h.2))
]

to_labels : (js : List ℕ) (c : ℕ) → Has js c → Contains (map (item spaces.Label) js) (item spaces.Label c)
to_labels [] c h = absurd h
to_labels (j ∷ js) c (inl e) = subst (λ k. Contains (item spaces.Label j ∷ map (item spaces.Label) js) (item spaces.Label k)) e (first_in (item spaces.Label j) (map (item spaces.Label) js))
to_labels (j ∷ js) c (inr h) = Contains-append_right (item spaces.Label j ∷ []) (map (item spaces.Label) js) (item spaces.Label c) (to_labels js c h)

abbrev all_held : List (Instr × InstrLocId) → List Item
all_held is = flat_map (λ (i : Instr × InstrLocId). map (item spaces.Label) (children i.0)) is

pub of_held : (is : List (Instr × InstrLocId)) (y : Item) → Contains (all_held is) y → (c : ℕ) × Has (children_in is) c × (y ≡ item spaces.Label c)
of_held [] y c = absurd (none_in y c)
of_held (i ∷ is) y c = elim (Contains-append_cases (map (item spaces.Label) (children i.0)) (all_held is) y c) as (λ _. (d : ℕ) × Has (children_in (i ∷ is)) d × (y ≡ item spaces.Label d)) [
  | inl l ↦ (let h = of_labels (children i.0) y l in (h.0, has_left (children i.0) (children_in is) h.0 h.1, h.2))
  | inr r ↦ (let h = of_held is y r in (h.0, has_right (children i.0) (children_in is) h.0 h.1, h.2))
]

to_held : (is : List (Instr × InstrLocId)) (c : ℕ) → Has (children_in is) c → Contains (all_held is) (item spaces.Label c)
to_held [] c h = absurd h
to_held (i ∷ is) c h = elim (has_cases (children i.0) (children_in is) c h) as (λ _. Contains (all_held (i ∷ is)) (item spaces.Label c)) [
  | inl l ↦ Contains-append_left (map (item spaces.Label) (children i.0)) (all_held is) (item spaces.Label c) (to_labels (children i.0) c l)
  | inr r ↦ Contains-append_right (map (item spaces.Label) (children i.0)) (all_held is) (item spaces.Label c) (to_held is c r)
]

-- ---- trees
one_seq : (b : List InstrSeq) (k j : ℕ) (s t : InstrSeq) → k ≡ j → slice_get b k ≡ Some s → slice_get b j ≡ Some t → s ≡ t
one_seq b k j s t e p q = (let both : Some s ≡ Some t = sym p ∙ ap (slice_get b) e ∙ q in cc)

module _ (b : List InstrSeq) where
  roots_in : (t : Trees) (around ks : List ℕ) → Stand b t around ks → (c : ℕ) → Has ks c → Has (ids t) c
  roots_in Nothing around [] h c d = absurd d
  roots_in Nothing around (k ∷ ks) h c d = absurd h
  roots_in (Tree id inside beside) around [] h c d = absurd h
  roots_in (Tree id inside beside) around (k ∷ ks) h c (inl e) = inl (h.0 ∙ e)
  roots_in (Tree id inside beside) around (k ∷ ks) h c (inr d) = inr (has_right (ids inside) (ids beside) c (roots_in beside around ks h.5 c d))

  inner : (t : Trees) (around ks : List ℕ) → Stand b t around ks → (k : ℕ) → Has (ids t) k → (s : InstrSeq) → slice_get b k ≡ Some s → (c : ℕ) → Has (children_in s.instrs.items) c → Has (ids t) c
  inner Nothing around ks h k d s at c e = absurd d
  inner (Tree id inside beside) around [] h k d s at c e = absurd h
  inner (Tree id inside beside) around (j ∷ js) h k (inl same) s at c e =
      let seq : s ≡ h.1 = one_seq b k j s h.1 (sym same ∙ h.0) at h.2 in
      inr (has_left (ids inside) (ids beside) c (roots_in inside (j ∷ around) (children_in h.1.instrs.items) h.4 c (subst (λ (t : InstrSeq). Has (children_in t.instrs.items) c) seq e)))
  inner (Tree id inside beside) around (j ∷ js) h k (inr d) s at c e = elim (has_cases (ids inside) (ids beside) k d) as (λ _. Has (ids (Tree id inside beside)) c) [
    | inl l ↦ inr (has_left (ids inside) (ids beside) c (inner inside (j ∷ around) (children_in h.1.instrs.items) h.4 k l s at c e))
    | inr r ↦ inr (has_right (ids inside) (ids beside) c (inner beside around js h.5 k r s at c e))
  ]

  module _ (tree : IsTree b 0) where
    -- what a sequence of the tree holds is inside the first
    held_inside : (k : ℕ) → (k ≡ 0) ⊎ Has (ids tree.inside) k → (s : InstrSeq) → slice_get b k ≡ Some s → (c : ℕ) → Has (children_in s.instrs.items) c → Has (ids tree.inside) c
    held_inside k (inl e) s at c d =
        let seq : s ≡ tree.stands.1 = one_seq b k 0 s tree.stands.1 e at tree.stands.2 in
        roots_in tree.inside (0 ∷ []) (children_in tree.stands.1.instrs.items) tree.stands.4 c (subst (λ (t : InstrSeq). Has (children_in t.instrs.items) c) seq d)
    held_inside k (inr h) s at c d = inner tree.inside (0 ∷ []) (children_in tree.stands.1.instrs.items) tree.stands.4 k h s at c d

    step_inside : (k : ℕ) (o : Option InstrSeq) (y : Item) → slice_get b k ≡ o → (k ≡ 0) ⊎ Has (ids tree.inside) k → Contains (held o) y → (y.space ≡ spaces.Label) × Has (ids tree.inside) y.id
    step_inside k None y at there c = absurd (none_in y c)
    step_inside k (Some s) y at there c = (let h = of_held s.instrs.items y c in (ap (λ (z : Item). z.space) h.2, subst (Has (ids tree.inside)) (sym (ap (λ (z : Item). z.id) h.2)) (held_inside k there s at h.0 h.1)))

    all_inside : (x : Item) → Chain IsEntry (Holds b) x → (x.space ≡ spaces.Label) × ((x.id ≡ 0) ⊎ Has (ids tree.inside) x.id)
    all_inside x (root r) = (let e = only_in (item spaces.Label 0) x r in (sym (ap (λ (z : Item). z.space) e), inl (sym (ap (λ (z : Item). z.id) e))))
    all_inside y (refers {x} k r) =
        let before = all_inside x k in
        let h = step_inside x.id (slice_get b x.id) y refl before.1 (subst (λ (s : Space). Contains (held_in b s x.id) y) before.0 r) in
        (h.0, inr h.1)

    -- no reached sequence holds the body's own
    pub entry_alone : (k : ℕ) → Reaches b k → (s : InstrSeq) → slice_get b k ≡ Some s → (c : ℕ) → Has (children_in s.instrs.items) c → c ≡ 0 → ⊥
    entry_alone k reached s at c d e = tree.once.0 (has_left (ids tree.inside) [] 0 (subst (Has (ids tree.inside)) e (held_inside k (all_inside (item spaces.Label k) reached).1 s at c d)))

-- ---- walks
pub split : (a c : List Event) (y : Item) → Contains (items_of (a ++ c)) y → Contains (items_of a) y ⊎ Contains (items_of c) y
split a c y h = Contains-append_cases (items_of a) (items_of c) y (subst (λ (zs : List Item). Contains zs y) (flat_map-append event_items a c) h)

module _ (b : List InstrSeq) (alone : (k : ℕ) → Reaches b k → (s : InstrSeq) → slice_get b k ≡ Some s → (c : ℕ) → Has (children_in s.instrs.items) c → c ≡ 0 → ⊥) where
  -- what the walks of these tell is named
  abbrev Tells : (ℕ → List Event) → Type 0
  Tells w = (k : ℕ) → Reaches b k → (k ≡ 0 → ⊥) → (y : Item) → Contains (items_of (w k)) y → BodyNames b y

  module _ (w : ℕ → List Event) (tells : Tells w) (k : ℕ) (reached : Reaches b k) (s : InstrSeq) (at : slice_get b k ≡ Some s) where
    child : (c : ℕ) → Has (children_in s.instrs.items) c → Reaches b c
    child c h = refers reached (subst (λ (o : Option InstrSeq). Contains (held o) (item spaces.Label c)) (sym at) (to_held s.instrs.items c h))

    here : (y : Item) → Contains (seq_items k s) y → BodyNames b y
    here y c = (k, reached, subst (λ (o : Option InstrSeq). Contains (known_items k o) y) (sym at) c)

    kids : (cs : List ℕ) → ((c : ℕ) → Has cs c → Has (children_in s.instrs.items) c) → (y : Item) → Contains (items_of (events_of w cs)) y → BodyNames b y
    kids [] sub y h = absurd (none_in y h)
    kids (c ∷ cs) sub y h = elim (split (w c) (events_of w cs) y h) as (λ _. BodyNames b y) [
      | inl l ↦ (let there = sub c (inl refl) in tells c (child c there) (alone k reached s at c there) y l)
      | inr r ↦ kids cs (λ d e. sub d (inr e)) y r
    ]

    instrs_told : (is : List (Instr × InstrLocId)) → ((y : Item) → Contains (instr_items is) y → Contains (instr_items s.instrs.items) y) → ((c : ℕ) → Has (children_in is) c → Has (children_in s.instrs.items) c)
        → (y : Item) → Contains (items_of (of_items w is)) y → BodyNames b y
    instrs_told [] sub held_too y h = absurd (none_in y h)
    instrs_told (i ∷ is) sub held_too y h = elim (split (names i.0) (events_of w (children i.0) ++ of_items w is) y h) as (λ _. BodyNames b y) [
      | inl l ↦ here y (Contains-append_right (if nat_eq k 0 then [] else items_of (block_names s.ty)) (instr_items s.instrs.items) y (sub y (Contains-append_left (items_of (names i.0)) (instr_items is) y l)))
      | inr r ↦ elim (split (events_of w (children i.0)) (of_items w is) y r) as (λ _. BodyNames b y) [
        | inl l ↦ kids (children i.0) (λ c d. held_too c (has_left (children i.0) (children_in is) c d)) y l
        | inr t ↦ instrs_told is (λ z c. sub z (Contains-append_right (items_of (names i.0)) (instr_items is) z c)) (λ c d. held_too c (has_right (children i.0) (children_in is) c d)) y t
      ]
    ]

    pub body_told : (y : Item) → Contains (items_of (of_items w s.instrs.items ++ EndOf s ∷ [])) y → BodyNames b y
    body_told y h = elim (split (of_items w s.instrs.items) (EndOf s ∷ []) y h) as (λ _. BodyNames b y) [
      | inl l ↦ instrs_told s.instrs.items (λ z c. c) (λ c d. d) y l
      | inr r ↦ absurd (none_in y r)
    ]

    seq_told : (k ≡ 0 → ⊥) → (y : Item) → Contains (items_of (of_seq w (Some s))) y → BodyNames b y
    seq_told other y h = elim (split (block_names s.ty) (of_items w s.instrs.items ++ EndOf s ∷ []) y h) as (λ _. BodyNames b y) [
      | inl l ↦ here y (Contains-append_left (if nat_eq k 0 then [] else items_of (block_names s.ty)) (instr_items s.instrs.items) y (rw (ne_eqb k 0 other) l))
      | inr r ↦ body_told y r
    ]

  known_told : (w : ℕ → List Event) → Tells w → (k : ℕ) → Reaches b k → (k ≡ 0 → ⊥) → (o : Option InstrSeq) → slice_get b k ≡ o → (y : Item) → Contains (items_of (of_seq w o)) y → BodyNames b y
  known_told w tells k reached other None at y h = absurd (none_in y h)
  known_told w tells k reached other (Some s) at y h = seq_told w tells k reached s at other y h

  within_told : (n : ℕ) → Tells (walk_within b n)
  within_told zero k reached other y h = absurd (none_in y h)
  within_told (suc n) k reached other y h = known_told (walk_within b n) (within_told n) k reached other (slice_get b k) refl y h

  entry : Reaches b 0
  entry = root (first_in (item spaces.Label 0) [])

  -- what the walk of the body tells is named by it
  pub walk_named : (s : InstrSeq) → slice_get b 0 ≡ Some s → (y : Item) → Contains (items_of (body_walk b 0)) y → BodyNames b y
  walk_named s at y = rw at (λ h. body_told (walk b) (within_told (length b)) 0 entry s at y h)
