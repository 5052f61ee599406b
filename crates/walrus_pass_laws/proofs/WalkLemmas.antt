-- What a body names is told by the walk of its tree.
use Rattle.std.proofs.Common.{◌≡◌, ◌∙◌, ◌⊎◌, ℕ, All, List, [], ◌∷◌, ◌++◌, Option, Some, None, Contains, refl, sym, ap, subst, inl, inr}
use Rattle.std.specs.Prelude.{slice_get, nat_eq, if◌then◌else◌}
use Rattle.std.proofs.lemmas.Bool.{cases_eq, ne_eqb}
use Rattle.std.proofs.lemmas.Grind.{flat_map-append}
use Rattle.std.proofs.lemmas.List.Elements.{Contains-append_left, Contains-append_right, Contains-append_cases, All-head, All-tail}
use Rattle.wasm_formats.specs.declared.fault.Space.{Space}
use Rattle.wasm_formats.specs.declared.fault.Space.TheVariants as spaces
use Rattle.walrus_instr.specs.declared.instr.Instr.{Instr}
use Rattle.walrus_instr.specs.declared.seq.InstrLocId.{InstrLocId}
use Rattle.walrus_instr.specs.declared.seq.InstrSeq.{InstrSeq}
use Rattle.walrus_walks.specs.Tree.{children, children_in, IsNested}
use Rattle.walrus_walks.specs.Events.{Event, EndOf, names, block_names, events_of}
use Rattle.walrus_walks.specs.Walk.{of_items, walk, body_walk}
use Rattle.walrus_walks.specs.Plain.{HeldAreNested, WalkIsPlain}
use Rattle.walrus_tree.specs.Trees.{Has}
use Rattle.walrus_roots.specs.declared.item.Item.{Item}
use Rattle.walrus_roots.specs.Items.{item}
use Rattle.walrus_marks.specs.Chains.{Chain, root, refers}
use Rattle.walrus_marks.specs.Named.{event_items, items_of}
use Rattle.walrus_passes.specs.walrus_refusals.walrus_used.walrus_references.References.{BodyNames, Holds, IsEntry, held, held_in, instr_items, seq_items, known_items}
use Rattle.walrus_passes.proofs.walrus_used.LooksLemmas.{none_in, only_in}
use Rattle.walrus_pass_laws.proofs.BodyLemmas.{has_cases, of_held}

-- what two lists of events tell together
pub join_left : (a c : List Event) (y : Item) → Contains (items_of a) y → Contains (items_of (a ++ c)) y
join_left a c y h = subst (λ (zs : List Item). Contains zs y) (sym (flat_map-append event_items a c)) (Contains-append_left (items_of a) (items_of c) y h)

pub join_right : (a c : List Event) (y : Item) → Contains (items_of c) y → Contains (items_of (a ++ c)) y
join_right a c y h = subst (λ (zs : List Item). Contains zs y) (sym (flat_map-append event_items a c)) (Contains-append_right (items_of a) (items_of c) y h)

of_all : (P : ℕ → Type 0) (ks : List ℕ) → All P ks → (c : ℕ) → Has ks c → P c
of_all P [] all c h = absurd h
of_all P (k ∷ ks) all c (inl e) = subst P e (All-head P k ks all)
of_all P (k ∷ ks) all c (inr h) = of_all P ks (All-tail P k ks all) c h

module _ (w : ℕ → List Event) where
  one_walk : (cs : List ℕ) (c : ℕ) → Has cs c → (y : Item) → Contains (items_of (w c)) y → Contains (items_of (events_of w cs)) y
  one_walk [] c h y d = absurd h
  one_walk (k ∷ cs) c (inl e) y d = join_left (w k) (events_of w cs) y (subst (λ j. Contains (items_of (w j)) y) (sym e) d)
  one_walk (k ∷ cs) c (inr h) y d = join_right (w k) (events_of w cs) y (one_walk cs c h y d)

  -- what is held is told in the walk of the instructions, and so is what they name
  child_told : (is : List (Instr × InstrLocId)) (c : ℕ) → Has (children_in is) c → (y : Item) → Contains (items_of (w c)) y → Contains (items_of (of_items w is)) y
  child_told [] c h y d = absurd h
  child_told (i ∷ is) c h y d = join_right (names i.0) (events_of w (children i.0) ++ of_items w is) y (elim (has_cases (children i.0) (children_in is) c h) as (λ _. Contains (items_of (events_of w (children i.0) ++ of_items w is)) y) [
    | inl l ↦ join_left (events_of w (children i.0)) (of_items w is) y (one_walk (children i.0) c l y d)
    | inr r ↦ join_right (events_of w (children i.0)) (of_items w is) y (child_told is c r y d)
  ])

  named_told : (is : List (Instr × InstrLocId)) (y : Item) → Contains (instr_items is) y → Contains (items_of (of_items w is)) y
  named_told [] y c = absurd (none_in y c)
  named_told (i ∷ is) y c = elim (Contains-append_cases (items_of (names i.0)) (instr_items is) y c) as (λ _. Contains (items_of (of_items w (i ∷ is))) y) [
    | inl l ↦ join_left (names i.0) (events_of w (children i.0) ++ of_items w is) y l
    | inr r ↦ join_right (names i.0) (events_of w (children i.0) ++ of_items w is) y (join_right (events_of w (children i.0)) (of_items w is) y (named_told is y r))
  ]

module _ (plain : WalkIsPlain) (nested : HeldAreNested) (b : List InstrSeq) (first : InstrSeq) (at : slice_get b 0 ≡ Some first) (begins : IsNested b 0) where
  -- the walk of a nested sequence tells what its instructions do, and its block type
  inside : (k : ℕ) (s : InstrSeq) → IsNested b k → slice_get b k ≡ Some s → (y : Item) → Contains (items_of (of_items (walk b) s.instrs.items)) y → Contains (items_of (walk b k)) y
  inside k s n is y c = subst (λ (es : List Event). Contains (items_of es) y) (sym (plain b k s n is)) (join_right (block_names s.ty) (of_items (walk b) s.instrs.items ++ EndOf s ∷ []) y (join_left (of_items (walk b) s.instrs.items) (EndOf s ∷ []) y c))

  its_type : (k : ℕ) (s : InstrSeq) → IsNested b k → slice_get b k ≡ Some s → (y : Item) → Contains (items_of (block_names s.ty)) y → Contains (items_of (walk b k)) y
  its_type k s n is y c = subst (λ (es : List Event). Contains (items_of es) y) (sym (plain b k s n is)) (join_left (block_names s.ty) (of_items (walk b) s.instrs.items ++ EndOf s ∷ []) y c)

  in_body : (y : Item) → Contains (items_of (of_items (walk b) first.instrs.items)) y → Contains (items_of (body_walk b 0)) y
  in_body y c = rw at (join_left (of_items (walk b) first.instrs.items) (EndOf first ∷ []) y c)

  -- a reached sequence is nested, and is the body's own or its walk is in that of the body
  pub record IsTold (k : ℕ) : Type 0 where
    pub is_nested : IsNested b k
    pub in_it : (k ≡ 0) ⊎ ((y : Item) → Contains (items_of (walk b k)) y → Contains (items_of (body_walk b 0)) y)

  same_first : (k : ℕ) (s : InstrSeq) → k ≡ 0 → slice_get b k ≡ Some s → s ≡ first
  same_first k s e is = (let both : Some s ≡ Some first = sym is ∙ ap (slice_get b) e ∙ at in cc)

  -- what the instructions of a told sequence tell
  told_inside : (k : ℕ) (s : InstrSeq) → IsTold k → slice_get b k ≡ Some s → (y : Item) → Contains (items_of (of_items (walk b) s.instrs.items)) y → Contains (items_of (body_walk b 0)) y
  told_inside k s told is y c = elim told.in_it as (λ _. Contains (items_of (body_walk b 0)) y) [
    | inl e ↦ in_body y (subst (λ (t : InstrSeq). Contains (items_of (of_items (walk b) t.instrs.items)) y) (same_first k s e is) c)
    | inr on ↦ on y (inside k s told.is_nested is y c)
  ]

  held_told : (k : ℕ) (o : Option InstrSeq) (y : Item) → slice_get b k ≡ o → IsTold k → Contains (held o) y → (y.space ≡ spaces.Label) × IsTold y.id
  held_told k None y is told c = absurd (none_in y c)
  held_told k (Some s) y is told c =
      let h = of_held s.instrs.items y c in
      let child : IsTold h.0 = record {
        is_nested = of_all (IsNested b) (children_in s.instrs.items) (nested b k s told.is_nested is) h.0 h.1;
        in_it = inr (λ z d. told_inside k s told is z (child_told (walk b) s.instrs.items h.0 h.1 z d));
      } in
      (ap (λ (z : Item). z.space) h.2, subst IsTold (sym (ap (λ (z : Item). z.id) h.2)) child)

  all_told : (x : Item) → Chain IsEntry (Holds b) x → (x.space ≡ spaces.Label) × IsTold x.id
  all_told x (root r) =
      let e = only_in (item spaces.Label 0) x r in
      (sym (ap (λ (z : Item). z.space) e), subst IsTold (ap (λ (z : Item). z.id) e) (record { is_nested = begins; in_it = inl refl }))
  all_told y (refers {x} k r) =
      let before = all_told x k in
      held_told x.id (slice_get b x.id) y refl before.1 (subst (λ (s : Space). Contains (held_in b s x.id) y) before.0 r)

  -- what a known sequence names that is told
  seq_told : (k : ℕ) (s : InstrSeq) (y : Item) → IsTold k → slice_get b k ≡ Some s → Contains (seq_items k s) y → Contains (items_of (body_walk b 0)) y
  seq_told k s y told is c = elim (Contains-append_cases (if nat_eq k 0 then [] else items_of (block_names s.ty)) (instr_items s.instrs.items) y c) as (λ _. Contains (items_of (body_walk b 0)) y) [
    | inl l ↦ block_told (cases_eq k 0) l
    | inr r ↦ told_inside k s told is y (named_told (walk b) s.instrs.items y r)
  ]
    where
      own : (e : k ≡ 0) → Contains (if nat_eq k 0 then [] else items_of (block_names s.ty)) y → Contains (items_of (body_walk b 0)) y
      own e l = absurd (none_in y (subst (λ j. Contains (if nat_eq j 0 then [] else items_of (block_names s.ty)) y) e l))

      block_told : (k ≡ 0) ⊎ (k ≡ 0 → ⊥) → Contains (if nat_eq k 0 then [] else items_of (block_names s.ty)) y → Contains (items_of (body_walk b 0)) y
      block_told (inl e) l = own e l
      block_told (inr other) l = elim told.in_it as (λ _. Contains (items_of (body_walk b 0)) y) [
        | inl e ↦ absurd (other e)
        | inr on ↦ on y (its_type k s told.is_nested is y (let d = (rw (ne_eqb k 0 other) at l) in d))
      ]

  known_told : (k : ℕ) (o : Option InstrSeq) (y : Item) → IsTold k → slice_get b k ≡ o → Contains (known_items k o) y → Contains (items_of (body_walk b 0)) y
  known_told k None y told is c = absurd (none_in y c)
  known_told k (Some s) y told is c = seq_told k s y told is c

  -- what the body names is told by its walk
  pub body_told : (y : Item) → BodyNames b y → Contains (items_of (body_walk b 0)) y
  body_told y (k, reached, c) = known_told k (slice_get b k) y (all_told (item spaces.Label k) reached).1 refl c
