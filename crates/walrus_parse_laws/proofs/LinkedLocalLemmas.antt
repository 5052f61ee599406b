-- Lemmas: the locals that bodies add, and the indices that name them.
use Rattle.std.specs.Prelude.{ℕ, zero, suc, ◌≡◌, ◌≢◌, ◌⊎◌, ◌<◌, ◌+◌, ◌==◌, Bool, true, false, List, [], ◌∷◌, ◌++◌, length, Some, slice_get, refl, if◌then◌else◌}
use Rattle.std.proofs.Common.{ap, sym, ◌∙◌, subst, arith, inl, inr}
use Rattle.std.proofs.lemmas.List.{length-append}
use Rattle.std.proofs.lemmas.List.Concat.{flat_map-append}
use Rattle.walrus_named_bodies.specs.walrus_file_bodies.walrus_items_into.walrus_module_bodies.walrus_body_trees.walrus_meaning.walrus_linked.walrus_local_function.walrus_body_locals.Locals.{AddsKept, kept_ids, locals_from}
use Rattle.walrus_named_bodies.specs.walrus_file_bodies.walrus_items_into.walrus_module_bodies.walrus_body_trees.walrus_meaning.walrus_linked.walrus_local_function.walrus_body_locals.Named.{kept_of}
use Rattle.walrus_forms.specs.declared.value.ValType.{ValType}
use Rattle.walrus_named_bodies.specs.walrus_file_bodies.walrus_items_into.walrus_module_bodies.walrus_body_trees.walrus_meaning.walrus_linked.walrus_body_writer.walrus_pairing.walrus_index_maps.Maps.{Ids}
use Rattle.walrus_named_bodies.specs.walrus_file_bodies.walrus_items_into.walrus_module_bodies.walrus_body_trees.walrus_meaning.walrus_linked.walrus_body_writer.walrus_pairing.walrus_index_maps.Runs.{nowhere}
use Rattle.walrus_types.specs.walrus_items.declared.local.Local.{Local}
use Rattle.walrus_body_laws.specs.walrus_marks.Named.{event_items, items_of}
use Rattle.walrus_body_laws.specs.walrus_marks.walrus_walks.Events.{events_of, val_names}
use Rattle.walrus_named_bodies.specs.walrus_file_bodies.walrus_items_into.walrus_tables_into.walrus_sections.walrus_roots.declared.item.Item.{Item}
use Rattle.walrus_parse_laws.proofs.ListLemmas.{AllOf, all_join}
use Rattle.walrus_parse_laws.proofs.LinkedValueLemmas.{GoodValues}
use Rattle.walrus_parse_laws.proofs.OwnLemmas.{get_id}
use Rattle.walrus_parse_laws.proofs.RankLemmas.{flag_below, rank, rank_all, rank_rises}

-- ---- indices name locals that are there, or none

abbrev pub NamesBelow : List Local → Ids → Type 0
NamesBelow ls i = (function k id : ℕ) → id ≢ nowhere → slice_get (i.locals function) k ≡ Some id → id < length ls

in_either : (xs ys : List ℕ) (k id : ℕ) → slice_get (xs ++ ys) k ≡ Some id → ((j : ℕ) × (slice_get xs j ≡ Some id)) ⊎ ((j : ℕ) × (slice_get ys j ≡ Some id))
in_either [] ys k id e = inr (k, e)
in_either (x ∷ xs) ys zero id e = inl (0, e)
in_either (x ∷ xs) ys (suc k) id e = elim (in_either xs ys k id e) as (λ _. ((j : ℕ) × (slice_get (x ∷ xs) j ≡ Some id)) ⊎ ((j : ℕ) × (slice_get ys j ≡ Some id))) [ inl h ↦ inl (suc h.0, h.1) | inr h ↦ inr h ]

many_locals : (first : ℕ) (tys : List ValType) → length (locals_from first tys) ≡ length tys
many_locals first [] = refl
many_locals first (ty ∷ tys) = ap suc (many_locals (suc first) tys)

pub adds_many : (function : ℕ) (kept : List Bool) (tys : List ValType) (ls ms : List Local) (i j : Ids) → AddsKept function kept tys ls ms i j → length ms ≡ length ls + rank (length kept) kept
adds_many function kept tys ls ms i j h =
    ap length h.added ∙ length-append ls (locals_from (length ls) (kept_of kept tys)) ∙ ap (λ (n : ℕ). length ls + n) (many_locals (length ls) (kept_of kept tys) ∙ sym (rank_all kept tys h.many))

pub adds_below : (function : ℕ) (kept : List Bool) (tys : List ValType) (ls ms : List Local) (i j : Ids) → AddsKept function kept tys ls ms i j → NamesBelow ls i → NamesBelow ms j
adds_below function kept tys ls ms i j h below f k id named e =
    go (f == function) (sym (ap (λ (x : Ids). slice_get (x.locals f) k) h.named) ∙ e)
  where
    many : length ms ≡ length ls + rank (length kept) kept
    many = adds_many function kept tys ls ms i j h

    go : (b : Bool) → slice_get (if b then i.locals f ++ kept_ids (length ls) kept else i.locals f) k ≡ Some id → id < length ms
    go true e = elim (in_either (i.locals f) (kept_ids (length ls) kept) k id e) as (λ _. id < length ms) [
      | inl h ↦ let lt = below f h.0 id named h.1 in omega (arith, lt, many)
      | inr h ↦
          let r = get_id kept (length ls) h.0 id named h.1 in
          let is = r.0 in
          let less = rank_rises kept h.0 (length kept) (flag_below kept h.0 r.1) r.1 in
          omega (arith, is, less, many)
    ]
    go false e = let lt = below f k id named e in omega (arith, lt, many)

-- ---- what their types name

module _ (Good : Item → Type 0) where
  abbrev pub GoodLocal : Local → Type 0
  GoodLocal l = AllOf Good (items_of (val_names l.ty))

  split : (xs ys : List Item) → AllOf Good (xs ++ ys) → AllOf Good xs × AllOf Good ys
  split [] ys h = (tt, h)
  split (x ∷ xs) ys h = let later = split xs ys h.1 in ((h.0, later.0), later.1)

  from_good : (first : ℕ) (tys : List ValType) → GoodValues Good tys → AllOf GoodLocal (locals_from first tys)
  from_good first [] h = tt
  from_good first (ty ∷ tys) h =
      let both = split (items_of (val_names ty)) (items_of (events_of val_names tys)) (subst (AllOf Good) (flat_map-append event_items (val_names ty) (events_of val_names tys)) h) in
      (both.0, from_good (suc first) tys both.1)

  kept_good : (kept : List Bool) (tys : List ValType) → GoodValues Good tys → GoodValues Good (kept_of kept tys)
  kept_good [] tys h = tt
  kept_good (k ∷ kept) [] h = tt
  kept_good (true ∷ kept) (ty ∷ tys) h =
      let both = split (items_of (val_names ty)) (items_of (events_of val_names tys)) (subst (AllOf Good) (flat_map-append event_items (val_names ty) (events_of val_names tys)) h) in
      subst (AllOf Good) (sym (flat_map-append event_items (val_names ty) (events_of val_names (kept_of kept tys))))
      (all_join Good (items_of (val_names ty)) (items_of (events_of val_names (kept_of kept tys))) both.0 (kept_good kept tys both.1))
  kept_good (false ∷ kept) (ty ∷ tys) h =
      kept_good kept tys (split (items_of (val_names ty)) (items_of (events_of val_names tys)) (subst (AllOf Good) (flat_map-append event_items (val_names ty) (events_of val_names tys)) h)).1

  pub adds_good : (function : ℕ) (kept : List Bool) (tys : List ValType) (ls ms : List Local) (i j : Ids) → AddsKept function kept tys ls ms i j → GoodValues Good tys → AllOf GoodLocal ls → AllOf GoodLocal ms
  adds_good function kept tys ls ms i j h good before =
      subst (AllOf GoodLocal) (sym h.added)
      (all_join GoodLocal ls (locals_from (length ls) (kept_of kept tys)) before (from_good (length ls) (kept_of kept tys) (kept_good kept tys good)))

  -- values of which each is good
  pub values_good : (tys : List ValType) → AllOf (λ (ty : ValType). AllOf Good (items_of (val_names ty))) tys → GoodValues Good tys
  values_good [] h = tt
  values_good (ty ∷ tys) h = subst (AllOf Good) (sym (flat_map-append event_items (val_names ty) (events_of val_names tys))) (all_join Good (items_of (val_names ty)) (items_of (events_of val_names tys)) h.0 (values_good tys h.1))
