-- What is met for the roots.
use Rattle.std.proofs.Common.{◌≡◌, ◌∙◌, ◌⊎◌, ◌+◌, ◌<◌, ◌≤◌, ℕ, true, List, [], ◌∷◌, length, Option, Some, None, Contains, refl, sym, ap, subst, inl, inr, arith}
use Rattle.std.specs.Prelude.{◌↔◌, ◌||◌, IsSome, MatchOption}
use Rattle.std.specs.List.{fold}
use Rattle.std.proofs.lemmas.List.{get_or_past}
use Rattle.std.proofs.lemmas.Bool.{cases_lt, false≢true, or_cases, or_left, or_right}
use Rattle.wasm_formats.specs.declared.fault.Space.TheVariants as spaces
use Rattle.walrus_arena.specs.Arena.{Arena, item_at, IsLive}
use Rattle.walrus_instr.specs.declared.const_expr.ConstExpr.{ConstExpr}
use Rattle.walrus_references.specs.walrus_module_items.declared.table.Table.{Table}
use Rattle.walrus_references.specs.walrus_module_items.declared.export.Export.{Export}
use Rattle.walrus_references.specs.walrus_module_items.declared.data.Data.{Data}
use Rattle.walrus_references.specs.walrus_module_items.declared.data.DataKind.{DataKind}
use Rattle.walrus_references.specs.walrus_module_items.declared.data.DataKind.TheVariants as datas
use Rattle.walrus_references.specs.walrus_module_items.declared.element.Element.{Element}
use Rattle.walrus_references.specs.walrus_module_items.declared.element.ElementKind.{ElementKind}
use Rattle.walrus_references.specs.walrus_module_items.declared.element.ElementKind.TheVariants as elements
use Rattle.walrus_references.specs.walrus_module.Parts.{Module}
use Rattle.walrus_roots.specs.declared.item.Item.{Item}
use Rattle.walrus_roots.specs.Items.{item}
use Rattle.walrus_marks.specs.Marks.{State, meet}
use Rattle.walrus_marks.specs.Chains.{Meets}
use Rattle.walrus_references.specs.Roots.{Root, exports, starts, is_active, fills_import, fills_any, declares, is_pushed}
use Rattle.walrus_references.specs.walrus_module.Items.{given_out}
use Rattle.walrus_used.specs.Picks.{AreRooted, Below, IsPickedAt, IsPicked, OtherRootWith, RootIn, RootWith, active_data, is_imported, rooted_element, start_items}
use Rattle.walrus_used.proofs.MeetsLemmas.{AreJust, just_all, meets_list, meets_same, meets_then, below_all}
use Rattle.walrus_used.proofs.LooksLemmas.{none_in, first_in, only_in, one_live, one_back}

-- ---- one collection
module _ {T : Type 0} (picks : ℕ → T → Item → Type 0) (a : Arena T) where
  pub picked_now : (n : ℕ) (t : T) (m c : State) → item_at a n ≡ Some t → Meets (picks n t) m c → Meets (IsPickedAt picks a n) m c
  picked_now n t m c at met = meets_same (picks n t) (IsPickedAt picks a n) m c (λ x. (
    λ h. subst (λ (o : Option T). MatchOption o ⊥ (λ y. picks n y x)) (sym at) h,
    λ h. subst (λ (o : Option T). MatchOption o ⊥ (λ y. picks n y x)) at h,
  )) met

  none_picked : (n : ℕ) (o : Option T) (x : Item) → (IsSome o → ⊥) → MatchOption o ⊥ (λ y. picks n y x) → ⊥
  none_picked n None x dead h = h
  none_picked n (Some t) x dead h = dead refl

  pub dead_picks : (n : ℕ) (x : Item) → (IsLive a n → ⊥) → IsPickedAt picks a n x → ⊥
  dead_picks n x dead h = none_picked n (item_at a n) x dead h

  picked_below : (k : ℕ) (x : Item) → IsPickedAt picks a k x → k < length a.slots
  picked_below k x h = elim (cases_lt k (length a.slots)) as (λ _. k < length a.slots) [
    | inl below ↦ below
    | inr past ↦ absurd (subst (λ (o : Option T). MatchOption o ⊥ (λ y. picks k y x)) (get_or_past a.slots k None past) h)
  ]

  pub past_picks : (n : ℕ) (x : Item) → length a.slots ≤ n → IsPickedAt picks a n x → ⊥
  past_picks n x past h = (let below = picked_below n x h in omega (arith, past, below))

  pub picked_just : (n : ℕ) (t : T) (xs : List Item) → item_at a n ≡ Some t → AreJust xs (picks n t) → AreJust xs (IsPickedAt picks a n)
  picked_just n t xs at are = λ x. (
    λ c. subst (λ (o : Option T). MatchOption o ⊥ (λ y. picks n y x)) (sym at) ((are x).0 c),
    λ h. (are x).1 (subst (λ (o : Option T). MatchOption o ⊥ (λ y. picks n y x)) at h),
  )

  pub all_just : (n : ℕ) (xs : List Item) → n ≡ length a.slots → AreJust xs (Below (IsPickedAt picks a) n) → AreJust xs (IsPicked picks a)
  all_just n xs all are = just_all (IsPickedAt picks a) n xs (λ k x h. subst (λ l. k < l) (sym all) (picked_below k x h)) are

  pub all_picked : (n : ℕ) (m c : State) → n ≡ length a.slots → Meets (Below (IsPickedAt picks a) n) m c → Meets (IsPicked picks a) m c
  all_picked n m c all met = below_all (IsPickedAt picks a) n m c (λ k x h. subst (λ l. k < l) (sym all) (picked_below k x h)) met

-- ---- the roots
module _ (m : Module) (pushed : List Item) where
  abbrev Exported : Item → Type 0
  Exported x = IsPicked (λ _ (e : Export) y. Contains (given_out e.item ∷ []) y) m.exports x

  abbrev Copied : Item → Type 0
  Copied x = IsPicked (λ id (d : Data) y. Contains (active_data id d.kind) y) m.data_segments x

  abbrev Rooted : Item → Type 0
  Rooted x = IsPicked (λ id (e : Element) y. Contains (rooted_element m.config.keep_segments m.tables id e.kind) y) m.elements x

  export_root : (e : ℕ) (o : Option Export) (x : Item) → item_at m.exports e ≡ o → MatchOption o ⊥ (λ (e : Export). Contains (given_out e.item ∷ []) x) → Root m pushed x
  export_root e None x at h = absurd h
  export_root e (Some export) x at h = subst (Root m pushed) (only_in (given_out export.item) x h) (exports e export at)

  kind_root : (d : ℕ) (segment : Data) (kind : DataKind) (x : Item) → item_at m.data_segments d ≡ Some segment → segment.kind ≡ kind → Contains (active_data d kind) x → Root m pushed x
  kind_root d segment (datas.Active memory offset) x at is h = subst (Root m pushed) (only_in (item spaces.Data d) x h) (is_active d memory offset segment at is)
  kind_root d segment datas.Passive x at is h = absurd (none_in x h)

  data_root : (d : ℕ) (o : Option Data) (x : Item) → item_at m.data_segments d ≡ o → MatchOption o ⊥ (λ (s : Data). Contains (active_data d s.kind) x) → Root m pushed x
  data_root d None x at h = absurd h
  data_root d (Some segment) x at h = kind_root d segment segment.kind x at refl h

  filled_root : (e t : ℕ) (offset : ConstExpr) (segment : Element) (o : Option Table) (x : Item) → item_at m.elements e ≡ Some segment → segment.kind ≡ elements.Active t offset → item_at m.tables t ≡ o → is_imported o ≡ true → item spaces.Element e ≡ x → Root m pushed x
  filled_root e t offset segment None x at is there imported same = absurd (false≢true imported)
  filled_root e t offset segment (Some table) x at is there imported same = subst (Root m pushed) same (fills_import e t offset segment table at is there imported)

  place_root : (e : ℕ) (segment : Element) (kind : ElementKind) (x : Item) → item_at m.elements e ≡ Some segment → segment.kind ≡ kind → Contains (rooted_element m.config.keep_segments m.tables e kind) x → Root m pushed x
  place_root e segment elements.Passive x at is h = absurd (none_in x h)
  place_root e segment elements.Declared x at is h = subst (Root m pushed) (only_in (item spaces.Element e) x h) (declares e segment at is)
  place_root e segment (elements.Active t offset) x at is h =
      let one = one_live (m.config.keep_segments || is_imported (item_at m.tables t)) (item spaces.Element e) x h in
      elim (or_cases m.config.keep_segments (is_imported (item_at m.tables t)) one.0) as (λ _. Root m pushed x) [
        | inl all ↦ subst (Root m pushed) one.1 (fills_any e t offset segment all at is)
        | inr imported ↦ filled_root e t offset segment (item_at m.tables t) x at is refl imported one.1
      ]

  element_root : (e : ℕ) (o : Option Element) (x : Item) → item_at m.elements e ≡ o → MatchOption o ⊥ (λ (s : Element). Contains (rooted_element m.config.keep_segments m.tables e s.kind) x) → Root m pushed x
  element_root e None x at h = absurd h
  element_root e (Some segment) x at h = place_root e segment segment.kind x at refl h

  start_root : (o : Option ℕ) (x : Item) → m.start ≡ o → Contains (start_items o) x → Root m pushed x
  start_root None x is h = absurd (none_in x h)
  start_root (Some f) x is h = subst (Root m pushed) (only_in (item spaces.Function f) x h) (starts f is)

  abbrev Met : Item → Type 0
  Met x = (((Exported x ⊎ Copied x) ⊎ Rooted x) ⊎ Contains pushed x) ⊎ Contains (start_items m.start) x

  met_root : (x : Item) → Met x → Root m pushed x
  met_root x (inl (inl (inl (inl h)))) = export_root h.0 (item_at m.exports h.0) x refl h.1
  met_root x (inl (inl (inl (inr h)))) = data_root h.0 (item_at m.data_segments h.0) x refl h.1
  met_root x (inl (inl (inr h))) = element_root h.0 (item_at m.elements h.0) x refl h.1
  met_root x (inl (inr h)) = is_pushed x h
  met_root x (inr h) = start_root m.start x refl h

  filled_met : (e t : ℕ) (offset : ConstExpr) (segment : Element) → item_at m.elements e ≡ Some segment → segment.kind ≡ elements.Active t offset → (m.config.keep_segments || is_imported (item_at m.tables t)) ≡ true → Met (item spaces.Element e)
  filled_met e t offset segment at is listed =
      inl (inl (inr (
        e,
        subst (λ (o : Option Element). MatchOption o ⊥ (λ (s : Element). Contains (rooted_element m.config.keep_segments m.tables e s.kind) (item spaces.Element e))) (sym at)
            (subst (λ kind. Contains (rooted_element m.config.keep_segments m.tables e kind) (item spaces.Element e)) (sym is)
            (one_back (m.config.keep_segments || is_imported (item_at m.tables t)) (item spaces.Element e) (item spaces.Element e) listed refl)),
      )))

  root_met : (x : Item) → Root m pushed x → Met x
  root_met x (exports e export at) = inl (inl (inl (inl (e, subst (λ (o : Option Export). MatchOption o ⊥ (λ (e : Export). Contains (given_out e.item ∷ []) (given_out export.item))) (sym at) (first_in (given_out export.item) [])))))
  root_met x (starts f is) = inr (subst (λ (o : Option ℕ). Contains (start_items o) (item spaces.Function f)) (sym is) (first_in (item spaces.Function f) []))
  root_met x (is_active d memory offset segment at is) =
      inl (inl (inl (inr (
        d,
        subst (λ (o : Option Data). MatchOption o ⊥ (λ (s : Data). Contains (active_data d s.kind) (item spaces.Data d))) (sym at)
            (subst (λ kind. Contains (active_data d kind) (item spaces.Data d)) (sym is) (first_in (item spaces.Data d) [])),
      ))))
  root_met x (fills_import e t offset segment table at is there imported) =
      filled_met e t offset segment at is (or_right m.config.keep_segments (is_imported (item_at m.tables t)) (ap is_imported there ∙ imported))
  root_met x (fills_any e t offset segment all at is) = filled_met e t offset segment at is (or_left m.config.keep_segments (is_imported (item_at m.tables t)) all)
  root_met x (declares e segment at is) =
      inl (inl (inr (
        e,
        subst (λ (o : Option Element). MatchOption o ⊥ (λ (s : Element). Contains (rooted_element m.config.keep_segments m.tables e s.kind) (item spaces.Element e))) (sym at)
            (subst (λ kind. Contains (rooted_element m.config.keep_segments m.tables e kind) (item spaces.Element e)) (sym is) (first_in (item spaces.Element e) [])),
      )))
  root_met x (is_pushed y c) = inl (inr c)

  -- element segments from a list
  module _ (rooted : List Item) (are : AreRooted m rooted) where
    with_met : (x : Item) → RootWith m rooted pushed x → Met x
    with_met x (inl (inl (inl h))) = inl (inl (inl h))
    with_met x (inl (inl (inr c))) = inl (inl (inr ((are x).0 c)))
    with_met x (inl (inr h)) = inl (inr h)
    with_met x (inr h) = inr h

    met_with : (x : Item) → Met x → RootWith m rooted pushed x
    met_with x (inl (inl (inl h))) = inl (inl (inl h))
    met_with x (inl (inl (inr h))) = inl (inl (inr ((are x).1 h)))
    met_with x (inl (inr h)) = inl (inr h)
    met_with x (inr h) = inr h

    pub roots_with : (x : Item) → RootWith m rooted pushed x ↔ Root m pushed x
    roots_with x = (λ h. met_root x (with_met x h), λ r. met_with x (root_met x r))

  -- one after the other
  pub others_after : (rooted : List Item) (a b c d e : State) → Meets Exported a b → c ≡ fold meet b rooted → d ≡ fold meet c pushed → e ≡ fold meet d (start_items m.start) → Meets (OtherRootWith m rooted pushed) a e
  others_after rooted a b c d e p q r s =
      let two = meets_then Exported (λ x. Contains rooted x) a b c p (meets_list rooted b c q) in
      let three = meets_then (λ x. Exported x ⊎ Contains rooted x) (λ x. Contains pushed x) a c d two (meets_list pushed c d r) in
      meets_then (λ x. (Exported x ⊎ Contains rooted x) ⊎ Contains pushed x) (λ x. Contains (start_items m.start) x) a d e three (meets_list (start_items m.start) d e s)

  -- ---- in parts
  module _ (rooted : List Item) where
    abbrev CopiedAt : ℕ → Item → Type 0
    CopiedAt n x = IsPickedAt (λ id (d : Data) y. Contains (active_data id d.kind) y) m.data_segments n x

    pub first_part : (part : ℕ) (a b : State) → part ≡ 0 → Meets (OtherRootWith m rooted pushed) a b → Meets (RootIn m rooted pushed part) a b
    first_part part a b first met = meets_same (OtherRootWith m rooted pushed) (RootIn m rooted pushed part) a b (λ x. (
      λ h. inl (first, h),
      λ h. elim h as (λ _. OtherRootWith m rooted pushed x) [ inl l ↦ l.1 | inr r ↦ absurd (omega (arith, first, r.1)) ],
    )) met

    pub next_part : (part n : ℕ) (a b : State) → part ≡ n + 1 → Meets (CopiedAt n) a b → Meets (RootIn m rooted pushed part) a b
    next_part part n a b next met = meets_same (CopiedAt n) (RootIn m rooted pushed part) a b (λ x. (
      λ h. inr (n, next, h),
      λ h. elim h as (λ _. CopiedAt n x) [ inl l ↦ absurd (omega (arith, next, l.0)) | inr r ↦ (let same : r.0 ≡ n = omega (arith, next, r.1) in subst (λ k. CopiedAt k x) same r.2) ],
    )) met

    abbrev Parts : ℕ → Item → Type 0
    Parts n x = Below (RootIn m rooted pushed) n x

    in_first : (n : ℕ) (x : Item) → n ≡ length m.data_segments.slots + 1 → OtherRootWith m rooted pushed x → Parts n x
    in_first n x all h = (0, omega (arith, all), inl (refl, h))

    in_parts : (n : ℕ) (x : Item) → n ≡ length m.data_segments.slots + 1 → RootWith m rooted pushed x → Parts n x
    in_parts n x all (inl (inl (inl (inl e)))) = in_first n x all (inl (inl (inl e)))
    in_parts n x all (inl (inl (inl (inr d)))) = (d.0 + 1, omega (arith, all, picked_below (λ id (d : Data) y. Contains (active_data id d.kind) y) m.data_segments d.0 x d.1), inr (d.0, refl, d.1))
    in_parts n x all (inl (inl (inr c))) = in_first n x all (inl (inl (inr c)))
    in_parts n x all (inl (inr p)) = in_first n x all (inl (inr p))
    in_parts n x all (inr s) = in_first n x all (inr s)

    other_root : (x : Item) → OtherRootWith m rooted pushed x → RootWith m rooted pushed x
    other_root x (inl (inl (inl e))) = inl (inl (inl (inl e)))
    other_root x (inl (inl (inr c))) = inl (inl (inr c))
    other_root x (inl (inr p)) = inl (inr p)
    other_root x (inr s) = inr s

    part_root : (part : ℕ) (x : Item) → RootIn m rooted pushed part x → RootWith m rooted pushed x
    part_root part x (inl l) = other_root x l.1
    part_root part x (inr r) = inl (inl (inl (inr (r.0, r.2))))

    pub all_parts : (n : ℕ) → n ≡ length m.data_segments.slots + 1 → (x : Item) → RootWith m rooted pushed x ↔ Below (RootIn m rooted pushed) n x
    all_parts n all x = (λ h. in_parts n x all h, λ h. part_root h.0 x h.2)
