-- Segments by table.
use Rattle.std.proofs.Common.{◌≡◌, ◌∙◌, ◌⊎◌, ◌+◌, ◌<◌, ◌≤◌, ℕ, Bool, List, [], ◌∷◌, ◌++◌, length, map, get_or, Option, Some, None, Contains, refl, sym, ap, subst, inl, inr, arith}
use Rattle.std.specs.Prelude.{IsSome, MatchOption, replicate}
use Rattle.std.proofs.Math.ListN.{set, length-set}
use Rattle.std.proofs.lemmas.List.{get_or-map, map-set, get_or-set_same, get_or-set_other, get_or_past, set_past, get_or-replicate, length-replicate}
use Rattle.std.proofs.lemmas.List.Elements.{Contains-append_left, Contains-append_right, Contains-append_cases}
use Rattle.std.proofs.lemmas.Bool.{cases_eq, cases_lt}
use Rattle.wasm_formats.specs.declared.fault.Space.TheVariants as spaces
use Rattle.walrus_arena.specs.Arena.{item_at, IsLive}
use Rattle.walrus_references.specs.walrus_module_items.declared.element.Element.{Element}
use Rattle.walrus_references.specs.walrus_module_items.declared.element.ElementKind.{ElementKind}
use Rattle.walrus_references.specs.walrus_module_items.declared.element.ElementKind.TheVariants as elements
use Rattle.walrus_references.specs.walrus_module.Parts.{Module}
use Rattle.walrus_roots.specs.declared.item.Item.{Item}
use Rattle.walrus_roots.specs.Items.{item}
use Rattle.walrus_references.specs.References.{IsActiveIn}
use Rattle.walrus_used.specs.Looks.{AreActive, IsAt, listed, listed_segment}
use Rattle.walrus_used.specs.Picks.{AreRooted, Below, IsPickedAt, rooted_element}
use Rattle.walrus_used.proofs.LooksLemmas.{none_in, first_in, only_in}
use Rattle.walrus_used.proofs.MeetsLemmas.{AreJust, just_none, just_more, just_skip}
use Rattle.walrus_used.proofs.RootLemmas.{picked_just, dead_picks, all_just}

-- one more in a list of vectors
pub listed_is : {V : Type 0} (items : V → List Item) (vs : List V) (k : ℕ) (v w : V) (i : Item) → k < length vs → v ≡ get_or vs k v → items w ≡ items v ++ i ∷ [] → map items (set vs k w) ≡ listed (map items vs) k i
listed_is items vs k v w i below is more =
    map-set items vs k w ∙ ap (λ (xs : List Item). set (map items vs) k xs) (more ∙ ap (λ (xs : List Item). xs ++ i ∷ []) (ap items is ∙ sym (get_or-map items vs k v [] below)))

-- none where there is no such list
pub listed_not : {V : Type 0} (items : V → List Item) (vs : List V) (k : ℕ) (i : Item) → length (map items vs) ≤ k → map items vs ≡ listed (map items vs) k i
listed_not items vs k i past = sym (set_past (map items vs) k (get_or (map items vs) k [] ++ i ∷ []) past)

module _ (lists : List (List Item)) (u : ℕ) (i : Item) where
  at_listed : (t : ℕ) (y : Item) → IsAt (listed lists u i) t y → IsAt lists t y ⊎ ((u ≡ t) × (i ≡ y))
  at_listed t y c = elim (cases_eq t u) as (λ _. IsAt lists t y ⊎ ((u ≡ t) × (i ≡ y))) [
    | inl e ↦ elim (cases_lt u (length lists)) as (λ _. IsAt lists t y ⊎ ((u ≡ t) × (i ≡ y))) [
      | inl below ↦
          let here : Contains (get_or lists u [] ++ i ∷ []) y = subst (λ (xs : List Item). Contains xs y) (ap (λ k. get_or (listed lists u i) k []) e ∙ get_or-set_same lists u (get_or lists u [] ++ i ∷ []) [] below) c in
          elim (Contains-append_cases (get_or lists u []) (i ∷ []) y here) as (λ _. IsAt lists t y ⊎ ((u ≡ t) × (i ≡ y))) [
            | inl old ↦ inl (subst (λ k. IsAt lists k y) (sym e) old)
            | inr new ↦ inr (sym e, only_in i y new)
          ]
      | inr past ↦ inl (subst (λ (ls : List (List Item)). IsAt ls t y) (set_past lists u (get_or lists u [] ++ i ∷ []) past) c)
    ]
    | inr other ↦ inl (subst (λ (xs : List Item). Contains xs y) (get_or-set_other lists u t (get_or lists u [] ++ i ∷ []) [] other) c)
  ]

  still_listed : (t : ℕ) (y : Item) → IsAt lists t y → IsAt (listed lists u i) t y
  still_listed t y c = elim (cases_eq t u) as (λ _. IsAt (listed lists u i) t y) [
    | inl e ↦ elim (cases_lt u (length lists)) as (λ _. IsAt (listed lists u i) t y) [
      | inl below ↦ subst (λ (xs : List Item). Contains xs y) (sym (ap (λ k. get_or (listed lists u i) k []) e ∙ get_or-set_same lists u (get_or lists u [] ++ i ∷ []) [] below))
          (Contains-append_left (get_or lists u []) (i ∷ []) y (subst (λ k. IsAt lists k y) e c))
      | inr past ↦ subst (λ (ls : List (List Item)). IsAt ls t y) (sym (set_past lists u (get_or lists u [] ++ i ∷ []) past)) c
    ]
    | inr other ↦ subst (λ (xs : List Item). Contains xs y) (sym (get_or-set_other lists u t (get_or lists u [] ++ i ∷ []) [] other)) c
  ]

  now_listed : (t : ℕ) → u ≡ t → t < length lists → IsAt (listed lists u i) t i
  now_listed t e below =
      subst (λ k. IsAt (listed lists u i) k i) e
      (subst (λ (xs : List Item). Contains xs i) (sym (get_or-set_same lists u (get_or lists u [] ++ i ∷ []) [] (omega (arith, below, e)))) (Contains-append_right (get_or lists u []) (i ∷ []) i (first_in i [])))

-- the segment of this number is active in the table
abbrev pub InTable : Module → ℕ → ℕ → Item → Type 0
InTable m t e y = (y ≡ item spaces.Element e) × MatchOption (item_at m.elements e) ⊥ (λ element. IsActiveIn t element.kind)

-- the segments below this number are in the lists of their tables
pub record ListedBelow (m : Module) (n : ℕ) (lists : List (List Item)) : Type 0 where
  pub sized : length lists ≡ length m.tables.slots
  pub all : (t : ℕ) (y : Item) → t < length m.tables.slots → Below (InTable m t) n y → IsAt lists t y
  pub only : (t : ℕ) (y : Item) → IsAt lists t y → Below (InTable m t) n y

module _ (m : Module) where
  pub none_listed : (k : ℕ) (lists : List (List Item)) → k ≡ length m.tables.slots → lists ≡ replicate k [] → ListedBelow m 0 lists
  none_listed k lists is empty = record {
    sized = ap length empty ∙ length-replicate k [] ∙ is;
    all = λ t y below h. absurd (omega (arith, h.1));
    only = λ t y c. absurd (elim (cases_lt t k) as (λ _. ⊥) [
      | inl below ↦ none_in y (subst (λ (xs : List Item). Contains xs y) (ap (λ (ls : List (List Item)). get_or ls t []) empty ∙ get_or-replicate k t [] [] below) c)
      | inr past ↦ none_in y (subst (λ (xs : List Item). Contains xs y) (get_or_past lists t [] (omega (arith, past, ap length empty, length-replicate {A = List Item} k []))) c)
    ]);
  }

  later_below : (n t : ℕ) (y : Item) → Below (InTable m t) n y → Below (InTable m t) (n + 1) y
  later_below n t y h = (h.0, omega (arith, h.1), h.2)

  -- a segment that is active in no table
  skip_listed : (n : ℕ) (lists : List (List Item)) → ((t : ℕ) (y : Item) → InTable m t n y → ⊥) → ListedBelow m n lists → ListedBelow m (n + 1) lists
  skip_listed n lists none h = record {
    sized = h.sized;
    all = λ t y below b. elim (cases_eq b.0 n) as (λ _. IsAt lists t y) [
      | inl e ↦ absurd (none t y (subst (λ k. InTable m t k y) e b.2))
      | inr other ↦ h.all t y below (b.0, omega (arith, b.1, other), b.2)
    ];
    only = λ t y c. later_below n t y (h.only t y c);
  }

  active_is : (t n : ℕ) (y : Item) (element : Element) (kind : ElementKind) → item_at m.elements n ≡ Some element → element.kind ≡ kind → InTable m t n y → IsActiveIn t kind
  active_is t n y element kind at is h = subst (IsActiveIn t) is (subst (λ (o : Option Element). MatchOption o ⊥ (λ element. IsActiveIn t element.kind)) at h.1)

  kind_listed : (n : ℕ) (lists : List (List Item)) (element : Element) (kind : ElementKind) → item_at m.elements n ≡ Some element → element.kind ≡ kind → ListedBelow m n lists → ListedBelow m (n + 1) (listed_segment lists n kind)
  kind_listed n lists element elements.Passive at is h = skip_listed n lists (λ t y b. active_is t n y element elements.Passive at is b) h
  kind_listed n lists element elements.Declared at is h = skip_listed n lists (λ t y b. active_is t n y element elements.Declared at is b) h
  kind_listed n lists element (elements.Active u offset) at is h = record {
    sized = length-set lists u (get_or lists u [] ++ item spaces.Element n ∷ []) ∙ h.sized;
    all = λ t y below b. elim (cases_eq b.0 n) as (λ _. IsAt (listed lists u (item spaces.Element n)) t y) [
      | inl e ↦
          let now : InTable m t n y = subst (λ k. InTable m t k y) e b.2 in
          subst (λ z. IsAt (listed lists u (item spaces.Element n)) t z) (sym now.0)
          (now_listed lists u (item spaces.Element n) t (active_is t n y element (elements.Active u offset) at is now) (omega (arith, below, h.sized)))
      | inr other ↦ still_listed lists u (item spaces.Element n) t y (h.all t y below (b.0, omega (arith, b.1, other), b.2))
    ];
    only = λ t y c. elim (at_listed lists u (item spaces.Element n) t y c) as (λ _. Below (InTable m t) (n + 1) y) [
      | inl old ↦ later_below n t y (h.only t y old)
      | inr new ↦ (n, omega arith, (sym new.1, subst (λ (o : Option Element). MatchOption o ⊥ (λ element. IsActiveIn t element.kind)) (sym at) (subst (IsActiveIn t) (sym is) new.0)))
    ];
  }

  pub more_listed : (n : ℕ) (lists others : List (List Item)) (element : Element) → item_at m.elements n ≡ Some element → others ≡ listed_segment lists n element.kind → ListedBelow m n lists → ListedBelow m (n + 1) others
  more_listed n lists others element at to h = subst (ListedBelow m (n + 1)) (sym to) (kind_listed n lists element element.kind at refl h)

  none_active : (t : ℕ) (o : Option Element) → (IsSome o → ⊥) → MatchOption o ⊥ (λ element. IsActiveIn t element.kind) → ⊥
  none_active t None dead h = h
  none_active t (Some element) dead h = dead refl

  pub dead_listed : (n : ℕ) (lists : List (List Item)) → (IsLive m.elements n → ⊥) → ListedBelow m n lists → ListedBelow m (n + 1) lists
  dead_listed n lists dead h = skip_listed n lists (λ t y b. none_active t (item_at m.elements n) dead b.1) h

  in_below : (t e : ℕ) (o : Option Element) → item_at m.elements e ≡ o → MatchOption o ⊥ (λ element. IsActiveIn t element.kind) → e < length m.elements.slots
  in_below t e o at h = elim (cases_lt e (length m.elements.slots)) as (λ _. e < length m.elements.slots) [
    | inl below ↦ below
    | inr past ↦ absurd (subst (λ (o : Option Element). MatchOption o ⊥ (λ element. IsActiveIn t element.kind)) (sym at ∙ get_or_past m.elements.slots e None past) h)
  ]

  pub all_listed : (n : ℕ) (lists : List (List Item)) → n ≡ length m.elements.slots → ListedBelow m n lists → AreActive m lists
  all_listed n lists is h = record {
    all = λ t y below b. h.all t y below (b.0, (let inside = in_below t b.0 (item_at m.elements b.0) refl b.2 in omega (arith, inside, is)), (b.1, b.2));
    only = λ t y c. (let b = h.only t y c in (b.0, b.2.0, b.2.1));
  }

-- ---- those that are roots
abbrev pub rooted_at : Module → ℕ → Element → Item → Type 0
rooted_at m id e y = Contains (rooted_element m.config.keep_segments m.tables id e.kind) y

-- just those below this number
abbrev pub RootedBelow : Module → ℕ → List Item → Type 0
RootedBelow m n rooted = AreJust rooted (Below (IsPickedAt (rooted_at m) m.elements) n)

module _ (m : Module) where
  pub none_rooted : (rooted : List Item) → rooted ≡ [] → RootedBelow m 0 rooted
  none_rooted rooted is = just_none (IsPickedAt (rooted_at m) m.elements) rooted is

  pub more_rooted : (n : ℕ) (rooted others : List Item) (element : Element) (keep : Bool) → keep ≡ m.config.keep_segments → item_at m.elements n ≡ Some element → others ≡ rooted ++ rooted_element keep m.tables n element.kind → RootedBelow m n rooted
      → RootedBelow m (n + 1) others
  more_rooted n rooted others element keep asked at to h =
      just_more (IsPickedAt (rooted_at m) m.elements) n rooted (rooted_element m.config.keep_segments m.tables n element.kind) others (to ∙ ap (λ (b : Bool). rooted ++ rooted_element b m.tables n element.kind) asked) h
      (picked_just (rooted_at m) m.elements n element (rooted_element m.config.keep_segments m.tables n element.kind) at (λ x. (λ c. c, λ c. c)))

  pub dead_rooted : (n : ℕ) (rooted : List Item) → (IsLive m.elements n → ⊥) → RootedBelow m n rooted → RootedBelow m (n + 1) rooted
  dead_rooted n rooted dead h = just_skip (IsPickedAt (rooted_at m) m.elements) n rooted (λ x p. dead_picks (rooted_at m) m.elements n x dead p) h

  pub all_rooted : (n : ℕ) (rooted : List Item) → n ≡ length m.elements.slots → RootedBelow m n rooted → AreRooted m rooted
  all_rooted n rooted is h = all_just (rooted_at m) m.elements n rooted is h
