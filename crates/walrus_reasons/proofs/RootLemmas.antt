-- Just the roots are listed.
use Rattle.std.proofs.Common.{◌≡◌, ◌∙◌, ◌⊎◌, ◌++◌, ℕ, Bool, true, false, List, [], ◌∷◌, map, Option, Some, None, Contains, refl, sym, ap, subst, inl, inr}
use Rattle.std.specs.Prelude.{◌↔◌, MatchOption}
use Rattle.std.proofs.lemmas.Bool.{false≢true}
use Rattle.std.proofs.lemmas.List.Elements.{Contains-append_left, Contains-append_right, Contains-append_cases}
use Rattle.wasm_formats.specs.declared.fault.Space.TheVariants as spaces
use Rattle.walrus_arena.specs.Arena.{item_at}
use Rattle.walrus_instr.specs.declared.const_expr.ConstExpr.{ConstExpr}
use Rattle.walrus_used.specs.walrus_module_items.declared.data.Data.{Data}
use Rattle.walrus_used.specs.walrus_module_items.declared.data.DataKind.{DataKind}
use Rattle.walrus_used.specs.walrus_module_items.declared.data.DataKind.TheVariants as datas
use Rattle.walrus_used.specs.walrus_module_items.declared.element.Element.{Element}
use Rattle.walrus_used.specs.walrus_module_items.declared.element.ElementKind.{ElementKind}
use Rattle.walrus_used.specs.walrus_module_items.declared.element.ElementKind.TheVariants as elements
use Rattle.walrus_used.specs.walrus_module_items.declared.export.Export.{Export}
use Rattle.walrus_used.specs.walrus_module_items.declared.table.Table.{Table}
use Rattle.walrus_used.specs.walrus_module.Items.{given_out}
use Rattle.walrus_used.specs.walrus_module.Parts.{Module}
use Rattle.walrus_used.specs.walrus_references.Roots.{Root, exports, starts, is_active, fills_import, fills_any, declares, is_pushed}
use Rattle.walrus_roots.specs.declared.item.Item.{Item}
use Rattle.walrus_roots.specs.Items.{item}
use Rattle.walrus_reasons.specs.Picks.{picked}
use Rattle.walrus_reasons.specs.RootLists.{data_roots, element_roots, export_roots, filling_reason, is_imported, pushed_root, root_list, start_roots, with_reason}
use Rattle.walrus_reasons.specs.declared.reason.Reason.{Reason}
use Rattle.walrus_reasons.specs.declared.reason.Reason.TheVariants as reasons
use Rattle.walrus_reasons.proofs.AddedLemmas.{none_in}
use Rattle.walrus_reasons.proofs.PickLemmas.{picked_back, picked_forth}
use Rattle.walrus_reasons.proofs.SegmentLemmas.{cases_in, first_in, later_in, only_in}

first_of : (x y : Item) (r s : Reason) → ◌≡◌ {A = Item × Reason} (x, r) (y, s) → x ≡ y
first_of x y r s e = ap (λ (p : Item × Reason). p.0) e

pushed_forth : (pushed : List Item) (x : Item) (why : Reason) → Contains (map pushed_root pushed) (x, why) → Contains pushed x
pushed_forth [] x why c = absurd (none_in (x, why) c)
pushed_forth (y ∷ pushed) x why c = elim (cases_in (pushed_root y) (map pushed_root pushed) (x, why) c) as (λ _. Contains (y ∷ pushed) x) [
  | inl e ↦ subst (λ z. Contains (y ∷ pushed) z) (first_of y x reasons.IsPushed why e) (first_in y pushed)
  | inr d ↦ later_in y pushed x (pushed_forth pushed x why d)
]

pushed_back : (pushed : List Item) (x : Item) → Contains pushed x → Contains (map pushed_root pushed) (x, reasons.IsPushed)
pushed_back [] x c = absurd (none_in x c)
pushed_back (y ∷ pushed) x c = elim (cases_in y pushed x c) as (λ _. Contains (map pushed_root (y ∷ pushed)) (x, reasons.IsPushed)) [
  | inl e ↦ subst (λ z. Contains (map pushed_root (y ∷ pushed)) (z, reasons.IsPushed)) e (first_in (pushed_root y) (map pushed_root pushed))
  | inr d ↦ later_in (pushed_root y) (map pushed_root pushed) (x, reasons.IsPushed) (pushed_back pushed x d)
]

any_reason : (imported keep : Bool) → keep ≡ true → (why : Reason) × (filling_reason keep imported ≡ Some why)
any_reason true keep kept = (reasons.FillsImport, refl)
any_reason false true kept = (reasons.IsFilling, refl)
any_reason false false kept = absurd (false≢true kept)

module _ (m : Module) (pushed : List Item) where
  abbrev of_data : ℕ → Data → List (Item × Reason)
  of_data d segment = data_roots d segment.kind

  abbrev of_element : ℕ → Element → List (Item × Reason)
  of_element e segment = element_roots m.config.keep_segments m.tables e segment.kind

  export_root : (e : ℕ) (o : Option Export) (x : Item) (why : Reason) → item_at m.exports e ≡ o → MatchOption o ⊥ (λ export. Contains (export_roots e export) (x, why)) → Root m pushed x
  export_root e None x why at h = absurd h
  export_root e (Some export) x why at h = subst (Root m pushed) (first_of (given_out export.item) x (reasons.Exported e) why (only_in (given_out export.item, reasons.Exported e) (x, why) h)) (exports e export at)

  start_root : (o : Option ℕ) (x : Item) (why : Reason) → m.start ≡ o → Contains (start_roots o) (x, why) → Root m pushed x
  start_root None x why is h = absurd (none_in (x, why) h)
  start_root (Some f) x why is h = subst (Root m pushed) (first_of (item spaces.Function f) x reasons.Starts why (only_in (item spaces.Function f, reasons.Starts) (x, why) h)) (starts f is)

  kind_root : (d : ℕ) (segment : Data) (kind : DataKind) (x : Item) (why : Reason) → item_at m.data_segments d ≡ Some segment → segment.kind ≡ kind → Contains (data_roots d kind) (x, why) → Root m pushed x
  kind_root d segment (datas.Active memory offset) x why at is h = subst (Root m pushed) (first_of (item spaces.Data d) x reasons.IsCopied why (only_in (item spaces.Data d, reasons.IsCopied) (x, why) h)) (is_active d memory offset segment at is)
  kind_root d segment datas.Passive x why at is h = absurd (none_in (x, why) h)

  data_root : (d : ℕ) (o : Option Data) (x : Item) (why : Reason) → item_at m.data_segments d ≡ o → MatchOption o ⊥ (λ (s : Data). Contains (data_roots d s.kind) (x, why)) → Root m pushed x
  data_root d None x why at h = absurd h
  data_root d (Some segment) x why at h = kind_root d segment segment.kind x why at refl h

  imported_root : (e t : ℕ) (offset : ConstExpr) (segment : Element) (o : Option Table) → item_at m.elements e ≡ Some segment → segment.kind ≡ elements.Active t offset → item_at m.tables t ≡ o → is_imported o ≡ true → Root m pushed (item spaces.Element e)
  imported_root e t offset segment None at is there imported = absurd (false≢true imported)
  imported_root e t offset segment (Some table) at is there imported = fills_import e t offset segment table at is there imported

  filled_root : (e t : ℕ) (offset : ConstExpr) (segment : Element) (keep imported : Bool) → m.config.keep_segments ≡ keep → is_imported (item_at m.tables t) ≡ imported → item_at m.elements e ≡ Some segment → segment.kind ≡ elements.Active t offset
      → (x : Item) (why : Reason) → Contains (with_reason (item spaces.Element e) (filling_reason keep imported)) (x, why) → Root m pushed x
  filled_root e t offset segment keep true kept there at is x why h = subst (Root m pushed) (first_of (item spaces.Element e) x reasons.FillsImport why (only_in (item spaces.Element e, reasons.FillsImport) (x, why) h)) (imported_root e t offset segment (item_at m.tables t) at is refl there)
  filled_root e t offset segment true false kept there at is x why h = subst (Root m pushed) (first_of (item spaces.Element e) x reasons.IsFilling why (only_in (item spaces.Element e, reasons.IsFilling) (x, why) h)) (fills_any e t offset segment kept at is)
  filled_root e t offset segment false false kept there at is x why h = absurd (none_in (x, why) h)

  place_root : (e : ℕ) (segment : Element) (kind : ElementKind) (x : Item) (why : Reason) → item_at m.elements e ≡ Some segment → segment.kind ≡ kind → Contains (element_roots m.config.keep_segments m.tables e kind) (x, why) → Root m pushed x
  place_root e segment elements.Passive x why at is h = absurd (none_in (x, why) h)
  place_root e segment elements.Declared x why at is h = subst (Root m pushed) (first_of (item spaces.Element e) x reasons.IsDeclared why (only_in (item spaces.Element e, reasons.IsDeclared) (x, why) h)) (declares e segment at is)
  place_root e segment (elements.Active t offset) x why at is h = filled_root e t offset segment m.config.keep_segments (is_imported (item_at m.tables t)) refl refl at is x why h

  element_root : (e : ℕ) (o : Option Element) (x : Item) (why : Reason) → item_at m.elements e ≡ o → MatchOption o ⊥ (λ (s : Element). Contains (element_roots m.config.keep_segments m.tables e s.kind) (x, why)) → Root m pushed x
  element_root e None x why at h = absurd h
  element_root e (Some segment) x why at h = place_root e segment segment.kind x why at refl h

  -- the list, in its parts
  abbrev One : List (Item × Reason)
  One = picked export_roots m.exports

  abbrev Two : List (Item × Reason)
  Two = start_roots m.start

  abbrev Three : List (Item × Reason)
  Three = picked of_data m.data_segments

  abbrev Four : List (Item × Reason)
  Four = picked of_element m.elements

  abbrev Five : List (Item × Reason)
  Five = map pushed_root pushed

  abbrev Parts : Item × Reason → Type 0
  Parts p = (((Contains One p ⊎ Contains Two p) ⊎ Contains Three p) ⊎ Contains Four p) ⊎ Contains Five p

  in_parts : (p : Item × Reason) → Contains (root_list m pushed) p → Parts p
  in_parts p c = elim (Contains-append_cases (((One ++ Two) ++ Three) ++ Four) Five p c) as (λ _. Parts p) [
    | inr five ↦ inr five
    | inl c ↦ elim (Contains-append_cases ((One ++ Two) ++ Three) Four p c) as (λ _. Parts p) [
      | inr four ↦ inl (inr four)
      | inl c ↦ elim (Contains-append_cases (One ++ Two) Three p c) as (λ _. Parts p) [
        | inr three ↦ inl (inl (inr three))
        | inl c ↦ inl (inl (inl (Contains-append_cases One Two p c)))
      ]
    ]
  ]

  forth : (x : Item) (why : Reason) → Parts (x, why) → Root m pushed x
  forth x why (inl (inl (inl (inl c)))) = (let h = picked_forth export_roots m.exports (x, why) c in export_root h.0 (item_at m.exports h.0) x why refl h.1)
  forth x why (inl (inl (inl (inr c)))) = start_root m.start x why refl c
  forth x why (inl (inl (inr c))) = (let h = picked_forth of_data m.data_segments (x, why) c in data_root h.0 (item_at m.data_segments h.0) x why refl h.1)
  forth x why (inl (inr c)) = (let h = picked_forth of_element m.elements (x, why) c in element_root h.0 (item_at m.elements h.0) x why refl h.1)
  forth x why (inr c) = is_pushed x (pushed_forth pushed x why c)

  in_one : (p : Item × Reason) → Contains One p → Contains (root_list m pushed) p
  in_one p c = Contains-append_left (((One ++ Two) ++ Three) ++ Four) Five p (Contains-append_left ((One ++ Two) ++ Three) Four p (Contains-append_left (One ++ Two) Three p (Contains-append_left One Two p c)))

  in_two : (p : Item × Reason) → Contains Two p → Contains (root_list m pushed) p
  in_two p c = Contains-append_left (((One ++ Two) ++ Three) ++ Four) Five p (Contains-append_left ((One ++ Two) ++ Three) Four p (Contains-append_left (One ++ Two) Three p (Contains-append_right One Two p c)))

  in_three : (p : Item × Reason) → Contains Three p → Contains (root_list m pushed) p
  in_three p c = Contains-append_left (((One ++ Two) ++ Three) ++ Four) Five p (Contains-append_left ((One ++ Two) ++ Three) Four p (Contains-append_right (One ++ Two) Three p c))

  in_four : (p : Item × Reason) → Contains Four p → Contains (root_list m pushed) p
  in_four p c = Contains-append_left (((One ++ Two) ++ Three) ++ Four) Five p (Contains-append_right ((One ++ Two) ++ Three) Four p c)

  in_five : (p : Item × Reason) → Contains Five p → Contains (root_list m pushed) p
  in_five p c = Contains-append_right (((One ++ Two) ++ Three) ++ Four) Five p c

  in_filled : (e t : ℕ) (offset : ConstExpr) (segment : Element) (why : Reason) → item_at m.elements e ≡ Some segment → segment.kind ≡ elements.Active t offset
      → filling_reason m.config.keep_segments (is_imported (item_at m.tables t)) ≡ Some why → MatchOption (item_at m.elements e) ⊥ (λ (s : Element). Contains (of_element e s) (item spaces.Element e, why))
  in_filled e t offset segment why at is reason =
      subst (λ (o : Option Element). MatchOption o ⊥ (λ (s : Element). Contains (of_element e s) (item spaces.Element e, why))) (sym at)
      (subst (λ kind. Contains (element_roots m.config.keep_segments m.tables e kind) (item spaces.Element e, why)) (sym is)
      (subst (λ (o : Option Reason). Contains (with_reason (item spaces.Element e) o) (item spaces.Element e, why)) (sym reason) (first_in (item spaces.Element e, why) [])))

  back : (x : Item) → Root m pushed x → (why : Reason) × Contains (root_list m pushed) (x, why)
  back x (exports e export at) = (
    reasons.Exported e,
    in_one (given_out export.item, reasons.Exported e) (picked_back export_roots m.exports e (given_out export.item, reasons.Exported e)
        (subst (λ (o : Option Export). MatchOption o ⊥ (λ (z : Export). Contains (export_roots e z) (given_out export.item, reasons.Exported e))) (sym at) (first_in (given_out export.item, reasons.Exported e) []))),
  )
  back x (starts f is) = (reasons.Starts, in_two (item spaces.Function f, reasons.Starts) (subst (λ (o : Option ℕ). Contains (start_roots o) (item spaces.Function f, reasons.Starts)) (sym is) (first_in (item spaces.Function f, reasons.Starts) [])))
  back x (is_active d memory offset segment at is) = (
    reasons.IsCopied,
    in_three (item spaces.Data d, reasons.IsCopied) (picked_back of_data m.data_segments d (item spaces.Data d, reasons.IsCopied)
        (subst (λ (o : Option Data). MatchOption o ⊥ (λ (s : Data). Contains (data_roots d s.kind) (item spaces.Data d, reasons.IsCopied))) (sym at)
        (subst (λ kind. Contains (data_roots d kind) (item spaces.Data d, reasons.IsCopied)) (sym is) (first_in (item spaces.Data d, reasons.IsCopied) [])))),
  )
  back x (fills_import e t offset segment table at is there imported) = (
    reasons.FillsImport,
    in_four (item spaces.Element e, reasons.FillsImport) (picked_back of_element m.elements e (item spaces.Element e, reasons.FillsImport)
        (in_filled e t offset segment reasons.FillsImport at is (ap (filling_reason m.config.keep_segments) (ap is_imported there ∙ imported)))),
  )
  back x (fills_any e t offset segment kept at is) =
      let why = any_reason (is_imported (item_at m.tables t)) m.config.keep_segments kept in (
        why.0,
        in_four (item spaces.Element e, why.0) (picked_back of_element m.elements e (item spaces.Element e, why.0) (in_filled e t offset segment why.0 at is why.1)),
      )
  back x (declares e segment at is) = (
    reasons.IsDeclared,
    in_four (item spaces.Element e, reasons.IsDeclared) (picked_back of_element m.elements e (item spaces.Element e, reasons.IsDeclared)
        (subst (λ (o : Option Element). MatchOption o ⊥ (λ (s : Element). Contains (element_roots m.config.keep_segments m.tables e s.kind) (item spaces.Element e, reasons.IsDeclared))) (sym at)
        (subst (λ kind. Contains (element_roots m.config.keep_segments m.tables e kind) (item spaces.Element e, reasons.IsDeclared)) (sym is) (first_in (item spaces.Element e, reasons.IsDeclared) [])))),
  )
  back x (is_pushed y c) = (reasons.IsPushed, in_five (y, reasons.IsPushed) (pushed_back pushed y c))

pub roots_listed : (m : Module) (pushed : List Item) (x : Item) → ((why : Reason) × Contains (root_list m pushed) (x, why)) ↔ Root m pushed x
roots_listed m pushed x = (λ h. forth m pushed x h.0 (in_parts m pushed (x, h.0) h.1), λ r. back m pushed x r)
