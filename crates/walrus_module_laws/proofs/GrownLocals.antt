-- More locals: what was linked stays so, since bodies name none that isn't there.
use Rattle.std.proofs.Common.{◌≡◌, ◌∙◌, ◌<◌, ℕ, zero, suc, List, [], ◌∷◌, ◌++◌, length, Option, Some, Contains, refl, sym, ap, subst, inl, length-append, arith}
use Rattle.std.specs.List.{slice_get}
use Rattle.std.proofs.lemmas.List.Elements.{Contains-append_left, Contains-append_right}
use Rattle.walrus_arena.specs.Arena.{item_at}
use Rattle.walrus_items.specs.declared.local.Local.{Local}
use Rattle.walrus_walks.specs.Events.{Event, NamesLocal, NamesType, events_of}
use Rattle.walrus_linked.specs.walrus_module_items.declared.function.Function.{Function}
use Rattle.walrus_linked.specs.walrus_module_items.declared.function.FunctionKind.{FunctionKind}
use Rattle.walrus_linked.specs.walrus_module_items.declared.function.FunctionKind.TheVariants as functions
use Rattle.walrus_linked.specs.walrus_module_items.Functions.{type_of}
use Rattle.wasm_formats.specs.declared.fault.Space.{Space}
use Rattle.wasm_formats.specs.declared.fault.Space.TheVariants as spaces
use Rattle.walrus_linked.specs.walrus_module.Parts.{Module}
use Rattle.walrus_roots.specs.declared.item.Item.{Item}
use Rattle.walrus_roots.specs.Items.{item}
use Rattle.walrus_marks.specs.Named.{items_of, event_items}
use Rattle.walrus_linked.specs.walrus_module.Items.{Lives}
use Rattle.walrus_linked.specs.Names.{local_names, used_types, body_events, body_names, function_names, named_by}
use Rattle.walrus_linked.specs.Linked.{IsLinked}
use Rattle.walrus_linked.proofs.SlotLemmas.{some_of, is_some_at}
use Rattle.walrus_module_laws.proofs.NameLemmas.{here, first_part, last_part}
use Rattle.walrus_module_laws.proofs.ChangeLemmas.{InSpace, after_change, none_has}

module _ (ls more : List Local) where
  get_kept : (xs : List Local) (id : ℕ) → id < length xs → slice_get (xs ++ more) id ≡ slice_get xs id
  get_kept [] id less = absurd (omega (arith, less))
  get_kept (x ∷ xs) zero less = refl
  get_kept (x ∷ xs) (suc id) less = get_kept xs id (omega (arith, less))

  type_kept : (e : Event) → ((id : ℕ) → Contains (event_items e) (item spaces.Local id) → id < length ls) → used_types (ls ++ more) e ≡ used_types ls e
  type_kept (NamesLocal id) known = ap local_names (get_kept ls id (known id (here (item spaces.Local id) [])))
  type_kept _ known = refl

  types_kept : (es : List Event) → ((id : ℕ) → Contains (items_of es) (item spaces.Local id) → id < length ls) → events_of (used_types (ls ++ more)) es ≡ events_of (used_types ls) es
  types_kept [] known = refl
  types_kept (e ∷ es) known =
      ap (λ (xs : List Event). xs ++ events_of (used_types (ls ++ more)) es) (type_kept e (λ id has. known id (Contains-append_left (event_items e) (items_of es) (item spaces.Local id) has)))
      ∙ ap (λ (xs : List Event). used_types ls e ++ xs) (types_kept es (λ id has. known id (Contains-append_right (event_items e) (items_of es) (item spaces.Local id) has)))

module _ (m : Module) (more : List Local) where
  abbrev n : Module
  n = record m { locals = m.locals ++ more }

  body_kept : (kind : FunctionKind) → ((y : Item) → Contains (items_of (body_names m.locals kind)) y → Lives m y) → body_names n.locals kind ≡ body_names m.locals kind
  body_kept (functions.Local local) lives =
      let es = body_events local in
      ap (λ (xs : List Event). es ++ xs) (types_kept m.locals more es (λ id has. lives (item spaces.Local id) (first_part es (events_of (used_types m.locals) es) (item spaces.Local id) has)))
  body_kept (functions.Import _) lives = refl
  body_kept (functions.Uninitialized _) lives = refl

  function_kept : IsLinked m → (id : ℕ) (f : Function) → item_at m.funcs id ≡ Some f → function_names n.locals f ≡ function_names m.locals f
  function_kept l id f at =
      let N : Item → Option Function → Type 0 = λ y o. Contains (items_of (named_by (function_names m.locals) o)) y in
      let named : (y : Item) → Contains (items_of (body_names m.locals f.kind)) y → Lives m y = λ y has.
      l.named (item spaces.Function id) y (is_some_at (item_at m.funcs id) f at) (subst (N y) (sym at) (last_part (NamesType (type_of f.kind) ∷ []) (body_names m.locals f.kind) y has)) in
      ap (λ (xs : List Event). NamesType (type_of f.kind) ∷ xs) (body_kept f.kind named)

  pub in_space : IsLinked m → (s : Space) → InSpace m n s
  in_space l spaces.Type = record { import_kept = λ id i h. h; import_at = λ id i h. h; lives_kept = λ id h. h; named = λ id h y has. inl (h, has) }
  in_space l spaces.Function = record {
    import_kept = λ id i h. h;
    import_at = λ id i h. h;
    lives_kept = λ id h. h;
    named = λ id h y has.
        let f = some_of (item_at m.funcs id) h in
        let N : Option Function → Type 0 = λ o. Contains (items_of (named_by (function_names n.locals) o)) y in
        let M : Option Function → Type 0 = λ o. Contains (items_of (named_by (function_names m.locals) o)) y in
        let E : List Event → Type 0 = λ es. Contains (items_of es) y in
        inl (h, subst M (sym f.1) (subst E (function_kept l id f.0 f.1) (subst N f.1 has)));
  }
  in_space l spaces.Table = record { import_kept = λ id i h. h; import_at = λ id i h. h; lives_kept = λ id h. h; named = λ id h y has. inl (h, has) }
  in_space l spaces.Memory = record { import_kept = λ id i h. h; import_at = λ id i h. h; lives_kept = λ id h. h; named = λ id h y has. inl (h, has) }
  in_space l spaces.Tag = record { import_kept = λ id i h. h; import_at = λ id i h. h; lives_kept = λ id h. h; named = λ id h y has. inl (h, has) }
  in_space l spaces.Global = record { import_kept = λ id i h. h; import_at = λ id i h. h; lives_kept = λ id h. h; named = λ id h y has. inl (h, has) }
  in_space l spaces.Element = record { import_kept = λ id i h. h; import_at = λ id i h. h; lives_kept = λ id h. h; named = λ id h y has. inl (h, has) }
  in_space l spaces.Data = record { import_kept = λ id i h. h; import_at = λ id i h. h; lives_kept = λ id h. h; named = λ id h y has. inl (h, has) }
  in_space l spaces.Local = record {
    import_kept = λ id i h. h;
    import_at = λ id i h. h;
    lives_kept = λ id h. omega (arith, h, length-append m.locals more);
    named = λ id h y has. none_has y has;
  }
  in_space l spaces.Label = record { import_kept = λ id i h. h; import_at = λ id i h. h; lives_kept = λ id h. h; named = λ id h y has. inl (h, has) }

  pub locals_added : IsLinked m → IsLinked n
  locals_added l = after_change m n (record { imports_same = refl; spaces = in_space l; whole = l.whole; exported = λ e export at. inl at; start_same = refl; grouped = l.grouped }) l
