-- A second gc.
use Rattle.std.proofs.Common.{◌≡◌, ◌∙◌, ◌⊎◌, ◌<◌, ℕ, zero, suc, Bool, true, false, List, [], ◌∷◌, Option, Some, None, Contains, length, map, refl, sym, ap, subst, inl, inr, arith}
use Rattle.std.specs.Prelude.{◌++◌, IsSome, MatchOption, IfSome, is_some, slice_get, if◌then◌else◌}
use Rattle.std.specs.Option.{option_and_then}
use Rattle.std.proofs.lemmas.Bool.{false≢true}
use Rattle.wasm_formats.specs.declared.fault.Space.{Space}
use Rattle.wasm_formats.specs.declared.fault.Space.TheVariants as spaces
use Rattle.walrus_arena.specs.Arena.{Arena, item_at, IsLive}
use Rattle.walrus_items.specs.Items.{Item as TypeItem}
use Rattle.walrus_items.specs.declared.local.Local.{Local}
use Rattle.walrus_types.specs.Table.{Table as TypeTable, HasMember, type_at}
use Rattle.walrus_types.proofs.DeleteLemmas.{filter-contains}
use Rattle.walrus_forms.specs.Kinds.{kind_names}
use Rattle.walrus_passes.specs.walrus_exact.Exact.{form_exact, table_exact, global_exact, element_exact, data_exact, val_exact}
use Rattle.walrus_passes.specs.walrus_refusals.walrus_used.walrus_module_items.declared.global.Global.{Global}
use Rattle.walrus_forms.specs.Forms.{params_of}
use Rattle.walrus_instr.specs.declared.const_expr.ConstExpr.{ConstExpr}
use Rattle.walrus_passes.specs.walrus_refusals.walrus_used.walrus_local_function.declared.local_function.LocalFunction.{LocalFunction}
use Rattle.walrus_passes.specs.walrus_refusals.walrus_used.walrus_module_items.declared.import.Import.{Import}
use Rattle.walrus_passes.specs.walrus_refusals.walrus_used.walrus_module_items.declared.function.Function.{Function}
use Rattle.walrus_passes.specs.walrus_refusals.walrus_used.walrus_module_items.declared.function.FunctionKind.{FunctionKind}
use Rattle.walrus_passes.specs.walrus_refusals.walrus_used.walrus_module_items.declared.function.FunctionKind.TheVariants as functions
use Rattle.walrus_passes.specs.walrus_refusals.walrus_used.walrus_module_items.declared.table.Table.{Table}
use Rattle.walrus_passes.specs.walrus_refusals.walrus_used.walrus_module_items.declared.memory.Memory.{Memory}
use Rattle.walrus_passes.specs.walrus_refusals.walrus_used.walrus_module_items.declared.data.Data.{Data}
use Rattle.walrus_passes.specs.walrus_refusals.walrus_used.walrus_module_items.declared.element.Element.{Element}
use Rattle.walrus_passes.specs.walrus_refusals.walrus_used.walrus_module_items.declared.element.ElementKind.TheVariants as elements
use Rattle.walrus_passes.specs.walrus_refusals.walrus_used.walrus_module_items.Functions.{type_of}
use Rattle.walrus_passes.specs.walrus_refusals.walrus_used.walrus_module.Parts.{Module}
use Rattle.walrus_passes.specs.walrus_refusals.walrus_used.walrus_module.Items.{Lives, LivesIn, written, brought}
use Rattle.walrus_linked.specs.Linked.{HasArguments, import_in}
use Rattle.walrus_roots.specs.declared.item.Item.{Item}
use Rattle.walrus_roots.specs.Items.{item, space_number}
use Rattle.walrus_marks.specs.Chains.{root, refers}
use Rattle.walrus_passes.specs.walrus_refusals.walrus_used.walrus_references.References.{RefersIn, Named, named_by, type_items, function_items, table_items, global_items, tag_items, element_items, data_items, place_items, held_items, local_items, IsInGroup, HasElement, HasData, IsActiveIn, IsCopiedInto, KindNames}
use Rattle.walrus_passes.specs.walrus_refusals.walrus_used.walrus_references.Roots.{Root, exports, starts, is_active, fills_import, fills_any, declares, is_pushed}
use Rattle.walrus_passes.specs.walrus_refusals.walrus_used.walrus_references.Kept.{IsReached, IsSpared, Kept}
use Rattle.walrus_passes.specs.walrus_refusals.walrus_used.walrus_references.Refused.{IsTreeIn, HasTree}
use Rattle.walrus_passes.specs.walrus_refusals.Asked.{Linked, IsBrought, IsWholeIn, HasBody}
use Rattle.walrus_passes.specs.walrus_refusals.Sound.{AllReached, IsSound}
use Rattle.walrus_passes.specs.walrus_refusals.Written.{MayName, StaysIn, IsUnsharedIn, HasNone, KindHasNone, HasNoExactIn}
use Rattle.walrus_passes.specs.Part.{IsKeptPart, Rest, left_of}
use Rattle.walrus_pass_laws.specs.Twice.{NothingToDrop, GcTwice}

-- ---- one collection
module _ {T : Type 0} (stays : ℕ → Type 0) (old new : Arena T) (rest : Rest (λ id _. stays id) old new) (id : ℕ) where
  same_if : stays id → (o p : Option T) → item_at old id ≡ o → item_at new id ≡ p → item_at new id ≡ item_at old id
  same_if s (Some x) p is at = rest.each id x is s ∙ sym is
  same_if s None (Some y) is at = (let before = rest.only id y at in absurd (let e : None ≡ Some y = sym is ∙ before in cc))
  same_if s None None is at = at ∙ sym is

  -- what stays is as it was
  pub same_slot : stays id → item_at new id ≡ item_at old id
  same_slot s = same_if s (item_at old id) (item_at new id) refl refl

  came_if : (o : Option T) → item_at new id ≡ o → IsSome o → stays id
  came_if None is some = absurd (false≢true some)
  came_if (Some x) is some = rest.stay id x tt is

  -- what is there stayed
  pub stayed : IsLive new id → stays id
  stayed live = came_if (item_at new id) refl live

  was_if : (P : T → Type 0) (o : Option T) → item_at new id ≡ o → MatchOption o ⊥ P → MatchOption (item_at old id) ⊥ P
  was_if P None is h = absurd h
  was_if P (Some x) is h = subst (λ (p : Option T). MatchOption p ⊥ P) (sym (rest.only id x is)) h

  -- what is so of what is there was so
  pub was : (P : T → Type 0) → MatchOption (item_at new id) ⊥ P → MatchOption (item_at old id) ⊥ P
  was P h = was_if P (item_at new id) refl h

  live_if : (o : Option T) → item_at new id ≡ o → IsSome o → IsLive old id
  live_if None is some = absurd (false≢true some)
  live_if (Some x) is some = subst IsSome (sym (rest.only id x is)) refl

  pub was_live : IsLive new id → IsLive old id
  was_live live = live_if (item_at new id) refl live

some_if : {A : Type 0} (o : Option A) (x : A) → o ≡ Some x → IsSome o
some_if o x is = subst IsSome (sym is) refl

some_then : {A B : Type 0} (f : A → Option B) (o : Option A) (b : B) → option_and_then f o ≡ Some b → IsSome o
some_then f None b h = (let no : None ≡ Some b = h in absurd cc)
some_then f (Some x) b h = refl

same_space : (s : Space) (x y : Item) → x ≡ y → x.space ≡ y.space
same_space s x y e = ap (λ (z : Item). z.space) e

-- ---- what a type names
type_there : (o : Option TypeItem) → IsSome (written o) → IsSome o
type_there None h = h
type_there (Some ty) h = refl

in_map : (f : ℕ → Item) (xs : List ℕ) (x : ℕ) → Contains xs x → Contains (map f xs) (f x)
in_map f [] x (k, less, at) = absurd (omega (arith, less))
in_map f (y ∷ ys) x (zero, less, at) = (0, omega arith, ap f at)
in_map f (y ∷ ys) x (suc k, less, at) = (let h = in_map f ys x (k, omega (arith, less), at) in (suc h.0, omega (arith, h.1), h.2))

own_names : (ty : TypeItem) → IsSome (written (Some ty)) → (name : ℕ) → Contains (kind_names ty.kind) name → Contains (named_by type_items (written (Some ty))) (item spaces.Type name)
own_names ty lives name c = by_entry ty.kind.entry lives
  where
    by_entry : (b : Bool) → IsSome (if b then None else Some ty) → Contains (named_by type_items (if b then None else Some ty)) (item spaces.Type name)
    by_entry true h = absurd (false≢true h)
    by_entry false h = in_map (item spaces.Type) (kind_names ty.kind) name c

module _ (m n : Module) (pushed : List Item) (part : IsKeptPart m pushed n) where
  abbrev Stays : Space → ℕ → Type 0
  Stays space id = Kept m pushed (item space id)

  pub locals_same : n.locals ≡ m.locals
  locals_same = ap (λ (k : Module). k.locals) part.others

  keep_same : n.config.keep_segments ≡ m.config.keep_segments
  keep_same = ap (λ (k : Module). k.config.keep_segments) part.others

  pub exports_same : n.exports ≡ m.exports
  exports_same = ap (λ (k : Module). k.exports) part.others

  pub start_same : n.start ≡ m.start
  start_same = ap (λ (k : Module). k.start) part.others

  pub functions_same : (id : ℕ) → Stays spaces.Function id → item_at n.funcs id ≡ item_at m.funcs id
  functions_same id k = same_slot (Stays spaces.Function) m.funcs n.funcs part.funcs id k

  pub tables_same : (id : ℕ) → Stays spaces.Table id → item_at n.tables id ≡ item_at m.tables id
  tables_same id k = same_slot (Stays spaces.Table) m.tables n.tables part.tables id k

  pub memories_same : (id : ℕ) → Stays spaces.Memory id → item_at n.memories id ≡ item_at m.memories id
  memories_same id k = same_slot (Stays spaces.Memory) m.memories n.memories part.memories id k

  pub tags_same : (id : ℕ) → Stays spaces.Tag id → item_at n.tags id ≡ item_at m.tags id
  tags_same id k = same_slot (Stays spaces.Tag) m.tags n.tags part.tags id k

  pub globals_same : (id : ℕ) → Stays spaces.Global id → item_at n.globals id ≡ item_at m.globals id
  globals_same id k = same_slot (Stays spaces.Global) m.globals n.globals part.globals id k

  pub elements_same : (id : ℕ) → Stays spaces.Element id → item_at n.elements id ≡ item_at m.elements id
  elements_same id k = same_slot (Stays spaces.Element) m.elements n.elements part.elements id k

  pub data_same : (id : ℕ) → Stays spaces.Data id → item_at n.data_segments id ≡ item_at m.data_segments id
  data_same id k = same_slot (Stays spaces.Data) m.data_segments n.data_segments part.data_segments id k

  -- ---- what stays names what it named
  group_forth : (id : ℕ) (y : Item) → Stays spaces.Type id → IsInGroup m.types id y → IsInGroup n.types id y
  group_forth id y k (group, has, ex, c) = (group, record { place = has.place; live = part.types.groups has.place group has.live ex id has.listed k; listed = has.listed }, ex, c)

  group_back : (id : ℕ) (y : Item) → IsInGroup n.types id y → IsInGroup m.types id y
  group_back id y (group, has, ex, c) = (group, record { place = has.place; live = part.types.only_groups has.place group has.live ex; listed = has.listed }, ex, c)

  element_forth : (id : ℕ) (t : Table) (y : Item) → Kept m pushed y → HasElement m id t y → HasElement n id t y
  element_forth id t y k (e, is, inl act) = (e, is, inl (subst (λ (o : Option Element). MatchOption o ⊥ (λ x. IsActiveIn id x.kind)) (sym (elements_same e (subst (Kept m pushed) is k))) act))
  element_forth id t y k (e, is, inr (listed, live)) = (e, is, inr (listed, subst IsSome (sym (elements_same e (subst (Kept m pushed) is k))) live))

  element_back : (id : ℕ) (t : Table) (y : Item) → HasElement n id t y → HasElement m id t y
  element_back id t y (e, is, inl act) = (e, is, inl (was (Stays spaces.Element) m.elements n.elements part.elements e (λ x. IsActiveIn id x.kind) act))
  element_back id t y (e, is, inr (listed, live)) = (e, is, inr (listed, was_live (Stays spaces.Element) m.elements n.elements part.elements e live))

  data_forth : (id : ℕ) (x : Memory) (y : Item) → Kept m pushed y → HasData m id x y → HasData n id x y
  data_forth id x y k (d, is, inl act) = (d, is, inl (subst (λ (o : Option Data). MatchOption o ⊥ (λ s. IsCopiedInto id s.kind)) (sym (data_same d (subst (Kept m pushed) is k))) act))
  data_forth id x y k (d, is, inr (listed, live)) = (d, is, inr (listed, subst IsSome (sym (data_same d (subst (Kept m pushed) is k))) live))

  data_back : (id : ℕ) (x : Memory) (y : Item) → HasData n id x y → HasData m id x y
  data_back id x y (d, is, inl act) = (d, is, inl (was (Stays spaces.Data) m.data_segments n.data_segments part.data_segments d (λ s. IsCopiedInto id s.kind) act))
  data_back id x y (d, is, inr (listed, live)) = (d, is, inr (listed, was_live (Stays spaces.Data) m.data_segments n.data_segments part.data_segments d live))

  named_table : (id : ℕ) (o : Option Table) (y : Item) → Kept m pushed y → Named o (λ t. HasElement m id t y) → Named o (λ t. HasElement n id t y)
  named_table id None y k h = h
  named_table id (Some t) y k h = element_forth id t y k h

  table_named : (id : ℕ) (o : Option Table) (y : Item) → Named o (λ t. HasElement n id t y) → Named o (λ t. HasElement m id t y)
  table_named id None y h = h
  table_named id (Some t) y h = element_back id t y h

  named_memory : (id : ℕ) (o : Option Memory) (y : Item) → Kept m pushed y → Named o (λ x. HasData m id x y) → Named o (λ x. HasData n id x y)
  named_memory id None y k h = h
  named_memory id (Some x) y k h = data_forth id x y k h

  memory_named : (id : ℕ) (o : Option Memory) (y : Item) → Named o (λ x. HasData n id x y) → Named o (λ x. HasData m id x y)
  memory_named id None y h = h
  memory_named id (Some x) y h = data_back id x y h

  names_forth : (space : Space) (id : ℕ) (y : Item) → Stays space id → Kept m pushed y → RefersIn m space id y → RefersIn n space id y
  names_forth spaces.Type id y k l (inl c) = inl (subst (λ (o : Option TypeItem). Contains (named_by type_items (written o)) y) (sym (part.types.each id k)) c)
  names_forth spaces.Type id y k l (inr h) = inr (group_forth id y k h)
  names_forth spaces.Function id y k l h = subst (λ (o : Option Function). Contains (named_by function_items o) y ⊎ Named o (λ f. KindNames f.kind y)) (sym (functions_same id k)) h
  names_forth spaces.Table id y k l (inl c) = inl (subst (λ (o : Option Table). Contains (named_by table_items o) y) (sym (tables_same id k)) c)
  names_forth spaces.Table id y k l (inr h) = inr (named_table id (item_at n.tables id) y l (subst (λ (o : Option Table). Named o (λ t. HasElement m id t y)) (sym (tables_same id k)) h))
  names_forth spaces.Memory id y k l h = named_memory id (item_at n.memories id) y l (subst (λ (o : Option Memory). Named o (λ x. HasData m id x y)) (sym (memories_same id k)) h)
  names_forth spaces.Tag id y k l h = subst (λ o. Contains (named_by tag_items o) y) (sym (tags_same id k)) h
  names_forth spaces.Global id y k l h = subst (λ o. Contains (named_by global_items o) y) (sym (globals_same id k)) h
  names_forth spaces.Element id y k l h = subst (λ o. Contains (named_by element_items o) y) (sym (elements_same id k)) h
  names_forth spaces.Data id y k l h = subst (λ (o : Option Data). Contains (named_by (λ d. data_items d.kind) o) y) (sym (data_same id k)) h
  names_forth spaces.Local id y k l h = subst (λ ls. Contains (named_by local_items (slice_get ls id)) y) (sym locals_same) h
  names_forth spaces.Label id y k l h = h

  names_back : (space : Space) (id : ℕ) (y : Item) → Stays space id → RefersIn n space id y → RefersIn m space id y
  names_back spaces.Type id y k (inl c) = inl (subst (λ (o : Option TypeItem). Contains (named_by type_items (written o)) y) (part.types.each id k) c)
  names_back spaces.Type id y k (inr h) = inr (group_back id y h)
  names_back spaces.Function id y k h = subst (λ (o : Option Function). Contains (named_by function_items o) y ⊎ Named o (λ f. KindNames f.kind y)) (functions_same id k) h
  names_back spaces.Table id y k (inl c) = inl (subst (λ (o : Option Table). Contains (named_by table_items o) y) (tables_same id k) c)
  names_back spaces.Table id y k (inr h) = inr (subst (λ (o : Option Table). Named o (λ t. HasElement m id t y)) (tables_same id k) (table_named id (item_at n.tables id) y h))
  names_back spaces.Memory id y k h = subst (λ (o : Option Memory). Named o (λ x. HasData m id x y)) (memories_same id k) (memory_named id (item_at n.memories id) y h)
  names_back spaces.Tag id y k h = subst (λ o. Contains (named_by tag_items o) y) (tags_same id k) h
  names_back spaces.Global id y k h = subst (λ o. Contains (named_by global_items o) y) (globals_same id k) h
  names_back spaces.Element id y k h = subst (λ o. Contains (named_by element_items o) y) (elements_same id k) h
  names_back spaces.Data id y k h = subst (λ (o : Option Data). Contains (named_by (λ d. data_items d.kind) o) y) (data_same id k) h
  names_back spaces.Local id y k h = subst (λ ls. Contains (named_by local_items (slice_get ls id)) y) locals_same h
  names_back spaces.Label id y k h = h

  -- ---- roots
  pub first_in : (x : Item) (xs : List Item) → Contains (x ∷ xs) x
  first_in x xs = (0, omega arith, refl)

  fills_table : (e t : ℕ) (offset : ConstExpr) (segment : Element) → item_at m.elements e ≡ Some segment → segment.kind ≡ elements.Active t offset → Contains (named_by element_items (item_at m.elements e)) (item spaces.Table t)
  fills_table e t offset segment at is =
      subst (λ o. Contains (named_by element_items o) (item spaces.Table t)) (sym at) (subst (λ k. Contains (place_items k ++ held_items segment.items) (item spaces.Table t)) (sym is) (first_in (item spaces.Table t) _))

  root_forth : (x : Item) → Root m pushed x → Root n pushed x
  root_forth x (exports e export at) = exports e export (ap (λ a. item_at a e) exports_same ∙ at)
  root_forth x (starts f at) = starts f (start_same ∙ at)
  root_forth x (is_active d memory offset segment at is) = is_active d memory offset segment (data_same d (inl (root (is_active d memory offset segment at is))) ∙ at) is
  root_forth x (fills_import e t offset segment table at is held brings) =
      let r : IsReached m pushed (item spaces.Element e) = root (fills_import e t offset segment table at is held brings) in
      fills_import e t offset segment table (elements_same e (inl r) ∙ at) is (tables_same t (inl (refers r (fills_table e t offset segment at is))) ∙ held) brings
  root_forth x (fills_any e t offset segment all at is) =
      fills_any e t offset segment (keep_same ∙ all) (elements_same e (inl (root (fills_any e t offset segment all at is))) ∙ at) is
  root_forth x (declares e segment at is) = declares e segment (elements_same e (inl (root (declares e segment at is))) ∙ at) is
  root_forth x (is_pushed y c) = is_pushed y c

  root_back : (x : Item) → Root n pushed x → Root m pushed x
  root_back x (exports e export at) = exports e export (ap (λ a. item_at a e) (sym exports_same) ∙ at)
  root_back x (starts f at) = starts f (sym start_same ∙ at)
  root_back x (is_active d memory offset segment at is) = is_active d memory offset segment (part.data_segments.only d segment at) is
  root_back x (fills_import e t offset segment table at is held brings) = fills_import e t offset segment table (part.elements.only e segment at) is (part.tables.only t table held) brings
  root_back x (fills_any e t offset segment all at is) = fills_any e t offset segment (sym keep_same ∙ all) (part.elements.only e segment at) is
  root_back x (declares e segment at is) = declares e segment (part.elements.only e segment at) is
  root_back x (is_pushed y c) = is_pushed y c

  pub reached_forth : (x : Item) → IsReached m pushed x → IsReached n pushed x
  reached_forth x (root r) = root (root_forth x r)
  reached_forth y (refers {x} k r) = refers (reached_forth x k) (names_forth x.space x.id y (inl k) (inl (refers k r)) r)

  pub reached_back : (x : Item) → IsReached n pushed x → IsReached m pushed x
  reached_back x (root r) = root (root_back x r)
  reached_back y (refers {x} k r) = (let before = reached_back x k in refers before (names_back x.space x.id y (inl before) r))

  -- ---- what is kept
  spared_forth : (x : Item) → IsSpared m pushed x → IsSpared n pushed x
  spared_forth x p = record {
    memory = p.memory;
    is = p.is;
    first = record {
      live = subst IsSome (sym (memories_same p.memory (subst (Kept m pushed) p.is (inr p)))) p.first.live;
      first = λ other below live. p.first.first other below (was_live (Stays spaces.Memory) m.memories n.memories part.memories other live);
    };
    segment = p.segment;
    has_data = reached_forth (item spaces.Data p.segment) p.has_data;
    no_memory = λ other r. p.no_memory other (reached_back (item spaces.Memory other) r);
  }

  spared_back : (x : Item) → IsSpared n pushed x → Kept m pushed x
  spared_back x p = subst (Kept m pushed) (sym p.is) (stayed (Stays spaces.Memory) m.memories n.memories part.memories p.memory p.first.live)

  pub kept_forth : (x : Item) → Kept m pushed x → Kept n pushed x
  kept_forth x k = elim k as (λ _. Kept n pushed x) [ inl r ↦ inl (reached_forth x r) | inr p ↦ inr (spared_forth x p) ]

  pub kept_back : (x : Item) → Kept n pushed x → Kept m pushed x
  kept_back x k = elim k as (λ _. Kept m pushed x) [ inl r ↦ inl (reached_back x r) | inr p ↦ spared_back x p ]

  -- ---- what lives
  pub was_kept : (space : Space) (id : ℕ) → space_number space < 8 → LivesIn n space id → Stays space id
  was_kept spaces.Type id low h = part.types.stay id tt h
  was_kept spaces.Function id low h = stayed (Stays spaces.Function) m.funcs n.funcs part.funcs id h
  was_kept spaces.Table id low h = stayed (Stays spaces.Table) m.tables n.tables part.tables id h
  was_kept spaces.Memory id low h = stayed (Stays spaces.Memory) m.memories n.memories part.memories id h
  was_kept spaces.Tag id low h = stayed (Stays spaces.Tag) m.tags n.tags part.tags id h
  was_kept spaces.Global id low h = stayed (Stays spaces.Global) m.globals n.globals part.globals id h
  was_kept spaces.Element id low h = stayed (Stays spaces.Element) m.elements n.elements part.elements id h
  was_kept spaces.Data id low h = stayed (Stays spaces.Data) m.data_segments n.data_segments part.data_segments id h
  was_kept spaces.Local id low h = absurd (omega (arith, low))
  was_kept spaces.Label id low h = absurd (omega (arith, low))

  pub lives_on : (space : Space) (id : ℕ) → Stays space id → LivesIn m space id → LivesIn n space id
  lives_on spaces.Type id k h = subst (λ (o : Option TypeItem). IsSome (written o)) (sym (part.types.each id k)) h
  lives_on spaces.Function id k h = subst IsSome (sym (functions_same id k)) h
  lives_on spaces.Table id k h = subst IsSome (sym (tables_same id k)) h
  lives_on spaces.Memory id k h = subst IsSome (sym (memories_same id k)) h
  lives_on spaces.Tag id k h = subst IsSome (sym (tags_same id k)) h
  lives_on spaces.Global id k h = subst IsSome (sym (globals_same id k)) h
  lives_on spaces.Element id k h = subst IsSome (sym (elements_same id k)) h
  lives_on spaces.Data id k h = subst IsSome (sym (data_same id k)) h
  lives_on spaces.Local id k h = subst (λ ls. id < length ls) (sym locals_same) h
  lives_on spaces.Label id k h = h

  -- ---- imports
  pub import_same : (space : Space) (id : ℕ) → Stays space id → import_in n space id ≡ import_in m space id
  import_same spaces.Type id k = refl
  import_same spaces.Function id k = ap (option_and_then _) (functions_same id k)
  import_same spaces.Table id k = ap (option_and_then _) (tables_same id k)
  import_same spaces.Memory id k = ap (option_and_then _) (memories_same id k)
  import_same spaces.Tag id k = ap (option_and_then _) (tags_same id k)
  import_same spaces.Global id k = ap (option_and_then _) (globals_same id k)
  import_same spaces.Element id k = refl
  import_same spaces.Data id k = refl
  import_same spaces.Local id k = refl
  import_same spaces.Label id k = refl

  brought_if : (x : Item) → Kept m pushed x → (i : ℕ) (o : Option Import) → item_at m.imports i ≡ o → MatchOption o ⊥ (λ import. brought import.kind ≡ x) → MatchOption (item_at n.imports i) ⊥ (λ import. brought import.kind ≡ x)
  brought_if x k i None at h = absurd h
  brought_if x k i (Some import) at h = subst (λ (o : Option Import). MatchOption o ⊥ (λ import. brought import.kind ≡ x)) (sym (part.imports.each i import at (subst (Kept m pushed) (sym h) k))) h

  brought_on : (x : Item) → Kept m pushed x → (named : Option ℕ) → IsBrought m.imports x named → IsBrought n.imports x named
  brought_on x k None h = h
  brought_on x k (Some i) h = brought_if x k i (item_at m.imports i) refl h

  -- ---- functions
  has_arguments : (local : LocalFunction) → Stays spaces.Type local.builder.ty → HasArguments m.types local → HasArguments n.types local
  has_arguments local k h = record {
    distinct = h.distinct;
    counted = subst (λ (o : Option TypeItem). IfSome o (λ ty. length local.args.items ≡ length (params_of ty.kind.form))) (sym (part.types.each local.builder.ty k)) h.counted;
  }

  pub has_body : (kind : FunctionKind) → Stays spaces.Type (type_of kind) → HasBody m.types kind → HasBody n.types kind
  has_body (functions.Import imported) k h = h
  has_body (functions.Local local) k h = has_arguments local k h
  has_body (functions.Uninitialized ty) k h = h

  body_if : (id : ℕ) → IsReached m pushed (item spaces.Function id) → (o : Option Function) → item_at m.funcs id ≡ o → MatchOption o (Unit {0}) (λ f. HasBody m.types f.kind) → MatchOption o (Unit {0}) (λ f. HasBody n.types f.kind)
  body_if id r None at h = h
  body_if id r (Some f) at h =
      let names_type : RefersIn m spaces.Function id (item spaces.Type (type_of f.kind)) = inl (subst (λ (o : Option Function). Contains (named_by function_items o) (item spaces.Type (type_of f.kind))) (sym at) (first_in (item spaces.Type (type_of f.kind)) [])) in
      has_body f.kind (inl (refers r names_type)) h

  whole_on : (space : Space) (id : ℕ) → IsReached m pushed (item space id) → IsWholeIn m space id → IsWholeIn n space id
  whole_on spaces.Type id r h = h
  whole_on spaces.Function id r h = subst (λ (o : Option Function). MatchOption o (Unit {0}) (λ f. HasBody n.types f.kind)) (sym (functions_same id (inl r))) (body_if id r (item_at m.funcs id) refl h)
  whole_on spaces.Table id r h = h
  whole_on spaces.Memory id r h = h
  whole_on spaces.Tag id r h = h
  whole_on spaces.Global id r h = h
  whole_on spaces.Element id r h = h
  whole_on spaces.Data id r h = h
  whole_on spaces.Local id r h = h
  whole_on spaces.Label id r h = h

  tree_on : (space : Space) (id : ℕ) → Stays space id → IsTreeIn m space id → IsTreeIn n space id
  tree_on spaces.Type id k h = h
  tree_on spaces.Function id k h = subst (λ (o : Option Function). MatchOption o (Unit {0}) (λ f. HasTree f.kind)) (sym (functions_same id k)) h
  tree_on spaces.Table id k h = h
  tree_on spaces.Memory id k h = h
  tree_on spaces.Tag id k h = h
  tree_on spaces.Global id k h = h
  tree_on spaces.Element id k h = h
  tree_on spaces.Data id k h = h
  tree_on spaces.Local id k h = h
  tree_on spaces.Label id k h = h

  -- ---- types in their order, and forms that stand in no file
  may_name_on : (id name : ℕ) → LivesIn n spaces.Type id → LivesIn n spaces.Type name → MayName m.types id name → MayName n.types id name
  may_name_on id name live too (inl e) = inl e
  may_name_on id name live too (inr (group, has, c)) =
      let lives : ℕ → Bool = λ k. is_some (type_at n.types k) in
      let there = type_there (type_at n.types id) live in
      let here : HasMember n.types id (left_of n.types group) = record { place = has.place; live = part.types.rest has.place group has.live id has.listed there; listed = filter-contains lives group.types id has.listed there } in
      inr (left_of n.types group, here, filter-contains lives group.types name c (type_there (type_at n.types name) too))

  abbrev NamesWithin : TypeTable → ℕ → Option TypeItem → Type 0
  NamesWithin t id o = MatchOption o (Unit {0}) (λ ty. (name : ℕ) → Contains (kind_names ty.kind) name → MayName t id name)

  module _ (live : AllReached m pushed (Lives m)) where
    lives_still : (id : ℕ) → IsReached m pushed (item spaces.Type id) → LivesIn n spaces.Type id
    lives_still id r = lives_on spaces.Type id (inl r) (live (item spaces.Type id) r)

    -- what a reached type names is reached
    name_reached : (id : ℕ) (ty : TypeItem) → type_at m.types id ≡ Some ty → IsReached m pushed (item spaces.Type id) → (name : ℕ) → Contains (kind_names ty.kind) name → IsReached m pushed (item spaces.Type name)
    name_reached id ty at r name c =
        let lives : IsSome (written (Some ty)) = subst (λ (o : Option TypeItem). IsSome (written o)) at (live (item spaces.Type id) r) in
        refers r (inl (subst (λ (o : Option TypeItem). Contains (named_by type_items (written o)) (item spaces.Type name)) (sym at) (own_names ty lives name c)))

    within_on : (id : ℕ) → IsReached m pushed (item spaces.Type id) → (o : Option TypeItem) → type_at m.types id ≡ o → NamesWithin m.types id o → NamesWithin n.types id o
    within_on id r None at h = h
    within_on id r (Some ty) at h = λ name c. may_name_on id name (lives_still id r) (lives_still name (name_reached id ty at r name c)) (h name c)

  stays_on : AllReached m pushed (Lives m) → (space : Space) (id : ℕ) → IsReached m pushed (item space id) → StaysIn m space id → StaysIn n space id
  stays_on live spaces.Type id r h = subst (NamesWithin n.types id) (sym (part.types.each id (inl r))) (within_on live id r (type_at m.types id) refl h)
  stays_on live spaces.Function id r h = h
  stays_on live spaces.Table id r h = h
  stays_on live spaces.Memory id r h = h
  stays_on live spaces.Tag id r h = h
  stays_on live spaces.Global id r h = h
  stays_on live spaces.Element id r h = h
  stays_on live spaces.Data id r h = h
  stays_on live spaces.Local id r h = h
  stays_on live spaces.Label id r h = h

  unshared_on : (space : Space) (id : ℕ) → Stays space id → IsUnsharedIn m space id → IsUnsharedIn n space id
  unshared_on spaces.Type id k h = h
  unshared_on spaces.Function id k h = h
  unshared_on spaces.Table id k h = h
  unshared_on spaces.Memory id k h = h
  unshared_on spaces.Tag id k h = h
  unshared_on spaces.Global id k h = subst (λ (o : Option Global). MatchOption o (Unit {0}) (λ g. g.shared ≡ false)) (sym (globals_same id k)) h
  unshared_on spaces.Element id k h = h
  unshared_on spaces.Data id k h = h
  unshared_on spaces.Local id k h = h
  unshared_on spaces.Label id k h = h

  inexact_on : (space : Space) (id : ℕ) → Stays space id → HasNoExactIn m space id → HasNoExactIn n space id
  inexact_on spaces.Type id k h = subst (HasNone (λ (ty : TypeItem). form_exact ty.kind.form)) (sym (part.types.each id k)) h
  inexact_on spaces.Function id k h = subst (λ (o : Option Function). MatchOption o (Unit {0}) (λ f. KindHasNone f.kind)) (sym (functions_same id k)) h
  inexact_on spaces.Table id k h = subst (HasNone table_exact) (sym (tables_same id k)) h
  inexact_on spaces.Memory id k h = h
  inexact_on spaces.Tag id k h = h
  inexact_on spaces.Global id k h = subst (HasNone global_exact) (sym (globals_same id k)) h
  inexact_on spaces.Element id k h = subst (HasNone element_exact) (sym (elements_same id k)) h
  inexact_on spaces.Data id k h = subst (HasNone (λ (d : Data). data_exact d.kind)) (sym (data_same id k)) h
  inexact_on spaces.Local id k h = subst (λ (ls : List Local). HasNone (λ (l : Local). val_exact l.ty) (slice_get ls id)) (sym locals_same) h
  inexact_on spaces.Label id k h = h

  linked_on : (x : Item) → IsReached m pushed x → Linked m x → Linked n x
  linked_on x r h = record {
    own = (subst (IsBrought n.imports x) (sym (import_same x.space x.id (inl r))) (brought_on x (inl r) (import_in m x.space x.id) h.own.0), whole_on x.space x.id r h.own.1);
    named_back = λ i import at is. import_same x.space x.id (inl r) ∙ h.named_back i import (part.imports.only i import at) is;
  }

  pub nothing : IsSound m pushed → NothingToDrop m n pushed
  nothing sound = record {
    sound = record {
      linked = λ x r. (let before = reached_back x r in linked_on x before (sound.linked x before));
      trees = λ x r. (let before = reached_back x r in tree_on x.space x.id (inl before) (sound.trees x before));
      live = λ x r. (let before = reached_back x r in lives_on x.space x.id (inl before) (sound.live x before));
      grouped = λ x r. (let before = reached_back x r in stays_on sound.live x.space x.id before (sound.grouped x before));
      unshared = λ x r. (let before = reached_back x r in unshared_on x.space x.id (inl before) (sound.unshared x before));
      inexact = λ x r. (let before = reached_back x r in inexact_on x.space x.id (inl before) (sound.inexact x before));
    };
    same = λ x. (kept_forth x, kept_back x);
    all_kept = λ x low h. kept_forth x (was_kept x.space x.id low h);
    imports_kept = λ i import at. kept_forth (brought import.kind) (part.imports.stay i import tt at);
  }

pub gc_twice : GcTwice
gc_twice m n pushed sound part = nothing m n pushed part sound
