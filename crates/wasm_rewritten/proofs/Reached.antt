-- Lemmas: each item of what is written is reached there.
use Rattle.std.specs.Prelude.{ℕ, zero, suc, ◌≡◌, ◌⊎◌, ◌<◌, Bool, List, [], ◌∷◌, ◌++◌, length, map, Contains, MatchOption, Option, Some, None, IsSome, slice_get, slice_index_or, refl}
use Rattle.std.specs.Option.{option_map}
use Rattle.std.proofs.Common.{ap, sym, ◌∙◌, subst, arith, inl, inr}
use Rattle.std.proofs.lemmas.List.{length-map}
use Rattle.walrus_forms.specs.declared.value.ValType.{ValType}
use Rattle.wasm_features.specs.declared.WasmFeatures.{WasmFeatures}
use Rattle.wasm_formats.specs.declared.fault.Space.{Space as FileSpace}
use Rattle.wasm_formats.specs.declared.fault.Space.TheVariants as spaces
use Rattle.wasm_operators.specs.declared.block_type.BlockType.{BlockType}
use Rattle.wasm_operators.specs.Items.{Space, Functions, Tables, Memories, Tags, Globals, ElementSegments, DataSegments}
use Rattle.wasm_operators.specs.NameLaws.{NamesAreRenamed}
use Rattle.wasm_grammar.specs.Modules.{Item, Expr, Body, Function, Table, Memory, Mode, Passive, Declared, Active, Element, Segment, Module}
use Rattle.wasm_grammar.specs.States.{count_of}
use Rattle.wasm_references.specs.References.{Numbered, RefersIn, HasData, HasElement, IsActiveIn, body_items, element_items, expr_items, function_items, global_items, item, named_by, origin_items, segment_items, tag_items, table_items}
use Rattle.wasm_references.specs.Roots.{Root, exports, starts, is_active, fills_import, fills_any, declares, is_pushed}
use Rattle.wasm_references.specs.Kept.{IsReached, Kept, refers, root}
use Rattle.wasm_module_bytes.specs.Bytes.{origin_unplaced, slot_unplaced, without_places}
use Rattle.wasm_part.specs.Part.{IsIn, Plan, declaring, part, picked, renumbered_element, renumbered_export, renumbered_function, renumbered_global, renumbered_item, renumbered_memory, renumbered_mode, renumbered_segment, renumbered_table, renumbered_tag}
use Rattle.wasm_part.specs.Closed.{IsListed}
use Rattle.wasm_part.specs.Kept.{HasKept}
use Rattle.wasm_part.specs.Handlers.{handler_groups}
use Rattle.wasm_part.specs.Seen.{file_seen, seen_as}
use Rattle.wasm_part.proofs.Picked.{picked_at}
use Rattle.wasm_rewritten.specs.Rewritten.{WrittenIsReached}
use Rattle.wasm_rewritten.proofs.Goes.{Goes, IsNoType, element_goes, goes_at, goes_wider, memory_mode_goes, origin_goes, own_goes, table_goes, types_only, value_first}
use Rattle.wasm_rewritten.proofs.LocalsNamed.{Among, among, contained}

-- ---- slots

new_slot : {A : Type 0} (f : A → A) (xs : List (Option A)) (ns : List ℕ) (i n : ℕ) (x : A) → slice_get ns i ≡ Some n → slice_index_or xs n None ≡ Some x → slice_index_or (picked f ns xs) i None ≡ Some (f x)
new_slot f xs ns i n x at e = picked_at f xs ns i n at ∙ ap (λ (o : Option _). option_map f o) e

front_slot : {A : Type 0} (xs ys : List (Option A)) (i : ℕ) (x : A) → slice_index_or xs i None ≡ Some x → slice_index_or (xs ++ ys) i None ≡ Some x
front_slot [] ys i x e = absurd cc
front_slot (y ∷ xs) ys zero x e = e
front_slot (y ∷ xs) ys (suc i) x e = front_slot xs ys i x e

unplaced_slot : (xs : List (Option Function)) (i : ℕ) → slice_index_or (map slot_unplaced xs) i None ≡ slot_unplaced (slice_index_or xs i None)
unplaced_slot [] i = refl
unplaced_slot (x ∷ xs) zero = refl
unplaced_slot (x ∷ xs) (suc i) = unplaced_slot xs i

-- a function without its places
same_origin : (o : Option Function) (f : Function) → slot_unplaced o ≡ slot_unplaced (Some f) → (g : Function) × (o ≡ Some g) × (origin_unplaced g.origin ≡ origin_unplaced f.origin)
same_origin None f e = absurd cc
same_origin (Some g) f e = (g, refl, ap (λ (h : Function). h.origin) (some_is e))
  where
    some_is : {x y : Function} → (let some : Function → Option Function = λ x. Some x in some x ≡ some y) → x ≡ y
    some_is e = cc

pub found_at : {A : Type 0} (xs : List (Option A)) (n : ℕ) → IsSome (slice_index_or xs n None) → (x : A) × (slice_index_or xs n None ≡ Some x)
found_at {A} xs n h = go (slice_index_or xs n None) h refl
  where
    go : (o : Option A) → IsSome o → slice_index_or xs n None ≡ o → (x : A) × (slice_index_or xs n None ≡ Some x)
    go None h e = absurd cc
    go (Some x) h e = (x, e)

is_item : {y : Item} {space : FileSpace} {n : ℕ} → y ≡ item space n → y.number ≡ n
is_item e = ap (λ (i : Item). i.number) e

-- ---- what is kept

module _ (features : WasmFeatures) (v : Numbered) (keep : Bool) (p : Plan) (n : Module) (kept : HasKept v keep [] p) (renamed : NamesAreRenamed)
    (no_elements : (k : ℕ) → v.own_elements k ≡ []) (no_data : (k : ℕ) → v.own_data k ≡ []) (whole : without_places n ≡ record (without_places (part p v.filled)) { customs = n.customs }) where
  abbrev m : Module
  m = v.filled

  abbrev N : Numbered
  N = seen_as features n

  abbrev new : Item → Item
  new y = renumbered_item p.renames y

  abbrev Reached : Item → Type 0
  Reached y = IsReached N keep [] (new y)

  tables_are : n.tables ≡ picked (renumbered_table p.renames p.brings) (p.listed Tables) m.tables
  tables_are = ap (λ (k : Module). k.tables) whole

  memories_are : n.memories ≡ picked (renumbered_memory p.renames p.brings) (p.listed Memories) m.memories
  memories_are = ap (λ (k : Module). k.memories) whole

  globals_are : n.globals ≡ picked (renumbered_global p.renames p.brings) (p.listed Globals) m.globals
  globals_are = ap (λ (k : Module). k.globals) whole

  elements_are : n.elements ≡ picked (renumbered_element p.renames) (p.listed ElementSegments) m.elements ++ map (λ ns. Some (declaring p.renames ns)) p.declared
  elements_are = ap (λ (k : Module). k.elements) whole

  segments_are : n.segments ≡ picked (renumbered_segment p.renames) (p.listed DataSegments) m.segments
  segments_are = ap (λ (k : Module). k.segments) whole

  at_slot : {A : Type 0} (f : A → A) (xs ys : List (Option A)) (space : Space) (k : ℕ) (x : A) → ys ≡ picked f (p.listed space) xs → IsIn p space k → slice_index_or xs k None ≡ Some x
      → slice_index_or ys (p.renames space k) None ≡ Some (f x)
  at_slot f xs ys space k x is has e = ap (λ (l : List (Option _)). slice_index_or l (p.renames space k) None) is ∙ new_slot f xs (p.listed space) (p.renames space k) k x has e

  function_at : (k : ℕ) (f : Function) → IsIn p Functions k → slice_index_or m.functions k None ≡ Some f
      → (g : Function) × (slice_index_or n.functions (p.renames Functions k) None ≡ Some g) × (origin_unplaced g.origin ≡ origin_unplaced (renumbered_function p.renames p.brings f).origin)
  function_at k f has e =
      let texts : map slot_unplaced n.functions ≡ map slot_unplaced (picked (renumbered_function p.renames p.brings) (p.listed Functions) m.functions) = ap (λ (k : Module). k.functions) whole in
      let at : slot_unplaced (slice_index_or n.functions (p.renames Functions k) None) ≡ slot_unplaced (Some (renumbered_function p.renames p.brings f)) =
      sym (unplaced_slot n.functions (p.renames Functions k)) ∙ ap (λ (l : List (Option Function)). slice_index_or l (p.renames Functions k) None) texts
      ∙ unplaced_slot (picked (renumbered_function p.renames p.brings) (p.listed Functions) m.functions) (p.renames Functions k)
      ∙ ap (λ (o : Option Function). slot_unplaced o) (new_slot (renumbered_function p.renames p.brings) m.functions (p.listed Functions) (p.renames Functions k) k f has e) in
      same_origin (slice_index_or n.functions (p.renames Functions k) None) (renumbered_function p.renames p.brings f) at

  element_at : (k : ℕ) (x : Element) → IsIn p ElementSegments k → slice_index_or m.elements k None ≡ Some x → slice_index_or n.elements (p.renames ElementSegments k) None ≡ Some (renumbered_element p.renames x)
  element_at k x has e =
      ap (λ (l : List (Option Element)). slice_index_or l (p.renames ElementSegments k) None) elements_are
      ∙ front_slot (picked (renumbered_element p.renames) (p.listed ElementSegments) m.elements) (map (λ ns. Some (declaring p.renames ns)) p.declared) (p.renames ElementSegments k) (renumbered_element p.renames x)
      (new_slot (renumbered_element p.renames) m.elements (p.listed ElementSegments) (p.renames ElementSegments k) k x has e)

  -- ---- what is named

  named_so : {A : Type 0} (items : A → List Item) (old : List Item) (ys : List (Option A)) (j : ℕ) (x : A) (y : Item) → slice_index_or ys j None ≡ Some x → Goes p.renames old (items x) → Contains old y → IsNoType y
      → Contains (named_by items (slice_index_or ys j None)) (new y)
  named_so items old ys j x y e goes c other =
      subst (λ (o : Option _). Contains (named_by items o) (new y)) (sym e) (contained (items x) (new y) (goes_at p.renames old (items x) y goes (among old y c) other))

  -- of a slot that names something
  filled_by : {A : Type 0} (items : A → List Item) (xs : List (Option A)) (k : ℕ) (y : Item) → Contains (named_by items (slice_index_or xs k None)) y → (x : A) × (slice_index_or xs k None ≡ Some x) × Contains (items x) y
  filled_by {A} items xs k y c = go (slice_index_or xs k None) refl c
    where
      go : (o : Option A) → slice_index_or xs k None ≡ o → Contains (named_by items o) y → (x : A) × (slice_index_or xs k None ≡ Some x) × Contains (items x) y
      go None e c = absurd (among [] y c)
      go (Some x) e c = (x, e, c)

  none_own : {A : Type 0} (xs : List ℕ) (e : ℕ) → xs ≡ [] → Contains xs e → A
  none_own xs e is c = absurd (among [] e (subst (λ (l : List ℕ). Contains l e) is c))

  active_so : (space : Space) (k : ℕ) (mode : Mode) → IsActiveIn k mode → IsActiveIn (p.renames space k) (renumbered_mode p.renames space mode)
  active_so space k (Active into offset) h = ap (λ (i : ℕ). p.renames space i) h
  active_so space k Passive h = absurd h
  active_so space k Declared h = absurd h

  -- the segment of a match
  matched : {A : Type 0} (P : A → Type 0) (xs : List (Option A)) (e : ℕ) → MatchOption (slice_index_or xs e None) ⊥ P → (x : A) × (slice_index_or xs e None ≡ Some x) × P x
  matched {A} P xs e h = go (slice_index_or xs e None) refl h
    where
      go : (o : Option A) → slice_index_or xs e None ≡ o → MatchOption o ⊥ P → (x : A) × (slice_index_or xs e None ≡ Some x) × P x
      go None is h = absurd h
      go (Some x) is h = (x, is, h)

  match_so : {A : Type 0} (P : A → Type 0) (xs : List (Option A)) (j : ℕ) (x : A) → slice_index_or xs j None ≡ Some x → P x → MatchOption (slice_index_or xs j None) ⊥ P
  match_so P xs j x is h = subst (λ (o : Option _). MatchOption o ⊥ P) (sym is) h

  -- ---- a step of a chain

  abbrev own_items : (ℕ → Option ValType) → List BlockType → Function → List Item
  own_items locals parts f = origin_items (λ (b : Body). body_items locals b.operators parts) f.origin

  step : (space : FileSpace) (k : ℕ) (y : Item) → RefersIn v space k y → IsReached v keep [] (item space k) → IsReached v keep [] y → (IsNoType (item space k) → Reached (item space k)) → IsNoType y → Reached y
  step spaces.«Type» k y (group, kind, is, inl c) here there from other = absurd (other (types_only _ y (among _ y c)))
  step spaces.«Type» k y (group, kind, is, inr c) here there from other = absurd (other (types_only group.1 y (among _ y c.1)))
  step spaces.Function k y c here there from other =
      let f = filled_by (function_items (v.local_type k) (v.parts k)) m.functions k y c in
      let g = function_at k f.0 (kept.has Functions k tt (inl here)) f.1 in
      let j = p.renames Functions k in
      refers (from (λ e. cc)) (named_so (function_items (N.local_type j) (N.parts j)) (function_items (v.local_type k) (v.parts k) f.0) n.functions j g.0 y g.1 (
        λ same. absurd (same refl),
        goes_wider p.renames (own_items (v.local_type k) (v.parts k) f.0) (own_items (N.local_type j) (N.parts j) g.0) (function_items (N.local_type j) (N.parts j) g.0) (λ z a. inr a)
            (origin_goes p.renames renamed p.brings (v.local_type k) (N.local_type j) (v.parts k) (N.parts j) f.0.origin g.0.origin g.2),
      ) f.2 other)
  step spaces.Table k y (inl c) here there from other =
      let t = filled_by table_items m.tables k y c in
      refers (from (λ e. cc)) (inl (named_so table_items (table_items t.0) n.tables (p.renames Tables k) (renumbered_table p.renames p.brings t.0) y
      (at_slot (renumbered_table p.renames p.brings) m.tables n.tables Tables k t.0 tables_are (kept.has Tables k tt (inl here)) t.1) (table_goes p.renames renamed p.brings t.0) t.2 other))
  step spaces.Table k y (inr c) here there from other =
      let t = matched (λ (t : Table). HasElement v k y) m.tables k c in
      refers (from (λ e. cc)) (inr (match_so (λ (t : Table). HasElement N (p.renames Tables k) (new y)) n.tables (p.renames Tables k) (renumbered_table p.renames p.brings t.0)
      (at_slot (renumbered_table p.renames p.brings) m.tables n.tables Tables k t.0 tables_are (kept.has Tables k tt (inl here)) t.1) (elements_so t.2)))
    where
      elements_so : HasElement v k y → HasElement N (p.renames Tables k) (new y)
      elements_so (e, is, inr own) = none_own (v.own_elements k) e (no_elements k) own.0
      elements_so (e, is, inl active) =
          let x = matched (λ (x : Element). IsActiveIn k x.mode) m.elements e active in
          let has = kept.has ElementSegments e tt (inl (subst (λ (z : Item). IsReached v keep [] z) is there)) in (
            p.renames ElementSegments e,
            ap (λ (z : Item). new z) is,
            inl (match_so (λ (x : Element). IsActiveIn (p.renames Tables k) x.mode) n.elements (p.renames ElementSegments e) (renumbered_element p.renames x.0)
                (element_at e x.0 has x.1) (active_so Tables k x.0.mode x.2)),
          )
  step spaces.Memory k y c here there from other =
      let t = matched (λ (t : Memory). HasData v k y) m.memories k c in
      refers (from (λ e. cc)) (match_so (λ (t : Memory). HasData N (p.renames Memories k) (new y)) n.memories (p.renames Memories k) (renumbered_memory p.renames p.brings t.0)
      (at_slot (renumbered_memory p.renames p.brings) m.memories n.memories Memories k t.0 memories_are (kept.has Memories k tt (inl here)) t.1) (data_so t.2))
    where
      data_so : HasData v k y → HasData N (p.renames Memories k) (new y)
      data_so (d, is, inr own) = none_own (v.own_data k) d (no_data k) own.0
      data_so (d, is, inl active) =
          let x = matched (λ (x : Segment). IsActiveIn k x.mode) m.segments d active in
          let has = kept.has DataSegments d tt (inl (subst (λ (z : Item). IsReached v keep [] z) is there)) in (
            p.renames DataSegments d,
            ap (λ (z : Item). new z) is,
            inl (match_so (λ (x : Segment). IsActiveIn (p.renames Memories k) x.mode) n.segments (p.renames DataSegments d) (renumbered_segment p.renames x.0)
                (at_slot (renumbered_segment p.renames) m.segments n.segments DataSegments d x.0 segments_are has x.1) (active_so Memories k x.0.mode x.2)),
          )
  step spaces.Global k y c here there from other =
      let g = filled_by global_items m.globals k y c in
      refers (from (λ e. cc)) (named_so global_items (global_items g.0) n.globals (p.renames Globals k) (renumbered_global p.renames p.brings g.0) y
      (at_slot (renumbered_global p.renames p.brings) m.globals n.globals Globals k g.0 globals_are (kept.has Globals k tt (inl here)) g.1)
      (value_first p.renames renamed g.0.ty (renumbered_global p.renames p.brings g.0).ty (origin_items expr_items g.0.origin) (origin_items expr_items (renumbered_global p.renames p.brings g.0).origin) (own_goes p.renames renamed p.brings g.0.origin)) g.2 other)
  step spaces.Tag k y c here there from other =
      let t = filled_by tag_items m.tags k y c in absurd (other (types_only (t.0.ty ∷ []) y (among (tag_items t.0) y t.2)))
  step spaces.Element k y c here there from other =
      let x = filled_by element_items m.elements k y c in
      refers (from (λ e. cc)) (named_so element_items (element_items x.0) n.elements (p.renames ElementSegments k) (renumbered_element p.renames x.0) y
      (element_at k x.0 (kept.has ElementSegments k tt (inl here)) x.1) (element_goes p.renames renamed x.0) x.2 other)
  step spaces.Data k y c here there from other =
      let x = filled_by segment_items m.segments k y c in
      refers (from (λ e. cc)) (named_so segment_items (segment_items x.0) n.segments (p.renames DataSegments k) (renumbered_segment p.renames x.0) y
      (at_slot (renumbered_segment p.renames) m.segments n.segments DataSegments k x.0 segments_are (kept.has DataSegments k tt (inl here)) x.1) (memory_mode_goes p.renames renamed x.0.mode) x.2 other)
  step spaces.Local k y c here there from other = absurd c
  step spaces.Label k y c here there from other = absurd c

  -- ---- roots

  active_is : (space : Space) (mode : Mode) (into : ℕ) (offset : Expr) → mode ≡ Active into offset → renumbered_mode p.renames space mode ≡ renumbered_mode p.renames space (Active into offset)
  active_is space mode into offset e = ap (λ (x : Mode). renumbered_mode p.renames space x) e

  rooted : (y : Item) → Root m keep [] y → Reached y
  rooted y (exports e export at) =
      let c = among p.exports e (kept.exports e export at) in
      let i = contained p.exports e c in
      root (exports i.0 (renumbered_export p.renames export) (ap (λ (k : Module). slice_index_or k.exports i.0 None) whole ∙ new_slot (renumbered_export p.renames) m.exports p.exports i.0 e export (got p.exports e i) at))
    where
      got : (xs : List ℕ) (e : ℕ) (i : Contains xs e) → slice_get xs i.0 ≡ Some e
      got [] e (k, lt, is) = absurd (omega (arith, lt))
      got (x ∷ xs) e (zero, lt, is) = ap (λ (z : ℕ). Some z) is
      got (x ∷ xs) e (suc k, lt, is) = got xs e (k, omega (arith, lt), is)
  rooted y (starts f at) = root (starts (p.renames Functions f) (ap (λ (k : Module). k.start) whole ∙ ap (λ (o : Option ℕ). option_map (p.renames Functions) o) at))
  rooted y (is_active d memory offset segment at mode) =
      let has = kept.has DataSegments d tt (inl (root (is_active d memory offset segment at mode))) in
      root (is_active (p.renames DataSegments d) (p.renames Memories memory) _ (renumbered_segment p.renames segment)
      (at_slot (renumbered_segment p.renames) m.segments n.segments DataSegments d segment segments_are has at) (active_is Memories segment.mode memory offset mode))
  rooted y (fills_import e t offset segment table at mode is imported) =
      let here : IsReached v keep [] (item spaces.Element e) = root (fills_import e t offset segment table at mode is imported) in
      let names : Contains (named_by element_items (slice_index_or m.elements e None)) (item spaces.Table t) =
      subst (λ (o : Option Element). Contains (named_by element_items o) (item spaces.Table t)) (sym at) (first_named segment t offset mode) in
      let table_in = kept.has Tables t tt (inl (refers here names)) in
      root (fills_import (p.renames ElementSegments e) (p.renames Tables t) _ (renumbered_element p.renames segment) (renumbered_table p.renames p.brings table)
      (element_at e segment (kept.has ElementSegments e tt (inl here)) at) (active_is Tables segment.mode t offset mode)
      (at_slot (renumbered_table p.renames p.brings) m.tables n.tables Tables t table tables_are table_in is) (still table.imported imported))
    where
      first_named : (x : Element) (t : ℕ) (offset : Expr) → x.mode ≡ Active t offset → Contains (element_items x) (item spaces.Table t)
      first_named x t offset e = contained (element_items x) (item spaces.Table t) (subst (λ (mode : Mode). Among (item spaces.Table t) (element_items (record x { mode = mode }))) (sym e) (inl refl))

      still : (o : Option ℕ) → IsSome o → IsSome (option_map p.brings o)
      still None h = absurd cc
      still (Some i) h = refl
  rooted y (fills_any e t offset segment all at mode) =
      let has = kept.has ElementSegments e tt (inl (root (fills_any e t offset segment all at mode))) in
      root (fills_any (p.renames ElementSegments e) (p.renames Tables t) _ (renumbered_element p.renames segment) all (element_at e segment has at) (active_is Tables segment.mode t offset mode))
  rooted y (declares e segment at mode) =
      let has = kept.has ElementSegments e tt (inl (root (declares e segment at mode))) in
      root (declares (p.renames ElementSegments e) (renumbered_element p.renames segment) (element_at e segment has at) (ap (λ (x : Mode). renumbered_mode p.renames Tables x) mode))
  rooted y (is_pushed x c) = absurd (among [] x c)

  pub reached_so : {y : Item} → IsReached v keep [] y → IsNoType y → Reached y
  reached_so (root {x} r) other = rooted x r
  reached_so (refers {x} {y} h c) other = step x.space x.number y c h (refers h c) (λ named. reached_so h named) other

  -- ---- each item

  from_kept : (space : FileSpace) (k : ℕ) → (space ≡ spaces.«Type» → ⊥) → (space ≡ spaces.Memory → ⊥) → Kept v keep [] (item space k) → Reached (item space k)
  from_kept space k other no_memory (inl h) = reached_so h other
  from_kept space k other no_memory (inr h) = absurd (no_memory (ap (λ (i : Item). i.space) h.is))

  at_place : (xs : List ℕ) (i : ℕ) → i < length xs → (k : ℕ) × (slice_get xs i ≡ Some k)
  at_place [] i lt = absurd (omega (arith, lt))
  at_place (x ∷ xs) zero lt = (x, refl)
  at_place (x ∷ xs) (suc i) lt = at_place xs i (omega (arith, lt))

  listed_at : {A : Type 0} (f : A → A) (xs ys : List (Option A)) (ns : List ℕ) (i : ℕ) → ys ≡ picked f ns xs → i < length ys → (k : ℕ) × (slice_get ns i ≡ Some k)
  listed_at {A} f xs ys ns i is lt =
      let many : length ys ≡ length ns = ap (λ (l : List (Option A)). length l) is ∙ length-map ns (λ (k : ℕ). option_map f (slice_index_or xs k None)) in
      at_place ns i (omega (arith, lt, many))

  -- an element segment of the part, or one that declares
  segment_at : (xs : List (Option Element)) (ds : List (List ℕ)) (i : ℕ) → i < length (xs ++ map (λ ns. Some (declaring p.renames ns)) ds)
      → (i < length xs) ⊎ ((ns : List ℕ) × (slice_index_or (xs ++ map (λ ns. Some (declaring p.renames ns)) ds) i None ≡ Some (declaring p.renames ns)))
  segment_at [] [] i lt = absurd (omega (arith, lt))
  segment_at [] (d ∷ ds) zero lt = inr (d, refl)
  segment_at [] (d ∷ ds) (suc i) lt = later (segment_at [] ds i (omega (arith, lt)))
    where
      later : (i < 0) ⊎ ((ns : List ℕ) × (slice_index_or (map (λ ns. Some (declaring p.renames ns)) ds) i None ≡ Some (declaring p.renames ns)))
          → (suc i < 0) ⊎ ((ns : List ℕ) × (slice_index_or (map (λ ns. Some (declaring p.renames ns)) ds) i None ≡ Some (declaring p.renames ns)))
      later (inl lt) = absurd (omega (arith, lt))
      later (inr h) = inr h
  segment_at (x ∷ xs) ds zero lt = inl (omega arith)
  segment_at (x ∷ xs) ds (suc i) lt = later (segment_at xs ds i (omega (arith, lt)))
    where
      later : (i < length xs) ⊎ ((ns : List ℕ) × (slice_index_or (xs ++ map (λ ns. Some (declaring p.renames ns)) ds) i None ≡ Some (declaring p.renames ns)))
          → (suc i < suc (length xs)) ⊎ ((ns : List ℕ) × (slice_index_or (xs ++ map (λ ns. Some (declaring p.renames ns)) ds) i None ≡ Some (declaring p.renames ns)))
      later (inl lt) = inl (omega (arith, lt))
      later (inr h) = inr h

  module _ (only : (space : Space) (i k : ℕ) → IsListed space → slice_get (p.listed space) i ≡ Some k → p.renames space k ≡ i) where
    pub each_reached : (space : FileSpace) (i : ℕ) → (space ≡ spaces.«Type» → ⊥) → (space ≡ spaces.Memory → ⊥) → i < count_of n space → IsReached N keep [] (item space i)
    each_reached spaces.«Type» i no_type no_memory lt = absurd (no_type refl)
    each_reached spaces.Memory i no_type no_memory lt = absurd (no_memory refl)
    each_reached spaces.Local i no_type no_memory lt = absurd (omega (arith, lt))
    each_reached spaces.Label i no_type no_memory lt = absurd (omega (arith, lt))
    each_reached spaces.Function i no_type no_memory lt =
        let texts : map slot_unplaced n.functions ≡ map slot_unplaced (picked (renumbered_function p.renames p.brings) (p.listed Functions) m.functions) = ap (λ (k : Module). k.functions) whole in
        let many : length n.functions ≡ length (p.listed Functions) =
        sym (length-map n.functions slot_unplaced) ∙ ap (λ (l : List (Option Function)). length l) texts ∙ length-map (picked (renumbered_function p.renames p.brings) (p.listed Functions) m.functions) slot_unplaced
        ∙ length-map (p.listed Functions) (λ (k : ℕ). option_map (renumbered_function p.renames p.brings) (slice_index_or m.functions k None)) in
        let k = at_place (p.listed Functions) i (omega (arith, lt, many)) in
        subst (λ (j : ℕ). IsReached N keep [] (item spaces.Function j)) (only Functions i k.0 tt k.1) (from_kept spaces.Function k.0 no_type no_memory (kept.only Functions i k.0 tt k.1))
    each_reached spaces.Table i no_type no_memory lt =
        let k = listed_at (renumbered_table p.renames p.brings) m.tables n.tables (p.listed Tables) i tables_are lt in
        subst (λ (j : ℕ). IsReached N keep [] (item spaces.Table j)) (only Tables i k.0 tt k.1) (from_kept spaces.Table k.0 no_type no_memory (kept.only Tables i k.0 tt k.1))
    each_reached spaces.Tag i no_type no_memory lt =
        let k = listed_at (renumbered_tag p.renames p.brings) m.tags n.tags (p.listed Tags) i (ap (λ (k : Module). k.tags) whole) lt in
        subst (λ (j : ℕ). IsReached N keep [] (item spaces.Tag j)) (only Tags i k.0 tt k.1) (from_kept spaces.Tag k.0 no_type no_memory (kept.only Tags i k.0 tt k.1))
    each_reached spaces.Global i no_type no_memory lt =
        let k = listed_at (renumbered_global p.renames p.brings) m.globals n.globals (p.listed Globals) i globals_are lt in
        subst (λ (j : ℕ). IsReached N keep [] (item spaces.Global j)) (only Globals i k.0 tt k.1) (from_kept spaces.Global k.0 no_type no_memory (kept.only Globals i k.0 tt k.1))
    each_reached spaces.Data i no_type no_memory lt =
        let k = listed_at (renumbered_segment p.renames) m.segments n.segments (p.listed DataSegments) i segments_are lt in
        subst (λ (j : ℕ). IsReached N keep [] (item spaces.Data j)) (only DataSegments i k.0 tt k.1) (from_kept spaces.Data k.0 no_type no_memory (kept.only DataSegments i k.0 tt k.1))
    each_reached spaces.Element i no_type no_memory lt =
        go (segment_at (picked (renumbered_element p.renames) (p.listed ElementSegments) m.elements) p.declared i (subst (λ (l : List (Option Element)). i < length l) elements_are lt))
      where
        go : (i < length (picked (renumbered_element p.renames) (p.listed ElementSegments) m.elements))
            ⊎ ((ns : List ℕ) × (slice_index_or (picked (renumbered_element p.renames) (p.listed ElementSegments) m.elements ++ map (λ ns. Some (declaring p.renames ns)) p.declared) i None ≡ Some (declaring p.renames ns)))
            → IsReached N keep [] (item spaces.Element i)
        go (inl within) =
            let k = listed_at (renumbered_element p.renames) m.elements (picked (renumbered_element p.renames) (p.listed ElementSegments) m.elements) (p.listed ElementSegments) i refl within in
            subst (λ (j : ℕ). IsReached N keep [] (item spaces.Element j)) (only ElementSegments i k.0 tt k.1) (from_kept spaces.Element k.0 no_type no_memory (kept.only ElementSegments i k.0 tt k.1))
        go (inr d) = root (declares i (declaring p.renames d.0) (ap (λ (l : List (Option Element)). slice_index_or l i None) elements_are ∙ d.1) refl)

pub written_is_reached : NamesAreRenamed → WrittenIsReached
written_is_reached renamed place names producers keep features input bytes places w space i no_type no_memory lt =
    let writes = w.stands.writes in
    each_reached features (file_seen place features (handler_groups w.file) w.file) keep w.p w.n writes.kept renamed (λ k. refl) (λ k. refl) w.stands.whole writes.only space i no_type no_memory lt
