-- Lemmas: a module whose items are within their limits has spellings for them.
use Rattle.std.specs.Prelude.{ℕ, zero, suc, ◌<◌, ◌≤◌, ◌^◌, ◌≡◌, ◌⊎◌, Bool, true, false, not, List, [], ◌∷◌, length, map, Option, Some, None, slice_index_or, refl}
use Rattle.std.specs.List.{AllByRecursion, cons_option, filter_map, flat_map}
use Rattle.std.proofs.Common.{ap, sym, ◌∙◌, subst, arith, inl, inr}
use Rattle.std.proofs.lemmas.List.{length-append, length-map}
use Rattle.walrus_forms.specs.Kinds.{Kind}
use Rattle.walrus_forms.specs.Records.{TypeGroup}
use Rattle.walrus_forms.specs.declared.value.ValType.{ValType}
use Rattle.wasm_features.specs.declared.WasmFeatures.{WasmFeatures}
use Rattle.wasm_features.specs.Features.{GcTypes, enables}
use Rattle.wasm_formats.specs.Bytes.{either_type}
use Rattle.wasm_formats.specs.declared.fault.Space.{Space}
use Rattle.wasm_formats.specs.declared.fault.Space.TheVariants as spaces
use Rattle.wasm_format_bytes.specs.Lists.{followed_writer}
use Rattle.wasm_ref_types.specs.TypeSpellings.{HasGcTypes}
use Rattle.wasm_operators.specs.Ranges.{OperatorFits}
use Rattle.wasm_grammar.specs.Modules.{Body, Custom, Element, Export, Function, Global, Import, Imported, Module, Origin, Own, Placed, Segment, Table, Tag}
use Rattle.wasm_grammar.specs.States.{nothing_yet, types_of}
use Rattle.wasm_grammar_bytes.specs.Values.{name_writer}
use Rattle.wasm_body_grammar.specs.Codes.{own_type}
use Rattle.wasm_body_grammar.specs.Rules.{Around}
use Rattle.wasm_sections.specs.Entities.{Entity, FunctionOf, TagType}
use Rattle.wasm_sections.specs.TypeSection.{Measured, behind, measured}
use Rattle.wasm_section_bytes.specs.Entries.{entity_writer, export_writer, function_writer, global_writer, import_writer, memory_writer, table_writer, tag_writer}
use Rattle.wasm_section_bytes.specs.Flags.{entry_of_element, entry_of_segment}
use Rattle.wasm_section_bytes.specs.Placed.{AllFit, EitherFits, SingleFits, group_placed, member_placed}
use Rattle.wasm_section_bytes.specs.Segments.{data_writer, element_writer}
use Rattle.wasm_section_bytes.specs.Sections.{rest_writer}
use Rattle.wasm_module_bytes.specs.Bytes.{origin_unplaced, slot_unplaced, unplaced, without_places}
use Rattle.wasm_module_bytes.specs.Due.{IsWritten, export_from, global_from, group_from, memory_from, shaped, space_kind, sub_from, table_from}
use Rattle.wasm_module_rules.specs.Linked.{Each}
use Rattle.wasm_ruled_modules.specs.Rules.{IsInit, IsPlaced, ItemsKnown, knows, knows_imported, memory_wide, table_wide}
use Rattle.wasm_canonical.specs.Bodies.{OperatorsFit}
use Rattle.wasm_canonical.specs.Canonical.{first_customs, is_linking, last_customs}
use Rattle.wasm_canonical.specs.Dense.{BringAll, Brings, Counts, none_brought, one_more}
use Rattle.wasm_canonical.specs.Due.{entity_due, function_due, import_due, items_in, memory_due, global_due, own_global, own_memory, own_table, own_tag, table_due, tag_due}
use Rattle.wasm_canonical.specs.Entries.{StartFits}
use Rattle.wasm_canonical.specs.Fits.{OriginSpelled, TypeFits}
use Rattle.wasm_part.proofs.Picked.{each_at}
use Rattle.wasm_places_laws.specs.Places.{around_written}
use Rattle.wasm_spelled_parts_laws.specs.Due.{ItemsInAreSpelled}
use Rattle.wasm_spelled_parts_laws.specs.Items.{AreIn, ElementIn, GlobalIn, GroupIn, ImportIn, KindIn, MemoryIn, NameIn, NumberIn, OriginIn, SegmentIn, TableIn, ValueIn}
use Rattle.wasm_spelled_parts_laws.specs.Operators.{FittingOperatorsAreSpelled}
use Rattle.wasm_spelled_parts_laws.specs.Parts.{AreNumbered, ItemsNumbered, ModeNumbered}
use Rattle.wasm_spelled_parts_laws.proofs.Entries.{ElementHas, ModeConstant, ItemsConstant, OwnConstant, SegmentHas, all_filtered, all_items, all_mapped, all_own, each_both, element_fits, global_made, global_type_fits, globals_constant, items_constant, kind_small, memory_fits, memory_made, placed_constant, segment_fits, table_made, table_type_fits, tag_made, IsMade}
use Rattle.wasm_spelled_parts_laws.proofs.TypeKinds.{kind_spelled}
use Rattle.wasm_spelled_parts_laws.proofs.Values.{value_spelled}

-- ---- groups of types

module _ (features : WasmFeatures) where
  members_fit : (kinds : List Kind) → AllByRecursion (KindIn features) kinds → AllFit behind (measured features) (member_placed features) (map (λ (kind : Kind). (let x : Measured = (0, sub_from kind) in x)) kinds)
  members_fit [] h = tt
  members_fit (k ∷ kinds) h = (kind_spelled features k h.0, members_fit kinds h.1)

  either_fits : (on : Bool) → enables features GcTypes ≡ on → (m : Bool) (kinds : List Kind) → AllByRecursion (KindIn features) kinds → (m ≡ true → HasGcTypes features) → ((m ≡ true) ⊎ (length kinds ≡ 1)) → length kinds < 2 ^ 32
      → (let xs = map (λ (kind : Kind). (let x : Measured = (0, sub_from kind) in x)) kinds in either_type on (EitherFits features (shaped m xs)) (SingleFits features (shaped m xs)))
  either_fits true e true kinds h gc one lt =
      let many = length-map kinds (λ (kind : Kind). (let x : Measured = (0, sub_from kind) in x)) in (omega (arith, many, lt), members_fit kinds h, refl)
  either_fits true e false [] h gc one lt = absurd (none one)
    where
      none : (let f : Bool = false in f ≡ true) ⊎ ((let z : ℕ = 0 in z) ≡ 1) → ⊥
      none (inl e) = absurd cc
      none (inr e) = omega (arith, e)
  either_fits true e false (k ∷ []) h gc one lt = kind_spelled features k h.0
  either_fits true e false (k ∷ other ∷ kinds) h gc one lt =
      let many = length-map (k ∷ other ∷ kinds) (λ (kind : Kind). (let x : Measured = (0, sub_from kind) in x)) in (omega (arith, many, lt), members_fit (k ∷ other ∷ kinds) h, refl)
  either_fits false e true kinds h gc one lt = let on : enables features GcTypes ≡ true = gc refl in absurd (both (enables features GcTypes) e on)
    where
      both : (b : Bool) → b ≡ false → b ≡ true → ⊥
      both true e f = absurd cc
      both false e f = absurd cc
  either_fits false e false [] h gc one lt = absurd (none one)
    where
      none : (let f : Bool = false in f ≡ true) ⊎ ((let z : ℕ = 0 in z) ≡ 1) → ⊥
      none (inl e) = absurd cc
      none (inr e) = omega (arith, e)
  either_fits false e false (k ∷ []) h gc one lt = kind_spelled features k h.0
  either_fits false e false (k ∷ other ∷ kinds) h gc one lt = absurd (none one)
    where
      none : (let f : Bool = false in f ≡ true) ⊎ (length (k ∷ other ∷ kinds) ≡ 1) → ⊥
      none (inl e) = absurd cc
      none (inr e) = omega (arith, e)

  groups_fit : (most : ℕ) → most < 2 ^ 32 → (groups : List TypeGroup) → AllByRecursion (GroupIn features) groups → AllByRecursion IsWritten groups → length (flat_map (λ (g : TypeGroup). g.kinds) groups) ≤ most
      → AllByRecursion (group_placed features).fits (map group_from groups)
  groups_fit most lt [] h k le = tt
  groups_fit most lt (g ∷ groups) h k le =
      let both = length-append g.kinds (flat_map (λ (g : TypeGroup). g.kinds) groups) in
      (either_fits (enables features GcTypes) refl g.marked g.kinds h.0.2 h.0.0 k.0.1 (omega (arith, both, le, lt)), groups_fit most lt groups h.1 k.1 (omega (arith, both, le)))

  -- ---- imports

  module _ (n : Module) (h : AreIn features n) (low : AreNumbered n) where
    slot_same : (fs : List (Option Function)) (i : ℕ) → function_due (slice_index_or (map slot_unplaced fs) i None) ≡ function_due (slice_index_or fs i None)
    slot_same [] i = refl
    slot_same (None ∷ fs) zero = refl
    slot_same (Some f ∷ fs) zero = refl
    slot_same (f ∷ fs) (suc i) = slot_same fs i

    abbrev Fits : Space → Entity → Type 0
    Fits space e = (entity_writer features nothing_yet (space_kind space)).fits e

    entity_fits : (c : Counts) (space : Space) (i : ℕ) → Brings n c space i → Fits space (entity_due (without_places n) space i)
    entity_fits c spaces.Function i b =
        let f = b.1.0 in
        let due : function_due (slice_index_or (map slot_unplaced n.functions) i None) ≡ FunctionOf f.ty = slot_same n.functions i ∙ ap function_due b.1.1 in
        subst (λ (e : Entity). Fits spaces.Function e) (sym due) (f.ty, refl, each_at (λ (f : Function). f.ty < 2 ^ 32) n.functions i f low.functions b.1.1)
    entity_fits c spaces.Table i b =
        let t = b.1.0 in
        subst (λ (e : Entity). Fits spaces.Table e) (sym (ap table_due b.1.1)) (table_from t, refl, table_type_fits features t (each_at (TableIn features) n.tables i t h.tables b.1.1))
    entity_fits c spaces.Memory i b =
        let x = b.1.0 in
        subst (λ (e : Entity). Fits spaces.Memory e) (sym (ap memory_due b.1.1)) (memory_from x, refl, memory_fits features x (each_at (MemoryIn features) n.memories i x h.memories b.1.1))
    entity_fits c spaces.Global i b =
        let g = b.1.0 in
        subst (λ (e : Entity). Fits spaces.Global e) (sym (ap global_due b.1.1)) (global_from g, refl, global_type_fits features g (each_at (GlobalIn features) n.globals i g h.globals b.1.1).0)
    entity_fits c spaces.Tag i b =
        let t = b.1.0 in
        let made : TagType = (tt, t.ty) in
        subst (λ (e : Entity). Fits spaces.Tag e) (sym (ap tag_due b.1.1)) (made, refl, (tt, each_at (λ (t : Tag). t.ty < 2 ^ 32) n.tags i t low.tags b.1.1))
    entity_fits c spaces.Type i b = absurd b
    entity_fits c spaces.Element i b = absurd b
    entity_fits c spaces.Data i b = absurd b
    entity_fits c spaces.Local i b = absurd b
    entity_fits c spaces.Label i b = absurd b

    imports_fit : (c : Counts) (is : List Import) → BringAll n c is → AllByRecursion (ImportIn features) is → AllByRecursion (import_writer features nothing_yet).fits (map (import_due (without_places n)) is)
    imports_fit c [] b k = tt
    imports_fit c (i ∷ is) b k = ((k.0.0, (k.0.1, (kind_small i.item.space, entity_fits c i.item.space i.item.number b.0))), imports_fit (one_more c i.item.space) is b.1 k.1)

  -- ---- functions

  type_made : (f : Function) → f.ty < 2 ^ 32 → IsMade (function_writer nothing_yet).fits (own_type (slot_unplaced (Some f)))
  type_made f h = go f.origin
    where
      go : (o : Origin Body) → (let g : Function = record { ty = f.ty; origin = o } in IsMade (function_writer nothing_yet).fits (own_type (slot_unplaced (Some g))))
      go (Imported n) = tt
      go (Own x) = h

  types_fit : (fs : List (Option Function)) → Each (λ (f : Function). f.ty < 2 ^ 32) fs → AllByRecursion (function_writer nothing_yet).fits (filter_map own_type (map slot_unplaced fs))
  types_fit [] h = tt
  types_fit (None ∷ fs) h = types_fit fs h
  types_fit (Some f ∷ fs) h = go (own_type (slot_unplaced (Some f))) (type_made f h.0) (types_fit fs h.1)
    where
      go : (o : Option ℕ) → IsMade (function_writer nothing_yet).fits o → AllByRecursion (function_writer nothing_yet).fits (filter_map own_type (map slot_unplaced fs))
          → AllByRecursion (function_writer nothing_yet).fits (cons_option o (filter_map own_type (map slot_unplaced fs)))
      go None k rest = rest
      go (Some n) k rest = (k, rest)

  start_fits : (o : Option ℕ) → NumberIn o → StartFits o
  start_fits None h = tt
  start_fits (Some n) h = h

  -- ---- bodies

  module _ (spelled : FittingOperatorsAreSpelled) (a : Around) (same : a.features ≡ features) where
    ops_fit : (ops : List Placed) → AllByRecursion (λ (o : Placed). OperatorFits a.features o.op) ops → OperatorsFit a (map unplaced ops)
    ops_fit [] h = tt
    ops_fit (o ∷ ops) h = (spelled a.features o.op h.0, ops_fit ops h.1)

    locals_fit : (tys : List ValType) → AllByRecursion (ValueIn a.features) tys → AllByRecursion (TypeFits a) tys
    locals_fit [] h = tt
    locals_fit (ty ∷ tys) h = (value_spelled a.features (length (types_of a.filled)) ty h.0, locals_fit tys h.1)

    origin_fits : (o : Origin Body) → OriginIn a.features o → OriginSpelled a (origin_unplaced o)
    origin_fits (Imported n) h = tt
    origin_fits (Own x) h = (locals_fit x.locals h.0, ops_fit x.operators h.1)

    bodies_fit : (fs : List (Option Function)) → Each (λ (f : Function). OriginIn a.features f.origin) fs → Each (λ (f : Function). OriginSpelled a f.origin) (map slot_unplaced fs)
    bodies_fit [] h = tt
    bodies_fit (None ∷ fs) h = bodies_fit fs h
    bodies_fit (Some f ∷ fs) h = (origin_fits f.origin h.0, bodies_fit fs h.1)

  abbrev CustomFits : Custom → Type 0
  CustomFits c = (followed_writer name_writer (λ _. rest_writer)).fits (c.name, c.bytes)

  customs_fit : (cs : List Custom) → AllByRecursion (λ (c : Custom). NameIn c.name) cs → AllByRecursion CustomFits cs
  customs_fit [] h = tt
  customs_fit (c ∷ cs) h = ((h.0, tt), customs_fit cs h.1)

  each_sent : {A : Type 0} (P Q : A → Type 0) (xs : List (Option A)) → ((x : A) → P x → Q x) → Each P xs → Each Q xs
  each_sent P Q [] step h = tt
  each_sent P Q (None ∷ xs) step h = each_sent P Q xs step h
  each_sent P Q (Some x ∷ xs) step h = (step x h.0, each_sent P Q xs step h.1)

pub items_spelled : FittingOperatorsAreSpelled → ItemsInAreSpelled
items_spelled spelled features counted n dense ruled h low short =
    let k = without_places n in
    let named = all_items (λ (c : Custom). NameIn c.name) n.customs h.customs in
    let a = around_written features n in
    let wide = table_wide n.tables in
    let e = ruled.expressed in
    let types = ruled.lists.types in
    let tables = each_both (TableIn features) (λ (t : Table). IsInit (knows_imported n) t.init) n.tables h.tables e.tables in
    let globals = each_both (GlobalIn features) (λ (g : Global). OwnConstant features g.origin) n.globals h.globals (globals_constant features (length (types_of n)) (length n.functions) [] n.globals e.globals) in
    let placed = each_sent features (λ (e : Element). IsPlaced wide (knows n) e.mode) (λ (e : Element). ModeConstant features e.mode) n.elements (λ x y. placed_constant features wide (knows n) x.mode y) e.offsets in
    let items = each_sent features (λ (e : Element). ItemsKnown (knows n) e.items) (λ (e : Element). ItemsConstant features e.items) n.elements (λ x y. items_constant features (knows n) x.items y) e.items in
    let constant = each_both (λ (e : Element). ModeConstant features e.mode) (λ (e : Element). ItemsConstant features e.items) n.elements placed items in
    let rest = each_both (λ (e : Element). ModeConstant features e.mode × ItemsConstant features e.items) (λ (e : Element). ModeNumbered e.mode × ItemsNumbered e.items) n.elements constant low.elements in
    let elements = each_both (ElementIn features) (λ (e : Element). (ModeConstant features e.mode × ItemsConstant features e.items) × (ModeNumbered e.mode × ItemsNumbered e.items)) n.elements h.elements rest in
    let offsets = each_sent features (λ (x : Segment). IsPlaced (memory_wide n.memories) (knows n) x.mode) (λ (x : Segment). ModeConstant features x.mode) n.segments (λ x y. placed_constant features (memory_wide n.memories) (knows n) x.mode y) e.segments in
    let segments = each_both (SegmentIn features) (λ (x : Segment). ModeConstant features x.mode × ModeNumbered x.mode) n.segments h.segments
    (each_both (λ (x : Segment). ModeConstant features x.mode) (λ (x : Segment). ModeNumbered x.mode) n.segments offsets low.segments) in
    let exports = each_both (λ (e : Export). NameIn e.name) (λ (e : Export). e.item.number < 2 ^ 32) n.exports h.exports low.exports in
    record {
      entries = record {
        first_customs = customs_fit features (first_customs n) (all_filtered (λ (c : Custom). NameIn c.name) is_linking (items_in n.customs) named);
        last_customs = customs_fit features (last_customs n) (all_filtered (λ (c : Custom). NameIn c.name) (λ c. not (is_linking c)) (items_in n.customs) named);
        few_groups = low.few_groups;
        groups = groups_fit features 1000000 (omega arith) n.groups h.groups dense.groups types;
        imports = imports_fit features n h low none_brought (items_in n.imports) dense.brings (all_items (ImportIn features) n.imports h.imports);
        functions = types_fit features n.functions low.functions;
        tables = all_own (λ (t : Table). TableIn features t × IsInit (knows_imported n) t.init) (table_writer features nothing_yet).fits own_table tt (table_made features (knows_imported n)) n.tables tables;
        memories = all_own (MemoryIn features) (memory_writer nothing_yet).fits own_memory tt (memory_made features) n.memories h.memories;
        tags = all_own (λ (t : Tag). t.ty < 2 ^ 32) (tag_writer nothing_yet).fits own_tag tt (tag_made features) n.tags low.tags;
        globals = all_own (λ (g : Global). GlobalIn features g × OwnConstant features g.origin) (global_writer features nothing_yet).fits own_global tt (global_made features) n.globals globals;
        exports = all_mapped (λ (e : Export). NameIn e.name × (e.item.number < 2 ^ 32)) (export_writer nothing_yet).fits export_from (λ x y. ((y.0, kind_small x.item.space), y.1)) (items_in n.exports)
            (all_items (λ (e : Export). NameIn e.name × (e.item.number < 2 ^ 32)) n.exports exports);
        start = start_fits features n.start low.start;
        elements = all_mapped (ElementHas features) (element_writer features nothing_yet).fits (entry_of_element wide) (element_fits features wide) (items_in n.elements) (all_items (ElementHas features) n.elements elements);
        segments = all_mapped (SegmentHas features) (data_writer features nothing_yet).fits entry_of_segment (segment_fits features) (items_in n.segments) (all_items (SegmentHas features) n.segments segments);
      };
      bodies = bodies_fit features spelled a refl n.functions h.functions;
      not_long = short;
    }
