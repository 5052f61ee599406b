-- Lemmas: the items of the part that is written of a file are within their limits.
use Rattle.std.specs.Prelude.{ℕ, suc, ◌+◌, ◌<◌, ◌≤◌, ◌^◌, ◌≡◌, ◌⊎◌, true, List, [], ◌∷◌, ◌++◌, length, map, Option, Some, None, IsSome, slice_get, slice_index_or, unwrap_or, refl}
use Rattle.std.specs.List.{AllByRecursion, cons_option, filter_map}
use Rattle.std.specs.Option.{option_map}
use Rattle.std.proofs.Common.{arith, inl, inr}
use Rattle.std.proofs.lemmas.List.{length-append, length-map}
use Rattle.std.proofs.lemmas.Option.{slice_get_within}
use Rattle.walrus_forms.specs.Kinds.{Kind}
use Rattle.walrus_forms.specs.Records.{TypeGroup}
use Rattle.walrus_forms.specs.Renaming.{renamed_kind}
use Rattle.walrus_types.specs.Emission.{IsEmission, described_group, index_at, written_kind, written_types}
use Rattle.walrus_types.specs.Items.{Group}
use Rattle.walrus_types.specs.Table.{Table}
use Rattle.wasm_features.specs.declared.WasmFeatures.{WasmFeatures}
use Rattle.wasm_formats.specs.declared.fault.Space.{Space as FileSpace}
use Rattle.wasm_formats.specs.declared.fault.Space.TheVariants as spaces
use Rattle.wasm_ref_types.specs.TypeSpellings.{HasGcTypes}
use Rattle.wasm_operators.specs.Items.{Space, Types, Functions, Tables, Memories, Tags, Globals, ElementSegments, DataSegments, Locals, Labels}
use Rattle.wasm_operators.specs.Names.{Name, Renaming, operator_names, renamed_operator}
use Rattle.wasm_operators.specs.Operators.{Seen}
use Rattle.wasm_operators.specs.Ranges.{OperatorFits}
use Rattle.wasm_grammar.specs.Modules.{Active, Body, Declared, Element, Elements, Export, Expr, Expressions, Function, Functions as Listed, Imported, Mode, Module, Origin, Own, Passive, Placed, Segment, Tag}
use Rattle.wasm_module_bytes.specs.Due.{IsExported, IsWritten}
use Rattle.wasm_module_rules.specs.Linked.{Each}
use Rattle.wasm_body_grammar.specs.Rules.{Around}
use Rattle.wasm_ruled_modules.specs.Rules.{IsCounted}
use Rattle.wasm_spelled_modules.specs.Spelled.{InitIsSpelled, IsSpelled, ModeIsSpelled, OriginIsSpelled}
use Rattle.wasm_merged_modules.specs.Merged.{is_filled, kinds_of}
use Rattle.wasm_part.specs.Closed.{BodyIn as BodyKept, ExprIn, InitIn, IsClosed, ItemIn, ItemsIn as ItemsKept, ModeIn, NameIn as NameKept, NumberIn as NumberKept, OperatorIn, OwnIn, PlacedIn, Rise, StartIn}
use Rattle.wasm_part.specs.Kept.{IsShared}
use Rattle.wasm_part.specs.Part.{IsIn, Plan, declaring, number_in, part, picked, renumbered_body, renumbered_element, renumbered_export, renumbered_expr, renumbered_function, renumbered_global, renumbered_import, renumbered_items, renumbered_memory, renumbered_mode, renumbered_own, renumbered_placed, renumbered_segment, renumbered_table, renumbered_tag}
use Rattle.wasm_part.proofs.Picked.{each_at, each_joined, each_picked}
use Rattle.wasm_spelled_parts_laws.specs.Items.{AreIn, ElementIn, GlobalIn, GroupIn, ImportIn, ItemsIn, KindIn, MemoryIn, NameIn, NumberIn, OriginIn, SegmentIn, TableIn}
use Rattle.wasm_spelled_parts_laws.specs.Operators.{FittingNamesAreSmall, NamesFit, RenamedOperatorsFit, most_of}
use Rattle.wasm_spelled_parts_laws.specs.Parts.{AreNumbered, ItemsNumbered, ModeNumbered}
use Rattle.wasm_spelled_parts_laws.proofs.Values.{kind_retyped, ref_retyped, value_retyped, values_retyped}

-- ---- items, where what is kept has low numbers

module _ (small : FittingNamesAreSmall) (fit : RenamedOperatorsFit) (features : WasmFeatures) (p : Plan) (low : (n : ℕ) → p.renames Types n < 2 ^ 20)
    (kept : (space : Space) (n : ℕ) → n < 2 ^ 32 → NumberKept p space n → p.renames space n < most_of space) where
  abbrev r : Renaming
  r = p.renames

  names_fit : (ns : List Name) → AllByRecursion (λ (n : Name). n.1 < 2 ^ 32) ns → AllByRecursion (NameKept p) ns → NamesFit r ns
  names_fit [] h k = tt
  names_fit (n ∷ ns) h k = (kept n.0 n.1 h.0 k.0, names_fit ns h.1 k.1)

  operator_fits : (op : Seen) → OperatorFits features op → OperatorIn p op → OperatorFits features (renamed_operator r op)
  operator_fits op h k = fit features r op h (names_fit (operator_names op) (small features op h) k)

  expr_fits : (e : Expr) → IsSpelled features e → ExprIn p e → IsSpelled features (renumbered_expr r e)
  expr_fits [] h k = tt
  expr_fits (op ∷ ops) h k = (operator_fits op h.0 k.0, expr_fits ops h.1 k.1)

  exprs_fit : (es : List Expr) → AllByRecursion (IsSpelled features) es → AllByRecursion (ExprIn p) es → AllByRecursion (IsSpelled features) (map (renumbered_expr r) es)
  exprs_fit [] h k = tt
  exprs_fit (e ∷ es) h k = (expr_fits e h.0 k.0, exprs_fit es h.1 k.1)

  init_fits : (o : Option Expr) → InitIsSpelled features o → InitIn p o → InitIsSpelled features (option_map (renumbered_expr r) o)
  init_fits None h k = tt
  init_fits (Some e) h k = expr_fits e h k

  own_fits : (o : Origin Expr) → OriginIsSpelled features o → OwnIn p o → OriginIsSpelled features (renumbered_own r p.brings (renumbered_expr r) o)
  own_fits (Imported n) h k = tt
  own_fits (Own e) h k = expr_fits e h k

  ops_fit : (a b : Around) (ops : List Placed) → AllByRecursion (λ (o : Placed). OperatorFits features o.op) ops → AllByRecursion (PlacedIn p a b) ops → AllByRecursion (λ (o : Placed). OperatorFits features o.op) (map (renumbered_placed r) ops)
  ops_fit a b [] h k = tt
  ops_fit a b (o ∷ ops) h k = (operator_fits o.op h.0 k.0.0, ops_fit a b ops h.1 k.1)

  body_fits : (a b : Around) (o : Origin Body) → OriginIn features o → BodyKept p a b o → OriginIn features (renumbered_own r p.brings (renumbered_body r) o)
  body_fits a b (Imported n) h k = tt
  body_fits a b (Own x) h k = (values_retyped features (r Types) low x.locals h.0, ops_fit a b x.operators h.1 k.1)

  mode_fits : (space : Space) (mode : Mode) → ModeIsSpelled features mode → ModeIn p space mode → ModeIsSpelled features (renumbered_mode r space mode)
  mode_fits space Passive h k = tt
  mode_fits space Declared h k = tt
  mode_fits space (Active n e) h k = expr_fits e h k.1

  items_fit : (items : Elements) → ItemsIn features items → ItemsKept p items → ItemsIn features (renumbered_items r items)
  items_fit (Listed ns) h k = let many = length-map ns (r Functions) in omega (arith, many, h)
  items_fit (Expressions ty es) h k =
      let many = length-map es (renumbered_expr r) in
      let lt = h.1.0 in
      (ref_retyped features (r Types) low ty h.0, (omega (arith, many, lt), exprs_fit es h.1.1 k.1))

-- ---- types

module _ (features : WasmFeatures) (t : Table) (kinds : (n : ℕ) (kind : Kind) → written_kind t n ≡ Some kind → KindIn features kind) (q : ℕ → ℕ) (q_low : (n : ℕ) → q n < 2 ^ 20) where
  kinds_in : (ns : List ℕ) → AllByRecursion (KindIn features) (map (renamed_kind q) (filter_map (written_kind t) ns))
  kinds_in [] = tt
  kinds_in (n ∷ ns) = go (written_kind t n) refl (kinds_in ns)
    where
      go : (o : Option Kind) → written_kind t n ≡ o → AllByRecursion (KindIn features) (map (renamed_kind q) (filter_map (written_kind t) ns))
          → AllByRecursion (KindIn features) (map (renamed_kind q) (cons_option o (filter_map (written_kind t) ns)))
      go None e rest = rest
      go (Some kind) e rest = (kind_retyped features q q_low kind (kinds n kind e), rest)

  abbrev Shape : TypeGroup → Type 0
  Shape g = (g.marked ≡ true → HasGcTypes features) × IsWritten g × (is_filled g.kinds ≡ true)

  one_group : (g : Group) → Shape (described_group t q g) → GroupIn features (described_group t q g)
  one_group g h = (h.0, go h.1.1, kinds_in g.types)
    where
      go : (g.explicit ≡ true) ⊎ (length (described_group t q g).kinds ≡ 1) → (g.explicit ≡ true) ⊎ (length (described_group t q g).kinds ≤ 1)
      go (inl m) = inl m
      go (inr e) = inr (omega (arith, e))

  pub groups_in : (gs : List Group) → AllByRecursion Shape (map (described_group t q) gs) → AllByRecursion (GroupIn features) (map (described_group t q) gs)
  groups_in [] h = tt
  groups_in (g ∷ gs) h = (one_group g h.0, groups_in gs h.1)

pub filled_many : (features : WasmFeatures) (gs : List TypeGroup) → AllByRecursion (λ (g : TypeGroup). (g.marked ≡ true → HasGcTypes features) × IsWritten g × (is_filled g.kinds ≡ true)) gs → length gs ≤ length (kinds_of gs)
filled_many features [] h = omega arith
filled_many features (g ∷ gs) h = go g.kinds h.0.2 (filled_many features gs h.1)
  where
    go : (ks : List Kind) → is_filled ks ≡ true → length gs ≤ length (kinds_of gs) → suc (length gs) ≤ length (ks ++ kinds_of gs)
    go [] e le = absurd cc
    go (k ∷ ks) e le = let many = length-append ks (kinds_of gs) in omega (arith, le, many)

-- ---- numbers

pub rise_few : (bound : ℕ) (ns : List ℕ) (from : ℕ) → Rise ns → ((i n : ℕ) → slice_get ns i ≡ Some n → from ≤ n) → ((i n : ℕ) → slice_get ns i ≡ Some n → n < bound) → from ≤ bound → from + length ns ≤ bound
rise_few bound [] from rise least most le = omega (arith, le)
rise_few bound (n ∷ ns) from rise least most le =
    let first = least 0 n refl in
    let lt = most 0 n refl in
    let later = rise_few bound ns (suc n) (λ i j k l before x y. rise (suc i) (suc j) k l (omega (arith, before)) x y) (λ i k x. rise 0 (suc i) n k (omega arith) refl x) (λ i k x. most (suc i) k x) (omega (arith, lt)) in
    omega (arith, first, later)

pub some_at : {A : Type 0} (o : Option A) → IsSome o → (x : A) × (o ≡ Some x)
some_at None h = absurd cc
some_at (Some x) h = (x, refl)

pub index_low : (t : Table) (out : List TypeGroup) (indices : List (Option ℕ)) (e : IsEmission t out indices) → length (written_types t e.groups) ≤ 1000000 → (n : ℕ) → index_at indices n < 2 ^ 20
index_low t out indices e few n = go (slice_index_or indices n None) refl
  where
    go : (o : Option ℕ) → slice_index_or indices n None ≡ o → unwrap_or o 0 < 2 ^ 20
    go None is = omega arith
    go (Some i) is = let lt = slice_get_within (written_types t e.groups) i n (e.arranged.indexed.place n i is) in omega (arith, lt, few)

module _ (p : Plan) (m : Module) (counted : IsCounted (part p m)) (types : (n : ℕ) → p.renames Types n < 2 ^ 20) (labels : (n : ℕ) → p.renames Labels n ≡ n) (locals : (n : ℕ) → p.renames Locals n ≡ n) where
  listed_low : (space : Space) → length (p.listed space) ≤ 1000000 → (n : ℕ) → IsIn p space n → p.renames space n < 2 ^ 32
  listed_low space le n is = let lt = slice_get_within (p.listed space) (p.renames space n) n is in omega (arith, lt, le)

  elements_few : length (p.listed ElementSegments) ≤ 1000000
  elements_few =
      let xs = picked (renumbered_element p.renames) (p.listed ElementSegments) m.elements in
      let ys = map (λ (ns : List ℕ). (let o : Option Element = Some (declaring p.renames ns) in o)) p.declared in
      let many = length-append xs ys in
      let same : length xs ≡ length (p.listed ElementSegments) = length-map (p.listed ElementSegments) _ in
      let le = counted.elements in
      omega (arith, many, same, le)

  few : {A : Type 0} (space : Space) (f : A → A) (xs : List (Option A)) → length (picked f (p.listed space) xs) ≤ 1000000 → length (p.listed space) ≤ 1000000
  few {A} space f xs le = let same : length (picked f (p.listed space) xs) ≡ length (p.listed space) = length-map (p.listed space) _ in omega (arith, same, le)

  less : (n : ℕ) → n ≤ 100 → n ≤ 1000000
  less n le = omega (arith, le)

  less_data : (n : ℕ) → n ≤ 100000 → n ≤ 1000000
  less_data n le = omega (arith, le)

  pub in_low : (space : Space) → IsShared space → (n : ℕ) → IsIn p space n → p.renames space n < 2 ^ 32
  in_low Types s n is = let lt = types n in omega (arith, lt)
  in_low Functions s n is = listed_low Functions (few Functions (renumbered_function p.renames p.brings) m.functions counted.functions) n is
  in_low Tables s n is = listed_low Tables (few Tables (renumbered_table p.renames p.brings) m.tables (less _ counted.tables)) n is
  in_low Memories s n is = listed_low Memories (few Memories (renumbered_memory p.renames p.brings) m.memories (less _ counted.memories)) n is
  in_low Tags s n is = listed_low Tags (few Tags (renumbered_tag p.renames p.brings) m.tags counted.tags) n is
  in_low Globals s n is = listed_low Globals (few Globals (renumbered_global p.renames p.brings) m.globals counted.globals) n is
  in_low ElementSegments s n is = listed_low ElementSegments elements_few n is
  in_low DataSegments s n is = listed_low DataSegments (few DataSegments (renumbered_segment p.renames) m.segments (less_data _ counted.segments)) n is
  in_low Locals s n is = absurd s
  in_low Labels s n is = absurd s

  pub kept_low : (space : Space) (n : ℕ) → n < 2 ^ 32 → NumberKept p space n → p.renames space n < most_of space
  kept_low Types n lt is = types n
  kept_low Functions n lt is = in_low Functions tt n is
  kept_low Tables n lt is = in_low Tables tt n is
  kept_low Memories n lt is = in_low Memories tt n is
  kept_low Tags n lt is = in_low Tags tt n is
  kept_low Globals n lt is = in_low Globals tt n is
  kept_low ElementSegments n lt is = in_low ElementSegments tt n is
  kept_low DataSegments n lt is = in_low DataSegments tt n is
  kept_low Locals n lt is = let e = locals n in omega (arith, e, lt)
  kept_low Labels n lt is = let e = labels n in omega (arith, e, lt)

  all_low : (ns : List ℕ) → AllByRecursion (λ (n : ℕ). IsIn p Functions n) ns → AllByRecursion (λ (n : ℕ). n < 2 ^ 32) (map (p.renames Functions) ns)
  all_low [] h = tt
  all_low (n ∷ ns) h = (in_low Functions tt n h.0, all_low ns h.1)

  items_numbered : (items : Elements) → ItemsKept p items → ItemsNumbered (renumbered_items p.renames items)
  items_numbered (Listed ns) h = all_low ns h
  items_numbered (Expressions ty es) h = tt

  mode_numbered : (space : Space) → IsShared space → (mode : Mode) → ModeIn p space mode → ModeNumbered (renumbered_mode p.renames space mode)
  mode_numbered space s Passive h = tt
  mode_numbered space s Declared h = tt
  mode_numbered space s (Active n e) h = in_low space s n h.0

  start_numbered : (o : Option ℕ) → StartIn p o → NumberIn (option_map (p.renames Functions) o)
  start_numbered None h = tt
  start_numbered (Some n) h = in_low Functions tt n h

  export_numbered : (space : FileSpace) (n : ℕ) → IsExported space → ItemIn p space n → number_in p.renames space n < 2 ^ 32
  export_numbered spaces.Function n e h = in_low Functions tt n h
  export_numbered spaces.Table n e h = in_low Tables tt n h
  export_numbered spaces.Memory n e h = in_low Memories tt n h
  export_numbered spaces.Tag n e h = in_low Tags tt n h
  export_numbered spaces.Global n e h = in_low Globals tt n h
  export_numbered spaces.Type n e h = absurd e
  export_numbered spaces.Element n e h = absurd e
  export_numbered spaces.Data n e h = absurd e
  export_numbered spaces.Local n e h = absurd e
  export_numbered spaces.Label n e h = absurd e

  type_low : (n : ℕ) → p.renames Types n < 2 ^ 32
  type_low n = let lt = types n in omega (arith, lt)

  -- ---- all of it, of a module whose items are within their limits and whose kept part is closed

  module _ (small : FittingNamesAreSmall) (fit : RenamedOperatorsFit) (features : WasmFeatures) (a b : Around) (h : AreIn features m) (closed : IsClosed p a b m)
      (exported : Each (λ (e : Export). IsExported e.item.space) m.exports) (groups : AllByRecursion (GroupIn features) p.groups) (few_groups : length p.groups < 2 ^ 32)
      (declared : AllByRecursion (λ (ns : List ℕ). length ns < 2 ^ 32) p.declared) where
    declared_in : (ls : List (List ℕ)) → AllByRecursion (λ (ns : List ℕ). length ns < 2 ^ 32) ls → Each (ElementIn features) (map (λ (ns : List ℕ). (let o : Option Element = Some (declaring p.renames ns) in o)) ls)
    declared_in [] k = tt
    declared_in (ns ∷ ls) k = let many = length-map ns (p.renames Functions) in let lt = k.0 in ((tt, omega (arith, many, lt)), declared_in ls k.1)

    declared_low : (ls : List (List ℕ)) → AllByRecursion (AllByRecursion (λ (n : ℕ). IsIn p Functions n)) ls
        → Each (λ (e : Element). ModeNumbered e.mode × ItemsNumbered e.items) (map (λ (ns : List ℕ). (let o : Option Element = Some (declaring p.renames ns) in o)) ls)
    declared_low [] k = tt
    declared_low (ns ∷ ls) k = ((tt, all_low ns k.0), declared_low ls k.1)

    pub part_in : AreIn features (part p m)
    part_in = record {
      groups = groups;
      imports = each_picked (ImportIn features) (renumbered_import p.renames) m.imports p.imports (λ i n at x slot. each_at (ImportIn features) m.imports n x h.imports slot);
      functions = each_picked (λ (f : Function). OriginIn features f.origin) (renumbered_function p.renames p.brings) m.functions (p.listed Functions)
          (λ i n at x slot. body_fits small fit features p types kept_low a b x.origin (each_at (λ (f : Function). OriginIn features f.origin) m.functions n x h.functions slot) (closed.functions i n at x slot).1);
      tables = each_picked (TableIn features) (renumbered_table p.renames p.brings) m.tables (p.listed Tables)
          (λ i n at x slot. let old = each_at (TableIn features) m.tables n x h.tables slot in ((ref_retyped features (p.renames Types) types x.element old.0.0, old.0.1), init_fits small fit features p types kept_low x.init old.1 (closed.tables i n at x slot).1));
      memories = each_picked (MemoryIn features) (renumbered_memory p.renames p.brings) m.memories (p.listed Memories) (λ i n at x slot. each_at (MemoryIn features) m.memories n x h.memories slot);
      globals = each_picked (GlobalIn features) (renumbered_global p.renames p.brings) m.globals (p.listed Globals)
          (λ i n at x slot. let old = each_at (GlobalIn features) m.globals n x h.globals slot in (value_retyped features (p.renames Types) types x.ty old.0, own_fits small fit features p types kept_low x.origin old.1 (closed.globals i n at x slot).1));
      exports = each_picked (λ (e : Export). NameIn e.name) (renumbered_export p.renames) m.exports p.exports (λ i n at x slot. each_at (λ (e : Export). NameIn e.name) m.exports n x h.exports slot);
      elements = each_joined (ElementIn features) (picked (renumbered_element p.renames) (p.listed ElementSegments) m.elements) (map (λ (ns : List ℕ). (let o : Option Element = Some (declaring p.renames ns) in o)) p.declared)
          (each_picked (ElementIn features) (renumbered_element p.renames) m.elements (p.listed ElementSegments)
          (λ i n at x slot. let old = each_at (ElementIn features) m.elements n x h.elements slot in let keeps = closed.elements i n at x slot in
          (mode_fits small fit features p types kept_low Tables x.mode old.0 keeps.0, items_fit small fit features p types kept_low x.items old.1 keeps.1)))
          (declared_in p.declared declared);
      segments = each_picked (SegmentIn features) (renumbered_segment p.renames) m.segments (p.listed DataSegments)
          (λ i n at x slot. let old = each_at (SegmentIn features) m.segments n x h.segments slot in (mode_fits small fit features p types kept_low Memories x.mode old.0 (closed.segments i n at x slot), old.1));
      customs = tt;
    }

    pub part_numbered : AreNumbered (part p m)
    part_numbered = record {
      few_groups = few_groups;
      functions = each_picked (λ (f : Function). f.ty < 2 ^ 32) (renumbered_function p.renames p.brings) m.functions (p.listed Functions) (λ i n at x slot. type_low x.ty);
      tags = each_picked (λ (t : Tag). t.ty < 2 ^ 32) (renumbered_tag p.renames p.brings) m.tags (p.listed Tags) (λ i n at x slot. type_low x.ty);
      exports = each_picked (λ (e : Export). e.item.number < 2 ^ 32) (renumbered_export p.renames) m.exports p.exports
          (λ i n at x slot. export_numbered x.item.space x.item.number (each_at (λ (e : Export). IsExported e.item.space) m.exports n x exported slot) (closed.exports i n at x slot));
      start = start_numbered m.start closed.start;
      elements = each_joined (λ (e : Element). ModeNumbered e.mode × ItemsNumbered e.items) (picked (renumbered_element p.renames) (p.listed ElementSegments) m.elements)
          (map (λ (ns : List ℕ). (let o : Option Element = Some (declaring p.renames ns) in o)) p.declared)
          (each_picked (λ (e : Element). ModeNumbered e.mode × ItemsNumbered e.items) (renumbered_element p.renames) m.elements (p.listed ElementSegments)
          (λ i n at x slot. let keeps = closed.elements i n at x slot in (mode_numbered Tables tt x.mode keeps.0, items_numbered x.items keeps.1)))
          (declared_low p.declared closed.declared);
      segments = each_picked (λ (x : Segment). ModeNumbered x.mode) (renumbered_segment p.renames) m.segments (p.listed DataSegments) (λ i n at x slot. mode_numbered Memories tt x.mode (closed.segments i n at x slot));
    }
