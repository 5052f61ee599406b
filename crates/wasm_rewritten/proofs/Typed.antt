-- Lemmas: block types of the normal form of a kept function stand in what is written.
use Rattle.std.specs.Prelude.{ℕ, ◌≡◌, ◌<◌, true, List, [], ◌∷◌, length, map, Option, Some, slice_get}
use Rattle.std.specs.List.{AllByRecursion, flat_map}
use Rattle.std.specs.Option.{option_map}
use Rattle.std.proofs.Common.{ap, sym, ◌∙◌, subst}
use Rattle.std.proofs.lemmas.Bool.{ltb-true}
use Rattle.walrus_forms.proofs.RenamingLemmas.{kinds-agree, kinds-twice}
use Rattle.walrus_forms.specs.Kinds.{Kind}
use Rattle.walrus_forms.specs.Records.{TypeGroup}
use Rattle.walrus_forms.specs.Renaming.{at, renamed_kind}
use Rattle.walrus_types.specs.Emission.{IsEmission, index_at, written_kind, written_types}
use Rattle.walrus_types.specs.Table.{Table}
use Rattle.wasm_features.specs.declared.WasmFeatures.{WasmFeatures}
use Rattle.wasm_operators.specs.declared.block_type.BlockType.TheVariants as blocks
use Rattle.wasm_operators.specs.Items.{Space, Types, Functions, Tables, Memories, Tags, Globals, ElementSegments, DataSegments, Locals, Labels, Item, Block, Names, Number, S32, S64, Bits, Byte, Bytes, Heap, Access, ManyLabels, ManyValues, ManyClauses}
use Rattle.wasm_operators.specs.Names.{Name, Renaming, item_names, operator_names}
use Rattle.wasm_operators.specs.Operators.{Seen, flow_of}
use Rattle.wasm_grammar.specs.Modules.{Module}
use Rattle.wasm_grammar.specs.States.{types_of}
use Rattle.wasm_body_grammar.specs.Frames.{Frame, label_count, turned}
use Rattle.wasm_body_grammar.specs.Bodies.{frames_of}
use Rattle.wasm_body_grammar.specs.Rules.{Around, room}
use Rattle.wasm_ruled_modules.specs.Rules.{AreOperators, around_bodies}
use Rattle.wasm_normal_form.specs.Roles.{Placed as Text}
use Rattle.wasm_normal_modules.specs.Modules.{by_types}
use Rattle.wasm_normal_modules.proofs.Slots.{get_some}
use Rattle.wasm_ruled_renamed.specs.Types.{Retypes}
use Rattle.wasm_ruled_normal.specs.Normal.{located}
use Rattle.wasm_ruled_normal.proofs.Tests.{Within, all_split, names_within, passes}
use Rattle.wasm_part.specs.Emitted.{EmittedTypesStand}
use Rattle.wasm_merged_modules.specs.Merged.{ids_of, kinds_of, merged_module}
use Rattle.wasm_module_bytes.specs.Bytes.{without_places}
use Rattle.wasm_part.specs.Part.{IsIn, Plan, part}
use Rattle.wasm_run_names.specs.Picks.{BlockTypesStand}
use Rattle.wasm_run_laws.specs.wasm_runs.Modules.{signature_in}
use Rattle.wasm_run_laws.specs.wasm_runs.Programs.{operators}
use Rattle.wasm_run_laws.specs.wasm_runs.Renamed.{within}
use Rattle.wasm_run_laws.specs.Stands.{AreTypedSo, IsTypedSo}
use Rattle.wasm_rewritten.specs.Runs.{maps_of}
use Rattle.wasm_rewritten.proofs.Named.{ComesIn}

-- ---- types that are named are there

module _ (file : Module) where
  abbrev pub TypeThere : Space → ℕ → Type 0
  TypeThere Types n = n < length (types_of file)
  TypeThere space n = Unit {0}

  abbrev pub TypesThere : Seen → Type 0
  TypesThere op = AllByRecursion (λ (n : Name). TypeThere n.0 n.1) (operator_names op)

  module _ (features : WasmFeatures) where
    abbrev a : Around
    a = around_bodies features true file

    type_there : (locals labels : ℕ) (space : Space) (n : ℕ) → Within (room a locals labels) (space, n) → TypeThere space n
    type_there locals labels Types n h = ltb-true n (length (types_of file)) h
    type_there locals labels Functions n h = tt
    type_there locals labels Tables n h = tt
    type_there locals labels Memories n h = tt
    type_there locals labels Tags n h = tt
    type_there locals labels Globals n h = tt
    type_there locals labels ElementSegments n h = tt
    type_there locals labels DataSegments n h = tt
    type_there locals labels Locals n h = tt
    type_there locals labels Labels n h = tt

    names_there : (locals labels : ℕ) (names : List Name) → AllByRecursion (Within (room a locals labels)) names → AllByRecursion (λ (n : Name). TypeThere n.0 n.1) names
    names_there locals labels [] h = tt
    names_there locals labels (n ∷ names) h = (type_there locals labels n.0 n.1 h.0, names_there locals labels names h.1)

    pub ops_there : (place : Option ℕ → ℕ) (locals : ℕ) (frames : List Frame) (ops : List Text) → AreOperators a locals frames (map (located place) ops) → AllByRecursion TypesThere (operators ops)
    ops_there place locals frames [] h = tt
    ops_there place locals frames (o ∷ ops) h =
        let labels = label_count (flow_of o.op.code) frames in
        (names_there locals labels (operator_names o.op) (names_within (room a locals labels) (operator_names o.op) (passes a locals frames o.op h.1).named), ops_there place locals (frames_of (turned (flow_of o.op.code) frames) frames) ops h.2)

-- ---- and stand in what is written, renamed

some_same : {A : Type 0} (x y : A) → (let some : A → Option A = λ x. Some x in some x ≡ some y) → x ≡ y
some_same x y e = cc

module _ (stand : BlockTypesStand) (emitted : EmittedTypesStand) (place : Option ℕ → ℕ) (features : WasmFeatures) (more : List TypeGroup) (file n : Module) (t : Table) (p : Plan)
    (indices : List (Option ℕ)) (e : IsEmission t p.groups indices) (listed : p.listed Types ≡ written_types t e.groups) (index : p.renames Types ≡ index_at indices)
    (known : (k : ℕ) (kind : Kind) → written_kind t k ≡ Some kind → slice_get (types_of (merged_module place features true more file)) k ≡ Some kind)
    (whole : without_places n ≡ record (without_places (part p (merged_module place features true more file))) { customs = n.customs })
    (types : Retypes (at (ids_of file.groups)) (around_bodies features true file) (around_bodies features true (merged_module place features true more file))) where
  abbrev ids : ℕ → ℕ
  ids = at (ids_of file.groups)

  abbrev into : ℕ → Renaming
  into f = within (maps_of features file p) f

  type_stands : (f k : ℕ) → IsIn p Types (ids k) → k < length (types_of file) → slice_get (types_of n) (p.renames Types (ids k)) ≡ option_map (renamed_kind (into f Types)) (slice_get (types_of file) k)
  type_stands f k is lt =
      let r = p.renames Types (ids k) in
      let here = get_some (types_of file) k lt in
      let there = (emitted t p.groups indices e).stand r (ids k) (subst (λ (l : List ℕ). slice_get l r ≡ Some (ids k)) listed is) in
      let merged : slice_get (types_of (merged_module place features true more file)) (ids k) ≡ Some (renamed_kind ids here.0) = types.stands k lt ∙ ap (option_map (renamed_kind ids)) here.1 in
      let same : there.kind ≡ renamed_kind ids here.0 = some_same there.kind (renamed_kind ids here.0) (sym (known (ids k) there.kind there.is) ∙ merged) in
      let moved : slice_get (types_of n) r ≡ slice_get (kinds_of p.groups) r = ap (λ (m : Module). slice_get (types_of m) r) whole in
      let twice : renamed_kind (index_at indices) (renamed_kind ids here.0) ≡ renamed_kind (λ m. index_at indices (ids m)) here.0 = kinds-twice ids (index_at indices) here.0 in
      let agree : renamed_kind (λ m. index_at indices (ids m)) here.0 ≡ renamed_kind (into f Types) here.0 =
      kinds-agree (λ m. index_at indices (ids m)) (into f Types) here.0 (λ m i. ap (λ (q : ℕ → ℕ). q (ids m)) (sym index)) in
      moved ∙ there.stands ∙ ap (λ (x : Kind). Some x) (ap (renamed_kind (index_at indices)) same ∙ twice ∙ agree) ∙ sym (ap (option_map (renamed_kind (into f Types))) here.1)

  -- ---- of an operator

  abbrev Comes : Name → Type 0
  Comes = ComesIn p (by_types ids)

  abbrev There : Name → Type 0
  There x = TypeThere file x.0 x.1

  item_typed : (f : ℕ) (x : Item) → AllByRecursion Comes (item_names x) → AllByRecursion There (item_names x) → IsTypedSo (into f) (signature_in file) (signature_in n) x
  item_typed f (Block blocks.Empty) h l = stand (into f) file n blocks.Empty tt
  item_typed f (Block (blocks.Value ty)) h l = stand (into f) file n (blocks.Value ty) tt
  item_typed f (Block (blocks.Type k)) h l = stand (into f) file n (blocks.Type k) (type_stands f k h.0 l.0)
  item_typed f (Names space k) h l = tt
  item_typed f (Number k) h l = tt
  item_typed f (S32 z) h l = tt
  item_typed f (S64 z) h l = tt
  item_typed f (Bits size k) h l = tt
  item_typed f (Byte c) h l = tt
  item_typed f (Bytes run) h l = tt
  item_typed f (Heap ty) h l = tt
  item_typed f (Access x) h l = tt
  item_typed f (ManyLabels ns) h l = tt
  item_typed f (ManyValues tys) h l = tt
  item_typed f (ManyClauses cs) h l = tt

  items_typed : (f : ℕ) (xs : List Item) → AllByRecursion Comes (flat_map item_names xs) → AllByRecursion There (flat_map item_names xs) → AllByRecursion (IsTypedSo (into f) (signature_in file) (signature_in n)) xs
  items_typed f [] h l = tt
  items_typed f (x ∷ xs) h l =
      let both = all_split Comes (item_names x) (flat_map item_names xs) h in let others = all_split There (item_names x) (flat_map item_names xs) l in
      (item_typed f x both.0 others.0, items_typed f xs both.1 others.1)

  pub ops_typed : (f : ℕ) (ops : List Seen) → AllByRecursion (λ (o : Seen). AllByRecursion Comes (operator_names o)) ops → AllByRecursion (TypesThere file) ops → AllByRecursion (AreTypedSo (into f) (signature_in file) (signature_in n)) ops
  ops_typed f [] h l = tt
  ops_typed f (o ∷ ops) h l = (items_typed f o.items h.0 l.0, ops_typed f ops h.1 l.1)
