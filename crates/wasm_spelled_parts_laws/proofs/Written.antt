-- Lemmas: what is written of a file is within its limits.
use Rattle.std.specs.Prelude.{ℕ, ◌<◌, ◌≤◌, ◌^◌, ◌≡◌, Bool, true, List, [], ◌∷◌, length, Some, None, IsSome, slice_index_or, refl}
use Rattle.std.specs.List.{AllByRecursion, flat_map}
use Rattle.std.specs.Option.{option_map}
use Rattle.std.proofs.Common.{sym, subst, arith}
use Rattle.std.proofs.lemmas.List.{length-map}
use Rattle.walrus_forms.specs.Kinds.{Kind}
use Rattle.walrus_forms.specs.Records.{TypeGroup}
use Rattle.walrus_forms.specs.Renaming.{at}
use Rattle.walrus_types.specs.Emission.{index_at, written_kind}
use Rattle.wasm_features.specs.declared.WasmFeatures.{WasmFeatures}
use Rattle.wasm_ref_types.specs.TypeSpellings.{HasGcTypes}
use Rattle.wasm_operators.specs.Items.{Types, Functions}
use Rattle.wasm_grammar.specs.Modules.{Body, Function, Imported, Module, Origin, Own, Placed, empty}
use Rattle.wasm_grammar.specs.States.{types_of}
use Rattle.wasm_module_bytes.specs.Due.{IsWritten}
use Rattle.wasm_body_grammar.specs.Rules.{Around}
use Rattle.wasm_ruled_modules.specs.Rules.{ReadModulesAreRuled, around_bodies}
use Rattle.wasm_normal_modules.specs.Modules.{ReadModulesMeetRules, normal_function}
use Rattle.wasm_merged_modules.specs.Merged.{MissingKindsAreNew, NewKindsStandBehind, ids_of, is_filled, kept_of, once}
use Rattle.wasm_part.specs.Closed.{IsClosed, Rise, SegmentCounts}
use Rattle.wasm_part.specs.Emitted.{EmittedTypesStand}
use Rattle.wasm_part.specs.Handlers.{HandlersAreMissing, handler_groups, lacking}
use Rattle.wasm_part.specs.Kept.{AreFilled, BodyCounts, BodyPicked, KeptIsClosed, PicksServe}
use Rattle.wasm_part.specs.Order.{HasDeclared}
use Rattle.wasm_part.specs.Part.{IsIn, Plan}
use Rattle.wasm_part.specs.Seen.{file_seen}
use Rattle.wasm_part.proofs.Picked.{all_at, each_at, slot_there}
use Rattle.wasm_rewritten.specs.Orderly.{ReadFilesAreOrderly}
use Rattle.wasm_rewritten.specs.Ruled.{FilesNameTheirLocals, ReadFilesArePicked}
use Rattle.wasm_spelled_parts_laws.specs.Items.{GroupIn, KindIn, ReadItemsAreIn}
use Rattle.wasm_spelled_parts_laws.specs.Merged.{MergedItemsAreIn}
use Rattle.wasm_spelled_parts_laws.specs.Operators.{FittingNamesAreSmall, RenamedOperatorsFit}
use Rattle.wasm_spelled_parts_laws.specs.Parts.{WrittenItemsAreIn}
use Rattle.wasm_spelled_parts_laws.specs.Whole.{source_of}
use Rattle.wasm_spelled_parts_laws.proofs.Fitting.{both_all}
use Rattle.wasm_spelled_parts_laws.proofs.Groups.{IsShaped, all_joined, any_marks, groups_shaped, kept_shaped, singles_shaped}
use Rattle.wasm_spelled_parts_laws.proofs.Parts.{filled_many, groups_in, index_low, part_in, part_numbered, rise_few, some_at}

-- where there is no type, each serves
abbrev nowhere : WasmFeatures → Around
nowhere features = around_bodies features true empty

counts_true : (ops : List Placed) → AllByRecursion (λ (o : Placed). SegmentCounts true o.op) ops
counts_true [] = tt
counts_true (o ∷ ops) = (λ e. refl, counts_true ops)

origin_counts : (o : Origin Body) → BodyCounts true o
origin_counts (Imported n) = tt
origin_counts (Own x) = counts_true x.operators

zipped : (features : WasmFeatures) (gs : List TypeGroup) → AllByRecursion (GroupIn features) gs → AllByRecursion (IsShaped (λ b. Unit {0})) gs → AllByRecursion (IsShaped (λ b. b ≡ true → HasGcTypes features)) gs
zipped features [] h k = tt
zipped features (g ∷ gs) h k = ((h.0.0, k.0.1), zipped features gs h.1 k.1)

all_kinds : (features : WasmFeatures) (gs : List TypeGroup) → AllByRecursion (GroupIn features) gs → AllByRecursion (KindIn features) (flat_map (λ (g : TypeGroup). g.kinds) gs)
all_kinds features [] h = tt
all_kinds features (g ∷ gs) h = both_all (KindIn features) g.kinds (flat_map (λ (g : TypeGroup). g.kinds) gs) h.0.2 (all_kinds features gs h.1)

-- ---- a segment that declares has no more functions than there are

module _ (p : Plan) (m : Module) (few : length m.functions ≤ 1000000) (filled : AreFilled (p.listed Functions) m.functions) where
  within : (n : ℕ) → IsIn p Functions n → n < 1000000
  within n is =
      let some = all_at (λ (n : ℕ). IsSome (slice_index_or m.functions n None)) (p.listed Functions) filled (p.renames Functions n) n is in
      let x = some_at (slice_index_or m.functions n None) some in
      let lt = slot_there m.functions n x.0 x.1 in
      omega (arith, lt, few)

  one_few : (ns : List ℕ) → Rise ns → AllByRecursion (λ (n : ℕ). IsIn p Functions n) ns → length ns < 2 ^ 32
  one_few ns rise h = let le = rise_few 1000000 ns 0 rise (λ i n e. omega arith) (λ i n e. within n (all_at (λ (n : ℕ). IsIn p Functions n) ns h i n e)) (omega arith) in omega (arith, le)

  declared_few : (ls : List (List ℕ)) → HasDeclared m p ls → AllByRecursion (AllByRecursion (λ (n : ℕ). IsIn p Functions n)) ls → AllByRecursion (λ (ns : List ℕ). length ns < 2 ^ 32) ls
  declared_few [] h k = tt
  declared_few (ns ∷ []) h k = (one_few ns h.0 k.0, tt)
  declared_few (ns ∷ ms ∷ ls) h k = absurd h

pub written_items : ReadItemsAreIn → MergedItemsAreIn → FittingNamesAreSmall → RenamedOperatorsFit → ReadModulesAreRuled → ReadModulesMeetRules → HandlersAreMissing → NewKindsStandBehind → MissingKindsAreNew
    → ReadFilesArePicked → FilesNameTheirLocals → ReadFilesAreOrderly → EmittedTypesStand → KeptIsClosed → WrittenItemsAreIn
written_items read merged small fit ruled rules missing behind new picked named orderly emitted closes place keep features bytes file t p bytes_small reads w declared counted =
    let more = handler_groups file in
    let m = source_of place features file in
    let h = merged place features bytes file reads (read features bytes file bytes_small reads) in
    let own = rules features bytes file reads in
    let stands = behind features true file (once (lacking file)) own.groups (new file.groups (lacking file) own.groups (missing features bytes file reads)) in
    let all = picked place features bytes file reads in
    let a = around_bodies features true m in
    let b = nowhere features in
    let serve : PicksServe p a b = λ n is e f. refl in
    let closed : IsClosed p a b m = closes (file_seen place features more file) keep [] p a b w.kept serve
    (λ i n at f slot. (each_at (λ (f : Function). BodyPicked a f.origin) m.functions n f all.1 slot, named place features more file own stands n f slot, origin_counts f.origin)) in
    let stand = emitted t p.groups w.indices w.emitted in
    let many = stand.many in
    let few_types = counted.types in
    let q = index_at w.indices in
    let q_low = index_low t p.groups w.indices w.emitted (omega (arith, many, few_types)) in
    let low : (n : ℕ) → p.renames Types n < 2 ^ 20 = λ n. subst (λ (r : ℕ → ℕ). r n < 2 ^ 20) (sym w.index) (q_low n) in
    let shaped = all_joined (IsShaped (λ b. Unit {0})) (kept_of file.groups) more (kept_shaped (λ b. Unit {0}) (ids_of file.groups) 0 file.groups (any_marks file.groups)) (singles_shaped (λ b. Unit {0}) tt (once (lacking file))) in
    let Marks : Bool → Type 0 = λ b. b ≡ true → HasGcTypes features in
    let shapes = groups_shaped t Marks (file_seen place features more file) p.groups w.indices w.emitted w.grouped (zipped features m.groups h.groups shaped) in
    let kinds = all_kinds features m.groups h.groups in
    let kind_in : (n : ℕ) (kind : Kind) → written_kind t n ≡ Some kind → KindIn features kind = λ n kind e. all_at (KindIn features) (types_of m) kinds n kind (w.known n kind e) in
    let described = subst (λ (l : List TypeGroup). AllByRecursion (λ (g : TypeGroup). Marks g.marked × IsWritten g × (is_filled g.kinds ≡ true)) l) w.emitted.described shapes in
    let groups = subst (λ (l : List TypeGroup). AllByRecursion (GroupIn features) l) (sym w.emitted.described) (groups_in features t kind_in q q_low w.emitted.groups described) in
    let fewer = filled_many features p.groups shapes in
    let few_groups : length p.groups < 2 ^ 32 = omega (arith, fewer, few_types) in
    let functions : length m.functions ≤ 1000000 = let same = length-map file.functions (option_map (normal_function place (around_bodies features true file) (at (ids_of file.groups)))) in let le = (ruled features bytes file reads).1.lists.functions in omega (arith, same, le) in
    let declared_so = declared_few p m functions w.kept.there.functions p.declared declared closed.declared in
    let exported = (orderly place features bytes more file reads).0.exports in (
      part_in p m counted low w.labels w.locals small fit features a b h closed exported groups few_groups declared_so,
      part_numbered p m counted low w.labels w.locals small fit features a b h closed exported groups few_groups declared_so,
    )
