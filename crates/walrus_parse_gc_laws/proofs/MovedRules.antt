-- Rules don't look at places: what meets them meets them with the operators of its bodies elsewhere.
use Rattle.std.proofs.Common.{ℕ, ◌≡◌, ◌⊎◌, ◌≤◌, ◌+◌, ◌<◌, Bool, false, List, [], ◌∷◌, length, map, filter, Option, Some, None, refl, sym, ap, subst}
use Rattle.std.specs.List.{AllByRecursion, AllZip}
use Rattle.wasm_normal_modules.specs.Modules.{MeetsRules, OriginPicked}
use Rattle.wasm_normal_modules.specs.wasm_ruled_renamed.wasm_ruled_normal.Normal.{OpensPicked}
use Rattle.wasm_normal_modules.specs.wasm_ruled_renamed.wasm_ruled_normal.wasm_normal_form.wasm_operators.wasm_features.declared.WasmFeatures.{WasmFeatures}
use Rattle.wasm_normal_modules.specs.wasm_ruled_renamed.wasm_ruled_normal.wasm_ruled_modules.Rules.{AreExpressed, AreNamed, AreOperators, GlobalsSee, HasBody, IsBody, IsInit, IsPlaced, ItemsKnown, LocalsBelow, OriginRuled, around_bodies, bare_origin, bare_slot, is_imported, memory_wide, table_wide}
use Rattle.wasm_normal_modules.specs.wasm_ruled_renamed.wasm_ruled_normal.wasm_ruled_modules.wasm_module_rules.Linked.{AreListed, Each, IsBelow, IsFunctionType, IsLinked}
use Rattle.wasm_normal_modules.specs.wasm_ruled_renamed.wasm_ruled_normal.wasm_ruled_modules.wasm_module_rules.wasm_modules.wasm_body_grammar.Bodies.{frames_of, is_closed, most_locals}
use Rattle.wasm_normal_modules.specs.wasm_ruled_renamed.wasm_ruled_normal.wasm_ruled_modules.wasm_module_rules.wasm_modules.wasm_body_grammar.Codes.{param_count}
use Rattle.wasm_normal_modules.specs.wasm_ruled_renamed.wasm_ruled_normal.wasm_ruled_modules.wasm_module_rules.wasm_modules.wasm_body_grammar.Frames.{Frame, Plain, turned}
use Rattle.wasm_normal_modules.specs.wasm_ruled_renamed.wasm_ruled_normal.wasm_ruled_modules.wasm_module_rules.wasm_modules.wasm_body_grammar.Rules.{Around, operator_test}
use Rattle.wasm_normal_modules.specs.wasm_ruled_renamed.wasm_ruled_normal.wasm_ruled_modules.wasm_module_rules.wasm_modules.wasm_body_grammar.wasm_formats.declared.fault.Space.{Space}
use Rattle.wasm_normal_modules.specs.wasm_ruled_renamed.wasm_ruled_normal.wasm_ruled_modules.wasm_module_rules.wasm_modules.wasm_body_grammar.wasm_formats.declared.fault.Space.TheVariants as spaces
use Rattle.wasm_normal_modules.specs.wasm_ruled_renamed.wasm_ruled_normal.wasm_ruled_modules.wasm_module_rules.wasm_modules.wasm_body_grammar.wasm_grammar.Modules.{Body, Element, Export, Function, Import, Imported, Module, Origin, Own, Placed, Segment, Table}
use Rattle.wasm_normal_modules.specs.wasm_ruled_renamed.wasm_ruled_normal.wasm_ruled_modules.wasm_module_rules.wasm_modules.wasm_body_grammar.wasm_grammar.States.{count_of, types_of}
use Rattle.wasm_normal_modules.specs.wasm_ruled_renamed.wasm_ruled_normal.wasm_ruled_modules.wasm_module_rules.wasm_modules.wasm_body_grammar.wasm_operators.Operators.{Seen, flow_of}
use Rattle.walrus_parse_gc_laws.specs.Moved.{BodyMoved, FunctionMoved, ModuleMoved, OperatorMoved, OriginMoved, SlotMoved}
use Rattle.walrus_parse_gc_laws.specs.SentRuled.{MovedModulesMeetRules}
use Rattle.walrus_parse_gc_laws.proofs.ZipLemmas.{zip_length}

module _ (P : ℕ → ℕ → Type 0) where
  -- ---- bodies
  operators_ruled : (a : Around) (locals : ℕ) (frames : List Frame) (xs ys : List Placed) → AllZip (OperatorMoved P) xs ys → AreOperators a locals frames xs → AreOperators a locals frames ys
  operators_ruled a locals frames [] [] z h = h
  operators_ruled a locals frames [] (y ∷ ys) z h = absurd z
  operators_ruled a locals frames (x ∷ xs) [] z h = absurd z
  operators_ruled a locals frames (x ∷ xs) (y ∷ ys) z h =
      let Rest : Seen → Type 0 = λ op. (is_closed frames ≡ false) × (operator_test a locals frames op ≡ None) × AreOperators a locals (frames_of (turned (flow_of op.code) frames) frames) ys in
      subst Rest (sym z.0.op) (h.0, h.1, operators_ruled a locals (frames_of (turned (flow_of x.op.code) frames) frames) xs ys z.1 h.2)

  body_ruled : (a : Around) (params : ℕ) (x y : Body) → BodyMoved P x y → IsBody a params x → IsBody a params y
  body_ruled a params x y z h =
      let n : length y.locals ≡ length x.locals = ap length z.locals in
      let Operators : ℕ → Type 0 = λ k. AreOperators a (params + k) (Plain ∷ []) y.operators in
      record {
        counted = subst (λ (k : ℕ). (k ≡ 0) ⊎ (params + k ≤ most_locals)) (sym n) h.counted;
        named = subst (LocalsBelow (length (types_of a.filled))) (sym z.locals) h.named;
        operators = subst Operators (sym n) (operators_ruled a (params + length x.locals) (Plain ∷ []) x.operators y.operators z.operators h.operators);
      }

  origin_ruled : (a : Around) (params : ℕ) (o p : Origin Body) → OriginMoved P o p → OriginRuled a params o → OriginRuled a params p
  origin_ruled a params (Imported n) (Imported k) z h = tt
  origin_ruled a params (Imported n) (Own y) z h = absurd z
  origin_ruled a params (Own x) (Imported k) z h = absurd z
  origin_ruled a params (Own x) (Own y) z h = body_ruled a params x y z h

  function_ruled : (a : Around) (f g : Function) → FunctionMoved P f g → HasBody a f → HasBody a g
  function_ruled a f g z h = subst (λ (ty : ℕ). OriginRuled a (param_count a.filled ty) g.origin) (sym z.ty) (origin_ruled a (param_count a.filled f.ty) f.origin g.origin z.origin h)

  -- ---- picks
  operators_picked : (a : Around) (xs ys : List Placed) → AllZip (OperatorMoved P) xs ys → AllByRecursion (OpensPicked a) xs → AllByRecursion (OpensPicked a) ys
  operators_picked a [] [] z h = tt
  operators_picked a [] (y ∷ ys) z h = absurd z
  operators_picked a (x ∷ xs) [] z h = absurd z
  operators_picked a (x ∷ xs) (y ∷ ys) z h =
      let Picked : Seen → Type 0 = λ op. OpensPicked a (record { place = y.place; op = op }) in
      (subst Picked (sym z.0.op) h.0, operators_picked a xs ys z.1 h.1)

  origin_picked : (a : Around) (o p : Origin Body) → OriginMoved P o p → OriginPicked a o → OriginPicked a p
  origin_picked a (Imported n) (Imported k) z h = tt
  origin_picked a (Imported n) (Own y) z h = absurd z
  origin_picked a (Own x) (Imported k) z h = absurd z
  origin_picked a (Own x) (Own y) z h = operators_picked a x.operators y.operators z.operators h

  -- ---- slots
  each_moved : (Q : Function → Type 0) → ((f g : Function) → FunctionMoved P f g → Q f → Q g) → (xs ys : List (Option Function)) → AllZip (SlotMoved P) xs ys → Each Q xs → Each Q ys
  each_moved Q one [] [] z h = tt
  each_moved Q one [] (y ∷ ys) z h = absurd z
  each_moved Q one (x ∷ xs) [] z h = absurd z
  each_moved Q one (None ∷ xs) (None ∷ ys) z h = each_moved Q one xs ys z.1 h
  each_moved Q one (None ∷ xs) (Some g ∷ ys) z h = absurd z.0
  each_moved Q one (Some f ∷ xs) (None ∷ ys) z h = absurd z.0
  each_moved Q one (Some f ∷ xs) (Some g ∷ ys) z h = (one f g z.0 h.0, each_moved Q one xs ys z.1 h.1)

  bare_origins : (o p : Origin Body) → OriginMoved P o p → bare_origin p ≡ bare_origin o
  bare_origins (Imported n) (Imported k) z = λ i. Imported (z i)
  bare_origins (Imported n) (Own y) z = absurd z
  bare_origins (Own x) (Imported k) z = absurd z
  bare_origins (Own x) (Own y) z = refl

  bare_slots : (x y : Option Function) → SlotMoved P x y → bare_slot y ≡ bare_slot x
  bare_slots None None z = refl
  bare_slots None (Some g) z = absurd z
  bare_slots (Some f) None z = absurd z
  bare_slots (Some f) (Some g) z = λ i. Some (record { ty = z.ty i; origin = bare_origins f.origin g.origin z.origin i })

  all_bare : (xs ys : List (Option Function)) → AllZip (SlotMoved P) xs ys → map bare_slot ys ≡ map bare_slot xs
  all_bare [] [] z = refl
  all_bare [] (y ∷ ys) z = absurd z
  all_bare (x ∷ xs) [] z = absurd z
  all_bare (x ∷ xs) (y ∷ ys) z = λ i. bare_slots x y z.0 i ∷ all_bare xs ys z.1 i

  -- ---- a module with other functions
  module _ (features : WasmFeatures) (counted : Bool) (m : Module) (fs : List (Option Function)) (moved : AllZip (SlotMoved P) m.functions fs) where
    abbrev n : Module
    n = record m { functions = fs }

    same_length : length fs ≡ length m.functions
    same_length = zip_length (SlotMoved P) m.functions fs moved

    around_stays : around_bodies features counted n ≡ around_bodies features counted m
    around_stays = λ i. record { features = features; filled = record m { functions = all_bare m.functions fs moved i }; same = (around_bodies features counted m).same; counted = counted }

    counts_stay : (space : Space) → count_of n space ≡ count_of m space
    counts_stay spaces.Function = same_length
    counts_stay _ = refl

    -- what is said of counts, and of the number of functions
    by_counts : (C : (Space → ℕ) → Type 0) → C (count_of m) → C (count_of n)
    by_counts C h = subst C (λ i space. sym (counts_stay space) i) h

    by_length : (C : ℕ → Type 0) → C (length m.functions) → C (length fs)
    by_length C h = subst C (sym same_length) h

    linked_on : IsLinked m → IsLinked n
    linked_on l = record {
      functions_typed = each_moved (λ (f : Function). IsFunctionType m f.ty) (λ f g z h. subst (IsFunctionType m) (sym z.ty) h) m.functions fs moved l.functions_typed;
      tags_typed = l.tags_typed;
      tables_limited = l.tables_limited;
      memories_limited = l.memories_limited;
      imports_there = by_counts (λ (c : Space → ℕ). Each (λ (i : Import). i.item.number < c i.item.space) m.imports) l.imports_there;
      exports_there = by_counts (λ (c : Space → ℕ). Each (λ (e : Export). e.item.number < c e.item.space) m.exports) l.exports_there;
      exports_distinct = l.exports_distinct;
      start_there = by_length (λ (k : ℕ). IsBelow k m.start) l.start_there;
      elements_there = l.elements_there;
      elements_listed = by_length (λ (k : ℕ). Each (λ (e : Element). AreListed k e.items) m.elements) l.elements_listed;
      segments_there = l.segments_there;
    }

    expressed_on : AreExpressed m → AreExpressed n
    expressed_on h = record {
      tables = by_length (λ (k : ℕ). Each (λ (t : Table). IsInit (record { types = length (types_of m); functions = k; globals = filter is_imported m.globals }) t.init) m.tables) h.tables;
      globals = by_length (λ (k : ℕ). GlobalsSee (length (types_of m)) k [] m.globals) h.globals;
      offsets = by_length (λ (k : ℕ). Each (λ (e : Element). IsPlaced (table_wide m.tables) (record { types = length (types_of m); functions = k; globals = m.globals }) e.mode) m.elements) h.offsets;
      items = by_length (λ (k : ℕ). Each (λ (e : Element). ItemsKnown (record { types = length (types_of m); functions = k; globals = m.globals }) e.items) m.elements) h.items;
      segments = by_length (λ (k : ℕ). Each (λ (x : Segment). IsPlaced (memory_wide m.memories) (record { types = length (types_of m); functions = k; globals = m.globals }) x.mode) m.segments) h.segments;
    }

    named_on : AreNamed m → AreNamed n
    named_on h = record { tables = h.tables; globals = h.globals; elements = h.elements; pages = h.pages }

    bodies_on : Each (λ (f : Function). HasBody (around_bodies features counted m) f) m.functions → Each (λ (f : Function). HasBody (around_bodies features counted n) f) fs
    bodies_on h =
        let A : Around → Type 0 = λ a. Each (λ (f : Function). HasBody a f) fs in
        subst A (sym around_stays) (each_moved (λ (f : Function). HasBody (around_bodies features counted m) f) (function_ruled (around_bodies features counted m)) m.functions fs moved h)

    rules_on : MeetsRules features counted m → MeetsRules features counted n
    rules_on r = record { linked = linked_on r.linked; groups = r.groups; named = named_on r.named; expressed = expressed_on r.expressed; bodies = bodies_on r.bodies }

    picks_on : Each (λ (f : Function). OriginPicked (around_bodies features counted m) f.origin) m.functions → Each (λ (f : Function). OriginPicked (around_bodies features counted n) f.origin) fs
    picks_on h =
        let A : Around → Type 0 = λ a. Each (λ (f : Function). OriginPicked a f.origin) fs in
        let a = around_bodies features counted m in
        subst A (sym around_stays) (each_moved (λ (f : Function). OriginPicked a f.origin) (λ f g z k. origin_picked a f.origin g.origin z.origin k) m.functions fs moved h)

  module _ (features : WasmFeatures) (counted : Bool) (old new : Module) (moved : ModuleMoved P old new) where
    pub moved_ruled : MeetsRules features counted old → MeetsRules features counted new
    moved_ruled r = subst (MeetsRules features counted) (sym moved.rest) (rules_on features counted old new.functions moved.functions r)

    pub moved_picked : Each (λ (f : Function). OriginPicked (around_bodies features counted old) f.origin) old.functions → Each (λ (f : Function). OriginPicked (around_bodies features counted new) f.origin) new.functions
    moved_picked h =
        let Picked : Module → Type 0 = λ m. Each (λ (f : Function). OriginPicked (around_bodies features counted m) f.origin) m.functions in
        subst Picked (sym moved.rest) (picks_on features counted old new.functions moved.functions h)

pub moved_meet_rules : MovedModulesMeetRules
moved_meet_rules features counted old new moved =
    record { rules = moved_ruled (λ place answer. Unit {0}) features counted old new moved; picked = moved_picked (λ place answer. Unit {0}) features counted old new moved }
