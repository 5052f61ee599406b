-- Lemmas: what is written of a module that was read stands for its file.
use Rattle.std.specs.Prelude.{ℕ, zero, suc, ◌≡◌, ◌+◌, ◌<◌, true, Contains, List, [], ◌∷◌, length, map, Option, Some, None, slice_index_or, refl}
use Rattle.std.specs.Option.{option_map}
use Rattle.std.proofs.Common.{ap, sym, subst, ◌∙◌, arith}
use Rattle.std.proofs.lemmas.Option.{none-some}
use Rattle.walrus_arena.specs.Arena.{entries_from}
use Rattle.walrus_config.specs.declared.config.ModuleConfig.{ModuleConfig}
use Rattle.walrus_emit.specs.Left.{Declares}
use Rattle.walrus_emit_numbers.specs.Undeclared.{undeclared_of}
use Rattle.walrus_emit_numbers.specs.declared.facts.BodyFacts.{BodyFacts}
use Rattle.walrus_forms.specs.Renaming.{at, index_at}
use Rattle.walrus_index_maps.specs.Maps.{Ids}
use Rattle.walrus_meaning.specs.Meaning.{means, own_function, type_ids}
use Rattle.walrus_module.specs.Parts.{Module as Parts, parts}
use Rattle.walrus_module.specs.declared.module.Module.{Module}
use Rattle.walrus_named_bodies.specs.Parsed.{read_features}
use Rattle.walrus_parse_gc_laws.specs.Numbered.{numbered, numbered_function}
use Rattle.walrus_parse_laws.specs.Meant.{place_of}
use Rattle.walrus_types.proofs.Places.{Has, has_contains}
use Rattle.wasm_grammar.specs.Modules as grammar
use Rattle.wasm_merged_modules.specs.Merged.{ids_of}
use Rattle.wasm_normal_modules.specs.Modules.{ReadModulesBringNoTypes}
use Rattle.wasm_operators.specs.Items.{ElementSegments, Functions, Globals, Types}
use Rattle.wasm_operators.specs.Names.{Renaming}
use Rattle.wasm_part.specs.Agree.{PartsAgree}
use Rattle.wasm_part.specs.Handlers.{handler_groups}
use Rattle.wasm_part.specs.Order.{HasDeclared, Wants}
use Rattle.wasm_part.specs.Part.{Plan}
use Rattle.walrus_kept_types_laws.specs.Kept.{FileTypesHaveTheirIndices, ReadTypesAreWritten}
use Rattle.walrus_kept_types_laws.specs.Placed.{place_among, placed_indices}
use Rattle.walrus_declared_laws.specs.Agreed.{AgreeingModulesAreOrdered, IsOrderedSo}
use Rattle.walrus_declared_laws.specs.Declared.{UndeclaredAreDeclared, in_one}
use Rattle.walrus_declared_laws.specs.Emitted.{EmissionsDeclare, IsDeclaredBy, living, plan_with}
use Rattle.walrus_declared_laws.specs.Retyped.{IsRetyped, RetypedPartsAreSame}
use Rattle.walrus_declared_laws.specs.Standing.{EmittedPartsStand, IsWritten, Stands, file_plan, merged_file}
use Rattle.walrus_declared_laws.specs.Wanted.{ListsAll, WantedAreThere}

-- ---- slots

slot_at : {A B : Type 0} (g : A → B) (xs : List (Option A)) (n : ℕ) → slice_index_or (map (option_map g) xs) n None ≡ option_map g (slice_index_or xs n None)
slot_at g [] n = refl
slot_at g (x ∷ xs) zero = refl
slot_at g (x ∷ xs) (suc n) = slot_at g xs n

-- where the one view has an item the other has one
other_view : {A B C : Type 0} (g : A → B) (h : A → C) (xs : List (Option A)) (n : ℕ) (y : B) → slice_index_or (map (option_map g) xs) n None ≡ Some y → (z : C) × (slice_index_or (map (option_map h) xs) n None ≡ Some z)
other_view {A} {B} {C} g h xs n y is = by (slice_index_or xs n None) (sym (slot_at g xs n) ∙ is) (slot_at h xs n)
  where
    by : (o : Option A) → option_map g o ≡ Some y → slice_index_or (map (option_map h) xs) n None ≡ option_map h o → (z : C) × (slice_index_or (map (option_map h) xs) n None ≡ Some z)
    by None e view = absurd (none-some y e)
    by (Some x) e view = (h x, view)

living_has : {A : Type 0} (k : ℕ) (slots : List (Option A)) (i n : ℕ) (x : A) → k + i ≡ n → slice_index_or slots i None ≡ Some x → Has (map (λ (e : ℕ × A). e.0) (entries_from k slots)) n
living_has k [] i n x e is = absurd (none-some x is)
living_has k (None ∷ slots) zero n x e is = absurd (none-some x is)
living_has k (None ∷ slots) (suc i) n x e is = living_has (k + 1) slots i n x (omega (arith, e)) is
living_has k (Some y ∷ slots) zero n x e is = (0, ap (λ (j : ℕ). let o : Option ℕ = Some j in o) (let same : k ≡ n = omega (arith, e) in same))
living_has k (Some y ∷ slots) (suc i) n x e is = let h = living_has (k + 1) slots i n x (omega (arith, e)) is in (suc h.0, h.1)

-- ---- the plan that adds the segment

renames_same : (fs : List ℕ) (old : Parts) (q : Plan) → (plan_with fs old q).renames ≡ q.renames
renames_same [] old q = refl
renames_same (n ∷ ns) old q = refl

declared_same : (fs : List ℕ) (old : Parts) (q : Plan) → q.declared ≡ [] → in_one fs ≡ (plan_with fs old q).declared
declared_same [] old q none = sym none
declared_same (n ∷ ns) old q none = refl

-- what else a module has when functions are declared
pub record IsRest (old new : Parts) : Type 0 where
  pub functions : (means new).functions ≡ (means old).functions
  pub globals : (means new).globals ≡ (means old).globals
  pub exports : (means new).exports ≡ (means old).exports

rest_is : (fs : List ℕ) (old new : Parts) → Declares fs old new → IsRest old new
rest_is [] old new d = record { functions = ap (λ (x : Parts). (means x).functions) d; globals = ap (λ (x : Parts). (means x).globals) d; exports = ap (λ (x : Parts). (means x).exports) d }
rest_is (n ∷ ns) old new d = record { functions = ap (λ (x : Parts). (means x).functions) d.0; globals = ap (λ (x : Parts). (means x).globals) d.0; exports = ap (λ (x : Parts). (means x).exports) d.0 }

module _ {B : Type 0} (written_types : ReadTypesAreWritten B) (indexed : FileTypesHaveTheirIndices B) (declare : EmissionsDeclare) (undeclared : UndeclaredAreDeclared B) (ordered_so : AgreeingModulesAreOrdered)
    (parts_so : PartsAgree) (retype : RetypedPartsAreSame) (there : WantedAreThere) (brings : ReadModulesBringNoTypes)
    (config : ModuleConfig) (bytes : List ℕ) (file : grammar.Module) (found : Ids) (read left : Module B) (facts : List BodyFacts) (written : Parts) (q : Plan) (indices : List (Option ℕ))
    (w : IsWritten config bytes file found read left facts written q indices) where
  abbrev fs : List ℕ
  fs = undeclared_of left facts

  abbrev old : Parts
  old = parts left

  abbrev k : grammar.Module
  k = numbered old

  abbrev m : grammar.Module
  m = merged_file config file

  abbrev p1 : Plan
  p1 = plan_with fs old q

  abbrev p : Plan
  p = file_plan read.types indices fs old q

  declared_by : IsDeclaredBy old written q p1
  declared_by = declare old written fs w.declares q w.no_more w.imports w.segments

  agreed : IsOrderedSo p1 m k
  agreed = ordered_so p1 m k w.agree

  -- ---- all that is left is listed

  rest : IsRest old written
  rest = rest_is fs old written w.declares

  function_listed : (n : ℕ) (f : grammar.Function) → slice_index_or k.functions n None ≡ Some f → Contains (q.listed Functions) n
  function_listed n f is =
      let z = other_view (numbered_function left.locals) (own_function left.locals) left.funcs.slots n f is in
      has_contains (q.listed Functions) n (q.renames Functions n, w.lists.functions n z.0 (ap (λ (l : List (Option grammar.Function)). slice_index_or l n None) rest.functions ∙ z.1))

  global_listed : (n : ℕ) (g : grammar.Global) → slice_index_or k.globals n None ≡ Some g → Contains (q.listed Globals) n
  global_listed n g is = has_contains (q.listed Globals) n (q.renames Globals n, w.lists.globals n g (ap (λ (l : List (Option grammar.Global)). slice_index_or l n None) rest.globals ∙ is))

  export_listed : (n : ℕ) (e : grammar.Export) → slice_index_or k.exports n None ≡ Some e → Contains q.exports n
  export_listed n e is = w.lists.exports n e (ap (λ (l : List (Option grammar.Export)). slice_index_or l n None) rest.exports ∙ is)

  all_listed : (ns : List ℕ) → Declares ns old written → ListsAll (plan_with ns old q) k
  all_listed [] d = record {
    functions = function_listed;
    globals = global_listed;
    exports = export_listed;
    elements = λ n e is. has_contains (q.listed ElementSegments) n (q.renames ElementSegments n, w.lists.elements n e (ap (λ (x : Parts). slice_index_or (means x).elements n None) d ∙ is));
  }
  all_listed (j ∷ ns) d = record {
    functions = function_listed;
    globals = global_listed;
    exports = export_listed;
    elements = λ n e is. has_contains (living (means old).elements) n (living_has 0 (means old).elements n n e (omega arith) is);
  }

  in_range : (n : ℕ) → Wants k p1 n → n < length k.functions
  in_range n wants = let lt = there (read_features config) true m p1 w.ruled n (agreed.wants n wants) in let sized = w.sized in omega (arith, lt, sized)

  -- ---- types

  types_same : (n : ℕ) → index_at (placed_indices (type_ids read.types) indices) (at (ids_of file.groups) n) ≡ p1.renames Types (at (ids_of file.groups) n)
  types_same n =
      let j : ℕ = at (ids_of file.groups) n in
      indexed config bytes read found file w.is_read w.reads w.meant w.grouped left.types w.types_left q.groups indices w.emitted n
      ∙ sym (w.numbers j) ∙ sym (ap (λ (r : Renaming). r Types j) (renames_same fs old q))

  retyped : IsRetyped m p1 p
  retyped =
      retype place_of (read_features config) true (handler_groups file) file p1 (index_at (placed_indices (type_ids read.types) indices)) (map (place_among (type_ids read.types)) (q.listed Types))
      (brings (read_features config) bytes file w.reads) types_same

  stand : Stands config bytes file found read left facts written q indices
  stand = record {
    types = written_types config bytes read found file w.is_read w.reads w.meant w.grouped left.types w.still w.types_left q.groups indices (q.listed Types) w.emitted w.inverse;
    order = retyped.ordered (agreed.ordered (declared_by.ordered w.ordered));
    declared = subst (λ (nss : List (List ℕ)). HasDeclared m p nss) (declared_same fs old q w.no_more)
        (retyped.declared (in_one fs) (agreed.declared (in_one fs) (undeclared left facts w.known p1 (all_listed fs w.declares) in_range)));
    same = declared_by.same ∙ sym (parts_so p1 m k w.agree) ∙ sym retyped.same;
  }

pub parts_stand : {B : Type 0} → ReadTypesAreWritten B → FileTypesHaveTheirIndices B → EmissionsDeclare → UndeclaredAreDeclared B → AgreeingModulesAreOrdered → PartsAgree → RetypedPartsAreSame → WantedAreThere
    → ReadModulesBringNoTypes → EmittedPartsStand B
parts_stand written_types indexed declare undeclared ordered_so parts_so retype there brings config bytes file found read left facts written q indices w =
    stand written_types indexed declare undeclared ordered_so parts_so retype there brings config bytes file found read left facts written q indices w
