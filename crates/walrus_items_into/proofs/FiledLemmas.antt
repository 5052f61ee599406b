-- Lemmas: a module that a file filled, seen from bodies, and by its numbers.
use Rattle.std.proofs.Common.{◌≡◌, ◌∙◌, ◌<◌, ◌≤◌, ℕ, zero, suc, List, [], ◌∷◌, ◌++◌, length, map, slice_get, slice_index_or, Option, Some, None, refl, sym, ap, subst, inl, inr, arith}
use Rattle.std.proofs.lemmas.Bool.{cases_lt}
use Rattle.std.specs.Option.{option_map, option_and_then}
use Rattle.std.specs.List.{flat_map}
use Rattle.std.proofs.lemmas.List.{length-map, length-append}
use Rattle.walrus_module_bodies.specs.walrus_module_env.walrus_body_parser.wasm_operators.wasm_features.declared.WasmFeatures.{WasmFeatures}
use Rattle.walrus_module_bodies.specs.walrus_functions_into.wasm_sections.Laws.{ReadsSections}
use Rattle.walrus_module_bodies.specs.walrus_functions_into.wasm_module_rules.wasm_modules.Modules.{around, module_of}
use Rattle.walrus_module_bodies.specs.walrus_functions_into.wasm_module_rules.Reading.{bodies_length}
use Rattle.wasm_name_payloads.specs.Names.{local_count, function_locals, first_slot}
use Rattle.walrus_read_laws.specs.walrus_tables_into.walrus_sections_into.walrus_forms.Records.{TypeGroup}
use Rattle.walrus_read_laws.specs.walrus_tables_into.walrus_sections_into.walrus_forms.Renaming.{at}
use Rattle.walrus_read_laws.specs.walrus_tables_into.walrus_sections_into.walrus_instr.walrus_types.Table.{Table, next_id}
use Rattle.walrus_module_bodies.specs.walrus_functions_into.walrus_types_into.Into.{TypesNameBelow, NewTypesStand}
use Rattle.walrus_module_bodies.specs.walrus_module_env.declared.env.ModuleEnv.{ModuleEnv}
use Rattle.walrus_module_bodies.specs.walrus_module_env.Around.{IsFiled}
use Rattle.walrus_module_bodies.specs.walrus_module_env.Filled.{AreFiled, HasBehind, ReadTypesAreFiled}
use Rattle.walrus_payloads_into.specs.Numbered.{ids_in, locals_of, locals_in, IsNumbered}
use Rattle.walrus_module_bodies.specs.walrus_module_env.walrus_body_parser.walrus_body_rules.wasm_body_grammar.wasm_formats.declared.fault.Space.{Space}
use Rattle.walrus_module_bodies.specs.walrus_module_env.walrus_body_parser.walrus_body_rules.wasm_body_grammar.wasm_formats.declared.fault.Space.TheVariants as spaces
use Rattle.walrus_module_bodies.specs.walrus_module_env.walrus_body_parser.walrus_body_rules.wasm_grammar.Modules.{Body, Function as GrammarFunction, Memory as GrammarMemory}
use Rattle.walrus_module_bodies.specs.walrus_module_env.walrus_body_parser.walrus_body_rules.wasm_grammar.States.{count_of}
use Rattle.walrus_arena.specs.Arena.{Arena}
use Rattle.walrus_read_laws.specs.walrus_tables_into.walrus_sections_into.walrus_index_maps.Maps.{Ids}
use Rattle.walrus_read_laws.specs.walrus_tables_into.walrus_sections_into.walrus_known_sections.declared.items.Memory.{Memory as ReadMemory}
use Rattle.walrus_read_laws.specs.walrus_tables_into.walrus_sections_into.walrus_known_sections.declared.sections.Sections.{Sections}
use Rattle.walrus_read_laws.specs.walrus_tables_into.walrus_sections_into.walrus_known_sections.Items.{function_of, table_of, memory_of, tag_of, element_of, data_of}
use Rattle.walrus_read_laws.specs.walrus_tables_into.walrus_section_values.Globals.{global_of}
use Rattle.walrus_read_laws.specs.walrus_tables_into.walrus_sections_into.walrus_known_sections.State.{state_of}
use Rattle.walrus_module_bodies.specs.walrus_module_env.walrus_collections.walrus_module_items.declared.memory.Memory.{Memory}
use Rattle.walrus_read_laws.specs.walrus_tables_into.walrus_sections_into.Numbers.{upto}
use Rattle.walrus_read_laws.specs.walrus_tables_into.walrus_sections_into.Slots.{Become, IsMemoryOf}
use Rattle.walrus_items_into.specs.Filled.{IsFilledFrom}
use Rattle.walrus_items_into.specs.Numbers.{types_in}
use Rattle.walrus_items_into.specs.Spaces.{Spaces}
use Rattle.walrus_items_into.specs.Laws.{HasLocals, IsEnvOf, FilledModulesAreFiled, FilledModulesAreNumbered}

-- ---- numbers in turn

abbrev some : ℕ → Option ℕ
some n = Some n

upto_length : (n : ℕ) → length (upto n) ≡ n
upto_length zero = refl
upto_length (suc n) = omega (arith, length-append (upto n) (n ∷ []), upto_length n)

get_before : (xs : List ℕ) (x i : ℕ) → i < length xs → slice_get (xs ++ x ∷ []) i ≡ slice_get xs i
get_before [] x i lt = absurd (omega (arith, lt))
get_before (y ∷ xs) x zero lt = refl
get_before (y ∷ xs) x (suc i) lt = get_before xs x i (omega (arith, lt))

get_last : (xs : List ℕ) (x i : ℕ) → i ≡ length xs → slice_get (xs ++ x ∷ []) i ≡ Some x
get_last [] x zero e = refl
get_last [] x (suc i) e = absurd (omega (arith, e))
get_last (y ∷ xs) x zero e = absurd (omega (arith, e))
get_last (y ∷ xs) x (suc i) e = get_last xs x i (omega (arith, e))

get_past : {A : Type 0} (xs : List A) (i : ℕ) → length xs ≤ i → slice_get xs i ≡ None
get_past [] i le = refl
get_past (x ∷ xs) zero le = absurd (omega (arith, le))
get_past (x ∷ xs) (suc i) le = get_past xs i (omega (arith, le))

index_past : {A : Type 0} (xs : List (Option A)) (i : ℕ) → length xs ≤ i → slice_index_or xs i None ≡ None
index_past [] i le = refl
index_past (x ∷ xs) zero le = absurd (omega (arith, le))
index_past (x ∷ xs) (suc i) le = index_past xs i (omega (arith, le))

upto_at : (n i : ℕ) → i < n → slice_get (upto n) i ≡ Some i
upto_at zero i lt = absurd (omega (arith, lt))
upto_at (suc n) i lt = elim (cases_lt i n) as (λ _. slice_get (upto n ++ n ∷ []) i ≡ Some i) [
  | inl h ↦ get_before (upto n) n i (omega (arith, h, upto_length n)) ∙ upto_at n i h
  | inr le ↦ get_last (upto n) n i (omega (arith, lt, le, upto_length n)) ∙ ap some (omega (arith, lt, le))
]

upto_past : (n i : ℕ) → n ≤ i → slice_get (upto n) i ≡ None
upto_past n i le = get_past (upto n) i (omega (arith, le, upto_length n))

-- as many numbers as items
pub many : {X Y : Type 0} (ids : List ℕ) (xs : List X) (f : X → Y) → ids ≡ upto (length xs) → length ids ≡ length (map f xs)
many ids xs f e = ap length e ∙ upto_length (length xs) ∙ sym (length-map xs f)

-- what numbers in turn name is there by its place
named : {Y : Type 0} (slots ys : List (Option Y)) (ids : List ℕ) (k n : ℕ) → slots ≡ ys → ids ≡ upto k → length ys ≡ k
    → option_and_then (λ id. slice_index_or slots id None) (slice_get ids n) ≡ slice_index_or ys n None
named {Y} slots ys ids k n a b c = elim (cases_lt n k) as (λ _. option_and_then (λ id. slice_index_or slots id None) (slice_get ids n) ≡ slice_index_or ys n None) [
  | inl lt ↦ rw (a, b, upto_at k n lt) refl
  | inr le ↦ rw (a, b, upto_past k n le) (sym (index_past ys n (omega (arith, c, le))))
]

-- ---- memories

become_length : {X Y : Type 0} (R : ℕ → X → Y → Type 0) (xs : List X) (ys : List (Option Y)) (first : ℕ) → Become R xs ys first → length ys ≡ length xs
become_length R [] [] first h = refl
become_length R [] (y ∷ ys) first h = absurd h
become_length R (x ∷ xs) [] first h = absurd h
become_length R (x ∷ xs) (None ∷ ys) first h = absurd h
become_length R (x ∷ xs) (Some y ∷ ys) first h = ap suc (become_length R xs ys (suc first) h.1)

wide_at : (xs : List ReadMemory) (ys : List (Option Memory)) (n first : ℕ) → Become IsMemoryOf xs ys first
    → option_map (λ (m : Memory). m.memory64) (slice_index_or ys n None) ≡ option_map (λ (m : GrammarMemory). m.wide) (slice_index_or (map (λ x. Some (memory_of x)) xs) n None)
wide_at [] [] n first h = refl
wide_at [] (y ∷ ys) n first h = absurd h
wide_at (x ∷ xs) [] n first h = absurd h
wide_at (x ∷ xs) (None ∷ ys) n first h = absurd h
wide_at (x ∷ xs) (Some y ∷ ys) zero first h = ap (λ (m : GrammarMemory). option_map (λ (m : GrammarMemory). m.wide) (Some m)) h.0.meant
wide_at (x ∷ xs) (Some y ∷ ys) (suc n) first h = wide_at xs ys n (suc first) h.1

-- ---- the module

module _ {B : Type 0} (features : WasmFeatures) (bytes : List ℕ) (s : Sections) (begin : Option ℕ) (i j : Ids) (m : Spaces B) (names : TypesNameBelow)
    (reads : ReadsSections features bytes (state_of s)) (f : IsFilledFrom s begin i m) (l : HasLocals i j) where
  types_are : j.types ≡ (types_in s).ids
  types_are = ap (λ (x : Ids). x.types) l ∙ ap (λ (x : Ids). x.types) f.numbers

  functions_upto : j.functions ≡ upto (length s.functions.items)
  functions_upto = ap (λ (x : Ids). x.functions) l ∙ ap (λ (x : Ids). x.functions) f.numbers

  memories_upto : j.memories ≡ upto (length s.memories.items)
  memories_upto = ap (λ (x : Ids). x.memories) l ∙ ap (λ (x : Ids). x.memories) f.numbers

  functions_many : length j.functions ≡ length (state_of s).filled.functions
  functions_many = many j.functions s.functions.items (λ x. Some (function_of x)) functions_upto

  tables_many : length j.tables ≡ length (state_of s).filled.tables
  tables_many = many j.tables s.tables.items (λ x. Some (table_of x)) (ap (λ (x : Ids). x.tables) l ∙ ap (λ (x : Ids). x.tables) f.numbers)

  memories_many : length j.memories ≡ length (state_of s).filled.memories
  memories_many = many j.memories s.memories.items (λ x. Some (memory_of x)) memories_upto

  tags_many : length j.tags ≡ length (state_of s).filled.tags
  tags_many = many j.tags s.tags.items (λ x. Some (tag_of x)) (ap (λ (x : Ids). x.tags) l ∙ ap (λ (x : Ids). x.tags) f.numbers)

  globals_many : length j.globals ≡ length (state_of s).filled.globals
  globals_many = many j.globals s.globals.items (λ x. Some (global_of x)) (ap (λ (x : Ids). x.globals) l ∙ ap (λ (x : Ids). x.globals) f.numbers)

  elements_many : length j.elements ≡ length (state_of s).filled.elements
  elements_many = many j.elements s.elements.items (λ x. Some (element_of x)) (ap (λ (x : Ids). x.elements) l ∙ ap (λ (x : Ids). x.elements) f.numbers)

  segments_many : length j.segments ≡ length (state_of s).filled.segments
  segments_many = many j.segments s.segments.items (λ x. Some (data_of x)) (ap (λ (x : Ids). x.segments) l ∙ ap (λ (x : Ids). x.segments) f.numbers)

  filed : (e : ModuleEnv) (function : ℕ) → ReadTypesAreFiled → IsEnvOf s m e → IsFiled e j function (length (j.locals function)) features (around features (state_of s))
  filed e function law env =
      let behind : HasBehind (types_in s).table e.types.now = subst (λ (t : Table). HasBehind t e.types.now) f.types env.types in
      let own : e.own_types ≡ next_id (types_in s).table = env.own_types ∙ ap (λ (t : Table). next_id t) f.types in
      let base = law s.types e.types.now (names features bytes (state_of s) reads) behind in
      let owned = subst (λ (own : ℕ). AreFiled (flat_map (λ (g : TypeGroup). g.kinds) s.types) (types_in s).ids own e.types.now) (sym own) base in record {
        features_are = refl;
        same_is = ap at (sym types_are);
        types_are = subst (λ (ids : List ℕ). AreFiled (flat_map (λ (g : TypeGroup). g.kinds) s.types) ids e.own_types e.types.now) (sym types_are) owned;
        functions_are = functions_many;
        tables_are = tables_many;
        memories_are = memories_many;
        tags_are = tags_many;
        globals_are = globals_many;
        elements_are = elements_many;
        segments_are = segments_many;
        locals_are = refl;
        wide_are = λ n.
            let memories = f.memories in
            ap (option_map (λ (m : Memory). m.memory64))
            (named e.memories.now.slots memories.more j.memories (length s.memories.items) n (ap (λ (a : Arena Memory). a.slots) env.memories ∙ memories.behind) memories_upto (become_length IsMemoryOf s.memories.items memories.more 0 memories.become))
            ∙ wide_at s.memories.items memories.more n 0 memories.become;
        counted_is = env.has_data_count;
      }

  numbered : (bodies : List Body) → NewTypesStand
      → ((function : ℕ) → function < length s.functions.items → length (j.locals function) ≡ local_count (module_of (state_of s) bodies) function) → IsNumbered (module_of (state_of s) bodies) j
  numbered bodies stand locals = record { items = items; locals = locals_are }
    where
      items : (space : Space) → count_of (module_of (state_of s) bodies) space ≡ length (ids_in j space)
      items spaces.«Type» = let t = stand s.types (names features bytes (state_of s) reads) in sym (ap length types_are ∙ t.sized)
      items spaces.Function = bodies_length (state_of s).filled.functions bodies ∙ sym functions_many
      items spaces.Table = sym tables_many
      items spaces.Memory = sym memories_many
      items spaces.Tag = sym tags_many
      items spaces.Global = sym globals_many
      items spaces.Element = sym elements_many
      items spaces.Data = sym segments_many
      items spaces.Local = refl
      items spaces.Label = refl

      count : length s.functions.items ≡ length (module_of (state_of s) bodies).functions
      count = sym (bodies_length (state_of s).filled.functions bodies ∙ length-map s.functions.items (λ x. Some (function_of x)))

      locals_are : (function : ℕ) → local_count (module_of (state_of s) bodies) function ≡ length (locals_in j function)
      locals_are function = elim (cases_lt function (length s.functions.items)) as (λ _. local_count (module_of (state_of s) bodies) function ≡ length (locals_in j function)) [
        | inl lt ↦ sym (locals function lt) ∙ ap (λ (id : Option ℕ). length (locals_of j id)) (sym (ap (λ (ids : List ℕ). slice_get ids function) functions_upto ∙ upto_at (length s.functions.items) function lt))
        | inr le ↦
            ap (λ (slot : Option (Option GrammarFunction)). function_locals (module_of (state_of s) bodies) (first_slot slot)) (get_past (module_of (state_of s) bodies).functions function (omega (arith, le, count)))
            ∙ ap (λ (id : Option ℕ). length (locals_of j id)) (sym (ap (λ (ids : List ℕ). slice_get ids function) functions_upto ∙ upto_past (length s.functions.items) function le))
      ]

pub modules_are_filed : {B : Type 0} → TypesNameBelow → ReadTypesAreFiled → FilledModulesAreFiled B
modules_are_filed names law features bytes s begin i j m e function reads f env l = filed features bytes s begin i j m names reads f l e function law env

pub modules_are_numbered : {B : Type 0} → TypesNameBelow → NewTypesStand → FilledModulesAreNumbered B
modules_are_numbered names stand features bytes s begin i j m bodies reads f l locals = numbered features bytes s begin i j m names reads f l bodies stand locals
