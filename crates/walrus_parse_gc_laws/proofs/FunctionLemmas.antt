-- Lemmas: functions of a module that was read, their locals numbered, are those of the file in their normal forms.
use Rattle.std.specs.Prelude.{ℕ, zero, suc, ◌≡◌, ◌<◌, ◌+◌, Bool, true, List, [], ◌∷◌, length, map, Option, Some, None, slice_get, slice_index_or, refl}
use Rattle.std.specs.Option.{option_map, unwrap_or}
use Rattle.std.proofs.Common.{ap, sym, ◌∙◌, subst, arith}
use Rattle.std.proofs.lemmas.List.{length-map}
use Rattle.std.proofs.lemmas.Option.{slice_get-map}
use Rattle.walrus_types.specs.walrus_forms.Forms.{Form, FunctionForm, StructForm, ArrayForm}
use Rattle.walrus_types.specs.walrus_forms.Kinds.{Kind}
use Rattle.walrus_types.specs.walrus_forms.Renaming.{at, renamed_value}
use Rattle.wasm_merged_modules.specs.wasm_normal_modules.wasm_ruled_renamed.wasm_ruled_normal.wasm_normal_form.wasm_operators.wasm_features.declared.WasmFeatures.{WasmFeatures}
use Rattle.wasm_merged_modules.specs.wasm_normal_modules.wasm_ruled_renamed.wasm_ruled_normal.wasm_normal_form.wasm_operators.Items.{Space, Types, Functions, Tables, Memories, Tags, Globals, ElementSegments, DataSegments, Locals, Labels}
use Rattle.wasm_merged_modules.specs.wasm_normal_modules.wasm_ruled_renamed.wasm_ruled_normal.wasm_normal_form.wasm_operators.declared.block_type.BlockType.{BlockType}
use Rattle.wasm_merged_modules.specs.wasm_normal_modules.wasm_ruled_renamed.wasm_ruled_normal.wasm_normal_form.wasm_operators.declared.block_type.BlockType.TheVariants as blocks
use Rattle.wasm_merged_modules.specs.wasm_normal_modules.wasm_ruled_renamed.wasm_ruled_normal.wasm_ruled_modules.wasm_module_rules.wasm_modules.wasm_body_grammar.wasm_grammar.Modules as grammar
use Rattle.wasm_merged_modules.specs.wasm_normal_modules.wasm_ruled_renamed.wasm_ruled_normal.wasm_ruled_modules.wasm_module_rules.wasm_modules.wasm_body_grammar.wasm_grammar.States.{form_test, types_of}
use Rattle.wasm_merged_modules.specs.wasm_normal_modules.wasm_ruled_renamed.wasm_ruled_normal.wasm_ruled_modules.wasm_module_rules.wasm_modules.wasm_body_grammar.Codes.{param_count}
use Rattle.wasm_merged_modules.specs.wasm_normal_modules.wasm_ruled_renamed.wasm_ruled_normal.wasm_ruled_modules.wasm_module_rules.wasm_modules.wasm_body_grammar.Rules.{Around}
use Rattle.wasm_merged_modules.specs.wasm_normal_modules.wasm_ruled_renamed.wasm_ruled_normal.wasm_ruled_modules.wasm_module_rules.Linked.{Each, IsFunctionType}
use Rattle.wasm_merged_modules.specs.wasm_normal_modules.wasm_ruled_renamed.wasm_ruled_normal.wasm_normal_form.Bodies.{is_used, new_number, used_keys}
use Rattle.wasm_merged_modules.specs.wasm_normal_modules.wasm_ruled_renamed.wasm_ruled_normal.wasm_normal_form.Locals.{Key}
use Rattle.wasm_merged_modules.specs.wasm_normal_modules.wasm_ruled_renamed.wasm_ruled_normal.wasm_normal_form.Normal.{normal_ops}
use Rattle.wasm_merged_modules.specs.wasm_normal_modules.wasm_ruled_renamed.wasm_ruled_normal.wasm_normal_form.Roles.{Placed}
use Rattle.wasm_merged_modules.specs.wasm_normal_modules.wasm_ruled_renamed.wasm_ruled_normal.wasm_ruled_modules.Rules.{GroupsBelow, HasBody, IsBody, OriginRuled, around_bodies}
use Rattle.wasm_merged_modules.specs.wasm_normal_modules.wasm_ruled_renamed.wasm_ruled_normal.wasm_run_names.Picks.{block_pick, form_pick, kind_pick}
use Rattle.wasm_merged_modules.specs.wasm_normal_modules.wasm_ruled_renamed.Bodies.{normal_renamed}
use Rattle.wasm_merged_modules.specs.wasm_normal_modules.Modules.{by_types, normal_function, normal_origin}
use Rattle.wasm_merged_modules.specs.wasm_normal_modules.Numbered.{ComesTo, NumberedOperatorsAreNormal}
use Rattle.walrus_types.specs.walrus_forms.walrus_arena.Arena.{item_at}
use Rattle.walrus_parse_laws.specs.walrus_meaning.walrus_body_writer.walrus_pairing.walrus_index_maps.Maps.{Ids}
use Rattle.walrus_parse_laws.specs.Meaning.{OthersStay, type_id}
use Rattle.walrus_parse_laws.specs.walrus_meaning.walrus_linked.Linked.{IsLinked, IsWhole}
use Rattle.walrus_parse_laws.specs.walrus_meaning.Bodies.{depth_of, local_ids, own_body}
use Rattle.walrus_parse_laws.specs.walrus_meaning.Meaning.{own_function, own_origin, slots_of}
use Rattle.walrus_parse_laws.specs.walrus_named_bodies.walrus_item_names.walrus_module.Parts.{Module}
use Rattle.walrus_parse_laws.specs.walrus_named_bodies.walrus_item_names.walrus_module.walrus_module_items.declared.function.Function.{Function}
use Rattle.walrus_parse_laws.specs.walrus_named_bodies.walrus_item_names.walrus_module.walrus_module_items.declared.function.FunctionKind.{FunctionKind}
use Rattle.walrus_parse_laws.specs.walrus_named_bodies.walrus_item_names.walrus_module.walrus_module_items.declared.function.FunctionKind.TheVariants as kinds
use Rattle.walrus_parse_laws.specs.BodiesTexts.{naming, text_of}
use Rattle.walrus_parse_laws.specs.Locals.{kept_numbers, typed}
use Rattle.walrus_parse_laws.specs.walrus_named_bodies.walrus_file_bodies.walrus_items_into.walrus_tables_into.walrus_sections_into.Becomes.{look_of}
use Rattle.walrus_parse_laws.specs.walrus_named_bodies.walrus_item_names.walrus_module.walrus_tree.Trees.{AreDistinct}
use Rattle.walrus_parse_laws.specs.Meant.{body_meant, each_from, function_meant, origin_meant, place_of}
use Rattle.walrus_parse_laws.specs.Means.{HasLocals}
use Rattle.walrus_parse_gc_laws.specs.Numbered.{numbered_body, numbered_function, numbered_origin}
use Rattle.walrus_parse_laws.proofs.ListLemmas.{some_is}
use Rattle.walrus_parse_gc_laws.proofs.RuledItemLemmas.{split}
use Rattle.walrus_parse_gc_laws.proofs.RuledPlaceLemmas.{at_number, ids_distinct, placed}
use Rattle.walrus_parse_laws.proofs.ItemsSlotLemmas.{each_at}

-- ---- slots, each function by its number

module _ {A : Type 0} (own new : A → grammar.Function) (meant : ℕ → grammar.Function → grammar.Function) (normal : grammar.Function → grammar.Function) where
  pub functions_alike : (k : ℕ) (xs : List (Option A)) (ys : List (Option grammar.Function)) → map (option_map own) xs ≡ each_from meant k ys
      → ((n at : ℕ) (x : A) (y : grammar.Function) → at ≡ n + k → slice_index_or xs n None ≡ Some x → slice_get ys n ≡ Some (Some y) → own x ≡ meant at y → new x ≡ normal y)
      → map (option_map new) xs ≡ map (option_map normal) ys
  functions_alike k [] [] e h = refl
  functions_alike k [] (y ∷ ys) e h = absurd cc
  functions_alike k (x ∷ xs) [] e h = absurd cc
  functions_alike k (None ∷ xs) (None ∷ ys) e h =
      ap (λ (l : List (Option grammar.Function)). None ∷ l)
      (functions_alike (suc k) xs ys (split None None (map (option_map own) xs) (each_from meant (suc k) ys) e).1 (λ n at x y is. h (suc n) at x y (omega (arith, is))))
  functions_alike k (None ∷ xs) (Some y ∷ ys) e h = absurd cc
  functions_alike k (Some x ∷ xs) (None ∷ ys) e h = absurd cc
  functions_alike k (Some x ∷ xs) (Some y ∷ ys) e h =
      let both = split (Some (own x)) (Some (meant k y)) (map (option_map own) xs) (each_from meant (suc k) ys) e in
      ap (λ (z : grammar.Function). Some z ∷ map (option_map new) xs) (h 0 k x y (omega arith) refl refl (some_is (own x) (meant k y) both.0))
      ∙ ap (λ (l : List (Option grammar.Function)). Some (normal y) ∷ l) (functions_alike (suc k) xs ys both.1 (λ n at z w is. h (suc n) at z w (omega (arith, is))))

-- ---- picks don't ask for a data count section

module _ (features : WasmFeatures) (b c : Bool) (file : grammar.Module) where
  kind_same : (ty : BlockType) (o : Option Kind) → kind_pick (around_bodies features b file) ty o ≡ kind_pick (around_bodies features c file) ty o
  kind_same ty None = refl
  kind_same ty (Some kind) = by kind.form
    where
      by : (form : Form) → form_pick (around_bodies features b file) ty form ≡ form_pick (around_bodies features c file) ty form
      by (FunctionForm [] []) = refl
      by (FunctionForm [] (x ∷ [])) = refl
      by (FunctionForm [] (x ∷ (y ∷ zs))) = refl
      by (FunctionForm (p ∷ ps) results) = refl
      by (StructForm fields) = refl
      by (ArrayForm field) = refl

  pub picks_same : block_pick (around_bodies features b file) ≡ block_pick (around_bodies features c file)
  picks_same = λ i ty. one ty i
    where
      one : (ty : BlockType) → block_pick (around_bodies features b file) ty ≡ block_pick (around_bodies features c file) ty
      one blocks.Empty = refl
      one (blocks.Value ty) = refl
      one (blocks.Type n) = kind_same (blocks.Type n) (slice_get (types_of file) n)

-- ---- names

-- the id of an index that is there, whatever is said of any other
id_at : (ids : List ℕ) (n other : ℕ) → n < length ids → unwrap_or (slice_get ids n) other ≡ at ids n
id_at [] n other lt = absurd (omega (arith, lt))
id_at (x ∷ ids) zero other lt = refl
id_at (x ∷ ids) (suc n) other lt = id_at ids n other (omega (arith, lt))

-- an index that names what has it for an id stays
stays : (n : ℕ) (o : Option ℕ) → ((id : ℕ) → o ≡ Some id → id ≡ n) → unwrap_or o n ≡ n
stays n None h = refl
stays n (Some id) h = h id refl

pub typed_below : (types : List Kind) (n : ℕ) → form_test (slice_get types n) ≡ None → n < length types
typed_below [] n e = absurd cc
typed_below (k ∷ types) zero e = omega arith
typed_below (k ∷ types) (suc n) e = let lt = typed_below types n e in omega (arith, lt)

at_start : (xs : List (Option grammar.Function)) (n : ℕ) (g : grammar.Function) → slice_get xs n ≡ Some (Some g) → slice_index_or xs n None ≡ Some g
at_start [] n g e = absurd cc
at_start (x ∷ xs) zero g e = cc
at_start (x ∷ xs) (suc n) g e = at_start xs n g e

own_is : (x y : grammar.Body) → grammar.Own x ≡ grammar.Own y → x ≡ y
own_is x y e = cc

module _ (numbering : NumberedOperatorsAreNormal) (features : WasmFeatures) (file : grammar.Module) (m : Module) (found : Ids) (below : GroupsBelow 0 file.groups)
    (others : OthersStay (look_of (record found { locals = λ function. [] }))) (sized : (n : ℕ) → n < length (types_of file) → n < length found.types) where
  abbrev a : Around
  a = around_bodies features true file

  abbrev pick : BlockType → BlockType
  pick = block_pick a

  abbrev r : ℕ → ℕ
  r = at found.types

  pub type_named : (n : ℕ) → n < length (types_of file) → type_id (look_of found) n ≡ r n
  type_named n lt = id_at found.types n n (sized n lt)

  -- ---- one body

  module _ (f params : ℕ) (x : grammar.Body) (ids : List ℕ) (ruled : IsBody a params x) (distinct : AreDistinct ids)
      (are : ids ≡ map (naming found f Locals) (kept_numbers params (used_keys params (typed found x).locals (normal_ops pick (text_of x))))) where
    abbrev ops : List Placed
    ops = normal_ops pick (text_of x)

    abbrev keys : List Key
    keys = used_keys params (typed found x).locals ops

    local_comes : (n : ℕ) → n < params + length x.locals → is_used ops n ≡ true → depth_of ids (naming found f Locals n) ≡ new_number params keys n
    local_comes n lt used =
        let many = length-map x.locals (renamed_value r) in
        placed ids (new_number params keys n) (naming found f Locals n) distinct
        (ap (λ (l : List ℕ). slice_get l (new_number params keys n)) are ∙ slice_get-map (naming found f Locals) (kept_numbers params keys) (new_number params keys n)
        ∙ ap (option_map (naming found f Locals)) (at_number params (typed found x).locals ops n (omega (arith, lt, many)) used))

    comes : (space : Space) (n : ℕ) → ComesTo place_of a (by_types r) (naming found f) (depth_of ids) params x space n
    comes Locals n = local_comes n
    comes Labels n = refl
    comes Types n = λ lt. type_named n lt
    comes Functions n = λ lt. stays n (slice_get found.functions n) (λ id. others Functions n id (λ e. absurd cc))
    comes Tables n = λ lt. stays n (slice_get found.tables n) (λ id. others Tables n id (λ e. absurd cc))
    comes Memories n = λ lt. stays n (slice_get found.memories n) (λ id. others Memories n id (λ e. absurd cc))
    comes Tags n = λ lt. stays n (slice_get found.tags n) (λ id. others Tags n id (λ e. absurd cc))
    comes Globals n = λ lt. stays n (slice_get found.globals n) (λ id. others Globals n id (λ e. absurd cc))
    comes ElementSegments n = λ lt. stays n (slice_get found.elements n) (λ id. others ElementSegments n id (λ e. absurd cc))
    comes DataSegments n = λ lt. stays n (slice_get found.segments n) (λ id. others DataSegments n id (λ e. absurd cc))

    body_numbered : numbered_body ids (body_meant found pick file f params x) ≡ normal_renamed place_of a (by_types r) params x
    body_numbered = λ i. record {
      locals = (body_meant found pick file f params x).locals;
      operators = numbering place_of a (by_types r) (naming found f) (depth_of ids) params x below ruled comes i;
    }

  -- ---- one function

  module _ (linked : IsLinked m) (n : ℕ) (f : Function) (there : item_at m.funcs n ≡ Some f) (params : ℕ) where
    own_numbered : (x : grammar.Body) → HasLocals m found pick n params x → own_origin m.locals f.kind ≡ grammar.Own (body_meant found pick file n params x) → IsBody a params x
        → numbered_origin m.locals f.kind ≡ grammar.Own (normal_renamed place_of a (by_types r) params x)
    own_numbered x h e ruled =
        let same_function : f ≡ h.function = some_is f h.function (sym there ∙ h.there) in
        let kind : f.kind ≡ kinds.Local h.local = ap (λ (y : Function). y.kind) same_function ∙ h.kind in
        let whole : IsWhole m.types (kinds.Local h.local) = subst (IsWhole m.types) kind (linked.whole n f there) in
        let own : own_body m.locals h.local ≡ body_meant found pick file n params x =
        own_is (own_body m.locals h.local) (body_meant found pick file n params x) (sym (ap (own_origin m.locals) kind) ∙ e) in
        let ids = local_ids m.locals h.local in
        ap (numbered_origin m.locals) kind
        ∙ ap (λ (y : grammar.Body). (let o : grammar.Origin grammar.Body = grammar.Own (numbered_body ids y) in o)) own
        ∙ ap (λ (y : grammar.Body). (let o : grammar.Origin grammar.Body = grammar.Own y in o)) (body_numbered n params x ids ruled (ids_distinct m.locals h.local whole.0.distinct) h.ids)

    imported : (k : FunctionKind) (i : ℕ) → own_origin m.locals k ≡ grammar.Imported i → numbered_origin m.locals k ≡ grammar.Imported i
    imported (kinds.Import import) i e = e
    imported (kinds.Local local) i e = absurd cc
    imported (kinds.Uninitialized ty) i e = absurd cc

    origin_numbered : (ty : ℕ) (o : grammar.Origin grammar.Body) → params ≡ param_count file ty → ((x : grammar.Body) → o ≡ grammar.Own x → HasLocals m found pick n params x) → OriginRuled a params o
        → own_origin m.locals f.kind ≡ origin_meant found pick file n ty o → numbered_origin m.locals f.kind ≡ normal_origin place_of a r params o
    origin_numbered ty (grammar.Imported i) count has ruled e = imported f.kind i e
    origin_numbered ty (grammar.Own x) count has ruled e =
        own_numbered x (has x refl) (e ∙ ap (λ (k : ℕ). (let o : grammar.Origin grammar.Body = grammar.Own (body_meant found pick file n k x) in o)) (sym count)) ruled

  -- ---- all of them

  pub functions_numbered : IsLinked m → Each (λ (g : grammar.Function). IsFunctionType file g.ty) file.functions → Each (λ (g : grammar.Function). HasBody a g) file.functions
      → ((n : ℕ) (g : grammar.Function) (x : grammar.Body) → slice_get file.functions n ≡ Some (Some g) → g.origin ≡ grammar.Own x → HasLocals m found pick n (param_count file g.ty) x)
      → slots_of (own_function m.locals) m.funcs ≡ each_from (function_meant found pick file) 0 file.functions
      → slots_of (numbered_function m.locals) m.funcs ≡ map (option_map (normal_function place_of a r)) file.functions
  functions_numbered linked typed_so ruled has e =
      functions_alike (own_function m.locals) (numbered_function m.locals) (function_meant found pick file) (normal_function place_of a r) 0 m.funcs.slots file.functions e one
    where
      one : (n at : ℕ) (f : Function) (g : grammar.Function) → at ≡ n + 0 → slice_index_or m.funcs.slots n None ≡ Some f → slice_get file.functions n ≡ Some (Some g)
          → own_function m.locals f ≡ function_meant found pick file at g → numbered_function m.locals f ≡ normal_function place_of a r g
      one n at f g is here there same_own =
          let number : at ≡ n = omega (arith, is) in
          let slot = at_start file.functions n g there in
          let type_there = each_at (λ (z : grammar.Function). IsFunctionType file z.ty) file.functions n g typed_so slot in
          let body = each_at (λ (z : grammar.Function). HasBody a z) file.functions n g ruled slot in
          let own : own_function m.locals f ≡ function_meant found pick file n g = same_own ∙ ap (λ (k : ℕ). function_meant found pick file k g) number in
          λ i. record {
            ty = (ap (λ (z : grammar.Function). z.ty) own ∙ type_named g.ty (typed_below (types_of file) g.ty type_there)) i;
            origin = origin_numbered linked n f here (param_count file g.ty) g.ty g.origin refl (λ x o. has n g x there o) body (ap (λ (z : grammar.Function). z.origin) own) i;
          }
