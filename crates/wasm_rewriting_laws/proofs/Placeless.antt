-- Lemmas: places don't show in the merged normal form of a file's module, in its handlers' types, or in parts.
use Rattle.std.specs.Prelude.{ℕ, zero, suc, ◌≡◌, Bool, true, List, [], ◌∷◌, ◌++◌, map, filter, Option, Some, None, slice_index_or, refl}
use Rattle.std.specs.List.{flat_map}
use Rattle.std.specs.Option.{option_map}
use Rattle.std.proofs.Common.{ap, sym, ◌∙◌}
use Rattle.std.proofs.lemmas.List.{append_assoc}
use Rattle.walrus_forms.specs.Kinds.{Kind}
use Rattle.walrus_forms.specs.Records.{TypeGroup}
use Rattle.walrus_forms.specs.Renaming.{at}
use Rattle.wasm_features.specs.declared.WasmFeatures.{WasmFeatures}
use Rattle.wasm_operators.specs.Items.{Types, Functions}
use Rattle.wasm_grammar.specs.Modules.{Body, Function, Imported, Module, Origin, Own, Placed, Tag}
use Rattle.wasm_grammar.specs.States.{types_of}
use Rattle.wasm_body_grammar.specs.Codes.{param_count}
use Rattle.wasm_body_grammar.specs.Rules.{Around}
use Rattle.wasm_ruled_modules.specs.Rules.{around_bodies, bare_origin, bare_slot}
use Rattle.wasm_module_bytes.specs.Bytes.{origin_unplaced, slot_unplaced, unplaced, without_places}
use Rattle.wasm_normal_modules.specs.Modules.{by_types, each, normal_function, normal_origin}
use Rattle.wasm_merged_modules.specs.Merged.{ids_of, merged_module, merged_types, once, single}
use Rattle.wasm_part.specs.Handlers.{Signature, body_handles, body_if, function_bodies, handler_groups, is_missing, kind_of, sent}
use Rattle.wasm_part.specs.Part.{Plan, part, picked, renumbered_body, renumbered_function, renumbered_own, renumbered_placed}
use Rattle.wasm_rewriting_laws.proofs.Texts.{body_stays, handles_stay}

pub at_slot : (fs : List (Option Function)) (n : ℕ) → slice_index_or (map slot_unplaced fs) n None ≡ slot_unplaced (slice_index_or fs n None)
at_slot [] n = refl
at_slot (o ∷ fs) zero = refl
at_slot (o ∷ fs) (suc n) = at_slot fs n

-- ---- what is around bodies

bare_stays : (o : Origin Body) → bare_origin (origin_unplaced o) ≡ bare_origin o
bare_stays (Imported n) = refl
bare_stays (Own x) = refl

all_bare : (fs : List (Option Function)) → map bare_slot (map slot_unplaced fs) ≡ map bare_slot fs
all_bare [] = refl
all_bare (None ∷ fs) = ap (λ (l : List (Option Function)). None ∷ l) (all_bare fs)
all_bare (Some f ∷ fs) = λ i. Some (record { ty = f.ty; origin = bare_stays f.origin i }) ∷ all_bare fs i

pub around_stays : (features : WasmFeatures) (counted : Bool) (m : Module) → around_bodies features counted (without_places m) ≡ around_bodies features counted m
around_stays features counted m =
    let fs = all_bare m.functions in
    λ i. record { features = features; filled = record m { functions = fs i }; same = (around_bodies features counted m).same; counted = counted }

-- ---- types of handlers

module _ (types : List Kind) (tags : List (Option Tag)) where
  origin_handles : (o : Origin Body) → flat_map (body_handles types tags) (body_if (origin_unplaced o)) ≡ flat_map (body_handles types tags) (body_if o)
  origin_handles (Imported n) = refl
  origin_handles (Own x) = ap (λ (l : List Signature). l ++ []) (handles_stay types tags x)

  flat_joined : (xs ys : List Body) → flat_map (body_handles types tags) (xs ++ ys) ≡ flat_map (body_handles types tags) xs ++ flat_map (body_handles types tags) ys
  flat_joined [] ys = refl
  flat_joined (x ∷ xs) ys =
      ap (λ (l : List Signature). body_handles types tags x ++ l) (flat_joined xs ys)
      ∙ sym (append_assoc (body_handles types tags x) (flat_map (body_handles types tags) xs) (flat_map (body_handles types tags) ys))

  all_handle : (fs : List (Option Function)) → flat_map (body_handles types tags) (flat_map function_bodies (map slot_unplaced fs)) ≡ flat_map (body_handles types tags) (flat_map function_bodies fs)
  all_handle [] = refl
  all_handle (None ∷ fs) = all_handle fs
  all_handle (Some f ∷ fs) =
      let one = origin_handles f.origin in
      let rest = all_handle fs in
      flat_joined (body_if (origin_unplaced f.origin)) (flat_map function_bodies (map slot_unplaced fs)) ∙ (λ i. one i ++ rest i) ∙ sym (flat_joined (body_if f.origin) (flat_map function_bodies fs))

pub handlers_stay : (file : Module) → handler_groups (without_places file) ≡ handler_groups file
handlers_stay file =
    ap (λ (l : List Signature). map single (once (map kind_of (filter (is_missing (merged_types file.groups).table) (map (sent (at (ids_of file.groups))) l)))))
    (all_handle (types_of file) file.tags file.functions)

-- ---- normal forms

module _ (place : Option ℕ → ℕ) (a : Around) (r : ℕ → ℕ) where
  origin_normal : (params : ℕ) (o : Origin Body) → origin_unplaced (normal_origin place a r params (origin_unplaced o)) ≡ origin_unplaced (normal_origin place a r params o)
  origin_normal params (Imported n) = refl
  origin_normal params (Own x) = ap (λ (y : Body). Own y) (body_stays place a (by_types r) params x)

  all_normal : (fs : List (Option Function)) → map slot_unplaced (each (normal_function place a r) (map slot_unplaced fs)) ≡ map slot_unplaced (each (normal_function place a r) fs)
  all_normal [] = refl
  all_normal (None ∷ fs) = ap (λ (l : List (Option Function)). None ∷ l) (all_normal fs)
  all_normal (Some f ∷ fs) =
      let origin = origin_normal (param_count a.filled f.ty) f.origin in
      let rest = all_normal fs in
      λ i. Some (record { ty = r f.ty; origin = origin i }) ∷ rest i

pub merged_stays : (place : Option ℕ → ℕ) (features : WasmFeatures) (more : List TypeGroup) (file : Module)
    → without_places (merged_module place features true more (without_places file)) ≡ without_places (merged_module place features true more file)
merged_stays place features more file =
    let around = around_stays features true file in
    let fs : map slot_unplaced (each (normal_function place (around_bodies features true (without_places file)) (at (ids_of file.groups))) (map slot_unplaced file.functions))
    ≡ map slot_unplaced (each (normal_function place (around_bodies features true file) (at (ids_of file.groups))) file.functions) =
    ap (λ (a : Around). map slot_unplaced (each (normal_function place a (at (ids_of file.groups))) (map slot_unplaced file.functions))) around
    ∙ all_normal place (around_bodies features true file) (at (ids_of file.groups)) file.functions in
    λ i. record (merged_module place features true more file) { functions = fs i }

-- ---- parts

module _ (p : Plan) where
  ops_renumbered : (xs : List Placed) → map unplaced (map (renumbered_placed p.renames) (map unplaced xs)) ≡ map unplaced (map (renumbered_placed p.renames) xs)
  ops_renumbered [] = refl
  ops_renumbered (o ∷ xs) = ap (λ (l : List Placed). unplaced (renumbered_placed p.renames o) ∷ l) (ops_renumbered xs)

  origin_renumbered : (o : Origin Body) → origin_unplaced (renumbered_own p.renames p.brings (renumbered_body p.renames) (origin_unplaced o)) ≡ origin_unplaced (renumbered_own p.renames p.brings (renumbered_body p.renames) o)
  origin_renumbered (Imported n) = refl
  origin_renumbered (Own x) = let ops = ops_renumbered x.operators in λ i. Own (record { locals = (renumbered_body p.renames x).locals; operators = ops i })

  slot_renumbered : (o : Option Function) → slot_unplaced (option_map (renumbered_function p.renames p.brings) (slot_unplaced o)) ≡ slot_unplaced (option_map (renumbered_function p.renames p.brings) o)
  slot_renumbered None = refl
  slot_renumbered (Some f) = let origin = origin_renumbered f.origin in λ i. Some (record { ty = p.renames Types f.ty; origin = origin i })

  all_renumbered : (ns : List ℕ) (fs : List (Option Function))
      → map slot_unplaced (picked (renumbered_function p.renames p.brings) ns (map slot_unplaced fs)) ≡ map slot_unplaced (picked (renumbered_function p.renames p.brings) ns fs)
  all_renumbered [] fs = refl
  all_renumbered (n ∷ ns) fs =
      let one = ap (λ (o : Option Function). slot_unplaced (option_map (renumbered_function p.renames p.brings) o)) (at_slot fs n) ∙ slot_renumbered (slice_index_or fs n None) in
      let rest = all_renumbered ns fs in
      λ i. one i ∷ rest i

pub part_stays : (p : Plan) (m : Module) → without_places (part p (without_places m)) ≡ without_places (part p m)
part_stays p m = let fs = all_renumbered p (p.listed Functions) m.functions in λ i. record (part p m) { functions = fs i }
