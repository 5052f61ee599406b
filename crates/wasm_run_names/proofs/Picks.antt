-- Block types of modules: their picks, and renamed ones.
use Rattle.std.proofs.Common.{ℕ, suc, ◌≡◌, ◌+◌, Bool, true, false, List, [], ◌∷◌, map, refl, sym, ap, ◌∙◌, arith, if◌then◌else◌, ◌&&◌}
use Rattle.std.proofs.lemmas.Bool.{and_parts}
use Rattle.std.specs.Prelude.{Option, Some, None, unwrap_or, slice_get}
use Rattle.std.specs.Option.{option_map}
use Rattle.walrus_forms.specs.declared.value.HeapType.{HeapType}
use Rattle.walrus_forms.specs.declared.value.HeapType.TheVariants.{Abstract, Shared, Concrete, Exact}
use Rattle.walrus_forms.specs.declared.value.ValType.{ValType}
use Rattle.walrus_forms.specs.declared.value.ValType.TheVariants.{I32, I64, F32, F64, V128, Ref}
use Rattle.walrus_forms.specs.Forms.{Form, FunctionForm, StructForm, ArrayForm, params_of, results_of}
use Rattle.walrus_forms.specs.Kinds.{Kind, function_kind}
use Rattle.walrus_forms.specs.Renaming.{renamed_value, renamed_form, renamed_kind}
use Rattle.walrus_forms.specs.Same.{SameKindIsEquality}
use Rattle.wasm_ref_types.specs.declared.heap.HeapType.TheVariants as read_heaps
use Rattle.wasm_ref_types.specs.declared.index.UnpackedIndex.TheVariants.{Module}
use Rattle.wasm_ref_types.specs.declared.value.ValType.{ValType as ReadValue}
use Rattle.wasm_ref_types.specs.declared.value.ValType.TheVariants as read_values
use Rattle.wasm_ref_types.specs.Reference.{reference}
use Rattle.wasm_operators.specs.declared.block_type.BlockType.{BlockType}
use Rattle.wasm_operators.specs.declared.block_type.BlockType.TheVariants as blocks
use Rattle.wasm_operators.specs.Items.{Types}
use Rattle.wasm_operators.specs.Names as names
use Rattle.wasm_operators.specs.Names.{Renaming}
use Rattle.wasm_grammar.specs.States.{types_of}
use Rattle.wasm_grammar.specs.TypeWords.{value_from}
use Rattle.wasm_body_grammar.specs.Rules.{Around, serves, leads, latest_from, found_in, pick}
use Rattle.wasm_run_laws.specs.wasm_runs.Programs.{Signature}
use Rattle.wasm_run_laws.specs.wasm_runs.Renamed.{renamed_signature}
use Rattle.wasm_run_laws.specs.wasm_runs.Modules.{kind_signature, signature_in}
use Rattle.wasm_run_names.specs.Picks.{form_pick, kind_pick, PicksOfModulesKeep, BlockTypesStand}

-- ---- the latest type that passes a test passes it

latest_has : (test : ℕ → Kind → Bool) (whole : List Kind) (P : Option ℕ → Type 0) → ((j : ℕ) (kind : Kind) → slice_get whole j ≡ Some kind → test j kind ≡ true → P (Some j))
    → (rest : List Kind) (n : ℕ) (found : Option ℕ) → ((k : ℕ) → slice_get rest k ≡ slice_get whole (k + n)) → P found → P (latest_from test n found rest)
latest_has test whole P h [] n found same p = p
latest_has test whole P h (kind ∷ rest) n found same p =
    latest_has test whole P h rest (n + 1) (if test n kind then Some n else found)
    (λ k. same (suc k) ∙ ap (slice_get whole) (let e : suc k + n ≡ k + (n + 1) = omega arith in e)) (either (test n kind) refl)
  where
    either : (b : Bool) → test n kind ≡ b → P (if b then Some n else found)
    either true e = h n kind (sym (same 0 ∙ ap (slice_get whole) (let e : 0 + n ≡ n = omega arith in e))) e
    either false e = p

params_renamed : (r : ℕ → ℕ) (form : Form) → params_of (renamed_form r form) ≡ map (renamed_value r) (params_of form)
params_renamed r (FunctionForm params results) = refl
params_renamed r (StructForm fields) = refl
params_renamed r (ArrayForm field) = refl

results_renamed : (r : ℕ → ℕ) (form : Form) → results_of (renamed_form r form) ≡ map (renamed_value r) (results_of form)
results_renamed r (FunctionForm params results) = refl
results_renamed r (StructForm fields) = refl
results_renamed r (ArrayForm field) = refl

-- ---- renaming by what types stand for, first, changes nothing

module _ (same : ℕ → ℕ) (r : Renaming) (absorbs : (n : ℕ) → r Types (same n) ≡ r Types n) where
  value_absorbs : (v : ValType) → names.renamed_value r (value_from (renamed_value same v)) ≡ names.renamed_value r (value_from v)
  value_absorbs I32 = refl
  value_absorbs I64 = refl
  value_absorbs F32 = refl
  value_absorbs F64 = refl
  value_absorbs V128 = refl
  value_absorbs (Ref ty) = go ty.nullable ty.heap_type
    where
      go : (nullable : Bool) (heap : HeapType) → names.renamed_value r (value_from (renamed_value same (Ref (record { nullable = nullable; heap_type = heap }))))
          ≡ names.renamed_value r (value_from (Ref (record { nullable = nullable; heap_type = heap })))
      go nullable (Abstract ty) = refl
      go nullable (Shared ty) = refl
      go nullable (Concrete n) = ap (λ (k : ℕ). read_values.Ref (reference nullable (read_heaps.Concrete (Module k)))) (absorbs n)
      go nullable (Exact n) = ap (λ (k : ℕ). read_values.Ref (reference nullable (read_heaps.Exact (Module k)))) (absorbs n)

  values_absorb : (vs : List ValType) → map (names.renamed_value r) (map value_from vs) ≡ map (λ v. names.renamed_value r (value_from v)) (map (renamed_value same) vs)
  values_absorb [] = refl
  values_absorb (v ∷ vs) =
      ap (λ (x : ReadValue). x ∷ map (names.renamed_value r) (map value_from vs)) (sym (value_absorbs v))
      ∙ ap (λ (xs : List ReadValue). names.renamed_value r (value_from (renamed_value same v)) ∷ xs) (values_absorb vs)

  values_same : (vs ws : List ValType) → map (renamed_value same) vs ≡ map (renamed_value same) ws → map (names.renamed_value r) (map value_from vs) ≡ map (names.renamed_value r) (map value_from ws)
  values_same vs ws e = values_absorb vs ∙ ap (map (λ v. names.renamed_value r (value_from v))) e ∙ sym (values_absorb ws)

  -- a type that serves has the parameters and results, renamed
  served : SameKindIsEquality → (kind : Kind) (params results : List ValType) → serves same params results kind ≡ true
      → renamed_signature r (kind_signature (Some kind)) ≡ renamed_signature r (record { params = map value_from params; results = map value_from results })
  served is kind params results h =
      let e : renamed_kind same kind ≡ renamed_kind same (function_kind params results) = (is (renamed_kind same kind) (renamed_kind same (function_kind params results))).0 h in
      let ps : map (renamed_value same) (params_of kind.form) ≡ map (renamed_value same) params = sym (params_renamed same kind.form) ∙ ap (λ (k : Kind). params_of k.form) e in
      let rs : map (renamed_value same) (results_of kind.form) ≡ map (renamed_value same) results = sym (results_renamed same kind.form) ∙ ap (λ (k : Kind). results_of k.form) e in
      ap (λ (xs : List ReadValue). (let s : Signature = record { params = xs; results = map (names.renamed_value r) (map value_from (results_of kind.form)) } in s)) (values_same (params_of kind.form) params ps)
      ∙ ap (λ (xs : List ReadValue). (let s : Signature = record { params = map (names.renamed_value r) (map value_from params); results = xs } in s)) (values_same (results_of kind.form) results rs)

module _ (is : SameKindIsEquality) (a : Around) (r : Renaming) (absorbs : (n : ℕ) → r Types (a.same n) ≡ r Types n) where
  -- a block type of these parameters and results, and what is found for them
  abbrev Keeps : BlockType → List ValType → List ValType → Option BlockType → Type 0
  Keeps ty params results found = renamed_signature r (signature_in a.filled (unwrap_or found ty)) ≡ renamed_signature r (record { params = map value_from params; results = map value_from results })

  found_keeps : (ty : BlockType) (params results : List ValType) → Keeps ty params results None → Keeps ty params results (option_map blocks.Type (found_in a.same params results (types_of a.filled)))
  found_keeps ty params results h =
      latest_has (λ n kind. leads a.same n && serves a.same params results kind) (types_of a.filled) (λ o. Keeps ty params results (option_map blocks.Type o))
      (λ j kind at passes. ap (λ (o : Option Kind). renamed_signature r (kind_signature o)) at ∙ served a.same r absorbs is kind params results (and_parts (leads a.same j) (serves a.same params results kind) passes).1) (types_of a.filled) 0 None
      (λ k. ap (slice_get (types_of a.filled)) (let e : k ≡ k + 0 = omega arith in e)) h

  pick_keeps : (ty : BlockType) (params results : List ValType) → Keeps ty params results None → Keeps ty params results (pick a params results)
  pick_keeps ty [] [] h = refl
  pick_keeps ty [] (x ∷ []) h = refl
  pick_keeps ty [] (x ∷ (y ∷ zs)) h = found_keeps ty [] (x ∷ (y ∷ zs)) h
  pick_keeps ty (x ∷ xs) results h = found_keeps ty (x ∷ xs) results h

  form_keeps : (n : ℕ) (kind : Kind) (form : Form) → kind.form ≡ form → slice_get (types_of a.filled) n ≡ Some kind
      → renamed_signature r (signature_in a.filled (form_pick a (blocks.Type n) form)) ≡ renamed_signature r (kind_signature (Some kind))
  form_keeps n kind (FunctionForm params results) e at =
      let own : renamed_signature r (kind_signature (Some kind)) ≡ renamed_signature r (record { params = map value_from params; results = map value_from results }) =
      ap (λ (f : Form). renamed_signature r (record { params = map value_from (params_of f); results = map value_from (results_of f) })) e in
      pick_keeps (blocks.Type n) params results (ap (λ (o : Option Kind). renamed_signature r (kind_signature o)) at ∙ own) ∙ sym own
  form_keeps n kind (StructForm fields) e at = ap (λ (o : Option Kind). renamed_signature r (kind_signature o)) at
  form_keeps n kind (ArrayForm field) e at = ap (λ (o : Option Kind). renamed_signature r (kind_signature o)) at

  kind_keeps : (n : ℕ) (o : Option Kind) → slice_get (types_of a.filled) n ≡ o → renamed_signature r (signature_in a.filled (kind_pick a (blocks.Type n) o)) ≡ renamed_signature r (kind_signature o)
  kind_keeps n None at = ap (λ (o : Option Kind). renamed_signature r (kind_signature o)) at
  kind_keeps n (Some kind) at = form_keeps n kind kind.form refl at

pub picks_of_modules_keep : SameKindIsEquality → PicksOfModulesKeep
picks_of_modules_keep is a r absorbs blocks.Empty = refl
picks_of_modules_keep is a r absorbs (blocks.Value ty) = refl
picks_of_modules_keep is a r absorbs (blocks.Type n) = kind_keeps is a r absorbs n (slice_get (types_of a.filled) n) refl

-- ---- renamed types

module _ (r : Renaming) where
  value_renamed : (v : ValType) → value_from (renamed_value (r Types) v) ≡ names.renamed_value r (value_from v)
  value_renamed I32 = refl
  value_renamed I64 = refl
  value_renamed F32 = refl
  value_renamed F64 = refl
  value_renamed V128 = refl
  value_renamed (Ref ty) = go ty.nullable ty.heap_type
    where
      go : (nullable : Bool) (heap : HeapType) → value_from (renamed_value (r Types) (Ref (record { nullable = nullable; heap_type = heap })))
          ≡ names.renamed_value r (value_from (Ref (record { nullable = nullable; heap_type = heap })))
      go nullable (Abstract ty) = refl
      go nullable (Shared ty) = refl
      go nullable (Concrete n) = refl
      go nullable (Exact n) = refl

  values_renamed : (vs : List ValType) → map value_from (map (renamed_value (r Types)) vs) ≡ map (names.renamed_value r) (map value_from vs)
  values_renamed [] = refl
  values_renamed (v ∷ vs) =
      ap (λ (x : ReadValue). x ∷ map value_from (map (renamed_value (r Types)) vs)) (value_renamed v) ∙ ap (λ (xs : List ReadValue). names.renamed_value r (value_from v) ∷ xs) (values_renamed vs)

  signature_renamed : (o : Option Kind) → kind_signature (option_map (renamed_kind (r Types)) o) ≡ renamed_signature r (kind_signature o)
  signature_renamed None = refl
  signature_renamed (Some kind) =
      let ps : map value_from (params_of (renamed_form (r Types) kind.form)) ≡ map (names.renamed_value r) (map value_from (params_of kind.form)) =
      ap (map value_from) (params_renamed (r Types) kind.form) ∙ values_renamed (params_of kind.form) in
      let rs : map value_from (results_of (renamed_form (r Types) kind.form)) ≡ map (names.renamed_value r) (map value_from (results_of kind.form)) =
      ap (map value_from) (results_renamed (r Types) kind.form) ∙ values_renamed (results_of kind.form) in
      ap (λ (xs : List ReadValue). (let s : Signature = record { params = xs; results = map value_from (results_of (renamed_form (r Types) kind.form)) } in s)) ps
      ∙ ap (λ (xs : List ReadValue). (let s : Signature = record { params = map (names.renamed_value r) (map value_from (params_of kind.form)); results = xs } in s)) rs

pub block_types_stand : BlockTypesStand
block_types_stand r m n blocks.Empty h = refl
block_types_stand r m n (blocks.Value ty) h = refl
block_types_stand r m n (blocks.Type k) h = ap kind_signature h ∙ signature_renamed r (slice_get (types_of m) k)
