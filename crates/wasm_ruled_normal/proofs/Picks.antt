-- Lemmas: the pick for a block type that passes the tests passes them, and is its own pick.
use Rattle.std.specs.Prelude.{ℕ, zero, suc, ◌≡◌, ◌<◌, ◌≤◌, ◌+◌, ◌&&◌, Bool, true, false, List, [], ◌∷◌, ◌++◌, length, map, Option, Some, None, option_to_list, slice_get, unwrap_or, refl, if◌then◌else◌}
use Rattle.std.specs.List.{AllByRecursion, cons_option, flat_map}
use Rattle.std.specs.Option.{is_some, option_map}
use Rattle.std.proofs.Common.{ap, sym, ◌∙◌, subst, arith, inl}
use Rattle.std.proofs.lemmas.Bool.{and_parts, lt-ltb}
use Rattle.std.proofs.lemmas.List.{length-append}
use Rattle.std.proofs.lemmas.Option.{slice_get_within}
use Rattle.walrus_forms.proofs.RenamingLemmas.{In, kinds-below}
use Rattle.walrus_forms.specs.Forms.{Form, FunctionForm, StructForm, ArrayForm, form_names, params_of, results_of}
use Rattle.walrus_forms.specs.Kinds.{Kind, function_kind, kind_names}
use Rattle.walrus_forms.specs.Records.{TypeGroup}
use Rattle.walrus_forms.specs.Renaming.{renamed_form, renamed_kind, renamed_value}
use Rattle.walrus_forms.specs.Same.{SameKindIsEquality, same_kind}
use Rattle.walrus_forms.specs.Values.{heap_name, value_name}
use Rattle.walrus_forms.specs.declared.value.AbstractHeapType.{AbstractHeapType}
use Rattle.walrus_forms.specs.declared.value.AbstractHeapType.TheVariants as abstracts
use Rattle.walrus_forms.specs.declared.value.HeapType.{HeapType}
use Rattle.walrus_forms.specs.declared.value.HeapType.TheVariants.{Abstract, Shared, Concrete, Exact}
use Rattle.walrus_forms.specs.declared.value.ValType.{ValType}
use Rattle.walrus_forms.specs.declared.value.ValType.TheVariants.{I32, I64, F32, F64, V128, Ref}
use Rattle.wasm_ruled_modules.specs.wasm_module_rules.wasm_modules.wasm_body_grammar.Rules.{Around, block_test, form_test, found_in, has_words, kind_test, latest_from, leads, pick, room, serves}
use Rattle.wasm_ruled_modules.specs.wasm_module_rules.wasm_modules.wasm_body_grammar.wasm_formats.Stops.{TypeForm}
use Rattle.wasm_ruled_modules.specs.wasm_module_rules.wasm_modules.wasm_body_grammar.wasm_grammar.States.{types_of}
use Rattle.wasm_ruled_modules.specs.wasm_module_rules.wasm_modules.wasm_body_grammar.wasm_grammar.TypeWords.{abstract_from, abstract_of, heap_from, heap_of, value_from, value_of}
use Rattle.wasm_ruled_modules.specs.wasm_module_rules.wasm_modules.wasm_body_grammar.wasm_grammar.Values.{must}
use Rattle.wasm_ruled_modules.specs.wasm_module_rules.wasm_modules.wasm_body_grammar.wasm_operators.Names.{Name, block_names, heap_names, index_names, value_names}
use Rattle.wasm_ruled_modules.specs.wasm_module_rules.wasm_modules.wasm_body_grammar.wasm_operators.Items.{Block}
use Rattle.wasm_ruled_modules.specs.wasm_module_rules.wasm_modules.wasm_body_grammar.wasm_operators.declared.block_type.BlockType.{BlockType}
use Rattle.wasm_ruled_modules.specs.wasm_module_rules.wasm_modules.wasm_body_grammar.wasm_operators.declared.block_type.BlockType.TheVariants as blocks
use Rattle.wasm_ruled_modules.specs.wasm_module_rules.wasm_modules.wasm_body_grammar.wasm_operators.wasm_ref_types.declared.heap.HeapType.{HeapType as ReadHeap}
use Rattle.wasm_ruled_modules.specs.wasm_module_rules.wasm_modules.wasm_body_grammar.wasm_operators.wasm_ref_types.declared.heap.HeapType.TheVariants.{Abstract as FromAbstract, Concrete as FromConcrete, Exact as FromExact}
use Rattle.wasm_ruled_modules.specs.wasm_module_rules.wasm_modules.wasm_body_grammar.wasm_operators.wasm_ref_types.declared.index.UnpackedIndex.{UnpackedIndex}
use Rattle.wasm_ruled_modules.specs.wasm_module_rules.wasm_modules.wasm_body_grammar.wasm_operators.wasm_ref_types.declared.index.UnpackedIndex.TheVariants.{Module, RecGroup, Id}
use Rattle.wasm_ruled_modules.specs.wasm_module_rules.wasm_modules.wasm_body_grammar.wasm_operators.wasm_ref_types.declared.value.ValType.{ValType as ReadValue}
use Rattle.wasm_ruled_modules.specs.wasm_module_rules.wasm_modules.wasm_body_grammar.wasm_operators.wasm_ref_types.declared.value.ValType.TheVariants as values
use Rattle.wasm_ruled_modules.specs.Rules.{AreBelow, GroupsBelow}
use Rattle.wasm_run_names.specs.Picks.{block_pick, form_pick, kind_pick}
use Rattle.wasm_ruled_normal.proofs.Tests.{Within, all_join, has_segment}

-- ---- the latest type that passes a test

-- it is one of them, and passes
pub latest_has : (test : ℕ → Kind → Bool) (whole : List Kind) (P : Option ℕ → Type 0) → ((j : ℕ) (kind : Kind) → slice_get whole j ≡ Some kind → test j kind ≡ true → P (Some j))
    → (rest : List Kind) (n : ℕ) (found : Option ℕ) → ((k : ℕ) → slice_get rest k ≡ slice_get whole (k + n)) → P found → P (latest_from test n found rest)
latest_has test whole P h [] n found same p = p
latest_has test whole P h (kind ∷ rest) n found same p =
    latest_has test whole P h rest (n + 1) (if test n kind then Some n else found)
    (λ k. same (suc k) ∙ ap (slice_get whole) (let e : suc k + n ≡ k + (n + 1) = omega arith in e)) (either (test n kind) refl)
  where
    either : (b : Bool) → test n kind ≡ b → P (if b then Some n else found)
    either true e = h n kind (sym (same 0 ∙ ap (slice_get whole) (let e : 0 + n ≡ n = omega arith in e))) e
    either false e = p

-- no parameters and at most one result: these have a form without a type
abbrev pub is_short : List ValType → List ValType → Bool
is_short [] [] = true
is_short [] (x ∷ []) = true
is_short _ _ = false

pub short_renamed : (f : ℕ → ℕ) (params results : List ValType) → is_short (map (renamed_value f) params) (map (renamed_value f) results) ≡ is_short params results
short_renamed f [] [] = refl
short_renamed f [] (x ∷ []) = refl
short_renamed f [] (x ∷ (y ∷ zs)) = refl
short_renamed f (x ∷ xs) results = refl

pub pick_long : (a : Around) (params results : List ValType) → is_short params results ≡ false → pick a params results ≡ option_map blocks.Type (found_in a.same params results (types_of a.filled))
pick_long a [] [] e = absurd cc
pick_long a [] (x ∷ []) e = absurd cc
pick_long a [] (x ∷ (y ∷ zs)) e = refl
pick_long a (x ∷ xs) results e = refl

-- what is found depends on the parameters and results by what their types stand for
abbrev found_by : (ℕ → ℕ) → List Kind → Kind → Option ℕ
found_by same kinds target = latest_from (λ n kind. leads same n && same_kind (renamed_kind same kind) target) 0 None kinds

-- a form that is a function's of these, types compared by what they stand for
pub record Alike (f : ℕ → ℕ) (form : Form) (params results : List ValType) : Type 0 where
  pub params_own : List ValType
  pub results_own : List ValType
  pub form_is : form ≡ FunctionForm params_own results_own
  pub params_are : map (renamed_value f) params_own ≡ map (renamed_value f) params
  pub results_are : map (renamed_value f) results_own ≡ map (renamed_value f) results

abbrev is_function : Form → Bool
is_function (FunctionForm params results) = true
is_function _ = false

pub alike : (f : ℕ → ℕ) (form : Form) (params results : List ValType) → renamed_form f form ≡ renamed_form f (FunctionForm params results) → Alike f form params results
alike f (FunctionForm ps rs) params results e = record { params_own = ps; results_own = rs; form_is = refl; params_are = ap params_of e; results_are = ap results_of e }
alike f (StructForm fields) params results e = let no_function : false ≡ true = ap is_function e in absurd cc
alike f (ArrayForm field) params results e = let no_function : false ≡ true = ap is_function e in absurd cc

pub kind_alike : (f : ℕ → ℕ) (ps rs params results : List ValType) → map (renamed_value f) ps ≡ map (renamed_value f) params → map (renamed_value f) rs ≡ map (renamed_value f) results
    → renamed_kind f (function_kind ps rs) ≡ renamed_kind f (function_kind params results)
kind_alike f ps rs params results e d =
    ap (λ (vs : List ValType). let k : Kind = record { form = FunctionForm vs (map (renamed_value f) rs); final = true; supertype = None; entry = false } in k) e
    ∙ ap (λ (vs : List ValType). let k : Kind = record { form = FunctionForm (map (renamed_value f) params) vs; final = true; supertype = None; entry = false } in k) d

-- a type that is found: it is the pick of its own parameters and results
pub record Found (a : Around) (k : ℕ) : Type 0 where
  pub kind : Kind
  pub there : slice_get (types_of a.filled) k ≡ Some kind
  pub params : List ValType
  pub results : List ValType
  pub form : kind.form ≡ FunctionForm params results
  pub picked : pick a params results ≡ Some (blocks.Type k)

module _ (is : SameKindIsEquality) (a : Around) where
  some_is : (j k : ℕ) → (let some : ℕ → Option ℕ = λ n. Some n in some j ≡ some k) → j ≡ k
  some_is j k e = cc

  serves_is : (params results : List ValType) (kind : Kind) → serves a.same params results kind ≡ true → Alike a.same kind.form params results
  serves_is params results kind h = alike a.same kind.form params results (ap (λ (k : Kind). k.form) ((is (renamed_kind a.same kind) (renamed_kind a.same (function_kind params results))).0 h))

  found_at : (params results : List ValType) → is_short params results ≡ false → (k : ℕ) → found_in a.same params results (types_of a.filled) ≡ Some k
      → (kind : Kind) → slice_get (types_of a.filled) k ≡ Some kind → serves a.same params results kind ≡ true → Found a k
  found_at params results long k e kind there h =
      let own = serves_is params results kind h in
      let still_long : is_short own.params_own own.results_own ≡ false =
      sym (short_renamed a.same own.params_own own.results_own) ∙ ap (λ (vs : List ValType). is_short vs (map (renamed_value a.same) own.results_own)) own.params_are
      ∙ ap (λ (vs : List ValType). is_short (map (renamed_value a.same) params) vs) own.results_are ∙ short_renamed a.same params results ∙ long in
      let again : found_in a.same own.params_own own.results_own (types_of a.filled) ≡ Some k =
      ap (found_by a.same (types_of a.filled)) (kind_alike a.same own.params_own own.results_own params results own.params_are own.results_are) ∙ e in
      record {
        kind = kind;
        there = there;
        params = own.params_own;
        results = own.results_own;
        form = own.form_is;
        picked = pick_long a own.params_own own.results_own still_long ∙ ap (option_map blocks.Type) again;
      }

  found_is : (params results : List ValType) → is_short params results ≡ false → (k : ℕ) → found_in a.same params results (types_of a.filled) ≡ Some k → Found a k
  found_is params results long k e =
      latest_has (λ n kind. leads a.same n && serves a.same params results kind) (types_of a.filled)
      (λ o. o ≡ found_in a.same params results (types_of a.filled) → o ≡ Some k → Found a k)
      (λ j kind at passes here there. (let same : j ≡ k = some_is j k there in found_at params results long k e kind (ap (slice_get (types_of a.filled)) (sym same) ∙ at)
      (and_parts (leads a.same j) (serves a.same params results kind) passes).1)) (types_of a.filled) 0 None
      (λ k. ap (slice_get (types_of a.filled)) (let e : k ≡ k + 0 = omega arith in e)) (λ here none. absurd cc) refl e

  -- ---- what holds of each pick

  module _ (P : BlockType → Type 0) (empty : P blocks.Empty)
      (one : (n : ℕ) (kind : Kind) (x : ValType) → slice_get (types_of a.filled) n ≡ Some kind → kind.form ≡ FunctionForm [] (x ∷ []) → P (blocks.Value (value_from x)))
      (typed : (k : ℕ) → Found a k → P (blocks.Type k)) where
    of_found : (ty : BlockType) (params results : List ValType) → is_short params results ≡ false → (o : Option ℕ) → found_in a.same params results (types_of a.filled) ≡ o
        → (unwrap_or (option_map blocks.Type o) ty ≡ ty → P ty) → P (unwrap_or (option_map blocks.Type o) ty)
    of_found ty params results long None e stays = stays refl
    of_found ty params results long (Some k) e stays = typed k (found_is params results long k e)

    of_pick : (n : ℕ) (kind : Kind) → slice_get (types_of a.filled) n ≡ Some kind → (params results : List ValType) → kind.form ≡ FunctionForm params results
        → (unwrap_or (pick a params results) (blocks.Type n) ≡ blocks.Type n → P (blocks.Type n)) → P (unwrap_or (pick a params results) (blocks.Type n))
    of_pick n kind at [] [] e stays = empty
    of_pick n kind at [] (x ∷ []) e stays = one n kind x at e
    of_pick n kind at [] (x ∷ (y ∷ zs)) e stays = of_found (blocks.Type n) [] (x ∷ (y ∷ zs)) refl (found_in a.same [] (x ∷ (y ∷ zs)) (types_of a.filled)) refl stays
    of_pick n kind at (x ∷ xs) results e stays = of_found (blocks.Type n) (x ∷ xs) results refl (found_in a.same (x ∷ xs) results (types_of a.filled)) refl stays

    of_form : (n : ℕ) (kind : Kind) → slice_get (types_of a.filled) n ≡ Some kind → (form : Form) → kind.form ≡ form → (form_pick a (blocks.Type n) form ≡ blocks.Type n → P (blocks.Type n)) → P (form_pick a (blocks.Type n) form)
    of_form n kind at (FunctionForm params results) e stays = of_pick n kind at params results e stays
    of_form n kind at (StructForm fields) e stays = stays refl
    of_form n kind at (ArrayForm field) e stays = stays refl

    of_kind : (n : ℕ) (o : Option Kind) → slice_get (types_of a.filled) n ≡ o → (kind_pick a (blocks.Type n) o ≡ blocks.Type n → P (blocks.Type n)) → P (kind_pick a (blocks.Type n) o)
    of_kind n None at stays = stays refl
    of_kind n (Some kind) at stays = of_form n kind at kind.form refl stays

    pub picked_has : (ty : BlockType) → (block_pick a ty ≡ ty → P ty) → P (block_pick a ty)
    picked_has blocks.Empty stays = stays refl
    picked_has (blocks.Value ty) stays = stays refl
    picked_has (blocks.Type n) stays = of_kind n (slice_get (types_of a.filled) n) refl stays

  -- ---- it is its own pick

  found_own : (k : ℕ) → Found a k → block_pick a (blocks.Type k) ≡ blocks.Type k
  found_own k f =
      ap (kind_pick a (blocks.Type k)) f.there ∙ ap (form_pick a (blocks.Type k)) f.form ∙ ap (λ (o : Option BlockType). unwrap_or o (blocks.Type k)) f.picked

  pub picked_own : (ty : BlockType) → block_pick a (block_pick a ty) ≡ block_pick a ty
  picked_own ty = picked_has (λ t. block_pick a t ≡ t) refl (λ n kind x at e. refl) found_own ty (λ e. e)

  -- ---- it serves

  found_tested : (k : ℕ) → Found a k → block_test a (blocks.Type k) ≡ None
  found_tested k f = ap (kind_test a) f.there ∙ ap (form_test a) f.form ∙ ap (λ (o : Option BlockType). must (is_some o) TypeForm) f.picked

  pub picked_tested : (ty : BlockType) → block_test a ty ≡ None → block_test a (block_pick a ty) ≡ None
  picked_tested ty h = picked_has (λ t. block_test a t ≡ None) refl (λ n kind x at e. refl) found_tested ty (λ _. h)

  -- ---- it has words

  abstract_words : (ty : AbstractHeapType) → is_some (abstract_of (abstract_from ty)) ≡ true
  abstract_words abstracts.Func = refl
  abstract_words abstracts.Extern = refl
  abstract_words abstracts.Any = refl
  abstract_words abstracts.None = refl
  abstract_words abstracts.NoExtern = refl
  abstract_words abstracts.NoFunc = refl
  abstract_words abstracts.Eq = refl
  abstract_words abstracts.Struct = refl
  abstract_words abstracts.Array = refl
  abstract_words abstracts.I31 = refl
  abstract_words abstracts.Exn = refl
  abstract_words abstracts.NoExn = refl

  some_mapped : {A B : Type 0} (f : A → B) (o : Option A) → is_some (option_map f o) ≡ is_some o
  some_mapped f None = refl
  some_mapped f (Some x) = refl

  heap_words : (ty : HeapType) → is_some (heap_of (heap_from ty)) ≡ true
  heap_words (Abstract ty) = some_mapped Abstract (abstract_of (abstract_from ty)) ∙ abstract_words ty
  heap_words (Shared ty) = some_mapped Shared (abstract_of (abstract_from ty)) ∙ abstract_words ty
  heap_words (Concrete index) = refl
  heap_words (Exact index) = refl

  value_words : (ty : ValType) → is_some (value_of (value_from ty)) ≡ true
  value_words I32 = refl
  value_words I64 = refl
  value_words F32 = refl
  value_words F64 = refl
  value_words V128 = refl
  value_words (Ref ty) = some_mapped Ref _ ∙ some_mapped _ (heap_of (heap_from ty.heap_type)) ∙ heap_words ty.heap_type

  pub picked_words : (ty : BlockType) → has_words (Block ty) ≡ true → has_words (Block (block_pick a ty)) ≡ true
  picked_words ty h = picked_has (λ t. has_words (Block t) ≡ true) refl (λ n kind x at e. value_words x) (λ k f. refl) ty (λ _. h)

-- ---- it names types that are there, and no segments

abbrev kinds_of : List TypeGroup → List Kind
kinds_of groups = flat_map (λ (g : TypeGroup). g.kinds) groups

abbrev NamesBelow : ℕ → List ℕ → Type 0
NamesBelow end ns = (n : ℕ) → In n ns → n < end

-- each kind names types below it
abbrev pub KindsBelow : ℕ → List Kind → Type 0
KindsBelow end ks = AllByRecursion (λ (k : Kind). NamesBelow end (kind_names k)) ks

kinds_more : (end more : ℕ) → end ≤ more → (ks : List Kind) → AreBelow end ks → KindsBelow more ks
kinds_more end more le [] h = tt
kinds_more end more le (k ∷ ks) h = (λ n i. (let less = kinds-below k end h.0 n i in omega (arith, le, less)), kinds_more end more le ks h.1)

groups_below : (groups : List TypeGroup) (n end : ℕ) → n + length (kinds_of groups) ≤ end → GroupsBelow n groups → KindsBelow end (kinds_of groups)
groups_below [] n end le h = tt
groups_below (g ∷ groups) n end le h =
    let size : length (kinds_of (g ∷ groups)) ≡ length g.kinds + length (kinds_of groups) = length-append g.kinds (kinds_of groups) in
    all_join (λ (k : Kind). NamesBelow end (kind_names k)) g.kinds (kinds_of groups)
    (kinds_more (n + length g.kinds) end (omega (arith, le, size)) g.kinds h.0)
    (groups_below groups (n + length g.kinds) end (omega (arith, le, size)) h.1)

pub types_below : (a : Around) → GroupsBelow 0 a.filled.groups → KindsBelow (length (types_of a.filled)) (types_of a.filled)
types_below a h = groups_below a.filled.groups 0 (length (types_of a.filled)) (omega arith) h

pub all_at : {A : Type 0} (P : A → Type 0) (xs : List A) (n : ℕ) (x : A) → AllByRecursion P xs → slice_get xs n ≡ Some x → P x
all_at P [] n x h e = absurd cc
all_at P (y ∷ ys) zero x h e = let same : y ≡ x = cc in subst P same h.0
all_at P (y ∷ ys) (suc n) x h e = all_at P ys n x h.1 e

module _ (is : SameKindIsEquality) (a : Around) (below : GroupsBelow 0 a.filled.groups) (locals labels : ℕ) where
  abbrev Fits : List Name → Type 0
  Fits names = AllByRecursion (Within (room a locals labels)) names

  heap_fits : (nullable : Bool) (heap : HeapType) (rest : List ℕ) → NamesBelow (length (types_of a.filled)) (cons_option (heap_name heap) [] ++ rest)
      → Fits (value_names (value_from (Ref (record { nullable = nullable; heap_type = heap }))))
  heap_fits nullable (Abstract ty) rest h = tt
  heap_fits nullable (Shared ty) rest h = tt
  heap_fits nullable (Concrete n) rest h = (lt-ltb n (length (types_of a.filled)) (h n (inl refl)), tt)
  heap_fits nullable (Exact n) rest h = (lt-ltb n (length (types_of a.filled)) (h n (inl refl)), tt)

  value_fits : (ty : ValType) (rest : List ℕ) → NamesBelow (length (types_of a.filled)) (cons_option (value_name ty) [] ++ rest) → Fits (value_names (value_from ty))
  value_fits I32 rest h = tt
  value_fits I64 rest h = tt
  value_fits F32 rest h = tt
  value_fits F64 rest h = tt
  value_fits V128 rest h = tt
  value_fits (Ref ty) rest h = heap_fits ty.nullable ty.heap_type rest h

  result_fits : (n : ℕ) (kind : Kind) (x : ValType) → slice_get (types_of a.filled) n ≡ Some kind → kind.form ≡ FunctionForm [] (x ∷ []) → Fits (value_names (value_from x))
  result_fits n kind x at e =
      let names : NamesBelow (length (types_of a.filled)) (kind_names kind) =
      all_at (λ (k : Kind). NamesBelow (length (types_of a.filled)) (kind_names k)) (types_of a.filled) n kind (types_below a below) at in
      value_fits x (option_to_list kind.supertype) (subst (λ (f : Form). NamesBelow (length (types_of a.filled)) (form_names f ++ option_to_list kind.supertype)) e names)

  pub picked_fits : (ty : BlockType) → Fits (block_names ty) → Fits (block_names (block_pick a ty))
  picked_fits ty h =
      picked_has is a (λ t. Fits (block_names t)) tt result_fits (λ k f. (lt-ltb k (length (types_of a.filled)) (slice_get_within (types_of a.filled) k f.kind f.there), tt)) ty (λ _. h)

index_segments : (i : UnpackedIndex) → has_segment (index_names i) ≡ false
index_segments (Module n) = refl
index_segments (RecGroup n) = refl
index_segments (Id n) = refl

heap_segments : (ty : ReadHeap) → has_segment (heap_names ty) ≡ false
heap_segments (FromAbstract shared ty) = refl
heap_segments (FromConcrete i) = index_segments i
heap_segments (FromExact i) = index_segments i

value_segments : (ty : ReadValue) → has_segment (value_names ty) ≡ false
value_segments values.I32 = refl
value_segments values.I64 = refl
value_segments values.F32 = refl
value_segments values.F64 = refl
value_segments values.V128 = refl
value_segments (values.Ref ty) = heap_segments ty.heap_type

pub block_segments : (ty : BlockType) → has_segment (block_names ty) ≡ false
block_segments blocks.Empty = refl
block_segments (blocks.Value ty) = value_segments ty
block_segments (blocks.Type n) = refl
