-- Lemmas: types that a block may have, where the types of one file stand in another, renamed.
use Rattle.std.specs.Prelude.{ℕ, zero, suc, ◌≡◌, ◌<◌, ◌+◌, ◌&&◌, Bool, true, false, List, [], ◌∷◌, ◌++◌, length, map, Option, Some, None, option_to_list, slice_get, refl, if◌then◌else◌}
use Rattle.std.specs.Option.{is_some, option_map}
use Rattle.std.proofs.Common.{ap, sym, ◌∙◌, arith, inl, inr}
use Rattle.std.proofs.lemmas.Bool.{and_parts}
use Rattle.std.proofs.lemmas.Option.{slice_get_within}
use Rattle.walrus_forms.proofs.RenamingLemmas.{In, kinds-agree, kinds-twice}
use Rattle.walrus_forms.specs.Forms.{Form, FunctionForm, StructForm, ArrayForm, form_names}
use Rattle.walrus_forms.specs.Kinds.{Kind, function_kind, kind_names}
use Rattle.walrus_forms.specs.Renaming.{renamed_form, renamed_kind, renamed_value}
use Rattle.walrus_forms.specs.Same.{SameKindIsEquality}
use Rattle.walrus_forms.specs.declared.value.ValType.{ValType}
use Rattle.wasm_ruled_normal.specs.wasm_ruled_modules.wasm_module_rules.wasm_modules.wasm_body_grammar.Rules.{Around, block_test, form_test, found_in, kind_test, latest_from, leads, pick, serves}
use Rattle.wasm_ruled_normal.specs.wasm_ruled_modules.wasm_module_rules.wasm_modules.wasm_body_grammar.wasm_formats.Stops.{TypeForm}
use Rattle.wasm_ruled_normal.specs.wasm_ruled_modules.wasm_module_rules.wasm_modules.wasm_body_grammar.wasm_grammar.States.{types_of}
use Rattle.wasm_ruled_normal.specs.wasm_ruled_modules.wasm_module_rules.wasm_modules.wasm_body_grammar.wasm_operators.declared.block_type.BlockType.TheVariants as blocks
use Rattle.wasm_ruled_normal.specs.wasm_ruled_modules.Rules.{GroupsBelow}
use Rattle.wasm_ruled_normal.proofs.Picks.{all_at, latest_has, types_below}
use Rattle.wasm_ruled_normal.specs.wasm_ruled_modules.wasm_module_rules.Keeps.{must_holds}
use Rattle.wasm_ruled_normal.proofs.Tests.{holds_must}
use Rattle.wasm_ruled_renamed.specs.Types.{Retypes, RetypedTypesServe}

-- ---- where one passes the test, one is found

module _ (test : ℕ → Kind → Bool) where
  latest_keeps : (kinds : List Kind) (n : ℕ) (found : Option ℕ) → is_some found ≡ true → is_some (latest_from test n found kinds) ≡ true
  latest_keeps [] n found e = e
  latest_keeps (kind ∷ kinds) n found e = latest_keeps kinds (n + 1) (if test n kind then Some n else found) (either (test n kind))
    where
      either : (b : Bool) → is_some (if b then Some n else found) ≡ true
      either true = refl
      either false = e

  latest_some : (kinds : List Kind) (n j : ℕ) (found : Option ℕ) (kind : Kind) → slice_get kinds j ≡ Some kind → test (n + j) kind ≡ true → is_some (latest_from test n found kinds) ≡ true
  latest_some [] n j found kind at e = absurd cc
  latest_some (k ∷ kinds) n zero found kind at e =
      let same : k ≡ kind = cc in
      let here : test n k ≡ true = ap (test n) same ∙ ap (λ (m : ℕ). test m kind) (let m : n ≡ n + 0 = omega arith in m) ∙ e in
      latest_keeps kinds (n + 1) (if test n k then Some n else found) (ap (λ (b : Bool). is_some (if b then Some n else found)) here)
  latest_some (k ∷ kinds) n (suc j) found kind at e =
      latest_some kinds (n + 1) j (if test n k then Some n else found) kind at (ap (λ (m : ℕ). test m kind) (let m : (n + 1) + j ≡ n + suc j = omega arith in m) ∙ e)

pub left_in : (xs ys : List ℕ) (m : ℕ) → In m (xs ++ []) → In m (xs ++ ys)
left_in [] ys m h = absurd h
left_in (x ∷ xs) ys m (inl e) = inl e
left_in (x ∷ xs) ys m (inr h) = inr (left_in xs ys m h)

some_mapped : {A B : Type 0} (f : A → B) (o : Option A) → is_some (option_map f o) ≡ is_some o
some_mapped f None = refl
some_mapped f (Some x) = refl

module _ (is : SameKindIsEquality) (r : ℕ → ℕ) (a b : Around) (below : GroupsBelow 0 a.filled.groups) (types : Retypes r a b) where
  abbrev count : ℕ
  count = length (types_of a.filled)

  -- types compared by what they stand for there are those compared by what they stand for here
  pub kind_over : (kind : Kind) → ((m : ℕ) → In m (kind_names kind) → m < count) → renamed_kind b.same (renamed_kind r kind) ≡ renamed_kind types.over (renamed_kind a.same kind)
  kind_over kind names =
      kinds-twice r b.same kind ∙ kinds-agree (λ m. b.same (r m)) (λ m. types.over (a.same m)) kind (λ m i. types.alike m (names m i)) ∙ sym (kinds-twice a.same types.over kind)

  pub type_names : (n : ℕ) (kind : Kind) → slice_get (types_of a.filled) n ≡ Some kind → (m : ℕ) → In m (kind_names kind) → m < count
  type_names n kind at = all_at (λ (k : Kind). (m : ℕ) → In m (kind_names k) → m < count) (types_of a.filled) n kind (types_below a below) at

  module _ (params results : List ValType) (names : (m : ℕ) → In m (form_names (FunctionForm params results) ++ []) → m < count) where
    abbrev there : Option ℕ
    there = found_in b.same (map (renamed_value r) params) (map (renamed_value r) results) (types_of b.filled)

    serves_there : (kind : Kind) → ((m : ℕ) → In m (kind_names kind) → m < count) → serves a.same params results kind ≡ true
        → serves b.same (map (renamed_value r) params) (map (renamed_value r) results) (renamed_kind r kind) ≡ true
    serves_there kind own e =
        let same = (is (renamed_kind a.same kind) (renamed_kind a.same (function_kind params results))).0 e in
        (is (renamed_kind b.same (renamed_kind r kind)) (renamed_kind b.same (function_kind (map (renamed_value r) params) (map (renamed_value r) results)))).1
        (kind_over kind own ∙ ap (renamed_kind types.over) same ∙ sym (kind_over (function_kind params results) names))

    both : (x y : Bool) → x ≡ true → y ≡ true → (x && y) ≡ true
    both x y e f = ap (λ (z : Bool). z && y) e ∙ f

    found_there : (k : ℕ) (kind : Kind) → slice_get (types_of a.filled) k ≡ Some kind → (leads a.same k && serves a.same params results kind) ≡ true → is_some there ≡ true
    found_there k kind at e =
        let parts = and_parts (leads a.same k) (serves a.same params results kind) e in
        let small : k < count = slice_get_within (types_of a.filled) k kind at in
        let test : ℕ → Kind → Bool = λ n kind. leads b.same n && serves b.same (map (renamed_value r) params) (map (renamed_value r) results) kind in
        let passes : test (r k) (renamed_kind r kind) ≡ true =
        both (leads b.same (r k)) (serves b.same (map (renamed_value r) params) (map (renamed_value r) results) (renamed_kind r kind)) (types.first k small parts.0) (serves_there kind (type_names k kind at) parts.1) in
        latest_some test (types_of b.filled) 0 (r k) None (renamed_kind r kind) (types.stands k small ∙ ap (option_map (renamed_kind r)) at)
        (ap (λ (m : ℕ). test m (renamed_kind r kind)) (let m : 0 + r k ≡ r k = omega arith in m) ∙ passes)

    all_there : is_some (found_in a.same params results (types_of a.filled)) ≡ true → is_some there ≡ true
    all_there =
        latest_has (λ n kind. leads a.same n && serves a.same params results kind) (types_of a.filled) (λ o. is_some o ≡ true → is_some there ≡ true) (λ j kind at e _. found_there j kind at e) (types_of a.filled) 0 None
        (λ k. ap (slice_get (types_of a.filled)) (let e : k ≡ k + 0 = omega arith in e)) (λ e. absurd cc)

    typed_there : is_some (option_map blocks.Type (found_in a.same params results (types_of a.filled))) ≡ true → is_some (option_map blocks.Type there) ≡ true
    typed_there e = some_mapped blocks.Type there ∙ all_there (sym (some_mapped blocks.Type (found_in a.same params results (types_of a.filled))) ∙ e)

  pick_there : (params results : List ValType) → ((m : ℕ) → In m (form_names (FunctionForm params results) ++ []) → m < count) → is_some (pick a params results) ≡ true
      → is_some (pick b (map (renamed_value r) params) (map (renamed_value r) results)) ≡ true
  pick_there [] [] names e = refl
  pick_there [] (x ∷ []) names e = refl
  pick_there [] (x ∷ (y ∷ zs)) names e = typed_there [] (x ∷ (y ∷ zs)) names e
  pick_there (x ∷ xs) results names e = typed_there (x ∷ xs) results names e

  form_there : (form : Form) → ((m : ℕ) → In m (form_names form ++ []) → m < count) → form_test a form ≡ None → form_test b (renamed_form r form) ≡ None
  form_there (FunctionForm params results) names e =
      holds_must (is_some (pick b (map (renamed_value r) params) (map (renamed_value r) results))) TypeForm (pick_there params results names (must_holds (is_some (pick a params results)) TypeForm e))
  form_there (StructForm fields) names e = absurd cc
  form_there (ArrayForm field) names e = absurd cc

  kind_there : (n : ℕ) (o : Option Kind) → slice_get (types_of a.filled) n ≡ o → kind_test a o ≡ None → kind_test b (option_map (renamed_kind r) o) ≡ None
  kind_there n None at e = refl
  kind_there n (Some kind) at e = form_there kind.form (λ m i. type_names n kind at m (left_in (form_names kind.form) (option_to_list kind.supertype) m i)) e

  serve : (n : ℕ) → n < count → block_test a (blocks.Type n) ≡ None → block_test b (blocks.Type (r n)) ≡ None
  serve n lt e = ap (kind_test b) (types.stands n lt) ∙ kind_there n (slice_get (types_of a.filled) n) refl e

pub types_serve : SameKindIsEquality → RetypedTypesServe
types_serve is r a b below types n lt e = serve is r a b below types n lt e
