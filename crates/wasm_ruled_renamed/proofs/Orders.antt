-- Lemmas: the pick for a block type, where types are sent to others in their order.
use Rattle.std.specs.Prelude.{ℕ, zero, suc, ◌≡◌, ◌<◌, ◌≤◌, ◌+◌, ◌&&◌, Bool, true, false, List, [], ◌∷◌, ◌++◌, length, map, Option, Some, None, option_to_list, slice_get, unwrap_or, refl, if◌then◌else◌}
use Rattle.std.specs.Option.{is_some, option_map}
use Rattle.std.proofs.Common.{ap, sym, ◌∙◌, subst, arith, inl, inr}
use Rattle.std.proofs.lemmas.Bool.{and_parts, cases_Bool, cases_lt}
use Rattle.std.proofs.lemmas.Option.{slice_get_within}
use Rattle.walrus_forms.proofs.RenamingLemmas.{In, kinds-agree, kinds-twice}
use Rattle.walrus_forms.specs.Forms.{Form, FunctionForm, StructForm, ArrayForm, form_names}
use Rattle.walrus_forms.specs.Kinds.{Kind, function_kind, kind_names}
use Rattle.walrus_forms.specs.Renaming.{renamed_form, renamed_kind, renamed_value}
use Rattle.walrus_forms.specs.Same.{SameKindIsEquality}
use Rattle.walrus_forms.specs.declared.value.HeapType.{HeapType}
use Rattle.walrus_forms.specs.declared.value.HeapType.TheVariants.{Abstract, Shared, Concrete, Exact}
use Rattle.walrus_forms.specs.declared.value.ValType.{ValType}
use Rattle.walrus_forms.specs.declared.value.ValType.TheVariants.{I32, I64, F32, F64, V128, Ref}
use Rattle.wasm_ruled_normal.specs.wasm_ruled_modules.wasm_module_rules.wasm_modules.wasm_body_grammar.Rules.{Around, form_test, found_in, kind_test, latest_from, leads, pick, serves}
use Rattle.wasm_ruled_normal.specs.wasm_ruled_modules.wasm_module_rules.wasm_modules.wasm_body_grammar.wasm_formats.Stops.{TypeForm}
use Rattle.wasm_ruled_normal.specs.wasm_ruled_modules.wasm_module_rules.wasm_modules.wasm_body_grammar.wasm_grammar.States.{types_of}
use Rattle.wasm_ruled_normal.specs.wasm_ruled_modules.wasm_module_rules.wasm_modules.wasm_body_grammar.wasm_grammar.TypeWords.{value_from}
use Rattle.wasm_ruled_normal.specs.wasm_ruled_modules.wasm_module_rules.wasm_modules.wasm_body_grammar.wasm_operators.Names as names
use Rattle.wasm_ruled_normal.specs.wasm_ruled_modules.wasm_module_rules.wasm_modules.wasm_body_grammar.wasm_operators.Names.{Renaming, renamed_block}
use Rattle.wasm_ruled_normal.specs.wasm_ruled_modules.wasm_module_rules.wasm_modules.wasm_body_grammar.wasm_operators.Items.{Types}
use Rattle.wasm_ruled_normal.specs.wasm_ruled_modules.wasm_module_rules.wasm_modules.wasm_body_grammar.wasm_operators.declared.block_type.BlockType.{BlockType}
use Rattle.wasm_ruled_normal.specs.wasm_ruled_modules.wasm_module_rules.wasm_modules.wasm_body_grammar.wasm_operators.declared.block_type.BlockType.TheVariants as blocks
use Rattle.wasm_ruled_normal.specs.wasm_ruled_modules.Rules.{GroupsBelow}
use Rattle.wasm_ruled_normal.specs.wasm_run_names.Picks.{block_pick, form_pick, kind_pick}
use Rattle.wasm_ruled_normal.proofs.Picks.{latest_has}
use Rattle.wasm_ruled_normal.specs.wasm_ruled_modules.wasm_module_rules.Keeps.{must_holds}
use Rattle.wasm_ruled_renamed.proofs.Types.{kind_over, left_in, type_names}
use Rattle.wasm_ruled_renamed.specs.Types.{IsBlockType, PicksGoToPicks, RetypesInOrder}

some_kind : (x y : Kind) → (let some : Kind → Option Kind = λ z. Some z in some x ≡ some y) → x ≡ y
some_kind x y e = cc

get_some : (xs : List Kind) (n : ℕ) → n < length xs → (x : Kind) × (slice_get xs n ≡ Some x)
get_some [] n lt = absurd (omega (arith, lt))
get_some (x ∷ xs) zero lt = (x, refl)
get_some (x ∷ xs) (suc n) lt = get_some xs n (omega (arith, lt))

-- ---- the latest that passes a test

some_is : (j k : ℕ) → (let some : ℕ → Option ℕ = λ n. Some n in some j ≡ some k) → j ≡ k
some_is j k e = cc

module _ (test : ℕ → Kind → Bool) where
  latest_least : (kinds : List Kind) (n p k : ℕ) → p < n → latest_from test n (Some p) kinds ≡ Some k → p ≤ k
  latest_least [] n p k lt e = let same = some_is p k e in omega (arith, same)
  latest_least (kind ∷ kinds) n p k lt e = by (test n kind) (λ q less h. latest_least kinds (n + 1) q k less h) e
    where
      by : (b : Bool) → ((q : ℕ) → q < n + 1 → latest_from test (n + 1) (Some q) kinds ≡ Some k → q ≤ k) → latest_from test (n + 1) (if b then Some n else Some p) kinds ≡ Some k → p ≤ k
      by true later h = let le = later n (omega arith) h in omega (arith, lt, le)
      by false later h = later p (omega (arith, lt)) h

  -- none that passes stands behind it
  pub latest_last : (kinds : List Kind) (n : ℕ) (found : Option ℕ) (k : ℕ) → latest_from test n found kinds ≡ Some k → (i : ℕ) (kind : Kind) → slice_get kinds i ≡ Some kind → test (n + i) kind ≡ true → n + i ≤ k
  latest_last [] n found k e i kind at passes = absurd cc
  latest_last (x ∷ kinds) n found k e zero kind at passes =
      let same : x ≡ kind = cc in
      let here : test n x ≡ true = ap (test n) same ∙ ap (λ (m : ℕ). test m kind) (let m : n ≡ n + 0 = omega arith in m) ∙ passes in
      let le = latest_least kinds (n + 1) n k (omega arith) (ap (λ (b : Bool). latest_from test (n + 1) (if b then Some n else found) kinds) (sym here) ∙ e) in
      omega (arith, le)
  latest_last (x ∷ kinds) n found k e (suc i) kind at passes =
      let le = latest_last kinds (n + 1) (if test n x then Some n else found) k e i kind at (ap (λ (m : ℕ). test m kind) (let m : (n + 1) + i ≡ n + suc i = omega arith in m) ∙ passes) in
      omega (arith, le)

  latest_none : (kinds : List Kind) (n : ℕ) (found : Option ℕ) → ((i : ℕ) (kind : Kind) → slice_get kinds i ≡ Some kind → test (n + i) kind ≡ false) → latest_from test n found kinds ≡ found
  latest_none [] n found fails = refl
  latest_none (x ∷ kinds) n found fails =
      let here : test n x ≡ false = ap (λ (m : ℕ). test m x) (let m : n ≡ n + 0 = omega arith in m) ∙ fails 0 x refl in
      ap (λ (b : Bool). latest_from test (n + 1) (if b then Some n else found) kinds) here
      ∙ latest_none kinds (n + 1) found (λ i kind at. ap (λ (m : ℕ). test m kind) (let m : (n + 1) + i ≡ n + suc i = omega arith in m) ∙ fails (suc i) kind at)

  -- what passes, and has none behind it that does
  pub latest_is : (kinds : List Kind) (n : ℕ) (found : Option ℕ) (j : ℕ) (kind : Kind) → slice_get kinds j ≡ Some kind → test (n + j) kind ≡ true
      → ((i : ℕ) (other : Kind) → j < i → slice_get kinds i ≡ Some other → test (n + i) other ≡ false) → latest_from test n found kinds ≡ Some (n + j)
  latest_is [] n found j kind at passes fails = absurd cc
  latest_is (x ∷ kinds) n found zero kind at passes fails =
      let same : x ≡ kind = cc in
      let here : test n x ≡ true = ap (test n) same ∙ ap (λ (m : ℕ). test m kind) (let m : n ≡ n + 0 = omega arith in m) ∙ passes in
      ap (λ (b : Bool). latest_from test (n + 1) (if b then Some n else found) kinds) here
      ∙ latest_none kinds (n + 1) (Some n) (λ i other at. ap (λ (m : ℕ). test m other) (let m : (n + 1) + i ≡ n + suc i = omega arith in m) ∙ fails (suc i) other (omega arith) at)
      ∙ ap Some (let m : n ≡ n + 0 = omega arith in m)
  latest_is (x ∷ kinds) n found (suc j) kind at passes fails =
      latest_is kinds (n + 1) (if test n x then Some n else found) j kind at (ap (λ (m : ℕ). test m kind) (let m : (n + 1) + j ≡ n + suc j = omega arith in m) ∙ passes)
      (λ i other lt at. ap (λ (m : ℕ). test m other) (let m : (n + 1) + i ≡ n + suc i = omega arith in m) ∙ fails (suc i) other (omega (arith, lt)) at)
      ∙ ap Some (let m : (n + 1) + j ≡ n + suc j = omega arith in m)

-- ---- what is found goes to what is found

value_renamed : (r : Renaming) (v : ValType) → value_from (renamed_value (r Types) v) ≡ names.renamed_value r (value_from v)
value_renamed r I32 = refl
value_renamed r I64 = refl
value_renamed r F32 = refl
value_renamed r F64 = refl
value_renamed r V128 = refl
value_renamed r (Ref ty) = go ty.nullable ty.heap_type
  where
    go : (nullable : Bool) (heap : HeapType) → value_from (renamed_value (r Types) (Ref (record { nullable = nullable; heap_type = heap })))
        ≡ names.renamed_value r (value_from (Ref (record { nullable = nullable; heap_type = heap })))
    go nullable (Abstract ty) = refl
    go nullable (Shared ty) = refl
    go nullable (Concrete n) = refl
    go nullable (Exact n) = refl

both : (x y : Bool) → x ≡ true → y ≡ true → (x && y) ≡ true
both x y e f = ap (λ (z : Bool). z && y) e ∙ f

module _ (is : SameKindIsEquality) (r : ℕ → ℕ) (a b : Around) (below : GroupsBelow 0 a.filled.groups) (sent : RetypesInOrder r a b) where
  abbrev count : ℕ
  count = length (types_of a.filled)

  -- what they stand for comes back
  kind_back : (kind : Kind) → ((m : ℕ) → In m (kind_names kind) → m < count) → renamed_kind sent.back (renamed_kind sent.retypes.over (renamed_kind a.same kind)) ≡ renamed_kind a.same kind
  kind_back kind named =
      ap (renamed_kind sent.back) (kinds-twice a.same sent.retypes.over kind) ∙ kinds-twice (λ m. sent.retypes.over (a.same m)) sent.back kind
      ∙ kinds-agree (λ m. sent.back (sent.retypes.over (a.same m))) a.same kind (λ m i. sent.apart m (named m i))

  module _ (params results : List ValType) (named : (m : ℕ) → In m (form_names (FunctionForm params results) ++ []) → m < count) where
    abbrev here : ℕ → Kind → Bool
    here n kind = leads a.same n && serves a.same params results kind

    abbrev there : ℕ → Kind → Bool
    there n kind = leads b.same n && serves b.same (map (renamed_value r) params) (map (renamed_value r) results) kind

    serves_there : (kind : Kind) → ((m : ℕ) → In m (kind_names kind) → m < count) → serves a.same params results kind ≡ true
        → serves b.same (map (renamed_value r) params) (map (renamed_value r) results) (renamed_kind r kind) ≡ true
    serves_there kind own e =
        let same = (is (renamed_kind a.same kind) (renamed_kind a.same (function_kind params results))).0 e in
        (is (renamed_kind b.same (renamed_kind r kind)) (renamed_kind b.same (function_kind (map (renamed_value r) params) (map (renamed_value r) results)))).1
        (kind_over is r a b below sent.retypes kind own ∙ ap (renamed_kind sent.retypes.over) same ∙ sym (kind_over is r a b below sent.retypes (function_kind params results) named))

    serves_here : (kind : Kind) → ((m : ℕ) → In m (kind_names kind) → m < count) → serves b.same (map (renamed_value r) params) (map (renamed_value r) results) (renamed_kind r kind) ≡ true
        → serves a.same params results kind ≡ true
    serves_here kind own e =
        let same = (is (renamed_kind b.same (renamed_kind r kind)) (renamed_kind b.same (function_kind (map (renamed_value r) params) (map (renamed_value r) results)))).0 e in
        let over : renamed_kind sent.retypes.over (renamed_kind a.same kind) ≡ renamed_kind sent.retypes.over (renamed_kind a.same (function_kind params results)) =
        sym (kind_over is r a b below sent.retypes kind own) ∙ same ∙ kind_over is r a b below sent.retypes (function_kind params results) named in
        (is (renamed_kind a.same kind) (renamed_kind a.same (function_kind params results))).1
        (sym (kind_back kind own) ∙ ap (renamed_kind sent.back) over ∙ kind_back (function_kind params results) named)

    at_kind : (i : ℕ) (other : Kind) → slice_get (types_of b.filled) i ≡ Some other → (n : ℕ) → n < count → r n ≡ i → (kind : Kind) → slice_get (types_of a.filled) n ≡ Some kind → other ≡ renamed_kind r kind
    at_kind i other at n lt same kind own =
        some_kind other (renamed_kind r kind) (sym at ∙ ap (slice_get (types_of b.filled)) (sym same) ∙ sent.retypes.stands n lt ∙ ap (option_map (renamed_kind r)) own)

    -- none of those behind what is found passes there
    module _ (k : ℕ) (e : found_in a.same params results (types_of a.filled) ≡ Some k) (small : k < count) (first : leads a.same k ≡ true) where
      of_own : (i : ℕ) (other : Kind) → r k < i → slice_get (types_of b.filled) i ≡ Some other → (n : ℕ) → n < count → leads a.same n ≡ true → r n ≡ i
          → serves b.same (map (renamed_value r) params) (map (renamed_value r) results) other ≡ true → ⊥
      of_own i other behind at n lt leading same serving =
          let own = get_some (types_of a.filled) n lt in
          let passes : here n own.0 ≡ true = both (leads a.same n) (serves a.same params results own.0) leading
          (serves_here own.0 (type_names is r a b below sent.retypes n own.0 own.1)
          (subst (λ (x : Kind). serves b.same (map (renamed_value r) params) (map (renamed_value r) results) x ≡ true) (at_kind i other at n lt same own.0 own.1) serving)) in
          let le = latest_last here (types_of a.filled) 0 None k e n own.0 own.1 (ap (λ (m : ℕ). here m own.0) (let m : 0 + n ≡ n = omega arith in m) ∙ passes) in
          elim (cases_lt n k) as (λ _. ⊥) [
            | inl less ↦ (let rises = sent.rising n k less small leading first in absurd (omega (arith, rises, behind, same)))
            | inr more ↦ (let again : r n ≡ r k = ap r (let one : n ≡ k = omega (arith, more, le) in one) in absurd (omega (arith, again, behind, same)))
          ]

      fails_there : (i : ℕ) (other : Kind) → r k < i → slice_get (types_of b.filled) i ≡ Some other → there i other ≡ true → ⊥
      fails_there i other behind at passes =
          let parts = and_parts (leads b.same i) (serves b.same (map (renamed_value r) params) (map (renamed_value r) results) other) passes in
          elim (sent.others i other at parts.0) as (λ _. ⊥) [
            | inl h ↦ of_own i other behind at h.0 h.1 h.2 h.3 parts.1
            | inr none ↦ none params results (ap is_some e) parts.1
          ]

      none_there : (i : ℕ) (other : Kind) → r k < i → slice_get (types_of b.filled) i ≡ Some other → there i other ≡ false
      none_there i other behind at = elim (cases_Bool (there i other)) as (λ _. there i other ≡ false) [
        | inl passes ↦ absurd (fails_there i other behind at passes)
        | inr fails ↦ fails
      ]

      found_at : (kind : Kind) → slice_get (types_of a.filled) k ≡ Some kind → serves a.same params results kind ≡ true
          → found_in b.same (map (renamed_value r) params) (map (renamed_value r) results) (types_of b.filled) ≡ Some (r k)
      found_at kind at serving =
          let passes : there (r k) (renamed_kind r kind) ≡ true = both (leads b.same (r k)) (serves b.same (map (renamed_value r) params) (map (renamed_value r) results) (renamed_kind r kind))
          (sent.retypes.first k small first) (serves_there kind (type_names is r a b below sent.retypes k kind at) serving) in
          latest_is there (types_of b.filled) 0 None (r k) (renamed_kind r kind) (sent.retypes.stands k small ∙ ap (option_map (renamed_kind r)) at)
          (ap (λ (m : ℕ). there m (renamed_kind r kind)) (let m : 0 + r k ≡ r k = omega arith in m) ∙ passes)
          (λ i other behind found. ap (λ (m : ℕ). there m other) (let m : 0 + i ≡ i = omega arith in m) ∙ none_there i other behind found)
          ∙ ap Some (let m : 0 + r k ≡ r k = omega arith in m)

    found_there : (k : ℕ) → found_in a.same params results (types_of a.filled) ≡ Some k → found_in b.same (map (renamed_value r) params) (map (renamed_value r) results) (types_of b.filled) ≡ Some (r k)
    found_there k e =
        latest_has here (types_of a.filled) (λ o. found_in a.same params results (types_of a.filled) ≡ o → (j : ℕ) → o ≡ Some j → found_in b.same (map (renamed_value r) params) (map (renamed_value r) results) (types_of b.filled) ≡ Some (r j))
        (λ i kind at passes own j same. (let parts = and_parts (leads a.same i) (serves a.same params results kind) passes in
        found_at i own (slice_get_within (types_of a.filled) i kind at) parts.0 kind at parts.1 ∙ ap (λ (n : ℕ). Some (r n)) (some_is i j same))) (types_of a.filled) 0 None
        (λ k. ap (slice_get (types_of a.filled)) (let e : k ≡ k + 0 = omega arith in e)) (λ own j same. absurd cc) refl k e

-- ---- picks go to picks

module _ (is : SameKindIsEquality) (r : Renaming) (a b : Around) (below : GroupsBelow 0 a.filled.groups) (sent : RetypesInOrder (r Types) a b) where
  abbrev types : ℕ → ℕ
  types = r Types

  typed_there : (n : ℕ) (params results : List ValType) → ((m : ℕ) → In m (form_names (FunctionForm params results) ++ []) → m < length (types_of a.filled)) → (o : Option ℕ)
      → found_in a.same params results (types_of a.filled) ≡ o → is_some (option_map blocks.Type o) ≡ true
      → unwrap_or (option_map blocks.Type (found_in b.same (map (renamed_value types) params) (map (renamed_value types) results) (types_of b.filled))) (blocks.Type (types n))
      ≡ renamed_block r (unwrap_or (option_map blocks.Type (found_in a.same params results (types_of a.filled))) (blocks.Type n))
  typed_there n params results named None e some = absurd cc
  typed_there n params results named (Some k) e some =
      ap (λ (o : Option ℕ). unwrap_or (option_map blocks.Type o) (blocks.Type (types n))) (found_there is types a b below sent params results named k e)
      ∙ sym (ap (λ (o : Option ℕ). renamed_block r (unwrap_or (option_map blocks.Type o) (blocks.Type n))) e)

  pick_there : (n : ℕ) (params results : List ValType) → ((m : ℕ) → In m (form_names (FunctionForm params results) ++ []) → m < length (types_of a.filled)) → is_some (pick a params results) ≡ true
      → unwrap_or (pick b (map (renamed_value types) params) (map (renamed_value types) results)) (blocks.Type (types n)) ≡ renamed_block r (unwrap_or (pick a params results) (blocks.Type n))
  pick_there n [] [] named some = refl
  pick_there n [] (x ∷ []) named some = ap blocks.Value (value_renamed r x)
  pick_there n [] (x ∷ (y ∷ zs)) named some = typed_there n [] (x ∷ (y ∷ zs)) named (found_in a.same [] (x ∷ (y ∷ zs)) (types_of a.filled)) refl some
  pick_there n (x ∷ xs) results named some = typed_there n (x ∷ xs) results named (found_in a.same (x ∷ xs) results (types_of a.filled)) refl some

  form_there : (n : ℕ) (form : Form) → ((m : ℕ) → In m (form_names form ++ []) → m < length (types_of a.filled)) → form_test a form ≡ None
      → form_pick b (blocks.Type (types n)) (renamed_form types form) ≡ renamed_block r (form_pick a (blocks.Type n) form)
  form_there n (FunctionForm params results) named e = pick_there n params results named (must_holds (is_some (pick a params results)) TypeForm e)
  form_there n (StructForm fields) named e = refl
  form_there n (ArrayForm field) named e = refl

  kind_there : (n : ℕ) (o : Option Kind) → slice_get (types_of a.filled) n ≡ o → kind_test a o ≡ None
      → kind_pick b (blocks.Type (types n)) (option_map (renamed_kind types) o) ≡ renamed_block r (kind_pick a (blocks.Type n) o)
  kind_there n None at e = refl
  kind_there n (Some kind) at e =
      form_there n kind.form (λ m i. type_names is types a b below sent.retypes n kind at m (left_in (form_names kind.form) (option_to_list kind.supertype) m i)) e

  block_there : (ty : BlockType) → IsBlockType a ty → block_pick b (renamed_block r ty) ≡ renamed_block r (block_pick a ty)
  block_there blocks.Empty h = refl
  block_there (blocks.Value ty) h = refl
  block_there (blocks.Type n) h = ap (kind_pick b (blocks.Type (types n))) (sent.retypes.stands n h.0) ∙ kind_there n (slice_get (types_of a.filled) n) refl h.1

pub picks_there : SameKindIsEquality → PicksGoToPicks
picks_there is r a b below sent ty h = block_there is r a b below sent ty h
