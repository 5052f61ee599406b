-- Lemmas: block types that are their own picks have picks in the part.
use Rattle.std.specs.Prelude.{ℕ, zero, suc, ◌≡◌, ◌+◌, ◌⊎◌, ◌&&◌, Bool, true, false, List, [], ◌∷◌, map, Option, Some, None, slice_get, refl, if◌then◌else◌, unwrap_or}
use Rattle.std.specs.Option.{is_some, option_map}
use Rattle.std.proofs.Common.{ap, sym, ◌∙◌, arith, inl, inr}
use Rattle.std.proofs.lemmas.Option.{slice_get_within}
use Rattle.walrus_forms.specs.Forms.{Form, FunctionForm, StructForm, ArrayForm}
use Rattle.walrus_forms.specs.Kinds.{Kind, function_kind}
use Rattle.walrus_forms.specs.Renaming.{renamed_kind, renamed_value}
use Rattle.walrus_forms.specs.Same.{SameKindIsEquality}
use Rattle.walrus_forms.specs.declared.value.ValType.{ValType}
use Rattle.wasm_formats.specs.Stops.{TypeForm}
use Rattle.wasm_operators.specs.declared.block_type.BlockType.TheVariants as blocks
use Rattle.wasm_operators.specs.Items.{Types}
use Rattle.wasm_grammar.specs.States.{types_of}
use Rattle.wasm_body_grammar.specs.Rules.{Around, block_test, form_test, found_in, kind_test, latest_from, leads, pick, serves}
use Rattle.wasm_module_rules.specs.Keeps.{and_both, must_holds}
use Rattle.wasm_ruled_modules.specs.Rules.{around_bodies}
use Rattle.wasm_ruled_normal.proofs.Tests.{holds_must}
use Rattle.wasm_run_names.specs.Picks.{block_pick, form_pick, kind_pick}
use Rattle.wasm_part.specs.Part.{part}
use Rattle.wasm_part.specs.Kept.{PickedTypesServe}
use Rattle.wasm_part.proofs.Picked.{some_same}

-- ---- what is found passes the test, and where one passes it one is found

module _ (test : ℕ → Kind → Bool) where
  latest_passes : (kinds : List Kind) (n k : ℕ) (found : Option ℕ) → latest_from test n found kinds ≡ Some k
      → (found ≡ Some k) ⊎ ((j : ℕ) × (kind : Kind) × (slice_get kinds j ≡ Some kind) × (n + j ≡ k) × (test k kind ≡ true))
  latest_passes [] n k found e = inl e
  latest_passes (kind ∷ kinds) n k found e = go (test n kind) refl (latest_passes kinds (n + 1) k (if test n kind then Some n else found) e)
    where
      go : (b : Bool) → test n kind ≡ b → ((if b then Some n else found) ≡ Some k) ⊎ ((j : ℕ) × (other : Kind) × (slice_get kinds j ≡ Some other) × ((n + 1) + j ≡ k) × (test k other ≡ true))
          → (found ≡ Some k) ⊎ ((j : ℕ) × (other : Kind) × (slice_get (kind ∷ kinds) j ≡ Some other) × (n + j ≡ k) × (test k other ≡ true))
      go b passes (inr h) = let sum = h.3 in inr (suc h.0, h.1, h.2, omega (arith, sum), h.4)
      go true passes (inl same) = let is : n ≡ k = some_same n k same in inr (zero, kind, refl, omega (arith, is), ap (λ (k : ℕ). test k kind) (sym is) ∙ passes)
      go false passes (inl same) = inl same

  latest_keeps : (kinds : List Kind) (n : ℕ) (found : Option ℕ) → is_some found ≡ true → is_some (latest_from test n found kinds) ≡ true
  latest_keeps [] n found e = e
  latest_keeps (kind ∷ kinds) n found e = latest_keeps kinds (n + 1) (if test n kind then Some n else found) (either (test n kind))
    where
      either : (b : Bool) → is_some (if b then Some n else found) ≡ true
      either true = refl
      either false = e

  latest_some : (kinds : List Kind) (n j : ℕ) (found : Option ℕ) (kind : Kind) → slice_get kinds j ≡ Some kind → test (n + j) kind ≡ true → is_some (latest_from test n found kinds) ≡ true
  latest_some [] n j found kind at e = absurd cc
  latest_some (k ∷ kinds) n zero found kind at e =
      let here : test n k ≡ true = ap (test n) (some_same k kind at) ∙ ap (λ (m : ℕ). test m kind) (let m : n ≡ n + 0 = omega arith in m) ∙ e in
      latest_keeps kinds (n + 1) (if test n k then Some n else found) (ap (λ (b : Bool). is_some (if b then Some n else found)) here)
  latest_some (k ∷ kinds) n (suc j) found kind at e =
      latest_some kinds (n + 1) j (if test n k then Some n else found) kind at (ap (λ (m : ℕ). test m kind) (let m : (n + 1) + j ≡ n + suc j = omega arith in m) ∙ e)

-- ---- a type that serves is a final function type without supertype

none_mapped : (r : ℕ → ℕ) (o : Option ℕ) → option_map r o ≡ None → o ≡ None
none_mapped r None e = refl
none_mapped r (Some n) e = absurd cc

made_kind : (form : Form) (final : Bool) (supertype : Option ℕ) (entry : Bool) → final ≡ true → supertype ≡ None → entry ≡ false
    → (let k : Kind = record { form = form; final = final; supertype = supertype; entry = entry } in let l : Kind = record { form = form; final = true; supertype = None; entry = false } in k ≡ l)
made_kind form final supertype entry e f g = λ i. record { form = form; final = e i; supertype = f i; entry = g i }

module _ (is : SameKindIsEquality) (r same : ℕ → ℕ) (b : Around) (params results : List ValType) where
  -- the kind of one that serves, renamed, serves what it has there
  serves_there : (kind : Kind) → kind.form ≡ FunctionForm params results → serves same params results kind ≡ true
      → serves b.same (map (renamed_value r) params) (map (renamed_value r) results) (renamed_kind r kind) ≡ true
  serves_there kind form e =
      let one = (is (renamed_kind same kind) (renamed_kind same (function_kind params results))).0 e in
      let final : kind.final ≡ true = ap (λ (k : Kind). k.final) one in
      let supertype : kind.supertype ≡ None = none_mapped same kind.supertype (ap (λ (k : Kind). k.supertype) one) in
      let entry : kind.entry ≡ false = ap (λ (k : Kind). k.entry) one in
      let whole : kind ≡ function_kind params results =
      made_kind kind.form kind.final kind.supertype kind.entry final supertype entry ∙ ap (λ (f : Form). record { form = f; final = true; supertype = None; entry = false }) form in
      ap (λ (k : Kind). serves b.same (map (renamed_value r) params) (map (renamed_value r) results) (renamed_kind r k)) whole
      ∙ (is (renamed_kind b.same (function_kind (map (renamed_value r) params) (map (renamed_value r) results))) (renamed_kind b.same (function_kind (map (renamed_value r) params) (map (renamed_value r) results)))).1 refl

pick_some : (b : Around) (params results : List ValType) → is_some (found_in b.same params results (types_of b.filled)) ≡ true → is_some (pick b params results) ≡ true
pick_some b [] [] e = refl
pick_some b [] (x ∷ []) e = refl
pick_some b [] (x ∷ (y ∷ zs)) e = go (found_in b.same [] (x ∷ (y ∷ zs)) (types_of b.filled)) e
  where
    go : (o : Option ℕ) → is_some o ≡ true → is_some (option_map blocks.Type o) ≡ true
    go None e = e
    go (Some n) e = refl
pick_some b (x ∷ xs) results e = go (found_in b.same (x ∷ xs) results (types_of b.filled)) e
  where
    go : (o : Option ℕ) → is_some o ≡ true → is_some (option_map blocks.Type o) ≡ true
    go None e = e
    go (Some n) e = refl

-- its own pick is found
found_here : (a : Around) (n : ℕ) (params results : List ValType) → is_some (pick a params results) ≡ true → unwrap_or (pick a params results) (blocks.Type n) ≡ blocks.Type n
    → found_in a.same params results (types_of a.filled) ≡ Some n
found_here a n [] [] some e = absurd cc
found_here a n [] (x ∷ []) some e = absurd cc
found_here a n [] (x ∷ (y ∷ zs)) some e = go (found_in a.same [] (x ∷ (y ∷ zs)) (types_of a.filled)) some e
  where
    go : (o : Option ℕ) → is_some (option_map blocks.Type o) ≡ true → unwrap_or (option_map blocks.Type o) (blocks.Type n) ≡ blocks.Type n → o ≡ Some n
    go None some e = absurd cc
    go (Some k) some e = cc
found_here a n (x ∷ xs) results some e = go (found_in a.same (x ∷ xs) results (types_of a.filled)) some e
  where
    go : (o : Option ℕ) → is_some (option_map blocks.Type o) ≡ true → unwrap_or (option_map blocks.Type o) (blocks.Type n) ≡ blocks.Type n → o ≡ Some n
    go None some e = absurd cc
    go (Some k) some e = cc

module _ (is : SameKindIsEquality) (r : ℕ → ℕ) (a b : Around) (n : ℕ) (kind : Kind) (here : slice_get (types_of a.filled) n ≡ Some kind) (there : slice_get (types_of b.filled) (r n) ≡ Some (renamed_kind r kind))
    (first : leads b.same (r n) ≡ true) where
  both : (x y : Bool) → x ≡ true → y ≡ true → (x && y) ≡ true
  both x y e f = ap (λ (z : Bool). z && y) e ∙ f

  function_there : (params results : List ValType) → kind.form ≡ FunctionForm params results → serves a.same params results kind ≡ true
      → is_some (found_in b.same (map (renamed_value r) params) (map (renamed_value r) results) (types_of b.filled)) ≡ true
  function_there params results form e =
      let test : ℕ → Kind → Bool = λ n kind. leads b.same n && serves b.same (map (renamed_value r) params) (map (renamed_value r) results) kind in
      let passes : test (r n) (renamed_kind r kind) ≡ true = both (leads b.same (r n)) (serves b.same (map (renamed_value r) params) (map (renamed_value r) results) (renamed_kind r kind)) first (serves_there is r a.same b params results kind form e) in
      latest_some test (types_of b.filled) 0 (r n) None (renamed_kind r kind) there (ap (λ (m : ℕ). test m (renamed_kind r kind)) (let m : 0 + r n ≡ r n = omega arith in m) ∙ passes)

  serves_here : (params results : List ValType) → found_in a.same params results (types_of a.filled) ≡ Some n → serves a.same params results kind ≡ true
  serves_here params results e = elim (latest_passes (λ n kind. leads a.same n && serves a.same params results kind) (types_of a.filled) 0 n None e) as (λ _. serves a.same params results kind ≡ true) [
    | inl none ↦ absurd cc
    | inr h ↦
        let at = h.3 in
        let place : h.0 ≡ n = omega (arith, at) in
        let same : h.1 ≡ kind = some_same h.1 kind (sym h.2 ∙ ap (slice_get (types_of a.filled)) place ∙ here) in
        (and_both (leads a.same n) (serves a.same params results kind) (ap (λ (k : Kind). leads a.same n && serves a.same params results k) (sym same) ∙ h.4)).1
  ]

  form_serves : (form : Form) → kind.form ≡ form → form_test a form ≡ None → form_pick a (blocks.Type n) form ≡ blocks.Type n → form_test b (renamed_kind r kind).form ≡ None
  form_serves (FunctionForm params results) form e own =
      let some = must_holds (is_some (pick a params results)) TypeForm e in
      let found = found_here a n params results some own in
      rw form (holds_must (is_some (pick b (map (renamed_value r) params) (map (renamed_value r) results))) TypeForm
      (pick_some b (map (renamed_value r) params) (map (renamed_value r) results) (function_there params results form (serves_here params results found))))
  form_serves (StructForm fields) form e own = absurd cc
  form_serves (ArrayForm field) form e own = absurd cc

  type_serves : block_test a (blocks.Type n) ≡ None → block_pick a (blocks.Type n) ≡ blocks.Type n → block_test b (blocks.Type (r n)) ≡ None
  type_serves e own = ap (kind_test b) there ∙ form_serves kind.form refl (ap (kind_test a) (sym here) ∙ e) (ap (kind_pick a (blocks.Type n)) (sym here) ∙ own)

pub types_serve : SameKindIsEquality → PickedTypesServe
types_serve is features before counted p m stands first n h own e =
    let t = stands n h in
    let lt = slice_get_within (types_of (part p m)) (p.renames Types n) (renamed_kind (p.renames Types) t.kind) t.stands in
    type_serves is (p.renames Types) (around_bodies features before m) (around_bodies features counted (part p m)) n t.kind t.is t.stands (first (p.renames Types n) lt) e own
