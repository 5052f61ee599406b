-- Lemmas: the parameters of a function that was read have the types of its type, renamed.
use Rattle.std.specs.Prelude.{ℕ, zero, suc, ◌≡◌, ◌<◌, ◌+◌, Bool, true, List, [], ◌∷◌, ◌++◌, length, map, replicate, Option, Some, None, slice_get, slice_index_or, refl}
use Rattle.std.specs.List.{range_with_len}
use Rattle.std.specs.Option.{option_map, unwrap_or}
use Rattle.std.proofs.Common.{ap, sym, ◌∙◌, subst, arith}
use Rattle.std.proofs.lemmas.Option.{none-some, same_Some, slice_get-map, slice_get_within}
use Rattle.walrus_forms.specs.declared.value.ValType.{ValType}
use Rattle.walrus_forms.specs.Forms.{Form, FunctionForm, StructForm, ArrayForm, params_of}
use Rattle.walrus_forms.specs.Kinds.{Kind}
use Rattle.walrus_forms.specs.Renaming.{renamed_kind, renamed_value}
use Rattle.walrus_index_maps.specs.Maps.{Ids}
use Rattle.walrus_items.specs.declared.local.Local.{Local}
use Rattle.wasm_body_grammar.specs.Codes.{kind_params as params_many}
use Rattle.wasm_features.specs.declared.WasmFeatures.{WasmFeatures}
use Rattle.wasm_grammar.specs.Modules as grammar
use Rattle.wasm_grammar.specs.States.{types_of}
use Rattle.wasm_operators.specs.declared.block_type.BlockType.{BlockType}
use Rattle.wasm_operators.specs.declared.block_type.BlockType.TheVariants as blocks
use Rattle.wasm_ruled_modules.specs.Rules.{around_bodies}
use Rattle.wasm_run_names.specs.Picks.{block_pick, form_pick, kind_pick}
use Rattle.wasm_grammar.specs.States.{form_test}
use Rattle.wasm_operators.specs.Items.{Locals}
use Rattle.wasm_part.specs.Seen.{kind_params}
use Rattle.walrus_parse_laws.specs.BodiesTexts.{naming}
use Rattle.walrus_parse_laws.specs.Means.{AreLocals, LocalIs, StandsIf, kind_types}
use Rattle.walrus_pass_laws.specs.Locals.{type_of_local}

front_map : {A B : Type 0} (f : A → B) (xs ys : List A) (p : ℕ) → p < length xs → slice_get (map f (xs ++ ys)) p ≡ slice_get (map f xs) p
front_map f [] ys p lt = absurd (omega (arith, lt))
front_map f (x ∷ xs) ys zero lt = refl
front_map f (x ∷ xs) ys (suc p) lt = front_map f xs ys p (omega (arith, lt))

get_first : (xs ys : List ℕ) (n k : ℕ) → slice_get xs n ≡ Some k → slice_get (xs ++ ys) n ≡ Some k
get_first [] ys n k e = absurd (none-some k e)
get_first (x ∷ xs) ys zero k e = e
get_first (x ∷ xs) ys (suc n) k e = get_first xs ys n k e

range_at : (from n p : ℕ) (ys : List ℕ) → p < n → slice_get (range_with_len from n ++ ys) p ≡ Some (from + p)
range_at from zero p ys lt = absurd (omega (arith, lt))
range_at from (suc n) zero ys lt = ap (λ (k : ℕ). Some k) (let e : from ≡ from + zero = omega arith in e)
range_at from (suc n) (suc p) ys lt = range_at (from + 1) n p ys (omega (arith, lt)) ∙ ap (λ (k : ℕ). Some k) (let e : (from + 1) + p ≡ from + suc p = omega arith in e)

all_at : (n p : ℕ) (ys : List Bool) → p < n → slice_get (replicate n true ++ ys) p ≡ Some true
all_at zero p ys lt = absurd (omega (arith, lt))
all_at (suc n) zero ys lt = refl
all_at (suc n) (suc p) ys lt = all_at n p ys (omega (arith, lt))

locals_at : (locals : List Local) (ks : List Bool) (ids : List ℕ) (tys : List ValType) → AreLocals locals ks ids tys → (p : ℕ) → slice_get ks p ≡ Some true
    → (id : ℕ) × (ty : ValType) × (slice_get ids p ≡ Some id) × (slice_get tys p ≡ Some ty) × LocalIs locals id ty
locals_at locals [] ids tys h p e = absurd (none-some true e)
locals_at locals (k ∷ ks) [] tys h p e = absurd h
locals_at locals (k ∷ ks) (id ∷ ids) [] h p e = absurd h
locals_at locals (k ∷ ks) (id ∷ ids) (ty ∷ tys) h zero e = (id, ty, refl, refl, subst (λ (b : Bool). StandsIf locals b id ty) (same_Some k true e) h.0)
locals_at locals (k ∷ ks) (id ∷ ids) (ty ∷ tys) h (suc p) e = locals_at locals ks ids tys h.1 p e

-- picks don't ask for a data count section
module _ (features : WasmFeatures) (b c : Bool) (file : grammar.Module) where
  kind_same : (ty : BlockType) (o : Option Kind) → kind_pick (around_bodies features b file) ty o ≡ kind_pick (around_bodies features c file) ty o
  kind_same ty None = refl
  kind_same ty (Some kind) = by kind.form
    where
      by : (form : Form) → form_pick (around_bodies features b file) ty form ≡ form_pick (around_bodies features c file) ty form
      by (FunctionForm [] []) = refl
      by (FunctionForm [] (x ∷ [])) = refl
      by (FunctionForm [] (x ∷ (y ∷ zs))) = refl
      by (FunctionForm (p ∷ ps) results) = refl
      by (StructForm fields) = refl
      by (ArrayForm field) = refl

  pub picks_same : block_pick (around_bodies features b file) ≡ block_pick (around_bodies features c file)
  picks_same = λ i ty. one ty i
    where
      one : (ty : BlockType) → block_pick (around_bodies features b file) ty ≡ block_pick (around_bodies features c file) ty
      one blocks.Empty = refl
      one (blocks.Value ty) = refl
      one (blocks.Type n) = kind_same (blocks.Type n) (slice_get (types_of file) n)

pub start_at : {A : Type 0} (xs : List (Option A)) (n : ℕ) (x : A) → slice_index_or xs n None ≡ Some x → slice_get xs n ≡ Some (Some x)
start_at [] n x e = absurd (none-some x e)
start_at {A} (y ∷ xs) zero x e = ap (λ (o : Option A). Some o) e
start_at (y ∷ xs) (suc n) x e = start_at xs n x e

pub count_is : (o : Option Kind) → params_many o ≡ length (kind_types o)
count_is None = refl
count_is (Some kind) = refl

pub params_renamed : (s : ℕ → ℕ) (kind : Kind) → kind_params (Some (renamed_kind s kind)) ≡ map (renamed_value s) (params_of kind.form)
params_renamed s kind = by kind.form refl
  where
    by : (form : Form) → kind.form ≡ form → kind_params (Some (renamed_kind s kind)) ≡ map (renamed_value s) (params_of kind.form)
    by (FunctionForm ps rs) e = ap (λ (f : Form). kind_params (Some (renamed_kind s (record kind { form = f })))) e ∙ ap (λ (f : Form). map (renamed_value s) (params_of f)) (sym e)
    by (StructForm fs) e = ap (λ (f : Form). kind_params (Some (renamed_kind s (record kind { form = f })))) e ∙ ap (λ (f : Form). map (renamed_value s) (params_of f)) (sym e)
    by (ArrayForm f) e = ap (λ (f : Form). kind_params (Some (renamed_kind s (record kind { form = f })))) e ∙ ap (λ (f : Form). map (renamed_value s) (params_of f)) (sym e)

-- a function's type is there
pub type_known : (o : Option Kind) → form_test o ≡ None → (kind : Kind) × (o ≡ Some kind)
type_known None e = absurd cc
type_known (Some kind) e = (kind, refl)

module _ (locals : List Local) (found : Ids) (number : ℕ) (s : ℕ → ℕ) (params : List ValType) (own : List ValType) (args rest numbers : List ℕ) (more : List Bool) (many : length args ≡ length params)
    (are : args ++ rest ≡ map (naming found number Locals) (range_with_len 0 (length params) ++ numbers))
    (typed : AreLocals locals (replicate (length params) true ++ more) (found.locals number) (map (renamed_value s) (params ++ own))) where
  pub given : (p id : ℕ) → slice_get args p ≡ Some id → (ty : ValType) × (slice_get (map (renamed_value s) params) p ≡ Some ty) × (type_of_local locals id ≡ Some ty)
  given p id e =
      let within : p < length args = slice_get_within args p id e in
      let lt : p < length params = omega (arith, within, many) in
      let l = locals_at locals (replicate (length params) true ++ more) (found.locals number) (map (renamed_value s) (params ++ own)) typed p (all_at (length params) p more lt) in
      let named : Some id ≡ option_map (naming found number Locals) (Some (0 + p)) =
      sym (get_first args rest p id e) ∙ ap (λ (xs : List ℕ). slice_get xs p) are ∙ slice_get-map (naming found number Locals) (range_with_len 0 (length params) ++ numbers) p
      ∙ ap (option_map (naming found number Locals)) (range_at 0 (length params) p numbers lt) in
      let same : id ≡ l.0 = same_Some id (naming found number Locals (0 + p)) named ∙ ap (naming found number Locals) (let z : 0 + p ≡ p = omega arith in z) ∙ ap (λ (o : Option ℕ). unwrap_or o p) l.2 in
      (l.1, sym (front_map (renamed_value s) params own p lt) ∙ l.3, ap (type_of_local locals) same ∙ ap (option_map (λ (x : Local). x.ty)) l.4.there ∙ ap (λ (t : ValType). Some t) l.4.type_is)
