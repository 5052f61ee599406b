-- Lemmas: the locals of the functions of a module that was read, each under an id of its own.
use Rattle.std.specs.Prelude.{ℕ, zero, suc, ◌≡◌, ◌≢◌, ◌⊎◌, ◌<◌, ◌+◌, ◌==◌, Bool, true, false, List, [], ◌∷◌, ◌++◌, length, map, replicate, Option, Some, None, slice_get, slice_index_or, slice_set, All, refl, if◌then◌else◌}
use Rattle.std.specs.List.{AllZip}
use Rattle.std.specs.Option.{option_and_then, option_map}
use Rattle.std.proofs.Common.{ap, sym, subst, ◌∙◌, arith, inl, inr}
use Rattle.std.proofs.lemmas.Bool.{eq-eqb, eqb-true}
use Rattle.std.proofs.lemmas.List.{append_assoc, length-append, length-map, map-append}
use Rattle.std.proofs.lemmas.List.Elements.{All-head, All-tail}
use Rattle.std.proofs.lemmas.Option.{slice_get-map}
use Rattle.walrus_arena.specs.Arena.{Arena}
use Rattle.walrus_named_bodies.specs.walrus_file_bodies.walrus_items_into.walrus_module_env.walrus_handler_types.walrus_body_steps.wasm_body_grammar.wasm_grammar.walrus_forms.Forms.{Form, FunctionForm, StructForm, ArrayForm, params_of}
use Rattle.walrus_named_bodies.specs.walrus_file_bodies.walrus_items_into.walrus_module_env.walrus_handler_types.walrus_body_steps.wasm_body_grammar.wasm_grammar.walrus_forms.Kinds.{Kind}
use Rattle.walrus_named_bodies.specs.walrus_file_bodies.walrus_items_into.walrus_module_env.walrus_handler_types.walrus_body_steps.wasm_body_grammar.wasm_grammar.walrus_forms.Renaming.{at, renamed_form, renamed_kind, renamed_value}
use Rattle.walrus_named_bodies.specs.walrus_file_bodies.walrus_items_into.walrus_module_env.walrus_handler_types.walrus_body_steps.wasm_body_grammar.wasm_grammar.walrus_forms.declared.value.ValType.{ValType}
use Rattle.walrus_named_bodies.specs.walrus_item_names.walrus_module.walrus_types.walrus_items.declared.local.Local.{Local}
use Rattle.walrus_named_bodies.specs.walrus_file_bodies.walrus_items_into.walrus_module_env.walrus_handler_types.walrus_tree.walrus_walks.walrus_types.Items.{Item}
use Rattle.walrus_named_bodies.specs.walrus_item_names.walrus_module.walrus_types.Table.{Table, type_at}
use Rattle.walrus_function_types.specs.Growth.{EntryTypesGrow, FoundTypesStay, Grows, TablesGrowOn}
use Rattle.walrus_named_bodies.specs.walrus_file_bodies.walrus_items_into.walrus_module_env.walrus_handler_types.walrus_body_steps.wasm_body_grammar.Bodies.{Parts, body_of, declared}
use Rattle.walrus_named_bodies.specs.walrus_file_bodies.walrus_items_into.walrus_module_env.walrus_handler_types.walrus_body_steps.wasm_body_grammar.Codes.{ReadsCodes}
use Rattle.walrus_named_bodies.specs.walrus_file_bodies.walrus_items_into.walrus_module_env.walrus_handler_types.walrus_body_steps.wasm_body_grammar.Laws.{BodiesReadOnce, ReadsBody}
use Rattle.walrus_named_bodies.specs.walrus_file_bodies.walrus_items_into.walrus_module_env.walrus_handler_types.walrus_body_steps.wasm_body_grammar.Rules.{Around}
use Rattle.walrus_named_bodies.specs.walrus_file_bodies.walrus_items_into.walrus_module_env.walrus_handler_types.walrus_body_steps.wasm_body_grammar.wasm_formats.Formats.{Small}
use Rattle.walrus_named_bodies.specs.walrus_file_bodies.walrus_items_into.walrus_module_env.walrus_handler_types.walrus_body_steps.wasm_body_grammar.wasm_formats.wasm_features.declared.WasmFeatures.{WasmFeatures}
use Rattle.walrus_named_bodies.specs.walrus_file_bodies.walrus_items_into.walrus_module_env.walrus_handler_types.walrus_body_steps.wasm_body_grammar.wasm_grammar.Modules as grammar
use Rattle.walrus_named_bodies.specs.walrus_file_bodies.walrus_items_into.walrus_module_env.walrus_handler_types.walrus_body_steps.wasm_body_grammar.wasm_operators.Operators.{Seen}
use Rattle.walrus_named_bodies.specs.walrus_file_bodies.walrus_items_into.wasm_sections.Within.{ChunksFit}
use Rattle.walrus_named_bodies.specs.walrus_file_bodies.walrus_items_into.walrus_tables_into.walrus_sections_into.walrus_known_sections.Items.{chunk_of}
use Rattle.walrus_named_bodies.specs.walrus_file_bodies.walrus_module_bodies.declared.file.FileEnv.{FileEnv}
use Rattle.walrus_named_bodies.specs.walrus_file_bodies.walrus_items_into.walrus_module_bodies.walrus_body_trees.walrus_meaning.walrus_module.walrus_builder.Built.{contents}
use Rattle.walrus_named_bodies.specs.walrus_item_names.walrus_module.walrus_module_items.declared.function.FunctionKind.TheVariants as kinds
use Rattle.walrus_named_bodies.specs.walrus_item_names.Names.{bare_function, bare_local, bare_type}
use Rattle.walrus_function_types.specs.FunctionTypes.{form_params, params_at}
use Rattle.walrus_named_bodies.specs.walrus_file_bodies.walrus_items_into.walrus_module_bodies.walrus_body_trees.walrus_meaning.walrus_local_function.walrus_body_locals.Locals.{Adds, AddsKept, ids_from, kept_ids, locals_from, with_locals, with_more}
use Rattle.walrus_named_bodies.specs.walrus_file_bodies.walrus_items_into.walrus_module_bodies.walrus_body_trees.walrus_meaning.walrus_local_function.walrus_body_locals.Named.{kept_by, kept_of}
use Rattle.walrus_parse_laws.specs.Means.{AreApart, AreLocals, LocalIs, has_local}
use Rattle.walrus_parse_laws.proofs.LocalsStepLemmas.{operators_of}
use Rattle.walrus_parse_laws.proofs.RankLemmas.{flag, flag_below, rank, rank_all, rank_rises, rank_same}
use Rattle.walrus_named_bodies.specs.walrus_item_names.walrus_module.walrus_module_items.declared.function.Function.{Function}
use Rattle.walrus_named_bodies.specs.walrus_file_bodies.walrus_items_into.walrus_functions_into.declared.bodies.FunctionBody.{FunctionBody}
use Rattle.walrus_body_laws.specs.walrus_pairing.walrus_index_maps.Maps.{Ids}
use Rattle.walrus_body_laws.specs.walrus_pairing.walrus_index_maps.Runs.{nowhere}
use Rattle.walrus_named_bodies.specs.walrus_file_bodies.walrus_module_bodies.Steps.{IsStep, State, Steps}
use Rattle.walrus_parse_laws.proofs.BodiesSlotLemmas.{NoneOf, set_cases}
use Rattle.walrus_named_bodies.specs.walrus_file_bodies.Read.{Waits, coded_by, env_is, env_of, grows_none, others_keep, read_body_reads, step_filed, step_on}
use Rattle.walrus_named_bodies.specs.walrus_item_names.walrus_module.walrus_module_items.Functions.{type_of}

pub some_is : {A : Type 0} (x y : A) → Some x ≡ Some y → x ≡ y
some_is x y e = cc

-- ---- locals of these types under these ids

get_front : {A : Type 0} (xs ys : List A) (n : ℕ) (x : A) → slice_get xs n ≡ Some x → slice_get (xs ++ ys) n ≡ Some x
get_front [] ys n x e = absurd cc
get_front (y ∷ xs) ys zero x e = e
get_front (y ∷ xs) ys (suc n) x e = get_front xs ys n x e

get_behind : {A : Type 0} (xs ys : List A) (n : ℕ) (x : A) → length xs ≡ n → slice_get (xs ++ x ∷ ys) n ≡ Some x
get_behind [] ys zero x e = refl
get_behind [] ys (suc n) x e = absurd (omega (arith, e))
get_behind (y ∷ xs) ys zero x e = absurd (omega (arith, e))
get_behind (y ∷ xs) ys (suc n) x e = get_behind xs ys n x (omega (arith, e))

are_all : (ls ms : List Local) → ((id : ℕ) (ty : ValType) → LocalIs ls id ty → LocalIs ms id ty) → (ks : List Bool) (ids : List ℕ) (tys : List ValType) → AreLocals ls ks ids tys → AreLocals ms ks ids tys
are_all ls ms f [] ids tys h = h
are_all ls ms f (k ∷ ks) [] tys h = absurd h
are_all ls ms f (k ∷ ks) (id ∷ ids) [] h = absurd h
are_all ls ms f (true ∷ ks) (id ∷ ids) (ty ∷ tys) h = (f id ty h.0, are_all ls ms f ks ids tys h.1)
are_all ls ms f (false ∷ ks) (id ∷ ids) (ty ∷ tys) h = (h.0, are_all ls ms f ks ids tys h.1)

-- with more behind them
are_later : (ls more ms : List Local) → ms ≡ ls ++ more → (ks : List Bool) (ids : List ℕ) (tys : List ValType) → AreLocals ls ks ids tys → AreLocals ms ks ids tys
are_later ls more ms e = are_all ls ms (λ id ty h. record { local = h.local; there = ap (λ (l : List Local). slice_get l id) e ∙ get_front ls more id h.local h.there; own_id = h.own_id; type_is = h.type_is })

are_joined : (ls : List Local) (ks js : List Bool) (ids more : List ℕ) (tys others : List ValType) → AreLocals ls ks ids tys → AreLocals ls js more others → AreLocals ls (ks ++ js) (ids ++ more) (tys ++ others)
are_joined ls [] js ids more tys others h k =
    subst (λ (l : List ℕ). AreLocals ls js (l ++ more) (tys ++ others)) (sym h.0) (subst (λ (l : List ValType). AreLocals ls js more (l ++ others)) (sym h.1) k)
are_joined ls (x ∷ ks) js [] more tys others h k = absurd h
are_joined ls (x ∷ ks) js (id ∷ ids) more [] others h k = absurd h
are_joined ls (x ∷ ks) js (id ∷ ids) more (ty ∷ tys) others h k = (h.0, are_joined ls ks js ids more tys others h.1 k)

new_are : (ks : List Bool) (tys : List ValType) (first : ℕ) (before : List Local) → length ks ≡ length tys → length before ≡ first
    → AreLocals (before ++ locals_from first (kept_of ks tys)) ks (kept_ids first ks) tys
new_are [] [] first before many e = (refl, refl)
new_are [] (ty ∷ tys) first before many e = absurd (omega (arith, many))
new_are (k ∷ ks) [] first before many e = absurd (omega (arith, many))
new_are (true ∷ ks) (ty ∷ tys) first before many e =
    let l : Local = record { id = first; ty = ty; name = None } in
    let size : length (before ++ l ∷ []) ≡ suc first = length-append before (l ∷ []) ∙ (let z : length before + 1 ≡ suc first = omega (arith, e) in z) in (
      record { local = l; there = get_behind before (locals_from (suc first) (kept_of ks tys)) first l e; own_id = refl; type_is = refl },
      subst (λ (ls : List Local). AreLocals ls ks (kept_ids (suc first) ks) tys) (append_assoc before (l ∷ []) (locals_from (suc first) (kept_of ks tys)))
          (new_are ks tys (suc first) (before ++ l ∷ []) (omega (arith, many)) size),
    )
new_are (false ∷ ks) (ty ∷ tys) first before many e = (refl, new_are ks tys first before (omega (arith, many)) e)

added_are : (function : ℕ) (kept : List Bool) (tys : List ValType) (ls ms : List Local) (i j : Ids) → AddsKept function kept tys ls ms i j → AreLocals ms kept (kept_ids (length ls) kept) tys
added_are function kept tys ls ms i j h = subst (λ (l : List Local). AreLocals l kept (kept_ids (length ls) kept) tys) (sym h.added) (new_are kept tys (length ls) ls h.many refl)

-- all of them are kept
all_kept : (tys : List ValType) → kept_of (replicate (length tys) true) tys ≡ tys
all_kept [] = refl
all_kept (ty ∷ tys) = ap (λ (l : List ValType). ty ∷ l) (all_kept tys)

all_ids : (id : ℕ) (tys : List ValType) → ids_from id tys ≡ kept_ids id (replicate (length tys) true)
all_ids id [] = refl
all_ids id (ty ∷ tys) = ap (λ (l : List ℕ). id ∷ l) (all_ids (suc id) tys)

all_many : (n : ℕ) → length (replicate n true) ≡ n
all_many zero = refl
all_many (suc n) = ap suc (all_many n)

pub adds_all : (function : ℕ) (tys : List ValType) (ls ms : List Local) (i j : Ids) → Adds function tys ls ms i j → AddsKept function (replicate (length tys) true) tys ls ms i j
adds_all function tys ls ms i j h = record {
  many = all_many (length tys);
  added = h.added ∙ ap (λ (l : List ValType). ls ++ locals_from (length ls) l) (sym (all_kept tys));
  named = h.named ∙ ap (λ (l : List ℕ). with_locals function l i) (all_ids (length ls) tys);
}

-- names aside
local_bare : (ls ms : List Local) → map bare_local ls ≡ map bare_local ms → (id : ℕ) (ty : ValType) → LocalIs ls id ty → LocalIs ms id ty
local_bare ls ms e id ty h =
    by (slice_get ms id) refl (sym (slice_get-map bare_local ms id) ∙ ap (λ (l : List Local). slice_get l id) (sym e) ∙ slice_get-map bare_local ls id ∙ ap (option_map bare_local) h.there)
  where
    by : (o : Option Local) → slice_get ms id ≡ o → option_map bare_local o ≡ Some (bare_local h.local) → LocalIs ms id ty
    by None there same = absurd cc
    by (Some m) there same =
        let one : bare_local m ≡ bare_local h.local = some_is (bare_local m) (bare_local h.local) same in
        record { local = m; there = there; own_id = ap (λ (l : Local). l.id) one ∙ h.own_id; type_is = ap (λ (l : Local). l.ty) one ∙ h.type_is }

pub are_bare : (ls ms : List Local) → map bare_local ls ≡ map bare_local ms → (ks : List Bool) (ids : List ℕ) (tys : List ValType) → AreLocals ls ks ids tys → AreLocals ms ks ids tys
are_bare ls ms e = are_all ls ms (local_bare ls ms e)

-- ---- no two locals are one id

pub record AreFresh (ls : List Local) (i : Ids) : Type 0 where
  pub below : (f n id : ℕ) → id ≢ nowhere → slice_get (i.locals f) n ≡ Some id → id < length ls
  pub apart : AreApart i

-- before any body is read
pub none_fresh : {i : Ids} → i.locals ≡ (λ (function : ℕ). (let none : List ℕ = [] in none)) → AreFresh [] i
none_fresh {i} none = record {
  below = λ f n id named e. let z : slice_get (let l : List ℕ = [] in l) n ≡ Some id = sym (ap (λ (locals : ℕ → List ℕ). slice_get (locals f) n) none) ∙ e in absurd cc;
  apart = λ f g n k id named e d. let z : slice_get (let l : List ℕ = [] in l) n ≡ Some id = sym (ap (λ (locals : ℕ → List ℕ). slice_get (locals f) n) none) ∙ e in absurd cc;
}

-- it is the id of one of those that are kept, behind those that were there
abbrev IsBehind : List ℕ → ℕ → List Bool → ℕ → ℕ → Type 0
IsBehind own first ks n id = (k : ℕ) × (n ≡ length own + k) × (id ≡ first + rank k ks) × (flag ks k ≡ true)

pub get_id : (ks : List Bool) (first n id : ℕ) → id ≢ nowhere → slice_get (kept_ids first ks) n ≡ Some id → (id ≡ first + rank n ks) × (flag ks n ≡ true)
get_id [] first n id named e = absurd cc
get_id (true ∷ ks) first zero id named e = let same : first ≡ id = some_is first id e in (omega (arith, same), refl)
get_id (false ∷ ks) first zero id named e = absurd (named (sym (some_is nowhere id e)))
get_id (true ∷ ks) first (suc n) id named e = let r = get_id ks (suc first) n id named e in let p = r.0 in (omega (arith, p), r.1)
get_id (false ∷ ks) first (suc n) id named e = let r = get_id ks first n id named e in let p = r.0 in (omega (arith, p), r.1)

get_either : (own : List ℕ) (first : ℕ) (ks : List Bool) (n id : ℕ) → id ≢ nowhere → slice_get (own ++ kept_ids first ks) n ≡ Some id → (slice_get own n ≡ Some id) ⊎ IsBehind own first ks n id
get_either [] first ks n id named e = let r = get_id ks first n id named e in inr (n, omega arith, r.0, r.1)
get_either (x ∷ own) first ks zero id named e = inl e
get_either (x ∷ own) first ks (suc n) id named e = elim (get_either own first ks n id named e) as (λ _. (slice_get (x ∷ own) (suc n) ≡ Some id) ⊎ IsBehind (x ∷ own) first ks (suc n) id) [
  | inl h ↦ inl h
  | inr h ↦ let p = h.1 in inr (h.0, omega (arith, p), h.2, h.3)
]

more_either : (function first : ℕ) (ks : List Bool) (locals : ℕ → List ℕ) (f n id : ℕ) → id ≢ nowhere → slice_get (with_more function (kept_ids first ks) locals f) n ≡ Some id
    → (slice_get (locals f) n ≡ Some id) ⊎ ((f ≡ function) × IsBehind (locals f) first ks n id)
more_either function first ks locals f n id named e = by (f == function) refl e
  where
    by : (b : Bool) → (f == function) ≡ b → slice_get (if b then locals f ++ kept_ids first ks else locals f) n ≡ Some id → (slice_get (locals f) n ≡ Some id) ⊎ ((f ≡ function) × IsBehind (locals f) first ks n id)
    by true same e = elim (get_either (locals f) first ks n id named e) as (λ _. (slice_get (locals f) n ≡ Some id) ⊎ ((f ≡ function) × IsBehind (locals f) first ks n id)) [
      | inl h ↦ inl h
      | inr h ↦ inr (eqb-true f function same, h)
    ]
    by false same e = inl e

many_from : (first : ℕ) (tys : List ValType) → length (locals_from first tys) ≡ length tys
many_from first [] = refl
many_from first (ty ∷ tys) = ap suc (many_from (suc first) tys)

pub fresh_on : (function : ℕ) (kept : List Bool) (tys : List ValType) (ls ms : List Local) (i j : Ids) → AddsKept function kept tys ls ms i j → AreFresh ls i → AreFresh ms j
fresh_on function kept tys ls ms i j h old =
    let total : length ms ≡ length ls + rank (length kept) kept =
    ap length h.added ∙ length-append ls (locals_from (length ls) (kept_of kept tys)) ∙ ap (λ (n : ℕ). length ls + n) (many_from (length ls) (kept_of kept tys) ∙ sym (rank_all kept tys h.many)) in
    record {
      below = λ f n id named e. elim (either f n id named e) as (λ _. id < length ms) [
        | inl was ↦ let lt = old.below f n id named was in omega (arith, lt, total)
        | inr r ↦
            let same = r.1.2 in
            let less = rank_rises kept r.1.0 (length kept) (flag_below kept r.1.0 r.1.3) r.1.3 in
            omega (arith, same, less, total)
      ];
      apart = λ f g n k id named e d. elim (either f n id named e) as (λ _. (f ≡ g) × (n ≡ k)) [
        | inl was ↦ elim (either g k id named d) as (λ _. (f ≡ g) × (n ≡ k)) [
          | inl too ↦ old.apart f g n k id named was too
          | inr r ↦ let lt = old.below f n id named was in let same = r.1.2 in absurd (omega (arith, lt, same))
        ]
        | inr p ↦ elim (either g k id named d) as (λ _. (f ≡ g) × (n ≡ k)) [
          | inl too ↦ let lt = old.below g k id named too in let same = p.1.2 in absurd (omega (arith, lt, same))
          | inr r ↦
              let function_same : f ≡ g = p.0 ∙ sym r.0 in
              let own : length (i.locals f) ≡ length (i.locals g) = ap (λ (x : ℕ). length (i.locals x)) function_same in
              let b = p.1.2 in let z = r.1.2 in
              let place : p.1.0 ≡ r.1.0 = rank_same kept p.1.0 r.1.0 p.1.3 r.1.3 (omega (arith, b, z)) in
              let a = p.1.1 in let c = r.1.1 in
              (function_same, omega (arith, own, a, c, place))
        ]
      ];
    }
  where
    either : (f n id : ℕ) → id ≢ nowhere → slice_get (j.locals f) n ≡ Some id → (slice_get (i.locals f) n ≡ Some id) ⊎ ((f ≡ function) × IsBehind (i.locals f) (length ls) kept n id)
    either f n id named e = more_either function (length ls) kept i.locals f n id named (ap (λ (x : Ids). slice_get (x.locals f) n) (sym h.named) ∙ e)

-- ---- the function of a body, once it is read

pub record IsGiven (s : State) (n : ℕ) (x : grammar.Body) : Type 0 where
  pub function : Function
  pub there : slice_index_or s.functions.slots n None ≡ Some function
  pub params : List ValType
  pub params_are : params_at s.types (type_of function.kind) ≡ Some params
  pub locals : AreLocals s.locals (has_local s.ids.all_locals (length params) x) (s.ids.locals n) (params ++ map (renamed_value (at s.ids.types)) x.locals)

params_stay : FoundTypesStay → (old new : Table) (ty : ℕ) (ps : List ValType) → Grows old new → params_at old ty ≡ Some ps → params_at new ty ≡ Some ps
params_stay stay old new ty ps grows e = go (type_at old ty) refl e
  where
    go : (o : Option Item) → type_at old ty ≡ o → option_and_then (λ (item : Item). form_params item.kind.form) o ≡ Some ps → params_at new ty ≡ Some ps
    go None live e = absurd cc
    go (Some item) live e = ap (option_and_then (λ (item : Item). form_params item.kind.form)) ((stay old new grows).live ty item live) ∙ e

pub own_slot : (slots : List (Option Function)) (k : ℕ) (x y : Function) → slice_index_or slots k None ≡ Some x → slice_index_or (slice_set slots k (Some y)) k None ≡ Some y
own_slot slots k x y at = elim (set_cases slots k k x y at) as (λ _. slice_index_or (slice_set slots k (Some y)) k None ≡ Some y) [
  | inl h ↦ h.1
  | inr h ↦ absurd (h.0 refl)
]

pub other_slot : (slots : List (Option Function)) (k n : ℕ) (x y : Function) → slice_index_or slots k None ≡ Some x → k ≢ n → slice_index_or (slice_set slots k (Some y)) n None ≡ slice_index_or slots n None
other_slot slots k n x y at apart = elim (set_cases slots k n x y at) as (λ _. slice_index_or (slice_set slots k (Some y)) n None ≡ slice_index_or slots n None) [
  | inl h ↦ absurd (apart (sym h.0))
  | inr h ↦ h.1
]

own_more : (function : ℕ) (ids : List ℕ) (locals : ℕ → List ℕ) → with_more function ids locals function ≡ locals function ++ ids
own_more function ids locals = ap (λ (b : Bool). if b then locals function ++ ids else locals function) (eq-eqb function function refl)

-- the locals that the body declares and that are kept are added behind those of the arguments
module _ (stay : FoundTypesStay) (file : FileEnv) (features : WasmFeatures) (b : FunctionBody) (old new : State) (s : IsStep file features b old new) (kept : List Bool) (tys : List ValType)
    (adds : AddsKept b.number kept tys s.named new.locals s.numbered new.ids) where
  abbrev given : Function
  given = record s.item { kind = kinds.Local s.body }

  abbrev arguments : AddsKept b.number (replicate (length s.params) true) s.params old.locals s.named old.ids s.numbered
  arguments = adds_all b.number s.params old.locals s.named old.ids s.numbered s.arguments

  types_same : new.ids.types ≡ old.ids.types
  types_same = ap (λ (i : Ids). i.types) adds.named ∙ ap (λ (i : Ids). i.types) s.arguments.named

  wanted_same : new.ids.all_locals ≡ old.ids.all_locals
  wanted_same = ap (λ (i : Ids). i.all_locals) adds.named ∙ ap (λ (i : Ids). i.all_locals) s.arguments.named

  step_fresh : AreFresh old.locals old.ids → AreFresh new.locals new.ids
  step_fresh h = fresh_on b.number kept tys s.named new.locals s.numbered new.ids adds (fresh_on b.number (replicate (length s.params) true) s.params old.locals s.named old.ids s.numbered arguments h)

  step_given : (x : grammar.Body) → old.ids.locals b.number ≡ [] → tys ≡ map (renamed_value (at new.ids.types)) x.locals
      → kept ≡ kept_by new.ids.all_locals (length s.params) (length x.locals) (map (λ (o : grammar.Placed). o.op) x.operators) → IsGiven new b.number x
  step_given x none are kept_are =
      let first : s.numbered.locals b.number ≡ kept_ids (length old.locals) (replicate (length s.params) true) =
      ap (λ (i : Ids). i.locals b.number) arguments.named ∙ own_more b.number (kept_ids (length old.locals) (replicate (length s.params) true)) old.ids.locals
      ∙ ap (λ (l : List ℕ). l ++ kept_ids (length old.locals) (replicate (length s.params) true)) none in
      let all : new.ids.locals b.number ≡ kept_ids (length old.locals) (replicate (length s.params) true) ++ kept_ids (length s.named) kept =
      ap (λ (i : Ids). i.locals b.number) adds.named ∙ own_more b.number (kept_ids (length s.named) kept) s.numbered.locals ∙ ap (λ (l : List ℕ). l ++ kept_ids (length s.named) kept) first in
      let given_are = are_later s.named (locals_from (length s.named) (kept_of kept tys)) new.locals adds.added (replicate (length s.params) true) (kept_ids (length old.locals) (replicate (length s.params) true)) s.params
      (added_are b.number (replicate (length s.params) true) s.params old.locals s.named old.ids s.numbered arguments) in
      let both = are_joined new.locals (replicate (length s.params) true) kept (kept_ids (length old.locals) (replicate (length s.params) true)) (kept_ids (length s.named) kept) s.params tys given_are
      (added_are b.number kept tys s.named new.locals s.numbered new.ids adds) in
      let ids_so = subst (λ (ids : List ℕ). AreLocals new.locals (replicate (length s.params) true ++ kept) ids (s.params ++ tys)) (sym all) both in
      let kept_so = subst (λ (ks : List Bool). AreLocals new.locals (replicate (length s.params) true ++ ks) (new.ids.locals b.number) (s.params ++ tys)) kept_are ids_so in
      record {
        function = given;
        there = ap (λ (z : Arena Function). slice_index_or z.slots b.number None) s.given ∙ own_slot old.functions.slots b.number s.item given s.was;
        params = s.params;
        params_are = ap (params_at new.types) s.ty_is ∙ params_stay stay old.types new.types (type_of s.item.kind) s.params s.grown s.params_are;
        locals = subst (λ (l : List ValType). AreLocals new.locals (has_local new.ids.all_locals (length s.params) x) (new.ids.locals b.number) (s.params ++ l)) are kept_so;
      }

  -- that of another body stays
  given_on : (n : ℕ) (x : grammar.Body) → b.number ≢ n → IsGiven old n x → IsGiven new n x
  given_on n x apart h =
      let other : n ≢ b.number = λ e. apart (sym e) in
      let own : new.ids.locals n ≡ old.ids.locals n =
      ap (λ (i : Ids). i.locals n) adds.named ∙ others_keep b.number (kept_ids (length s.named) kept) s.numbered.locals n other
      ∙ ap (λ (i : Ids). i.locals n) s.arguments.named ∙ others_keep b.number (ids_from (length old.locals) s.params) old.ids.locals n other in
      let want = h.params ++ map (renamed_value (at old.ids.types)) x.locals in
      let has = has_local old.ids.all_locals (length h.params) x in
      let mid = are_later old.locals (locals_from (length old.locals) s.params) s.named s.arguments.added has (old.ids.locals n) want h.locals in
      let later = are_later s.named (locals_from (length s.named) (kept_of kept tys)) new.locals adds.added has (old.ids.locals n) want mid in
      let wanted = subst (λ (c : Bool). AreLocals new.locals (has_local c (length h.params) x) (old.ids.locals n) want) (sym wanted_same) later in
      record {
        function = h.function;
        there = ap (λ (z : Arena Function). slice_index_or z.slots n None) s.given ∙ other_slot old.functions.slots b.number n s.item given s.was apart ∙ h.there;
        params = h.params;
        params_are = params_stay stay old.types new.types (type_of h.function.kind) h.params s.grown h.params_are;
        locals = subst (λ (ids : List ℕ). AreLocals new.locals (has_local new.ids.all_locals (length h.params) x) (new.ids.locals n) (h.params ++ map (renamed_value (at ids)) x.locals)) (sym types_same)
            (subst (λ (ids : List ℕ). AreLocals new.locals (has_local new.ids.all_locals (length h.params) x) ids want) (sym own) wanted);
      }

-- ---- all bodies, one behind another

pub none_of : (n : ℕ) (bs : List FunctionBody) → All (λ (b : FunctionBody). b.number ≢ n) bs → NoneOf n bs
none_of n [] h = tt
none_of n (b ∷ bs) h =
    let other : FunctionBody → Type 0 = λ d. d.number ≢ n in
    (All-head other b bs h, none_of n bs (All-tail other b bs h))

module _ (stay : FoundTypesStay) (on : TablesGrowOn) (enter : EntryTypesGrow) (once : BodiesReadOnce) (file : FileEnv) (features : WasmFeatures) (a : Around) (count : ℕ → ℕ) where
  -- what a body declares, and which of that is kept
  record Declares (b : FunctionBody) (old new : State) (s : IsStep file features b old new) : Type 0 where
    pub kept : List Bool
    pub tys : List ValType
    pub adds : AddsKept b.number kept tys s.named new.locals s.numbered new.ids
    pub are : (x : grammar.Body) → ReadsBody a (count b.number) b.chunk.place b.chunk.bytes.now x → tys ≡ map (renamed_value (at new.ids.types)) x.locals
    pub kept_are : (x : grammar.Body) → ReadsBody a (count b.number) b.chunk.place b.chunk.bytes.now x
        → kept ≡ kept_by new.ids.all_locals (length s.params) (length x.locals) (map (λ (o : grammar.Placed). o.op) x.operators)

  step_declares : (b : FunctionBody) (bs : List FunctionBody) (old new : State) → Small b.chunk.bytes.now → Waits file features a count old (b ∷ bs) → (s : IsStep file features b old new) → Declares b old new s
  step_declares b bs old new small w s =
      let e = env_of file new.types in
      let it = s.read (env_of file s.mid) e new.types (env_is file s.mid) (grows_none new.types) (env_is file new.types) a (step_filed stay on enter file features a count b bs old new w s (env_of file s.mid) (env_is file s.mid)) in
      let parts : Parts = ((it.0.place, it.0.runs), it.0.ops) in
      let counted = w.counted b.number s.item s.was in
      let params : s.params ≡ counted.0 = some_is s.params counted.0 (sym s.params_are ∙ counted.1) in
      let many : length s.params ≡ count b.number = ap length params ∙ counted.2 in
      let own_reads = read_body_reads stay on enter file features a count b e (length s.params) new.ids (contents s.body.builder.builder) it.0 refl small in
      let same : (x : grammar.Body) → ReadsBody a (count b.number) b.chunk.place b.chunk.bytes.now x → body_of parts ≡ x = λ x reads.
      once a (length s.params) b.chunk.place b.chunk.bytes.now (body_of parts) x own_reads (subst (λ (n : ℕ). ReadsBody a n b.chunk.place b.chunk.bytes.now x) (sym many) reads) in
      let seen = map (λ (y : ℕ × Seen). y.1) it.0.ops in
      record {
        kept = kept_by s.numbered.all_locals (length s.params) (length (declared it.0.runs)) seen;
        tys = map (renamed_value (at s.numbered.types)) (declared it.0.runs);
        adds = it.2;
        are = λ x reads.
            ap (λ (z : grammar.Body). map (renamed_value (at s.numbered.types)) z.locals) (same x reads)
            ∙ ap (λ (ids : List ℕ). map (renamed_value (at ids)) x.locals) (sym (ap (λ (i : Ids). i.types) it.2.named));
        kept_are = λ x reads.
            ap (λ (c : Bool). kept_by c (length s.params) (length (declared it.0.runs)) seen) (sym (ap (λ (i : Ids). i.all_locals) it.2.named))
            ∙ ap (kept_by new.ids.all_locals (length s.params) (length (declared it.0.runs))) (sym (operators_of it.0.place it.0.ops))
            ∙ ap (λ (z : grammar.Body). kept_by new.ids.all_locals (length s.params) (length z.locals) (map (λ (o : grammar.Placed). o.op) z.operators)) (same x reads);
      }

  given_later : (n : ℕ) (x : grammar.Body) (start end : ℕ) (bs : List FunctionBody) (old final : State) → ChunksFit start end (map (λ (b : FunctionBody). chunk_of b.chunk) bs) → Waits file features a count old bs → NoneOf n bs
      → Steps file features bs old final → IsGiven old n x → IsGiven final n x
  given_later n x start end [] old final fit w none e h = subst (λ (s : State). IsGiven s n x) (sym e) h
  given_later n x start end (b ∷ bs) old final fit w none (mid, s, rest) h =
      let d = step_declares b bs old mid fit.0.0 w s in
      given_later n x start end bs mid final fit.1 (step_on stay on enter file features a count b bs old mid w s) none.1 rest (given_on stay file features b old mid s d.kept d.tys d.adds n x none.0 h)

  pub all_fresh : (start end : ℕ) (bs : List FunctionBody) (old final : State) → ChunksFit start end (map (λ (b : FunctionBody). chunk_of b.chunk) bs) → Waits file features a count old bs → Steps file features bs old final
      → AreFresh old.locals old.ids → AreFresh final.locals final.ids
  all_fresh start end [] old final fit w e h = subst (λ (s : State). AreFresh s.locals s.ids) (sym e) h
  all_fresh start end (b ∷ bs) old final fit w (mid, s, rest) h =
      let d = step_declares b bs old mid fit.0.0 w s in
      all_fresh start end bs mid final fit.1 (step_on stay on enter file features a count b bs old mid w s) rest (step_fresh stay file features b old mid s d.kept d.tys d.adds h)

  pub all_given : (start end : ℕ) (bs : List FunctionBody) (xs : List grammar.Body) (old final : State) → ChunksFit start end (map (λ (b : FunctionBody). chunk_of b.chunk) bs) → Waits file features a count old bs
      → ReadsCodes a (map (coded_by count) bs) xs → Steps file features bs old final → AllZip (λ (b : FunctionBody) (x : grammar.Body). IsGiven final b.number x) bs xs
  all_given start end [] [] old final fit w reads steps = tt
  all_given start end [] (x ∷ xs) old final fit w reads steps = absurd reads
  all_given start end (b ∷ bs) [] old final fit w reads steps = absurd reads
  all_given start end (b ∷ bs) (x ∷ xs) old final fit w reads (mid, s, rest) =
      let d = step_declares b bs old mid fit.0.0 w s in
      let none = All-head (λ (c : FunctionBody). old.ids.locals c.number ≡ []) b bs w.no_locals in
      let next = step_on stay on enter file features a count b bs old mid w s in
      let own = step_given stay file features b old mid s d.kept d.tys d.adds x none (d.are x reads.0) (d.kept_are x reads.0) in (
        given_later b.number x start end bs mid final fit.1 next (none_of b.number bs w.apart.0) rest own,
        all_given start end bs xs mid final fit.1 next reads.1 rest,
      )

-- ---- parameters of a type that stands there

form_types : (r : ℕ → ℕ) (form : Form) (ps : List ValType) → form_params (renamed_form r form) ≡ Some ps → ps ≡ map (renamed_value r) (params_of form)
form_types r (FunctionForm params results) ps e = sym (some_is (map (renamed_value r) params) ps e)
form_types r (StructForm fields) ps e = absurd cc
form_types r (ArrayForm field) ps e = absurd cc

pub types_given : (r : ℕ → ℕ) (o : Option Item) (item : Item) (kind : Kind) (ps : List ValType) → o ≡ Some item → item.kind ≡ renamed_kind r kind → option_and_then (λ (item : Item). form_params item.kind.form) o ≡ Some ps
    → ps ≡ map (renamed_value r) (params_of kind.form)
types_given r o item kind ps there is e =
    form_types r kind.form ps
    (ap (λ (k : Kind). form_params k.form) (sym is) ∙ ap (option_and_then (λ (item : Item). form_params item.kind.form)) (sym there) ∙ e)

-- ---- in the module, where names alone are other ones

slot_bare : {A : Type 0} (bare : A → A) (xs : List (Option A)) (n : ℕ) → slice_index_or (map (option_map bare) xs) n None ≡ option_map bare (slice_index_or xs n None)
slot_bare bare [] n = refl
slot_bare bare (x ∷ xs) zero = refl
slot_bare bare (x ∷ xs) (suc n) = slot_bare bare xs n

pub slots_bare : {A : Type 0} (bare : A → A) (xs ys : List (Option A)) (n : ℕ) → map (option_map bare) xs ≡ map (option_map bare) ys → option_map bare (slice_index_or xs n None) ≡ option_map bare (slice_index_or ys n None)
slots_bare {A} bare xs ys n e = sym (slot_bare bare xs n) ∙ ap (λ (l : List (Option A)). slice_index_or l n None) e ∙ slot_bare bare ys n

pub params_bare : (o : Option Item) → option_and_then (λ (item : Item). form_params item.kind.form) (option_map bare_type o) ≡ option_and_then (λ (item : Item). form_params item.kind.form) o
params_bare None = refl
params_bare (Some x) = refl

module _ (final : State) (found : Ids) (types : Table) (locals : List Local) (funcs : List (Option Function)) (is : found ≡ final.ids) (bare_funcs : map (option_map bare_function) funcs ≡ map (option_map bare_function) final.functions.slots)
    (bare_types : map (option_map bare_type) types.types ≡ map (option_map bare_type) final.types.types) (bare_locals : map bare_local locals ≡ map bare_local final.locals) where
  -- the locals of a function of this type
  pub owned_there : (n ty : ℕ) (function : Function) (x : grammar.Body) (kind : Kind) (item : Item) → slice_index_or funcs n None ≡ Some function → type_of function.kind ≡ ty → type_at types ty ≡ Some item → item.kind ≡ renamed_kind (at found.types) kind
      → IsGiven final n x → AreLocals locals (has_local found.all_locals (length (params_of kind.form)) x) (found.locals n) (map (renamed_value (at found.types)) (params_of kind.form ++ x.locals))
  owned_there n ty function x kind item there typed lives kind_is k =
      let slot : Some (bare_function function) ≡ Some (bare_function k.function) =
      sym (ap (option_map bare_function) there) ∙ slots_bare bare_function funcs final.functions.slots n bare_funcs ∙ ap (option_map bare_function) k.there in
      let same_kind : type_of function.kind ≡ type_of k.function.kind = ap (λ (f : Function). type_of f.kind) (some_is (bare_function function) (bare_function k.function) slot) in
      let own : params_at final.types ty ≡ Some k.params = ap (params_at final.types) (sym typed ∙ same_kind) ∙ k.params_are in
      let here : params_at types ty ≡ Some k.params =
      sym (params_bare (type_at types ty)) ∙ ap (option_and_then (λ (item : Item). form_params item.kind.form)) (slots_bare bare_type types.types final.types.types ty bare_types) ∙ params_bare (type_at final.types ty) ∙ own in
      let r : ValType → ValType = renamed_value (at found.types) in
      let params : k.params ≡ map r (params_of kind.form) = types_given (at found.types) (type_at types ty) item kind k.params lives kind_is here in
      let all : k.params ++ map (renamed_value (at final.ids.types)) x.locals ≡ map r (params_of kind.form ++ x.locals) =
      ap (λ (i : Ids). k.params ++ map (renamed_value (at i.types)) x.locals) (sym is) ∙ ap (λ (l : List ValType). l ++ map r x.locals) params ∙ sym (map-append r (params_of kind.form) x.locals) in
      let ids : final.ids.locals n ≡ found.locals n = ap (λ (i : Ids). i.locals n) (sym is) in
      let has : has_local final.ids.all_locals (length k.params) x ≡ has_local found.all_locals (length (params_of kind.form)) x =
      ap (λ (i : Ids). has_local i.all_locals (length k.params) x) (sym is)
      ∙ ap (λ (m : ℕ). has_local found.all_locals m x) (ap (λ (l : List ValType). length l) params ∙ length-map (params_of kind.form) r) in
      are_bare final.locals locals (sym bare_locals) (has_local found.all_locals (length (params_of kind.form)) x) (found.locals n) (map r (params_of kind.form ++ x.locals))
      (subst (λ (ks : List Bool). AreLocals final.locals ks (found.locals n) (map r (params_of kind.form ++ x.locals))) has
      (subst (λ (l : List ℕ). AreLocals final.locals (has_local final.ids.all_locals (length k.params) x) l (map r (params_of kind.form ++ x.locals))) ids
      (subst (AreLocals final.locals (has_local final.ids.all_locals (length k.params) x) (final.ids.locals n)) all k.locals)))
