-- Lemmas: what functions are without their bodies stays while bodies are read and names given.
use Rattle.std.specs.Prelude.{ℕ, zero, suc, ◌≡◌, ◌+◌, Bool, true, false, List, [], ◌∷◌, map, Option, Some, None, slice_index_or, slice_set, refl}
use Rattle.std.specs.Option.{option_map}
use Rattle.std.proofs.Common.{ap, sym, subst, ◌∙◌, arith}
use Rattle.walrus_named_bodies.specs.walrus_file_bodies.walrus_items_into.walrus_module_bodies.walrus_body_trees.walrus_meaning.walrus_body_writer.walrus_pairing.wasm_operators.wasm_features.declared.WasmFeatures.{WasmFeatures}
use Rattle.walrus_named_bodies.specs.walrus_file_bodies.walrus_items_into.walrus_module_bodies.walrus_body_trees.walrus_meaning.walrus_local_function.walrus_body_locals.wasm_grammar.Modules as grammar
use Rattle.walrus_named_bodies.specs.walrus_file_bodies.walrus_items_into.walrus_module_bodies.walrus_body_trees.walrus_meaning.walrus_local_function.walrus_body_locals.wasm_body_grammar.Codes.{with_bodies}
use Rattle.walrus_arena.specs.Arena.{Arena}
use Rattle.walrus_named_bodies.specs.walrus_file_bodies.walrus_items_into.walrus_functions_into.Bodies.{bodiless, bodiless_from, is_bodiless, paired, wants_body}
use Rattle.walrus_named_bodies.specs.walrus_file_bodies.walrus_items_into.walrus_functions_into.declared.bodies.FunctionBody.{FunctionBody}
use Rattle.walrus_parse_laws.specs.Renamed.{each, retyped_function}
use Rattle.walrus_named_bodies.specs.walrus_item_names.walrus_module.walrus_types.walrus_items.declared.local.Local.{Local}
use Rattle.walrus_named_bodies.specs.walrus_file_bodies.walrus_items_into.walrus_tables_into.walrus_sections_into.walrus_known_sections.declared.items.Chunk.{Chunk}
use Rattle.walrus_named_bodies.specs.walrus_file_bodies.walrus_items_into.walrus_module_bodies.walrus_body_trees.walrus_meaning.walrus_linked.Linked.{function_import}
use Rattle.walrus_named_bodies.specs.walrus_file_bodies.walrus_items_into.walrus_module_bodies.walrus_body_trees.walrus_meaning.Meaning.{own_function}
use Rattle.walrus_named_bodies.specs.walrus_file_bodies.walrus_module_bodies.Steps.{State, Steps}
use Rattle.walrus_named_bodies.specs.walrus_file_bodies.walrus_module_bodies.declared.file.FileEnv.{FileEnv}
use Rattle.walrus_named_bodies.specs.walrus_item_names.walrus_module.walrus_module_items.Functions.{type_of}
use Rattle.walrus_named_bodies.specs.walrus_item_names.walrus_module.walrus_module_items.declared.function.Function.{Function}
use Rattle.walrus_named_bodies.specs.walrus_item_names.walrus_module.walrus_module_items.declared.function.FunctionKind.{FunctionKind}
use Rattle.walrus_named_bodies.specs.walrus_item_names.walrus_module.walrus_module_items.declared.function.FunctionKind.TheVariants as kinds
use Rattle.walrus_parse_laws.specs.Items.{head_of, heads, same}

-- what a function in memory is without its body
abbrev pub head_in : Function → ℕ × Option ℕ
head_in f = (type_of f.kind, function_import f.kind)

abbrev pub heads_in : List (Option Function) → List (Option (ℕ × Option ℕ))
heads_in = map (option_map head_in)

-- ---- in memory and as it is meant

head_meant : (locals : List Local) (kind : FunctionKind) (id : ℕ) → (f : Function) → f.kind ≡ kind → head_of same (own_function locals f) ≡ head_in f
head_meant locals (kinds.Import imported) id f is = rw is refl
head_meant locals (kinds.Local local) id f is = rw is refl
head_meant locals (kinds.Uninitialized ty) id f is = rw is refl

pub heads_meant : (locals : List Local) (slots : List (Option Function)) → heads same (map (option_map (own_function locals)) slots) ≡ heads_in slots
heads_meant locals [] = refl
heads_meant locals (None ∷ slots) = ap (λ (l : List (Option (ℕ × Option ℕ))). None ∷ l) (heads_meant locals slots)
heads_meant locals (Some f ∷ slots) =
    ap (λ (h : ℕ × Option ℕ). Some h ∷ heads same (map (option_map (own_function locals)) slots)) (head_meant locals f.kind 0 f refl)
    ∙ ap (λ (l : List (Option (ℕ × Option ℕ))). Some (head_in f) ∷ l) (heads_meant locals slots)

-- ---- in the grammar

pub heads_retyped : (r : ℕ → ℕ) (fs : List (Option grammar.Function)) → heads same (each (retyped_function r) fs) ≡ heads r fs
heads_retyped r [] = refl
heads_retyped r (None ∷ fs) = ap (λ (l : List (Option (ℕ × Option ℕ))). None ∷ l) (heads_retyped r fs)
heads_retyped r (Some f ∷ fs) = ap (λ (l : List (Option (ℕ × Option ℕ))). Some (head_of r f) ∷ l) (heads_retyped r fs)

head_filled : (r : ℕ → ℕ) (ty : ℕ) (origin : grammar.Origin grammar.Body) (fs : List (Option grammar.Function)) (bodies : List grammar.Body)
    → ((later : List grammar.Body) → heads r (with_bodies fs later) ≡ heads r fs)
    → heads r (with_bodies (Some (record { ty = ty; origin = origin }) ∷ fs) bodies) ≡ heads r (Some (record { ty = ty; origin = origin }) ∷ fs)
head_filled r ty (grammar.Imported n) fs bodies h = ap (λ (l : List (Option (ℕ × Option ℕ))). Some (r ty, Some n) ∷ l) (h bodies)
head_filled r ty (grammar.Own b) fs [] h = ap (λ (l : List (Option (ℕ × Option ℕ))). Some (r ty, None) ∷ l) (h [])
head_filled r ty (grammar.Own b) fs (body ∷ bodies) h = ap (λ (l : List (Option (ℕ × Option ℕ))). Some (r ty, None) ∷ l) (h bodies)

pub heads_filled : (r : ℕ → ℕ) (fs : List (Option grammar.Function)) (bodies : List grammar.Body) → heads r (with_bodies fs bodies) ≡ heads r fs
heads_filled r [] bodies = refl
heads_filled r (None ∷ fs) bodies = ap (λ (l : List (Option (ℕ × Option ℕ))). None ∷ l) (heads_filled r fs bodies)
heads_filled r (Some f ∷ fs) bodies = head_filled r f.ty f.origin fs bodies (heads_filled r fs)

-- ---- bodies

-- the import that brings the function of a slot, if there is one
abbrev pub import_at : Option Function → Option ℕ
import_at None = None
import_at (Some f) = function_import f.kind

-- no import brings these functions
abbrev pub NoneBrought : List (Option Function) → List FunctionBody → Type 0
NoneBrought slots [] = Unit {0}
NoneBrought slots (b ∷ bs) = (import_at (slice_index_or slots b.number None) ≡ None) × NoneBrought slots bs

-- a slot is given a function that is the same without its body
heads_given : (slots : List (Option Function)) (n : ℕ) (x y : Function) → slice_index_or slots n None ≡ Some x → head_in y ≡ head_in x → heads_in (slice_set slots n (Some y)) ≡ heads_in slots
heads_given [] n x y at e = refl
heads_given (slot ∷ slots) zero x y at e = ap (λ (h : ℕ × Option ℕ). Some h ∷ heads_in slots) e ∙ ap (λ (o : Option Function). option_map head_in o ∷ heads_in slots) (sym at)
heads_given (slot ∷ slots) (suc n) x y at e = ap (λ (l : List (Option (ℕ × Option ℕ))). option_map head_in slot ∷ l) (heads_given slots n x y at e)

still_none : (slots : List (Option Function)) (n c : ℕ) (y : Function) → function_import y.kind ≡ None → import_at (slice_index_or slots c None) ≡ None
    → import_at (slice_index_or (slice_set slots n (Some y)) c None) ≡ None
still_none [] n c y own none = none
still_none (slot ∷ slots) zero zero y own none = own
still_none (slot ∷ slots) zero (suc c) y own none = none
still_none (slot ∷ slots) (suc n) zero y own none = none
still_none (slot ∷ slots) (suc n) (suc c) y own none = still_none slots n c y own none

all_none : (slots : List (Option Function)) (n : ℕ) (y : Function) (bs : List FunctionBody) → function_import y.kind ≡ None → NoneBrought slots bs → NoneBrought (slice_set slots n (Some y)) bs
all_none slots n y [] own none = tt
all_none slots n y (b ∷ bs) own none = (still_none slots n b.number y own none.0, all_none slots n y bs own none.1)

pub steps_heads : (file : FileEnv) (features : WasmFeatures) (bs : List FunctionBody) (old new : State) → NoneBrought old.functions.slots bs → Steps file features bs old new
    → heads_in new.functions.slots ≡ heads_in old.functions.slots
steps_heads file features [] old new none steps = ap (λ (s : State). heads_in s.functions.slots) steps
steps_heads file features (b ∷ bs) old new none (mid, step, rest) =
    let y = record step.item { kind = kinds.Local step.body } in
    let given : mid.functions.slots ≡ slice_set old.functions.slots b.number (Some y) = ap (λ (a : Arena Function). a.slots) step.given in
    let own : function_import step.item.kind ≡ None = subst (λ (o : Option Function). import_at o ≡ None) step.was none.0 in
    let alike : head_in y ≡ head_in step.item = ap (λ (ty : ℕ). (ty, None)) step.ty_is ∙ ap (λ (o : Option ℕ). (type_of step.item.kind, o)) (sym own) in
    let later = subst (λ (slots : List (Option Function)). NoneBrought slots bs) (sym given) (all_none old.functions.slots b.number y bs refl none.1) in
    steps_heads file features bs mid new later rest
    ∙ ap heads_in given ∙ heads_given old.functions.slots b.number step.item y step.was alike

-- ---- what gets a body

unimported : (kind : FunctionKind) → is_bodiless kind ≡ true → function_import kind ≡ None
unimported (kinds.Import imported) e = absurd cc
unimported (kinds.Local local) e = refl
unimported (kinds.Uninitialized ty) e = refl

wanting : (slot : Option Function) → wants_body slot ≡ true → import_at slot ≡ None
wanting None e = refl
wanting (Some f) e = unimported f.kind e

abbrev Each : (ℕ → Type 0) → List ℕ → Type 0
Each P [] = Unit {0}
Each P (n ∷ ns) = P n × Each P ns

one_each : (P : ℕ → Type 0) (id : ℕ) (slot : Option Function) (slots : List (Option Function)) (wants : Bool) → wants_body slot ≡ wants → (wants ≡ true → P id) → Each P (bodiless_from (suc id) slots)
    → Each P (bodiless_from id (slot ∷ slots))
one_each P id slot slots true e h later = rw e (h refl, later)
one_each P id slot slots false e h later = rw e later

bodiless_each : (P : ℕ → Type 0) (id : ℕ) (slots : List (Option Function)) → ((k : ℕ) → wants_body (slice_index_or slots k None) ≡ true → P (k + id)) → Each P (bodiless_from id slots)
bodiless_each P id [] h = tt
bodiless_each P id (slot ∷ slots) h =
    one_each P id slot slots (wants_body slot) refl (λ w. subst P (omega arith) (h 0 w)) (bodiless_each P (suc id) slots (λ k w. subst P (omega arith) (h (suc k) w)))

each_none : (slots : List (Option Function)) (ids : List ℕ) (chunks : List Chunk) → Each (λ n. import_at (slice_index_or slots n None) ≡ None) ids → NoneBrought slots (paired ids chunks)
each_none slots [] chunks h = tt
each_none slots (id ∷ ids) [] h = tt
each_none slots (id ∷ ids) (chunk ∷ chunks) h = (h.0, each_none slots ids chunks h.1)

pub none_brought : (a : Arena Function) (chunks : List Chunk) → NoneBrought a.slots (paired (bodiless a) chunks)
none_brought a chunks =
    let P = λ (n : ℕ). import_at (slice_index_or a.slots n None) ≡ None in
    each_none a.slots (bodiless a) chunks (bodiless_each P 0 a.slots (λ k w. subst P (omega arith) (wanting (slice_index_or a.slots k None) w)))
