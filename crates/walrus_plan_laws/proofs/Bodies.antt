-- Lemmas: the functions whose bodies facts are of.
use Rattle.std.specs.Prelude.{ℕ, zero, suc, ◌+◌, ◌<◌, ◌^◌, ◌≡◌, ◌⊎◌, List, [], ◌∷◌, length, map, Option, Some, None, slice_get, slice_index, slice_index_or, refl}
use Rattle.std.specs.List.{AllByRecursion, AllZip}
use Rattle.std.specs.Option.{option_and_then, option_map}
use Rattle.std.proofs.Common.{ap, sym, ◌∙◌, subst, arith, inl, inr}
use Rattle.std.proofs.lemmas.Option.{get_or_from_slice_get, none-some, same_Some, slice_get-map, some_pair_parts}
use Rattle.wasm_formats.specs.declared.fault.Space.TheVariants as spaces
use Rattle.wasm_operators.specs.Items.{Functions}
use Rattle.wasm_grammar.specs.Modules as grammar
use Rattle.wasm_canonical.specs.Dense.{IsOwnFunction}
use Rattle.wasm_part.specs.Order.{import_of, origin_size, size_of, slot_size}
use Rattle.walrus_arena.specs.Arena.{entries, entries_from}
use Rattle.walrus_emit_due.specs.Slots.{live_at}
use Rattle.walrus_module.specs.Parts.{Module}
use Rattle.walrus_module.specs.walrus_collections.LookUps.{local_entries}
use Rattle.walrus_module_items.specs.Functions.{local_of}
use Rattle.walrus_module_items.specs.Imported.{function_import}
use Rattle.walrus_module_items.specs.declared.function.Function.{Function}
use Rattle.walrus_module_items.specs.declared.function.FunctionKind.{FunctionKind}
use Rattle.walrus_module_items.specs.declared.function.FunctionKind.TheVariants as functions
use Rattle.walrus_body_names.specs.walrus_body_writer.walrus_tree.walrus_builder.Functions.{seqs_of}
use Rattle.walrus_body_names.specs.walrus_tree.Text.{operators}
use Rattle.walrus_local_function.specs.declared.local_function.LocalFunction.{LocalFunction}
use Rattle.walrus_linked.specs.Linked.{IsWhole}
use Rattle.walrus_meaning.specs.Meaning.{means, own_function, own_origin}
use Rattle.walrus_meaning.specs.Bodies.{own_body}
use Rattle.walrus_emit_numbers.specs.declared.facts.BodyFacts.{BodyFacts}
use Rattle.walrus_emit_numbers.specs.Facts.{AreFacts}
use Rattle.walrus_plan_laws.specs.Emissions.{IsBound, SizesFit}
use Rattle.walrus_plan_laws.proofs.Lists.{In, RiseFrom, in_later, rise_lower}
use Rattle.walrus_plan_laws.proofs.Means.{filled, import_same}
use Rattle.walrus_plan_laws.proofs.Sizes.{sizes_same}
use Rattle.walrus_plan_laws.proofs.Slots.{slot_at}

-- ---- functions with bodies, by rising id

abbrev with_kind : Function → FunctionKind → Function
with_kind f kind = record f { kind = kind }

is_local : (kind : FunctionKind) (local : LocalFunction) → local_of kind ≡ Some local → kind ≡ functions.Local local
is_local (functions.Import imported) local e = absurd (none-some local e)
is_local (functions.Local x) local e = ap (λ (l : LocalFunction). functions.Local l) (same_Some x local e)
is_local (functions.Uninitialized ty) local e = absurd (none-some local e)

one_entry : (k : ℕ) (f : Function) (kind : FunctionKind) (es : List (ℕ × Function)) (id : ℕ) (local : LocalFunction) → In (local_entries ((k, with_kind f kind) ∷ es)) (id, local)
    → ((k ≡ id) × (local_of kind ≡ Some local)) ⊎ In (local_entries es) (id, local)
one_entry k f (functions.Import imported) es id local at = inr at
one_entry k f (functions.Uninitialized ty) es id local at = inr at
one_entry k f (functions.Local x) es id local (zero, e) = let same = some_pair_parts k id x local e in inl (same.0, ap (λ (l : LocalFunction). Some l) same.1)
one_entry k f (functions.Local x) es id local (suc i, e) = inr (i, e)

entry_later : (k : ℕ) (f : Function) (kind : FunctionKind) (es : List (ℕ × Function)) (e : ℕ × LocalFunction) → In (local_entries es) e → In (local_entries ((k, with_kind f kind) ∷ es)) e
entry_later k f (functions.Import imported) es e at = at
entry_later k f (functions.Uninitialized ty) es e at = at
entry_later k f (functions.Local x) es e at = in_later (k, x) e (local_entries es) at

entry_here : (k : ℕ) (f : Function) (kind : FunctionKind) (es : List (ℕ × Function)) (local : LocalFunction) → kind ≡ functions.Local local → In (local_entries ((k, with_kind f kind) ∷ es)) (k, local)
entry_here k f kind es local e = subst (λ (kind : FunctionKind). In (local_entries ((k, with_kind f kind) ∷ es)) (k, local)) (sym e) (zero, refl)

abbrev ids_of : List (ℕ × LocalFunction) → List ℕ
ids_of es = map (λ (e : ℕ × LocalFunction). e.0) es

entry_rises : (k : ℕ) (f : Function) (kind : FunctionKind) (es : List (ℕ × Function)) → RiseFrom (suc k) (ids_of (local_entries es)) → RiseFrom k (ids_of (local_entries ((k, with_kind f kind) ∷ es)))
entry_rises k f (functions.Import imported) es h = rise_lower k (suc k) (ids_of (local_entries es)) (omega arith) h
entry_rises k f (functions.Uninitialized ty) es h = rise_lower k (suc k) (ids_of (local_entries es)) (omega arith) h
entry_rises k f (functions.Local x) es h = (omega arith, h)

-- a function of this id has this body
pub record HasBody (slots : List (Option Function)) (id : ℕ) (local : LocalFunction) : Type 0 where
  pub function : Function
  pub there : slice_index_or slots id None ≡ Some function
  pub kind : function.kind ≡ functions.Local local

body_at : (k : ℕ) (slots : List (Option Function)) (id : ℕ) (local : LocalFunction) → In (local_entries (entries_from k slots)) (id, local) → (i : ℕ) × ((k + i ≡ id) × HasBody slots i local)
body_at k [] id local (i, e) = absurd cc
body_at k (None ∷ slots) id local at =
    let h = body_at (k + 1) slots id local at in
    (suc h.0, (omega (arith, h.1.0), record { function = h.1.1.function; there = h.1.1.there; kind = h.1.1.kind }))
body_at k (Some f ∷ slots) id local at = go (one_entry k f f.kind (entries_from (k + 1) slots) id local at) (λ later. body_at (k + 1) slots id local later)
  where
    go : ((k ≡ id) × (local_of f.kind ≡ Some local)) ⊎ In (local_entries (entries_from (k + 1) slots)) (id, local)
        → (In (local_entries (entries_from (k + 1) slots)) (id, local) → (i : ℕ) × ((k + 1 + i ≡ id) × HasBody slots i local)) → (i : ℕ) × ((k + i ≡ id) × HasBody (Some f ∷ slots) i local)
    go (inl h) rest = (zero, (omega (arith, h.0), record { function = f; there = refl; kind = is_local f.kind local h.1 }))
    go (inr later) rest =
        let h = rest later in
        (suc h.0, (omega (arith, h.1.0), record { function = h.1.1.function; there = h.1.1.there; kind = h.1.1.kind }))

has_entry : (k : ℕ) (slots : List (Option Function)) (i id : ℕ) (f : Function) (local : LocalFunction) → k + i ≡ id → slice_index_or slots i None ≡ Some f → f.kind ≡ functions.Local local
    → In (local_entries (entries_from k slots)) (id, local)
has_entry k [] i id f local e is body = absurd (none-some f is)
has_entry k (None ∷ slots) zero id f local e is body = absurd (none-some f is)
has_entry k (None ∷ slots) (suc i) id f local e is body = has_entry (k + 1) slots i id f local (omega (arith, e)) is body
has_entry k (Some g ∷ slots) zero id f local e is body =
    let same : k ≡ id = omega (arith, e) in
    subst (λ (id : ℕ). In (local_entries (entries_from k (Some g ∷ slots))) (id, local)) same
    (entry_here k g g.kind (entries_from (k + 1) slots) local (ap (λ (f : Function). f.kind) (same_Some g f is) ∙ body))
has_entry k (Some g ∷ slots) (suc i) id f local e is body =
    entry_later k g g.kind (entries_from (k + 1) slots) (id, local) (has_entry (k + 1) slots i id f local (omega (arith, e)) is body)

entries_rise : (k : ℕ) (slots : List (Option Function)) → RiseFrom k (ids_of (local_entries (entries_from k slots)))
entries_rise k [] = tt
entries_rise k (None ∷ slots) = rise_lower k (k + 1) (ids_of (local_entries (entries_from (k + 1) slots))) (omega arith) (entries_rise (k + 1) slots)
entries_rise k (Some f ∷ slots) =
    entry_rises k f f.kind (entries_from (k + 1) slots) (rise_lower (suc k) (k + 1) (ids_of (local_entries (entries_from (k + 1) slots))) (omega arith) (entries_rise (k + 1) slots))

-- ---- their facts

functions_are : (es : List (ℕ × LocalFunction)) (facts : List BodyFacts) → AllZip AreFacts es facts → map (λ (f : BodyFacts). f.function) facts ≡ ids_of es
functions_are [] [] h = refl
functions_are [] (f ∷ facts) h = absurd h
functions_are (e ∷ es) [] h = absurd h
functions_are (e ∷ es) (f ∷ facts) h = λ at. h.0.function at ∷ functions_are es facts h.1 at

pub zip_at : (es : List (ℕ × LocalFunction)) (facts : List BodyFacts) → AllZip AreFacts es facts → (i : ℕ) (f : BodyFacts) → slice_get facts i ≡ Some f → (e : ℕ × LocalFunction) × ((slice_get es i ≡ Some e) × AreFacts e f)
zip_at [] [] h i f is = absurd (none-some f is)
zip_at [] (g ∷ facts) h i f is = absurd h
zip_at (e ∷ es) [] h i f is = absurd h
zip_at (e ∷ es) (g ∷ facts) h zero f is = (e, (refl, subst (λ (f : BodyFacts). AreFacts e f) (same_Some g f is) h.0))
zip_at (e ∷ es) (g ∷ facts) h (suc i) f is = zip_at es facts h.1 i f is

there_at : {A : Type 0} (xs : List A) (i : ℕ) → i < length xs → (x : A) × (slice_get xs i ≡ Some x)
there_at [] i lt = absurd (omega (arith, lt))
there_at (x ∷ xs) zero lt = (x, refl)
there_at (x ∷ xs) (suc i) lt = there_at xs i (omega (arith, lt))

all_at : {A : Type 0} (P : A → Type 0) (xs : List A) → AllByRecursion P xs → (i : ℕ) (x : A) → slice_get xs i ≡ Some x → P x
all_at P [] h i x e = absurd (none-some x e)
all_at P (y ∷ xs) h zero x e = subst P (same_Some y x e) h.0
all_at P (y ∷ xs) h (suc i) x e = all_at P xs h.1 i x e

ids_at : (es : List (ℕ × LocalFunction)) (n : ℕ) → In (ids_of es) n → (e : ℕ × LocalFunction) × (In es e × (e.0 ≡ n))
ids_at [] n (i, e) = absurd (none-some n e)
ids_at (x ∷ es) n (zero, e) = (x, ((zero, refl), same_Some x.0 n e))
ids_at (x ∷ es) n (suc i, e) = let h = ids_at es n (i, e) in (h.0, (in_later x h.0 es h.1.0, h.1.1))

at_ids : (es : List (ℕ × LocalFunction)) (e : ℕ × LocalFunction) → In es e → In (ids_of es) e.0
at_ids es e at = (at.0, slice_get-map (λ (e : ℕ × LocalFunction). e.0) es at.0 ∙ ap (option_map (λ (e : ℕ × LocalFunction). e.0)) at.1)

module _ (a : Module) (facts : List BodyFacts) (zip : AllZip AreFacts (local_entries (entries a.funcs)) facts) where
  abbrev es : List (ℕ × LocalFunction)
  es = local_entries (entries a.funcs)

  abbrev pub told_ids : List ℕ
  told_ids = map (λ (f : BodyFacts). f.function) facts

  pub told_rise : RiseFrom 0 told_ids
  told_rise = subst (λ (l : List ℕ). RiseFrom 0 l) (sym (functions_are es facts zip)) (entries_rise 0 a.funcs.slots)

  pub in_slots_at : (id : ℕ) (local : LocalFunction) → In es (id, local) → HasBody a.funcs.slots id local
  in_slots_at id local at =
      let h = body_at 0 a.funcs.slots id local at in
      let same : h.0 ≡ id = omega (arith, h.1.0) in
      subst (λ (j : ℕ). HasBody a.funcs.slots j local) same h.1.1

  pub told_body : (n : ℕ) → In told_ids n → (local : LocalFunction) × HasBody a.funcs.slots n local
  told_body n at =
      let h = ids_at es n (subst (λ (l : List ℕ). In l n) (functions_are es facts zip) at) in
      (h.0.1, subst (λ (j : ℕ). HasBody a.funcs.slots j h.0.1) h.1.1 (in_slots_at h.0.0 h.0.1 h.1.0))

  pub body_told : (n : ℕ) (f : Function) (local : LocalFunction) → slice_index_or a.funcs.slots n None ≡ Some f → f.kind ≡ functions.Local local → In told_ids n
  body_told n f local is body =
      subst (λ (l : List ℕ). In l n) (sym (functions_are es facts zip)) (at_ids es (n, local) (has_entry 0 a.funcs.slots n n f local (omega arith) is body))

  -- ---- what it means

  -- what a function with a body means
  meant_at : (n : ℕ) (f : Function) → slice_index_or a.funcs.slots n None ≡ Some f → slice_index_or (means a).functions n None ≡ Some (own_function a.locals f)
  meant_at n f is = slot_at (own_function a.locals) a.funcs.slots n ∙ ap (option_map (own_function a.locals)) is

  pub told_own : (n : ℕ) → In told_ids n → IsOwnFunction (live_at (means a).functions n)
  told_own n at =
      let h = told_body n at in
      subst IsOwnFunction (sym (meant_at n h.1.function h.1.there)) (own_body a.locals h.0, ap (own_origin a.locals) h.1.kind)

  pub told_import : (n : ℕ) → In told_ids n → import_of (means a) Functions n ≡ None
  told_import n at =
      let h = told_body n at in
      import_same a spaces.Function n
      ∙ ap (option_and_then (λ (f : Function). function_import f.kind)) h.1.there
      ∙ ap function_import h.1.kind

  pub own_told : IsBound a → (n : ℕ) (x : grammar.Function) → slice_index_or (means a).functions n None ≡ Some x → import_of (means a) Functions n ≡ None → In told_ids n
  own_told bound n x is none =
      let h = filled (own_function a.locals) (slice_index_or a.funcs.slots n None) x (sym (slot_at (own_function a.locals) a.funcs.slots n) ∙ is) in
      let not_brought : function_import h.0.kind ≡ None = sym (ap (option_and_then (λ (f : Function). function_import f.kind)) h.1.0) ∙ sym (import_same a spaces.Function n) ∙ none in
      by_kind h.0 h.1.0 h.0.kind refl not_brought (bound.whole n h.0 h.1.0)
    where
      by_kind : (f : Function) → slice_index_or a.funcs.slots n None ≡ Some f → (kind : FunctionKind) → f.kind ≡ kind → function_import kind ≡ None → IsWhole a.types kind → In told_ids n
      by_kind f there (functions.Import imported) e not_brought whole = absurd (none-some imported.import (sym not_brought))
      by_kind f there (functions.Local local) e not_brought whole = body_told n f local there e
      by_kind f there (functions.Uninitialized ty) e not_brought whole = absurd whole

  pub told_sizes : (at : ℕ) → at < length facts → size_of (means a) (slice_index told_ids at) ≡ slice_index (map (λ (f : BodyFacts). f.size) facts) at
  told_sizes at lt =
      let b = there_at facts at lt in
      let h = zip_at es facts zip at b.0 b.1 in
      let id : slice_index told_ids at ≡ h.0.0 =
      get_or_from_slice_get told_ids at b.0.function 0 (slice_get-map (λ (f : BodyFacts). f.function) facts at ∙ ap (option_map (λ (f : BodyFacts). f.function)) b.1) ∙ h.1.1.function in
      let size : slice_index (map (λ (f : BodyFacts). f.size) facts) at ≡ b.0.size =
      get_or_from_slice_get (map (λ (f : BodyFacts). f.size) facts) at b.0.size 0 (slice_get-map (λ (f : BodyFacts). f.size) facts at ∙ ap (option_map (λ (f : BodyFacts). f.size)) b.1) in
      let body = in_slots_at h.0.0 h.0.1 (at, h.1.0) in
      ap (size_of (means a)) id
      ∙ ap slot_size (meant_at h.0.0 body.function body.there)
      ∙ ap (λ (kind : FunctionKind). origin_size (own_origin a.locals kind)) body.kind
      ∙ sym (sizes_same (seqs_of h.0.1.builder) (operators (seqs_of h.0.1.builder) 0))
      ∙ sym h.1.1.size
      ∙ sym size

  pub told_fit : SizesFit facts → (at : ℕ) → at < length facts → slice_index (map (λ (f : BodyFacts). f.size) facts) at < 2 ^ 64
  told_fit fit at lt =
      let b = there_at facts at lt in
      let size : slice_index (map (λ (f : BodyFacts). f.size) facts) at ≡ b.0.size =
      get_or_from_slice_get (map (λ (f : BodyFacts). f.size) facts) at b.0.size 0 (slice_get-map (λ (f : BodyFacts). f.size) facts at ∙ ap (option_map (λ (f : BodyFacts). f.size)) b.1) in
      subst (λ (n : ℕ). n < 2 ^ 64) (sym size) (all_at (λ (body : BodyFacts). body.size < 2 ^ 64) facts fit at b.0 b.1)
