-- Lemmas: what a body's handlers take and give, as its reader sees it, is what its file says, each type sent to its id.
use Rattle.std.proofs.Common.{◌≡◌, ◌∙◌, ℕ, zero, suc, ◌<◌, Bool, true, false, List, [], ◌∷◌, ◌++◌, length, map, Option, Some, None, Ok, Err, refl, sym, ap, subst, arith, inl, inr, if◌then◌else◌}
use Rattle.std.specs.Prelude.{◌⊎◌, MatchOption, slice_get, slice_index_or}
use Rattle.std.specs.Option.{option_and_then, option_map, option_or}
use Rattle.std.proofs.lemmas.List.{map-append}
use Rattle.std.proofs.lemmas.Option.{slice_get_within}
use Rattle.walrus_named_bodies.specs.walrus_file_bodies.walrus_items_into.walrus_module_env.Env.{if_own, is_own, own_pick}
use Rattle.walrus_named_bodies.specs.walrus_file_bodies.walrus_items_into.walrus_module_env.Filled.{AreFiled}
use Rattle.walrus_forms.proofs.EqLemmas.{same-kind-law}
use Rattle.walrus_forms.specs.Forms.{Form, FunctionForm, StructForm, ArrayForm}
use Rattle.walrus_forms.specs.Kinds.{Kind, function_kind}
use Rattle.walrus_forms.specs.Renaming.{at, renamed_form, renamed_heap, renamed_value}
use Rattle.walrus_forms.specs.Same.{same_kind}
use Rattle.walrus_forms.specs.declared.value.AbstractHeapType.{AbstractHeapType}
use Rattle.walrus_forms.specs.declared.value.AbstractHeapType.TheVariants as into
use Rattle.walrus_forms.specs.declared.value.HeapType.{HeapType}
use Rattle.walrus_forms.specs.declared.value.HeapType.TheVariants.{Abstract, Shared, Concrete, Exact}
use Rattle.walrus_forms.specs.declared.value.ValType.{ValType}
use Rattle.walrus_forms.specs.declared.value.ValType.TheVariants.{I32, I64, F32, F64, V128, Ref}
use Rattle.walrus_function_types.specs.FunctionTypes.{form_params, form_results, params_at, results_at}
use Rattle.walrus_named_bodies.specs.walrus_file_bodies.walrus_items_into.walrus_module_env.walrus_handler_types.walrus_handler_laws.walrus_body_steps.Meanings.{OpensOf, TurnsTo, meaning}
use Rattle.walrus_named_bodies.specs.walrus_file_bodies.walrus_items_into.walrus_module_env.walrus_handler_types.walrus_handler_laws.walrus_body_steps.walrus_body_nesting.Stands.{Ended, Finish, Handles, HandlesAll, Otherwise, Part, StandsAs, Turn, lies, none, with}
use Rattle.walrus_named_bodies.specs.walrus_file_bodies.walrus_items_into.walrus_module_env.walrus_handler_types.walrus_handler_laws.walrus_body_steps.walrus_body_rules.Sights.{Sight, block_of, function_block, look, results_of, tag_params, value_block, written_block}
use Rattle.walrus_named_bodies.specs.walrus_file_bodies.walrus_items_into.walrus_module_env.walrus_handler_types.walrus_handler_laws.walrus_body_steps.wasm_grammar.Modules as grammar
use Rattle.walrus_named_bodies.specs.walrus_file_bodies.walrus_items_into.walrus_module_env.walrus_handler_types.walrus_handler_laws.walrus_body_steps.wasm_grammar.TypeWords.{abstract_of, heap_of, value_of}
use Rattle.walrus_named_bodies.specs.walrus_file_bodies.walrus_items_into.walrus_module_env.walrus_handler_types.walrus_handler_laws.walrus_body_steps.wasm_normal_form.Trees.{Tree as OpTree, Close, Arm, Skip, Run, Nest}
use Rattle.walrus_body_laws.specs.walrus_pairing.Types.{read_abstract, read_heap, read_value}
use Rattle.walrus_body_laws.specs.walrus_pairing.declared.error.PairError.TheVariants as errors
use Rattle.walrus_body_laws.specs.walrus_pairing.Looks.{Or}
use Rattle.walrus_body_laws.specs.walrus_pairing.walrus_instr.BlockTypes.{picked}
use Rattle.walrus_body_laws.specs.walrus_pairing.walrus_instr.declared.instr.Instr.{Instr}
use Rattle.walrus_body_laws.specs.walrus_pairing.walrus_instr.declared.seq.InstrLocId.{InstrLocId}
use Rattle.walrus_body_laws.specs.walrus_pairing.walrus_instr.declared.seq.InstrSeqType.{InstrSeqType}
use Rattle.walrus_body_laws.specs.walrus_pairing.walrus_instr.declared.seq.InstrSeqType.TheVariants.{Simple, MultiValue}
use Rattle.walrus_body_laws.specs.walrus_pairing.wasm_operators.Items.{Tags, Types}
use Rattle.walrus_body_laws.specs.walrus_pairing.wasm_operators.declared.block_type.BlockType.{BlockType}
use Rattle.walrus_body_laws.specs.walrus_pairing.wasm_operators.declared.block_type.BlockType.TheVariants as blocks
use Rattle.walrus_named_bodies.specs.walrus_item_names.walrus_module.walrus_builder.Built.{Seq}
use Rattle.walrus_named_bodies.specs.walrus_item_names.walrus_module.walrus_types.Items.{Item}
use Rattle.walrus_named_bodies.specs.walrus_item_names.walrus_module.walrus_types.Table.{Table, found_type, type_at}
use Rattle.walrus_types.proofs.LawLemmas.{latest-law}
use Rattle.walrus_types.specs.TypeLaws.{IsLatest}
use Rattle.wasm_operators.specs.Operators.{Seen, flow_of}
use Rattle.wasm_operators.specs.wasm_ref_types.Reference.{Reference}
use Rattle.wasm_operators.specs.wasm_ref_types.declared.heap.AbstractHeapType.{AbstractHeapType as ReadAbstract}
use Rattle.wasm_operators.specs.wasm_ref_types.declared.heap.AbstractHeapType.TheVariants as from
use Rattle.wasm_operators.specs.wasm_ref_types.declared.heap.HeapType.{HeapType as ReadHeap}
use Rattle.wasm_operators.specs.wasm_ref_types.declared.heap.HeapType.TheVariants.{Abstract as FromAbstract, Concrete as FromConcrete, Exact as FromExact}
use Rattle.wasm_operators.specs.wasm_ref_types.declared.index.UnpackedIndex.TheVariants.{Module, RecGroup, Id}
use Rattle.wasm_operators.specs.wasm_ref_types.declared.value.ValType.{ValType as ReadValue}
use Rattle.wasm_operators.specs.wasm_ref_types.declared.value.ValType.TheVariants as values
use Rattle.walrus_parse_laws.specs.Added.{Signature}
use Rattle.walrus_parse_laws.specs.Catches.{catches, opened_results, part_signature}
use Rattle.walrus_parse_laws.specs.Files.{block_gives, opened_gives, part_handles, sent, tag_takes, text_handles, type_params, type_results}
use Rattle.walrus_parse_laws.specs.Handlers.{signature_of}

pub some_is : {A : Type 0} (x y : A) → Some x ≡ Some y → x ≡ y
some_is x y e = cc

-- ---- lists by index

at_get : (ids : List ℕ) (n id : ℕ) → slice_get ids n ≡ Some id → at ids n ≡ id
at_get [] n id e = absurd cc
at_get (x ∷ ids) zero id e = cc
at_get (x ∷ ids) (suc n) id e = at_get ids n id e

kind_at : (ks : List Kind) (n : ℕ) → n < length ks → (k : Kind) × (slice_get ks n ≡ Some k)
kind_at [] n lt = absurd (omega (arith, lt))
kind_at (k ∷ ks) zero lt = (k, refl)
kind_at (k ∷ ks) (suc n) lt = kind_at ks n (omega (arith, lt))

-- ---- value types

heap_ok : (a h : HeapType) → (let x : Or HeapType = Ok a in x) ≡ Ok h → Some a ≡ Some h
heap_ok a h e = cc

module _ (ids : List ℕ) where
  abstract_seen : (ty : ReadAbstract) → ((kind : AbstractHeapType) × (read_abstract ty ≡ Ok kind) × (abstract_of ty ≡ Some kind)) ⊎ (read_abstract ty ≡ Err errors.ContinuationType)
  abstract_seen from.Func = inl (into.Func, refl, refl)
  abstract_seen from.Extern = inl (into.Extern, refl, refl)
  abstract_seen from.Any = inl (into.Any, refl, refl)
  abstract_seen from.None = inl (into.None, refl, refl)
  abstract_seen from.NoExtern = inl (into.NoExtern, refl, refl)
  abstract_seen from.NoFunc = inl (into.NoFunc, refl, refl)
  abstract_seen from.Eq = inl (into.Eq, refl, refl)
  abstract_seen from.Struct = inl (into.Struct, refl, refl)
  abstract_seen from.Array = inl (into.Array, refl, refl)
  abstract_seen from.I31 = inl (into.I31, refl, refl)
  abstract_seen from.Exn = inl (into.Exn, refl, refl)
  abstract_seen from.NoExn = inl (into.NoExn, refl, refl)
  abstract_seen from.Cont = inr refl
  abstract_seen from.NoCont = inr refl

  concrete_seen : (n : ℕ) (h : HeapType) → read_heap (slice_get ids) (FromConcrete (Module n)) ≡ Ok h → Some (Concrete (at ids n)) ≡ Some h
  concrete_seen n h e = go (slice_get ids n) refl
    where
      found : (id : ℕ) → slice_get ids n ≡ Some id → read_heap (slice_get ids) (FromConcrete (Module n)) ≡ Ok (Concrete id)
      found id is = rw is refl

      lost : slice_get ids n ≡ None → ⊥
      lost is = (let f : read_heap (slice_get ids) (FromConcrete (Module n)) ≡ Ok h = e in absurd (let g = rw is at f in cc))

      go : (o : Option ℕ) → slice_get ids n ≡ o → Some (Concrete (at ids n)) ≡ Some h
      go None is = absurd (lost is)
      go (Some id) is = ap (λ (k : ℕ). Some (Concrete k)) (at_get ids n id is) ∙ heap_ok (Concrete id) h (sym (found id is) ∙ e)

  exact_seen : (n : ℕ) (h : HeapType) → read_heap (slice_get ids) (FromExact (Module n)) ≡ Ok h → Some (Exact (at ids n)) ≡ Some h
  exact_seen n h e = go (slice_get ids n) refl
    where
      found : (id : ℕ) → slice_get ids n ≡ Some id → read_heap (slice_get ids) (FromExact (Module n)) ≡ Ok (Exact id)
      found id is = rw is refl

      lost : slice_get ids n ≡ None → ⊥
      lost is = (let f : read_heap (slice_get ids) (FromExact (Module n)) ≡ Ok h = e in absurd (let g = rw is at f in cc))

      go : (o : Option ℕ) → slice_get ids n ≡ o → Some (Exact (at ids n)) ≡ Some h
      go None is = absurd (lost is)
      go (Some id) is = ap (λ (k : ℕ). Some (Exact k)) (at_get ids n id is) ∙ heap_ok (Exact id) h (sym (found id is) ∙ e)

  heap_seen : (w : ReadHeap) (h : HeapType) → read_heap (slice_get ids) w ≡ Ok h → option_map (renamed_heap (at ids)) (heap_of w) ≡ Some h
  heap_seen (FromAbstract false ty) h e =
      elim (abstract_seen ty) as (λ _. option_map (renamed_heap (at ids)) (heap_of (FromAbstract false ty)) ≡ Some h) [
        | inl kind ↦ rw kind.2 (heap_ok (Abstract kind.0) h (rw kind.1 at e))
        | inr none ↦ absurd (let e = rw none at e in cc)
      ]
  heap_seen (FromAbstract true ty) h e =
      elim (abstract_seen ty) as (λ _. option_map (renamed_heap (at ids)) (heap_of (FromAbstract true ty)) ≡ Some h) [
        | inl kind ↦ rw kind.2 (heap_ok (Shared kind.0) h (rw kind.1 at e))
        | inr none ↦ absurd (let e = rw none at e in cc)
      ]
  heap_seen (FromConcrete (Module n)) h e = concrete_seen n h e
  heap_seen (FromConcrete (RecGroup n)) h e = absurd cc
  heap_seen (FromConcrete (Id n)) h e = absurd cc
  heap_seen (FromExact (Module n)) h e = exact_seen n h e
  heap_seen (FromExact (RecGroup n)) h e = absurd cc
  heap_seen (FromExact (Id n)) h e = absurd cc

  value_ok : (a v : ValType) → (let x : Or ValType = Ok a in x) ≡ Ok v → Some a ≡ Some v
  value_ok a v e = cc

  ref_seen : (ty : Reference) (v : ValType) (o : Or HeapType) → read_heap (slice_get ids) ty.heap_type ≡ o → read_value (slice_get ids) (values.Ref ty) ≡ Ok v
      → option_map (renamed_value (at ids)) (value_of (values.Ref ty)) ≡ Some v
  ref_seen ty v (Err f) is e = absurd (let g = rw is at e in cc)
  ref_seen ty v (Ok heap) is e = named (heap_of ty.heap_type) (heap_seen ty.heap_type heap is)
    where
      read : read_value (slice_get ids) (values.Ref ty) ≡ Ok (Ref (record { nullable = ty.nullable; heap_type = heap }))
      read = rw is refl

      named : (o : Option HeapType) → option_map (renamed_heap (at ids)) o ≡ Some heap
          → option_map (renamed_value (at ids)) (option_map Ref (option_map (λ h. record { nullable = ty.nullable; heap_type = h }) o)) ≡ Some v
      named None h = absurd cc
      named (Some own) h =
          ap (λ (k : HeapType). Some (Ref (record { nullable = ty.nullable; heap_type = k }))) (some_is (renamed_heap (at ids) own) heap h)
          ∙ value_ok (Ref (record { nullable = ty.nullable; heap_type = heap })) v (sym read ∙ e)

  value_seen : (w : ReadValue) (v : ValType) → read_value (slice_get ids) w ≡ Ok v → option_map (renamed_value (at ids)) (value_of w) ≡ Some v
  value_seen values.I32 v e = value_ok I32 v e
  value_seen values.I64 v e = value_ok I64 v e
  value_seen values.F32 v e = value_ok F32 v e
  value_seen values.F64 v e = value_ok F64 v e
  value_seen values.V128 v e = value_ok V128 v e
  value_seen (values.Ref ty) v e = ref_seen ty v (read_heap (slice_get ids) ty.heap_type) refl e

-- ---- types of the table

abbrev lists : (ℕ → ℕ) → Option (List ValType) → Option (List ValType)
lists r = option_map (map (renamed_value r))

params_sent : (r : ℕ → ℕ) (form : Form) → form_params (renamed_form r form) ≡ lists r (form_params form)
params_sent r (FunctionForm params results) = refl
params_sent r (StructForm fields) = refl
params_sent r (ArrayForm field) = refl

results_sent : (r : ℕ → ℕ) (form : Form) → form_results (renamed_form r form) ≡ lists r (form_results form)
results_sent r (FunctionForm params results) = refl
results_sent r (StructForm fields) = refl
results_sent r (ArrayForm field) = refl

-- what an index of the tags names has the type that the file's tag has
pub record TagNamed (tags : List (Option grammar.Tag)) (ids : List ℕ) (s : Sight) (n tag : ℕ) : Type 0 where
  pub read : grammar.Tag
  pub there : slice_index_or tags n None ≡ Some read
  pub id : ℕ
  pub typed : s.tag_type tag ≡ Some id
  pub named : slice_get ids read.ty ≡ Some id

-- the types of the file, their ids and the table, as the body's reader sees them
pub record SeesFile (types : List Kind) (tags : List (Option grammar.Tag)) (ids : List ℕ) (t : Table) (own : ℕ) (s : Sight) : Type 0 where
  pub filed : AreFiled types ids own t
  pub named : look s Types ≡ slice_get ids
  pub params : s.params ≡ params_at t
  pub results : s.results ≡ results_at t
  pub blocks : s.block_type ≡ own_pick own t
  pub tags_are : (n tag : ℕ) → look s Tags n ≡ Some tag → TagNamed tags ids s n tag

module _ (types : List Kind) (tags : List (Option grammar.Tag)) (ids : List ℕ) (t : Table) (own : ℕ) (s : Sight) (sees : SeesFile types tags ids t own s) where
  abbrev r : ℕ → ℕ
  r = at ids

  both_there : (n id : ℕ) → slice_get ids n ≡ Some id → (params_at t id ≡ lists r (type_params types tags n)) × (results_at t id ≡ lists r (type_results types tags n))
  both_there n id e =
      let lt = slice_get_within ids n id e in
      let sized = sees.filed.sized in
      let k = kind_at types n (omega (arith, lt, sized)) in
      let st = sees.filed.stand n k.0 k.1 in
      let same_id : id ≡ st.id = some_is id st.id (sym e ∙ st.named) in
      let live : type_at t id ≡ Some st.item = ap (type_at t) same_id ∙ st.live in (
        ap (option_and_then (λ (x : Item). form_params x.kind.form)) live ∙ ap (λ (y : Kind). form_params y.form) st.kind_is ∙ params_sent r k.0.form
            ∙ sym (ap (λ (o : Option Kind). lists r (option_and_then (λ (y : Kind). form_params y.form) o)) k.1),
        ap (option_and_then (λ (x : Item). form_results x.kind.form)) live ∙ ap (λ (y : Kind). form_results y.form) st.kind_is ∙ results_sent r k.0.form
            ∙ sym (ap (λ (o : Option Kind). lists r (option_and_then (λ (y : Kind). form_results y.form) o)) k.1),
      )

  tag_seen : (n tag : ℕ) → look s Tags n ≡ Some tag → tag_params s (s.tag_type tag) ≡ lists r (tag_takes types tags n)
  tag_seen n tag e =
      let x = sees.tags_are n tag e in
      ap (tag_params s) x.typed
      ∙ ap (λ (f : ℕ → Option (List ValType)). f x.id) sees.params
      ∙ (both_there x.read.ty x.id x.named).0
      ∙ sym (ap (λ (o : Option grammar.Tag). lists r (option_and_then (λ (y : grammar.Tag). type_params types tags y.ty) o)) x.there)

  -- ---- block types

  found_gives : (ps rs : List ValType) (ty : InstrSeqType) → option_or None (option_map MultiValue (found_type ps rs t)) ≡ Some ty → results_of s ty ≡ Some rs
  found_gives ps rs ty e = go (found_type ps rs t) refl e
    where
      wanted : Kind
      wanted = function_kind ps rs

      go : (o : Option ℕ) → found_type ps rs t ≡ o → option_or None (option_map MultiValue o) ≡ Some ty → results_of s ty ≡ Some rs
      go None is e = absurd cc
      go (Some id) is e =
          let last : IsLatest (λ x. same_kind x.1.kind wanted) t id =
          subst (λ (o : Option ℕ). MatchOption o ((other : ℕ) (x : Item) → type_at t other ≡ Some x → same_kind x.kind wanted ≡ false) (IsLatest (λ x. same_kind x.1.kind wanted) t)) is (latest-law t (λ x. same_kind x.1.kind wanted)) in
          ap (results_of s) (sym (some_is (MultiValue id) ty e))
          ∙ ap (λ (f : ℕ → Option (List ValType)). f id) sees.results
          ∙ ap (option_and_then (λ (x : Item). form_results x.kind.form)) last.live
          ∙ ap (λ (k : Kind). form_results k.form) ((same-kind-law last.item.kind wanted).0 last.passes)

  picked_gives : (ps rs : List ValType) (ty : InstrSeqType) → picked ps rs t ≡ Some ty → results_of s ty ≡ Some rs
  picked_gives [] [] ty e = ap (results_of s) (sym (some_is (Simple None) ty e))
  picked_gives [] (x ∷ []) ty e = ap (results_of s) (sym (some_is (Simple (Some x)) ty e))
  picked_gives [] (x ∷ (y ∷ zs)) ty e = found_gives [] (x ∷ (y ∷ zs)) ty e
  picked_gives (p ∷ ps) rs ty e = found_gives (p ∷ ps) rs ty e

  pick_gives : (ps rs : List ValType) (ty : InstrSeqType) → s.block_type ps rs ≡ Some ty → results_of s ty ≡ Some rs
  pick_gives ps rs ty e = go (picked ps rs t) refl (sym (ap (λ (f : List ValType → List ValType → Option InstrSeqType). f ps rs) sees.blocks) ∙ e)
    where
      kept : (b : Bool) (x : InstrSeqType) → (if b then Some x else None) ≡ Some ty → x ≡ ty
      kept true x e = some_is x ty e
      kept false x e = absurd cc

      go : (o : Option InstrSeqType) → picked ps rs t ≡ o → if_own own o ≡ Some ty → results_of s ty ≡ Some rs
      go None is e = absurd cc
      go (Some x) is e = picked_gives ps rs ty (is ∙ ap (λ (y : InstrSeqType). Some y) (kept (is_own own x) x e))

  both_gives : (ps rs : Option (List ValType)) (ty : InstrSeqType) → block_of s ps rs ≡ Some ty → results_of s ty ≡ rs
  both_gives None rs ty e = absurd cc
  both_gives (Some ps) None ty e = absurd cc
  both_gives (Some ps) (Some rs) ty e = pick_gives ps rs ty e

  function_gives : (n : ℕ) (o : Option ℕ) (ty : InstrSeqType) → look s Types n ≡ o → function_block s o ≡ Some ty → results_of s ty ≡ lists r (type_results types tags n)
  function_gives n None ty is e = absurd cc
  function_gives n (Some id) ty is e =
      both_gives (s.params id) (s.results id) ty e
      ∙ ap (λ (f : ℕ → Option (List ValType)). f id) sees.results
      ∙ (both_there n id (sym (ap (λ (f : ℕ → Option ℕ). f n) sees.named) ∙ is)).1

  value_gives : (w : ReadValue) (o : Or ValType) (ty : InstrSeqType) → read_value (look s Types) w ≡ o → value_block o ≡ Some ty → results_of s ty ≡ lists r (option_map (λ v. v ∷ []) (value_of w))
  value_gives w (Err f) ty is e = absurd cc
  value_gives w (Ok v) ty is e =
      ap (results_of s) (sym (some_is (Simple (Some v)) ty e)) ∙ one (value_of w) (value_seen ids w v (sym (ap (λ (f : ℕ → Option ℕ). read_value f w) sees.named) ∙ is))
    where
      one : (o : Option ValType) → option_map (renamed_value r) o ≡ Some v → Some (v ∷ []) ≡ lists r (option_map (λ x. x ∷ []) o)
      one None h = absurd cc
      one (Some x) h = ap (λ (y : ValType). Some (y ∷ [])) (sym (some_is (renamed_value r x) v h))

  block_seen : (w : BlockType) (ty : InstrSeqType) → written_block s w ≡ Some ty → results_of s ty ≡ lists r (block_gives types tags w)
  block_seen blocks.Empty ty e = ap (results_of s) (sym (some_is (Simple None) ty e))
  block_seen (blocks.Value w) ty e = value_gives w (read_value (look s Types) w) ty refl e
  block_seen (blocks.Type n) ty e = function_gives n (look s Types n) ty refl e

  -- ---- texts

  signature_sent : (ps rs : Option (List ValType)) → signature_of (lists r ps) (lists r rs) ≡ map (sent r) (signature_of ps rs)
  signature_sent None rs = refl
  signature_sent (Some ps) None = refl
  signature_sent (Some ps) (Some rs) = refl

  turn_sent : (block own : InstrSeqType) (o : Seen) (turn : Turn) (given : Option (List ValType)) → results_of s block ≡ lists r given → TurnsTo s block o turn own
      → part_signature s (results_of s block) (flow_of o.code) o.items ≡ map (sent r) (part_handles types tags given (flow_of o.code) o.items)
  turn_sent block own o Otherwise given same (flow, is) = rw flow refl
  turn_sent block own o (Handles tag) given same (flow, n, items, named, is) =
      rw flow (rw items (rw named (ap (λ (x : Option (List ValType)). signature_of x (results_of s block)) (tag_seen n tag named) ∙ ap (signature_of (lists r (tag_takes types tags n))) same ∙ signature_sent (tag_takes types tags n) given)))
  turn_sent block own o HandlesAll given same (flow, is) = rw flow (ap (signature_of (Some [])) same ∙ signature_sent (Some []) given)

  opened_is : (o : Seen) (ty : InstrSeqType) → OpensOf s o ty → (opened_results s o.items ≡ results_of s ty) × (results_of s ty ≡ lists r (opened_gives types tags o.items))
  opened_is o ty (written, more, items, is) = (
    ap (opened_results s) items ∙ ap (option_and_then (results_of s)) is,
    block_seen written ty is ∙ sym (ap (λ l. lists r (opened_gives types tags l)) items),
  )

  module _ (c : List Seq) where
    abbrev Lies : OpTree → List ℕ → ℕ → InstrSeqType → (ℕ → Bool) → List (Instr × InstrLocId) → InstrLocId → List Part → Finish → (ℕ → Bool) → Type 0
    Lies o around k ty met is e ms f done = lies (meaning s) o c around k ty met is e ms f done

    text_sent : (o : OpTree) (around : List ℕ) (k : ℕ) (ty : InstrSeqType) (met : ℕ → Bool) (is : List (Instr × InstrLocId)) (e : InstrLocId) (ms : List Part) (f : Finish) (done : ℕ → Bool) (given : Option (List ValType))
        → results_of s ty ≡ lists r given → Lies o around k ty met is e ms f done → catches s (results_of s ty) o ≡ map (sent r) (text_handles types tags given o)
    text_sent (Close o p) around k ty met [] e [] f done given same l = refl
    text_sent (Close o p) around k ty met [] e (m ∷ ms) f done given same l = absurd l
    text_sent (Close o p) around k ty met (i ∷ is) e ms f done given same l = absurd l
    text_sent (Arm o p u) around k ty met [] e [] f done given same l = absurd l
    text_sent (Arm o p u) around k ty met [] e (m ∷ ms) f done given same (place, fresh, z, found, turns, lie) =
        ap (λ (l : List Signature). l ++ catches s (results_of s ty) u) (turn_sent ty z.ty o m.turn given same turns)
        ∙ ap (λ (l : List Signature). map (sent r) (part_handles types tags given (flow_of o.code) o.items) ++ l) (text_sent u around m.seq ty (with m.seq met) z.instrs z.end ms f done given same lie)
        ∙ sym (map-append (sent r) (part_handles types tags given (flow_of o.code) o.items) (text_handles types tags given u))
    text_sent (Arm o p u) around k ty met (i ∷ is) e ms f done given same l = absurd l
    text_sent (Skip o p u) around k ty met [] e [] f done given same l = absurd l
    text_sent (Skip o p u) around k ty met [] e (m ∷ ms) f done given same l = absurd l
    text_sent (Skip o p u) around k ty met (i ∷ is) e ms f done given same l = absurd l
    text_sent (Run o p u) around k ty met [] e [] f done given same l = absurd l
    text_sent (Run o p u) around k ty met [] e (m ∷ ms) f done given same l = absurd l
    text_sent (Run o p u) around k ty met (i ∷ is) e ms f done given same (runs, place, lie) = text_sent u around k ty met is e ms f done given same lie
    text_sent (Nest o p w u) around k ty met [] e [] f done given same l = absurd l
    text_sent (Nest o p w u) around k ty met [] e (m ∷ ms) f done given same l = absurd l
    text_sent (Nest o p w u) around k ty met (i ∷ is) e ms f done given same (q, nests, place, fresh, z, found, opens, half, inside, lie) =
        let x = opened_is o z.ty opens in
        ap (λ (rs : Option (List ValType)). catches s rs w ++ catches s (results_of s ty) u) x.0
        ∙ ap (λ (l : List Signature). l ++ catches s (results_of s ty) u)
        (text_sent w (k ∷ around) q.first z.ty (with q.first met) z.instrs z.end q.more q.finish half (opened_gives types tags o.items) x.1 inside)
        ∙ ap (λ (l : List Signature). map (sent r) (text_handles types tags (opened_gives types tags o.items) w) ++ l) (text_sent u around k ty half is e ms f done given same lie)
        ∙ sym (map-append (sent r) (text_handles types tags (opened_gives types tags o.items) w) (text_handles types tags given u))

    -- a body's own block has no further parts, so that its results don't matter
    own_sent : (o : OpTree) (around : List ℕ) (k : ℕ) (ty : InstrSeqType) (met : ℕ → Bool) (is : List (Instr × InstrLocId)) (e : InstrLocId) (f : Finish) (done : ℕ → Bool) → Lies o around k ty met is e [] f done
        → catches s None o ≡ map (sent r) (text_handles types tags None o)
    own_sent (Close o p) around k ty met [] e f done l = refl
    own_sent (Close o p) around k ty met (i ∷ is) e f done l = absurd l
    own_sent (Arm o p u) around k ty met [] e f done l = absurd l
    own_sent (Arm o p u) around k ty met (i ∷ is) e f done l = absurd l
    own_sent (Skip o p u) around k ty met [] e f done l = absurd l
    own_sent (Skip o p u) around k ty met (i ∷ is) e f done l = absurd l
    own_sent (Run o p u) around k ty met [] e f done l = absurd l
    own_sent (Run o p u) around k ty met (i ∷ is) e f done (runs, place, lie) = own_sent u around k ty met is e f done lie
    own_sent (Nest o p w u) around k ty met [] e f done l = absurd l
    own_sent (Nest o p w u) around k ty met (i ∷ is) e f done (q, nests, place, fresh, z, found, opens, half, inside, lie) =
        let x = opened_is o z.ty opens in
        ap (λ (rs : Option (List ValType)). catches s rs w ++ catches s None u) x.0
        ∙ ap (λ (l : List Signature). l ++ catches s None u) (text_sent w (k ∷ around) q.first z.ty (with q.first met) z.instrs z.end q.more q.finish half (opened_gives types tags o.items) x.1 inside)
        ∙ ap (λ (l : List Signature). map (sent r) (text_handles types tags (opened_gives types tags o.items) w) ++ l) (own_sent u around k ty half is e f done lie)
        ∙ sym (map-append (sent r) (text_handles types tags (opened_gives types tags o.items) w) (text_handles types tags None u))

    pub body_sent : (o : OpTree) → StandsAs (meaning s) c o → catches s None o ≡ map (sent r) (text_handles types tags None o)
    body_sent o h = own_sent o [] 0 h.ty (with 0 none) h.enters.seq.instrs h.enters.seq.end Ended h.done h.enters.lie
