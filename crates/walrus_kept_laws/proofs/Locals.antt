-- Lemmas: the types of the locals that a body uses, by their ids and by their places.
use Rattle.std.proofs.Common.{◌≡◌, ◌∙◌, ◌⊎◌, ◌+◌, ℕ, zero, suc, Bool, true, false, not, ◌&&◌, ◌||◌, List, [], ◌∷◌, ◌++◌, length, map, Option, Some, None, refl, sym, ap, subst, inl, inr, arith, cond, if◌then◌else◌}
use Rattle.std.specs.Prelude.{◌==◌, slice_get}
use Rattle.std.specs.List.{AllZip, flat_map, filter}
use Rattle.std.proofs.lemmas.Bool.{cases_eq, eq-eqb, ne_eqb, false≢true}
use Rattle.wasm_references.specs.wasm_grammar.Modules.{Placed}
use Rattle.wasm_references.specs.wasm_operators.Items.{Space, Types, Functions, Tables, Memories, Tags, Globals, ElementSegments, DataSegments, Locals, Labels, Item, Names, Number, S32, S64, Bits, Byte, Bytes, Heap, Block, Access, ManyLabels, ManyValues, ManyClauses}
use Rattle.wasm_references.specs.wasm_operators.declared.block_type.BlockType.{BlockType}
use Rattle.wasm_references.specs.wasm_operators.declared.block_type.BlockType.TheVariants as blocks
use Rattle.wasm_references.specs.wasm_operators.declared.clause.Clause.{Clause}
use Rattle.wasm_references.specs.wasm_operators.declared.clause.Clause.TheVariants as handlers
use Rattle.wasm_references.specs.wasm_operators.wasm_ref_types.declared.heap.HeapType.{HeapType}
use Rattle.wasm_references.specs.wasm_operators.wasm_ref_types.declared.heap.HeapType.TheVariants.{Abstract, Concrete, Exact}
use Rattle.wasm_references.specs.wasm_operators.wasm_ref_types.declared.index.UnpackedIndex.{UnpackedIndex}
use Rattle.wasm_references.specs.wasm_operators.wasm_ref_types.declared.index.UnpackedIndex.TheVariants.{Module, RecGroup, Id}
use Rattle.wasm_references.specs.wasm_operators.wasm_ref_types.declared.value.ValType.{ValType as WrittenValue}
use Rattle.wasm_references.specs.wasm_operators.wasm_ref_types.declared.value.ValType.TheVariants.{I32, I64, F32, F64, V128, Ref}
use Rattle.wasm_references.specs.wasm_operators.Names.{Name, index_names, heap_names, value_names, block_names, clause_names, label_name, item_names, operator_names}
use Rattle.walrus_meaning.specs.walrus_local_function.walrus_body_locals.wasm_normal_form.Locals.{Key, key_cmp, is_less, insert_key, in_order, numbered}
use Rattle.walrus_meaning.specs.walrus_local_function.walrus_body_locals.wasm_normal_form.Bodies.{local_in}
use Rattle.walrus_walks.specs.walrus_forms.declared.value.ValType.{ValType}
use Rattle.walrus_walks.specs.walrus_instr.walrus_items.declared.local.Local.{Local}
use Rattle.walrus_meaning.specs.walrus_local_function.declared.local_function.LocalFunction.{LocalFunction}
use Rattle.walrus_meaning.specs.Bodies.{depth_of, has_number, local_ids, named_locals, own_operators, used_locals}
use Rattle.walrus_pass_laws.specs.Locals.{type_of_local}
use Rattle.walrus_pass_laws.proofs.Sets.{In, in_map, map_in, in_flat, flat_in, in_left, in_right}
use Rattle.walrus_kept_laws.proofs.Refs.{at_right}
use Rattle.walrus_kept_laws.proofs.Types.{zip_join, zip_many}

-- ---- the locals among the names of an operator

abbrev space_number : Space → ℕ
space_number Locals = 0
space_number _ = 1

other_space : (s : Space) (k n : ℕ) → space_number s ≡ 1 → ◌≡◌ {A = Name} (s, k) (Locals, n) → ⊥
other_space s k n one e = (let same : space_number s ≡ 0 = ap (λ (x : Name). space_number x.0) e in omega (arith, one, same))

index_none : (index : UnpackedIndex) (n : ℕ) → In (index_names index) (Locals, n) → ⊥
index_none (Module k) n (inl e) = other_space Types k n refl e
index_none (Module k) n (inr h) = h
index_none (RecGroup k) n h = h
index_none (Id k) n h = h

heap_none : (ty : HeapType) (n : ℕ) → In (heap_names ty) (Locals, n) → ⊥
heap_none (Abstract shared ty) n h = h
heap_none (Concrete index) n h = index_none index n h
heap_none (Exact index) n h = index_none index n h

value_none : (ty : WrittenValue) (n : ℕ) → In (value_names ty) (Locals, n) → ⊥
value_none I32 n h = h
value_none I64 n h = h
value_none F32 n h = h
value_none F64 n h = h
value_none V128 n h = h
value_none (Ref ty) n h = heap_none ty.heap_type n h

block_none : (ty : BlockType) (n : ℕ) → In (block_names ty) (Locals, n) → ⊥
block_none blocks.Empty n h = h
block_none (blocks.Value ty) n h = value_none ty n h
block_none (blocks.Type k) n (inl e) = other_space Types k n refl e
block_none (blocks.Type k) n (inr h) = h

one_none : (s : Space) (k n : ℕ) → space_number s ≡ 1 → In {A = Name} ((s, k) ∷ []) (Locals, n) → ⊥
one_none s k n one (inl e) = other_space s k n one e
one_none s k n one (inr h) = h

two_none : (tag label n : ℕ) → In {A = Name} ((Tags, tag) ∷ (Labels, label) ∷ []) (Locals, n) → ⊥
two_none tag label n (inl e) = other_space Tags tag n refl e
two_none tag label n (inr h) = one_none Labels label n refl h

clause_none : (c : Clause) (n : ℕ) → In (clause_names c) (Locals, n) → ⊥
clause_none (handlers.Catch tag label) n h = two_none tag label n h
clause_none (handlers.CatchRef tag label) n h = two_none tag label n h
clause_none (handlers.CatchAll label) n h = one_none Labels label n refl h
clause_none (handlers.CatchAllRef label) n h = one_none Labels label n refl h

labels_none : (ns : List ℕ) (n : ℕ) → In (map label_name ns) (Locals, n) → ⊥
labels_none ns n h = (let r = in_map label_name ns (Locals, n) h in other_space Labels r.0 n refl r.2)

by_space : (s : Space) (k n : ℕ) → In {A = Name} ((s, k) ∷ []) (Locals, n) → In (local_in (Names s k)) n
by_space Locals k n (inl e) = inl (ap (λ (x : Name). x.1) e)
by_space Locals k n (inr h) = absurd h
by_space Types k n h = absurd (one_none Types k n refl h)
by_space Functions k n h = absurd (one_none Functions k n refl h)
by_space Tables k n h = absurd (one_none Tables k n refl h)
by_space Memories k n h = absurd (one_none Memories k n refl h)
by_space Tags k n h = absurd (one_none Tags k n refl h)
by_space Globals k n h = absurd (one_none Globals k n refl h)
by_space ElementSegments k n h = absurd (one_none ElementSegments k n refl h)
by_space DataSegments k n h = absurd (one_none DataSegments k n refl h)
by_space Labels k n h = absurd (one_none Labels k n refl h)

local_from : (x : Item) (n : ℕ) → In (item_names x) (Locals, n) → In (local_in x) n
local_from (Names s k) n h = by_space s k n h
local_from (Number k) n h = absurd h
local_from (S32 z) n h = absurd h
local_from (S64 z) n h = absurd h
local_from (Bits size k) n h = absurd h
local_from (Byte b) n h = absurd h
local_from (Bytes run) n h = absurd h
local_from (Heap ty) n h = absurd (heap_none ty n h)
local_from (Block ty) n h = absurd (block_none ty n h)
local_from (Access a) n h = absurd (one_none Memories a.memory n refl h)
local_from (ManyLabels ns) n h = absurd (labels_none ns n h)
local_from (ManyValues tys) n h = absurd (let r = in_flat value_names tys (Locals, n) h in value_none r.0 n r.2)
local_from (ManyClauses cs) n h = absurd (let r = in_flat clause_names cs (Locals, n) h in clause_none r.0 n r.2)

abbrev local_name : ℕ → Name
local_name n = (Locals, n)

by_local : (s : Space) (k n : ℕ) → In (local_in (Names s k)) n → In {A = Name} ((s, k) ∷ []) (Locals, n)
by_local Locals k n (inl e) = inl (ap local_name e)
by_local Locals k n (inr h) = absurd h
by_local _ k n h = absurd h

local_to : (x : Item) (n : ℕ) → In (local_in x) n → In (item_names x) (Locals, n)
local_to (Names s k) n h = by_local s k n h
local_to _ n h = absurd h

abbrev names_of : List Placed → List Name
names_of ops = flat_map (λ (o : Placed). operator_names o.op) ops

named_from : (ops : List Placed) (n : ℕ) → In (names_of ops) (Locals, n) → In (named_locals ops) n
named_from ops n h =
    let o = in_flat (λ (o : Placed). operator_names o.op) ops (Locals, n) h in
    let x = in_flat item_names o.0.op.items (Locals, n) o.2 in
    flat_in (λ (o : Placed). flat_map local_in o.op.items) ops o.0 n o.1 (flat_in local_in o.0.op.items x.0 n x.1 (local_from x.0 n x.2))

named_to : (ops : List Placed) (n : ℕ) → In (named_locals ops) n → In (names_of ops) (Locals, n)
named_to ops n h =
    let o = in_flat (λ (o : Placed). flat_map local_in o.op.items) ops n h in
    let x = in_flat local_in o.0.op.items n o.2 in
    flat_in (λ (o : Placed). operator_names o.op) ops o.0 (Locals, n) o.1 (flat_in item_names o.0.op.items x.0 (Locals, n) x.1 (local_to x.0 n x.2))

-- ---- numbers in a list

or_cases : (a b : Bool) → (a || b) ≡ true → (a ≡ true) ⊎ (b ≡ true)
or_cases true b e = inl refl
or_cases false b e = inr e

or_left : (a b : Bool) → a ≡ true → (a || b) ≡ true
or_left true b e = refl
or_left false b e = absurd (false≢true e)

or_right : (a b : Bool) → b ≡ true → (a || b) ≡ true
or_right true b e = refl
or_right false b e = e

and_cases : (a b : Bool) → (a && b) ≡ true → (a ≡ true) × (b ≡ true)
and_cases true b e = (refl, e)
and_cases false b e = absurd (false≢true e)

and_join : (a b : Bool) → a ≡ true → b ≡ true → (a && b) ≡ true
and_join true b e f = f
and_join false b e f = absurd (false≢true e)

is_same : (m n : ℕ) → (m == n) ≡ true → m ≡ n
is_same m n e = elim (cases_eq m n) as (λ _. m ≡ n) [ inl s ↦ s | inr other ↦ absurd (false≢true (sym (ne_eqb m n other) ∙ e)) ]

has_in : (ns : List ℕ) (n : ℕ) → has_number ns n ≡ true → In ns n
has_in [] n e = absurd (false≢true e)
has_in (m ∷ ns) n e = elim (or_cases (m == n) (has_number ns n) e) as (λ _. In (m ∷ ns) n) [ inl l ↦ inl (is_same m n l) | inr r ↦ inr (has_in ns n r) ]

in_has : (ns : List ℕ) (n : ℕ) → In ns n → has_number ns n ≡ true
in_has [] n h = absurd h
in_has (m ∷ ns) n (inl e) = or_left (m == n) (has_number ns n) (eq-eqb m n e)
in_has (m ∷ ns) n (inr h) = or_right (m == n) (has_number ns n) (in_has ns n h)

not_has : (ns : List ℕ) (n : ℕ) → not (has_number ns n) ≡ true → In ns n → ⊥
not_has ns n e h = absurd (false≢true (sym (ap not (in_has ns n h)) ∙ e))

not_true : (b : Bool) → (b ≡ true → ⊥) → not b ≡ true
not_true true other = absurd (other refl)
not_true false other = refl

-- ---- keys, in order and filtered

split_insert : (j k x : Key) (xs : List Key) (b : Bool) → (In (insert_key j xs) k → (j ≡ k) ⊎ In xs k) → In (if b then x ∷ insert_key j xs else j ∷ (x ∷ xs)) k → (j ≡ k) ⊎ In (x ∷ xs) k
split_insert j k x xs true rest (inl e) = inr (inl e)
split_insert j k x xs true rest (inr i) = elim (rest i) as (λ _. (j ≡ k) ⊎ In (x ∷ xs) k) [ inl e ↦ inl e | inr h ↦ inr (inr h) ]
split_insert j k x xs false rest h = h

in_insert : (j k : Key) (ks : List Key) → In (insert_key j ks) k → (j ≡ k) ⊎ In ks k
in_insert j k [] h = h
in_insert j k (x ∷ xs) h = split_insert j k x xs (is_less (key_cmp x j)) (in_insert j k xs) h

join_insert : (j k x : Key) (xs : List Key) (b : Bool) → ((j ≡ k) ⊎ In xs k → In (insert_key j xs) k) → (j ≡ k) ⊎ In (x ∷ xs) k → In (if b then x ∷ insert_key j xs else j ∷ (x ∷ xs)) k
join_insert j k x xs true rest (inl e) = inr (rest (inl e))
join_insert j k x xs true rest (inr (inl e)) = inl e
join_insert j k x xs true rest (inr (inr i)) = inr (rest (inr i))
join_insert j k x xs false rest h = h

insert_in : (j k : Key) (ks : List Key) → (j ≡ k) ⊎ In ks k → In (insert_key j ks) k
insert_in j k [] h = h
insert_in j k (x ∷ xs) h = join_insert j k x xs (is_less (key_cmp x j)) (insert_in j k xs) h

pub of_order : (k : Key) (ks : List Key) → In (in_order ks) k → In ks k
of_order k [] h = h
of_order k (x ∷ xs) h = elim (in_insert x k (in_order xs) h) as (λ _. In (x ∷ xs) k) [ inl e ↦ inl e | inr i ↦ inr (of_order k xs i) ]

to_order : (k : Key) (ks : List Key) → In ks k → In (in_order ks) k
to_order k [] h = h
to_order k (x ∷ xs) (inl e) = insert_in x k (in_order xs) (inl e)
to_order k (x ∷ xs) (inr i) = insert_in x k (in_order xs) (inr (to_order k xs i))

module _ (p : Key → Bool) where
  split_filter : (k x : Key) (xs : List Key) (b : Bool) → p x ≡ b → (In (filter p xs) k → (p k ≡ true) × In xs k) → In (cond b (x ∷ filter p xs) (filter p xs)) k → (p k ≡ true) × In (x ∷ xs) k
  split_filter k x xs true e rest (inl q) = (ap p (sym q) ∙ e, inl q)
  split_filter k x xs true e rest (inr i) = (let r = rest i in (r.0, inr r.1))
  split_filter k x xs false e rest i = (let r = rest i in (r.0, inr r.1))

  pub in_filter : (k : Key) (ks : List Key) → In (filter p ks) k → (p k ≡ true) × In ks k
  in_filter k [] h = absurd h
  in_filter k (x ∷ xs) h = split_filter k x xs (p x) refl (in_filter k xs) h

  join_filter : (k x : Key) (xs : List Key) (b : Bool) → p x ≡ b → p k ≡ true → (In xs k → In (filter p xs) k) → In (x ∷ xs) k → In (cond b (x ∷ filter p xs) (filter p xs)) k
  join_filter k x xs true e t rest (inl q) = inl q
  join_filter k x xs true e t rest (inr i) = inr (rest i)
  join_filter k x xs false e t rest (inl q) = absurd (false≢true (sym e ∙ ap p q ∙ t))
  join_filter k x xs false e t rest (inr i) = rest i

  filter_in : (k : Key) (ks : List Key) → p k ≡ true → In ks k → In (filter p ks) k
  filter_in k [] t h = absurd h
  filter_in k (x ∷ xs) t h = join_filter k x xs (p x) refl t (filter_in k xs t) h

abbrev key : ValType → ℕ → Key
key ty n = (ty, n)

pub in_numbered : (from : ℕ) (tys : List ValType) (k : Key) → In (numbered from tys) k → (p : ℕ) × (k.1 ≡ from + p) × (slice_get tys p ≡ Some k.0)
in_numbered from [] k h = absurd h
in_numbered from (ty ∷ tys) k (inl e) = (0, (let s : from ≡ k.1 = ap (λ (x : Key). x.1) e in omega (arith, s)), ap (λ (x : Key). Some x.0) e)
in_numbered from (ty ∷ tys) k (inr h) = (let r = in_numbered (suc from) tys k h in (suc r.0, omega (arith, r.1), r.2))

numbered_in : (from : ℕ) (tys : List ValType) (p : ℕ) (ty : ValType) → slice_get tys p ≡ Some ty → In (numbered from tys) (key ty (from + p))
numbered_in from [] p ty e = absurd (let z : ⊥ = cc in z)
numbered_in from (t ∷ tys) zero ty e = inl (ap (λ (n : ℕ). key t n) (let s : from ≡ from + zero = omega arith in s) ∙ ap (λ (u : ValType). key u (from + zero)) (let s : t ≡ ty = cc in s))
numbered_in from (t ∷ tys) (suc p) ty e = inr (subst (λ (n : ℕ). In (numbered (suc from) tys) (key ty n)) (let s : suc from + p ≡ from + suc p = omega arith in s) (numbered_in (suc from) tys p ty e))

typed : (locals : List Local) (n : ℕ) → slice_get (map (λ (l : Local). l.ty) locals) n ≡ type_of_local locals n
typed [] n = refl
typed (l ∷ locals) zero = refl
typed (l ∷ locals) (suc n) = typed locals n

-- ---- declared locals

module _ (locals : List Local) (local : LocalFunction) where
  abbrev types : List ValType
  types = map (λ (l : Local). l.ty) locals

  abbrev test : Key → Bool
  test k = has_number (named_locals (own_operators local)) k.1 && not (has_number local.args.items k.1)

  abbrev keys : List Key
  keys = used_locals locals local

  abbrev ids : List ℕ
  ids = local_ids locals local

  -- a local that is declared has its own type
  key_is : (k : Key) → In keys k → type_of_local locals k.1 ≡ Some k.0
  key_is k h =
      let f = in_filter test k (numbered 0 types) (of_order k (filter test (numbered 0 types)) h) in
      let n = in_numbered 0 types k f.1 in
      let same : n.0 ≡ k.1 = omega (arith, n.1) in
      sym (typed locals k.1) ∙ ap (slice_get types) (sym same) ∙ n.2

  -- one that is named and known is an argument, or declared
  named_in : (id : ℕ) (ty : ValType) → In (names_of (own_operators local)) (Locals, id) → type_of_local locals id ≡ Some ty → In ids id
  named_in id ty c is = by (has_number local.args.items id) refl
    where
      by : (b : Bool) → has_number local.args.items id ≡ b → In ids id
      by true e = in_left local.args.items (map (λ (k : Key). k.1) keys) id (has_in local.args.items id e)
      by false e =
          let named : has_number (named_locals (own_operators local)) id ≡ true = in_has (named_locals (own_operators local)) id (named_from (own_operators local) id c) in
          let apart : not (has_number local.args.items id) ≡ true = ap not e in
          let there : In (numbered 0 types) (key ty id) = subst (λ (n : ℕ). In (numbered 0 types) (key ty n)) (let s : 0 + id ≡ id = omega arith in s) (numbered_in 0 types id ty (typed locals id ∙ is)) in
          in_right local.args.items (map (λ (k : Key). k.1) keys) id
          (map_in (λ (k : Key). k.1) keys (key ty id) (to_order (key ty id) (filter test (numbered 0 types)) (filter_in test (key ty id) (numbered 0 types) (and_join _ _ named apart) there)))

  -- ---- each id beside its type

  abbrev HasType : ℕ → ValType → Type 0
  HasType id ty = type_of_local locals id ≡ Some ty

  keys_beside : (ks : List Key) → ((k : Key) → In ks k → type_of_local locals k.1 ≡ Some k.0) → AllZip HasType (map (λ (k : Key). k.1) ks) (map (λ (k : Key). k.0) ks)
  keys_beside [] h = tt
  keys_beside (k ∷ ks) h = (h k (inl refl), keys_beside ks (λ j i. h j (inr i)))

  beside_each : (xs : List ℕ) (ys : List ValType) → length xs ≡ length ys → ((p id : ℕ) → slice_get xs p ≡ Some id → (ty : ValType) × (slice_get ys p ≡ Some ty) × HasType id ty) → AllZip HasType xs ys
  beside_each [] [] e h = tt
  beside_each [] (y ∷ ys) e h = absurd (omega (arith, e))
  beside_each (x ∷ xs) [] e h = absurd (omega (arith, e))
  beside_each (x ∷ xs) (y ∷ ys) e h =
      (let t = h zero x refl in t.2 ∙ sym t.1, beside_each xs ys (omega (arith, e)) (λ p id at. h (suc p) id at))

  found_or : (xs : List ℕ) (id : ℕ) → (slice_get xs (depth_of xs id) ≡ Some id) ⊎ ((depth_of xs id ≡ length xs) × (In xs id → ⊥))
  found_or [] id = inr (refl, λ h. h)
  found_or (x ∷ xs) id = elim (cases_eq x id) as (λ _. (slice_get (x ∷ xs) (depth_of (x ∷ xs) id) ≡ Some id) ⊎ ((depth_of (x ∷ xs) id ≡ length (x ∷ xs)) × (In (x ∷ xs) id → ⊥))) [
    | inl e ↦ inl (ap (λ (b : Bool). slice_get (x ∷ xs) (if b then 0 else suc (depth_of xs id))) (eq-eqb x id e) ∙ ap (λ (n : ℕ). Some n) e)
    | inr ne ↦ (
        let on : depth_of (x ∷ xs) id ≡ suc (depth_of xs id) = ap (λ (b : Bool). if b then 0 else suc (depth_of xs id)) (ne_eqb x id ne) in
        elim (found_or xs id) as (λ _. (slice_get (x ∷ xs) (depth_of (x ∷ xs) id) ≡ Some id) ⊎ ((depth_of (x ∷ xs) id ≡ length (x ∷ xs)) × (In (x ∷ xs) id → ⊥))) [
          | inl f ↦ inl (ap (slice_get (x ∷ xs)) on ∙ f)
          | inr f ↦ inr (on ∙ ap suc f.0, λ h. elim h as (λ _. ⊥) [ inl e ↦ ne e | inr i ↦ f.1 i ])
        ]
        )
  ]

  past_end : (ys : List ValType) → slice_get ys (length ys) ≡ None
  past_end [] = refl
  past_end (y ∷ ys) = past_end ys

  module _ (params : List ValType) (many : length local.args.items ≡ length params)
      (given : (p id : ℕ) → slice_get local.args.items p ≡ Some id → (ty : ValType) × (slice_get params p ≡ Some ty) × HasType id ty) where
    all_beside : AllZip HasType ids (params ++ map (λ (k : Key). k.0) keys)
    all_beside = zip_join HasType local.args.items (map (λ (k : Key). k.1) keys) params (map (λ (k : Key). k.0) keys) (beside_each local.args.items params many given) (keys_beside keys key_is)

    -- by its place it has the type that it has by its id
    pub local_same : (id : ℕ) → In (flat_map (λ (o : Placed). operator_names o.op) (own_operators local)) (Locals, id)
        → slice_get (params ++ map (λ (k : Key). k.0) keys) (depth_of ids id) ≡ type_of_local locals id
    local_same id c = elim (found_or ids id) as (λ _. slice_get (params ++ map (λ (k : Key). k.0) keys) (depth_of ids id) ≡ type_of_local locals id) [
      | inl e ↦ (let t = at_right HasType ids (params ++ map (λ (k : Key). k.0) keys) all_beside (depth_of ids id) id e in t.1 ∙ sym t.2)
      | inr h ↦ ap (slice_get (params ++ map (λ (k : Key). k.0) keys)) (h.0 ∙ zip_many HasType ids (params ++ map (λ (k : Key). k.0) keys) all_beside) ∙ past_end (params ++ map (λ (k : Key). k.0) keys) ∙ sym (unknown (type_of_local locals id) refl h.1)
    ]
      where
        unknown : (o : Option ValType) → type_of_local locals id ≡ o → (In ids id → ⊥) → type_of_local locals id ≡ None
        unknown None e h = e
        unknown (Some ty) e h = absurd (h (named_in id ty c e))
