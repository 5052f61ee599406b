-- Lemmas: whole bodies in their normal form, renamed.
use Rattle.std.specs.Prelude.{ℕ, ◌≡◌, ◌<◌, ◌≤◌, ◌+◌, ◌==◌, ◌||◌, ◌⊎◌, Bool, true, false, List, [], ◌∷◌, length, map, Option, refl}
use Rattle.std.specs.List.{AllByRecursion, flat_map, list_any}
use Rattle.std.proofs.Common.{ap, sym, ◌∙◌, subst, arith, inl, inr}
use Rattle.std.proofs.lemmas.Bool.{eq-eqb, ltb-true}
use Rattle.std.proofs.lemmas.List.{length-map}
use Rattle.walrus_forms.specs.Renaming.{ValueBelow, renamed_value}
use Rattle.walrus_forms.specs.declared.value.HeapType.{HeapType}
use Rattle.walrus_forms.specs.declared.value.HeapType.TheVariants as words
use Rattle.walrus_forms.specs.declared.value.ValType.{ValType}
use Rattle.walrus_forms.specs.declared.value.ValType.TheVariants.{I32, I64, F32, F64, V128, Ref}
use Rattle.wasm_ruled_normal.specs.wasm_ruled_modules.wasm_module_rules.wasm_modules.wasm_body_grammar.Bodies.{frames_of, most_locals}
use Rattle.wasm_ruled_normal.specs.wasm_ruled_modules.wasm_module_rules.wasm_modules.wasm_body_grammar.Frames.{Frame, Plain, label_count, turned}
use Rattle.wasm_ruled_normal.specs.wasm_ruled_modules.wasm_module_rules.wasm_modules.wasm_body_grammar.Rules.{Around, room}
use Rattle.wasm_ruled_normal.specs.wasm_ruled_modules.wasm_module_rules.wasm_modules.wasm_body_grammar.wasm_grammar.Modules as grammar
use Rattle.wasm_ruled_normal.specs.wasm_ruled_modules.wasm_module_rules.wasm_modules.wasm_body_grammar.wasm_grammar.States.{types_of}
use Rattle.wasm_ruled_normal.specs.wasm_ruled_modules.wasm_module_rules.wasm_modules.wasm_body_grammar.wasm_operators.NameLaws.{same}
use Rattle.wasm_ruled_normal.specs.wasm_ruled_modules.wasm_module_rules.wasm_modules.wasm_body_grammar.wasm_operators.Names.{Name, Renaming, block_names, clause_names, heap_names, index_names, item_names, label_name, operator_names, renamed_block, renamed_clause, renamed_heap, renamed_item, renamed_value as renamed_read, value_names}
use Rattle.wasm_ruled_normal.specs.wasm_ruled_modules.wasm_module_rules.wasm_modules.wasm_body_grammar.wasm_operators.Items.{Types, Functions, Tables, Memories, Tags, Globals, ElementSegments, DataSegments, Locals, Labels, Item, Names, Number, S32, S64, Bits, Byte, Bytes, Heap, Block, Access, ManyLabels, ManyValues, ManyClauses}
use Rattle.wasm_ruled_normal.specs.wasm_ruled_modules.wasm_module_rules.wasm_modules.wasm_body_grammar.wasm_operators.declared.block_type.BlockType.{BlockType}
use Rattle.wasm_ruled_normal.specs.wasm_ruled_modules.wasm_module_rules.wasm_modules.wasm_body_grammar.wasm_operators.declared.block_type.BlockType.TheVariants as blocks
use Rattle.wasm_ruled_normal.specs.wasm_ruled_modules.wasm_module_rules.wasm_modules.wasm_body_grammar.wasm_operators.declared.clause.Clause.{Clause}
use Rattle.wasm_ruled_normal.specs.wasm_ruled_modules.wasm_module_rules.wasm_modules.wasm_body_grammar.wasm_operators.declared.clause.Clause.TheVariants as handlers
use Rattle.wasm_ruled_normal.specs.wasm_ruled_modules.wasm_module_rules.wasm_modules.wasm_body_grammar.wasm_operators.wasm_ref_types.Reference.{reference}
use Rattle.wasm_ruled_normal.specs.wasm_ruled_modules.wasm_module_rules.wasm_modules.wasm_body_grammar.wasm_operators.wasm_ref_types.declared.heap.HeapType.{HeapType as ReadHeap}
use Rattle.wasm_ruled_normal.specs.wasm_ruled_modules.wasm_module_rules.wasm_modules.wasm_body_grammar.wasm_operators.wasm_ref_types.declared.heap.HeapType.TheVariants.{Abstract, Concrete, Exact}
use Rattle.wasm_ruled_normal.specs.wasm_ruled_modules.wasm_module_rules.wasm_modules.wasm_body_grammar.wasm_operators.wasm_ref_types.declared.index.UnpackedIndex.{UnpackedIndex}
use Rattle.wasm_ruled_normal.specs.wasm_ruled_modules.wasm_module_rules.wasm_modules.wasm_body_grammar.wasm_operators.wasm_ref_types.declared.index.UnpackedIndex.TheVariants.{Module, RecGroup, Id}
use Rattle.wasm_ruled_normal.specs.wasm_ruled_modules.wasm_module_rules.wasm_modules.wasm_body_grammar.wasm_operators.wasm_ref_types.declared.value.ValType.{ValType as ReadValue}
use Rattle.wasm_ruled_normal.specs.wasm_ruled_modules.wasm_module_rules.wasm_modules.wasm_body_grammar.wasm_operators.wasm_ref_types.declared.value.ValType.TheVariants as values
use Rattle.wasm_ruled_normal.specs.wasm_ruled_modules.wasm_module_rules.wasm_modules.wasm_body_grammar.wasm_operators.Operators.{flow_of}
use Rattle.wasm_ruled_normal.specs.wasm_normal_form.Bodies.{is_used, local_in, locals_named, new_number, renamed_local, used_keys, with_locals}
use Rattle.wasm_ruled_normal.specs.wasm_normal_form.Locals.{Key}
use Rattle.wasm_ruled_normal.specs.wasm_normal_form.Normal.{normal_ops}
use Rattle.wasm_ruled_normal.specs.wasm_normal_form.Roles.{Placed}
use Rattle.wasm_ruled_normal.specs.wasm_ruled_modules.Rules.{AreOperators, GroupsBelow, IsBody, LocalsBelow}
use Rattle.wasm_ruled_normal.specs.wasm_run_names.Picks.{block_pick}
use Rattle.wasm_ruled_renamed.proofs.Locals.{keys_below, keys_length, number_small}
use Rattle.wasm_ruled_renamed.proofs.Renaming.{operators_renamed}
use Rattle.wasm_ruled_normal.proofs.Tests.{Within, all_join, all_split, names_within, passes}
use Rattle.wasm_ruled_normal.specs.Normal.{NormalOperatorsAreRuled, located, text_of}
use Rattle.wasm_ruled_renamed.specs.Bodies.{NormalBodiesAreRuled, Reaches, RenamedBodiesAreRuled, SameRenamedIsNormal, with_numbers}
use Rattle.wasm_ruled_renamed.specs.Renamed.{IsThere, Keeps, NamesThere, renamed_placed}

-- ---- locals are renamed by a renaming that keeps all else

module _ (f : ℕ → ℕ) where
  abbrev locals_by : Renaming
  locals_by = with_numbers f same

  heap_stays : (ty : ReadHeap) → renamed_heap locals_by ty ≡ ty
  heap_stays (Abstract shared ty) = refl
  heap_stays (Concrete (Module n)) = refl
  heap_stays (Concrete (RecGroup n)) = refl
  heap_stays (Concrete (Id id)) = refl
  heap_stays (Exact (Module n)) = refl
  heap_stays (Exact (RecGroup n)) = refl
  heap_stays (Exact (Id id)) = refl

  value_stays : (ty : ReadValue) → renamed_read locals_by ty ≡ ty
  value_stays values.I32 = refl
  value_stays values.I64 = refl
  value_stays values.F32 = refl
  value_stays values.F64 = refl
  value_stays values.V128 = refl
  value_stays (values.Ref ty) = ap (λ (h : ReadHeap). values.Ref (reference ty.nullable h)) (heap_stays ty.heap_type)

  block_stays : (ty : BlockType) → renamed_block locals_by ty ≡ ty
  block_stays blocks.Empty = refl
  block_stays (blocks.Value ty) = ap blocks.Value (value_stays ty)
  block_stays (blocks.Type n) = refl

  clause_stays : (c : Clause) → renamed_clause locals_by c ≡ c
  clause_stays (handlers.Catch tag label) = refl
  clause_stays (handlers.CatchRef tag label) = refl
  clause_stays (handlers.CatchAll label) = refl
  clause_stays (handlers.CatchAllRef label) = refl

  all_stay : {A : Type 0} (g : A → A) → ((x : A) → g x ≡ x) → (xs : List A) → map g xs ≡ xs
  all_stay g each [] = refl
  all_stay {A} g each (x ∷ xs) = ap (λ (y : A). y ∷ map g xs) (each x) ∙ ap (λ (l : List A). x ∷ l) (all_stay g each xs)

  item_by : (x : Item) → renamed_local f x ≡ renamed_item locals_by x
  item_by (Names Locals n) = refl
  item_by (Names Types n) = refl
  item_by (Names Functions n) = refl
  item_by (Names Tables n) = refl
  item_by (Names Memories n) = refl
  item_by (Names Tags n) = refl
  item_by (Names Globals n) = refl
  item_by (Names ElementSegments n) = refl
  item_by (Names DataSegments n) = refl
  item_by (Names Labels n) = refl
  item_by (Number n) = refl
  item_by (S32 z) = refl
  item_by (S64 z) = refl
  item_by (Bits size n) = refl
  item_by (Byte b) = refl
  item_by (Bytes run) = refl
  item_by (Heap ty) = ap Heap (sym (heap_stays ty))
  item_by (Block ty) = ap Block (sym (block_stays ty))
  item_by (Access a) = refl
  item_by (ManyLabels ns) = ap ManyLabels (sym (all_stay (locals_by Labels) (λ n. refl) ns))
  item_by (ManyValues tys) = ap ManyValues (sym (all_stay (renamed_read locals_by) value_stays tys))
  item_by (ManyClauses cs) = ap ManyClauses (sym (all_stay (renamed_clause locals_by) clause_stays cs))

  items_by : (xs : List Item) → map (renamed_local f) xs ≡ map (renamed_item locals_by) xs
  items_by [] = refl
  items_by (x ∷ xs) = ap (λ (y : Item). y ∷ map (renamed_local f) xs) (item_by x) ∙ ap (λ (l : List Item). renamed_item locals_by x ∷ l) (items_by xs)

  located_by : (at : Option ℕ → ℕ) (ops : List Placed) → map (located at) (map (with_locals f) ops) ≡ map (renamed_placed locals_by) (map (located at) ops)
  located_by at [] = refl
  located_by at (o ∷ ops) =
      ap (λ (xs : List Item). (let p : grammar.Placed = record { place = at o.place; op = record { code = o.op.code; items = xs } } in p) ∷ map (located at) (map (with_locals f) ops)) (items_by o.op.items)
      ∙ ap (λ (l : List grammar.Placed). renamed_placed locals_by (located at o) ∷ l) (located_by at ops)

-- ---- locals that are named are used

all_more : (n : ℕ) (ns xs : List ℕ) → AllByRecursion (λ (k : ℕ). list_any (λ m. m == k) ns ≡ true) xs → AllByRecursion (λ (k : ℕ). list_any (λ m. m == k) (n ∷ ns) ≡ true) xs
all_more n ns [] h = tt
all_more n ns (x ∷ xs) h = (ap (λ (b : Bool). n == x || b) h.0 ∙ or_true (n == x), all_more n ns xs h.1)
  where
    or_true : (b : Bool) → (b || true) ≡ true
    or_true true = refl
    or_true false = refl

all_any : (ns : List ℕ) → AllByRecursion (λ (k : ℕ). list_any (λ m. m == k) ns ≡ true) ns
all_any [] = tt
all_any (n ∷ ns) = (ap (λ (b : Bool). b || list_any (λ m. m == n) ns) (eq-eqb n n refl), all_more n ns ns (all_any ns))

flat_split : {A B : Type 0} (P : B → Type 0) (g : A → List B) (xs : List A) → AllByRecursion P (flat_map g xs) → AllByRecursion (λ (x : A). AllByRecursion P (g x)) xs
flat_split P g [] h = tt
flat_split P g (x ∷ xs) h = let both = all_split P (g x) (flat_map g xs) h in (both.0, flat_split P g xs both.1)

-- what an operator of a body names as a local
abbrev locals_of : Placed → List ℕ
locals_of o = flat_map local_in o.op.items

pub all_used : (ops : List Placed) → AllByRecursion (λ (o : Placed). AllByRecursion (λ (n : ℕ). is_used ops n ≡ true) (locals_of o)) ops
all_used ops = flat_split (λ (n : ℕ). is_used ops n ≡ true) locals_of ops (all_any (locals_named ops))

-- ---- what they name has its image

module _ (r : Renaming) (a b : Around) (old new : ℕ) (number : ℕ → ℕ) (reaches : Reaches r a b) where
  abbrev Sent : Name → Type 0
  Sent n = IsThere b new n.0 (with_numbers number r n.0 n.1)

  -- a local that is named is one of those that are left
  abbrev Good : ℕ → Type 0
  Good n = n < old → number n < new

  module _ (labels : ℕ) where
    abbrev Within_there : List Name → Type 0
    Within_there names = AllByRecursion (Within (room a old labels)) names

    abbrev All_sent : List Name → Type 0
    All_sent names = AllByRecursion Sent names

    index_sent : (i : UnpackedIndex) → Within_there (index_names i) → All_sent (index_names i)
    index_sent (Module n) h = (reaches Types n (ltb-true n (room a 0 0 Types) h.0), tt)
    index_sent (RecGroup n) h = tt
    index_sent (Id id) h = tt

    heap_sent : (ty : ReadHeap) → Within_there (heap_names ty) → All_sent (heap_names ty)
    heap_sent (Abstract shared ty) h = tt
    heap_sent (Concrete i) h = index_sent i h
    heap_sent (Exact i) h = index_sent i h

    value_sent : (ty : ReadValue) → Within_there (value_names ty) → All_sent (value_names ty)
    value_sent values.I32 h = tt
    value_sent values.I64 h = tt
    value_sent values.F32 h = tt
    value_sent values.F64 h = tt
    value_sent values.V128 h = tt
    value_sent (values.Ref ty) h = heap_sent ty.heap_type h

    values_sent : (tys : List ReadValue) → Within_there (flat_map value_names tys) → All_sent (flat_map value_names tys)
    values_sent [] h = tt
    values_sent (ty ∷ tys) h =
        let both = all_split (Within (room a old labels)) (value_names ty) (flat_map value_names tys) h in all_join Sent (value_names ty) (flat_map value_names tys) (value_sent ty both.0) (values_sent tys both.1)

    block_sent : (ty : BlockType) → Within_there (block_names ty) → All_sent (block_names ty)
    block_sent blocks.Empty h = tt
    block_sent (blocks.Value ty) h = value_sent ty h
    block_sent (blocks.Type n) h = (reaches Types n (ltb-true n (room a 0 0 Types) h.0), tt)

    clause_sent : (c : Clause) → Within_there (clause_names c) → All_sent (clause_names c)
    clause_sent (handlers.Catch tag label) h = (reaches Tags tag (ltb-true tag (room a 0 0 Tags) h.0), (tt, tt))
    clause_sent (handlers.CatchRef tag label) h = (reaches Tags tag (ltb-true tag (room a 0 0 Tags) h.0), (tt, tt))
    clause_sent (handlers.CatchAll label) h = (tt, tt)
    clause_sent (handlers.CatchAllRef label) h = (tt, tt)

    clauses_sent : (cs : List Clause) → Within_there (flat_map clause_names cs) → All_sent (flat_map clause_names cs)
    clauses_sent [] h = tt
    clauses_sent (c ∷ cs) h =
        let both = all_split (Within (room a old labels)) (clause_names c) (flat_map clause_names cs) h in all_join Sent (clause_names c) (flat_map clause_names cs) (clause_sent c both.0) (clauses_sent cs both.1)

    labels_sent : (ns : List ℕ) → All_sent (map label_name ns)
    labels_sent [] = tt
    labels_sent (n ∷ ns) = (tt, labels_sent ns)

    item_sent : (x : Item) → Within_there (item_names x) → AllByRecursion Good (local_in x) → All_sent (item_names x)
    item_sent (Names Locals n) h k = (k.0 (ltb-true n old h.0), tt)
    item_sent (Names Labels n) h k = (tt, tt)
    item_sent (Names Types n) h k = (reaches Types n (ltb-true n (room a 0 0 Types) h.0), tt)
    item_sent (Names Functions n) h k = (reaches Functions n (ltb-true n (room a 0 0 Functions) h.0), tt)
    item_sent (Names Tables n) h k = (reaches Tables n (ltb-true n (room a 0 0 Tables) h.0), tt)
    item_sent (Names Memories n) h k = (reaches Memories n (ltb-true n (room a 0 0 Memories) h.0), tt)
    item_sent (Names Tags n) h k = (reaches Tags n (ltb-true n (room a 0 0 Tags) h.0), tt)
    item_sent (Names Globals n) h k = (reaches Globals n (ltb-true n (room a 0 0 Globals) h.0), tt)
    item_sent (Names ElementSegments n) h k = (reaches ElementSegments n (ltb-true n (room a 0 0 ElementSegments) h.0), tt)
    item_sent (Names DataSegments n) h k = (reaches DataSegments n (ltb-true n (room a 0 0 DataSegments) h.0), tt)
    item_sent (Number n) h k = tt
    item_sent (S32 z) h k = tt
    item_sent (S64 z) h k = tt
    item_sent (Bits size n) h k = tt
    item_sent (Byte b) h k = tt
    item_sent (Bytes run) h k = tt
    item_sent (Heap ty) h k = heap_sent ty h
    item_sent (Block ty) h k = block_sent ty h
    item_sent (Access x) h k = (reaches Memories x.memory (ltb-true x.memory (room a 0 0 Memories) h.0), tt)
    item_sent (ManyLabels ns) h k = labels_sent ns
    item_sent (ManyValues tys) h k = values_sent tys h
    item_sent (ManyClauses cs) h k = clauses_sent cs h

    items_sent : (xs : List Item) → Within_there (flat_map item_names xs) → AllByRecursion Good (flat_map local_in xs) → All_sent (flat_map item_names xs)
    items_sent [] h k = tt
    items_sent (x ∷ xs) h k =
        let both = all_split (Within (room a old labels)) (item_names x) (flat_map item_names xs) h in
        let goods = all_split Good (local_in x) (flat_map local_in xs) k in
        all_join Sent (item_names x) (flat_map item_names xs) (item_sent x both.0 goods.0) (items_sent xs both.1 goods.1)

  pub all_sent : (at : Option ℕ → ℕ) (ops : List Placed) (frames : List Frame) → AreOperators a old frames (map (located at) ops) → AllByRecursion (λ (o : Placed). AllByRecursion Good (locals_of o)) ops
      → AllByRecursion (NamesThere (with_numbers number r) b new) (map (located at) ops)
  all_sent at [] frames h k = tt
  all_sent at (o ∷ ops) frames h k =
      let labels = label_count (flow_of o.op.code) frames in (
        items_sent labels o.op.items (names_within (room a old labels) (operator_names o.op) (passes a old frames o.op h.1).named) k.0,
        all_sent at ops (frames_of (turned (flow_of o.op.code) frames) frames) h.2 k.1,
      )

-- ---- whole bodies

all_later : {A : Type 0} (P Q : A → Type 0) → ((x : A) → P x → Q x) → (xs : List A) → AllByRecursion P xs → AllByRecursion Q xs
all_later P Q f [] h = tt
all_later P Q f (x ∷ xs) h = (f x h.0, all_later P Q f xs h.1)

module _ (normal : NormalOperatorsAreRuled) (at : Option ℕ → ℕ) (r : Renaming) (a b : Around) (params : ℕ) (x : grammar.Body) (below : GroupsBelow 0 a.filled.groups) (keeps : Keeps r a b) (reaches : Reaches r a b)
    (tys : List ValType) (many : length tys ≡ length x.locals) (named : LocalsBelow (length (types_of b.filled)) tys) (h : IsBody a params x) where
  abbrev ops : List Placed
  ops = normal_ops (block_pick a) (text_of x.operators)

  abbrev keys : List Key
  keys = used_keys params tys ops

  abbrev number : ℕ → ℕ
  number = new_number params keys

  abbrev left : List ValType
  left = map (λ (k : Key). k.0) keys

  left_length : length left ≡ length keys
  left_length = length-map keys (λ (k : Key). k.0)

  counted : (length x.locals ≡ 0) ⊎ (params + length x.locals ≤ most_locals) → (length left ≡ 0) ⊎ (params + length left ≤ most_locals)
  counted (inl e) = inl (let fewer = keys_length params tys ops in omega (arith, e, many, fewer, left_length))
  counted (inr le) = inr (let fewer = keys_length params tys ops in omega (arith, le, many, fewer, left_length))

  good : (n : ℕ) → is_used ops n ≡ true → n < params + length x.locals → number n < params + length left
  good n used lt =
      let small = number_small params tys ops n (omega (arith, lt, many)) used in
      subst (λ (m : ℕ). number n < params + m) (sym left_length) small

  ruled : AreOperators a (params + length x.locals) (Plain ∷ []) (map (located at) ops)
  ruled = normal at a (params + length x.locals) x.operators below h.operators

  there : AllByRecursion (NamesThere (with_numbers number r) b (params + length left)) (map (located at) ops)
  there =
      let used = all_later (λ (o : Placed). AllByRecursion (λ (n : ℕ). is_used ops n ≡ true) (locals_of o)) (λ (o : Placed). AllByRecursion (Good r a b (params + length x.locals) (params + length left) number reaches) (locals_of o))
      (λ o. all_later (λ (n : ℕ). is_used ops n ≡ true) (Good r a b (params + length x.locals) (params + length left) number reaches) good (locals_of o)) ops (all_used ops) in
      all_sent r a b (params + length x.locals) (params + length left) number reaches at ops (Plain ∷ []) ruled used

  pub whole : IsBody b params (record { locals = left; operators = map (renamed_placed (with_numbers number r)) (map (located at) ops) })
  whole = record {
    counted = counted h.counted;
    named = keys_below params tys ops (length (types_of b.filled)) named;
    operators = operators_renamed (with_numbers number r) a b (params + length x.locals) (params + length left) (Plain ∷ []) (map (located at) ops)
        (record { labels = keeps.labels; counted = keeps.counted; wide = keeps.wide; typed = keeps.typed }) there ruled;
  }

value_sent_below : (r : Renaming) (a b : Around) → Reaches r a b → (ty : ValType) → ValueBelow (length (types_of a.filled)) ty → ValueBelow (length (types_of b.filled)) (renamed_value (r Types) ty)
value_sent_below r a b reaches I32 h = tt
value_sent_below r a b reaches I64 h = tt
value_sent_below r a b reaches F32 h = tt
value_sent_below r a b reaches F64 h = tt
value_sent_below r a b reaches V128 h = tt
value_sent_below r a b reaches (Ref ty) h = go ty.nullable ty.heap_type h
  where
    go : (nullable : Bool) (heap : HeapType) → ValueBelow (length (types_of a.filled)) (Ref (record { nullable = nullable; heap_type = heap }))
        → ValueBelow (length (types_of b.filled)) (renamed_value (r Types) (Ref (record { nullable = nullable; heap_type = heap })))
    go nullable (words.Abstract abstract) h = tt
    go nullable (words.Shared abstract) h = tt
    go nullable (words.Concrete n) h = reaches Types n h
    go nullable (words.Exact n) h = reaches Types n h

locals_sent : (r : Renaming) (a b : Around) → Reaches r a b → (tys : List ValType) → LocalsBelow (length (types_of a.filled)) tys → LocalsBelow (length (types_of b.filled)) (map (renamed_value (r Types)) tys)
locals_sent r a b reaches [] h = tt
locals_sent r a b reaches (ty ∷ tys) h = (value_sent_below r a b reaches ty h.0, locals_sent r a b reaches tys h.1)

pub bodies_renamed : NormalOperatorsAreRuled → RenamedBodiesAreRuled
bodies_renamed normal at r a b params x below keeps reaches h =
    whole normal at r a b params x below keeps reaches (map (renamed_value (r Types)) x.locals) (length-map x.locals (renamed_value (r Types))) (locals_sent r a b reaches x.locals h.named) h

pub bodies_ruled : NormalOperatorsAreRuled → NormalBodiesAreRuled
bodies_ruled normal at a params x below h =
    let ops = normal_ops (block_pick a) (text_of x.operators) in
    let keys = used_keys params x.locals ops in
    let body : List grammar.Placed → grammar.Body = λ written. record { locals = map (λ (k : Key). k.0) keys; operators = written } in
    subst (λ (written : List grammar.Placed). IsBody a params (body written)) (sym (located_by (new_number params keys) at ops))
    (whole normal at same a a params x below (record { labels = λ n. refl; counted = λ e. e; wide = λ n e. e; typed = λ n lt e. e }) (λ space n k. k) x.locals refl h.named h)

-- ---- nothing renamed

local_stays : (ty : ValType) → renamed_value (same Types) ty ≡ ty
local_stays I32 = refl
local_stays I64 = refl
local_stays F32 = refl
local_stays F64 = refl
local_stays V128 = refl
local_stays (Ref ty) = go ty.nullable ty.heap_type
  where
    go : (nullable : Bool) (heap : HeapType) → renamed_value (same Types) (Ref (record { nullable = nullable; heap_type = heap })) ≡ Ref (record { nullable = nullable; heap_type = heap })
    go nullable (words.Abstract abstract) = refl
    go nullable (words.Shared abstract) = refl
    go nullable (words.Concrete n) = refl
    go nullable (words.Exact n) = refl

pub same_normal : SameRenamedIsNormal
same_normal at a params x =
    let ops = normal_ops (block_pick a) (text_of x.operators) in
    let keys : List ValType → List Key = λ tys. used_keys params tys ops in
    let body : List ValType → List grammar.Placed → grammar.Body = λ tys written. record { locals = map (λ (k : Key). k.0) (keys tys); operators = written } in
    ap (λ (tys : List ValType). body tys (map (renamed_placed (with_numbers (new_number params (keys tys)) same)) (map (located at) ops))) (all_stay (λ n. n) (renamed_value (same Types)) local_stays x.locals)
    ∙ ap (body x.locals) (sym (located_by (new_number params (keys x.locals)) at ops))
