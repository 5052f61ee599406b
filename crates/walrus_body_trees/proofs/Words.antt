-- Lemmas: what an instruction means is the operator that it was read from, renamed.
use Rattle.std.proofs.Common.{ℕ, zero, suc, ◌<◌, ◌≡◌, Bool, true, false, List, [], ◌∷◌, map, Option, Some, None, Ok, refl, sym, ap, subst, arith, ◌∙◌, inl, inr, eq-eqb, ne_eqb}
use Rattle.std.specs.Prelude.{◌+◌, ◌-◌, ◌==◌, ◌&&◌, ◌/◌, ◌%◌, nat_le, nat_lt, slice_get, if◌then◌else◌}
use Rattle.std.proofs.lemmas.Bool.{and_parts, eqb-true, leb-true, ltb-true}
use Rattle.wasm_features.specs.declared.WasmFeatures.{WasmFeatures}
use Rattle.walrus_meaning.specs.walrus_local_function.walrus_body_locals.wasm_ref_types.declared.heap.HeapType.{HeapType as WrittenHeap}
use Rattle.walrus_meaning.specs.walrus_body_writer.walrus_pairing.wasm_operators.declared.block_type.BlockType.{BlockType}
use Rattle.walrus_meaning.specs.walrus_body_writer.walrus_pairing.wasm_operators.declared.clause.Clause.{Clause}
use Rattle.walrus_meaning.specs.walrus_body_writer.walrus_pairing.wasm_operators.declared.clause.Clause.TheVariants as handlers
use Rattle.walrus_meaning.specs.walrus_body_writer.walrus_pairing.wasm_operators.Items.{Types, Tags, Labels, Item, Names, Byte, Heap, Block, ManyLabels, ManyClauses}
use Rattle.walrus_meaning.specs.walrus_local_function.walrus_body_parser.wasm_operators.declared.op_code.OpCode.{OpCode}
use Rattle.walrus_meaning.specs.walrus_local_function.walrus_body_parser.wasm_operators.declared.entry.Flow.TheVariants as flows
use Rattle.walrus_meaning.specs.walrus_local_function.walrus_body_parser.wasm_operators.Operators.{Seen}
use Rattle.walrus_meaning.specs.walrus_local_function.walrus_body_locals.wasm_body_grammar.wasm_operators.Names.{Renaming, renamed_block, renamed_clause, renamed_heap, renamed_item, renamed_operator}
use Rattle.wasm_operators.specs.Ranges.{OperatorFits}
use Rattle.walrus_meaning.specs.walrus_local_function.walrus_body_locals.wasm_normal_form.Normal.{picked, with_pick}
use Rattle.walrus_meaning.specs.walrus_body_writer.walrus_pairing.walrus_forms.declared.value.HeapType.{HeapType}
use Rattle.walrus_meaning.specs.walrus_body_writer.walrus_pairing.walrus_forms.declared.value.HeapType.TheVariants.{Abstract, Shared, Concrete, Exact}
use Rattle.walrus_meaning.specs.walrus_body_writer.walrus_body_env.walrus_instr.declared.instr.Instr.{Instr}
use Rattle.walrus_meaning.specs.walrus_body_writer.walrus_body_env.walrus_instr.declared.instr.Instr.TheVariants as instrs
use Rattle.walrus_meaning.specs.walrus_body_writer.walrus_body_env.walrus_instr.declared.instr.TryTableCatch.{TryTableCatch}
use Rattle.walrus_meaning.specs.walrus_body_writer.walrus_body_env.walrus_instr.declared.seq.InstrSeq.{InstrSeq}
use Rattle.walrus_tree.specs.Trees.{Has, AreDistinct}
use Rattle.walrus_meaning.specs.walrus_body_writer.walrus_pairing.walrus_codes.Runs.{Run, in_runs, byte, object}
use Rattle.walrus_meaning.specs.walrus_body_writer.walrus_pairing.Looks.{Or}
use Rattle.walrus_meaning.specs.walrus_body_writer.walrus_pairing.Types.{written_heap, read_heap}
use Rattle.walrus_meaning.specs.walrus_body_writer.walrus_pairing.Read.{at, of_bytes, of_objects, instr_at}
use Rattle.walrus_meaning.specs.walrus_body_writer.walrus_pairing.Write.{operator_at, seen_of}
use Rattle.walrus_pairing.specs.Laws.{OperatorComesBack, Renames, all}
use Rattle.walrus_pairing.proofs.TypesAgain.{heap_again}
use Rattle.walrus_meaning.specs.Words.{own_heap, own_block, plain_or_nop}
use Rattle.walrus_meaning.specs.Bodies.{depth_of, block_of, null_flags, own_clause, own_instr}
use Rattle.walrus_meaning.specs.walrus_local_function.walrus_body_locals.walrus_body_nesting.declared.frames.Opener.{Opener}
use Rattle.walrus_meaning.specs.walrus_local_function.walrus_body_locals.walrus_body_nesting.declared.frames.Opener.TheVariants as openers
use Rattle.walrus_meaning.specs.walrus_local_function.walrus_body_locals.walrus_body_nesting.Stands as stands
use Rattle.walrus_meaning.specs.walrus_local_function.walrus_body_locals.walrus_body_nesting.Opens.{Makes}
use Rattle.walrus_meaning.specs.walrus_local_function.walrus_body_parser.walrus_body_rules.Sights.{Sight, look}
use Rattle.walrus_meaning.specs.walrus_local_function.walrus_body_parser.walrus_body_steps.Meanings.{AreLabels, RunsAs, IsClause, AreClauses, IsOpener, OpensOf, branch_at, cast_at, reference}
use Rattle.walrus_body_trees.specs.Laws.{IsNaming, AreOwn}
use Rattle.walrus_body_trees.proofs.Instrs.{has_at}
use Rattle.walrus_body_trees.proofs.Shapes.{blocks_is, code_is, table_is, flags_below}

-- ---- depths

pub depth_at : (xs : List ℕ) (n k : ℕ) → AreDistinct xs → slice_get xs n ≡ Some k → depth_of xs k ≡ n
depth_at [] n k d e = absurd cc
depth_at (x ∷ xs) zero k d e =
    let same : x ≡ k = (let f = e in cc) in
    ap (λ (c : Bool). if c then 0 else suc (depth_of xs k)) (eq-eqb x k same)
depth_at (x ∷ xs) (suc n) k d e =
    let other : x ≡ k → ⊥ = λ same. d.0 (subst (Has xs) (sym same) (has_at xs n k e)) in
    ap (λ (c : Bool). if c then 0 else suc (depth_of xs k)) (ne_eqb x k other) ∙ ap suc (depth_at xs n k d.1 e)

depths_at : (xs ns ks : List ℕ) → AreDistinct xs → AreLabels xs ns ks → map (depth_of xs) ks ≡ ns
depths_at xs [] ks d h = ap (map (depth_of xs)) h
depths_at xs (n ∷ ns) ks d h =
    ap (map (depth_of xs)) h.2 ∙ ap (λ (m : ℕ). m ∷ map (depth_of xs) h.1) (depth_at xs n h.0 d h.3) ∙ ap (λ (l : List ℕ). n ∷ l) (depths_at xs ns h.1 d h.4)

-- ---- which row an instruction comes from

at_is : (n m : ℕ) (i j : Instr) → nat_le n m && nat_lt m (n + 1) ≡ true → slice_get (i ∷ []) (m - n) ≡ Some j → (m ≡ n) × (i ≡ j)
at_is n m i j c e =
    let parts = and_parts (nat_le n m) (nat_lt m (n + 1)) c in
    let low = leb-true n m parts.0 in
    let high = ltb-true m (n + 1) parts.1 in
    let zero_is : m - n ≡ 0 = omega (arith, low, high) in
    let first : slice_get (i ∷ []) 0 ≡ Some j = ap (slice_get (i ∷ [])) (sym zero_is) ∙ e in
    (omega (arith, low, high), (let f = first in cc))

-- of rows of one instruction each
module _ (P : ℕ → Instr → Type 0) where
  abbrev pub Rows : List (ℕ × Instr) → Type 0
  Rows [] = Unit {0}
  Rows (x ∷ xs) = P x.0 x.1 × Rows xs

  abbrev pub rows : List (ℕ × Instr) → List (Run Instr)
  rows xs = map (λ (x : ℕ × Instr). at x.0 x.1) xs

  row_of : (xs : List (ℕ × Instr)) (m : ℕ) (j : Instr) → Rows xs → in_runs (rows xs) m ≡ Some j → P m j
  row_of [] m j h e = absurd cc
  row_of (x ∷ xs) m j h e = go (nat_le x.0 m && nat_lt m (x.0 + 1)) refl e (row_of xs m j h.1)
    where
      go : (c : Bool) → nat_le x.0 m && nat_lt m (x.0 + 1) ≡ c → (if c then slice_get (x.1 ∷ []) (m - x.0) else in_runs (rows xs) m) ≡ Some j → (in_runs (rows xs) m ≡ Some j → P m j) → P m j
      go true c e later = let same = at_is x.0 m x.1 j c e in subst (λ (n : ℕ). P n j) (sym same.0) (subst (P x.0) same.1 h.0)
      go false c e later = later e

  byte_row : (xs : List (ℕ × Instr)) (code : OpCode) (j : Instr) → Rows xs → of_bytes (rows xs) code ≡ Some j → (code ≡ byte code.number) × P code.number j
  byte_row xs code j h e = go (code.prefix == 0) refl e
    where
      go : (c : Bool) → (code.prefix == 0) ≡ c → (if c then in_runs (rows xs) code.number else None) ≡ Some j → (code ≡ byte code.number) × P code.number j
      go true c e = let zero_is = eqb-true code.prefix 0 c in ((λ i. record { prefix = zero_is i; number = code.number }), row_of xs code.number j h e)
      go false c e = absurd cc

  object_row : (xs : List (ℕ × Instr)) (code : OpCode) (j : Instr) → Rows xs → of_objects [] (rows xs) code ≡ Some j → (code ≡ object code.number) × P code.number j
  object_row xs code j h e = go (code.prefix == 0xfb) refl e
    where
      none : (c : Bool) → (if c then in_runs {A = Instr} [] code.number else None) ≡ Some j → ⊥
      none true e = cc
      none false e = cc

      go : (c : Bool) → (code.prefix == 0xfb) ≡ c → (if c then in_runs (rows xs) code.number else of_bytes [] code) ≡ Some j → (code ≡ object code.number) × P code.number j
      go true c e = let is = eqb-true code.prefix 0xfb c in ((λ i. record { prefix = is i; number = code.number }), row_of xs code.number j h e)
      go false c e = absurd (none (code.prefix == 0) e)

-- ---- words of types

heap_written : (h : HeapType) → written_heap (all Types) h ≡ Ok (own_heap h)
heap_written (Abstract ty) = refl
heap_written (Shared ty) = refl
heap_written (Concrete id) = refl
heap_written (Exact id) = refl

abbrev good : WrittenHeap → Or WrittenHeap
good x = Ok x

same_heap : (x y : WrittenHeap) → good x ≡ good y → x ≡ y
same_heap x y e = cc

-- the flags of a cast
flags_are : (b : ℕ) → b < 4 → null_flags (b % 2 == 1) (b / 2 % 2 == 1) ≡ b
flags_are zero h = refl
flags_are (suc zero) h = refl
flags_are (suc (suc zero)) h = refl
flags_are (suc (suc (suc zero))) h = refl
flags_are (suc (suc (suc (suc b)))) h = absurd (omega (arith, h))

-- ---- instructions

own_plain : (b : List InstrSeq) (depth : ℕ → ℕ) (i : Instr) (x : Seen) → operator_at all i ≡ Ok (Some x) → own_instr b depth i ≡ x
unfolding operator_at
own_plain b depth (instrs.Block k) x e = absurd cc
own_plain b depth (instrs.Loop k) x e = absurd cc
own_plain b depth (instrs.IfElse k j) x e = absurd cc
own_plain b depth (instrs.Try k cs) x e = absurd cc
own_plain b depth (instrs.TryTable k cs) x e = absurd cc
own_plain b depth (instrs.Br k) x e = absurd cc
own_plain b depth (instrs.BrIf k) x e = absurd cc
own_plain b depth (instrs.BrTable k ks) x e = absurd cc
own_plain b depth (instrs.BrOnNull k) x e = absurd cc
own_plain b depth (instrs.BrOnNonNull k) x e = absurd cc
own_plain b depth (instrs.BrOnCast k from to) x e = absurd cc
own_plain b depth (instrs.BrOnCastFail k from to) x e = absurd cc
own_plain b depth (instrs.Rethrow n) x e = absurd cc
own_plain b depth _ x e = ap plain_or_nop e

module _ (back : OperatorComesBack) (features : WasmFeatures) (s : Sight) (r : Renaming) (naming : IsNaming s r) (b : List InstrSeq) (around : List ℕ) (distinct : AreDistinct around) where
  renames : Renames r (look s) all
  renames space n id e = ap (λ (m : ℕ). Some m) (sym (naming.ids space n id e))

  heap_is : (w : WrittenHeap) (h : HeapType) → read_heap (look s Types) w ≡ Ok h → own_heap h ≡ renamed_heap r w
  heap_is w h e = same_heap (own_heap h) (renamed_heap r w) (sym (heap_written h) ∙ heap_again r (look s) all renames w h e)

  abbrev Means : Instr → Seen → Type 0
  Means i op = own_instr b (depth_of around) i ≡ renamed_operator r op

  -- with these items
  with_items : (op : Seen) (i : Instr) (code : OpCode) (items : List Item) → op.code ≡ code → op.items ≡ items → own_instr b (depth_of around) i ≡ seen_of code (map (renamed_item r) items) → Means i op
  with_items op i code items c e h = h ∙ ap (λ (d : OpCode). seen_of d (map (renamed_item r) items)) (sym c) ∙ ap (λ (is : List Item). seen_of op.code (map (renamed_item r) is)) (sym e)

  label_is : (n k : ℕ) → slice_get around n ≡ Some k → depth_of around k ≡ r Labels n
  label_is n k e = depth_at around n k distinct e ∙ sym (naming.labels n)

  branch_means : (op : Seen) (n k : ℕ) (i : Instr) → op.items ≡ Names Labels n ∷ [] → slice_get around n ≡ Some k → branch_at op.code k ≡ Some i → Means i op
  branch_means op n k i is found e =
      let P : ℕ → Instr → Type 0 = λ m j. own_instr b (depth_of around) j ≡ seen_of (byte m) (Names Labels (r Labels n) ∷ []) in
      let one : (m : ℕ) → seen_of (byte m) (Names Labels (depth_of around k) ∷ []) ≡ seen_of (byte m) (Names Labels (r Labels n) ∷ []) = λ m. ap (λ (l : ℕ). seen_of (byte m) (Names Labels l ∷ [])) (label_is n k found) in
      let row = byte_row P ((0x0c, instrs.Br k) ∷ (0x0d, instrs.BrIf k) ∷ (0xd5, instrs.BrOnNull k) ∷ (0xd6, instrs.BrOnNonNull k) ∷ []) op.code i (one 0x0c, (one 0x0d, (one 0xd5, (one 0xd6, tt)))) e in
      with_items op i (byte op.code.number) (Names Labels n ∷ []) row.0 is row.1

  cast_means : (op : Seen) (f n k : ℕ) (x y : WrittenHeap) (from to : HeapType) (i : Instr) → OperatorFits features op → op.items ≡ Byte f ∷ Names Labels n ∷ Heap x ∷ Heap y ∷ [] → slice_get around n ≡ Some k
      → read_heap (look s Types) x ≡ Ok from → read_heap (look s Types) y ≡ Ok to → cast_at op.code k (reference (f % 2 == 1) from) (reference (f / 2 % 2 == 1) to) ≡ Some i → Means i op
  cast_means op f n k x y from to i fits is found fx fy e =
      let a = reference (f % 2 == 1) from in
      let c = reference (f / 2 % 2 == 1) to in
      let items = Byte f ∷ Names Labels n ∷ Heap x ∷ Heap y ∷ [] in
      let P : ℕ → Instr → Type 0 = λ m j. own_instr b (depth_of around) j ≡ seen_of (object m) (map (renamed_item r) items) in
      let one : (m : ℕ) → seen_of (object m) (Byte (null_flags a.nullable c.nullable) ∷ Names Labels (depth_of around k) ∷ Heap (own_heap from) ∷ Heap (own_heap to) ∷ []) ≡ seen_of (object m) (map (renamed_item r) items) =
      λ m. ap (λ (v : ℕ). seen_of (object m) (Byte v ∷ Names Labels (depth_of around k) ∷ Heap (own_heap from) ∷ Heap (own_heap to) ∷ [])) (flags_are f (flags_below features op fits f (Names Labels n) (Heap x ∷ Heap y ∷ []) is))
      ∙ ap (λ (v : ℕ). seen_of (object m) (Byte f ∷ Names Labels v ∷ Heap (own_heap from) ∷ Heap (own_heap to) ∷ [])) (label_is n k found)
      ∙ ap (λ (v : WrittenHeap). seen_of (object m) (Byte f ∷ Names Labels (r Labels n) ∷ Heap v ∷ Heap (own_heap to) ∷ [])) (heap_is x from fx)
      ∙ ap (λ (v : WrittenHeap). seen_of (object m) (Byte f ∷ Names Labels (r Labels n) ∷ Heap (renamed_heap r x) ∷ Heap v ∷ [])) (heap_is y to fy) in
      let row = object_row P ((24, instrs.BrOnCast k a c) ∷ (25, instrs.BrOnCastFail k a c) ∷ []) op.code i (one 24, (one 25, tt)) e in
      with_items op i (object op.code.number) items row.0 is row.1

  pub run_means : (op : Seen) (i : Instr) → RunsAs s around op.code op.items i → OperatorFits features op → Means i op
  run_means op i h fits = go op.items refl h
    where
      go : (items : List Item) → op.items ≡ items → RunsAs s around op.code items i → Means i op
      go (Names Labels n ∷ []) e (inl h) =
          with_items op i (byte 0x09) (Names Labels n ∷ []) h.0 e (ap (own_instr b (depth_of around)) h.1 ∙ ap (λ (l : ℕ). seen_of (byte 0x09) (Names Labels l ∷ [])) (sym (naming.labels n)))
      go (Names Labels n ∷ []) e (inr (k, there, is)) = branch_means op n k i e there is
      go (ManyLabels ns ∷ Names Labels n ∷ []) e (ks, k, are, there, is) =
          with_items op i (byte 0x0e) (ManyLabels ns ∷ Names Labels n ∷ []) (table_is features op fits ns (Names Labels n ∷ []) e) e
          (ap (own_instr b (depth_of around)) is
          ∙ ap (λ (l : List ℕ). seen_of (byte 0x0e) (ManyLabels l ∷ Names Labels (depth_of around k) ∷ [])) (depths_at around ns ks.items distinct are ∙ sym (labels_same ns))
          ∙ ap (λ (l : ℕ). seen_of (byte 0x0e) (ManyLabels (map (r Labels) ns) ∷ Names Labels l ∷ [])) (label_is n k there))
        where
          labels_same : (ns : List ℕ) → map (r Labels) ns ≡ ns
          labels_same [] = refl
          labels_same (m ∷ ms) = ap (λ (l : ℕ). l ∷ map (r Labels) ms) (naming.labels m) ∙ ap (λ (l : List ℕ). m ∷ l) (labels_same ms)
      go (Byte f ∷ Names Labels n ∷ Heap x ∷ Heap y ∷ []) e (k, from, to, there, fx, fy, is) = cast_means op f n k x y from to i fits e there fx fy is
      go _ e h = own_plain b (depth_of around) i _ (back r (look s) all renames features op i fits (ap (λ items. instr_at (look s) (record { code = op.code; items = items })) e ∙ h))

  -- ---- blocks

  clause_is : (h : Clause) (c : TryTableCatch) → IsClause s around h c → own_clause (depth_of around) c ≡ renamed_clause r h
  clause_is (handlers.Catch tag n) c (t, k, found, there, is) =
      ap (own_clause (depth_of around)) is ∙ ap (λ (m : ℕ). handlers.Catch m (depth_of around k)) (sym (naming.ids Tags tag t found)) ∙ ap (λ (m : ℕ). handlers.Catch (r Tags tag) m) (label_is n k there)
  clause_is (handlers.CatchRef tag n) c (t, k, found, there, is) =
      ap (own_clause (depth_of around)) is ∙ ap (λ (m : ℕ). handlers.CatchRef m (depth_of around k)) (sym (naming.ids Tags tag t found)) ∙ ap (λ (m : ℕ). handlers.CatchRef (r Tags tag) m) (label_is n k there)
  clause_is (handlers.CatchAll n) c (k, there, is) = ap (own_clause (depth_of around)) is ∙ ap (λ (m : ℕ). handlers.CatchAll m) (label_is n k there)
  clause_is (handlers.CatchAllRef n) c (k, there, is) = ap (own_clause (depth_of around)) is ∙ ap (λ (m : ℕ). handlers.CatchAllRef m) (label_is n k there)

  clauses_are : (hs : List Clause) (cs : List TryTableCatch) → AreClauses s around hs cs → map (own_clause (depth_of around)) cs ≡ map (renamed_clause r) hs
  clauses_are [] cs h = ap (map (own_clause (depth_of around))) h
  clauses_are (h ∷ hs) cs (d, ds, is, one, rest) =
      ap (map (own_clause (depth_of around))) is ∙ ap (λ (c : Clause). c ∷ map (own_clause (depth_of around)) ds) (clause_is h d one) ∙ ap (λ (l : List Clause). renamed_clause r h ∷ l) (clauses_are hs ds rest)

  module _ (pick : BlockType → BlockType) (own : AreOwn s r pick) where
    -- of a block type alone
    block_means : (op : Seen) (y : InstrSeq) (w : BlockType) (more : List Item) (k : ℕ) → op.items ≡ Block w ∷ more → (op.code ≡ byte k) × (more ≡ []) → own_block y.ty ≡ renamed_block r (pick w)
        → seen_of (byte k) (Block (block_of (Some y)) ∷ []) ≡ renamed_operator r (picked pick op)
    block_means op y w more k is shape same =
        let items : op.items ≡ Block w ∷ [] = is ∙ ap (λ (l : List Item). Block w ∷ l) shape.1 in
        ap (λ (t : BlockType). seen_of (byte k) (Block t ∷ [])) same
        ∙ ap (λ (d : OpCode). seen_of d (Block (renamed_block r (pick w)) ∷ [])) (sym shape.0)
        ∙ ap (λ (l : List Item). seen_of op.code (map (renamed_item r) (map (with_pick pick) l))) (sym items)

    opening_means : (op : Seen) (i : Instr) (q : stands.Block) (y : InstrSeq) (k : ℕ) → own_instr b (depth_of around) i ≡ seen_of (byte k) (Block (block_of (slice_get b q.first)) ∷ []) → slice_get b q.first ≡ Some y
        → seen_of (byte k) (Block (block_of (Some y)) ∷ []) ≡ renamed_operator r (picked pick op) → own_instr b (depth_of around) i ≡ renamed_operator r (picked pick op)
    opening_means op i q y k is found rest = is ∙ ap (λ (o : Option InstrSeq). seen_of (byte k) (Block (block_of o) ∷ [])) found ∙ rest

    pub nest_means : (op : Seen) (g : Opener) (i : Instr) (q : stands.Block) (y : InstrSeq) → Makes g i q → IsOpener s around op g → OpensOf s op y.ty → slice_get b q.first ≡ Some y → OperatorFits features op
        → own_instr b (depth_of around) i ≡ renamed_operator r (picked pick op)
    nest_means op openers.Block i q y h flow (w, more, is, typed) found fits =
        opening_means op i q y 0x02 (ap (own_instr b (depth_of around)) h.0) found (block_means op y w more 0x02 is (blocks_is features op fits 0x02 flows.OpensBlock w more flow refl is) (own w y.ty typed))
    nest_means op openers.Loop i q y h flow (w, more, is, typed) found fits =
        opening_means op i q y 0x03 (ap (own_instr b (depth_of around)) h.0) found (block_means op y w more 0x03 is (blocks_is features op fits 0x03 flows.OpensLoop w more flow refl is) (own w y.ty typed))
    nest_means op openers.If i q y h flow (w, more, is, typed) found fits =
        opening_means op i q y 0x04 (ap (own_instr b (depth_of around)) h.1) found (block_means op y w more 0x04 is (blocks_is features op fits 0x04 flows.OpensIf w more flow refl is) (own w y.ty typed))
    nest_means op openers.Try i q y h flow (w, more, is, typed) found fits =
        opening_means op i q y 0x06 (ap (own_instr b (depth_of around)) h.1) found (block_means op y w more 0x06 is (blocks_is features op fits 0x06 flows.OpensTry w more flow refl is) (own w y.ty typed))
    nest_means op (openers.TryTable cs) i q y h (flow, ty, hs, items, are) (w, more, is, typed) found fits =
        let same : w ≡ ty = block_same w ty more (ManyClauses hs ∷ []) (sym is ∙ items) in
        let block : own_block y.ty ≡ renamed_block r (pick ty) = own w y.ty typed ∙ ap (λ (t : BlockType). renamed_block r (pick t)) same in
        ap (own_instr b (depth_of around)) h.0
        ∙ ap (λ (o : Option InstrSeq). seen_of (byte 0x1f) (Block (block_of o) ∷ ManyClauses (map (own_clause (depth_of around)) cs.items) ∷ [])) found
        ∙ ap (λ (t : BlockType). seen_of (byte 0x1f) (Block t ∷ ManyClauses (map (own_clause (depth_of around)) cs.items) ∷ [])) block
        ∙ ap (λ (l : List Clause). seen_of (byte 0x1f) (Block (renamed_block r (pick ty)) ∷ ManyClauses l ∷ [])) (clauses_are hs cs.items are)
        ∙ ap (λ (d : OpCode). seen_of d (Block (renamed_block r (pick ty)) ∷ ManyClauses (map (renamed_clause r) hs) ∷ [])) (sym (code_is features op fits 0x1f flows.OpensTryTable flow refl))
        ∙ ap (λ (l : List Item). seen_of op.code (map (renamed_item r) (map (with_pick pick) l))) (sym items)
      where
        block_same : (v w : BlockType) (xs ys : List Item) → Block v ∷ xs ≡ Block w ∷ ys → v ≡ w
        block_same v w xs ys e = cc
