-- Instructions and the operators that are meant by them name the same items.
use Rattle.std.proofs.Common.{◌≡◌, ◌∙◌, ℕ, Bool, true, List, [], ◌∷◌, ◌++◌, map, Some, None, refl, sym, ap, subst, append-nil}
use Rattle.std.specs.Prelude.{slice_get, length}
use Rattle.std.specs.List.{flat_map}
use Rattle.std.proofs.lemmas.List.Elements.{filter_map-append}
use Rattle.wasm_references.specs.wasm_operators.Items.{Labels, Tags}
use Rattle.wasm_references.specs.wasm_operators.Names.{Name, operator_names, block_names, heap_names, clause_names, label_name}
use Rattle.walrus_walks.specs.walrus_forms.declared.value.HeapType.{HeapType}
use Rattle.walrus_walks.specs.walrus_forms.declared.value.HeapType.TheVariants.{Abstract, Shared, Concrete, Exact}
use Rattle.walrus_walks.specs.walrus_forms.declared.value.RefType.{RefType}
use Rattle.walrus_walks.specs.walrus_forms.declared.value.ValType.TheVariants.{I32, I64, F32, F64, V128, Ref}
use Rattle.walrus_walks.specs.walrus_instr.declared.instr.Instr.{Instr}
use Rattle.walrus_walks.specs.walrus_instr.declared.instr.Instr.TheVariants as instrs
use Rattle.walrus_walks.specs.walrus_instr.declared.instr.LegacyCatch.{LegacyCatch}
use Rattle.walrus_walks.specs.walrus_instr.declared.instr.LegacyCatch.TheVariants as legacy
use Rattle.walrus_walks.specs.walrus_instr.declared.instr.TryTableCatch.{TryTableCatch}
use Rattle.walrus_walks.specs.walrus_instr.declared.instr.TryTableCatch.TheVariants as parts
use Rattle.walrus_walks.specs.walrus_instr.declared.seq.InstrSeq.{InstrSeq}
use Rattle.walrus_walks.specs.walrus_instr.declared.seq.InstrSeqType.{InstrSeqType}
use Rattle.walrus_walks.specs.walrus_instr.declared.seq.InstrSeqType.TheVariants.{Simple, MultiValue}
use Rattle.walrus_walks.specs.Events.{Event, NamesSeq, names, events_of, ref_names, block_names as told_block, legacy_names, clause_names as told_clause}
use Rattle.walrus_walks.specs.Tree.{children, handlers}
use Rattle.walrus_tree.specs.Text.{Piece, Operator, after, after_parts}
use Rattle.walrus_tree.specs.Trees.{Delegates, IsWithin}
use Rattle.walrus_meaning.specs.Bodies.{block_of, depth_of, own_clause, own_seen}
use Rattle.walrus_meaning.specs.Words.{own_heap, own_block, plain_seen}
use Rattle.walrus_meaning.specs.Told.{told, told_all, is_reversed}
use Rattle.walrus_pass_laws.specs.Plain.{is_plain, PlainNameWhatIsTold}
use Rattle.walrus_pass_laws.specs.Instrs.{of_items, unlabelled, part_types, piece_names, seq_names, InstrsNameWhatIsTold}
use Rattle.walrus_pass_laws.proofs.Sets.{Same, same_refl, same_sym, same_trans, same_eq, same_cat, same_flat, same_turned, flat_append, flat_of_map, flat_of_flat, flat_same, have_same}

-- ---- types

heap_told : (nullable : Bool) (h : HeapType) → told_all (ref_names (record { nullable = nullable; heap_type = h })) ≡ heap_names (own_heap h)
heap_told nullable (Abstract ty) = refl
heap_told nullable (Shared ty) = refl
heap_told nullable (Concrete id) = refl
heap_told nullable (Exact id) = refl

pub ref_told : (ty : RefType) → told_all (ref_names ty) ≡ heap_names (own_heap ty.heap_type)
ref_told ty = heap_told ty.nullable ty.heap_type

pub type_told : (ty : InstrSeqType) → told_all (told_block ty) ≡ block_names (own_block ty)
type_told (Simple None) = refl
type_told (Simple (Some I32)) = refl
type_told (Simple (Some I64)) = refl
type_told (Simple (Some F32)) = refl
type_told (Simple (Some F64)) = refl
type_told (Simple (Some V128)) = refl
type_told (Simple (Some (Ref ty))) = ref_told ty
type_told (MultiValue id) = refl

-- a tag's name
abbrev tag_name : ℕ → Name
tag_name tag = (Tags, tag)

-- what a piece of the text names, and the block types of an instruction's later parts; what the block type of a sequence names
abbrev pub piece_out : List InstrSeq → Piece → List Name
piece_out b p = unlabelled (operator_names (own_seen b p)) ++ flat_map (λ ty. unlabelled (block_names ty)) (part_types b p)

abbrev pub block_out : List InstrSeq → ℕ → List Name
block_out b k = unlabelled (seq_names b k)

-- what is told
abbrev pub out : List Event → List Name
out es = unlabelled (told_all es)

pub items_append : (xs ys : List Name) → unlabelled (xs ++ ys) ≡ unlabelled xs ++ unlabelled ys
items_append xs ys = flat_append (λ (n : Name). of_items n.0 n.1) xs ys

pub out_append : (es fs : List Event) → out (es ++ fs) ≡ out es ++ out fs
out_append es fs = ap (unlabelled) (filter_map-append told es fs) ∙ items_append (told_all es) (told_all fs)

nil : (xs : List Name) → Same (xs ++ []) xs
nil xs = same_eq (xs ++ []) xs (append-nil xs)

nils : (xs : List Name) → Same ((xs ++ []) ++ []) xs
nils xs = same_trans ((xs ++ []) ++ []) (xs ++ []) xs (nil (xs ++ [])) (nil xs)

-- ---- clauses, parts and labels

clauses_are : (depth : ℕ → ℕ) (cs : List TryTableCatch) → unlabelled (flat_map clause_names (map (own_clause depth) cs)) ≡ out (events_of told_clause cs)
clauses_are depth [] = refl
clauses_are depth (parts.Catch tag k ∷ cs) = ap (λ (l : List Name). tag_name tag ∷ l) (clauses_are depth cs)
clauses_are depth (parts.CatchRef tag k ∷ cs) = ap (λ (l : List Name). tag_name tag ∷ l) (clauses_are depth cs)
clauses_are depth (parts.CatchAll k ∷ cs) = clauses_are depth cs
clauses_are depth (parts.CatchAllRef k ∷ cs) = clauses_are depth cs

labels_none : (depth : ℕ → ℕ) (ks : List ℕ) → unlabelled (map label_name (map depth ks)) ≡ []
labels_none depth [] = refl
labels_none depth (k ∷ ks) = labels_none depth ks

seqs_none : (ks : List ℕ) (other : ℕ) → out (events_of (λ id. NamesSeq id ∷ []) ks ++ NamesSeq other ∷ []) ≡ []
seqs_none [] other = refl
seqs_none (k ∷ ks) other = seqs_none ks other

refs_told : (from to : RefType) → out (ref_names from ++ ref_names to) ≡ unlabelled (heap_names (own_heap from.heap_type) ++ heap_names (own_heap to.heap_type))
refs_told from to =
    ap (unlabelled) (filter_map-append told (ref_names from) (ref_names to)
    ∙ ap (λ (l : List Name). l ++ told_all (ref_names to)) (ref_told from)
    ∙ ap (λ (l : List Name). heap_names (own_heap from.heap_type) ++ l) (ref_told to))

module _ (b : List InstrSeq) where
  parts_same : (n : ℕ) (cs : List LegacyCatch) → Delegates n cs → Same (flat_map (piece_out b) (after_parts cs)) (out (events_of legacy_names cs))
  parts_same n [] h = same_refl []
  parts_same n (legacy.Catch tag seq ∷ cs) h =
      same_cat (tag_name tag ∷ []) (tag_name tag ∷ []) (flat_map (piece_out b) (after_parts cs)) (out (events_of legacy_names cs)) (same_refl (tag_name tag ∷ [])) (parts_same n cs h)
  parts_same n (legacy.CatchAll seq ∷ cs) h = parts_same n cs h
  parts_same n (legacy.Delegate depth ∷ cs) h = subst (λ (l : List LegacyCatch). Same [] (out (events_of legacy_names l))) (sym h.1) (same_refl [])

  -- ---- instructions

  -- what the operators that an instruction is told by name, and what it is told to name
  abbrev pub Told : List ℕ → Instr → Type 0
  Told around i = Same (flat_map (piece_out b) (Operator around i ∷ after i)) (flat_map (block_out b) (children i) ++ out (names i))

  abbrev names_of : ℕ → List Name
  names_of k = block_names (block_of (slice_get b k))

  one_block : (k : ℕ) → unlabelled (names_of k ++ []) ≡ block_out b k
  one_block k = ap (unlabelled) (append-nil (names_of k))

  block_told : (k : ℕ) → Same ((unlabelled (names_of k ++ []) ++ []) ++ []) ((block_out b k ++ []) ++ [])
  block_told k = same_eq _ _ (ap (λ (l : List Name). (l ++ []) ++ []) (one_block k))

  if_told : (k other : ℕ) → Same ((unlabelled (names_of k ++ []) ++ (block_out b other ++ [])) ++ []) ((block_out b k ++ (block_out b other ++ [])) ++ [])
  if_told k other = same_eq _ _ (ap (λ (l : List Name). (l ++ (block_out b other ++ [])) ++ []) (one_block k))

  try_told : (around : List ℕ) (k : ℕ) (cs : List LegacyCatch) → Delegates (length around) cs
      → Same ((unlabelled (names_of k ++ []) ++ flat_map (λ ty. unlabelled (block_names ty)) (map (λ j. block_of (slice_get b j)) (handlers cs))) ++ flat_map (piece_out b) (after_parts cs))
      ((block_out b k ++ flat_map (block_out b) (handlers cs)) ++ out (events_of legacy_names cs))
  try_told around k cs h = same_cat _ _ _ _ (same_eq _ _ (
      ap (λ (l : List Name). l ++ flat_map (λ ty. unlabelled (block_names ty)) (map (λ j. block_of (slice_get b j)) (handlers cs))) (one_block k)
      ∙ ap (λ (l : List Name). block_out b k ++ l) (flat_of_map (λ ty. unlabelled (block_names ty)) (λ j. block_of (slice_get b j)) (handlers cs))
      )) (parts_same (length around) cs h)

  table_told : (depth : ℕ → ℕ) (k : ℕ) (cs : List TryTableCatch)
      → Same ((unlabelled (names_of k ++ (flat_map clause_names (map (own_clause depth) cs) ++ [])) ++ []) ++ []) ((block_out b k ++ []) ++ out (events_of told_clause cs))
  table_told depth k cs =
      let cl = flat_map clause_names (map (own_clause depth) cs) in
      same_trans _ _ _ (nils (unlabelled (names_of k ++ (cl ++ [])))) (same_eq _ _ (
      ap (λ (l : List Name). unlabelled (names_of k ++ l)) (append-nil cl)
      ∙ items_append (names_of k) cl
      ∙ ap (λ (l : List Name). block_out b k ++ l) (clauses_are depth cs)
      ∙ ap (λ (l : List Name). l ++ out (events_of told_clause cs)) (sym (append-nil (block_out b k)))
      ))

  branches_told : (depth : ℕ → ℕ) (ks : List ℕ) (other : ℕ)
      → Same ((unlabelled (map label_name (map depth ks) ++ (Labels, depth other) ∷ []) ++ []) ++ []) (out (events_of (λ id. NamesSeq id ∷ []) ks ++ NamesSeq other ∷ []))
  branches_told depth ks other = same_trans _ _ _ (nils (unlabelled (map label_name (map depth ks) ++ (Labels, depth other) ∷ []))) (same_eq _ _ (
      items_append (map label_name (map depth ks)) ((Labels, depth other) ∷ [])
      ∙ ap (λ (l : List Name). l ++ []) (labels_none depth ks)
      ∙ sym (seqs_none ks other)
      ))

  cast_told : (from to : RefType) → Same ((unlabelled (heap_names (own_heap from.heap_type) ++ (heap_names (own_heap to.heap_type) ++ [])) ++ []) ++ []) (out (ref_names from ++ ref_names to))
  cast_told from to =
      let heaps = heap_names (own_heap from.heap_type) in
      same_trans _ _ _ (nils (unlabelled (heaps ++ (heap_names (own_heap to.heap_type) ++ [])))) (same_eq _ _ (
      ap (λ (l : List Name). unlabelled (heaps ++ l)) (append-nil (heap_names (own_heap to.heap_type))) ∙ sym (refs_told from to)
      ))

  plain_told : PlainNameWhatIsTold → (i : Instr) → is_plain i ≡ true → Same ((unlabelled (operator_names (plain_seen i)) ++ []) ++ []) (out (names i))
  plain_told told i e =
      let ops = operator_names (plain_seen i) in
      same_trans _ _ _ (nils (unlabelled ops)) (same_sym _ _ (same_flat (λ (n : Name). of_items n.0 n.1) (told_all (names i)) ops (same_turned (is_reversed i) (told_all (names i)) ops (told i e))))

  pub instr_told : PlainNameWhatIsTold → (around : List ℕ) (i : Instr) → IsWithin around i → Told around i
  instr_told told around (instrs.Block k) h = block_told k
  instr_told told around (instrs.Loop k) h = block_told k
  instr_told told around (instrs.IfElse k other) h = if_told k other
  instr_told told around (instrs.Try k catches) h = try_told around k catches.items h.counted
  instr_told told around (instrs.TryTable k catches) h = table_told (depth_of around) k catches.items
  instr_told told around (instrs.Br k) h = same_refl []
  instr_told told around (instrs.BrIf k) h = same_refl []
  instr_told told around (instrs.BrTable other ks) h = branches_told (depth_of around) ks.items other
  instr_told told around (instrs.BrOnNull k) h = same_refl []
  instr_told told around (instrs.BrOnNonNull k) h = same_refl []
  instr_told told around (instrs.BrOnCast k from to) h = cast_told from to
  instr_told told around (instrs.BrOnCastFail k from to) h = cast_told from to
  instr_told told around (instrs.Rethrow depth) h = same_refl []
  instr_told told around i h = plain_told told i refl

  -- ---- as lists of names

  piece_is : (p : Piece) → unlabelled (piece_names b p) ≡ piece_out b p
  piece_is p = items_append (operator_names (own_seen b p)) (flat_map block_names (part_types b p)) ∙ ap (λ (l : List Name). unlabelled (operator_names (own_seen b p)) ++ l) (flat_of_flat (λ (n : Name). of_items n.0 n.1) block_names (part_types b p))

  pub pieces_are : (ps : List Piece) → unlabelled (flat_map (piece_names b) ps) ≡ flat_map (piece_out b) ps
  pieces_are ps = flat_of_flat (λ (n : Name). of_items n.0 n.1) (piece_names b) ps ∙ flat_same (λ p. unlabelled (piece_names b p)) (piece_out b) piece_is ps

  blocks_are : (ks : List ℕ) (more : List Name) → unlabelled (flat_map (seq_names b) ks ++ more) ≡ flat_map (block_out b) ks ++ unlabelled more
  blocks_are ks more = items_append (flat_map (seq_names b) ks) more ∙ ap (λ (l : List Name). l ++ unlabelled more) (flat_of_flat (λ (n : Name). of_items n.0 n.1) (seq_names b) ks)

pub instrs_told : PlainNameWhatIsTold → InstrsNameWhatIsTold
instrs_told told b around i h =
    have_same _ _ (same_trans _ _ _ (same_eq _ _ (pieces_are b (Operator around i ∷ after i))) (same_trans _ _ _ (instr_told b told around i h) (same_sym _ _ (same_eq _ _ (blocks_are b (children i) (told_all (names i)))))))
