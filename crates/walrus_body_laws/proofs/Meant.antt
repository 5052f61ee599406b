-- Lemmas: what is written where each id is its own number is what a body means.
use Rattle.std.proofs.Common.{ap, sym, ◌∙◌, ◌++◌, refl}
use Rattle.std.specs.Prelude.{ℕ, suc, ◌==◌, ◌≡◌, Bool, true, false, List, [], ◌∷◌, map, slice_get, Option, Some, None, Ok, Err, if◌then◌else◌}
use Rattle.wasm_ref_types.specs.declared.heap.HeapType.{HeapType as WrittenHeap}
use Rattle.wasm_ref_types.specs.declared.value.ValType.{ValType as WrittenValue}
use Rattle.wasm_ref_types.specs.declared.value.ValType.TheVariants.{Ref as WrittenRef}
use Rattle.wasm_ref_types.specs.Reference.{reference}
use Rattle.wasm_operators.specs.declared.block_type.BlockType.{BlockType}
use Rattle.wasm_operators.specs.declared.block_type.BlockType.TheVariants as blocks
use Rattle.wasm_operators.specs.declared.clause.Clause.{Clause}
use Rattle.wasm_operators.specs.Items.{Types, Labels, Names, Byte, Heap, Block, ManyClauses}
use Rattle.wasm_operators.specs.Operators.{Seen}
use Rattle.wasm_normal_form.specs.Roles.{Placed, placed}
use Rattle.wasm_operators.specs.Names.{Renaming, renamed_operator}
use Rattle.walrus_forms.specs.declared.value.HeapType.{HeapType}
use Rattle.walrus_forms.specs.declared.value.HeapType.TheVariants.{Abstract, Shared, Concrete, Exact}
use Rattle.walrus_forms.specs.declared.value.RefType.{RefType}
use Rattle.walrus_forms.specs.declared.value.ValType.{ValType}
use Rattle.walrus_forms.specs.declared.value.ValType.TheVariants.{I32, I64, F32, F64, V128, Ref}
use Rattle.walrus_instr.specs.declared.instr.Instr.{Instr}
use Rattle.walrus_instr.specs.declared.instr.Instr.TheVariants as instrs
use Rattle.walrus_instr.specs.declared.instr.TryTableCatch.{TryTableCatch}
use Rattle.walrus_instr.specs.declared.instr.TryTableCatch.TheVariants as parts
use Rattle.walrus_instr.specs.declared.seq.InstrSeq.{InstrSeq}
use Rattle.walrus_instr.specs.declared.seq.InstrSeqType.{InstrSeqType}
use Rattle.walrus_instr.specs.declared.seq.InstrSeqType.TheVariants.{Simple, MultiValue}
use Rattle.walrus_builder.specs.Functions.{seqs_of}
use Rattle.walrus_tree.specs.Text.{Piece, Operator, Else, Catch, CatchAll, Delegate, End, operators}
use Rattle.walrus_codes.specs.Runs.{byte, object}
use Rattle.walrus_body_trees.specs.walrus_pairing.Looks.{Or, ◌>>=◌}
use Rattle.walrus_body_trees.specs.walrus_pairing.Types.{written_heap, written_value}
use Rattle.walrus_body_trees.specs.walrus_pairing.Write.{op, operator_at, seen_of}
use Rattle.walrus_body_trees.specs.walrus_pairing.Laws.{all}
use Rattle.walrus_body_trees.specs.walrus_meaning.walrus_body_writer.Spelled.{AreWritten, IsWritten, Text, block, cast, clause, clauses, flags, label, opening, type_in, written, written_instr}
use Rattle.walrus_body_laws.specs.WritingLaws.{place_in, placed_of, text_ops}
use Rattle.walrus_body_laws.specs.Renaming.{TextsAreRenamed, renamed_placed}
use Rattle.walrus_body_laws.proofs.Agreeing.{ToldPiece, piece_told}
use Rattle.walrus_body_trees.specs.walrus_meaning.Bodies.{block_of, depth_of, null_flags, own_clause, own_instr, own_piece, own_seen}
use Rattle.walrus_body_trees.specs.walrus_meaning.Words.{own_block, own_heap, own_value, plain_or_nop}
use Rattle.walrus_body_laws.specs.EmissionLaws.{BodiesAreMeant, sent}

-- ---- immediates

heap_is : (ty : HeapType) → written_heap (all Types) ty ≡ Ok (own_heap ty)
heap_is (Abstract ty) = refl
heap_is (Shared ty) = refl
heap_is (Concrete id) = refl
heap_is (Exact id) = refl

value_is : (ty : ValType) → written_value (all Types) ty ≡ Ok (own_value ty)
value_is I32 = refl
value_is I64 = refl
value_is F32 = refl
value_is F64 = refl
value_is V128 = refl
value_is (Ref ty) = ap (λ (h : Or WrittenHeap). h >>= λ heap. Ok (WrittenRef (reference ty.nullable heap))) (heap_is ty.heap_type)

type_is : (ty : InstrSeqType) → block all ty ≡ Ok (own_block ty)
type_is (Simple None) = refl
type_is (Simple (Some ty)) = ap (λ (v : Or WrittenValue). v >>= λ value. Ok (blocks.Value value)) (value_is ty)
type_is (MultiValue id) = refl

block_is : (s : Option InstrSeq) → block all (type_in s) ≡ Ok (block_of s)
block_is (Some s) = type_is s.ty
block_is None = refl

clause_is : (number : ℕ → ℕ) (c : TryTableCatch) → clause all number c ≡ Ok (own_clause number c)
clause_is number (parts.Catch tag k) = refl
clause_is number (parts.CatchRef tag k) = refl
clause_is number (parts.CatchAll k) = refl
clause_is number (parts.CatchAllRef k) = refl

clauses_are : (number : ℕ → ℕ) (cs : List TryTableCatch) → clauses all number cs ≡ Ok (map (own_clause number) cs)
clauses_are number [] = refl
clauses_are number (c ∷ cs) =
    ap (λ (f : Or Clause). f >>= λ first. clauses all number cs >>= λ rest. Ok (first ∷ rest)) (clause_is number c)
    ∙ ap (λ (g : Or (List Clause)). g >>= λ rest. Ok (own_clause number c ∷ rest)) (clauses_are number cs)

label_is : (around : List ℕ) (k : ℕ) → label around k ≡ depth_of around k
label_is [] k = refl
label_is (j ∷ js) k = ap (λ (n : ℕ). if j == k then 0 else suc n) (label_is js k)

flags_are : (a b : Bool) → flags a b ≡ null_flags a b
flags_are false false = refl
flags_are true false = refl
flags_are false true = refl
flags_are true true = refl

-- ---- pieces

opening_is : (b : List InstrSeq) (code k : ℕ) → opening all b code k ≡ Ok (Some (seen_of (byte code) (Block (block_of (slice_get b k)) ∷ [])))
opening_is b code k = ap (λ (t : Or BlockType). t >>= λ ty. op (byte code) (Block ty ∷ [])) (block_is (slice_get b k))

plain_is : (i : Instr) (a : Or (Option Seen)) → operator_at all i ≡ a → IsWritten a → (a ≡ Ok None → ⊥) → a ≡ Ok (Some (plain_or_nop (operator_at all i)))
plain_is i (Ok (Some s)) e w some = ap (λ (z : Or (Option Seen)). Ok (Some (plain_or_nop z))) (sym e)
plain_is i (Ok None) e w some = absurd (some refl)
plain_is i (Err x) e w some = absurd w

module _ (b : List InstrSeq) (number : ℕ → ℕ) where
  cast_is : (code k : ℕ) (from to : RefType) → cast all code number k from to
      ≡ Ok (Some (seen_of (object code) (Byte (null_flags from.nullable to.nullable) ∷ Names Labels (number k) ∷ Heap (own_heap from.heap_type) ∷ Heap (own_heap to.heap_type) ∷ [])))
  cast_is code k from to =
      ap (λ (x : Or WrittenHeap). x >>= λ source. written_heap (all Types) to.heap_type >>= λ target.
      op (object code) (Byte (flags from.nullable to.nullable) ∷ Names Labels (number k) ∷ Heap source ∷ Heap target ∷ [])) (heap_is from.heap_type)
      ∙ ap (λ (y : Or WrittenHeap). y >>= λ target. op (object code) (Byte (flags from.nullable to.nullable) ∷ Names Labels (number k) ∷ Heap (own_heap from.heap_type) ∷ Heap target ∷ [])) (heap_is to.heap_type)
      ∙ ap (λ (n : ℕ). op (object code) (Byte n ∷ Names Labels (number k) ∷ Heap (own_heap from.heap_type) ∷ Heap (own_heap to.heap_type) ∷ [])) (flags_are from.nullable to.nullable)

  table_is : (k : ℕ) (cs : List TryTableCatch) → (block all (type_in (slice_get b k)) >>= λ ty. clauses all number cs >>= λ handlers. op (byte 0x1f) (Block ty ∷ ManyClauses handlers ∷ []))
      ≡ Ok (Some (seen_of (byte 0x1f) (Block (block_of (slice_get b k)) ∷ ManyClauses (map (own_clause number) cs) ∷ [])))
  table_is k cs =
      ap (λ (t : Or BlockType). t >>= λ ty. clauses all number cs >>= λ handlers. op (byte 0x1f) (Block ty ∷ ManyClauses handlers ∷ [])) (block_is (slice_get b k))
      ∙ ap (λ (g : Or (List Clause)). g >>= λ handlers. op (byte 0x1f) (Block (block_of (slice_get b k)) ∷ ManyClauses handlers ∷ [])) (clauses_are number cs)

  instr_is : (i : Instr) → IsWritten (written_instr all b number i) → (written_instr all b number i ≡ Ok None → ⊥) → written_instr all b number i ≡ Ok (Some (own_instr b number i))
  instr_is (instrs.Block k) w some = opening_is b 0x02 k
  instr_is (instrs.Loop k) w some = opening_is b 0x03 k
  instr_is (instrs.IfElse k other) w some = opening_is b 0x04 k
  instr_is (instrs.Try k catches) w some = opening_is b 0x06 k
  instr_is (instrs.TryTable k catches) w some = table_is k catches.items
  instr_is (instrs.Br k) w some = refl
  instr_is (instrs.BrIf k) w some = refl
  instr_is (instrs.BrTable other ks) w some = refl
  instr_is (instrs.BrOnNull k) w some = refl
  instr_is (instrs.BrOnNonNull k) w some = refl
  instr_is (instrs.BrOnCast k from to) w some = cast_is 24 k from to
  instr_is (instrs.BrOnCastFail k from to) w some = cast_is 25 k from to
  instr_is (instrs.Rethrow depth) w some = refl
  instr_is i w some = plain_is i (operator_at all i) refl w some

not_none : (p : Piece) (a : Or (Option Seen)) → ToldPiece all p a → a ≡ Ok None → ⊥
not_none p (Ok (Some s)) t e = cc
not_none p (Ok None) t e = t
not_none p (Err x) t e = cc

pub piece_is : (b : List InstrSeq) (p : Piece) → IsWritten (written all b p) → written all b p ≡ Ok (Some (own_seen b p))
piece_is b (Operator around i) w =
    instr_is b (label around) i w (not_none (Operator around i) (written all b (Operator around i)) (piece_told all b (Operator around i)))
    ∙ ap (λ (number : ℕ → ℕ). Ok (Some (own_instr b number i))) (λ j k. label_is around k j)
piece_is b Else w = refl
piece_is b (Catch tag) w = refl
piece_is b CatchAll w = refl
piece_is b (Delegate depth) w = refl
piece_is b End w = refl

-- ---- texts

text_is : (r : Renaming) (b : List InstrSeq) (t : Text) → AreWritten all b t → map (renamed_placed r) (text_ops all b t) ≡ map (sent r) (map (own_piece b) t)
text_is r b [] w = refl
text_is r b (p ∷ ps) w =
    ap (λ (a : Or (Option Seen)). map (renamed_placed r) (placed_of a p.1 ++ text_ops all b ps)) (piece_is b p.0 w.0)
    ∙ ap (λ (z : List Placed). placed (renamed_operator r (own_seen b p.0)) (place_in p.1) ∷ z) (text_is r b ps w.1)

pub bodies_meant : TextsAreRenamed → BodiesAreMeant
bodies_meant renamed r look sends keeps local w =
    let b = seqs_of local.builder in
    let t = operators b 0 in
    let from = renamed r look sends keeps b t w in
    from.1 ∙ text_is r b t from.0
