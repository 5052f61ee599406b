-- Lemmas: what is written under a map is what is written under none, renamed.
use Rattle.std.proofs.Common.{ap, sym, subst, ◌∙◌, ◌++◌, refl}
use Rattle.std.specs.Prelude.{ℕ, ◌≡◌, List, [], ◌∷◌, map, slice_get, Option, Some, None, Ok, Err}
use Rattle.std.proofs.lemmas.List.{map-id}
use Rattle.wasm_ref_types.specs.declared.heap.HeapType.{HeapType as WrittenHeap}
use Rattle.wasm_ref_types.specs.declared.value.ValType.{ValType as WrittenValue}
use Rattle.wasm_operators.specs.declared.block_type.BlockType.{BlockType}
use Rattle.wasm_operators.specs.declared.block_type.BlockType.TheVariants as blocks
use Rattle.wasm_operators.specs.declared.clause.Clause.{Clause}
use Rattle.wasm_operators.specs.declared.clause.Clause.TheVariants as handlers
use Rattle.wasm_operators.specs.Items.{Types, Tags, Labels, Item, Names, Byte, Heap, Block, ManyLabels, ManyClauses}
use Rattle.wasm_operators.specs.declared.op_code.OpCode.{OpCode}
use Rattle.wasm_operators.specs.Operators.{Seen}
use Rattle.wasm_operators.specs.Names.{Renaming, renamed_block, renamed_clause, renamed_item, renamed_operator}
use Rattle.walrus_forms.specs.declared.value.RefType.{RefType}
use Rattle.walrus_instr.specs.declared.instr.Instr.{Instr}
use Rattle.walrus_instr.specs.declared.instr.Instr.TheVariants as instrs
use Rattle.walrus_instr.specs.declared.instr.TryTableCatch.{TryTableCatch}
use Rattle.walrus_instr.specs.declared.instr.TryTableCatch.TheVariants as parts
use Rattle.walrus_instr.specs.declared.seq.InstrLocId.{InstrLocId}
use Rattle.walrus_instr.specs.declared.seq.InstrSeq.{InstrSeq}
use Rattle.walrus_instr.specs.declared.seq.InstrSeqType.{InstrSeqType}
use Rattle.walrus_instr.specs.declared.seq.InstrSeqType.TheVariants.{Simple, MultiValue}
use Rattle.walrus_tree.specs.Text.{Piece, Operator, Else, Catch, CatchAll, Delegate, End}
use Rattle.wasm_normal_form.specs.Roles.{Placed, placed}
use Rattle.walrus_codes.specs.Runs.{byte, object}
use Rattle.walrus_pairing.specs.Looks.{Look, Or, ◌>>=◌}
use Rattle.walrus_pairing.specs.Types.{written_heap, written_value}
use Rattle.walrus_pairing.specs.Write.{op, seen_of}
use Rattle.walrus_pairing.specs.Back.{ok_is, some_is}
use Rattle.walrus_pairing.specs.Sends.{OperatorsAreSent, Sends}
use Rattle.walrus_pairing.specs.Sent.{found_as, heap_as, value_as}
use Rattle.walrus_pairing.specs.Laws.{all}
use Rattle.walrus_body_names.specs.walrus_body_writer.Spelled.{AreWritten, IsWritten, Text, block, branch, cast, clause, clauses, flags, label, opening, type_in, written, written_instr}
use Rattle.walrus_body_laws.specs.WritingLaws.{place_in, placed_of, text_ops}
use Rattle.walrus_body_laws.specs.Renaming.{KeepsLabels, TextsAreRenamed, renamed_placed}
use Rattle.walrus_body_laws.proofs.Agreeing.{ToldPiece, piece_told}

module _ (plain : OperatorsAreSent) (r : Renaming) (look : Look) (sends : Sends r look) (keeps : KeepsLabels r) where
  -- ---- immediates

  block_as : (ty : InstrSeqType) (w : BlockType) → block look ty ≡ Ok w → (v : BlockType) × (block all ty ≡ Ok v) × (renamed_block r v ≡ w)
  block_as (Simple None) w e = (blocks.Empty, refl, ok_is blocks.Empty w e)
  block_as (Simple (Some ty)) w e = at (written_value (look Types) ty) refl
    where
      at : (o : Or WrittenValue) → written_value (look Types) ty ≡ o → (v : BlockType) × (block all (Simple (Some ty)) ≡ Ok v) × (renamed_block r v ≡ w)
      at (Ok x) h =
          let v = value_as r look sends ty x h in
          (blocks.Value v.0, (rw v.1 refl), ap (λ (z : WrittenValue). blocks.Value z) v.2 ∙ ok_is (blocks.Value x) w (rw h at e))
      at (Err x) h = absurd (let y = (rw h at e) in cc)
  block_as (MultiValue id) w e = (blocks.«Type» id, refl, ok_is (blocks.«Type» (r Types id)) w (found_as r look sends Types id (λ n. Ok (blocks.«Type» n)) w e))

  clause_as : (number : ℕ → ℕ) (c : TryTableCatch) (w : Clause) → clause look number c ≡ Ok w → (v : Clause) × (clause all number c ≡ Ok v) × (renamed_clause r v ≡ w)
  clause_as number (parts.Catch tag k) w e =
      (handlers.Catch tag (number k), refl, ap (handlers.Catch (r Tags tag)) (keeps (number k)) ∙ ok_is (handlers.Catch (r Tags tag) (number k)) w (found_as r look sends Tags tag (λ n. Ok (handlers.Catch n (number k))) w e))
  clause_as number (parts.CatchRef tag k) w e =
      (handlers.CatchRef tag (number k), refl, ap (handlers.CatchRef (r Tags tag)) (keeps (number k)) ∙ ok_is (handlers.CatchRef (r Tags tag) (number k)) w (found_as r look sends Tags tag (λ n. Ok (handlers.CatchRef n (number k))) w e))
  clause_as number (parts.CatchAll k) w e = (handlers.CatchAll (number k), refl, ap (λ (n : ℕ). handlers.CatchAll n) (keeps (number k)) ∙ ok_is (handlers.CatchAll (number k)) w e)
  clause_as number (parts.CatchAllRef k) w e = (handlers.CatchAllRef (number k), refl, ap (λ (n : ℕ). handlers.CatchAllRef n) (keeps (number k)) ∙ ok_is (handlers.CatchAllRef (number k)) w e)

  abbrev ClausesAs : (ℕ → ℕ) → List TryTableCatch → List Clause → Type 0
  ClausesAs number cs ws = (vs : List Clause) × (clauses all number cs ≡ Ok vs) × (map (renamed_clause r) vs ≡ ws)

  join_clauses : (number : ℕ → ℕ) (c : TryTableCatch) (cs : List TryTableCatch) (ws : List Clause) (first : Or Clause) (rest : Or (List Clause)) → clause look number c ≡ first → clauses look number cs ≡ rest
      → (first >>= λ x. rest >>= λ xs. Ok (x ∷ xs)) ≡ Ok ws → ((xs : List Clause) → clauses look number cs ≡ Ok xs → ClausesAs number cs xs) → ClausesAs number (c ∷ cs) ws
  join_clauses number c cs ws (Ok x) (Ok xs) f g e later =
      let v = clause_as number c x f in
      let vs = later xs g in
      (v.0 ∷ vs.0, (rw v.1 (rw vs.1 refl)), (λ i. v.2 i ∷ vs.2 i) ∙ ok_is (x ∷ xs) ws e)
  join_clauses number c cs ws (Ok x) (Err y) f g e later = absurd cc
  join_clauses number c cs ws (Err y) rest f g e later = absurd cc

  clauses_as : (number : ℕ → ℕ) (cs : List TryTableCatch) (ws : List Clause) → clauses look number cs ≡ Ok ws → ClausesAs number cs ws
  clauses_as number [] ws e = ([], refl, ok_is [] ws e)
  clauses_as number (c ∷ cs) ws e = join_clauses number c cs ws (clause look number c) (clauses look number cs) refl refl e (clauses_as number cs)

  labels_same : (ns : List ℕ) → map (r Labels) ns ≡ ns
  labels_same ns = (λ i. map (λ (n : ℕ). keeps n i) ns) ∙ map-id ns

  -- ---- pieces

  -- it is what is written under no map, renamed
  abbrev From : Or (Option Seen) → Seen → Type 0
  From a s = (bare : Seen) × (a ≡ Ok (Some bare)) × (s ≡ renamed_operator r bare)

  from : (a : Or (Option Seen)) (code : OpCode) (items renamed : List Item) (s : Seen) → a ≡ op code items → map (renamed_item r) items ≡ renamed → op code renamed ≡ Ok (Some s) → From a s
  from a code items renamed s is to e = (seen_of code items, is, sym (some_is (seen_of code renamed) s e) ∙ ap (seen_of code) (sym to))

  module _ (b : List InstrSeq) (number : ℕ → ℕ) where
    opening_from : (code k : ℕ) (s : Seen) → opening look b code k ≡ Ok (Some s) → From (opening all b code k) s
    opening_from code k s e = at (block look (type_in (slice_get b k))) refl
      where
        at : (o : Or BlockType) → block look (type_in (slice_get b k)) ≡ o → From (opening all b code k) s
        at (Ok w) h =
            let v = block_as (type_in (slice_get b k)) w h in
            from (opening all b code k) (byte code) (Block v.0 ∷ []) (Block w ∷ []) s (rw v.1 refl) (ap (λ (z : BlockType). Block z ∷ []) v.2) (rw h at e)
        at (Err x) h = absurd (let y = (rw h at e) in cc)

    branch_from : (code k : ℕ) (s : Seen) → branch code number k ≡ Ok (Some s) → From (branch code number k) s
    branch_from code k s e = from (branch code number k) (byte code) (Names Labels (number k) ∷ []) (Names Labels (number k) ∷ []) s refl (ap (λ (n : ℕ). Names Labels n ∷ []) (keeps (number k))) e

    abbrev cast_items : RefType → RefType → ℕ → WrittenHeap → WrittenHeap → List Item
    cast_items source target n x y = Byte (flags source.nullable target.nullable) ∷ Names Labels n ∷ Heap x ∷ Heap y ∷ []

    cast_from : (code k : ℕ) (source target : RefType) (s : Seen) → cast look code number k source target ≡ Ok (Some s) → From (cast all code number k source target) s
    cast_from code k source target s e = at (written_heap (look Types) source.heap_type) (written_heap (look Types) target.heap_type) refl refl
      where
        at : (o p : Or WrittenHeap) → written_heap (look Types) source.heap_type ≡ o → written_heap (look Types) target.heap_type ≡ p → From (cast all code number k source target) s
        at (Ok x) (Ok y) f g =
            let v = heap_as r look sends source.heap_type x f in
            let w = heap_as r look sends target.heap_type y g in
            from (cast all code number k source target) (object code) (cast_items source target (number k) v.0 w.0) (cast_items source target (number k) x y) s (rw v.1 (rw w.1 refl))
            (λ i. cast_items source target (keeps (number k) i) (v.2 i) (w.2 i)) (rw g at (rw f at e))
        at (Ok x) (Err y) f g = absurd (let z = (rw g at (rw f at e)) in cc)
        at (Err x) p f g = absurd (let z = (rw f at e) in cc)

    table_from : (k : ℕ) (cs : _) (s : Seen) → written_instr look b number (instrs.TryTable k cs) ≡ Ok (Some s) → From (written_instr all b number (instrs.TryTable k cs)) s
    table_from k cs s e = at (block look (type_in (slice_get b k))) (clauses look number cs.items) refl refl
      where
        at : (o : Or BlockType) (p : Or (List Clause)) → block look (type_in (slice_get b k)) ≡ o → clauses look number cs.items ≡ p → From (written_instr all b number (instrs.TryTable k cs)) s
        at (Ok x) (Ok y) f g =
            let v = block_as (type_in (slice_get b k)) x f in
            let w = clauses_as number cs.items y g in
            from (written_instr all b number (instrs.TryTable k cs)) (byte 0x1f) (Block v.0 ∷ ManyClauses w.0 ∷ []) (Block x ∷ ManyClauses y ∷ []) s (rw v.1 (rw w.1 refl)) (λ i. Block (v.2 i) ∷ ManyClauses (w.2 i) ∷ [])
            (rw g at (rw f at e))
        at (Ok x) (Err y) f g = absurd (let z = (rw g at (rw f at e)) in cc)
        at (Err x) p f g = absurd (let z = (rw f at e) in cc)

    instr_from : (i : Instr) (s : Seen) → written_instr look b number i ≡ Ok (Some s) → From (written_instr all b number i) s
    instr_from (instrs.Block k) s e = opening_from 0x02 k s e
    instr_from (instrs.Loop k) s e = opening_from 0x03 k s e
    instr_from (instrs.IfElse k other) s e = opening_from 0x04 k s e
    instr_from (instrs.Try k catches) s e = opening_from 0x06 k s e
    instr_from (instrs.TryTable k catches) s e = table_from k catches s e
    instr_from (instrs.Br k) s e = branch_from 0x0c k s e
    instr_from (instrs.BrIf k) s e = branch_from 0x0d k s e
    instr_from (instrs.BrTable other ks) s e =
        from (written_instr all b number (instrs.BrTable other ks)) (byte 0x0e) (ManyLabels (map number ks.items) ∷ Names Labels (number other) ∷ []) (ManyLabels (map number ks.items) ∷ Names Labels (number other) ∷ []) s refl
        (λ i. ManyLabels (labels_same (map number ks.items) i) ∷ Names Labels (keeps (number other) i) ∷ []) e
    instr_from (instrs.BrOnNull k) s e = branch_from 0xd5 k s e
    instr_from (instrs.BrOnNonNull k) s e = branch_from 0xd6 k s e
    instr_from (instrs.BrOnCast k source target) s e = cast_from 24 k source target s e
    instr_from (instrs.BrOnCastFail k source target) s e = cast_from 25 k source target s e
    instr_from (instrs.Rethrow depth) s e =
        from (written_instr all b number (instrs.Rethrow depth)) (byte 0x09) (Names Labels depth ∷ []) (Names Labels depth ∷ []) s refl (ap (λ (n : ℕ). Names Labels n ∷ []) (keeps depth)) e
    instr_from i s e = plain r look sends i s e

  piece_from : (b : List InstrSeq) (p : Piece) (s : Seen) → written look b p ≡ Ok (Some s) → From (written all b p) s
  piece_from b (Operator around i) s e = instr_from b (label around) i s e
  piece_from b Else s e = from (written all b Else) (byte 0x05) [] [] s refl refl e
  piece_from b (Catch tag) s e =
      from (written all b (Catch tag)) (byte 0x07) (Names Tags tag ∷ []) (Names Tags (r Tags tag) ∷ []) s refl refl (found_as r look sends Tags tag (λ n. op (byte 0x07) (Names Tags n ∷ [])) (Some s) e)
  piece_from b CatchAll s e = from (written all b CatchAll) (byte 0x19) [] [] s refl refl e
  piece_from b (Delegate depth) s e = from (written all b (Delegate depth)) (byte 0x18) (Names Labels depth ∷ []) (Names Labels depth ∷ []) s refl (ap (λ (n : ℕ). Names Labels n ∷ []) (keeps depth)) e
  piece_from b End s e = from (written all b End) (byte 0x0b) [] [] s refl refl e

  -- ---- texts

  record IsOne (a bare : Or (Option Seen)) (l : InstrLocId) : Type 0 where
    stands : IsWritten bare
    is : placed_of a l ≡ map (renamed_placed r) (placed_of bare l)

  one_piece : (b : List InstrSeq) (p : Piece) (l : InstrLocId) (a : Or (Option Seen)) → written look b p ≡ a → IsWritten a → ToldPiece look p a → IsOne (written look b p) (written all b p) l
  one_piece b p l (Ok (Some s)) e w t =
      let f = piece_from b p s e in
      record {
        stands = subst IsWritten (sym f.1) tt;
        is = ap (λ (z : Or (Option Seen)). placed_of z l) e ∙ ap (λ (z : Seen). placed z (place_in l) ∷ []) f.2 ∙ ap (λ (z : Or (Option Seen)). map (renamed_placed r) (placed_of z l)) (sym f.1);
      }
  one_piece b p l (Ok None) e w t = absurd t
  one_piece b p l (Err x) e w t = absurd w

  map_join : (xs ys : List Placed) → map (renamed_placed r) (xs ++ ys) ≡ map (renamed_placed r) xs ++ map (renamed_placed r) ys
  map_join [] ys = refl
  map_join (x ∷ xs) ys = ap (λ (z : List Placed). renamed_placed r x ∷ z) (map_join xs ys)

  text_from : (b : List InstrSeq) (t : Text) → AreWritten look b t → AreWritten all b t × (text_ops look b t ≡ map (renamed_placed r) (text_ops all b t))
  text_from b [] h = (tt, refl)
  text_from b (p ∷ ps) h =
      let one = one_piece b p.0 p.1 (written look b p.0) refl h.0 (piece_told look b p.0) in
      let rest = text_from b ps h.1 in (
        (one.stands, rest.0),
        ap (λ (z : List Placed). z ++ text_ops look b ps) one.is ∙ ap (λ (z : List Placed). map (renamed_placed r) (placed_of (written all b p.0) p.1) ++ z) rest.1
            ∙ sym (map_join (placed_of (written all b p.0) p.1) (text_ops all b ps)),
      )

pub texts_renamed : OperatorsAreSent → TextsAreRenamed
texts_renamed plain r look sends keeps b t h = text_from plain r look sends keeps b t h
