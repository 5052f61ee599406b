-- Lemmas: the text of sequences that lie as a tree of operators is those operators, renamed.
use Rattle.std.proofs.Common.{ℕ, suc, ◌<◌, ◌≡◌, Bool, true, false, List, [], ◌∷◌, ◌++◌, length, map, Option, Some, refl, sym, ap, subst, ◌∙◌, inl, inr}
use Rattle.std.specs.Prelude.{slice_get}
use Rattle.std.proofs.lemmas.List.{append_assoc, map-append}
use Rattle.wasm_features.specs.declared.WasmFeatures.{WasmFeatures}
use Rattle.walrus_meaning.specs.walrus_body_writer.walrus_pairing.wasm_operators.declared.block_type.BlockType.{BlockType}
use Rattle.walrus_meaning.specs.walrus_body_writer.walrus_pairing.wasm_operators.Items.{Labels, Tags, Item, Names}
use Rattle.walrus_meaning.specs.walrus_local_function.walrus_body_parser.wasm_operators.declared.op_code.OpCode.{OpCode}
use Rattle.walrus_meaning.specs.walrus_local_function.walrus_body_parser.wasm_operators.declared.entry.Flow.TheVariants as flows
use Rattle.walrus_meaning.specs.walrus_local_function.walrus_body_parser.wasm_operators.Operators.{Seen}
use Rattle.walrus_meaning.specs.walrus_local_function.walrus_body_parser.wasm_operators.Table.{structure_rows}
use Rattle.walrus_meaning.specs.walrus_local_function.walrus_body_parser.wasm_operators.declared.entry.Kind.TheVariants as kinds
use Rattle.walrus_meaning.specs.walrus_local_function.walrus_body_parser.wasm_operators.Operators.{kind_of}
use Rattle.walrus_meaning.specs.walrus_local_function.walrus_body_locals.wasm_body_grammar.wasm_operators.Names.{Renaming, renamed_item, renamed_operator}
use Rattle.wasm_operators.specs.Ranges.{OperatorFits}
use Rattle.walrus_meaning.specs.walrus_local_function.walrus_body_locals.wasm_normal_form.Roles.{Placed, placed, cuts, is_if, else_op, end_op, Role, Passes, Runs, Opens, Turns, Ends, role}
use Rattle.walrus_meaning.specs.walrus_local_function.walrus_body_locals.wasm_normal_form.Trees.{Tree, Close, Arm, Skip, Run, Nest, flat, prepend, open_in, innermost}
use Rattle.walrus_meaning.specs.walrus_local_function.walrus_body_locals.wasm_normal_form.Normal.{picked, normal_from}
use Rattle.walrus_meaning.specs.walrus_local_function.walrus_body_locals.wasm_grammar.Modules as grammar
use Rattle.walrus_meaning.specs.walrus_local_function.walrus_body_locals.wasm_body_grammar.Bodies.{placed as placed_from}
use Rattle.walrus_meaning.specs.walrus_body_writer.walrus_body_env.walrus_instr.declared.instr.Instr.{Instr}
use Rattle.walrus_meaning.specs.walrus_body_writer.walrus_body_env.walrus_instr.declared.instr.LegacyCatch.{LegacyCatch}
use Rattle.walrus_meaning.specs.walrus_body_writer.walrus_body_env.walrus_instr.declared.instr.LegacyCatch.TheVariants as legacy
use Rattle.walrus_meaning.specs.walrus_body_writer.walrus_body_env.walrus_instr.declared.seq.InstrLocId.{InstrLocId}
use Rattle.walrus_meaning.specs.walrus_body_writer.walrus_body_env.walrus_instr.declared.seq.InstrSeq.{InstrSeq}
use Rattle.walrus_meaning.specs.walrus_body_writer.walrus_body_env.walrus_instr.declared.seq.InstrSeqType.{InstrSeqType}
use Rattle.walrus_meaning.specs.walrus_module.walrus_builder.Built.{Seq, seq_of}
use Rattle.walrus_meaning.specs.walrus_body_writer.walrus_tree.walrus_walks.Tree.{children, children_in, Falls, IsRank, IsNested}
use Rattle.walrus_tree.specs.Trees.{Has, AreDistinct}
use Rattle.walrus_tree.specs.Text.{Piece, Operator, Else, Catch, CatchAll, Delegate, End, after, after_parts, of_parts, of_instrs, text, operators}
use Rattle.walrus_tree.specs.TextLaws.{TextIsPlain}
use Rattle.walrus_meaning.specs.walrus_body_writer.walrus_pairing.walrus_codes.Runs.{byte}
use Rattle.walrus_meaning.specs.walrus_body_writer.walrus_pairing.Write.{seen_of}
use Rattle.walrus_pairing.specs.Laws.{OperatorComesBack}
use Rattle.walrus_meaning.specs.Bodies.{own_seen}
use Rattle.walrus_meaning.specs.walrus_local_function.walrus_body_locals.walrus_body_nesting.declared.frames.Opener.{Opener}
use Rattle.walrus_meaning.specs.walrus_local_function.walrus_body_locals.walrus_body_nesting.declared.frames.Opener.TheVariants as openers
use Rattle.walrus_meaning.specs.walrus_local_function.walrus_body_locals.walrus_body_nesting.Stands as stands
use Rattle.walrus_meaning.specs.walrus_local_function.walrus_body_locals.walrus_body_nesting.Stands.{Turn, Otherwise, Handles, HandlesAll, Part, Finish, Ended, Delegated, parts_of, finish_of, place_in, with, none, lies, StandsAs}
use Rattle.walrus_meaning.specs.walrus_local_function.walrus_body_locals.walrus_body_nesting.Opens.{same, Makes}
use Rattle.walrus_meaning.specs.walrus_local_function.walrus_body_parser.walrus_body_rules.Sights.{Sight}
use Rattle.walrus_meaning.specs.walrus_local_function.walrus_body_parser.walrus_body_steps.Meanings.{EndsAs, TurnsTo, meaning}
use Rattle.walrus_meaning.specs.walrus_local_function.walrus_body_parser.walrus_body_steps.Stepping.{same_op}
use Rattle.walrus_meaning.specs.walrus_local_function.walrus_body_parser.walrus_body_steps.Picks.{with_picks}
use Rattle.walrus_body_trees.specs.Laws.{IsNaming, AreOwn, renamed}
use Rattle.walrus_body_trees.proofs.Counted.{AllFit, Counts}
use Rattle.walrus_body_trees.proofs.Instrs.{seqs_in, made_children, run_stands}
use Rattle.walrus_body_trees.proofs.Shapes.{bare_is, code_is}
use Rattle.walrus_body_trees.proofs.Words.{run_means, nest_means}
use Rattle.walrus_body_trees.proofs.Standing.{Stays, with_here, with_stays, not_both, seen_at, body_lies, laid}

-- ---- each operator of a tree fits its code

abbrev pub Fits : WasmFeatures → Tree → Type 0
Fits features (Close o p) = OperatorFits features o
Fits features (Arm o p t) = OperatorFits features o × Fits features t
Fits features (Skip o p t) = OperatorFits features o × Fits features t
Fits features (Run o p t) = OperatorFits features o × Fits features t
Fits features (Nest o p u t) = OperatorFits features o × Fits features u × Fits features t

abbrev pub FitAll : WasmFeatures → List Tree → Type 0
FitAll features [] = Unit {0}
FitAll features (t ∷ ts) = Fits features t × FitAll features ts

bare_fits : (features : WasmFeatures) → OperatorFits features else_op × OperatorFits features end_op
unfolding kind_of structure_rows
bare_fits features = (record { kind = kinds.Bare; listed = refl; items = refl }, record { kind = kinds.Bare; listed = refl; items = refl })

module _ (features : WasmFeatures) where
  one : (op : Seen) (place : Option ℕ) (r : Role) (ts : List Tree) → OperatorFits features op → FitAll features ts → FitAll features (prepend r op place ts)
  one op place Passes [] f h = tt
  one op place Passes (t ∷ ts) f h = ((f, h.0), h.1)
  one op place Runs [] f h = tt
  one op place Runs (t ∷ ts) f h = ((f, h.0), h.1)
  one op place Turns [] f h = tt
  one op place Turns (t ∷ ts) f h = ((f, h.0), h.1)
  one op place Opens [] f h = tt
  one op place Opens (u ∷ []) f h = tt
  one op place Opens (u ∷ (t ∷ ts)) f h = ((f, h.0, h.1.0), h.1.1)
  one op place Ends ts f h = (f, h)

  pub fit_all : (ops : List (ℕ × Seen)) (place : ℕ) → AllFit features ops → FitAll features (open_in (map (λ (o : grammar.Placed). placed o.op (Some o.place)) (placed_from place ops)))
  fit_all [] place f = tt
  fit_all (x ∷ xs) place f = one x.1 (Some place) (role x.1) _ f.0 (fit_all xs x.0 f.1)

  pub first_fits : (ts : List Tree) → FitAll features ts → Fits features (innermost ts)
  first_fits [] h = (bare_fits features).1
  first_fits (t ∷ ts) h = h.0

  pub normal_fits : (t : Tree) (bare dropped : Bool) → Fits features t → Fits features (normal_from same t bare dropped)
  normal_fits (Close o p) true dropped h = ((bare_fits features).0, (bare_fits features).1)
  normal_fits (Close o p) false dropped h = h
  normal_fits (Arm o p t) bare dropped h = (h.0, normal_fits t false false h.1)
  normal_fits (Skip o p t) bare dropped h = normal_fits t bare dropped h.1
  normal_fits (Run o p t) bare true h = normal_fits t bare true h.1
  normal_fits (Run o p t) bare false h = (h.0, normal_fits t bare (cuts o) h.1)
  normal_fits (Nest o p u t) bare true h = normal_fits t bare true h.2
  normal_fits (Nest o p u t) bare false h = (subst (OperatorFits features) (sym (same_op o)) h.0, normal_fits u (is_if o) false h.1, normal_fits t bare false h.2)

-- ---- what stands behind sequences

abbrev pub turn_piece : Turn → Piece
turn_piece Otherwise = Else
turn_piece (Handles tag) = Catch tag
turn_piece HandlesAll = CatchAll

-- behind the first of a block's sequences, and behind each later one
abbrev pub first_piece : List Part → Finish → Piece
first_piece [] Ended = End
first_piece [] (Delegated n) = Delegate n
first_piece (m ∷ ms) f = turn_piece m.turn

abbrev pub next_pieces : List Part → Finish → List Piece
next_pieces [] f = []
next_pieces (m ∷ ms) f = first_piece ms f ∷ next_pieces ms f

abbrev pub pieces : List Part → Finish → List Piece
pieces ms f = first_piece ms f ∷ next_pieces ms f

parts_after : (cs : List LegacyCatch) → after_parts cs ≡ pieces (parts_of cs) (finish_of cs)
parts_after [] = refl
parts_after (legacy.Catch tag k ∷ cs) = ap (λ (ps : List Piece). Catch tag ∷ ps) (parts_after cs)
parts_after (legacy.CatchAll k ∷ cs) = ap (λ (ps : List Piece). CatchAll ∷ ps) (parts_after cs)
parts_after (legacy.Delegate n ∷ cs) = refl

made_after : (g : Opener) (i : Instr) (q : stands.Block) → Makes g i q → after i ≡ pieces q.more q.finish
made_after openers.Block i q h = ap after h.0 ∙ ap (λ (ms : List Part). pieces ms Ended) (sym h.1) ∙ ap (pieces q.more) (sym h.2)
made_after openers.Loop i q h = ap after h.0 ∙ ap (λ (ms : List Part). pieces ms Ended) (sym h.1) ∙ ap (pieces q.more) (sym h.2)
made_after openers.If i q h = ap after h.1 ∙ ap (λ (ms : List Part). pieces ms Ended) (sym h.2) ∙ ap (pieces q.more) (sym h.3)
made_after openers.Try i q h = ap after h.1 ∙ parts_after h.0.items ∙ ap (λ (ms : List Part). pieces ms (finish_of h.0.items)) (sym h.2) ∙ ap (pieces q.more) (sym h.3)
made_after (openers.TryTable cs) i q h = ap after h.0 ∙ ap (λ (ms : List Part). pieces ms Ended) (sym h.1) ∙ ap (pieces q.more) (sym h.2)

-- ---- ranks

abbrev pub AllRanked : (ℕ → ℕ) → List ℕ → Type 0
AllRanked rank [] = Unit {0}
AllRanked rank (k ∷ ks) = (0 < rank k) × AllRanked rank ks

falls_ranked : (rank : ℕ → ℕ) (n : ℕ) (ks : List ℕ) → Falls rank n ks → AllRanked rank ks
falls_ranked rank n [] h = tt
falls_ranked rank n (k ∷ ks) h = (h.0, falls_ranked rank n ks h.2)

pub ranked_split : (rank : ℕ → ℕ) (xs ys : List ℕ) → AllRanked rank (xs ++ ys) → AllRanked rank xs × AllRanked rank ys
ranked_split rank [] ys h = (tt, h)
ranked_split rank (x ∷ xs) ys h = let p = ranked_split rank xs ys h.1 in ((h.0, p.0), p.1)

some_seq : (x y : InstrSeq) → ◌≡◌ {A = Option InstrSeq} (Some x) (Some y) → x ≡ y
some_seq x y e = cc

-- ---- what is around, was met

abbrev AllMet : (ℕ → Bool) → List ℕ → Type 0
AllMet met ks = (j : ℕ) → Has ks j → met j ≡ true

met_one : (met : ℕ → Bool) (ks : List ℕ) (k : ℕ) → AllMet met ks → AllMet (with k met) (k ∷ ks)
met_one met ks k h j (inl e) = ap (with k met) (sym e) ∙ with_here k met
met_one met ks k h j (inr a) = with_stays k met j (h j a)

fresh_apart : (met : ℕ → Bool) (ks : List ℕ) (k : ℕ) → AllMet met ks → met k ≡ false → AreDistinct ks → AreDistinct (k ∷ ks)
fresh_apart met ks k h fresh d = (λ a. not_both (met k) (h k a) fresh, d)

met_later : (met half : ℕ → Bool) (ks : List ℕ) → Stays met half → AllMet met ks → AllMet half ks
met_later met half ks stays h j a = stays j (h j a)

-- ---- texts

abbrev pub Line : Type 0
Line = Piece × InstrLocId

abbrev pub told : List InstrSeq → Line → Placed
told b p = placed (own_seen b p.0) (place_in p.1)

-- the text of sequence k from these instructions on, and of the further parts of its block
abbrev pub rest : List InstrSeq → List ℕ → ℕ → List (Instr × InstrLocId) → InstrLocId → List Part → Finish → List Line
rest b around k is e ms f = of_instrs (text b (k ∷ around)) (k ∷ around) is ++ (first_piece ms f, e) ∷ of_parts (text b around) (seqs_in ms) (next_pieces ms f)

-- it begins with the first instruction and what that holds
pub first_text : (b : List InstrSeq) (around : List ℕ) (k : ℕ) (i : Instr × InstrLocId) (is : List (Instr × InstrLocId)) (e : InstrLocId) (ms : List Part) (f : Finish) (xs : List Line)
    → of_parts (text b (k ∷ around)) (children i.0) (after i.0) ≡ xs → rest b around k (i ∷ is) e ms f ≡ (Operator (k ∷ around) i.0, i.1) ∷ (xs ++ rest b around k is e ms f)
first_text b around k i is e ms f xs h =
    let later = of_instrs (text b (k ∷ around)) (k ∷ around) is in
    let behind = (first_piece ms f, e) ∷ of_parts (text b around) (seqs_in ms) (next_pieces ms f) in
    let line : Line = (Operator (k ∷ around) i.0, i.1) in
    ap (λ (l : List Line). line ∷ ((l ++ later) ++ behind)) h ∙ ap (λ (l : List Line). line ∷ l) (append_assoc xs later behind)

-- an instruction that holds no sequence has no text but itself
pub none_text : (b : List InstrSeq) (around : List ℕ) (i : Instr) → children i ≡ [] → of_parts (text b around) (children i) (after i) ≡ []
none_text b around i h = ap (λ (ks : List ℕ). of_parts (text b around) ks (after i)) h

-- what a ranked sequence holds is ranked
pub held : (b : List InstrSeq) (rank : ℕ → ℕ) (is_rank : IsRank b rank) (k : ℕ) (y : InstrSeq) → 0 < rank k → slice_get b k ≡ Some y → AllRanked rank (children_in y.instrs.items)
held b rank is_rank k y some found =
    let h = is_rank k some in
    subst (λ (z : InstrSeq). AllRanked rank (children_in z.instrs.items)) (some_seq h.0 y (sym h.1 ∙ found)) (falls_ranked rank (rank k) (children_in h.0.instrs.items) h.2)

module _ (plain : TextIsPlain) (b : List InstrSeq) (rank : ℕ → ℕ) (is_rank : IsRank b rank) where
  -- the text of a sequence, and what stands behind it
  pub seq_text : (around : List ℕ) (k : ℕ) (y : InstrSeq) (ms : List Part) (f : Finish) → 0 < rank k → slice_get b k ≡ Some y
      → of_parts (text b around) (k ∷ seqs_in ms) (pieces ms f) ≡ rest b around k y.instrs.items y.end ms f
  seq_text around k y ms f some found =
      let nested : IsNested b k = record { rank = rank; is_rank = is_rank; ranked = some } in
      let later = of_parts (text b around) (seqs_in ms) (next_pieces ms f) in
      ap (λ (l : List Line). l ++ later) (plain b around k (first_piece ms f) y nested found) ∙ append_assoc (of_instrs (text b (k ∷ around)) (k ∷ around) y.instrs.items) ((first_piece ms f, y.end) ∷ []) later

  -- the text of what a block holds
  pub block_text : (around : List ℕ) (g : Opener) (i : Instr) (q : stands.Block) (y : InstrSeq) → Makes g i q → 0 < rank q.first → slice_get b q.first ≡ Some y
      → of_parts (text b around) (children i) (after i) ≡ rest b around q.first y.instrs.items y.end q.more q.finish
  block_text around g i q y makes some found =
      ap (λ (ks : List ℕ). of_parts (text b around) ks (after i)) (made_children g i q makes) ∙ ap (of_parts (text b around) (q.first ∷ seqs_in q.more)) (made_after g i q makes)
      ∙ seq_text around q.first y q.more q.finish some found

module _ (back : OperatorComesBack) (plain : TextIsPlain) (features : WasmFeatures) (s : Sight) (r : Renaming) (naming : IsNaming s r) (pick : BlockType → BlockType) (own : AreOwn s r pick) (b : List InstrSeq)
    (rank : ℕ → ℕ) (is_rank : IsRank b rank) where
  -- what stands where the tree stands
  abbrev Tells : List Line → Tree → Type 0
  Tells lines t = map (told b) lines ≡ map (renamed r) (flat (with_picks pick t))

  same_placed : (o o' : Seen) (p p' : Option ℕ) → o ≡ o' → p ≡ p' → placed o p ≡ placed o' p'
  same_placed o o' p p' e f = ap (λ (x : Seen). placed x p) e ∙ ap (placed o') f

  bare_renamed : (o : Seen) (k : ℕ) → (o.code ≡ byte k) × (o.items ≡ []) → seen_of (byte k) [] ≡ renamed_operator r o
  bare_renamed o k h = ap (λ (c : OpCode). seen_of c []) (sym h.0) ∙ ap (λ (is : List Item). seen_of o.code (map (renamed_item r) is)) (sym h.1)

  end_tells : (o : Seen) (f : Finish) → EndsAs o f → OperatorFits features o → own_seen b (first_piece [] f) ≡ renamed_operator r o
  end_tells o Ended h fits = bare_renamed o 0x0b (bare_is features o fits 0x0b flows.End h refl)
  end_tells o (Delegated n) h fits =
      ap (λ (m : ℕ). seen_of (byte 0x18) (Names Labels m ∷ [])) (sym (naming.labels n))
      ∙ ap (λ (c : OpCode). seen_of c (Names Labels (r Labels n) ∷ [])) (sym (code_is features o fits 0x18 flows.Delegate h.0 refl))
      ∙ ap (λ (is : List Item). seen_of o.code (map (renamed_item r) is)) (sym h.1)

  turn_tells : (o : Seen) (turn : Turn) (ty mine : InstrSeqType) → TurnsTo s ty o turn mine → OperatorFits features o → own_seen b (turn_piece turn) ≡ renamed_operator r o
  turn_tells o Otherwise ty mine h fits = bare_renamed o 0x05 (bare_is features o fits 0x05 flows.Else h.0 refl)
  turn_tells o HandlesAll ty mine h fits = bare_renamed o 0x19 (bare_is features o fits 0x19 flows.CatchAll h.0 refl)
  turn_tells o (Handles tag) ty mine (flow, n, items, found, handler) fits =
      ap (λ (m : ℕ). seen_of (byte 0x07) (Names Tags m ∷ [])) (sym (naming.ids Tags n tag found))
      ∙ ap (λ (c : OpCode). seen_of c (Names Tags (r Tags n) ∷ [])) (sym (code_is features o fits 0x07 flows.Catch flow refl))
      ∙ ap (λ (is : List Item). seen_of o.code (map (renamed_item r) is)) (sym items)

  -- a line, and more
  one_more : (line : Line) (lines : List Line) (op : Placed) (ops : List Placed) → told b line ≡ renamed r op → map (told b) lines ≡ map (renamed r) ops → map (told b) (line ∷ lines) ≡ map (renamed r) (op ∷ ops)
  one_more line lines op ops e f = ap (λ (x : Placed). x ∷ map (told b) lines) e ∙ ap (λ (xs : List Placed). renamed r op ∷ xs) f

  two_more : (xs ys : List Line) (os ps : List Placed) → map (told b) xs ≡ map (renamed r) os → map (told b) ys ≡ map (renamed r) ps → map (told b) (xs ++ ys) ≡ map (renamed r) (os ++ ps)
  two_more xs ys os ps e f = map-append (told b) xs ys ∙ ap (λ (l : List Placed). l ++ map (told b) ys) e ∙ ap (λ (l : List Placed). map (renamed r) os ++ l) f ∙ sym (map-append (renamed r) os ps)

  tells : (t : Tree) (around : List ℕ) (k : ℕ) (ty : InstrSeqType) (met : ℕ → Bool) (is : List (Instr × InstrLocId)) (e : InstrLocId) (ms : List Part) (f : Finish) (done : ℕ → Bool)
      → Counts features (suc (length around)) t → Fits features t → AreDistinct (k ∷ around) → AllMet met (k ∷ around) → AllRanked rank (children_in is) → AllRanked rank (seqs_in ms)
      → lies (meaning s) t (map seq_of b) around k ty met is e ms f done → Tells (rest b around k is e ms f) t
  tells (Close o p) around k ty met [] e [] f done c fits d m ri rm (ends, place, same) =
      ap (λ (x : Placed). x ∷ []) (same_placed (own_seen b (first_piece [] f)) (renamed_operator r o) (place_in e) p (end_tells o f ends fits) (sym place))
  tells (Close o p) around k ty met [] e (n ∷ ms) f done c fits d m ri rm h = absurd h
  tells (Close o p) around k ty met (i ∷ is) e ms f done c fits d m ri rm h = absurd h
  tells (Arm o p t) around k ty met [] e [] f done c fits d m ri rm h = absurd h
  tells (Arm o p t) around k ty met [] e (n ∷ ms) f done c fits d m ri rm (place, fresh, x, found, turns, lie) =
      let y = seen_at b n.seq x found in
      let outer : AllMet met around = λ j a. m j (inr a) in
      let later = tells t around n.seq ty (with n.seq met) y.0.instrs.items y.0.end ms f done c fits.1 (fresh_apart met around n.seq outer fresh d.1) (met_one met around n.seq outer) (held b rank is_rank n.seq y.0 rm.0 y.1) rm.1
      (subst (λ (z : Seq). lies (meaning s) t (map seq_of b) around n.seq ty (with n.seq met) z.instrs z.end ms f done) y.2 lie) in
      one_more (turn_piece n.turn, e) (of_parts (text b around) (n.seq ∷ seqs_in ms) (pieces ms f)) (placed o p) (flat (with_picks pick t))
      (same_placed (own_seen b (turn_piece n.turn)) (renamed_operator r o) (place_in e) p (turn_tells o n.turn ty x.ty turns fits.0) (sym place))
      (ap (map (told b)) (seq_text plain b rank is_rank around n.seq y.0 ms f rm.0 y.1) ∙ later)
  tells (Arm o p t) around k ty met (i ∷ is) e ms f done c fits d m ri rm h = absurd h
  tells (Skip o p t) around k ty met [] e [] f done c fits d m ri rm h = absurd h
  tells (Skip o p t) around k ty met [] e (n ∷ ms) f done c fits d m ri rm h = absurd h
  tells (Skip o p t) around k ty met (i ∷ is) e ms f done c fits d m ri rm h = absurd h
  tells (Run o p t) around k ty met [] e [] f done c fits d m ri rm h = absurd h
  tells (Run o p t) around k ty met [] e (n ∷ ms) f done c fits d m ri rm h = absurd h
  tells (Run o p t) around k ty met (i ∷ is) e ms f done c fits d m ri rm (runs, place, lie) =
      let stands_in = run_stands back features s (k ∷ around) o i.0 runs c.0 c.1 in
      let inner = subst (λ (ks : List ℕ). AllRanked rank (ks ++ children_in is)) stands_in.1 ri in
      let later = tells t around k ty met is e ms f done c.2 fits.1 d m inner rm lie in
      ap (map (told b)) (first_text b around k i is e ms f [] (none_text b (k ∷ around) i.0 stands_in.1))
      ∙ one_more (Operator (k ∷ around) i.0, i.1) (rest b around k is e ms f) (placed o p) (flat (with_picks pick t))
      (same_placed (own_seen b (Operator (k ∷ around) i.0)) (renamed_operator r o) (place_in i.1) p (run_means back features s r naming b (k ∷ around) d o i.0 runs fits.0) (sym place)) later
  tells (Nest o p u t) around k ty met [] e [] f done c fits d m ri rm h = absurd h
  tells (Nest o p u t) around k ty met [] e (n ∷ ms) f done c fits d m ri rm h = absurd h
  tells (Nest o p u t) around k ty met (i ∷ is) e ms f done c fits d m ri rm (q, (g, makes, opener), place, fresh, x, found, opens, half, inside, lie) =
      let y = seen_at b q.first x found in
      let split = ranked_split rank (children i.0) (children_in is) ri in
      let ranks = subst (AllRanked rank) (made_children g i.0 q makes) split.0 in
      let lie_in = subst (λ (z : Seq). lies (meaning s) u (map seq_of b) (k ∷ around) q.first x.ty (with q.first met) z.instrs z.end q.more q.finish half) y.2 inside in
      let laid_in = laid back features s b u (k ∷ around) q.first x.ty (with q.first met) y.0.instrs.items y.0.end q.more q.finish half c.0 lie_in in
      let inner = tells u (k ∷ around) q.first x.ty (with q.first met) y.0.instrs.items y.0.end q.more q.finish half c.0 fits.1 (fresh_apart met (k ∷ around) q.first m fresh d) (met_one met (k ∷ around) q.first m)
      (held b rank is_rank q.first y.0 ranks.0 y.1) ranks.1 lie_in in
      let met_half : AllMet half (k ∷ around) = λ j a. laid_in.stays j (with_stays q.first met j (m j a)) in
      let later = tells t around k ty half is e ms f done c.1 fits.2 d met_half split.1 rm lie in
      let block = rest b (k ∷ around) q.first y.0.instrs.items y.0.end q.more q.finish in
      let typed = subst (λ (z : Seq). (meaning s).opens o z.ty) y.2 opens in
      ap (map (told b)) (first_text b around k i is e ms f block (block_text plain b rank is_rank (k ∷ around) g i.0 q y.0 makes ranks.0 y.1))
      ∙ one_more (Operator (k ∷ around) i.0, i.1) (block ++ rest b around k is e ms f) (placed (picked pick o) p) (flat (with_picks pick u) ++ flat (with_picks pick t))
      (same_placed (own_seen b (Operator (k ∷ around) i.0)) (renamed_operator r (picked pick o)) (place_in i.1) p
      (nest_means back features s r naming b (k ∷ around) d pick own o g i.0 q y.0 makes opener typed y.1 fits.0) (sym place))
      (two_more block (rest b around k is e ms f) (flat (with_picks pick u)) (flat (with_picks pick t)) inner later)

  pub body_tells : (t : Tree) → Counts features 1 t → Fits features t → StandsAs (meaning s) (map seq_of b) t → 0 < rank 0 → map (told b) (operators b 0) ≡ map (renamed r) (flat (with_picks pick t))
  body_tells t c fits h ranked =
      let n = body_lies s b t h in
      let nested : IsNested b 0 = record { rank = rank; is_rank = is_rank; ranked = ranked } in
      let only : AllMet (with 0 none) (0 ∷ []) = met_one none [] 0 (λ j a. absurd a) in
      ap (map (told b)) (plain b [] 0 End n.0 nested n.1) ∙ tells t [] 0 h.ty (with 0 none) n.0.instrs.items n.0.end [] Ended h.done c fits ((λ a. a), tt) only (held b rank is_rank 0 n.0 ranked n.1) tt n.2
