-- Lemmas: what stands beside some types of handlers stands beside others.
use Rattle.std.proofs.Common.{◌≡◌, ◌∙◌, ℕ, Bool, List, [], ◌∷◌, ◌++◌, refl, sym, ap, subst}
use Rattle.std.specs.Prelude.{Option, Some, None, slice_get}
use Rattle.std.specs.Option.{option_map}
use Rattle.walrus_body_steps.specs.walrus_body_nesting.wasm_normal_form.wasm_operators.declared.block_type.BlockType.{BlockType}
use Rattle.walrus_body_steps.specs.walrus_body_nesting.wasm_normal_form.wasm_operators.declared.block_type.BlockType.TheVariants as blocks
use Rattle.walrus_body_steps.specs.walrus_body_nesting.wasm_normal_form.wasm_operators.declared.clause.Clause.{Clause}
use Rattle.walrus_body_steps.specs.walrus_body_nesting.wasm_normal_form.wasm_operators.declared.clause.Clause.TheVariants as clauses
use Rattle.walrus_body_steps.specs.walrus_body_nesting.wasm_normal_form.wasm_operators.Items.{Types, Labels, Item, Names, Byte, Heap, ManyLabels}
use Rattle.walrus_body_steps.specs.walrus_body_nesting.wasm_body_grammar.wasm_operators.declared.op_code.OpCode.{OpCode}
use Rattle.walrus_body_steps.specs.walrus_body_nesting.wasm_body_grammar.wasm_operators.Operators.{Seen}
use Rattle.walrus_body_steps.specs.walrus_body_nesting.wasm_normal_form.Trees.{Tree, Close, Arm, Skip, Run, Nest}
use Rattle.walrus_body_steps.specs.walrus_body_nesting.declared.frames.Opener.{Opener}
use Rattle.walrus_body_steps.specs.walrus_body_nesting.declared.frames.Opener.TheVariants as openers
use Rattle.walrus_body_steps.specs.walrus_body_nesting.Opens.{Makes, type_at}
use Rattle.walrus_body_steps.specs.walrus_body_nesting.Stands as stands
use Rattle.walrus_body_steps.specs.walrus_body_nesting.Stands.{Turn, Otherwise, Handles, HandlesAll, Part, Finish, EndsOnce, parts_of, lies, StandsAs, total}
use Rattle.walrus_body_steps.specs.walrus_body_rules.walrus_forms.declared.value.ValType.{ValType}
use Rattle.walrus_body_steps.specs.walrus_body_rules.Sights.{Sight, block_of, function_block, handler_of, look, results_of, tag_params, written_block}
use Rattle.walrus_body_steps.specs.Meanings.{AreClauses, IsClause, IsOpener, OpensOf, RunsAs, TurnsTo, meaning}
use Rattle.walrus_tree.specs.walrus_builder.Built.{Seq}
use Rattle.walrus_tree.specs.walrus_walks.walrus_instr.declared.instr.Instr.{Instr}
use Rattle.walrus_tree.specs.walrus_walks.walrus_instr.declared.instr.LegacyCatch.{LegacyCatch}
use Rattle.walrus_tree.specs.walrus_walks.walrus_instr.declared.instr.LegacyCatch.TheVariants as legacy
use Rattle.walrus_tree.specs.walrus_walks.walrus_instr.declared.instr.TryTableCatch.{TryTableCatch}
use Rattle.walrus_tree.specs.walrus_walks.walrus_instr.declared.seq.InstrLocId.{InstrLocId}
use Rattle.walrus_tree.specs.walrus_walks.walrus_instr.declared.seq.InstrSeqType.{InstrSeqType}
use Rattle.walrus_tree.specs.walrus_walks.walrus_instr.declared.seq.InstrSeqType.TheVariants.{Simple, MultiValue}
use Rattle.walrus_tree.specs.Trees.{Has}
use Rattle.walrus_handler_laws.specs.declared.handler.Handler.{Handler}
use Rattle.walrus_handler_laws.specs.Handlers.{AreTold, Slot, TellsHandlers, part_slots, seq_slots, slots, slots_in, tag_handler, turn_handler}
use Rattle.walrus_handler_laws.specs.Retyping.{AreTyped, HandlersStand, IsTyped, Widens, with_type}

-- ---- what is held by what

module _ (js : List ℕ) (told : ℕ → Option Handler) where
  pub told_front : (xs ys : List Slot) → AreTold js told (xs ++ ys) → AreTold js told xs × AreTold js told ys
  told_front [] ys h = (tt, h)
  told_front (x ∷ xs) ys h = let r = told_front xs ys h.2 in ((h.0, h.1, r.0), r.1)

  module _ (tags : ℕ → Option ℕ) (b : List Seq) where
    -- the further parts of a block of this type are told so
    abbrev pub PartsTold : InstrSeqType → List Part → Type 0
    PartsTold ty [] = Unit {0}
    PartsTold ty (n ∷ ms) = Has js n.seq × (told n.seq ≡ turn_handler tags ty n.turn) × PartsTold ty ms

    parts_told : (ty : InstrSeqType) (cs : List LegacyCatch) → EndsOnce cs → AreTold js told (part_slots tags (Some ty) cs) → PartsTold ty (parts_of cs)
    parts_told ty [] once h = tt
    parts_told ty (legacy.Catch tag k ∷ cs) once h = (h.0, h.1, parts_told ty cs once h.2)
    parts_told ty (legacy.CatchAll k ∷ cs) once h = (h.0, h.1, parts_told ty cs once h.2)
    parts_told ty (legacy.Delegate n ∷ cs) once h = tt

    -- of an instruction that holds this block
    pub makes_told : (g : Opener) (i : Instr) (q : stands.Block) (x : Seq) → Makes g i q → slice_get b q.first ≡ Some x → AreTold js told (slots tags b i)
        → Has js q.first × (told q.first ≡ None) × PartsTold x.ty q.more
    makes_told openers.Block i q x (is, more, fin) found h =
        let a = subst (λ (j : Instr). AreTold js told (slots tags b j)) is h in (a.0, a.1, subst (PartsTold x.ty) (sym more) tt)
    makes_told openers.Loop i q x (is, more, fin) found h =
        let a = subst (λ (j : Instr). AreTold js told (slots tags b j)) is h in (a.0, a.1, subst (PartsTold x.ty) (sym more) tt)
    makes_told openers.If i q x (k, is, more, fin) found h =
        let a = subst (λ (j : Instr). AreTold js told (slots tags b j)) is h in (a.0, a.1, subst (PartsTold x.ty) (sym more) a.2)
    makes_told openers.Try i q x (cs, is, more, fin, once) found h =
        let a = subst (λ (j : Instr). AreTold js told (slots tags b j)) is h in
        let typed : type_at b q.first ≡ Some x.ty = ap (option_map (λ (y : Seq). y.ty)) found in
        (a.0, a.1, subst (PartsTold x.ty) (sym more) (parts_told x.ty cs.items once (subst (λ (o : Option InstrSeqType). AreTold js told (part_slots tags o cs.items)) typed a.2)))
    makes_told (openers.TryTable cs) i q x (is, more, fin) found h =
        let a = subst (λ (j : Instr). AreTold js told (slots tags b j)) is h in (a.0, a.1, subst (PartsTold x.ty) (sym more) tt)

-- ---- another sight

module _ (s v : Sight) (wide : Widens s v) where
  -- with the same ids written as such
  abbrev pub u : Sight
  u = record v { ids = s.ids; function = s.function }

  u_is : u ≡ v
  u_is = let a = sym wide.ids in let b = sym wide.function in λ i. record v { ids = a i; function = b i }

  runs_kept : (around : List ℕ) (code : OpCode) (items : List Item) (i : Instr) → RunsAs s around code items i → RunsAs u around code items i
  runs_kept around code (Names Labels n ∷ []) i h = h
  runs_kept around code (ManyLabels ns ∷ Names Labels n ∷ []) i h = h
  runs_kept around code (Byte b ∷ Names Labels n ∷ Heap x ∷ Heap y ∷ []) i h = h
  runs_kept around code _ i h = h

  clause_kept : (around : List ℕ) (h : Clause) (c : TryTableCatch) → IsClause s around h c → IsClause u around h c
  clause_kept around (clauses.Catch tag n) c is = is
  clause_kept around (clauses.CatchRef tag n) c is = is
  clause_kept around (clauses.CatchAll n) c is = is
  clause_kept around (clauses.CatchAllRef n) c is = is

  clauses_kept : (around : List ℕ) (hs : List Clause) (cs : List TryTableCatch) → AreClauses s around hs cs → AreClauses u around hs cs
  clauses_kept around [] cs are = are
  clauses_kept around (h ∷ hs) cs (d, ds, is, one, more) = (d, ds, is, clause_kept around h d one, clauses_kept around hs ds more)

  opener_kept : (around : List ℕ) (op : Seen) (g : Opener) → IsOpener s around op g → IsOpener u around op g
  opener_kept around op openers.Block h = h
  opener_kept around op openers.Loop h = h
  opener_kept around op openers.If h = h
  opener_kept around op openers.Try h = h
  opener_kept around op (openers.TryTable cs) (flow, ty, hs, items, are) = (flow, ty, hs, items, clauses_kept around hs cs.items are)

  -- ---- types of blocks

  block_kept : (ps rs qs ts : Option (List ValType)) (ty : InstrSeqType) → ((l : List ValType) → ps ≡ Some l → qs ≡ Some l) → ((l : List ValType) → rs ≡ Some l → ts ≡ Some l)
      → block_of s ps rs ≡ Some ty → block_of u qs ts ≡ Some ty
  block_kept None rs qs ts ty p r h = absurd cc
  block_kept (Some a) None qs ts ty p r h = absurd cc
  block_kept (Some a) (Some b) qs ts ty p r h = rw (p a refl) (rw (r b refl) (wide.blocks a b ty h))

  function_kept : (o : Option ℕ) (ty : InstrSeqType) → function_block s o ≡ Some ty → function_block u o ≡ Some ty
  function_kept None ty h = h
  function_kept (Some id) ty h = block_kept (s.params id) (s.results id) (u.params id) (u.results id) ty (wide.params id) (wide.results id) h

  pub written_kept : (w : BlockType) (ty : InstrSeqType) → written_block s w ≡ Some ty → written_block u w ≡ Some ty
  written_kept blocks.Empty ty h = h
  written_kept (blocks.Value x) ty h = h
  written_kept (blocks.Type n) ty h = function_kept (look s Types n) ty h

  opens_kept : (op : Seen) (ty : InstrSeqType) → OpensOf s op ty → OpensOf u op ty
  opens_kept op ty (written, more, items, is) = (written, more, items, written_kept written ty is)

  -- ---- handlers

  handler_kept : (ps rs qs ts : Option (List ValType)) (own new : InstrSeqType) → ((l : List ValType) → ps ≡ Some l → qs ≡ Some l) → ((l : List ValType) → rs ≡ Some l → ts ≡ Some l)
      → handler_of s ps rs ≡ Some own → ((params results : List ValType) → ps ≡ Some params → rs ≡ Some results → u.handler_type params results ≡ Some new) → handler_of u qs ts ≡ Some new
  handler_kept None rs qs ts own new p r h typed = absurd cc
  handler_kept (Some a) None qs ts own new p r h typed = absurd cc
  handler_kept (Some a) (Some b) qs ts own new p r h typed = rw (p a refl) (rw (r b refl) (typed a b refl refl))

  pub results_kept : (block : InstrSeqType) (l : List ValType) → results_of s block ≡ Some l → results_of u block ≡ Some l
  results_kept (Simple ty) l h = h
  results_kept (MultiValue id) l h = wide.results id l h

  -- of a tag that has a type
  tag_typed : (tag : ℕ) (o : Option ℕ) (block old own new : InstrSeqType) → s.tag_type tag ≡ o → handler_of s (tag_params s o) (results_of s block) ≡ Some own → IsTyped s u (tag_handler o block) old new
      → handler_of u (tag_params u (u.tag_type tag)) (results_of u block) ≡ Some new
  tag_typed tag None block old own new e h typed = absurd cc
  tag_typed tag (Some t) block old own new e h typed =
      rw (wide.tags tag t e) (handler_kept (s.params t) (results_of s block) (u.params t) (results_of u block) own new (wide.params t) (results_kept block) h typed)

  turn_kept : (block : InstrSeqType) (op : Seen) (turn : Turn) (old new : InstrSeqType) → TurnsTo s block op turn old → IsTyped s u (turn_handler s.tag_type block turn) old new → TurnsTo u block op turn new
  turn_kept block op Otherwise old new (flow, is) typed = (flow, typed ∙ is)
  turn_kept block op (Handles tag) old new (flow, n, items, named, is) typed =
      (flow, n, items, named, tag_typed tag (s.tag_type tag) block old old new refl is typed)
  turn_kept block op HandlesAll old new (flow, is) typed = (flow, handler_kept (Some []) (results_of s block) (Some []) (results_of u block) old new (λ l e. e) (results_kept block) is typed)

  -- ---- what lies

  module _ (b c : List Seq) (js : List ℕ) (told : ℕ → Option Handler) (tells : TellsHandlers s.tag_type b js told) (are : AreTyped s u told b c) where
    abbrev Told : List (Instr × InstrLocId) → Type 0
    Told is = AreTold js told (slots_in s.tag_type b is)

    entered : (j : ℕ) (x : Seq) → Has js j → slice_get b j ≡ Some x → Told x.instrs
    entered j x has found = subst (λ (o : Option Seq). AreTold js told (seq_slots s.tag_type b o)) found (tells.held j has)

    typed : (j : ℕ) (x : Seq) (h : Option Handler) → slice_get b j ≡ Some x → told j ≡ h → (ty : InstrSeqType) × (slice_get c j ≡ Some (with_type ty x)) × IsTyped s u h x.ty ty
    typed j x h found is = let r = are j x found in (r.0, r.1, subst (λ (o : Option Handler). IsTyped s u o x.ty r.0) is r.2)

    -- what is no handler is as it was
    same_seq : (j : ℕ) (x : Seq) → slice_get b j ≡ Some x → told j ≡ None → slice_get c j ≡ Some x
    same_seq j x found is = let r = typed j x None found is in r.1 ∙ ap (λ (ty : InstrSeqType). Some (with_type ty x)) r.2

    lies_kept : (t : Tree) (around : List ℕ) (k : ℕ) (ty : InstrSeqType) (met : ℕ → Bool) (is : List (Instr × InstrLocId)) (e : InstrLocId) (ms : List Part) (f : Finish) (done : ℕ → Bool)
        → Told is → PartsTold js told s.tag_type b ty ms → lies (meaning s) t b around k ty met is e ms f done → lies (meaning u) t c around k ty met is e ms f done
    lies_kept (Close o p) around k ty met [] e [] f done h g l = l
    lies_kept (Close o p) around k ty met [] e (n ∷ ms) f done h g l = absurd l
    lies_kept (Close o p) around k ty met (i ∷ is) e ms f done h g l = absurd l
    lies_kept (Arm o p t) around k ty met [] e [] f done h g l = absurd l
    lies_kept (Arm o p t) around k ty met [] e (n ∷ ms) f done h g (place, fresh, x, found, turns, lie) =
        let r = typed n.seq x (turn_handler s.tag_type ty n.turn) found g.1 in (
          place,
          fresh,
          with_type r.0 x,
          r.1,
          turn_kept ty o n.turn x.ty r.0 turns r.2,
          lies_kept t around n.seq ty _ x.instrs x.end ms f done (entered n.seq x g.0 found) g.2 lie,
        )
    lies_kept (Arm o p t) around k ty met (i ∷ is) e ms f done h g l = absurd l
    lies_kept (Skip o p t) around k ty met [] e [] f done h g l = absurd l
    lies_kept (Skip o p t) around k ty met [] e (n ∷ ms) f done h g l = absurd l
    lies_kept (Skip o p t) around k ty met (i ∷ is) e ms f done h g l = absurd l
    lies_kept (Run o p t) around k ty met [] e [] f done h g l = absurd l
    lies_kept (Run o p t) around k ty met [] e (n ∷ ms) f done h g l = absurd l
    lies_kept (Run o p t) around k ty met (i ∷ is) e ms f done h g (runs, place, lie) =
        let r = told_front js told (slots s.tag_type b i.0) (slots_in s.tag_type b is) h in
        (runs_kept (k ∷ around) o.code o.items i.0 runs, place, lies_kept t around k ty met is e ms f done r.1 g lie)
    lies_kept (Nest o p v t) around k ty met [] e [] f done h g l = absurd l
    lies_kept (Nest o p v t) around k ty met [] e (n ∷ ms) f done h g l = absurd l
    lies_kept (Nest o p v t) around k ty met (i ∷ is) e ms f done h g (q, (opened, makes, opener), place, fresh, x, found, opens, half, inside, lie) =
        let r = told_front js told (slots s.tag_type b i.0) (slots_in s.tag_type b is) h in
        let m = makes_told js told s.tag_type b opened i.0 q x makes found r.0 in (
          q,
          (opened, makes, opener_kept (k ∷ around) o opened opener),
          place,
          fresh,
          x,
          same_seq q.first x found m.1,
          opens_kept o x.ty opens,
          half,
          lies_kept v (k ∷ around) q.first x.ty _ x.instrs x.end q.more q.finish half (entered q.first x m.0 found) m.2 inside,
          lies_kept t around k ty half is e ms f done r.1 g lie,
        )

    pub stands_kept : (t : Tree) → total c ≡ total b → StandsAs (meaning s) b t → StandsAs (meaning v) c t
    stands_kept t same stands =
        let n = stands.enters in
        subst (λ (w : Sight). StandsAs (meaning w) c t) u_is (record {
          ty = stands.ty;
          done = stands.done;
          enters = record {
            seq = n.seq;
            fresh = n.fresh;
            found = same_seq 0 n.seq n.found tells.plain;
            typed = n.typed;
            lie = lies_kept t [] 0 stands.ty _ n.seq.instrs n.seq.end [] _ stands.done (entered 0 n.seq tells.body n.found) tt n.lie;
          };
          just = same ∙ stands.just;
        })

pub handlers_stand : HandlersStand
handlers_stand s v b c js told t wide tells are same = stands_kept s v wide b c js told tells (shifted are) t same
  where
    shifted : AreTyped s v told b c → AreTyped s (u s v wide) told b c
    shifted are j x found = let r = are j x found in (r.0, r.1, subst (λ (w : Sight). IsTyped s w (told j) x.ty r.0) (sym (u_is s v wide)) r.2)
