-- Lemmas: where no sequence has a legacy `try`, none is a handler.
use Rattle.std.proofs.Common.{◌≡◌, ◌∙◌, ℕ, zero, suc, Bool, true, false, List, [], ◌∷◌, ◌++◌, length, map, refl, sym, ap, arith}
use Rattle.std.specs.Prelude.{◌==◌, ◌||◌, Option, None, slice_get, if◌then◌else◌}
use Rattle.std.proofs.lemmas.Bool.{false≢true}
use Rattle.walrus_handler_laws.specs.walrus_tree.Trees.{IsTree}
use Rattle.walrus_handler_laws.specs.walrus_tree.walrus_builder.Built.{Seq, seq_of}
use Rattle.walrus_handler_laws.specs.walrus_tree.walrus_walks.walrus_instr.declared.instr.Instr.{Instr}
use Rattle.walrus_handler_laws.specs.walrus_tree.walrus_walks.walrus_instr.declared.instr.Instr.TheVariants as instrs
use Rattle.walrus_handler_laws.specs.walrus_tree.walrus_walks.walrus_instr.declared.seq.InstrLocId.{InstrLocId}
use Rattle.walrus_handler_laws.specs.walrus_tree.walrus_walks.walrus_instr.declared.seq.InstrSeq.{InstrSeq}
use Rattle.walrus_handler_laws.specs.declared.handler.Handler.{Handler}
use Rattle.walrus_handler_laws.specs.Handlers.{Slot, all_slots, handler_in, seq_slots, slots, slots_in, tree_ids}
use Rattle.walrus_handlers.specs.Gathering.{AreHandlers, has_try, have_try, is_try, listed}

-- none of these sequences is a handler
abbrev NoHandlers : List Slot → Type 0
NoHandlers [] = Unit {0}
NoHandlers (x ∷ xs) = (x.handles ≡ None) × NoHandlers xs

none_append : (xs ys : List Slot) → NoHandlers xs → NoHandlers ys → NoHandlers (xs ++ ys)
none_append [] ys h k = k
none_append (x ∷ xs) ys h k = (h.0, none_append xs ys h.1 k)

neither : (a b : Bool) → (a || b) ≡ false → (a ≡ false) × (b ≡ false)
neither true b e = absurd (false≢true (sym e))
neither false b e = (refl, e)

module _ (tags : ℕ → Option ℕ) (b : List Seq) where
  of_instr : (i : Instr) → is_try i ≡ false → NoHandlers (slots tags b i)
  of_instr (instrs.Try k cs) e = absurd (false≢true (sym e))
  of_instr (instrs.Block k) e = (refl, tt)
  of_instr (instrs.Loop k) e = (refl, tt)
  of_instr (instrs.IfElse k j) e = (refl, (refl, tt))
  of_instr (instrs.TryTable k cs) e = (refl, tt)
  of_instr _ e = tt

  of_instrs : (is : List (Instr × InstrLocId)) → has_try is ≡ false → NoHandlers (slots_in tags b is)
  of_instrs [] e = tt
  of_instrs (i ∷ is) e = let n = neither (is_try i.0) (has_try is) e in none_append (slots tags b i.0) (slots_in tags b is) (of_instr i.0 n.0) (of_instrs is n.1)

  of_seq : (c : List InstrSeq) (k : ℕ) → have_try c ≡ false → NoHandlers (seq_slots tags b (slice_get (map seq_of c) k))
  of_seq [] k e = tt
  of_seq (s ∷ c) zero e = of_instrs s.instrs.items (neither (has_try s.instrs.items) (have_try c) e).0
  of_seq (s ∷ c) (suc k) e = of_seq c k (neither (has_try s.instrs.items) (have_try c) e).1

of_all : (tags : ℕ → Option ℕ) (b : List InstrSeq) (js : List ℕ) → have_try b ≡ false → NoHandlers (all_slots tags (map seq_of b) js)
of_all tags b [] e = tt
of_all tags b (j ∷ js) e = none_append (seq_slots tags (map seq_of b) (slice_get (map seq_of b) j)) (all_slots tags (map seq_of b) js) (of_seq tags (map seq_of b) b j e) (of_all tags b js e)

none_in : (xs : List Slot) (j : ℕ) → NoHandlers xs → handler_in xs j ≡ None
none_in [] j h = refl
none_in (x ∷ xs) j h = by (x.seq == j) (none_in xs j h.1)
  where
    by : (c : Bool) → handler_in xs j ≡ None → (if c then x.handles else handler_in xs j) ≡ None
    by true e = h.0
    by false e = e

pub untried : (tags : ℕ → Option ℕ) (b : List InstrSeq) (t : IsTree b 0) (hs : List (Option Handler)) → have_try b ≡ false → hs ≡ [] → AreHandlers tags b (tree_ids t) hs
untried tags b t hs e none = record {
  short = let l = ap (λ (l : List (Option Handler)). length l) none in omega (arith, l);
  told = λ j lt. ap (λ (l : List (Option Handler)). listed l j) none ∙ sym (none_in (all_slots tags (map seq_of b) (tree_ids t)) j (of_all tags b (tree_ids t) e));
}
