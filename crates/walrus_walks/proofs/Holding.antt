-- Sequences that hold what they held are nested as they were.
use Rattle.std.proofs.Common.{ℕ, zero, suc, ◌≡◌, List, [], ◌∷◌, map, Some, refl, sym, ap, subst, ◌∙◌}
use Rattle.std.specs.Prelude.{slice_get}
use Rattle.walrus_instr.specs.declared.instr.Instr.{Instr}
use Rattle.walrus_instr.specs.declared.seq.InstrLocId.{InstrLocId}
use Rattle.walrus_instr.specs.declared.seq.InstrSeq.{InstrSeq}
use Rattle.walrus_walks.specs.Tree.{children, children_in, Falls, IsRank, IsNested}
use Rattle.walrus_walks.specs.Order.{last_first, held_by}
use Rattle.walrus_walks.proofs.Orders.{falls_split, falls_append, falls_last_first}

falls_first_last : (rank : ℕ → ℕ) (t : ℕ) (is : List (Instr × InstrLocId)) → Falls rank t (last_first is) → Falls rank t (children_in is)
falls_first_last rank t [] h = tt
falls_first_last rank t (i ∷ is) h =
    let p = falls_split rank t (last_first is) (children i.0) h in
    falls_append rank t (children i.0) (children_in is) p.1 (falls_first_last rank t is p.0)

-- the sequence at the same place, which holds the same
held_there : (b c : List InstrSeq) (k : ℕ) (s : InstrSeq) → map held_by c ≡ map held_by b → slice_get b k ≡ Some s → (t : InstrSeq) × (slice_get c k ≡ Some t) × (held_by t ≡ held_by s)
held_there [] c k s h e = let z : ⊥ = cc in absurd z
held_there (v ∷ b) [] k s h e = let z : ⊥ = cc in absurd z
held_there (v ∷ b) (u ∷ c) zero s h e =
    let es : v ≡ s = cc in
    let heads : held_by u ≡ held_by v = cc in
    (u, refl, heads ∙ ap held_by es)
held_there (v ∷ b) (u ∷ c) (suc k) s h e =
    let tails : map held_by c ≡ map held_by b = cc in
    held_there b c k s tails e

rank_same : (b c : List InstrSeq) (rank : ℕ → ℕ) → map held_by c ≡ map held_by b → IsRank b rank → IsRank c rank
rank_same b c rank h r k p =
    let s = r k p in
    let t = held_there b c k s.0 h s.1 in
    let F : List ℕ → Type 0 = Falls rank (rank k) in
    (t.0, t.1, falls_first_last rank (rank k) t.0.instrs.items (subst F (sym t.2) (falls_last_first rank (rank k) s.0.instrs.items s.2)))

pub nested_same : (b c : List InstrSeq) (k : ℕ) → map held_by c ≡ map held_by b → IsNested b k → IsNested c k
nested_same b c k h n = record { rank = n.rank; is_rank = rank_same b c n.rank h n.is_rank; ranked = n.ranked }
