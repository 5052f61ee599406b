-- The sequences that form a tree are nested: ranks grow from what a sequence holds to it.
use Rattle.std.proofs.Common.{ℕ, ◌+◌, ◌<◌, ◌≤◌, ◌≡◌, cond, Bool, List, [], ◌∷◌, Some, refl, sym, ap, subst, arith, ◌∙◌, ◌⊎◌, inl, inr, ne_eqb, eq-eqb}
use Rattle.std.specs.Prelude.{slice_get, nat_eq}
use Rattle.std.proofs.lemmas.Bool.{cases_lt, cases_eq}
use Rattle.walrus_builder.specs.walrus_walks.walrus_instr.declared.seq.InstrSeq.{InstrSeq}
use Rattle.walrus_builder.specs.walrus_walks.Tree.{children_in, Falls, IsRank}
use Rattle.walrus_tree.specs.Trees.{Trees, Nothing, Tree, Stand}
use Rattle.walrus_tree.specs.TextLaws.{TreesAreNested}

pub record Ranked (b : List InstrSeq) : Type 0 where
  pub rank : ℕ → ℕ
  pub top : ℕ
  pub is_rank : IsRank b rank
  pub below : (k : ℕ) → rank k < top

abbrev pub AllRanked : (ℕ → ℕ) → List ℕ → Type 0
AllRanked rank [] = Unit {0}
AllRanked rank (k ∷ ks) = (0 < rank k) × AllRanked rank ks

-- more have a rank, these among them
pub record Grown (b : List InstrSeq) (old : Ranked b) (ks : List ℕ) : Type 0 where
  pub new : Ranked b
  pub keeps : (k : ℕ) → 0 < old.rank k → 0 < new.rank k
  pub ranked : AllRanked new.rank ks

-- the sequence k gets the rank `top`
abbrev pub put : (ℕ → ℕ) → ℕ → ℕ → ℕ → ℕ
put rank top k j = cond (nat_eq j k) top (rank j)

put_here : (rank : ℕ → ℕ) (top k j : ℕ) → j ≡ k → put rank top k j ≡ top
put_here rank top k j e = ap (λ (v : Bool). cond v top (rank j)) (eq-eqb j k e)

put_off : (rank : ℕ → ℕ) (top k j : ℕ) → (j ≡ k → ⊥) → put rank top k j ≡ rank j
put_off rank top k j n = ap (λ (v : Bool). cond v top (rank j)) (ne_eqb j k n)

module _ (b : List InstrSeq) (r : Ranked b) (k : ℕ) (none : r.rank k ≤ 0) where
  other : (j : ℕ) → 0 < r.rank j → j ≡ k → ⊥
  other j h e = let same = ap r.rank e in absurd (omega (arith, same, none, h))

  kept : (j : ℕ) → 0 < r.rank j → put r.rank r.top k j ≡ r.rank j
  kept j h = put_off r.rank r.top k j (other j h)

  falls_put : (ks : List ℕ) → AllRanked r.rank ks → Falls (put r.rank r.top k) r.top ks
  falls_put [] h = tt
  falls_put (c ∷ cs) h = let e = kept c h.0 in let l = r.below c in let p = h.0 in (omega (arith, e, p), omega (arith, e, l), falls_put cs h.1)

  falls_kept : (t : ℕ) (ks : List ℕ) → Falls r.rank t ks → Falls (put r.rank r.top k) t ks
  falls_kept t [] h = tt
  falls_kept t (c ∷ cs) h = let e = kept c h.0 in let l = h.1 in let p = h.0 in (omega (arith, e, p), omega (arith, e, l), falls_kept t cs h.2)

  module _ (s : InstrSeq) (found : slice_get b k ≡ Some s) (held : AllRanked r.rank (children_in s.instrs.items)) where
    put_rank : (j : ℕ) → 0 < put r.rank r.top k j → (j ≡ k) ⊎ (j ≡ k → ⊥) → (t : InstrSeq) × (slice_get b j ≡ Some t) × Falls (put r.rank r.top k) (put r.rank r.top k j) (children_in t.instrs.items)
    put_rank j h (inl e) =
        let F : ℕ → Type 0 = λ n. Falls (put r.rank r.top k) n (children_in s.instrs.items) in
        (s, ap (slice_get b) e ∙ found, subst F (sym (put_here r.rank r.top k j e)) (falls_put (children_in s.instrs.items) held))
    put_rank j h (inr n) =
        let same = put_off r.rank r.top k j n in
        let t = r.is_rank j (omega (arith, h, same)) in
        let F : ℕ → Type 0 = λ n. Falls (put r.rank r.top k) n (children_in t.0.instrs.items) in
        (t.0, t.1, subst F (sym same) (falls_kept (r.rank j) (children_in t.0.instrs.items) t.2))

    put_below : (j : ℕ) → (j ≡ k) ⊎ (j ≡ k → ⊥) → put r.rank r.top k j < r.top + 1
    put_below j (inl e) = let h = put_here r.rank r.top k j e in omega (arith, h)
    put_below j (inr n) = let h = put_off r.rank r.top k j n in let l = r.below j in omega (arith, h, l)

    put_keeps : (j : ℕ) → 0 < r.rank j → 0 < put r.rank r.top k j
    put_keeps j h = let e = kept j h in omega (arith, e, h)

    put_one : Grown b r (k ∷ [])
    put_one = record {
      new = record { rank = put r.rank r.top k; top = r.top + 1; is_rank = λ j h. put_rank j h (cases_eq j k); below = λ j. put_below j (cases_eq j k) };
      keeps = put_keeps;
      ranked = (let e = put_here r.rank r.top k k refl in let l = r.below k in omega (arith, e, l), tt);
    }

-- what holds only ranked sequences gets a rank
add : (b : List InstrSeq) (r : Ranked b) (k : ℕ) (s : InstrSeq) → slice_get b k ≡ Some s → AllRanked r.rank (children_in s.instrs.items) → (0 < r.rank k) ⊎ (r.rank k ≤ 0) → Grown b r (k ∷ [])
add b r k s found held (inl l) = record { new = r; keeps = λ j h. h; ranked = (l, tt) }
add b r k s found held (inr z) = put_one b r k z s found held

grow : (b : List InstrSeq) (ts : Trees) (around ks : List ℕ) → Stand b ts around ks → (r : Ranked b) → Grown b r ks
grow b Nothing around [] h r = record { new = r; keeps = λ j g. g; ranked = tt }
grow b Nothing around (k ∷ ks) h r = absurd h
grow b (Tree id inside beside) around [] h r = absurd h
grow b (Tree id inside beside) around (k ∷ ks) h r =
    let within = grow b inside (k ∷ around) (children_in h.1.instrs.items) h.4 r in
    let here = add b within.new k h.1 h.2 within.ranked (cases_lt 0 (within.new.rank k)) in
    let after = grow b beside around ks h.5 here.new in
    record {
      new = after.new;
      keeps = λ j g. after.keeps j (here.keeps j (within.keeps j g));
      ranked = (after.keeps k here.ranked.0, after.ranked);
    }

pub trees_are_nested : TreesAreNested
trees_are_nested b entry t =
    let start : Ranked b = record { rank = λ (_ : ℕ). 0; top = 1; is_rank = λ k h. absurd (omega (arith, h)); below = λ k. omega arith } in
    let g = grow b (Tree entry t.inside Nothing) [] (entry ∷ []) t.stands start in
    record { rank = g.new.rank; is_rank = g.new.is_rank; ranked = g.ranked.0 }
