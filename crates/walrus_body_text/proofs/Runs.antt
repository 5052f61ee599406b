-- Instructions that hold no sequence, one after another at a place of an open sequence.
use Rattle.std.proofs.Common.{ℕ, ◌≡◌, false, List, [], ◌∷◌, ◌++◌, Option, Some, Ok, Err, refl, sym, ap, subst, ◌∙◌, append-nil, inl, inr}
use Rattle.std.specs.Prelude.{slice_get, Result, OnErr}
use Rattle.walrus_tree.specs.walrus_walks.walrus_instr.declared.instr.Instr.{Instr}
use Rattle.walrus_tree.specs.walrus_walks.walrus_instr.declared.seq.InstrLocId.{InstrLocId}
use Rattle.walrus_tree.specs.walrus_walks.walrus_instr.declared.seq.InstrSeq.{InstrSeq}
use Rattle.walrus_tree.specs.Text.{Piece, Operator}
use Rattle.walrus_tree.specs.TextLaws.{TextIsPlain}
use Rattle.walrus_body_text.specs.declared.todo.Place.{Place}
use Rattle.walrus_body_text.specs.declared.todo.Todo.{Todo}
use Rattle.walrus_body_text.specs.declared.todo.Todo.TheVariants.{Inside}
use Rattle.walrus_body_text.specs.declared.todo.Met.TheVariants.{AnInstr}
use Rattle.walrus_body_text.specs.declared.depths.Depths.{Depths}
use Rattle.walrus_body_text.specs.Doing.{Text, depths_after, height_after, holds, left, place_of}
use Rattle.walrus_body_text.specs.Walking.{State, state, advanced, Advances, AdvancesAt, AdvancesIn, Good, Passed}
use Rattle.walrus_body_text.specs.Visiting.{Tells, TellsOn, TellsOff, ToldPart}
use Rattle.walrus_body_text.proofs.Lefts.{holds_none}
use Rattle.walrus_body_text.proofs.Steps.{opens, passed}
use Rattle.walrus_body_text.proofs.Folds.{tells_on}

-- what is left behind the instruction at a place
abbrev pub behind : Place → List Todo → Depths → State
behind at ts d = state (ts ++ Inside (advanced at) ∷ []) d

-- one of them, which stands there
module _ (b : List InstrSeq) (at : Place) (seq : InstrSeq) (i : Instr × InstrLocId) (found : slice_get b at.seq ≡ Some seq) (stands : slice_get seq.instrs.items at.next ≡ Some i) (none : holds i.0 ≡ false) where
  advances : (ts : List Todo) (d : Depths) → Advances b (Inside at) (AnInstr at.seq at.next) (state ts d) (behind at ts d)
  advances ts d =
      let xs : List Todo = ts ++ Inside (advanced at) ∷ [] in
      let F : Option InstrSeq → Type 0 = λ o. AdvancesAt (Inside at) (AnInstr at.seq at.next) o (state ts d) (behind at ts d) in
      let G : Option (Instr × InstrLocId) → Type 0 = λ o. AdvancesIn (Inside at) (AnInstr at.seq at.next) seq o (state ts d) (behind at ts d) in
      subst F (sym found) (subst G (sym stands) (record { is = refl; marks = refl; depths = refl; height = refl; todo = sym (ap (λ (z : List Todo). xs ++ z) (holds_none i.0 none) ∙ append-nil xs) }))

  pub it_passed : (ts : List Todo) (d : Depths) → TextIsPlain → Good b (state (ts ++ Inside at ∷ []) d) → Passed b (left b [] (ts ++ Inside at ∷ [])) (AnInstr at.seq at.next) (behind at ts d)
  it_passed ts d plain good = passed b plain (ts ++ Inside at ∷ []) ts (Inside at) d (AnInstr at.seq at.next) (behind at ts d) refl good (advances ts d)

  pub it_is : (q : InstrSeq) (j : Instr × InstrLocId) → slice_get b at.seq ≡ Some q → slice_get q.instrs.items at.next ≡ Some j → i ≡ j
  it_is q j f s = cc

  module _ {V : Type 0} (step : V → Piece × InstrLocId → V → Type 0) (same : V → V → Type 0) (old new : V) where
    pub turn_tells : ((around : List ℕ) → step old (Operator around i.0, i.1) new) → TellsOn step b (Inside at) (Inside (advanced at)) old new
    turn_tells w = λ plain all first ts d g.
        let W : Instr × InstrLocId → Type 0 = λ j. (around : List ℕ) → step old (Operator around j.0, j.1) new in
        tells_on step b all first g.front (left b [] (ts ++ Inside at ∷ [])) (behind at ts d) old new g.parts g.told (AnInstr at.seq at.next) (it_passed ts d plain g.good) (λ q j f s. subst W (it_is q j f s) w)

-- memory was wanted there
pub wants_there : {V : Type 0} (step : V → Piece × InstrLocId → V → Type 0) (same : V → V → Type 0) (b : List InstrSeq) (top : Todo) (old new : V) → same old new → TellsOff step same b top old new
wants_there step same b top old new h = λ plain all first ts d g. record { front = g.front; back = left b [] (ts ++ top ∷ []); parts = g.parts; last = old; told = g.told; kept = inr h }

-- ---- one run behind another

module _ {V : Type 0} (step : V → Piece × InstrLocId → V → Type 0) (same : V → V → Type 0) (b : List InstrSeq) where
  pub tells_none : (top : Todo) (v : V) → TellsOn step b top top v v
  tells_none top v = λ plain all first ts d g. g

  pub tells_more : (top mid next : Todo) (old v new : V) → TellsOn step b top mid old v → TellsOn step b mid next v new → TellsOn step b top next old new
  tells_more top mid next old v new h k = λ plain all first ts d g. k plain all first ts d (h plain all first ts d g)

  pub wants_more : (top mid : Todo) (old v new : V) → TellsOn step b top mid old v → TellsOff step same b mid v new → TellsOff step same b top old new
  wants_more top mid old v new h k = λ plain all first ts d g. k plain all first ts d (h plain all first ts d g)

-- ---- in the words of the loops

pub on_err : {A E : Type 0} (r : Result A E) (P : Type 0) → P → OnErr r P
on_err (Ok x) P p = tt
on_err (Err e) P p = p

-- what is left as it was taken from the list
pub taken_tells : {V : Type 0} (step : V → Piece × InstrLocId → V → Type 0) (b : List InstrSeq) (all : Text) (first : V) (items ts : List Todo) (top : Todo) (d : Depths) (v : V) → items ≡ ts ++ top ∷ [] → Tells step b all first (state items d) v
    → Tells step b all first (state (ts ++ top ∷ []) d) v
taken_tells step b all first items ts top d v e h = let F : List Todo → Type 0 = λ z. Tells step b all first (state z d) v in subst F e h

-- the same once it is open
pub open_tells : {V : Type 0} (step : V → Piece × InstrLocId → V → Type 0) (b : List InstrSeq) (all : Text) (first : V) → TextIsPlain → (items ts : List Todo) (top : Todo) (at : Place) (d e : Depths) (v : V) → items ≡ ts ++ top ∷ [] → at ≡ place_of top
    → e.depths.items ≡ depths_after d.depths.items d.height top → e.height ≡ height_after d.height top → Tells step b all first (state items d) v → Tells step b all first (state (ts ++ Inside at ∷ []) e) v
open_tells step b all first plain items ts top at d e v is same lie high h =
    let t = taken_tells step b all first items ts top d v is h in
    let o = opens b plain ts top at d e t.good same lie high in
    record { good = o.good; front = t.front; parts = t.parts ∙ ap (λ (z : Text). t.front ++ z) o.same; told = t.told }

-- a first part was told, and no more
pub told_part : {V : Type 0} (step : V → Piece × InstrLocId → V → Type 0) (same : V → V → Type 0) (b : List InstrSeq) (all : Text) (first : V) (s : State) (v : V) → Tells step b all first s v → ToldPart step same all first v
told_part step same b all first s v h = record { front = h.front; back = left b [] s.todo; parts = h.parts; last = v; told = h.told; kept = inl refl }

pub told_same : {V : Type 0} (step : V → Piece × InstrLocId → V → Type 0) (same : V → V → Type 0) (b : List InstrSeq) (all : Text) (first : V) (s : State) (v new : V) → Tells step b all first s v → same v new → ToldPart step same all first new
told_same step same b all first s v new h k = record { front = h.front; back = left b [] s.todo; parts = h.parts; last = v; told = h.told; kept = inr k }
