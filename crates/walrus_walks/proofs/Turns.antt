-- One turn of the walk, over the steps on its list.
use Rattle.std.proofs.Common.{ℕ, ◌+◌, ◌≡◌, List, [], ◌∷◌, ◌++◌, drop, Option, Some, sym, ap, subst, ◌∙◌, append_assoc}
use Rattle.std.specs.Prelude.{slice_get}
use Rattle.std.proofs.lemmas.List.{append-nil}
use Rattle.walrus_instr.specs.declared.instr.Instr.{Instr}
use Rattle.walrus_instr.specs.declared.seq.InstrLocId.{InstrLocId}
use Rattle.walrus_instr.specs.declared.seq.InstrSeq.{InstrSeq}
use Rattle.walrus_walks.specs.declared.steps.Step.{Step}
use Rattle.walrus_walks.specs.declared.steps.Step.TheVariants.{Enter, Resume}
use Rattle.walrus_walks.specs.Tree.{children, IsNested}
use Rattle.walrus_walks.specs.Events.{Event, StartOf, EndOf, Visits, names, block_names, events_of}
use Rattle.walrus_walks.specs.Walk.{of_items, walk}
use Rattle.walrus_walks.specs.Steps.{entering, id_of, rest_of, ahead, left, AreSteps}
use Rattle.walrus_walks.proofs.Nested.{AllNested, walk_at}

pub left_snoc : (b : List InstrSeq) (fs : List Step) (f : Step) → left b (fs ++ f ∷ []) ≡ ahead b f ++ left b fs
left_snoc b [] f = sym (append-nil (ahead b f))
left_snoc b (g ∷ fs) f = ap (λ (es : List Event). es ++ ahead b g) (left_snoc b fs f) ∙ append_assoc (ahead b f) (left b fs) (ahead b g)

pub left_entering : (b : List InstrSeq) (fs : List Step) (ks : List ℕ) → left b (fs ++ entering ks) ≡ events_of (walk b) ks ++ left b fs
left_entering b fs [] = ap (left b) (append-nil fs)
left_entering b fs (k ∷ ks) =
    let regroup : left b (fs ++ (entering ks ++ Enter k ∷ [])) ≡ left b ((fs ++ entering ks) ++ Enter k ∷ []) = ap (left b) (sym (append_assoc fs (entering ks) (Enter k ∷ []))) in
    let last = left_snoc b (fs ++ entering ks) (Enter k) in
    let others = ap (λ (es : List Event). walk b k ++ es) (left_entering b fs ks) in
    regroup ∙ last ∙ others ∙ sym (append_assoc (walk b k) (events_of (walk b) ks) (left b fs))

pub steps_snoc : (b : List InstrSeq) (fs : List Step) (f : Step) → AreSteps b fs → IsNested b (id_of f) → AreSteps b (fs ++ f ∷ [])
steps_snoc b [] f h n = (n, tt)
steps_snoc b (g ∷ fs) f h n = (h.0, steps_snoc b fs f h.1 n)

pub steps_last : (b : List InstrSeq) (fs : List Step) (f : Step) → AreSteps b (fs ++ f ∷ []) → IsNested b (id_of f) × AreSteps b fs
steps_last b [] f h = (h.0, tt)
steps_last b (g ∷ fs) f h = let p = steps_last b fs f h.1 in (p.0, (h.0, p.1))

pub steps_entering : (b : List InstrSeq) (fs : List Step) (ks : List ℕ) → AreSteps b fs → AllNested b ks → AreSteps b (fs ++ entering ks)
steps_entering b fs [] h n = let F : List Step → Type 0 = AreSteps b in subst F (sym (append-nil fs)) h
steps_entering b fs (k ∷ ks) h n =
    let F : List Step → Type 0 = AreSteps b in
    subst F (append_assoc fs (entering ks) (Enter k ∷ [])) (steps_snoc b (fs ++ entering ks) (Enter k) (steps_entering b fs ks h n.1) n.0)

-- to enter a sequence tells its start and what its block type names, and leaves its instructions
pub enters : (b : List InstrSeq) (fs : List Step) (k : ℕ) (s : InstrSeq) → IsNested b k → slice_get b k ≡ Some s
    → walk b k ++ left b fs ≡ (StartOf s ∷ block_names s.ty) ++ left b (fs ++ Resume k 0 ∷ [])
enters b fs k s h e =
    let start = ap (λ (es : List Event). es ++ left b fs) (walk_at b k s h e) in
    let rest : left b (fs ++ Resume k 0 ∷ []) ≡ (of_items (walk b) s.instrs.items ++ EndOf s ∷ []) ++ left b fs =
    left_snoc b fs (Resume k 0) ∙ ap (λ (o : Option InstrSeq). rest_of b o 0 ++ left b fs) e in
    let inner = of_items (walk b) s.instrs.items ++ EndOf s ∷ [] in
    start ∙ ap (λ (es : List Event). StartOf s ∷ es) (append_assoc (block_names s.ty) inner (left b fs)) ∙ ap (λ (es : List Event). (StartOf s ∷ block_names s.ty) ++ es) (sym rest)

-- past the last instruction it tells the end
pub ends : (b : List InstrSeq) (fs : List Step) (k i : ℕ) (s : InstrSeq) → slice_get b k ≡ Some s → drop i s.instrs.items ≡ []
    → ahead b (Resume k i) ++ left b fs ≡ (EndOf s ∷ []) ++ left b fs
ends b fs k i s e d =
    let at : rest_of b (slice_get b k) i ≡ rest_of b (Some s) i = ap (λ (o : Option InstrSeq). rest_of b o i) e in
    let over : rest_of b (Some s) i ≡ EndOf s ∷ [] = ap (λ (is : List (Instr × InstrLocId)). of_items (walk b) is ++ EndOf s ∷ []) d in
    ap (λ (es : List Event). es ++ left b fs) (at ∙ over)

-- an instruction is told with what it names; what it holds comes next, then the instructions after it
pub resumes : (b : List InstrSeq) (fs : List Step) (k i : ℕ) (s : InstrSeq) (x : Instr × InstrLocId) → slice_get b k ≡ Some s → drop i s.instrs.items ≡ x ∷ drop (i + 1) s.instrs.items
    → ahead b (Resume k i) ++ left b fs ≡ (Visits x.0 x.1 ∷ names x.0) ++ left b ((fs ++ Resume k (i + 1) ∷ []) ++ entering (children x.0))
resumes b fs k i s x e d =
    let w = walk b in
    let inner = events_of w (children x.0) in
    let after = of_items w (drop (i + 1) s.instrs.items) in
    let at : rest_of b (slice_get b k) i ≡ rest_of b (Some s) i = ap (λ (o : Option InstrSeq). rest_of b o i) e in
    let next : rest_of b (Some s) i ≡ (Visits x.0 x.1 ∷ (names x.0 ++ (inner ++ after))) ++ EndOf s ∷ [] = ap (λ (is : List (Instr × InstrLocId)). of_items w is ++ EndOf s ∷ []) d in
    let rest : left b ((fs ++ Resume k (i + 1) ∷ []) ++ entering (children x.0)) ≡ inner ++ ((after ++ EndOf s ∷ []) ++ left b fs) =
    left_entering b (fs ++ Resume k (i + 1) ∷ []) (children x.0)
    ∙ ap (λ (es : List Event). inner ++ es) (left_snoc b fs (Resume k (i + 1)) ∙ ap (λ (o : Option InstrSeq). rest_of b o (i + 1) ++ left b fs) e) in
    ap (λ (es : List Event). es ++ left b fs) (at ∙ next) ∙ regroup (Visits x.0 x.1) (names x.0) inner after (EndOf s ∷ []) (left b fs)
    ∙ ap (λ (es : List Event). (Visits x.0 x.1 ∷ names x.0) ++ es) (sym rest)
  where
    regroup : (v : Event) (ns es as_ end rest : List Event) → (v ∷ (ns ++ (es ++ as_)) ++ end) ++ rest ≡ (v ∷ ns) ++ (es ++ ((as_ ++ end) ++ rest))
    regroup v ns es as_ end rest = simp append_assoc
