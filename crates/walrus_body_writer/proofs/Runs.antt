-- Instructions that hold no sequence, written one after another at a place of an open sequence.
use Rattle.std.proofs.Common.{◌≡◌, false, List, [], ◌∷◌, ◌++◌, Some, Ok, Err, sym, ap, subst, ◌∙◌}
use Rattle.std.specs.Prelude.{slice_get, Result, IfErr, IsErr, IsErrAnd}
use Rattle.walrus_body_text.specs.walrus_tree.walrus_walks.walrus_instr.declared.instr.Instr.{Instr}
use Rattle.walrus_body_text.specs.walrus_tree.walrus_walks.walrus_instr.declared.seq.InstrLocId.{InstrLocId}
use Rattle.walrus_body_text.specs.walrus_tree.walrus_walks.walrus_instr.declared.seq.InstrSeq.{InstrSeq}
use Rattle.walrus_body_text.specs.walrus_tree.TextLaws.{TextIsPlain}
use Rattle.walrus_pairing.specs.Looks.{Look}
use Rattle.walrus_pairing.specs.declared.error.PairError.{PairError}
use Rattle.walrus_pairing.specs.declared.error.PairError.TheVariants as errors
use Rattle.walrus_body_text.specs.declared.todo.Place.{Place}
use Rattle.walrus_body_text.specs.declared.todo.Todo.{Todo}
use Rattle.walrus_body_text.specs.declared.todo.Todo.TheVariants.{Inside}
use Rattle.walrus_body_text.specs.declared.todo.Met.TheVariants.{AnInstr}
use Rattle.walrus_body_text.specs.declared.depths.Depths.{Depths}
use Rattle.walrus_body_text.specs.Doing.{depths_after, height_after, holds, label_by, left, place_of}
use Rattle.walrus_body_text.specs.Walking.{state, advanced}
use Rattle.walrus_body_text.proofs.Runs.{behind, it_is, it_passed}
use Rattle.walrus_body_text.proofs.Steps.{opens}
use Rattle.walrus_body_writer.specs.declared.output.Output.{Output}
use Rattle.walrus_body_writer.specs.Spelled.{Text, written_instr}
use Rattle.walrus_body_writer.specs.Refusals.{IsLarge, value_in}
use Rattle.walrus_body_writer.specs.Emitting.{IsDone, Goes, GoesOn, GoesOff}
use Rattle.walrus_body_writer.proofs.Steps.{refuses, writes_on}

-- one of them, which stands there
module _ (b : List InstrSeq) (at : Place) (seq : InstrSeq) (i : Instr × InstrLocId) (found : slice_get b at.seq ≡ Some seq) (stands : slice_get seq.instrs.items at.next ≡ Some i) (none : holds i.0 ≡ false)
    (look : Look) (d : Depths) (old new : Output) where
  pub turn_writes : IsDone (IsLarge look (value_in b i.0)) (written_instr look b (label_by d.depths.items d.height) i.0) i.1 old new (Ok tt) → GoesOn look b d (Inside at) (Inside (advanced at)) old new
  turn_writes w = λ plain all first ts g.
      let W : Instr × InstrLocId → Type 0 = λ j. IsDone (IsLarge look (value_in b j.0)) (written_instr look b (label_by d.depths.items d.height) j.0) j.1 old new (Ok tt) in
      writes_on look b all first g.front (left b [] (ts ++ Inside at ∷ [])) (behind at ts d) old new g.parts g.wrote (AnInstr at.seq at.next) (it_passed b at seq i found stands none ts d plain g.good) (λ q j f s. subst W (it_is b at seq i found stands none q j f s) w)

  pub turn_refuses : (e : PairError) → IsDone (IsLarge look (value_in b i.0)) (written_instr look b (label_by d.depths.items d.height) i.0) i.1 old new (Err e) → GoesOff look b d (Inside at) e old new
  turn_refuses e w = λ plain all first ts g.
      let W : Instr × InstrLocId → Type 0 = λ j. IsDone (IsLarge look (value_in b j.0)) (written_instr look b (label_by d.depths.items d.height) j.0) j.1 old new (Err e) in
      refuses look b all first g.front (left b [] (ts ++ Inside at ∷ [])) (behind at ts d) old new g.parts g.wrote (AnInstr at.seq at.next) e (it_passed b at seq i found stands none ts d plain g.good) (λ q j f s. subst W (it_is b at seq i found stands none q j f s) w)

-- ---- one run behind another

pub writes_none : (look : Look) (b : List InstrSeq) (d : Depths) (top : Todo) (out : Output) → GoesOn look b d top top out out
writes_none look b d top out = λ plain all first ts g. g

pub writes_more : (look : Look) (b : List InstrSeq) (d : Depths) (top mid next : Todo) (old out new : Output) → GoesOn look b d top mid old out → GoesOn look b d mid next out new → GoesOn look b d top next old new
writes_more look b d top mid next old out new h k = λ plain all first ts g. k plain all first ts (h plain all first ts g)

pub refuses_more : (look : Look) (b : List InstrSeq) (d : Depths) (top mid : Todo) (e : PairError) (old out new : Output) → GoesOn look b d top mid old out → GoesOff look b d mid e out new → GoesOff look b d top e old new
refuses_more look b d top mid e old out new h k = λ plain all first ts g. k plain all first ts (h plain all first ts g)

-- ---- in the words of the loops

-- what is left as it was taken from the list
pub taken_goes : (look : Look) (b : List InstrSeq) (all : Text) (first : Output) (items ts : List Todo) (top : Todo) (d : Depths) (out : Output) → items ≡ ts ++ top ∷ [] → Goes look b all first (state items d) out
    → Goes look b all first (state (ts ++ top ∷ []) d) out
taken_goes look b all first items ts top d out e h = let F : List Todo → Type 0 = λ z. Goes look b all first (state z d) out in subst F e h

-- the same once it is open
pub open_goes : (look : Look) (b : List InstrSeq) (all : Text) (first : Output) → TextIsPlain → (items ts : List Todo) (top : Todo) (at : Place) (d e : Depths) (out : Output) → items ≡ ts ++ top ∷ [] → at ≡ place_of top
    → e.depths.items ≡ depths_after d.depths.items d.height top → e.height ≡ height_after d.height top → Goes look b all first (state items d) out → Goes look b all first (state (ts ++ Inside at ∷ []) e) out
open_goes look b all first plain items ts top at d e out is same lie high h =
    let t = taken_goes look b all first items ts top d out is h in
    let o = opens b plain ts top at d e t.good same lie high in
    record { good = o.good; front = t.front; parts = t.parts ∙ ap (λ (z : Text). t.front ++ z) o.same; wrote = t.wrote }

pub if_memory : {A : Type 0} (r : Result A PairError) (P : PairError → Type 0) → P errors.Memory → IsErr r × IsErrAnd r (λ (e : PairError). e ≡ errors.Memory) → IfErr r P
if_memory (Ok x) P p h = tt
if_memory (Err e) P p h = subst P (sym h.1) p
