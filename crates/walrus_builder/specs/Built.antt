-- What a contract sees of a body that is built: its sequences by id.
use Rattle.std.specs.Prelude.{◌≡◌, ◌≢◌, ℕ, zero, suc, ◌<◌, ◌≤◌, List, [], ◌∷◌, ◌++◌, length, map, insert, slice_get, Result, Ok, Err, MatchResult, OnErr, nat_lt, if◌then◌else◌}
use Rattle.std.specs.Fn.{Once, FnOnceReturnsAtMut}
use Rattle.std.specs.Borrow.{MutBor}
use Rattle.std.specs.declared.alloc.AllocError.{AllocError}
use Rattle.walrus_walks.specs.walrus_instr.declared.instr.Instr.{Instr}
use Rattle.walrus_walks.specs.walrus_instr.declared.seq.InstrLocId.{InstrLocId}
use Rattle.walrus_walks.specs.walrus_instr.declared.seq.InstrSeq.{InstrSeq}
use Rattle.walrus_walks.specs.walrus_instr.declared.seq.InstrSeqType.{InstrSeqType}

-- a sequence: its id and type, its instructions with their locations, the location of its end
pub record Seq : Type 0 where
  pub id : ℕ
  pub ty : InstrSeqType
  pub instrs : List (Instr × InstrLocId)
  pub end : InstrLocId

abbrev pub seq_of : InstrSeq → Seq
seq_of s = record { id = s.id; ty = s.ty; instrs = s.instrs.items; end = s.end }

-- the sequences by id, and which of them is at hand
pub record Building : Type 0 where
  pub id : ℕ
  pub seqs : List InstrSeq

-- the sequences by id, as they are seen
abbrev pub contents : Building → List Seq
contents b = map seq_of b.seqs

-- no location
abbrev pub no_place : InstrLocId
no_place = record { 0 = 4294967295 }

-- a sequence without instructions
abbrev pub empty_seq : ℕ → InstrSeqType → Seq
empty_seq id ty = record { id = id; ty = ty; instrs = []; end = no_place }

-- the sequence with these instructions in place of its own
abbrev pub with_instrs : Seq → List (Instr × InstrLocId) → Seq
with_instrs s is = record { id = s.id; ty = s.ty; instrs = is; end = s.end }

-- the sequence with this instruction from this location at its end
abbrev pub pushes_from : InstrLocId → Instr → Seq → Seq
pushes_from place i s = with_instrs s (s.instrs ++ (i, place) ∷ [])

-- the sequence with this instruction at its end, without a location
abbrev pub pushes : Instr → Seq → Seq
pushes i s = pushes_from no_place i s

-- the sequence with these instructions and this location of its end in place of its own
abbrev pub filled_with : List (Instr × InstrLocId) → InstrLocId → Seq → Seq
filled_with is end s = record { id = s.id; ty = s.ty; instrs = is; end = end }

-- the sequence with this instruction at a position
abbrev pub inserts : ℕ → Instr → Seq → Seq
inserts at i s = with_instrs s (insert s.instrs at (i, no_place))

-- the sequences with that of an id edited, if it is there
abbrev pub edited : {S : Type 0} → (S → S) → List S → ℕ → List S
edited f [] k = []
edited f (s ∷ ss) zero = f s ∷ ss
edited f (s ∷ ss) (suc k) = s ∷ edited f ss k

-- at most the sequence at hand was changed, and others were added
pub record Extends (b c : Building) : Type 0 where
  pub id : c.id ≡ b.id
  pub known : length (contents b) ≤ length (contents c)
  pub kept : (k : ℕ) → k < length (contents b) → k ≢ b.id → slice_get (contents c) k ≡ slice_get (contents b) k

-- an `Ok` edits the sequence at hand alone, a refusal leaves all as it was; the same sequence is at hand
pub record Edits (old : Building) (f : Seq → Seq) (r : Result (Unit {0}) AllocError) (new : Building) : Type 0 where
  pub id : new.id ≡ old.id
  pub made : MatchResult r (λ _. contents new ≡ edited f (contents old) old.id) (λ _. contents new ≡ contents old)
  pub others : Extends old new

-- an `Ok` edits the sequence of that id alone, if it is there, a refusal leaves all as it was; the same sequence is at hand
pub record EditsAt (old : Building) (k : ℕ) (f : Seq → Seq) (r : Result (Unit {0}) AllocError) (new : Building) : Type 0 where
  pub id : new.id ≡ old.id
  pub made : MatchResult r (λ _. contents new ≡ edited f (contents old) k) (λ _. contents new ≡ contents old)
  pub found : OnErr r (k < length old.seqs)

-- the sequences at hand and before it stay as they were; others may have been added
pub record Keeps (old new : Building) : Type 0 where
  pub id : new.id ≡ old.id
  pub known : length (contents old) ≤ length (contents new)
  pub kept : (k : ℕ) → k < length (contents old) → slice_get (contents new) k ≡ slice_get (contents old) k

-- an empty sequence was added to these, and is at hand
pub record IsBegun (ss : List Seq) (ty : InstrSeqType) (b : Building) : Type 0 where
  pub id : b.id ≡ length ss
  pub added : contents b ≡ ss ++ empty_seq (length ss) ty ∷ []

-- what is at hand again: the outer sequence, if there is one of that id, else the one at hand
abbrev pub back_to : ℕ → Building → ℕ
back_to outer b = if nat_lt outer (length b.seqs) then outer else b.id

-- an added sequence was filled by the closure, which answered r; the outer one is at hand again, if it is there
pub record IsLeft {F : Type 0} (g : Once F (MutBor Building × Unit {0}) (Result (Unit {0}) AllocError × (MutBor Building × Unit {0}))) (make : F) (ss : List Seq) (ty : InstrSeqType) (outer : ℕ) (r : Result (Unit {0}) AllocError) (new : Building) : Type 0 where
  pub begun : Building
  pub left : Building
  pub begins : IsBegun ss ty begun
  pub calls : FnOnceReturnsAtMut g make begun r left
  pub stays : contents new ≡ contents left
  pub back : new.id ≡ back_to outer left

-- a sequence was filled by the closure, and then the one at hand before, if it is there, was edited with its id
pub record IsMade {F : Type 0} (g : Once F (MutBor Building × Unit {0}) (Result (Unit {0}) AllocError × (MutBor Building × Unit {0}))) (make : F) (ty : InstrSeqType) (old : Building) (edit : ℕ → Seq → Seq) (new : Building) : Type 0 where
  pub filled : Building
  pub fills : IsLeft g make (contents old) ty old.id (Ok tt) filled
  pub made : contents new ≡ edited (edit (length (contents old))) (contents filled) old.id
  pub id : new.id ≡ filled.id

-- two were filled by two closures, the first's first, and then the one at hand before was edited with their ids
pub record IsMadeOfTwo {F G : Type 0} (g : Once F (MutBor Building × Unit {0}) (Result (Unit {0}) AllocError × (MutBor Building × Unit {0}))) (first : F) (h : Once G (MutBor Building × Unit {0}) (Result (Unit {0}) AllocError × (MutBor Building × Unit {0}))) (second : G) (ty : InstrSeqType) (old : Building) (edit : ℕ → ℕ → Seq → Seq) (new : Building) : Type 0 where
  pub half : Building
  pub filled : Building
  pub fills_first : IsLeft g first (contents old) ty old.id (Ok tt) half
  pub fills_second : IsLeft h second (contents half) ty old.id (Ok tt) filled
  pub made : contents new ≡ edited (edit (length (contents old)) (length (contents half))) (contents filled) old.id
  pub id : new.id ≡ filled.id

-- what a refusal leaves: all as it was, or what the closure left, which failed or after which the outer sequence didn't grow
pub data IsRefused {F : Type 0} (g : Once F (MutBor Building × Unit {0}) (Result (Unit {0}) AllocError × (MutBor Building × Unit {0}))) (make : F) (ty : InstrSeqType) (outer : ℕ) (old new : Building) : Type 0 where
  Unbegun : new.id ≡ old.id → contents new ≡ contents old → IsRefused g make ty outer old new
  Failed : (e : AllocError) → IsLeft g make (contents old) ty outer (Err e) new → IsRefused g make ty outer old new
  Ungrown : outer < length new.seqs → IsLeft g make (contents old) ty outer (Ok tt) new → IsRefused g make ty outer old new

-- what a refusal leaves, where the first closure fills one sequence and the second another
pub data IsRefusedOfTwo {F G : Type 0} (g : Once F (MutBor Building × Unit {0}) (Result (Unit {0}) AllocError × (MutBor Building × Unit {0}))) (first : F) (h : Once G (MutBor Building × Unit {0}) (Result (Unit {0}) AllocError × (MutBor Building × Unit {0}))) (second : G) (ty : InstrSeqType) (old new : Building) : Type 0 where
  First : IsRefused g first ty old.id old new → IsRefusedOfTwo g first h second ty old new
  Second : (half : Building) → IsLeft g first (contents old) ty old.id (Ok tt) half → IsRefused h second ty old.id half new → IsRefusedOfTwo g first h second ty old new

-- whatever it is called at, the closure changes at most the sequence at hand
abbrev pub ExtendsAlways : {F : Type 0} → Once F (MutBor Building × Unit {0}) (Result (Unit {0}) AllocError × (MutBor Building × Unit {0})) → F → Type 0
ExtendsAlways g make = (b c : Building) (r : Result (Unit {0}) AllocError) → FnOnceReturnsAtMut g make b r c → Extends b c
