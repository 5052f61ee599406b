-- Open sequences of a body that is read, and the tree that they grow into.
use Rattle.std.specs.Prelude.{◌≡◌, ◌≢◌, ℕ, zero, suc, ◌+◌, ◌<◌, ◌≤◌, Bool, true, false, List, [], ◌∷◌, ◌++◌, length, Option, Some, Ok, slice_get}
use Rattle.std.specs.Option.{option_map}
use Rattle.std.specs.Global.{Vec}
use Rattle.walrus_body_env.specs.walrus_instr.declared.instr.Instr.{Instr}
use Rattle.walrus_body_env.specs.walrus_instr.declared.instr.Instr.TheVariants as instr
use Rattle.walrus_body_env.specs.walrus_instr.declared.instr.LegacyCatch.{LegacyCatch}
use Rattle.walrus_body_env.specs.walrus_instr.declared.seq.InstrLocId.{InstrLocId}
use Rattle.walrus_body_env.specs.walrus_instr.declared.seq.InstrSeqType.{InstrSeqType}
use Rattle.walrus_builder.specs.Built.{Seq}
use Rattle.wasm_normal_form.specs.wasm_operators.declared.block_type.BlockType.{BlockType}
use Rattle.wasm_body_grammar.specs.wasm_operators.Operators.{Seen, flow_of}
use Rattle.wasm_body_grammar.specs.Frames.{Frame, Plain, Choice, turned}
use Rattle.wasm_normal_form.specs.Roles.{role}
use Rattle.wasm_normal_form.specs.Trees.{Tree, Nest, prepend, innermost}
use Rattle.wasm_normal_form.specs.Normal.{picked, normal_from}
use Rattle.walrus_body_nesting.specs.declared.frames.Opener.{Opener}
use Rattle.walrus_body_nesting.specs.declared.frames.Opener.TheVariants as openers
use Rattle.walrus_body_nesting.specs.declared.frames.Reach.{Reach}
use Rattle.walrus_body_nesting.specs.declared.frames.Reach.TheVariants.{Live, Cut, Dropped}
use Rattle.walrus_body_nesting.specs.Stands.{Turn, Otherwise, Part, part, Finish, Ended, Block, parts_of, finish_of, EndsOnce, Meaning, place_in, none, lies, Enters, StandsAs, total, tree_size}

-- an open sequence: what opened its block, where, and the block's type and first sequence; itself, what kind of part it is and the parts
-- begun behind the first one; whether what comes next is reached; its instructions
pub record Open : Type 0 where
  pub opener : Opener
  pub place : InstrLocId
  pub ty : InstrSeqType
  pub first : ℕ
  pub seq : ℕ
  pub kind : Frame
  pub turns : List Part
  pub reach : Reach
  pub instrs : List (Instr × InstrLocId)

-- an `if` that has no `else` so far
abbrev pub is_bare : Frame → Bool
is_bare Choice = true
is_bare _ = false

abbrev pub ids_of : List Open → List ℕ
ids_of [] = []
ids_of (o ∷ os) = o.seq ∷ ids_of os

abbrev pub kinds_of : List Open → List Frame
kinds_of [] = []
kinds_of (o ∷ os) = o.kind ∷ kinds_of os

-- the frames that are left
abbrev pub left_kinds : Bool → List Open → List Frame
left_kinds true os = []
left_kinds false os = kinds_of os

-- the ids fall from n on
abbrev pub Falling : ℕ → List ℕ → Type 0
Falling n [] = Unit {0}
Falling n (k ∷ ks) = (k < n) × Falling k ks

-- block types are kept as they are: what is picked for them is in the sequences' types
abbrev pub same : BlockType → BlockType
same ty = ty

-- ---- what is made of the rest of a sequence, what was met before it, and the operator that opened its block
pub record Grower : Type 0 where
  pub grow : Tree → Tree
  pub met : ℕ → Bool
  pub by : Seen

abbrev pub nothing : Tree
nothing = innermost []

abbrev pub kept : Reach → (Tree → Tree) → Bool → Tree → Tree
kept Live g bare t = g (normal_from same t bare false)
kept Cut g bare t = g (normal_from same t bare true)
kept Dropped g bare t = nothing

abbrev pub joined : Reach → Seen → Option ℕ → Tree → (Tree → Tree) → Tree → Tree
joined Live by p u g t = g (Nest (picked same by) p u t)
joined Cut by p u g t = g (Nest (picked same by) p u t)
joined Dropped by p u g t = g t

-- how the tree of an open sequence's block goes into the sequence around it
abbrev pub joins : Open → Grower → Tree → (Tree → Tree) → Tree → Tree
joins o c = joined o.reach c.by (place_in o.place)

-- the body's tree, from that of the innermost sequence and what is left of those around it
abbrev pub up : List Open → Tree → (Tree → (Tree → Tree) → Tree → Tree) → List Grower → List Tree → Tree
up [] u j cs ts = u
up (o ∷ os) u j (c ∷ cs) (t ∷ ts) = up os (kept o.reach (j u c.grow) (is_bare o.kind) t) (joins o c) cs ts
up (_ ∷ _) _ _ _ _ = nothing

abbrev pub grown : List Open → List Grower → List Tree → Tree
grown (o ∷ os) (c ∷ cs) (t ∷ ts) = up os (kept o.reach c.grow (is_bare o.kind) t) (joins o c) cs ts
grown _ _ _ = nothing

-- ---- how open sequences change

-- an instruction is added where it is reached, and cuts what follows or doesn't
abbrev pub ran_in : Reach → Instr × InstrLocId → Bool → Open → Open
ran_in Live i true o = record o { instrs = o.instrs ++ i ∷ []; reach = Cut }
ran_in Live i false o = record o { instrs = o.instrs ++ i ∷ []; reach = Live }
ran_in Cut i d o = o
ran_in Dropped i d o = o

abbrev pub ran : Instr × InstrLocId → Bool → Open → Open
ran i d o = ran_in o.reach i d o

-- a block is added where it was reached
abbrev pub nested : Reach → Instr × InstrLocId → Open → Open
nested Live i o = record o { instrs = o.instrs ++ i ∷ [] }
nested Cut i o = record o { instrs = o.instrs ++ i ∷ [] }
nested Dropped i o = o

-- whether the first operator of a block is reached, and that of its next part
abbrev pub reach_in : Reach → Reach
reach_in Live = Live
reach_in Cut = Dropped
reach_in Dropped = Dropped

abbrev pub reach_on : Reach → Reach
reach_on Live = Live
reach_on Cut = Live
reach_on Dropped = Dropped

-- a block begins, whose first sequence is k
abbrev pub begun : Opener → InstrLocId → InstrSeqType → Frame → ℕ → Reach → Open
begun g p ty kind k r = record { opener = g; place = p; ty = ty; first = k; seq = k; kind = kind; turns = []; reach = r; instrs = [] }

-- its next part begins, whose sequence is k
abbrev pub turned_to : Turn → ℕ → Frame → Open → Open
turned_to turn k kind o = record o { seq = k; kind = kind; turns = o.turns ++ part turn k ∷ []; reach = reach_on o.reach; instrs = [] }

-- ---- what is known of them

-- the sequence is none of these
abbrev pub Away : ℕ → List ℕ → Type 0
Away j [] = Unit {0}
Away j (k ∷ ks) = (j ≢ k) × Away j ks

abbrev pub type_at : List Seq → ℕ → Option InstrSeqType
type_at b j = option_map (λ (s : Seq). s.ty) (slice_get b j)

-- later on, closed sequences are as they were, and all have their types
pub record Later (b : List Seq) (ids : List ℕ) (later : List Seq) : Type 0 where
  pub closed : (j : ℕ) → j < length b → Away j ids → slice_get later j ≡ slice_get b j
  pub typed : (j : ℕ) → j < length b → type_at later j ≡ type_at b j

-- the instruction that is made of a block by what opened it
abbrev pub Makes : Opener → Instr → Block → Type 0
Makes openers.Block i q = (i ≡ instr.Block q.first) × (q.more ≡ []) × (q.finish ≡ Ended)
Makes openers.Loop i q = (i ≡ instr.Loop q.first) × (q.more ≡ []) × (q.finish ≡ Ended)
Makes openers.If i q = (k : ℕ) × (i ≡ instr.IfElse q.first k) × (q.more ≡ part Otherwise k ∷ []) × (q.finish ≡ Ended)
Makes openers.Try i q = (cs : Vec LegacyCatch) × (i ≡ instr.Try q.first cs) × (q.more ≡ parts_of cs.items) × (q.finish ≡ finish_of cs.items) × EndsOnce cs.items
Makes (openers.TryTable cs) i q = (i ≡ instr.TryTable q.first cs) × (q.more ≡ []) × (q.finish ≡ Ended)

-- a block that was opened so, inside these sequences
pub record IsBegun (m : Meaning) (around : List ℕ) (g : Opener) (ty : InstrSeqType) (by : Seen) : Type 0 where
  pub nests : (i : Instr) (q : Block) → Makes g i q → m.nests around (picked same by) i q
  pub opens : m.opens (picked same by) ty

-- the body itself is not opened by an operator
abbrev pub Begun : Meaning → List ℕ → Opener → InstrSeqType → Seen → Type 0
Begun m [] g ty by = Unit {0}
Begun m (k ∷ around) g ty by = IsBegun m (k ∷ around) g ty by

-- what is made of what follows has, beside that, what was read so far
abbrev pub IsSized : (Tree → Tree) → Type 0
IsSized grow = (t : Tree) → tree_size (grow t) ≡ tree_size (grow nothing) + tree_size t

-- whatever follows: if it lies behind the open sequence's instructions, then the whole block stands
pub record Grows (m : Meaning) (b : List Seq) (ids around : List ℕ) (o : Open) (before : ℕ → Bool) (c : Grower) : Type 0 where
  pub grows : (later : List Seq) → Later b ids later → (s : Seq) (more : List (Instr × InstrLocId)) → slice_get later o.seq ≡ Some s → s.instrs ≡ o.instrs ++ more
      → (ms : List Part) (f : Finish) (t : Tree) (done : ℕ → Bool) → lies m t later around o.seq o.ty c.met more s.end ms f done
      → Enters m later around o.first o.ty before (o.turns ++ ms) f (c.grow t) done
  pub fresh : (j : ℕ) → length b ≤ j → c.met j ≡ false
  pub begun : Begun m around o.opener o.ty c.by
  pub sized : IsSized c.grow

abbrev pub Unless : Reach → Type 0 → Type 0
Unless Live A = A
Unless Cut A = A
Unless Dropped A = Unit {0}

abbrev pub before_of : List Grower → ℕ → Bool
before_of [] = none
before_of (c ∷ cs) = c.met

-- nothing is claimed of what is not reached
abbrev pub AreSound : Meaning → List Open → List Seq → List ℕ → List Grower → Type 0
AreSound m [] b ids [] = Unit {0}
AreSound m (o ∷ os) b ids (c ∷ cs) = Unless o.reach (Grows m b ids (ids_of os) o (before_of cs) c) × AreSound m os b ids cs
AreSound _ _ _ _ _ = ⊥

abbrev pub IsReached : Reach → Type 0
IsReached Live = Unit {0}
IsReached Cut = Unit {0}
IsReached Dropped = ⊥

-- the outermost is the body's own
pub record IsBody (o : Open) : Type 0 where
  pub first : o.first ≡ 0
  pub turns : o.turns ≡ []
  pub kind : o.kind ≡ Plain
  pub reached : IsReached o.reach

abbrev pub EndsIn : Open → List Open → Type 0
EndsIn o [] = IsBody o
EndsIn o (u ∷ os) = EndsIn u os

abbrev pub Shaped : List Seq → List Open → Type 0
Shaped b [] = ⊥
Shaped b (o ∷ os) = Falling (length b) (ids_of (o ∷ os)) × EndsIn o os

-- ---- how many instructions there are

-- those of what was read of a block so far
abbrev pub weight : Grower → ℕ
weight c = tree_size (c.grow nothing)

abbrev pub weight_in : Reach → Grower → ℕ
weight_in Live c = weight c
weight_in Cut c = weight c
weight_in Dropped c = 0

abbrev pub weights : List Open → List Grower → ℕ
weights (o ∷ os) (c ∷ cs) = weight_in o.reach c + weights os cs
weights _ _ = 0

-- those of open sequences
abbrev pub held : List Open → ℕ
held [] = 0
held (o ∷ os) = length o.instrs + held os

abbrev pub instrs_at : List Seq → ℕ → List (Instr × InstrLocId)
instrs_at [] k = []
instrs_at (s ∷ b) zero = s.instrs
instrs_at (s ∷ b) (suc k) = instrs_at b k

-- these hold none, while they are open
abbrev pub AreBare : List Seq → List ℕ → Type 0
AreBare b [] = Unit {0}
AreBare b (k ∷ ks) = (instrs_at b k ≡ []) × AreBare b ks

-- what is around one that is reached is reached, too
abbrev pub AreAround : Reach → List Open → Type 0
AreAround r [] = Unit {0}
AreAround r (o ∷ os) = (IsReached r → IsReached o.reach) × AreAround o.reach os

-- what was read of the open blocks is all that the sequences hold
pub record Holds (b : List Seq) (os : List Open) (cs : List Grower) : Type 0 where
  pub bare : AreBare b (ids_of os)
  pub around : AreAround Dropped os
  pub sums : weights os cs ≡ total b + held os

-- with what is to come of these sequences, the body will stand as the tree; or, closed, it does
abbrev pub Reads : Meaning → Bool → List Seq → List Open → List Tree → Tree → Type 0
Reads m true b os ts w = StandsAs m b w
Reads m false b os ts w = (cs : List Grower) × AreSound m os b (ids_of os) cs × (grown os cs ts ≡ w) × Holds b os cs

abbrev pub Good : Bool → List Seq → List Open → Type 0
Good true b os = Unit {0}
Good false b os = Shaped b os

-- one operator was read: what would have stood with it to come now stands; `done`: it ended the body
pub record Steps (m : Meaning) (op : Seen) (p : Option ℕ) (b : List Seq) (os : List Open) (done : Bool) (c : List Seq) (us : List Open) : Type 0 where
  pub shaped : Good done c us
  pub kinds : turned (flow_of op.code) (kinds_of os) ≡ Ok (left_kinds done us)
  pub means : (ts : List Tree) (w : Tree) → Reads m false b os (prepend (role op) op p ts) w → Reads m done c us ts w
