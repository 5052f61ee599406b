-- Which sequences are handlers of a legacy `try`, and of what.
use Rattle.std.specs.Prelude.{◌≡◌, ℕ, ◌==◌, List, [], ◌∷◌, ◌++◌, map, Option, Some, None, slice_get, if◌then◌else◌}
use Rattle.walrus_body_steps.specs.walrus_body_nesting.Opens.{type_at}
use Rattle.walrus_body_steps.specs.walrus_body_nesting.Stands.{Turn, Otherwise, Handles, HandlesAll}
use Rattle.walrus_tree.specs.walrus_builder.Built.{Seq, seq_of}
use Rattle.walrus_tree.specs.walrus_walks.walrus_instr.declared.instr.Instr.{Instr}
use Rattle.walrus_tree.specs.walrus_walks.walrus_instr.declared.instr.Instr.TheVariants as instrs
use Rattle.walrus_tree.specs.walrus_walks.walrus_instr.declared.instr.LegacyCatch.{LegacyCatch}
use Rattle.walrus_tree.specs.walrus_walks.walrus_instr.declared.instr.LegacyCatch.TheVariants as legacy
use Rattle.walrus_tree.specs.walrus_walks.walrus_instr.declared.seq.InstrLocId.{InstrLocId}
use Rattle.walrus_tree.specs.walrus_walks.walrus_instr.declared.seq.InstrSeq.{InstrSeq}
use Rattle.walrus_tree.specs.walrus_walks.walrus_instr.declared.seq.InstrSeqType.{InstrSeqType}
use Rattle.walrus_tree.specs.Trees.{Has, Nothing, Tree, ids, IsTree}
use Rattle.walrus_handler_laws.specs.declared.handler.Handler.{Handler}

-- a handler of a tag of this type, or of all tags, in a block of this type
abbrev pub handler : Option ℕ → InstrSeqType → Handler
handler tag block = record { tag_type = tag; block = block }

-- the handler of a tag, by the type of that
abbrev pub tag_handler : Option ℕ → InstrSeqType → Option Handler
tag_handler (Some tag) block = Some (handler (Some tag) block)
tag_handler None block = None

-- the handler that a further part of a block of this type is, if it is one, by the types of tags
abbrev pub turn_handler : (ℕ → Option ℕ) → InstrSeqType → Turn → Option Handler
turn_handler tags block Otherwise = None
turn_handler tags block (Handles tag) = tag_handler (tags tag) block
turn_handler tags block HandlesAll = Some (handler None block)

abbrev pub known_handler : (ℕ → Option ℕ) → Option InstrSeqType → Turn → Option Handler
known_handler tags (Some block) turn = turn_handler tags block turn
known_handler tags None turn = None

-- a sequence that an instruction holds, and the handler that it is, if it is one
pub record Slot : Type 0 where
  pub seq : ℕ
  pub handles : Option Handler

abbrev pub slot : ℕ → Option Handler → Slot
slot k h = record { seq = k; handles = h }

-- the handlers of a `try` of this type
abbrev pub part_slots : (ℕ → Option ℕ) → Option InstrSeqType → List LegacyCatch → List Slot
part_slots tags block [] = []
part_slots tags block (legacy.Catch tag k ∷ cs) = slot k (known_handler tags block (Handles tag)) ∷ part_slots tags block cs
part_slots tags block (legacy.CatchAll k ∷ cs) = slot k (known_handler tags block HandlesAll) ∷ part_slots tags block cs
part_slots tags block (legacy.Delegate n ∷ cs) = part_slots tags block cs

-- the sequences that an instruction holds (Core Specification, structured instructions)
abbrev pub slots : (ℕ → Option ℕ) → List Seq → Instr → List Slot
slots tags b (instrs.Block k) = slot k None ∷ []
slots tags b (instrs.Loop k) = slot k None ∷ []
slots tags b (instrs.IfElse k j) = slot k None ∷ slot j None ∷ []
slots tags b (instrs.Try k cs) = slot k None ∷ part_slots tags (type_at b k) cs.items
slots tags b (instrs.TryTable k cs) = slot k None ∷ []
slots tags b _ = []

abbrev pub slots_in : (ℕ → Option ℕ) → List Seq → List (Instr × InstrLocId) → List Slot
slots_in tags b [] = []
slots_in tags b (i ∷ is) = slots tags b i.0 ++ slots_in tags b is

-- those of a sequence that is known
abbrev pub seq_slots : (ℕ → Option ℕ) → List Seq → Option Seq → List Slot
seq_slots tags b None = []
seq_slots tags b (Some s) = slots_in tags b s.instrs

-- those of all of these sequences
abbrev pub all_slots : (ℕ → Option ℕ) → List Seq → List ℕ → List Slot
all_slots tags b [] = []
all_slots tags b (k ∷ ks) = seq_slots tags b (slice_get b k) ++ all_slots tags b ks

-- the handler that a sequence is, by the first of these that is that sequence
abbrev pub handler_in : List Slot → ℕ → Option Handler
handler_in [] j = None
handler_in (x ∷ xs) j = if x.seq == j then x.handles else handler_in xs j

-- ---- when handlers are told by sequence

-- these sequences are among the ones of this list, and are told as the handlers that they are
abbrev pub AreTold : List ℕ → (ℕ → Option Handler) → List Slot → Type 0
AreTold js told [] = Unit {0}
AreTold js told (x ∷ xs) = Has js x.seq × (told x.seq ≡ x.handles) × AreTold js told xs

-- among these sequences is the body's own, which is no handler, and each that one of them holds; each is told as the handler that it is
pub record TellsHandlers (tags : ℕ → Option ℕ) (b : List Seq) (js : List ℕ) (told : ℕ → Option Handler) : Type 0 where
  pub body : Has js 0
  pub plain : told 0 ≡ None
  pub held : (k : ℕ) → Has js k → AreTold js told (seq_slots tags b (slice_get b k))

-- the sequences of a tree, in the order of the text
abbrev pub tree_ids : {b : List InstrSeq} {k : ℕ} → IsTree b k → List ℕ
tree_ids {k = k} t = ids (Tree k t.inside Nothing)

-- the handler that a sequence of a tree is, if it is one
abbrev pub told_by : (ℕ → Option ℕ) → (b : List InstrSeq) → List ℕ → ℕ → Option Handler
told_by tags b js = handler_in (all_slots tags (map seq_of b) js)

-- in a tree each sequence is held once, so that it is told as what it is
abbrev pub TreesTell : Type 0
TreesTell = (tags : ℕ → Option ℕ) (b : List InstrSeq) (t : IsTree b 0) → TellsHandlers tags (map seq_of b) (tree_ids t) (told_by tags b (tree_ids t))
