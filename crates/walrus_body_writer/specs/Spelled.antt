-- What is written for a body: each piece of its text as an operator, in its shortest spelling, with numbers for what it names; or why
-- it isn't written.
use Rattle.std.specs.Prelude.{ℕ, suc, ◌+◌, ◌==◌, Bool, true, false, List, [], ◌∷◌, ◌++◌, map, length, Option, Some, None, Ok, Err, slice_get, if◌then◌else◌}
use Rattle.walrus_body_text.specs.walrus_tree.walrus_walks.walrus_instr.walrus_forms.declared.value.RefType.{RefType}
use Rattle.walrus_body_text.specs.walrus_tree.walrus_walks.walrus_instr.declared.instr.Instr.{Instr}
use Rattle.walrus_body_text.specs.walrus_tree.walrus_walks.walrus_instr.declared.instr.Instr.TheVariants.{Block as BlockInstr, Loop, IfElse, Try, TryTable, Br, BrIf, BrTable, BrOnNull, BrOnNonNull, BrOnCast, BrOnCastFail, Rethrow}
use Rattle.walrus_body_text.specs.walrus_tree.walrus_walks.walrus_instr.declared.instr.TryTableCatch.{TryTableCatch}
use Rattle.walrus_body_text.specs.walrus_tree.walrus_walks.walrus_instr.declared.instr.TryTableCatch.TheVariants as parts
use Rattle.walrus_body_text.specs.walrus_tree.walrus_walks.walrus_instr.declared.seq.InstrLocId.{InstrLocId}
use Rattle.walrus_body_text.specs.walrus_tree.walrus_walks.walrus_instr.declared.seq.InstrSeq.{InstrSeq}
use Rattle.walrus_body_text.specs.walrus_tree.walrus_walks.walrus_instr.declared.seq.InstrSeqType.{InstrSeqType}
use Rattle.walrus_body_text.specs.walrus_tree.walrus_walks.walrus_instr.declared.seq.InstrSeqType.TheVariants.{Simple, MultiValue}
use Rattle.walrus_body_text.specs.walrus_tree.Text.{Piece, Operator, Else, Catch, CatchAll, Delegate, End}
use Rattle.wasm_operators.specs.declared.block_type.BlockType.{BlockType}
use Rattle.wasm_operators.specs.declared.block_type.BlockType.TheVariants as blocks
use Rattle.wasm_operators.specs.declared.clause.Clause.{Clause}
use Rattle.wasm_operators.specs.declared.clause.Clause.TheVariants as handlers
use Rattle.wasm_operators.specs.Items.{Types, Tags, Labels, Names, Byte, Heap, Block, ManyLabels, ManyClauses}
use Rattle.wasm_operators.specs.Operators.{Seen}
use Rattle.walrus_operators.specs.wasm_operators.Bytes.{operator_bytes}
use Rattle.walrus_pairing.specs.walrus_codes.Runs.{byte, object}
use Rattle.walrus_pairing.specs.Looks.{Look, Or, ◌>>=◌, found}
use Rattle.walrus_pairing.specs.Types.{type_of, written_heap, written_value}
use Rattle.walrus_pairing.specs.Write.{op, operator_at}
pub use Rattle.walrus_body_text.specs.Doing.{Text}

-- how many sequences lie between a label and here (Core Specification, labels)
abbrev pub label : List ℕ → ℕ → ℕ
label [] k = 0
label (j ∷ js) k = if j == k then 0 else suc (label js k)

-- the type of a sequence
abbrev pub type_in : Option InstrSeq → InstrSeqType
type_in (Some s) = s.ty
type_in None = Simple None

-- the type of a block (Core Specification, binary format: control instructions)
abbrev pub block : Look → InstrSeqType → Or BlockType
block look (Simple None) = Ok blocks.Empty
block look (Simple (Some ty)) = written_value (look Types) ty >>= λ value. Ok (blocks.Value value)
block look (MultiValue ty) = type_of (look Types) ty >>= λ n. Ok (blocks.«Type» n)

-- ---- where labels have these numbers

abbrev pub branch : ℕ → (ℕ → ℕ) → ℕ → Or (Option Seen)
branch code number k = op (byte code) (Names Labels (number k) ∷ [])

abbrev pub opening : Look → List InstrSeq → ℕ → ℕ → Or (Option Seen)
opening look b code k = block look (type_in (slice_get b k)) >>= λ ty. op (byte code) (Block ty ∷ [])

abbrev pub clause : Look → (ℕ → ℕ) → TryTableCatch → Or Clause
clause look number (parts.Catch tag k) = found look Tags tag >>= λ n. Ok (handlers.Catch n (number k))
clause look number (parts.CatchRef tag k) = found look Tags tag >>= λ n. Ok (handlers.CatchRef n (number k))
clause look number (parts.CatchAll k) = Ok (handlers.CatchAll (number k))
clause look number (parts.CatchAllRef k) = Ok (handlers.CatchAllRef (number k))

abbrev pub clauses : Look → (ℕ → ℕ) → List TryTableCatch → Or (List Clause)
clauses look number [] = Ok []
clauses look number (c ∷ cs) = clause look number c >>= λ first. clauses look number cs >>= λ rest. Ok (first ∷ rest)

-- whether null is a value of the type from which, and of the one to which is cast
abbrev pub flags : Bool → Bool → ℕ
flags false false = 0
flags true false = 1
flags false true = 2
flags true true = 3

abbrev pub cast : Look → ℕ → (ℕ → ℕ) → ℕ → RefType → RefType → Or (Option Seen)
cast look code number k from to =
    written_heap (look Types) from.heap_type >>= λ source. written_heap (look Types) to.heap_type >>= λ target.
    op (object code) (Byte (flags from.nullable to.nullable) ∷ Names Labels (number k) ∷ Heap source ∷ Heap target ∷ [])

-- an instruction; the labels of a `try_table` are counted without its own
abbrev pub written_instr : Look → List InstrSeq → (ℕ → ℕ) → Instr → Or (Option Seen)
written_instr look b number (BlockInstr k) = opening look b 0x02 k
written_instr look b number (Loop k) = opening look b 0x03 k
written_instr look b number (IfElse k other) = opening look b 0x04 k
written_instr look b number (Try k catches) = opening look b 0x06 k
written_instr look b number (TryTable k catches) =
    block look (type_in (slice_get b k)) >>= λ ty. clauses look number catches.items >>= λ cs. op (byte 0x1f) (Block ty ∷ ManyClauses cs ∷ [])
written_instr look b number (Br k) = branch 0x0c number k
written_instr look b number (BrIf k) = branch 0x0d number k
written_instr look b number (BrTable other ks) = op (byte 0x0e) (ManyLabels (map number ks.items) ∷ Names Labels (number other) ∷ [])
written_instr look b number (BrOnNull k) = branch 0xd5 number k
written_instr look b number (BrOnNonNull k) = branch 0xd6 number k
written_instr look b number (BrOnCast k from to) = cast look 24 number k from to
written_instr look b number (BrOnCastFail k from to) = cast look 25 number k from to
written_instr look b number (Rethrow depth) = op (byte 0x09) (Names Labels depth ∷ [])
written_instr look b number instr = operator_at look instr

-- a piece of the text
abbrev pub written : Look → List InstrSeq → Piece → Or (Option Seen)
written look b (Operator around instr) = written_instr look b (label around) instr
written look b Else = op (byte 0x05) []
written look b (Catch tag) = found look Tags tag >>= λ n. op (byte 0x07) (Names Tags n ∷ [])
written look b CatchAll = op (byte 0x19) []
written look b (Delegate depth) = op (byte 0x18) (Names Labels depth ∷ [])
written look b End = op (byte 0x0b) []

-- the bytes of what is written
abbrev pub bytes_of : Or (Option Seen) → List ℕ
bytes_of (Ok (Some s)) = operator_bytes s
bytes_of _ = []

abbrev pub piece_bytes : Look → List InstrSeq → Piece → List ℕ
piece_bytes look b p = bytes_of (written look b p)

-- the bytes of a text
abbrev pub text_bytes : Look → List InstrSeq → Text → List ℕ
text_bytes look b [] = []
text_bytes look b (p ∷ ps) = piece_bytes look b p.0 ++ text_bytes look b ps

-- the location of an operator that is written, and the place where its bytes begin
abbrev pub pair_of : Or (Option Seen) → InstrLocId → ℕ → List (InstrLocId × ℕ)
pair_of (Ok (Some s)) l at = (l, at) ∷ []
pair_of _ l at = []

-- one pair an operator
abbrev pub text_places : Look → List InstrSeq → ℕ → Text → List (InstrLocId × ℕ)
text_places look b at [] = []
text_places look b at (p ∷ ps) = pair_of (written look b p.0) p.1 at ++ text_places look b (at + length (piece_bytes look b p.0)) ps

-- each piece is written: what it names has a number
abbrev pub IsWritten : Or (Option Seen) → Type 0
IsWritten (Ok _) = Unit {0}
IsWritten (Err _) = ⊥

abbrev pub AreWritten : Look → List InstrSeq → Text → Type 0
AreWritten look b [] = Unit {0}
AreWritten look b (p ∷ ps) = IsWritten (written look b p.0) × AreWritten look b ps
