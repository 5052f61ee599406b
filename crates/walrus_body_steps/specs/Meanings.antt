-- What instructions stand for, in a body whose indices and types are seen so.
use Rattle.std.specs.Prelude.{◌≡◌, ◌⊎◌, ℕ, ◌==◌, ◌/◌, ◌%◌, Bool, List, [], ◌∷◌, Option, Some, Ok, slice_get}
use Rattle.std.specs.Global.{Vec}
use Rattle.walrus_body_rules.specs.walrus_forms.declared.value.HeapType.{HeapType}
use Rattle.walrus_body_rules.specs.walrus_forms.declared.value.RefType.{RefType}
use Rattle.walrus_body_stack.specs.walrus_instr.declared.instr.Instr.{Instr}
use Rattle.walrus_body_stack.specs.walrus_instr.declared.instr.Instr.TheVariants as instrs
use Rattle.walrus_body_stack.specs.walrus_instr.declared.instr.TryTableCatch.{TryTableCatch}
use Rattle.walrus_body_stack.specs.walrus_instr.declared.instr.TryTableCatch.TheVariants as parts
use Rattle.walrus_body_stack.specs.walrus_instr.declared.seq.InstrSeqType.{InstrSeqType}
use Rattle.walrus_body_rules.specs.walrus_pairing.Types.{read_heap}
use Rattle.walrus_body_rules.specs.walrus_pairing.Read.{at, of_bytes, of_objects, instr_at}
use Rattle.walrus_body_rules.specs.walrus_pairing.wasm_operators.declared.block_type.BlockType.{BlockType}
use Rattle.walrus_body_rules.specs.walrus_pairing.wasm_operators.declared.clause.Clause.{Clause}
use Rattle.walrus_body_rules.specs.walrus_pairing.wasm_operators.declared.clause.Clause.TheVariants as handlers
use Rattle.walrus_body_rules.specs.walrus_pairing.wasm_operators.Items.{Types, Tags, Labels, Item, Names, Byte, Heap, Block, ManyLabels, ManyClauses}
use Rattle.walrus_body_rules.specs.wasm_body_grammar.wasm_operators.declared.entry.Flow.TheVariants as flows
use Rattle.walrus_body_rules.specs.wasm_body_grammar.wasm_operators.declared.op_code.OpCode.{OpCode}
use Rattle.walrus_body_rules.specs.wasm_body_grammar.wasm_operators.Operators.{Seen, op_code, flow_of}
use Rattle.walrus_body_stack.specs.walrus_body_nesting.declared.frames.Opener.{Opener}
use Rattle.walrus_body_stack.specs.walrus_body_nesting.declared.frames.Opener.TheVariants as openers
use Rattle.walrus_body_stack.specs.walrus_body_nesting.Stands as stands
use Rattle.walrus_body_stack.specs.walrus_body_nesting.Stands.{Turn, Otherwise, Handles, HandlesAll, Finish, Ended, Delegated, Meaning}
use Rattle.walrus_body_stack.specs.walrus_body_nesting.Opens.{Makes}
use Rattle.walrus_body_rules.specs.Sights.{Sight, look, written_block, results_of, handler_of, tag_params}

-- ---- operators that name labels: how many sequences lie between the one that they name and here

abbrev pub branch_at : OpCode → ℕ → Option Instr
branch_at code k = of_bytes (at 0x0c (instrs.Br k) ∷ at 0x0d (instrs.BrIf k) ∷ at 0xd5 (instrs.BrOnNull k) ∷ at 0xd6 (instrs.BrOnNonNull k) ∷ []) code

-- the sequences that labels name
abbrev pub AreLabels : List ℕ → List ℕ → List ℕ → Type 0
AreLabels around [] ks = ks ≡ []
AreLabels around (n ∷ ns) ks = (j : ℕ) × (js : List ℕ) × (ks ≡ j ∷ js) × (slice_get around n ≡ Some j) × AreLabels around ns js

abbrev pub reference : Bool → HeapType → RefType
reference nullable heap = record { nullable = nullable; heap_type = heap }

abbrev pub cast_at : OpCode → ℕ → RefType → RefType → Option Instr
cast_at code k from to = of_objects [] (at 24 (instrs.BrOnCast k from to) ∷ at 25 (instrs.BrOnCastFail k from to) ∷ []) code

-- an operator that stands in a sequence, inside these ones, the innermost first
abbrev pub RunsAs : Sight → List ℕ → OpCode → List Item → Instr → Type 0
RunsAs s around code (Names Labels n ∷ []) i =
    ((code ≡ op_code 0 0x09) × (i ≡ instrs.Rethrow n)) ⊎ ((k : ℕ) × (slice_get around n ≡ Some k) × (branch_at code k ≡ Some i))
RunsAs s around code (ManyLabels ns ∷ Names Labels n ∷ []) i =
    (ks : Vec ℕ) × (k : ℕ) × AreLabels around ns ks.items × (slice_get around n ≡ Some k) × (i ≡ instrs.BrTable k ks)
RunsAs s around code (Byte b ∷ Names Labels n ∷ Heap x ∷ Heap y ∷ []) i =
    (k : ℕ) × (from : HeapType) × (to : HeapType) × (slice_get around n ≡ Some k) × (read_heap (look s Types) x ≡ Ok from) × (read_heap (look s Types) y ≡ Ok to)
    × (cast_at code k (reference (b % 2 == 1) from) (reference (b / 2 % 2 == 1) to) ≡ Some i)
RunsAs s around code items i = instr_at (look s) (record { code = code; items = items }) ≡ Ok (Some i)

-- ---- operators that open blocks

-- a handler of a `try_table`, its label counted without the block's own
abbrev pub IsClause : Sight → List ℕ → Clause → TryTableCatch → Type 0
IsClause s around (handlers.Catch tag n) c = (t : ℕ) × (k : ℕ) × (look s Tags tag ≡ Some t) × (slice_get around n ≡ Some k) × (c ≡ parts.Catch t k)
IsClause s around (handlers.CatchRef tag n) c = (t : ℕ) × (k : ℕ) × (look s Tags tag ≡ Some t) × (slice_get around n ≡ Some k) × (c ≡ parts.CatchRef t k)
IsClause s around (handlers.CatchAll n) c = (k : ℕ) × (slice_get around n ≡ Some k) × (c ≡ parts.CatchAll k)
IsClause s around (handlers.CatchAllRef n) c = (k : ℕ) × (slice_get around n ≡ Some k) × (c ≡ parts.CatchAllRef k)

abbrev pub AreClauses : Sight → List ℕ → List Clause → List TryTableCatch → Type 0
AreClauses s around [] cs = cs ≡ []
AreClauses s around (h ∷ hs) cs = (d : TryTableCatch) × (ds : List TryTableCatch) × (cs ≡ d ∷ ds) × IsClause s around h d × AreClauses s around hs ds

-- it opens such a block
abbrev pub IsOpener : Sight → List ℕ → Seen → Opener → Type 0
IsOpener s around op openers.Block = flow_of op.code ≡ Some flows.OpensBlock
IsOpener s around op openers.Loop = flow_of op.code ≡ Some flows.OpensLoop
IsOpener s around op openers.If = flow_of op.code ≡ Some flows.OpensIf
IsOpener s around op openers.Try = flow_of op.code ≡ Some flows.OpensTry
IsOpener s around op (openers.TryTable clauses) =
    (flow_of op.code ≡ Some flows.OpensTryTable) × (ty : BlockType) × (hs : List Clause) × (op.items ≡ Block ty ∷ ManyClauses hs ∷ []) × AreClauses s around hs clauses.items

abbrev pub NestsAs : Sight → List ℕ → Seen → Instr → stands.Block → Type 0
NestsAs s around op i q = (g : Opener) × Makes g i q × IsOpener s around op g

-- a block of this type: what is picked for the written one
abbrev pub OpensOf : Sight → Seen → InstrSeqType → Type 0
OpensOf s op ty = (written : BlockType) × (more : List Item) × (op.items ≡ Block written ∷ more) × (written_block s written ≡ Some ty)

-- ---- operators that begin a further part of a block of this type, or end it

abbrev pub TurnsTo : Sight → InstrSeqType → Seen → Turn → InstrSeqType → Type 0
TurnsTo s ty op Otherwise own = (flow_of op.code ≡ Some flows.Else) × (own ≡ ty)
TurnsTo s ty op (Handles tag) own =
    (flow_of op.code ≡ Some flows.Catch) × (n : ℕ) × (op.items ≡ Names Tags n ∷ []) × (look s Tags n ≡ Some tag) × (handler_of s (tag_params s (s.tag_type tag)) (results_of s ty) ≡ Some own)
TurnsTo s ty op HandlesAll own = (flow_of op.code ≡ Some flows.CatchAll) × (handler_of s (Some []) (results_of s ty) ≡ Some own)

abbrev pub EndsAs : Seen → Finish → Type 0
EndsAs op Ended = flow_of op.code ≡ Some flows.End
EndsAs op (Delegated n) = (flow_of op.code ≡ Some flows.Delegate) × (op.items ≡ Names Labels n ∷ [])

abbrev pub meaning : Sight → Meaning
meaning s = record {
  runs = λ around op i. RunsAs s around op.code op.items i;
  nests = NestsAs s;
  opens = OpensOf s;
  turns = TurnsTo s;
  ends = EndsAs;
}
