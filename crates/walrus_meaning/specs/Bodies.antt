-- Bodies as their trees stand, where each id is its own number.
use Rattle.std.specs.Prelude.{ℕ, suc, ◌==◌, ◌&&◌, not, Bool, true, false, List, [], ◌∷◌, ◌++◌, map, Option, Some, None, slice_get, if◌then◌else◌}
use Rattle.std.specs.List.{flat_map, filter, list_any}
use Rattle.wasm_operators.specs.declared.block_type.BlockType.{BlockType}
use Rattle.wasm_operators.specs.declared.block_type.BlockType.TheVariants.{Empty}
use Rattle.wasm_operators.specs.declared.clause.Clause.{Clause}
use Rattle.wasm_operators.specs.declared.clause.Clause.TheVariants as handlers
use Rattle.wasm_operators.specs.Items.{Labels, Tags, Names, Byte, Heap, Block, ManyLabels, ManyClauses}
use Rattle.wasm_operators.specs.Operators.{Seen}
use Rattle.walrus_forms.specs.declared.value.RefType.{RefType}
use Rattle.walrus_items.specs.declared.local.Local.{Local}
use Rattle.walrus_instr.specs.declared.instr.Instr.{Instr}
use Rattle.walrus_instr.specs.declared.instr.Instr.TheVariants as instrs
use Rattle.walrus_instr.specs.declared.instr.TryTableCatch.{TryTableCatch}
use Rattle.walrus_instr.specs.declared.instr.TryTableCatch.TheVariants as parts
use Rattle.walrus_instr.specs.declared.seq.InstrLocId.{InstrLocId}
use Rattle.walrus_instr.specs.declared.seq.InstrSeq.{InstrSeq}
use Rattle.walrus_builder.specs.Functions.{seqs_of}
use Rattle.walrus_linked.specs.walrus_tree.Text.{Piece, Operator, Else, Catch, CatchAll, Delegate, End, operators}
use Rattle.walrus_linked.specs.walrus_local_function.declared.local_function.LocalFunction.{LocalFunction}
use Rattle.walrus_codes.specs.Runs.{byte, object}
use Rattle.walrus_pairing.specs.Write.{seen_of}
use Rattle.wasm_normal_form.specs.Locals.{Key, in_order, numbered}
use Rattle.wasm_normal_form.specs.Bodies.{local_in}
use Rattle.wasm_grammar.specs.Modules.{Placed, Body}
use Rattle.walrus_linked.specs.walrus_module_items.Words.{own_heap, own_block, plain_seen}

-- how many sequences lie between a label and here (Core Specification, labels)
abbrev pub depth_of : List ℕ → ℕ → ℕ
depth_of [] k = 0
depth_of (j ∷ js) k = if j == k then 0 else suc (depth_of js k)

-- the block type of the sequence of an id
abbrev pub block_of : Option InstrSeq → BlockType
block_of (Some s) = own_block s.ty
block_of None = Empty

abbrev pub opening : List InstrSeq → ℕ → ℕ → Seen
opening b code k = seen_of (byte code) (Block (block_of (slice_get b k)) ∷ [])

abbrev pub branch : ℕ → (ℕ → ℕ) → ℕ → Seen
branch code depth k = seen_of (byte code) (Names Labels (depth k) ∷ [])

abbrev pub own_clause : (ℕ → ℕ) → TryTableCatch → Clause
own_clause depth (parts.Catch tag k) = handlers.Catch tag (depth k)
own_clause depth (parts.CatchRef tag k) = handlers.CatchRef tag (depth k)
own_clause depth (parts.CatchAll k) = handlers.CatchAll (depth k)
own_clause depth (parts.CatchAllRef k) = handlers.CatchAllRef (depth k)

-- whether null is a value of the type from which, and of the one to which is cast
abbrev pub null_flags : Bool → Bool → ℕ
null_flags false false = 0
null_flags true false = 1
null_flags false true = 2
null_flags true true = 3

abbrev pub cast : ℕ → (ℕ → ℕ) → ℕ → RefType → RefType → Seen
cast code depth k from to =
    seen_of (object code) (Byte (null_flags from.nullable to.nullable) ∷ Names Labels (depth k) ∷ Heap (own_heap from.heap_type) ∷ Heap (own_heap to.heap_type) ∷ [])

-- an instruction, where labels have these depths; those of a `try_table` are counted without its own
abbrev pub own_instr : List InstrSeq → (ℕ → ℕ) → Instr → Seen
own_instr b depth (instrs.Block k) = opening b 0x02 k
own_instr b depth (instrs.Loop k) = opening b 0x03 k
own_instr b depth (instrs.IfElse k other) = opening b 0x04 k
own_instr b depth (instrs.Try k catches) = opening b 0x06 k
own_instr b depth (instrs.TryTable k catches) = seen_of (byte 0x1f) (Block (block_of (slice_get b k)) ∷ ManyClauses (map (own_clause depth) catches.items) ∷ [])
own_instr b depth (instrs.Br k) = branch 0x0c depth k
own_instr b depth (instrs.BrIf k) = branch 0x0d depth k
own_instr b depth (instrs.BrTable other ks) = seen_of (byte 0x0e) (ManyLabels (map depth ks.items) ∷ Names Labels (depth other) ∷ [])
own_instr b depth (instrs.BrOnNull k) = branch 0xd5 depth k
own_instr b depth (instrs.BrOnNonNull k) = branch 0xd6 depth k
own_instr b depth (instrs.BrOnCast k from to) = cast 24 depth k from to
own_instr b depth (instrs.BrOnCastFail k from to) = cast 25 depth k from to
own_instr b depth (instrs.Rethrow outer) = seen_of (byte 0x09) (Names Labels outer ∷ [])
own_instr b depth instr = plain_seen instr

abbrev pub own_seen : List InstrSeq → Piece → Seen
own_seen b (Operator around instr) = own_instr b (depth_of around) instr
own_seen b Else = seen_of (byte 0x05) []
own_seen b (Catch tag) = seen_of (byte 0x07) (Names Tags tag ∷ [])
own_seen b CatchAll = seen_of (byte 0x19) []
own_seen b (Delegate outer) = seen_of (byte 0x18) (Names Labels outer ∷ [])
own_seen b End = seen_of (byte 0x0b) []

-- a piece of the body's text, with its location: the number 4294967295 stands for none
abbrev pub own_piece : List InstrSeq → Piece × InstrLocId → Placed
own_piece b p = record { place = p.1.0; op = own_seen b p.0 }

-- the operators of the body's text, from its own sequence on, through the last `end`
abbrev pub own_operators : LocalFunction → List Placed
own_operators local = map (own_piece (seqs_of local.builder)) (operators (seqs_of local.builder) 0)

-- the locals that these operators name
abbrev pub named_locals : List Placed → List ℕ
named_locals ops = flat_map (λ (o : Placed). flat_map local_in o.op.items) ops

abbrev pub has_number : List ℕ → ℕ → Bool
has_number ns n = list_any (λ m. m == n) ns

-- of all locals, those that the body names and that are no arguments, by type, then by id
abbrev pub used_locals : List Local → LocalFunction → List Key
used_locals locals local =
    in_order (filter (λ (k : Key). has_number (named_locals (own_operators local)) k.1 && not (has_number local.args.items k.1)) (numbered 0 (map (λ (l : Local). l.ty) locals)))

abbrev pub own_body : List Local → LocalFunction → Body
own_body locals local = record { locals = map (λ (k : Key). k.0) (used_locals locals local); operators = own_operators local }

-- the ids of the function's locals, in the order of their numbers: its arguments, then the others that it uses
abbrev pub local_ids : List Local → LocalFunction → List ℕ
local_ids locals local = local.args.items ++ map (λ (k : Key). k.1) (used_locals locals local)
