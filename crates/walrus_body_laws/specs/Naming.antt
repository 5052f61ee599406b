-- What the operators that are written count and name.
use Rattle.std.specs.Prelude.{◌≡◌, ℕ, List, [], ◌∷◌, map, Option, Some, None, Ok, Err}
use Rattle.std.specs.List.{flat_map}
use Rattle.walrus_instr.specs.declared.instr.Instr.{Instr}
use Rattle.walrus_instr.specs.declared.instr.Instr.TheVariants as instrs
use Rattle.walrus_instr.specs.declared.seq.InstrSeq.{InstrSeq}
use Rattle.wasm_operators.specs.Items.{Locals, DataSegments, Item, Names}
use Rattle.wasm_operators.specs.declared.op_code.OpCode.{OpCode}
use Rattle.wasm_operators.specs.Operators.{Seen, flow_of}
use Rattle.wasm_normal_form.specs.Roles.{Placed, Role, Opens, Runs, role_in}
use Rattle.wasm_normal_form.specs.Bodies.{locals_named, local_in as local_item}
use Rattle.walrus_pairing.specs.Looks.{Look, Or}
use Rattle.walrus_body_names.specs.Names.{local_in, segment_in, text_names}
use Rattle.walrus_body_names.specs.walrus_body_writer.Spelled.{Text, AreWritten}
use Rattle.walrus_body_laws.specs.WritingLaws.{text_ops}

abbrev pub role_at : OpCode → Role
role_at code = role_in (flow_of code)

-- what an instruction is to the nesting of a body: it opens a block, or stands in a sequence
abbrev pub instr_role : Instr → Role
instr_role (instrs.Block _) = Opens
instr_role (instrs.Loop _) = Opens
instr_role (instrs.IfElse _ _) = Opens
instr_role (instrs.Try _ _) = Opens
instr_role (instrs.TryTable _ _) = Opens
instr_role _ = Runs

-- the data segment that an immediate names, if it names one
abbrev pub segment_item : Item → List ℕ
segment_item (Names DataSegments n) = n ∷ []
segment_item _ = []

abbrev pub locals_of : List Item → List ℕ
locals_of items = flat_map local_item items

abbrev pub segments_of : List Item → List ℕ
segments_of items = flat_map segment_item items

abbrev pub segments_named : List Placed → List ℕ
segments_named ops = flat_map (λ (o : Placed). segments_of o.op.items) ops

-- what is written for an instruction is an operator that opens a block where it does, else stands in a sequence, and names by their numbers the local and the data segment
-- that the instruction names; or it isn't written
abbrev pub Told : Look → Instr → Or (Option Seen) → Type 0
Told look i (Ok (Some s)) = (role_at s.code ≡ instr_role i) × (map (look Locals) (local_in i) ≡ map Some (locals_of s.items)) × (map (look DataSegments) (segment_in i) ≡ map Some (segments_of s.items))
Told look i (Ok None) = ⊥
Told look i (Err e) = Unit {0}

-- the locals that a text names are, by their numbers, those that its operators name, in their order
abbrev pub LocalsAgree : Type 0
LocalsAgree = (look : Look) (b : List InstrSeq) (t : Text) → AreWritten look b t → map (look Locals) (text_names local_in t) ≡ map Some (locals_named (text_ops look b t))

-- and so are the data segments
abbrev pub SegmentsAgree : Type 0
SegmentsAgree = (look : Look) (b : List InstrSeq) (t : Text) → AreWritten look b t → map (look DataSegments) (text_names segment_in t) ≡ map Some (segments_named (text_ops look b t))
