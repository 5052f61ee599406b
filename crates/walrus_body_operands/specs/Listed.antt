-- Operators with the immediates that the table of operators lists for their codes; how many labels an operator may name.
use Rattle.std.specs.Prelude.{◌≡◌, ℕ, ◌-◌, Bool, true, false, Option, Some, None}
use Rattle.wasm_operators.specs.declared.memory_access.MemoryAccess.{MemoryAccess}
use Rattle.wasm_operators.specs.declared.entry.Entry.{Entry}
use Rattle.wasm_operators.specs.declared.entry.Flow.{Flow}
use Rattle.wasm_operators.specs.declared.entry.Flow.TheVariants as flows
use Rattle.wasm_operators.specs.declared.entry.Kind.{Kind}
use Rattle.wasm_operators.specs.declared.entry.Kind.TheVariants as kinds
use Rattle.wasm_operators.specs.Table.{find_code}
use Rattle.walrus_body_steps.specs.wasm_normal_form.Roles.{Runs, role}
use Rattle.walrus_operators.specs.declared.immediates.Immediates.{Immediates}
use Rattle.walrus_operators.specs.declared.immediates.Immediates.TheVariants as imm
use Rattle.walrus_operators.specs.declared.operator.Operator.{Operator}
use Rattle.walrus_operators.specs.Immediates.{kind_is}
use Rattle.walrus_operators.specs.Operators.{seen}

-- its immediates are of its code's kind
abbrev pub IsListed : Operator → Type 0
IsListed op = (e : Entry) × (find_code op.code.prefix op.code.number ≡ Some e) × (e.kind ≡ kind_is op.immediates)

-- and it stands in a sequence
abbrev pub RunsListed : Operator → Type 0
RunsListed op = IsListed op × (role (seen op) ≡ Runs)

-- behind it the next operator is reached, and it stands in a sequence
abbrev pub keeps_on : Option Flow → Bool
keeps_on (Some flows.Goes) = true
keeps_on (Some flows.Calls) = true
keeps_on (Some flows.Chooses) = true
keeps_on _ = false

-- of so many open sequences: `delegate` doesn't count the one that it ends
abbrev pub known_labels : Option Flow → ℕ → ℕ
known_labels (Some flows.Delegate) count = count - 1
known_labels _ count = count

-- ---- kinds of immediates

abbrev pub is_bare : Kind → Bool
is_bare kinds.Bare = true
is_bare _ = false

abbrev pub begins_block : Kind → Bool
begins_block kinds.Block = true
begins_block _ = false

-- what it does opens a block that has nothing but its instructions
abbrev pub opens_plain : Flow → Bool
opens_plain flows.OpensBlock = true
opens_plain flows.OpensLoop = true
opens_plain flows.OpensIf = true
opens_plain _ = false

-- it ends a block, or the body, or begins the other part of an `if`
abbrev pub parts : Flow → Bool
parts flows.End = true
parts flows.Else = true
parts _ = false

abbrev pub opened_by : Kind → Bool
opened_by kinds.Block = true
opened_by kinds.TryTable = true
opened_by _ = false

abbrev pub names_tag : Kind → Bool
names_tag kinds.Tag = true
names_tag _ = false

abbrev pub names_label : Kind → Bool
names_label kinds.Label = true
names_label _ = false

-- labels or clauses in a list, for which one is made
abbrev pub holds_list : Kind → Bool
holds_list kinds.BrTable = true
holds_list kinds.TryTable = true
holds_list _ = false

-- ---- families of immediates, by what is asked of them

abbrev pub segment_named : Immediates → Bool
segment_named (imm.DataMemory m n) = true
segment_named (imm.Data n) = true
segment_named (imm.TypeData m n) = true
segment_named _ = false

abbrev pub accessed : Immediates → Option MemoryAccess
accessed (imm.Access a) = Some a
accessed (imm.AccessLane a b) = Some a
accessed _ = None

-- nothing but that the names, none of which is a label's, are there
abbrev pub names_alone : Immediates → Bool
names_alone (imm.Block ty) = false
names_alone (imm.TryTable ty clauses) = false
names_alone (imm.Label n) = false
names_alone (imm.BrTable ns n) = false
names_alone (imm.Cast b n from to) = false
names_alone (imm.Heap ty) = false
names_alone (imm.Select tys) = false
names_alone (imm.Access a) = false
names_alone (imm.AccessLane a b) = false
names_alone (imm.DataMemory m n) = false
names_alone (imm.Data n) = false
names_alone (imm.TypeData m n) = false
names_alone _ = true
