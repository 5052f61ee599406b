-- Modules that hold the kept functions of others, renamed, or in normal form and renamed.
use Rattle.std.specs.Prelude.{ℕ, ◌≡◌, List, map, Some}
use Rattle.std.specs.List.{AllByRecursion}
use Rattle.std.specs.Option.{option_map}
use Rattle.wasm_operators.specs.declared.block_type.BlockType.{BlockType}
use Rattle.wasm_operators.specs.Items.{Functions, Locals, Labels, Item, Block}
use Rattle.wasm_operators.specs.Operators.{Seen}
use Rattle.wasm_operators.specs.Names.{Renaming, renamed_block, renamed_operator}
use Rattle.wasm_normal_form.specs.Normal.{normal_ops}
use Rattle.wasm_runs.specs.Programs.{Signature, Program, operators, unplaced, functions_of}
use Rattle.wasm_runs.specs.Renamed.{Maps, within, renamed_signature}

-- a body's operators in normal form, and renamed
abbrev pub normal_code : (BlockType → BlockType) → List Seen → List Seen
normal_code pick ops = operators (normal_ops pick (map unplaced ops))

abbrev pub renamed_code : Renaming → List Seen → List Seen
renamed_code r ops = map (renamed_operator r) ops

-- the module of the normal forms
abbrev pub normal_program : (BlockType → BlockType) → Program → Program
normal_program pick p = record { body = λ f. option_map (normal_code pick) (p.body f); signature = p.signature }

-- ---- block types

-- a pick has the parameters and results of what it is picked for
abbrev pub KeepsSignatures : (BlockType → BlockType) → (BlockType → Signature) → Type 0
KeepsSignatures pick signature = (ty : BlockType) → signature (pick ty) ≡ signature ty

-- it has, once they are renamed: where types that stand for the same type are renamed to one
abbrev pub PicksKeep : Renaming → (BlockType → BlockType) → (BlockType → Signature) → Type 0
PicksKeep r pick signature = (ty : BlockType) → renamed_signature r (signature (pick ty)) ≡ renamed_signature r (signature ty)

-- an operator's block type, renamed, has there the parameters and results that it has here, renamed
abbrev pub IsTypedSo : Renaming → (here there : BlockType → Signature) → Item → Type 0
IsTypedSo r here there (Block ty) = there (renamed_block r ty) ≡ renamed_signature r (here ty)
IsTypedSo r here there _ = Unit {0}

abbrev pub AreTypedSo : Renaming → (here there : BlockType → Signature) → Seen → Type 0
AreTypedSo r here there op = AllByRecursion (IsTypedSo r here there) op.items

-- ---- modules

-- the functions that it names are kept
abbrev pub NamesKept : (ℕ → Type 0) → Seen → Type 0
NamesKept kept op = AllByRecursion kept (functions_of op)

-- each kept function of m stands in n, in normal form and renamed; what the normal form names is kept
pub record StandsNormal (kept : ℕ → Type 0) (r : Maps) (pick : BlockType → BlockType) (m n : Program) : Type 0 where
  pub there : (f : ℕ) → kept f → n.body (r.items Functions f) ≡ option_map (λ ops. renamed_code (within r f) (normal_code pick ops)) (m.body f)
  pub names : (f : ℕ) (ops : List Seen) → kept f → m.body f ≡ Some ops → AllByRecursion (NamesKept kept) (normal_code pick ops)
  pub types : (f : ℕ) (ops : List Seen) → kept f → m.body f ≡ Some ops → AllByRecursion (AreTypedSo (within r f) m.signature n.signature) (normal_code pick ops)
  pub picks : (f : ℕ) → PicksKeep (within r f) pick m.signature

-- each kept function of m stands in n as it is, renamed; what it names is kept
pub record StandsRenamed (kept : ℕ → Type 0) (r : Maps) (m n : Program) : Type 0 where
  pub there : (f : ℕ) → kept f → n.body (r.items Functions f) ≡ option_map (renamed_code (within r f)) (m.body f)
  pub names : (f : ℕ) (ops : List Seen) → kept f → m.body f ≡ Some ops → AllByRecursion (NamesKept kept) ops
  pub types : (f : ℕ) (ops : List Seen) → kept f → m.body f ≡ Some ops → AllByRecursion (AreTypedSo (within r f) m.signature n.signature) ops

-- a renaming of items alone: locals and labels stay
abbrev pub items_alone : Maps → Renaming
items_alone r Locals n = n
items_alone r Labels n = n
items_alone r space n = r.items space n
