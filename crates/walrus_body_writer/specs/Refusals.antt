-- Why a body isn't written, and what a refusal leaves.
use Rattle.std.specs.Prelude.{◌≡◌, ◌⊎◌, List, [], ◌∷◌, ◌++◌, Option, Some, None, Err, slice_get}
use Rattle.walrus_body_text.specs.walrus_tree.walrus_walks.walrus_instr.walrus_forms.declared.value.ValType.{ValType}
use Rattle.walrus_body_text.specs.walrus_tree.walrus_walks.walrus_instr.declared.instr.Instr.{Instr}
use Rattle.walrus_body_text.specs.walrus_tree.walrus_walks.walrus_instr.declared.instr.Instr.TheVariants.{Block, Loop, IfElse, Try, TryTable, Select}
use Rattle.walrus_body_text.specs.walrus_tree.walrus_walks.walrus_instr.declared.seq.InstrSeq.{InstrSeq}
use Rattle.walrus_body_text.specs.walrus_tree.walrus_walks.walrus_instr.declared.seq.InstrSeqType.{InstrSeqType}
use Rattle.walrus_body_text.specs.walrus_tree.walrus_walks.walrus_instr.declared.seq.InstrSeqType.TheVariants.{Simple, MultiValue}
use Rattle.walrus_index_maps.specs.declared.space.Space.{Space as Named}
use Rattle.walrus_index_maps.specs.declared.space.Space.TheVariants as words
use Rattle.walrus_pairing.specs.declared.error.PairError.{PairError}
use Rattle.walrus_pairing.specs.declared.error.PairError.TheVariants as errors
use Rattle.walrus_pairing.specs.Answers.{IsLargeType}
use Rattle.walrus_pairing.specs.Looks.{Look, Or}
use Rattle.walrus_body_text.specs.walrus_tree.Text.{Piece, Operator, operators}
use Rattle.walrus_body_text.specs.walrus_tree.Trees.{IsTree}
use Rattle.wasm_formats.specs.declared.fault.Form.TheVariants as forms
use Rattle.wasm_formats.specs.declared.fault.Limited.TheVariants as limits
use Rattle.wasm_formats.specs.declared.fault.Space.{Space}
use Rattle.wasm_formats.specs.declared.fault.Space.TheVariants as spaces
use Rattle.wasm_operators.specs.Items.{Types}
use Rattle.walrus_body_text.specs.walrus_body_env.declared.error.BodyError.{BodyError}
use Rattle.walrus_body_text.specs.walrus_body_env.declared.error.BodyError.TheVariants as faults
use Rattle.walrus_body_writer.specs.declared.output.Output.{Output}
use Rattle.walrus_body_writer.specs.Spelled.{Text, type_in, written}
use Rattle.walrus_body_writer.specs.Outputs.{Wrote}

-- ---- value types with a number that is too great

abbrev pub value_of : InstrSeqType → Option ValType
value_of (Simple ty) = ty
value_of (MultiValue _) = None

-- the value type that is written for an instruction
abbrev pub value_in : List InstrSeq → Instr → Option ValType
value_in b (Block k) = value_of (type_in (slice_get b k))
value_in b (Loop k) = value_of (type_in (slice_get b k))
value_in b (IfElse k _) = value_of (type_in (slice_get b k))
value_in b (Try k _) = value_of (type_in (slice_get b k))
value_in b (TryTable k _) = value_of (type_in (slice_get b k))
value_in b (Select ty) = ty
value_in b _ = None

abbrev pub value_at : List InstrSeq → Piece → Option ValType
value_at b (Operator around i) = value_in b i
value_at b _ = None

-- the number of the type that it names has more than 20 bits
abbrev pub IsLarge : Look → Option ValType → Type 0
IsLarge look (Some ty) = IsLargeType (look Types) ty
IsLarge look None = ⊥

-- ---- answers

-- what is answered is what is written, or why it isn't; or a number is too great, or memory was wanted
abbrev pub Gives : {A : Type 0} → Type 0 → Or A → Or A → Type 0
Gives large expected (Err errors.TypeIndex) = large ⊎ (Err errors.TypeIndex ≡ expected)
Gives large expected (Err errors.Memory) = Unit {0}
Gives large expected result = result ≡ expected

-- the first piece of the text is refused for this; that memory was wanted says nothing
abbrev pub IsDue : Look → List InstrSeq → Text → PairError → Type 0
IsDue look b [] e = e ≡ errors.Memory
IsDue look b (p ∷ ps) e = Gives (IsLarge look (value_at b p.0)) (written look b p.0) (Err e)

-- a first part of the text was written, and the next piece is refused
pub record LeavesOff (look : Look) (b : List InstrSeq) (t : Text) (old : Output) (e : PairError) (new : Output) : Type 0 where
  pub front : Text
  pub back : Text
  pub parts : t ≡ front ++ back
  pub wrote : Wrote look b front old new
  pub due : IsDue look b back e

-- ---- faults

abbrev pub space_of : Named → Space
space_of words.«Type» = spaces.«Type»
space_of words.Function = spaces.Function
space_of words.Table = spaces.Table
space_of words.Memory = spaces.Memory
space_of words.Tag = spaces.Tag
space_of words.Global = spaces.Global
space_of words.Element = spaces.Element
space_of words.Data = spaces.Data
space_of words.Local = spaces.Local
space_of words.Label = spaces.Label

-- an id without a number is an index that names nothing; a type's number of more than 20 bits passes the limit on types
abbrev pub fault_of : PairError → BodyError
fault_of (errors.Unknown space) = faults.Index (space_of space) None
fault_of errors.ContinuationType = faults.Unsupported forms.ContinuationType None
fault_of errors.Select = faults.Unsupported forms.Select None
fault_of errors.Alignment = faults.Bounds None
fault_of errors.TypeIndex = faults.Limit limits.Types None
fault_of errors.Memory = faults.Memory

-- the sequences form no tree, and nothing was written; or memory was wanted behind a first part; else they form one, and a first part was written
abbrev pub IsRefusal : Look → List InstrSeq → Output → BodyError → Output → Type 0
IsRefusal look b old faults.NoTree new = (IsTree b 0 → ⊥) × (new ≡ old)
IsRefusal look b old faults.Memory new = LeavesOff look b (operators b 0) old errors.Memory new
IsRefusal look b old fault new = IsTree b 0 × (e : PairError) × (fault ≡ fault_of e) × LeavesOff look b (operators b 0) old e new

-- the same of a body that is written straight: where its sequences form no tree, or memory was wanted, whatever was written stays
abbrev pub IsStraightRefusal : Look → List InstrSeq → Output → BodyError → Output → Type 0
IsStraightRefusal look b old faults.NoTree new = IsTree b 0 → ⊥
IsStraightRefusal look b old faults.Memory new = Unit {0}
IsStraightRefusal look b old fault new = IsTree b 0 × (e : PairError) × (fault ≡ fault_of e) × LeavesOff look b (operators b 0) old e new
