-- Data segments, as they were read and in a module.
use Rattle.std.specs.Prelude.{ℕ, ◌≡◌, Bool, true, false, List, [], ◌∷◌, Option, Some, None}
use Rattle.wasm_operators.specs.Items.{Memories}
use Rattle.walrus_instr.specs.Constants.{ops_of}
use Rattle.walrus_pairing.specs.Looks.{Look}
use Rattle.walrus_collections.specs.walrus_module_items.declared.data.Data.{Data}
use Rattle.walrus_collections.specs.walrus_module_items.declared.data.DataKind.{DataKind}
use Rattle.walrus_collections.specs.walrus_module_items.declared.data.DataKind.TheVariants as kinds
use Rattle.walrus_known_sections.specs.declared.items.Data.{Data as ReadData}
use Rattle.walrus_known_sections.specs.declared.items.Mode.{Mode}
use Rattle.walrus_known_sections.specs.declared.items.Mode.TheVariants as modes
use Rattle.walrus_sections_into.specs.Becomes.{OpsBecome}

-- at the same time, into the memory that is named, at the same offset, renamed
abbrev pub ModeBecomes : Look → Mode → DataKind → Type 0
ModeBecomes look modes.Passive kinds.Passive = Unit {0}
ModeBecomes look (modes.Active n offset) (kinds.Active memory expr) = (look Memories n ≡ Some memory) × OpsBecome look offset.items (ops_of expr)
ModeBecomes look _ _ = ⊥

-- the same bytes; its id is its slot
pub record IsSegmentOf (look : Look) (slot : ℕ) (read : ReadData) (d : Data) : Type 0 where
  pub id : d.id ≡ slot
  pub mode : ModeBecomes look read.mode d.kind
  pub bytes : d.value.items ≡ read.bytes.now
  pub no_name : d.name ≡ None

-- the same segment, but that it has no bytes
pub record IsHollow (whole held : Data) : Type 0 where
  pub id : held.id ≡ whole.id
  pub kind : held.kind ≡ whole.kind
  pub name : held.name ≡ whole.name
  pub empty : held.value.items ≡ []

-- it is held with its bytes, if they are kept
abbrev pub IsHeld : Bool → Data → Data → Type 0
IsHeld true whole held = held ≡ whole
IsHeld false whole held = IsHollow whole held

-- what is held of a segment that was read
abbrev pub IsHeldOf : Bool → Look → ℕ → ReadData → Data → Type 0
IsHeldOf keeps look slot read held = (whole : Data) × IsSegmentOf look slot read whole × IsHeld keeps whole held

-- so each of these is held
abbrev pub AreHeld : Bool → List (Option Data) → List (Option Data) → Type 0
AreHeld keeps [] [] = Unit {0}
AreHeld keeps (None ∷ xs) (None ∷ ys) = AreHeld keeps xs ys
AreHeld keeps (Some x ∷ xs) (Some y ∷ ys) = IsHeld keeps x y × AreHeld keeps xs ys
AreHeld keeps _ _ = ⊥
