-- What a module means once items are deleted: of each space the slots of those that stay, under their numbers (Core Specification, structure: modules).
use Rattle.std.specs.Prelude.{ℕ, ◌≡◌, List, length, Option, Some, None, slice_index_or}
use Rattle.wasm_formats.specs.declared.fault.Space.TheVariants as spaces
use Rattle.wasm_grammar.specs.Modules as grammar
use Rattle.walrus_roots.specs.declared.item.Item.{Item}
use Rattle.walrus_roots.specs.Items.{item}
use Rattle.walrus_meaning.specs.Meaning.{means}
use Rattle.walrus_module.specs.Parts.{Module}
use Rattle.walrus_passes.specs.Part.{IsKeptPart}
use Rattle.walrus_passes.specs.walrus_refusals.walrus_used.walrus_references.Kept.{Kept}

-- the slots whose items stay are as they were, and all others are empty
pub record SlotsLeft {A : Type 0} (stays : ℕ → A → Type 0) (old new : List (Option A)) : Type 0 where
  pub sized : length new ≡ length old
  pub each : (n : ℕ) (x : A) → slice_index_or old n None ≡ Some x → stays n x → slice_index_or new n None ≡ Some x
  pub only : (n : ℕ) (x : A) → slice_index_or new n None ≡ Some x → slice_index_or old n None ≡ Some x
  pub stay : (n : ℕ) (x : A) → slice_index_or new n None ≡ Some x → stays n x

-- what an import brings, or an export gives out, as an item in memory: its id is its number
abbrev pub held_item : grammar.Item → Item
held_item x = item x.space x.number

-- of a module's items those that stay, and of its imports those whose items do; exports and the start function are as they were
pub record IsLeft (stays : Item → Type 0) (old new : grammar.Module) : Type 0 where
  pub imports : SlotsLeft (λ _ (x : grammar.Import). stays (held_item x.item)) old.imports new.imports
  pub functions : SlotsLeft (λ n (x : grammar.Function). stays (item spaces.Function n)) old.functions new.functions
  pub tables : SlotsLeft (λ n (x : grammar.Table). stays (item spaces.Table n)) old.tables new.tables
  pub memories : SlotsLeft (λ n (x : grammar.Memory). stays (item spaces.Memory n)) old.memories new.memories
  pub tags : SlotsLeft (λ n (x : grammar.Tag). stays (item spaces.Tag n)) old.tags new.tags
  pub globals : SlotsLeft (λ n (x : grammar.Global). stays (item spaces.Global n)) old.globals new.globals
  pub exports : new.exports ≡ old.exports
  pub start : new.start ≡ old.start
  pub elements : SlotsLeft (λ n (x : grammar.Element). stays (item spaces.Element n)) old.elements new.elements
  pub segments : SlotsLeft (λ n (x : grammar.Segment). stays (item spaces.Data n)) old.segments new.segments

-- the kept part of a module means what the module means, without what isn't kept
abbrev pub MeansLeft : Type 0
MeansLeft = (m n : Module) (pushed : List Item) → IsKeptPart m pushed n → IsLeft (Kept m pushed) (means m) (means n)
