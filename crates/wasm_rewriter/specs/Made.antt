-- How a rewriting is made: the module that was read, what is kept of it, and how that was written.
use Rattle.std.specs.Prelude.{ℕ, ◌≡◌, Bool, true, false, List, [], Option, Some, None}
use Rattle.std.specs.Option.{is_some}
use Rattle.walrus_emit.specs.Told.{AreTold}
use Rattle.walrus_emit.specs.Written.{IsEmitted}
use Rattle.walrus_emit.specs.walrus_emit_code.declared.emission.Emission.{Emission}
use Rattle.walrus_module.specs.Parts.{parts}
use Rattle.walrus_module.specs.declared.module.Module.{Module}
use Rattle.walrus_parse.specs.Parsed.{IsRead}
use Rattle.walrus_passes.specs.Part.{IsKeptPart}
use Rattle.walrus_passes.specs.walrus_refusals.Sound.{IsSound}
use Rattle.wasm_rewriter.specs.declared.none.NoSection.{NoSection}
use Rattle.wasm_rewriter.specs.declared.options.Options.{Options}
use Rattle.wasm_rewriter.specs.Rewrites.{IsAccepted, config_of}

-- this is the part of a sound module that is kept, where no section pushes roots
pub record Keeps (read kept : Module NoSection) : Type 0 where
  pub sound : IsSound (parts read) []
  pub part : IsKeptPart (parts read) [] (parts kept)
  pub customs : kept.customs ≡ read.customs

-- the module was written, and this is left
pub record WritesOut (kept left : Module NoSection) (emission : Emission) : Type 0 where
  pub emitted : IsEmitted (λ _. []) (λ _ _. Some []) kept left emission
  pub told : AreTold (λ _. []) (λ (section : NoSection) _. section) emission.locations.items emission.ranges.items emission.code_section_start kept.config.preserve_code_transform kept.customs left.customs

-- what is kept of the module was written
pub record WritesWhatIsKept (read left : Module NoSection) (emission : Emission) : Type 0 where
  pub kept : Module NoSection
  pub keeps : Keeps read kept
  pub writes : WritesOut kept left emission

-- these, where they are asked for
abbrev pub if_asked : Bool → List (ℕ × ℕ) → Option (List (ℕ × ℕ))
if_asked true pairs = Some pairs
if_asked false pairs = None

-- the bytes and the pairs are those of what is kept of the module that the input reads as
pub record IsMade (o : Options) (input bytes : List ℕ) (pairs : Option (List (ℕ × ℕ))) : Type 0 where
  pub read : Module NoSection
  pub is_read : IsRead (config_of o) input read
  pub left : Module NoSection
  pub emission : Emission
  pub writes : WritesWhatIsKept read left emission
  pub bytes_are : bytes ≡ emission.bytes.items
  pub pairs_are : pairs ≡ if_asked o.places emission.locations.items

-- the input reads, and pairs of places are there where they are asked for
pub record IsRewritten (o : Options) (input bytes : List ℕ) (pairs : Option (List (ℕ × ℕ))) : Type 0 where
  pub reads : IsAccepted o input
  pub asked : is_some pairs ≡ o.places
  pub made : IsMade o input bytes pairs
