-- How a rewriting is made, whatever custom sections a program has of its own: what is kept of the module that was read, and how that was written.
use Rattle.std.specs.Prelude.{ℕ, ◌≡◌, List, [], Option}
use Rattle.walrus_emit.specs.Told.{AreTold}
use Rattle.walrus_emit.specs.Written.{IsEmitted}
use Rattle.walrus_emit_code.specs.declared.emission.Emission.{Emission}
use Rattle.walrus_index_maps.specs.Maps.{Indices}
use Rattle.walrus_module.specs.Parts.{parts}
use Rattle.walrus_module.specs.declared.module.Module.{Module}
use Rattle.walrus_passes.specs.Part.{IsKeptPart}
use Rattle.walrus_refusals.specs.Sound.{IsSound}
use Rattle.walrus_sections.specs.declared.transform.CodeTransform.{CodeTransform}
use Rattle.walrus_types.specs.TypeLaws.{AreGrouped}

module _ {B : Type 0} where
  -- this is the part of a sound module that is kept, where no section pushes roots; the tables of types are such as tables always are
  pub record Keeps (read kept : Module B) : Type 0 where
    pub sound : IsSound (parts read) []
    pub part : IsKeptPart (parts read) [] (parts kept)
    pub customs : kept.customs ≡ read.customs
    pub grouped : AreGrouped read.types
    pub left_grouped : AreGrouped kept.types

  -- the module was written, and this is left
  pub record WritesOut (own_name : B → List ℕ) (contents : B → Indices → Option (List ℕ)) (transformed : B → CodeTransform → B) (kept left : Module B) (emission : Emission) : Type 0 where
    pub emitted : IsEmitted own_name contents kept left emission
    pub told : AreTold own_name transformed emission.locations.items emission.ranges.items emission.code_section_start kept.config.preserve_code_transform kept.customs left.customs
