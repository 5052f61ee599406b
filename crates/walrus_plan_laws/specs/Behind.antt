-- Behind code, where locals have their numbers, data segments are due as before it.
use Rattle.std.specs.Prelude.{ℕ, ◌≡◌, List}
use Rattle.walrus_index_maps.specs.Maps.{Indices}
use Rattle.walrus_pairing.specs.Looks.{number_of}
use Rattle.walrus_module.specs.Parts.{parts}
use Rattle.walrus_module.specs.declared.module.Module.{Module}
use Rattle.walrus_meaning.specs.Meaning.{means}
use Rattle.walrus_emit_due.specs.Items.{segments}
use Rattle.walrus_emit_numbers.specs.declared.facts.BodyFacts.{BodyFacts}
use Rattle.walrus_emit.specs.Whole.{with_bodies}

-- their offsets name no local, whatever numbers bodies gave those
abbrev pub SegmentsNameNoLocals : Type 0 → Type 0
SegmentsNameNoLocals B = (input : Module B) (facts : List BodyFacts) (order : List ℕ) (i : Indices)
    → segments (number_of (with_bodies input facts order i) 0) (means (parts input)).segments ≡ segments (number_of i 0) (means (parts input)).segments
