-- Custom sections, as they were read and in a module.
use Rattle.std.specs.Prelude.{ℕ, ◌≡◌, ◌||◌, Bool, List, [], ◌∷◌, codes, if◌then◌else◌}
use Rattle.std.specs.BTreeMap.{is_at}
use Rattle.std.specs.Cmp.Lexicographic.{slice_cmp}
use Rattle.std.specs.Ordering.{nat_cmp}
use Rattle.std.specs.List.{flat_map}
use Rattle.walrus_sections.specs.declared.section.Section.{Section}
use Rattle.walrus_sections.specs.declared.section.Section.TheVariants.{Raw, Boxed}
use Rattle.walrus_sections.specs.Sections.{IsRaw}
use Rattle.walrus_sections_into.specs.walrus_known_sections.declared.items.Custom.{Custom}

-- in any slot, a raw one of the same name, with the same bytes
abbrev pub IsCustomOf : {B : Type 0} → ℕ → Custom → Section B → Type 0
IsCustomOf slot read (Raw section) = IsRaw read.name.now read.bytes.now section
IsCustomOf slot read (Boxed section) = ⊥

-- the names of items and the producers of a module have places of their own
abbrev pub is_payload : Custom → Bool
is_payload read = is_at (slice_cmp nat_cmp read.name.now) (codes "name") || is_at (slice_cmp nat_cmp read.name.now) (codes "producers")

abbrev pub plain_if : Custom → List Custom
plain_if read = if is_payload read then [] else read ∷ []

-- the sections that stay sections
abbrev pub plain : List Custom → List Custom
plain reads = flat_map plain_if reads
