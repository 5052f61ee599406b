-- What a list of exports is parsed as, by the first of them whose name stands earlier.
use Rattle.std.specs.Prelude.{ℕ, suc, ◌+◌, ◌-◌, ◌≤◌, ◌≡◌, Bool, All, List, [], ◌∷◌, length, map, take, Option, Some, None, IfSome, Result, Ok, Err, if◌then◌else◌}
use Rattle.std.specs.List.{list_any}
use Rattle.wasm_reader.specs.Cursor.{Cursor, rest, end_of, Forward}
use Rattle.wasm_formats.specs.Stops.{DuplicateExport, stop, Parsing}
use Rattle.walrus_known_sections.specs.wasm_sections.wasm_grammar.States.{State}
use Rattle.walrus_known_sections.specs.wasm_sections.Exports.{same_name, export_entry, add_export}
use Rattle.walrus_section_values.specs.walrus_section_reader.declared.fault.Fault.{Fault}
use Rattle.walrus_section_values.specs.walrus_section_reader.Parses.{stop_of, FailsAs}
use Rattle.walrus_section_values.specs.walrus_section_reader.Steps.{step_of, entries_by}
use Rattle.walrus_known_sections.specs.declared.sections.Sections.{Sections}
use Rattle.walrus_known_sections.specs.State.{state_of}
use Rattle.walrus_export_reader.specs.Repeats.{names_of, name_at}

-- a name stands among these
abbrev pub is_among : List (List ℕ) → List ℕ → Bool
is_among names name = list_any (λ other. same_name other name) names

-- the name at a place stands earlier, too
abbrev pub repeats_at : List (List ℕ) → ℕ → Bool
repeats_at names i = is_among (take i names) (name_at names i)

-- the names from a place on are looked at, with how many bytes were left at each: the first that stands earlier is a duplicate, or else the
-- rest counts
unfoldable pub verdict : {A : Type 0} → List (List ℕ) → ℕ → List ℕ → Parsing A → Parsing A
verdict names i [] later = later
verdict names i (left ∷ lefts) later = if repeats_at names i then Err (stop DuplicateExport left) else verdict names (suc i) lefts later

-- how many bytes are left at each place
abbrev pub lefts_of : Cursor → List ℕ → List ℕ
lefts_of now places = map (λ p. end_of now - p) places

-- an entry, put into the state
abbrev pub export_step : State → List ℕ → Parsing State
export_step s bytes = step_of add_export export_entry s bytes

-- where reading ended
abbrev pub ended_with : State → Cursor → Option Fault → Parsing State
ended_with s new None = Ok (s, rest new)
ended_with s new (Some e) = Err (stop_of new e)

-- so many exports were read, or there was a fault that counts only if no name before it stands twice
pub record ReadsCandidates (count : ℕ) (old_sections new_sections : Sections) (places : List ℕ) (old new : Cursor) (result : Option Fault) : Type 0 where
  pub value : entries_by export_step count (state_of old_sections) (rest old)
      ≡ verdict (names_of new_sections.exports.items) (length old_sections.exports.items) (lefts_of old places) (ended_with (state_of new_sections) new result)
  pub counts : length old_sections.exports.items + length places ≡ length new_sections.exports.items
  pub inside : All (λ p. p ≤ end_of old) places
  pub place : IfSome result (λ e. e.offset ≤ end_of new)
  pub moves : Forward old new

-- the names are looked at from a place on: none of them stands earlier, or the first that does is refused
abbrev pub Checks : List (List ℕ) → ℕ → List ℕ → Result (Unit {0}) Fault → Type 0
Checks names from places (Ok _) = (now : Cursor) (later : Parsing State) → verdict names from (lefts_of now places) later ≡ later
Checks names from places (Err e) = (now : Cursor) (later : Parsing State) → FailsAs now e (verdict names from (lefts_of now places) later)

abbrev pub ended_by : Option Fault → Result (Unit {0}) Fault
ended_by None = Ok tt
ended_by (Some e) = Err e
