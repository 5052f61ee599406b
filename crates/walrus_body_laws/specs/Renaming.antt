-- What is written under a map of ids, and where each id is its own number.
use Rattle.std.specs.Prelude.{◌≡◌, ℕ, List, map}
use Rattle.walrus_instr.specs.declared.seq.InstrSeq.{InstrSeq}
use Rattle.wasm_operators.specs.Items.{Labels}
use Rattle.wasm_operators.specs.Names.{Renaming, renamed_operator}
use Rattle.wasm_normal_form.specs.Roles.{Placed, placed}
use Rattle.walrus_pairing.specs.Looks.{Look}
use Rattle.walrus_pairing.specs.Sends.{Sends}
use Rattle.walrus_pairing.specs.Laws.{all}
use Rattle.walrus_body_names.specs.walrus_body_writer.Spelled.{Text, AreWritten}
use Rattle.walrus_body_laws.specs.WritingLaws.{text_ops}

-- labels are counted, and no map changes them
abbrev pub KeepsLabels : Renaming → Type 0
KeepsLabels r = (n : ℕ) → r Labels n ≡ n

abbrev pub renamed_placed : Renaming → Placed → Placed
renamed_placed r o = placed (renamed_operator r o.op) o.place

-- what is written for a text under a map is what is written where each id is its own number, renamed as the map renames
abbrev pub TextsAreRenamed : Type 0
TextsAreRenamed = (r : Renaming) (look : Look) → Sends r look → KeepsLabels r → (b : List InstrSeq) (t : Text) → AreWritten look b t
    → AreWritten all b t × (text_ops look b t ≡ map (renamed_placed r) (text_ops all b t))
