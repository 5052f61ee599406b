-- Custom sections as they are read.
use Rattle.std.specs.Prelude.{ℕ, ◌≡◌, ◌≤◌, nat_le, true, List, length, take, drop, Result, Ok, Err, IfErr}
use Rattle.std.proofs.Common.{ap, sym, ◌∙◌, arith}
use Rattle.std.proofs.lemmas.Bool.{le-leb}
use Rattle.std.proofs.lemmas.List.{take_all}
use Rattle.wasm_reader.specs.Reading.{bytes_at}
use Rattle.wasm_reader.specs.Spellings.{ok_is}
use Rattle.wasm_reader.specs.Cursor.{Cursor, rest, end_of}
use Rattle.wasm_formats.specs.Stops.{Stop, Parsing}
use Rattle.wasm_formats.specs.Wholes.{sized}
use Rattle.walrus_entry_readers.specs.walrus_known_sections.wasm_sections.wasm_grammar.States.{State}
use Rattle.walrus_entry_readers.specs.walrus_known_sections.wasm_sections.Sections.{CustomEntry, custom, add_custom}
use Rattle.walrus_section_reader.specs.declared.fault.Fault.{Fault}
use Rattle.walrus_section_reader.specs.Parses.{stop_of}
use Rattle.walrus_section_reader.specs.Steps.{stepped}
use Rattle.walrus_entry_readers.specs.walrus_known_sections.declared.items.Custom.{Custom}

abbrev pub custom_entry_of : Custom → CustomEntry
custom_entry_of c = (c.name.now, c.bytes.now)

-- a custom section, put behind those before it
abbrev pub custom_put : State → List ℕ → Parsing State
custom_put s bytes = stepped (sized custom) (add_custom s) bytes

-- a call that takes no memory read all of a window, as the parsing says
abbrev pub whole_answer : {X Y : Type 0} → (X → Y) → Cursor → Result X Fault → Result Y Stop
whole_answer view now (Ok x) = Ok (view x)
whole_answer view now (Err e) = Err (stop_of now e)

pub record ReadsWhole {X Y : Type 0} (parse : List ℕ → Result Y Stop) (view : X → Y) (now : Cursor) (result : Result X Fault) : Type 0 where
  pub value : parse (rest now) ≡ whole_answer view now result
  pub place : IfErr result (λ e. e.offset ≤ end_of now)

-- Lemma: as many bytes as there are
pub all_are : (bytes run later : List ℕ) (n : ℕ) → n ≡ length bytes → bytes_at n bytes ≡ Ok (run, later) → run ≡ bytes
all_are bytes run later n e h =
    let le : nat_le n (length bytes) ≡ true = le-leb n (length bytes) (omega (arith, e)) in
    let there = (rw le at h) in
    let same : take n bytes ≡ run = ap (λ (p : List ℕ × List ℕ). p.0) (ok_is (take n bytes, drop n bytes) (run, later) there) in
    sym same ∙ take_all n bytes (omega (arith, e))
