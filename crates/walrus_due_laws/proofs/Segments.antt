-- Lemmas: what is due for data segments.
use Rattle.std.specs.Prelude.{ℕ, ◌==◌, Bool, true, false, List, ◌++◌, length, map, filter, Option, Some, None, if◌then◌else◌, refl}
use Rattle.std.proofs.Common.{ap, sym, subst}
use Rattle.std.proofs.lemmas.List.{append_assoc}
use Rattle.wasm_formats.specs.declared.fault.Limited.TheVariants as limits_of
use Rattle.wasm_formats.specs.declared.fault.Space.TheVariants as spaces
use Rattle.wasm_operators.specs.Bytes.{unsigned_bytes}
use Rattle.wasm_operators.specs.Items as items
use Rattle.wasm_operators.specs.Names.{Renaming}
use Rattle.wasm_grammar.specs.Modules.{Expr, Mode, Passive, Declared, Active, Segment}
use Rattle.wasm_grammar.specs.States.{nothing_yet}
use Rattle.wasm_sections.specs.Segments.{DataEntry, ActiveData, DataInto}
use Rattle.wasm_sections.specs.Sections.{DataSection}
use Rattle.wasm_section_bytes.specs.Flags.{bytes_entry, entry_of_segment}
use Rattle.wasm_section_bytes.specs.Segments.{sized_bytes}
use Rattle.wasm_canonical.specs.Due.{entry, items_in, section_if}
use Rattle.wasm_part.specs.Part.{renumbered_expr, renumbered_mode, renumbered_segment}
use Rattle.walrus_errors.specs.declared.error.ModuleError.TheVariants.{DeadReference}
use Rattle.walrus_pairing.specs.Looks.{Look}
use Rattle.walrus_emit_parts.specs.Due.{Due, number, text}
use Rattle.walrus_emit_due.specs.Values.{expr}
use Rattle.walrus_emit_due.specs.Own.{live, own_section}
use Rattle.walrus_emit_due.specs.Items.{active, contents, moded, segment}
use Rattle.walrus_due_laws.specs.Spelled.{Follows, SpelledAs, in_slots, spelled}
use Rattle.walrus_due_laws.specs.Segments.{SegmentsAreSpelled}
use Rattle.walrus_due_laws.proofs.Parts.{both, lacks, plain, text_as, turned, within}
use Rattle.walrus_due_laws.proofs.Lists.{all_each, each_any, entries_as}
use Rattle.walrus_due_laws.proofs.Plain.{data_bytes, entry_plain, expr_bytes}
use Rattle.walrus_due_laws.proofs.Values.{Leads, expr_as, named}

module _ (r : Renaming) (look : Look) (follows : Follows r look) (offset : Expr) (bytes : List ℕ) where
  abbrev begins : List ℕ
  begins = expr_bytes (renumbered_expr r offset)

  contents_as : SpelledAs (contents look offset bytes) (begins ++ sized_bytes bytes)
  contents_as = both (expr look offset) (text bytes) begins (sized_bytes bytes) (expr_as r look follows offset) (text_as bytes)

  -- the first memory isn't named
  abbrev into : Bool → ℕ → DataEntry
  into first k = if first then (0, ActiveData (renumbered_expr r offset, bytes)) else (2, DataInto ((k, renumbered_expr r offset), bytes))

  abbrev due_into : Bool → ℕ → Due
  due_into first k = if first then number 0 ++ contents look offset bytes else (number 2 ++ (number k ++ contents look offset bytes))

  named_as : (first : Bool) (k : ℕ) → SpelledAs (due_into first k) (data_bytes (into first k))
  named_as true k = both (number 0) (contents look offset bytes) (unsigned_bytes 0) (begins ++ sized_bytes bytes) (plain (unsigned_bytes 0)) contents_as
  named_as false k =
      turned (number 2 ++ (number k ++ contents look offset bytes)) (unsigned_bytes 2 ++ (unsigned_bytes k ++ (begins ++ sized_bytes bytes)))
      (unsigned_bytes 2 ++ ((unsigned_bytes k ++ begins) ++ sized_bytes bytes)) (ap (λ (l : List ℕ). unsigned_bytes 2 ++ l) (sym (append_assoc (unsigned_bytes k) begins (sized_bytes bytes))))
      (both (number 2) (number k ++ contents look offset bytes) (unsigned_bytes 2) (unsigned_bytes k ++ (begins ++ sized_bytes bytes)) (plain (unsigned_bytes 2))
      (both (number k) (contents look offset bytes) (unsigned_bytes k) (begins ++ sized_bytes bytes) (plain (unsigned_bytes k)) contents_as))

  active_as : (o : Option ℕ) (n : ℕ) → Leads o n → SpelledAs (active look o offset bytes) (data_bytes (bytes_entry (Active n (renumbered_expr r offset)) bytes))
  active_as None n h = lacks (DeadReference spaces.Memory) (data_bytes (bytes_entry (Active n (renumbered_expr r offset)) bytes))
  active_as (Some k) n h =
      subst (λ (n : ℕ). SpelledAs (active look (Some k) offset bytes) (data_bytes (bytes_entry (Active n (renumbered_expr r offset)) bytes))) (sym (h k refl)) (named_as (k == 0) k)

module _ (r : Renaming) (look : Look) (follows : Follows r look) where
  moded_as : (mode : Mode) (bytes : List ℕ) → SpelledAs (moded look mode bytes) (data_bytes (bytes_entry (renumbered_mode r items.Memories mode) bytes))
  moded_as (Active memory offset) bytes = active_as r look follows offset bytes (look items.Memories memory) (r items.Memories memory) (named r look follows items.Memories memory)
  moded_as Passive bytes = both (number 1) (text bytes) (unsigned_bytes 1) (sized_bytes bytes) (plain (unsigned_bytes 1)) (text_as bytes)
  moded_as Declared bytes = both (number 1) (text bytes) (unsigned_bytes 1) (sized_bytes bytes) (plain (unsigned_bytes 1)) (text_as bytes)

  segment_as : (x : Segment) → SpelledAs (segment look x) (data_bytes (entry_of_segment (renumbered_segment r x)))
  segment_as x = moded_as x.mode x.bytes

pub segments_spelled : SegmentsAreSpelled
segments_spelled features r look slots follows =
    let all = λ (x : Segment). true in
    let entries = map entry_of_segment (items_in (in_slots (renumbered_segment r) slots)) in
    within 100000 (length (live slots)) limits_of.Data (own_section 11 all (segment look) slots) (spelled features (section_if DataSection entries))
    (entries_as (segment look) data_bytes features 11 DataSection (λ es. entry_plain features nothing_yet (entry (DataSection es))) (filter all (live slots)) entries
    (all_each (segment look) data_bytes (λ (x : Segment). Unit {0}) entry_of_segment (renumbered_segment r) (λ x _. segment_as r look follows x) slots (each_any slots)))
