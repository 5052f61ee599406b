-- Lemmas: what is due for tables.
use Rattle.std.specs.Prelude.{ℕ, ◌+◌, ◌≡◌, Bool, true, false, ◌∷◌, ◌++◌, length, filter, Option, Some, None, Ok, refl}
use Rattle.std.specs.List.{filter_map}
use Rattle.std.specs.Option.{is_none, is_some, option_map}
use Rattle.wasm_formats.specs.declared.fault.Limited.TheVariants as limits_of
use Rattle.wasm_operators.specs.Bytes.{reference_bytes, unsigned_bytes}
use Rattle.wasm_operators.specs.Items as items
use Rattle.wasm_operators.specs.Names.{Renaming}
use Rattle.walrus_forms.specs.Renaming.{renamed_ref}
use Rattle.wasm_grammar.specs.Modules.{Expr, Table}
use Rattle.wasm_grammar.specs.States.{nothing_yet}
use Rattle.wasm_grammar.specs.TypeWords.{ref_from}
use Rattle.wasm_sections.specs.Sections.{TableSection}
use Rattle.wasm_section_bytes.specs.Entries.{table_limits_writer}
use Rattle.wasm_module_bytes.specs.Due.{bit as bit_from, table_from}
use Rattle.wasm_canonical.specs.Due.{entry, if_own, of_init, own_table, section_if}
use Rattle.wasm_part.specs.Part.{renumbered_expr, renumbered_table}
use Rattle.walrus_pairing.specs.Looks.{Look}
use Rattle.walrus_emit_due.specs.Values.{bit, expr, limits, reference}
use Rattle.walrus_emit_due.specs.Own.{live, own_section}
use Rattle.walrus_emit_due.specs.Items.{table, table_flags, table_of, table_type}
use Rattle.walrus_due_laws.specs.Spelled.{Follows, SpelledAs, in_slots, spelled}
use Rattle.walrus_due_laws.specs.Tables.{TablesAreSpelled}
use Rattle.walrus_due_laws.proofs.Parts.{both, led, turned, within}
use Rattle.walrus_due_laws.proofs.Lists.{EntryAs, entries_as, own_each}
use Rattle.walrus_due_laws.proofs.Plain.{entry_plain, expr_bytes, table_bytes, table_type_bytes}
use Rattle.walrus_due_laws.proofs.Values.{expr_as, limits_as, optional_bytes, ref_as}

flags_plain : (wide : Bool) (initial : ℕ) (maximum : Option ℕ)
    → (bit 1 (is_some maximum) + bit 4 wide) ∷ (unsigned_bytes initial ++ optional_bytes maximum)
    ≡ table_limits_writer.bytes (bit_from 1 (is_some maximum) + bit_from 4 wide, (initial, maximum))
flags_plain false initial None = refl
flags_plain false initial (Some n) = refl
flags_plain true initial None = refl
flags_plain true initial (Some n) = refl

module _ (r : Renaming) (look : Look) (follows : Follows r look) where
  pub table_type_as : (brings : ℕ → ℕ) (t : Table) → SpelledAs (table_type look t) (table_type_bytes (table_from (renumbered_table r brings t)))
  table_type_as brings t =
      both (reference (look items.Types) (ref_from t.element)) (limits (table_flags t) t.initial t.maximum) (reference_bytes (ref_from (renamed_ref (r items.Types) t.element)))
      (table_limits_writer.bytes (table_from t).1) (ref_as r look follows t.element)
      (turned (limits (table_flags t) t.initial t.maximum) (table_flags t ∷ (unsigned_bytes t.initial ++ optional_bytes t.maximum)) (table_limits_writer.bytes (table_from t).1)
      (flags_plain t.wide t.initial t.maximum) (limits_as (table_flags t) t.initial t.maximum))

  module _ (brings : ℕ → ℕ) (t : Table) where
    entry_made_as : (imported : Option ℕ) (init : Option Expr)
        → EntryAs table_bytes (is_none imported) (table_of look t init) (if_own (option_map brings imported) (of_init (table_from (renumbered_table r brings t)) (option_map (renumbered_expr r) init)))
    entry_made_as (Some n) init = tt
    entry_made_as None None = table_type_as brings t
    entry_made_as None (Some e) =
        let ty = table_type_bytes (table_from (renumbered_table r brings t)) in
        let init = expr_bytes (renumbered_expr r e) in
        led 0x40 (Ok 0x00 ∷ (table_type look t ++ expr look e)) (0x00 ∷ (ty ++ init)) (led 0x00 (table_type look t ++ expr look e) (ty ++ init) (both (table_type look t) (expr look e) ty init (table_type_as brings t) (expr_as r look follows e)))

pub tables_spelled : TablesAreSpelled
tables_spelled features r brings look slots follows =
    let own = λ (t : Table). is_none t.imported in
    let entries = filter_map own_table (in_slots (renumbered_table r brings) slots) in
    let section = spelled features (section_if TableSection entries) in
    within 100 (length (live slots)) limits_of.Tables (own_section 4 own (table look) slots) section
    (entries_as (table look) table_bytes features 4 TableSection (λ es. entry_plain features nothing_yet (entry (TableSection es))) (filter own (live slots)) entries
    (own_each (table look) table_bytes own own_table (renumbered_table r brings) refl (λ t. entry_made_as r look follows brings t t.imported t.init) slots))
