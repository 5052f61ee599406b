-- Lemmas: what is due for globals.
use Rattle.std.specs.Prelude.{ℕ, [], ◌∷◌, ◌++◌, length, filter, refl}
use Rattle.std.specs.List.{filter_map}
use Rattle.std.proofs.Common.{ap}
use Rattle.wasm_formats.specs.declared.fault.Limited.TheVariants as limits_of
use Rattle.wasm_operators.specs.Bytes.{value_bytes}
use Rattle.wasm_operators.specs.Items as items
use Rattle.wasm_operators.specs.Names.{Renaming}
use Rattle.walrus_forms.specs.Renaming.{renamed_value}
use Rattle.wasm_grammar.specs.Modules.{Expr, Origin, Imported, Own, Global}
use Rattle.wasm_grammar.specs.States.{nothing_yet}
use Rattle.wasm_grammar.specs.TypeWords.{value_from}
use Rattle.wasm_sections.specs.Sections.{GlobalSection}
use Rattle.wasm_module_bytes.specs.Due.{bit as bit_from, global_from}
use Rattle.wasm_canonical.specs.Due.{entry, global_entry, own_global, section_if}
use Rattle.wasm_part.specs.Part.{renumbered_expr, renumbered_global, renumbered_own}
use Rattle.walrus_pairing.specs.Looks.{Look}
use Rattle.walrus_emit_parts.specs.Due.{written}
use Rattle.walrus_emit_due.specs.Values.{bit, expr, value}
use Rattle.walrus_emit_due.specs.Own.{live, own_section}
use Rattle.walrus_emit_due.specs.Items.{global, global_of, global_type, is_own}
use Rattle.walrus_due_laws.specs.Spelled.{Follows, SpelledAs, in_slots, spelled}
use Rattle.walrus_due_laws.specs.Globals.{GlobalsAreSpelled}
use Rattle.walrus_due_laws.proofs.Parts.{both, plain, turned, within}
use Rattle.walrus_due_laws.proofs.Lists.{EntryAs, entries_as, own_each}
use Rattle.walrus_due_laws.proofs.Plain.{entry_plain, expr_bytes, global_bytes, global_type_bytes}
use Rattle.walrus_due_laws.proofs.Values.{bits_same, expr_as, value_as}

module _ (r : Renaming) (look : Look) (follows : Follows r look) (brings : ℕ → ℕ) where
  pub global_type_as : (g : Global) → SpelledAs (global_type look g) (global_type_bytes (global_from (renumbered_global r brings g)))
  global_type_as g =
      let ty = value_bytes (value_from (renamed_value (r items.Types) g.ty)) in
      turned (global_type look g) (ty ++ bit 1 g.mutable ∷ []) (ty ++ bit_from 1 g.mutable ∷ []) (ap (λ (n : ℕ). ty ++ n ∷ []) (bits_same 1 g.mutable))
      (both (value (look items.Types) (value_from g.ty)) (written (bit 1 g.mutable ∷ [])) ty (bit 1 g.mutable ∷ []) (value_as r look follows g.ty) (plain (bit 1 g.mutable ∷ [])))

  entry_made_as : (g : Global) (o : Origin Expr)
      → EntryAs global_bytes (is_own o) (global_of look g o) (global_entry (renumbered_global r brings g) (renumbered_own r brings (renumbered_expr r) o))
  entry_made_as g (Imported n) = tt
  entry_made_as g (Own e) =
      both (global_type look g) (expr look e) (global_type_bytes (global_from (renumbered_global r brings g))) (expr_bytes (renumbered_expr r e)) (global_type_as g) (expr_as r look follows e)

pub globals_spelled : GlobalsAreSpelled
globals_spelled features r brings look slots follows =
    let own = λ (g : Global). is_own g.origin in
    let entries = filter_map own_global (in_slots (renumbered_global r brings) slots) in
    within 1000000 (length (live slots)) limits_of.Globals (own_section 6 own (global look) slots) (spelled features (section_if GlobalSection entries))
    (entries_as (global look) global_bytes features 6 GlobalSection (λ es. entry_plain features nothing_yet (entry (GlobalSection es))) (filter own (live slots)) entries
    (own_each (global look) global_bytes own own_global (renumbered_global r brings) refl (λ g. entry_made_as r look follows brings g g.origin) slots))
