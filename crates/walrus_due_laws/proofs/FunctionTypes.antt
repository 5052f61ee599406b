-- Lemmas: what is due for the types of functions.
use Rattle.std.specs.Prelude.{ℕ, ◌≡◌, List, [], ◌∷◌, length, Option, Some, None, refl}
use Rattle.std.specs.List.{cons_option, filter_map}
use Rattle.std.specs.Option.{option_map}
use Rattle.std.proofs.Common.{sym, subst}
use Rattle.wasm_formats.specs.declared.fault.Limited.TheVariants as limits_of
use Rattle.wasm_formats.specs.declared.fault.Space.TheVariants as spaces
use Rattle.wasm_operators.specs.Bytes.{unsigned_bytes}
use Rattle.wasm_operators.specs.Items as items
use Rattle.wasm_operators.specs.Names.{Renaming}
use Rattle.wasm_grammar.specs.Modules.{Origin, Imported, Own, Body, Function}
use Rattle.wasm_grammar.specs.States.{nothing_yet}
use Rattle.wasm_body_grammar.specs.Codes.{own_type, type_if_own}
use Rattle.wasm_sections.specs.Sections.{FunctionSection}
use Rattle.wasm_canonical.specs.Dense.{IsOwnFunction}
use Rattle.wasm_canonical.specs.Due.{entry, section_if}
use Rattle.wasm_part.specs.Part.{picked, renumbered_body, renumbered_function, renumbered_own}
use Rattle.walrus_pairing.specs.Looks.{Look}
use Rattle.walrus_emit_parts.specs.Due.{Due, entries}
use Rattle.walrus_emit_due.specs.Own.{live}
use Rattle.walrus_emit_due.specs.Slots.{live_at}
use Rattle.walrus_emit_due.specs.FunctionTypes.{type_in, type_of}
use Rattle.walrus_due_laws.specs.Spelled.{Follows, SpelledAs, spelled}
use Rattle.walrus_due_laws.specs.FunctionTypes.{FunctionTypesAreSpelled, HaveBodies}
use Rattle.walrus_due_laws.proofs.Parts.{within}
use Rattle.walrus_due_laws.proofs.Lists.{EachAs, entries_as}
use Rattle.walrus_due_laws.proofs.Plain.{entry_plain}
use Rattle.walrus_due_laws.proofs.Values.{index_as}

module _ (r : Renaming) (brings : ℕ → ℕ) (look : Look) (slots : List (Option Function)) (follows : Follows r look) where
  abbrev types_of : List ℕ → List ℕ
  types_of ids = filter_map own_type (picked (renumbered_function r brings) ids slots)

  -- its type, where it has a body
  own_is : (ty : ℕ) (o : Origin Body) (x : Body) → o ≡ Own x → type_if_own ty (renumbered_own r brings (renumbered_body r) o) ≡ Some ty
  own_is ty (Imported n) x e = absurd cc
  own_is ty (Own y) x e = refl

  one_more : (id : ℕ) (ids : List ℕ) (o : Option Function) → type_in look slots id ≡ type_of look o → IsOwnFunction o → EachAs (type_in look slots) unsigned_bytes ids (types_of ids)
      → EachAs (type_in look slots) unsigned_bytes (id ∷ ids) (cons_option (own_type (option_map (renumbered_function r brings) o)) (types_of ids))
  one_more id ids None same own rest = absurd own
  one_more id ids (Some f) same own rest =
      subst (λ (o : Option ℕ). EachAs (type_in look slots) unsigned_bytes (id ∷ ids) (cons_option o (types_of ids))) (sym (own_is (r items.Types f.ty) f.origin own.0 own.1))
      (subst (λ (d : Due). SpelledAs d (unsigned_bytes (r items.Types f.ty))) (sym same) (index_as r look follows spaces.«Type» items.Types f.ty), rest)

  types_each : (ids : List ℕ) → HaveBodies slots ids → EachAs (type_in look slots) unsigned_bytes ids (types_of ids)
  types_each [] h = tt
  types_each (id ∷ ids) h = one_more id ids (live_at slots id) refl h.0 (types_each ids h.1)

pub function_types_spelled : FunctionTypesAreSpelled
function_types_spelled features r brings look slots ids follows own =
    let types = filter_map own_type (picked (renumbered_function r brings) ids slots) in
    within 1000000 (length (live slots)) limits_of.Functions (entries 3 (type_in look slots) ids) (spelled features (section_if FunctionSection types))
    (entries_as (type_in look slots) unsigned_bytes features 3 FunctionSection (λ es. entry_plain features nothing_yet (entry (FunctionSection es))) ids types
    (types_each r brings look slots follows ids own))
