-- Exports that are added, deleted or changed: what was linked stays so.
use Rattle.std.proofs.Common.{◌≡◌, ◌∙◌, ◌⊎◌, ℕ, List, [], ◌∷◌, ◌++◌, Option, Some, None, slice_index_or, slice_set, refl, sym, ap, subst, inl, inr}
use Rattle.walrus_arena.specs.Arena.{Arena, item_at}
use Rattle.walrus_linked.specs.walrus_module_items.declared.export.Export.{Export}
use Rattle.wasm_formats.specs.declared.fault.Space.{Space}
use Rattle.wasm_formats.specs.declared.fault.Space.TheVariants as spaces
use Rattle.walrus_linked.specs.walrus_module.Parts.{Module}
use Rattle.walrus_linked.specs.walrus_module.Items.{Lives, given_out}
use Rattle.walrus_linked.specs.Linked.{IsLinked}
use Rattle.walrus_linked.proofs.SlotLemmas.{pushed_at, at_set}
use Rattle.walrus_module_laws.proofs.ChangeLemmas.{InSpace, after_change}

module _ (m : Module) (es : Arena Export) where
  abbrev n : Module
  n = record m { exports = es }

  pub in_space : (s : Space) → InSpace m n s
  in_space spaces.Type = record { import_kept = λ id i h. h; import_at = λ id i h. h; lives_kept = λ id h. h; named = λ id h y has. inl (h, has) }
  in_space spaces.Function = record { import_kept = λ id i h. h; import_at = λ id i h. h; lives_kept = λ id h. h; named = λ id h y has. inl (h, has) }
  in_space spaces.Table = record { import_kept = λ id i h. h; import_at = λ id i h. h; lives_kept = λ id h. h; named = λ id h y has. inl (h, has) }
  in_space spaces.Memory = record { import_kept = λ id i h. h; import_at = λ id i h. h; lives_kept = λ id h. h; named = λ id h y has. inl (h, has) }
  in_space spaces.Tag = record { import_kept = λ id i h. h; import_at = λ id i h. h; lives_kept = λ id h. h; named = λ id h y has. inl (h, has) }
  in_space spaces.Global = record { import_kept = λ id i h. h; import_at = λ id i h. h; lives_kept = λ id h. h; named = λ id h y has. inl (h, has) }
  in_space spaces.Element = record { import_kept = λ id i h. h; import_at = λ id i h. h; lives_kept = λ id h. h; named = λ id h y has. inl (h, has) }
  in_space spaces.Data = record { import_kept = λ id i h. h; import_at = λ id i h. h; lives_kept = λ id h. h; named = λ id h y has. inl (h, has) }
  in_space spaces.Local = record { import_kept = λ id i h. h; import_at = λ id i h. h; lives_kept = λ id h. h; named = λ id h y has. inl (h, has) }
  in_space spaces.Label = record { import_kept = λ id i h. h; import_at = λ id i h. h; lives_kept = λ id h. h; named = λ id h y has. inl (h, has) }

  exports_changed : ((e : ℕ) (export : Export) → item_at es e ≡ Some export → (item_at m.exports e ≡ Some export) ⊎ Lives n (given_out export.item)) → IsLinked m → IsLinked n
  exports_changed are l = after_change m n (record { imports_same = refl; spaces = in_space; whole = l.whole; exported = are; start_same = refl; grouped = l.grouped }) l

  given_lives : (x export : Export) → x ≡ export → Lives n (given_out x.item) → Lives n (given_out export.item)
  given_lives x export same lives = let L : Export → Type 0 = λ e. Lives n (given_out e.item) in subst L same lives

  pub export_added : (x0 : Export) → es.slots ≡ m.exports.slots ++ Some x0 ∷ [] → Lives n (given_out x0.item) → IsLinked m → IsLinked n
  export_added x0 adds lives = exports_changed (λ e export at. elim (pushed_at m.exports es x0 adds export e at) as (λ _. (item_at m.exports e ≡ Some export) ⊎ Lives n (given_out export.item)) [
    | inl k ↦ inl k
    | inr k ↦ inr (given_lives x0 export (sym k.1) lives)
  ])

  at_slots : (slots : List (Option Export)) (e : ℕ) (export : Export) → es.slots ≡ slots → item_at es e ≡ Some export → slice_index_or slots e None ≡ Some export
  at_slots slots e export is at = ap (λ (ss : List (Option Export)). slice_index_or ss e None) (sym is) ∙ at

  pub export_deleted : (k : ℕ) → es.slots ≡ slice_set m.exports.slots k None → IsLinked m → IsLinked n
  export_deleted k is = exports_changed (λ e export at. elim (at_set m.exports.slots k e None export (at_slots _ e export is at)) as (λ _. (item_at m.exports e ≡ Some export) ⊎ Lives n (given_out export.item)) [
    | inl h ↦ inl h
    | inr h ↦ let none : None ≡ Some export = h.1 in absurd cc
  ])

  pub export_set : (k : ℕ) (x0 : Export) → es.slots ≡ slice_set m.exports.slots k (Some x0) → Lives n (given_out x0.item) → IsLinked m → IsLinked n
  export_set k x0 is lives = exports_changed (λ e export at. elim (at_set m.exports.slots k e (Some x0) export (at_slots _ e export is at)) as (λ _. (item_at m.exports e ≡ Some export) ⊎ Lives n (given_out export.item)) [
    | inl h ↦ inl h
    | inr h ↦ let same : x0 ≡ export = cc in inr (given_lives x0 export same lives)
  ])
