-- What is due for imports is the import section of the renamed ones.
use Rattle.std.specs.Prelude.{ℕ, ◌≡◌, List, map, Option, Some}
use Rattle.wasm_features.specs.declared.WasmFeatures.{WasmFeatures}
use Rattle.wasm_formats.specs.declared.fault.Space.{Space as FileSpace}
use Rattle.wasm_formats.specs.declared.fault.Space.TheVariants as spaces
use Rattle.wasm_operators.specs.Items.{Functions, Tables, Memories, Tags, Globals}
use Rattle.wasm_operators.specs.Names.{Renaming}
use Rattle.wasm_grammar.specs.Modules.{Import, Module}
use Rattle.wasm_module_rules.specs.Linked.{Each}
use Rattle.wasm_sections.specs.Sections.{ImportSection}
use Rattle.wasm_canonical.specs.Due.{import_due, items_in, section_if}
use Rattle.wasm_part.specs.Part.{renumbered_function, renumbered_global, renumbered_import, renumbered_memory, renumbered_table, renumbered_tag}
use Rattle.walrus_pairing.specs.Looks.{Look}
use Rattle.walrus_emit_due.specs.Imports.{imports}
use Rattle.walrus_emit_due.specs.Slots.{live_at}
use Rattle.walrus_due_laws.specs.Spelled.{Follows, SpelledAs, in_slots, spelled}

-- the item of this number, if it lives, stands at its new number, changed
abbrev pub Stands : {A : Type 0} → (ℕ → ℕ) → (A → A) → (olds news : List (Option A)) → ℕ → Type 0
Stands {A} at f olds news id = (x : A) → live_at olds id ≡ Some x → live_at news (at id) ≡ Some (f x)

-- so does what an import brings, renamed; nothing of another space is brought
module _ (r : Renaming) (brings : ℕ → ℕ) (m n : Module) where
  abbrev pub StandsIn : FileSpace → ℕ → Type 0
  StandsIn spaces.Function id = Stands (r Functions) (renumbered_function r brings) m.functions n.functions id
  StandsIn spaces.Table id = Stands (r Tables) (renumbered_table r brings) m.tables n.tables id
  StandsIn spaces.Memory id = Stands (r Memories) (renumbered_memory r brings) m.memories n.memories id
  StandsIn spaces.Tag id = Stands (r Tags) (renumbered_tag r brings) m.tags n.tags id
  StandsIn spaces.Global id = Stands (r Globals) (renumbered_global r brings) m.globals n.globals id
  StandsIn _ id = ⊥

  abbrev pub BroughtStand : Type 0
  BroughtStand = Each (λ (i : Import). StandsIn i.item.space i.item.number) m.imports

abbrev pub ImportsAreSpelled : Type 0
ImportsAreSpelled = (features : WasmFeatures) (r : Renaming) (brings : ℕ → ℕ) (look : Look) (m n : Module) → Follows r look → BroughtStand r brings m n
    → SpelledAs (imports look m) (spelled features (section_if ImportSection (map (import_due n) (items_in (in_slots (renumbered_import r) m.imports)))))
