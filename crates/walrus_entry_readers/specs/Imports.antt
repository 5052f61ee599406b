-- Imports as they are read, in words of the grammar.
use Rattle.std.specs.Prelude.{ℕ, nat_lt, List, length, Option}
use Rattle.walrus_known_sections.specs.wasm_sections.wasm_grammar.wasm_formats.declared.fault.Limited.TheVariants as limits
use Rattle.walrus_known_sections.specs.wasm_sections.wasm_grammar.wasm_formats.Stops.{Trouble, Limit}
use Rattle.walrus_known_sections.specs.wasm_sections.wasm_grammar.wasm_formats.Formats.{Format}
use Rattle.walrus_known_sections.specs.wasm_sections.wasm_grammar.wasm_formats.Joined.{after}
use Rattle.walrus_known_sections.specs.wasm_sections.wasm_grammar.Values.{must, first_of, name, byte_below}
use Rattle.walrus_known_sections.specs.wasm_sections.wasm_grammar.States.{State, room_test}
use Rattle.std.specs.Borrow.{Bor}
use Rattle.walrus_known_sections.specs.wasm_sections.Entities as grammar
use Rattle.walrus_known_sections.specs.wasm_sections.Entities.{import_by}
use Rattle.walrus_section_values.specs.Limits.{memory_type_of}
use Rattle.walrus_known_sections.specs.Items.{table_type_of, global_type_of}
use Rattle.walrus_entry_readers.specs.Entries.{tag_type_of}
use Rattle.walrus_entry_readers.specs.declared.imports.Entity.{Entity}
use Rattle.walrus_entry_readers.specs.declared.imports.Entity.TheVariants as entities
use Rattle.walrus_entry_readers.specs.declared.imports.ImportEntry.{ImportEntry}

abbrev pub entity_of : Entity → grammar.Entity
entity_of (entities.Function ty) = grammar.FunctionOf ty
entity_of (entities.Table ty) = grammar.TableOf (table_type_of ty)
entity_of (entities.Memory ty) = grammar.MemoryOf (memory_type_of ty)
entity_of (entities.Global ty) = grammar.GlobalOf (global_type_of ty)
entity_of (entities.Tag ty) = grammar.TagOf (tag_type_of ty)

abbrev pub import_entry_of : ImportEntry → grammar.ImportEntry
import_entry_of e = (e.module.now, (e.name.now, (e.kind, entity_of e.entity)))

-- what is tested of an import at its first byte
abbrev pub entity_test : State → grammar.Entity → Option Trouble
entity_test s x = first_of (must (nat_lt (length s.filled.imports) 1000000) (Limit limits.Imports)) (room_test s (grammar.space_of x))

-- two names and a kind
abbrev pub front : Format (List ℕ × (List ℕ × ℕ))
front = after name (λ _. after name (λ _. byte_below 5))

abbrev pub front_of : Bor (List ℕ) × Bor (List ℕ) × ℕ → List ℕ × (List ℕ × ℕ)
front_of p = (p.0.now, (p.1.now, p.2))
