-- Lemmas: what names one another in a module that was read.
use Rattle.std.specs.Prelude.{ℕ, ◌≡◌, ◌<◌, List, length, Option, Some, None, slice_index_or}
use Rattle.std.specs.Option.{option_map}
use Rattle.std.proofs.Common.{ap, sym, ◌∙◌, subst}
use Rattle.walrus_named_bodies.specs.walrus_file_bodies.walrus_items_into.walrus_module_bodies.walrus_body_trees.walrus_meaning.walrus_local_function.walrus_body_locals.wasm_grammar.Modules as grammar
use Rattle.wasm_import_links.specs.Full.{AreFull, ReadModulesAreFull}
use Rattle.wasm_import_links.specs.Links as file
use Rattle.wasm_import_links.proofs.SlotLemmas.{same_links}
use Rattle.wasm_module_rules.specs.Linked.{IsBelow, IsThere, ReadModulesAreLinked}
use Rattle.walrus_arena.specs.Arena.{item_at}
use Rattle.walrus_parse_laws.specs.Renamed.{retyped_global, retyped_table, retyped_tag}
use Rattle.walrus_named_bodies.specs.walrus_file_bodies.walrus_items_into.walrus_module_bodies.walrus_body_trees.walrus_meaning.Meaning.{means, own_export, own_function, own_given, own_global, own_import, own_memory, own_table, own_tag}
use Rattle.walrus_named_bodies.specs.walrus_file_bodies.walrus_items_into.walrus_module_bodies.walrus_body_trees.walrus_meaning.walrus_module.Items.{Lives, brought, given_out}
use Rattle.walrus_named_bodies.specs.walrus_file_bodies.walrus_items_into.walrus_module_bodies.walrus_body_trees.walrus_meaning.walrus_module.Parts.{Module, parts}
use Rattle.walrus_named_bodies.specs.walrus_file_bodies.walrus_items_into.walrus_module_bodies.walrus_body_trees.walrus_meaning.walrus_linked.walrus_module_items.declared.export.ExportItem.{ExportItem}
use Rattle.walrus_named_bodies.specs.walrus_file_bodies.walrus_items_into.walrus_module_bodies.walrus_body_trees.walrus_meaning.walrus_linked.walrus_module_items.declared.export.ExportItem.TheVariants as exported
use Rattle.walrus_named_bodies.specs.Parsed.{read_features}
use Rattle.walrus_named_bodies.specs.walrus_file_bodies.walrus_items_into.walrus_tables_into.walrus_sections.walrus_roots.declared.item.Item.{Item}
use Rattle.walrus_parse_laws.specs.Items.{HasItems, ReadModulesHaveItems, file_of, head_of, same}
use Rattle.walrus_parse_laws.specs.Links.{ReadModulesHaveLinks}
use Rattle.walrus_parse_laws.proofs.BroughtLemmas.{brought_is, file_brings, import_of_meant, item_of}
use Rattle.walrus_parse_laws.proofs.ItemsSlotLemmas.{each_at, flags, flags_seen, live_at, seen_at, seen_there}

-- ---- items live

pub function_flags : (r : ℕ → ℕ) (f : grammar.Module) (m : Module) → HasItems r f (means m) → flags m.funcs.slots ≡ flags f.functions
function_flags r f m h =
    sym (flags_seen (own_function m.locals) m.funcs.slots) ∙ sym (flags_seen (head_of same) (means m).functions) ∙ ap flags h.functions ∙ flags_seen (head_of r) f.functions

pub given_live : (r : ℕ → ℕ) (f : grammar.Module) (m : Module) → HasItems r f (means m) → AreFull f → (x : ExportItem) → IsThere f (own_given x) → Lives m (given_out x)
given_live r f m h full (exported.Function id) lt = live_at m.funcs.slots f.functions id (function_flags r f m h) full.functions lt
given_live r f m h full (exported.Table id) lt =
    live_at m.tables.slots f.tables id (sym (flags_seen own_table m.tables.slots) ∙ ap flags h.tables ∙ flags_seen (retyped_table r) f.tables) full.tables lt
given_live r f m h full (exported.Memory id) lt = live_at m.memories.slots f.memories id (sym (flags_seen own_memory m.memories.slots) ∙ ap flags h.memories) full.memories lt
given_live r f m h full (exported.Global id) lt =
    live_at m.globals.slots f.globals id (sym (flags_seen own_global m.globals.slots) ∙ ap flags h.globals ∙ flags_seen (retyped_global r) f.globals) full.globals lt
given_live r f m h full (exported.Tag id) lt =
    live_at m.tags.slots f.tags id (sym (flags_seen own_tag m.tags.slots) ∙ ap flags h.tags ∙ flags_seen (retyped_tag r) f.tags) full.tags lt

start_live : (count n : ℕ) (start : Option ℕ) → start ≡ Some n → IsBelow count start → n < count
start_live count n start is h = subst (IsBelow count) is h

-- ---- links

pub have_links : {B : Type 0} → ReadModulesHaveItems B → file.ReadModulesLink → ReadModulesAreFull → ReadModulesAreLinked → ReadModulesHaveLinks B
have_links items links fulls ruled config bytes whole found small is =
    let m = parts whole in
    let all = items config bytes whole found small is in
    let f = file_of config bytes whole found is in
    let reads = all.0 in
    let h = all.1 in
    let features = read_features config in
    let full = fulls features bytes f reads in
    let there = ruled features bytes f reads in
    let linked : file.ImportsLink (means m) = same_links (file.brought f) (file.brought (means m)) f.imports (means m).imports (file_brings _ f (means m) h) h.imports (links features bytes f reads) in record {
      imports = λ i import at.
          sym (import_of_meant m (brought import.kind))
          ∙ ap (λ (x : Item). slice_index_or (file.brought (means m) x.space) x.id None) (sym (brought_is import.kind))
          ∙ linked.named i (own_import import) (seen_at own_import m.imports.slots i ∙ ap (option_map own_import) at);
      imported = λ x i e.
          let t = linked.told x.space x.id i (import_of_meant m x ∙ e) in
          let seen = seen_there own_import (item_at m.imports i) t.0 (sym (seen_at own_import m.imports.slots i) ∙ t.1) in
          (seen.0, seen.1, sym (brought_is seen.0.kind) ∙ ap item_of (ap (λ (g : grammar.Import). g.item) seen.2 ∙ t.2));
      exported = λ e export at.
          given_live _ f m h full export.item
          (each_at (λ (x : grammar.Export). IsThere f x.item) f.exports e (own_export export) there.exports_there
          (ap (λ (l : List (Option grammar.Export)). slice_index_or l e None) (sym h.exports) ∙ seen_at own_export m.exports.slots e ∙ ap (option_map own_export) at));
      started = λ n at.
          live_at m.funcs.slots f.functions n (function_flags _ f m h) full.functions (start_live (length f.functions) n f.start (sym h.start ∙ at) there.start_there);
    }
