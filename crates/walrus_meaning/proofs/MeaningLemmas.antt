-- Slots as they are seen, after edits.
use Rattle.std.proofs.Common.{◌≡◌, ◌∙◌, ℕ, zero, suc, List, [], ◌∷◌, ◌++◌, map, Option, Some, None, slice_index_or, slice_set, refl, ap}
use Rattle.std.specs.Option.{option_map}
use Rattle.walrus_arena.specs.Arena.{Arena}
use Rattle.walrus_types.specs.Items.{Group}
use Rattle.wasm_grammar.specs.Modules as grammar
use Rattle.walrus_forms.specs.Records.{TypeGroup}
use Rattle.walrus_meaning.specs.Meaning.{slots_of, own_groups, own_import, own_export, own_function, own_table, own_memory, own_global, own_tag, own_element, own_segment, means}
use Rattle.walrus_meaning.specs.Laws.{EmptyMeansEmpty, ItemsAreSeen, DeletesAreSeen, AddsAreSeen}

module _ {A B : Type 0} (see : A → B) where
  seen_push : (slots : List (Option A)) (x : A) → map (option_map see) (slots ++ Some x ∷ []) ≡ map (option_map see) slots ++ Some (see x) ∷ []
  seen_push [] x = refl
  seen_push (s ∷ slots) x = ap (λ (ss : List (Option B)). option_map see s ∷ ss) (seen_push slots x)

  seen_at : (slots : List (Option A)) (id : ℕ) → slice_index_or (map (option_map see) slots) id None ≡ option_map see (slice_index_or slots id None)
  seen_at [] id = refl
  seen_at (s ∷ slots) zero = refl
  seen_at (s ∷ slots) (suc id) = seen_at slots id

  seen_without : (slots : List (Option A)) (id : ℕ) → map (option_map see) (slice_set slots id None) ≡ slice_set (map (option_map see) slots) id None
  seen_without [] id = refl
  seen_without (s ∷ slots) zero = refl
  seen_without (s ∷ slots) (suc id) = ap (λ (ss : List (Option B)). option_map see s ∷ ss) (seen_without slots id)

  pub pushed : (a b : Arena A) (x : A) → b.slots ≡ a.slots ++ Some x ∷ [] → slots_of see b ≡ slots_of see a ++ Some (see x) ∷ []
  pushed a b x adds = ap (map (option_map see)) adds ∙ seen_push a.slots x

  pub items_seen : (a : Arena A) → ItemsAreSeen see a
  items_seen a id = seen_at a.slots id

  pub deletes_seen : (a : Arena A) → DeletesAreSeen see a
  deletes_seen a b id is = ap (map (option_map see)) is ∙ seen_without a.slots id

  pub none_seen : (a : Arena A) → a.slots ≡ [] → slots_of see a ≡ []
  none_seen a is = ap (map (option_map see)) is

pub adds_seen : AddsAreSeen
adds_seen = record {
  imports = λ m n x adds rest. ap means rest ∙ ap (λ (ss : List (Option grammar.Import)). record (means m) { imports = ss }) (pushed own_import m.imports n.imports x adds);
  functions = λ m n x adds rest. ap means rest ∙ ap (λ (ss : List (Option grammar.Function)). record (means m) { functions = ss }) (pushed (own_function m.locals) m.funcs n.funcs x adds);
  tables = λ m n x adds rest. ap means rest ∙ ap (λ (ss : List (Option grammar.Table)). record (means m) { tables = ss }) (pushed own_table m.tables n.tables x adds);
  memories = λ m n x adds rest. ap means rest ∙ ap (λ (ss : List (Option grammar.Memory)). record (means m) { memories = ss }) (pushed own_memory m.memories n.memories x adds);
  tags = λ m n x adds rest. ap means rest ∙ ap (λ (ss : List (Option grammar.Tag)). record (means m) { tags = ss }) (pushed own_tag m.tags n.tags x adds);
  globals = λ m n x adds rest. ap means rest ∙ ap (λ (ss : List (Option grammar.Global)). record (means m) { globals = ss }) (pushed own_global m.globals n.globals x adds);
  exports = λ m n x adds rest. ap means rest ∙ ap (λ (ss : List (Option grammar.Export)). record (means m) { exports = ss }) (pushed own_export m.exports n.exports x adds);
  elements = λ m n x adds rest. ap means rest ∙ ap (λ (ss : List (Option grammar.Element)). record (means m) { elements = ss }) (pushed own_element m.elements n.elements x adds);
  segments = λ m n x adds rest. ap means rest ∙ ap (λ (ss : List (Option grammar.Segment)). record (means m) { segments = ss }) (pushed own_segment m.data_segments n.data_segments x adds);
}

pub empty_means : EmptyMeansEmpty
empty_means m z =
    ap (λ (ss : List TypeGroup). record (means m) { groups = ss }) (ap (λ (gs : List (Option Group)). own_groups (record { types = m.types.types; groups = gs })) z.groups)
    ∙ ap (λ (ss : List (Option grammar.Import)). record (means m) { groups = []; imports = ss }) (none_seen own_import m.imports z.imports)
    ∙ ap (λ (ss : List (Option grammar.Function)). record (means m) { groups = []; imports = []; functions = ss }) (none_seen (own_function m.locals) m.funcs z.funcs)
    ∙ ap (λ (ss : List (Option grammar.Table)). record (means m) { groups = []; imports = []; functions = []; tables = ss }) (none_seen own_table m.tables z.tables)
    ∙ ap (λ (ss : List (Option grammar.Memory)). record (means m) { groups = []; imports = []; functions = []; tables = []; memories = ss }) (none_seen own_memory m.memories z.memories)
    ∙ ap (λ (ss : List (Option grammar.Tag)). record (means m) { groups = []; imports = []; functions = []; tables = []; memories = []; tags = ss }) (none_seen own_tag m.tags z.tags)
    ∙ ap (λ (ss : List (Option grammar.Global)). record (means m) { groups = []; imports = []; functions = []; tables = []; memories = []; tags = []; globals = ss }) (none_seen own_global m.globals z.globals)
    ∙ ap (λ (ss : List (Option grammar.Export)). record grammar.empty { exports = ss; start = m.start; elements = slots_of own_element m.elements; segments = slots_of own_segment m.data_segments }) (none_seen own_export m.exports z.exports)
    ∙ ap (λ (s : Option ℕ). record grammar.empty { start = s; elements = slots_of own_element m.elements; segments = slots_of own_segment m.data_segments }) z.start
    ∙ ap (λ (ss : List (Option grammar.Element)). record grammar.empty { elements = ss; segments = slots_of own_segment m.data_segments }) (none_seen own_element m.elements z.elements)
    ∙ ap (λ (ss : List (Option grammar.Segment)). record grammar.empty { segments = ss }) (none_seen own_segment m.data_segments z.data_segments)
