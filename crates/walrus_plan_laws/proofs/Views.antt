-- Lemmas: of each space the numbers that emission gives are those of its ids in turn.
use Rattle.std.specs.Prelude.{ℕ, ◌+◌, ◌≡◌, List, [], ◌∷◌, ◌++◌, length, map, fold, Some, None, refl, if◌then◌else◌}
use Rattle.std.proofs.Common.{ap, sym, ◌∙◌, subst, arith, append_assoc, append-nil}
use Rattle.std.proofs.lemmas.List.{length_push}
use Rattle.std.proofs.lemmas.List.Sums.{fold-append}
use Rattle.walrus_index_maps.specs.Maps.{Indices, Numbering, no_indices, unnumbered, numbered}
use Rattle.walrus_module_items.specs.declared.data.Data.{Data}
use Rattle.walrus_module_items.specs.declared.import.Import.{Import}
use Rattle.walrus_module_items.specs.declared.import.ImportKind.{ImportKind}
use Rattle.walrus_module_items.specs.declared.import.ImportKind.TheVariants as kinds
use Rattle.walrus_item_meaning.specs.Meaning.{own_brought, own_import}
use Rattle.wasm_operators.specs.Items.{Space, Types, Functions, Tables, Memories, Tags, Globals, ElementSegments, DataSegments, Locals, Labels}
use Rattle.wasm_part.specs.Order.{brought_to, is_to}
use Rattle.walrus_emit_numbers.specs.Numbers.{brought, data_from, element_in_turn, function_in_turn, global_in_turn, import_in_turn, memory_in_turn, table_in_turn, tag_in_turn, type_in_turn}
use Rattle.walrus_plan_laws.proofs.Lists.{Apart, apart_middle}
use Rattle.walrus_plan_laws.proofs.Slots.{given_if}
use Rattle.walrus_plan_laws.proofs.Turns.{AreNumbers, no_numbers, one_more, turn}

-- the numbers of a space
abbrev pub view : Space → Indices → Numbering
view Types i = i.types
view Functions i = i.functions
view Tables i = i.tables
view Memories i = i.memories
view Tags i = i.tags
view Globals i = i.globals
view ElementSegments i = i.elements
view DataSegments i = i.segments
view Locals i = unnumbered
view Labels i = unnumbered

-- ---- a fold, seen in part

module _ {A V : Type 0} (see : Indices → V) (step : Indices → A → Indices) where
  pub seen_fold : (turn : V → A → V) → ((i : Indices) (x : A) → see (step i x) ≡ turn (see i) x) → (i : Indices) (xs : List A) → see (fold step i xs) ≡ fold turn (see i) xs
  seen_fold turn h i [] = refl
  seen_fold turn h i (x ∷ xs) = seen_fold turn h (step i x) xs ∙ ap (λ (v : V). fold turn v xs) (h i x)

  pub stays : ((i : Indices) (x : A) → see (step i x) ≡ see i) → (i : Indices) (xs : List A) → see (fold step i xs) ≡ see i
  stays h i [] = refl
  stays h i (x ∷ xs) = stays h (step i x) xs ∙ h i x

module _ {V : Type 0} (see : Indices → V) where
  pub data_stay : ((i : Indices) (n : Numbering) → see (record i { segments = n }) ≡ see i) → (next : ℕ) (i : Indices) (ds : List Data) → see (data_from next i ds) ≡ see i
  data_stay h next i [] = refl
  data_stay h next i (d ∷ ds) = data_stay h (next + 1) (record i { segments = numbered d.id next i.segments }) ds ∙ h i (numbered d.id next i.segments)

-- data segments have their numbers in turn
data_on : (done : List ℕ) (next : ℕ) (i : Indices) (ds : List Data) → next ≡ length done → Apart (done ++ map (λ (d : Data). d.id) ds) → AreNumbers done i.segments.number
    → AreNumbers (done ++ map (λ (d : Data). d.id) ds) (data_from next i ds).segments.number
data_on done next i [] long apart h = subst (λ (l : List ℕ). AreNumbers l i.segments.number) (sym (append-nil done)) h
data_on done next i (d ∷ ds) long apart h =
    let ids = map (λ (d : Data). d.id) ds in
    let same : (done ++ d.id ∷ []) ++ ids ≡ done ++ d.id ∷ ids = append_assoc done (d.id ∷ []) ids in
    let more = length_push done d.id in
    let later = record i { segments = numbered d.id next i.segments } in
    subst (λ (l : List ℕ). AreNumbers l (data_from (next + 1) later ds).segments.number) same
    (data_on (done ++ d.id ∷ []) (next + 1) later ds (omega (arith, long, more)) (subst Apart (sym same) apart) (one_more done i.segments.number d.id next long (apart_middle done d.id ids apart) h))

pub data_numbers : (i : Indices) (ds : List Data) → i.segments ≡ unnumbered → Apart (map (λ (d : Data). d.id) ds) → AreNumbers (map (λ (d : Data). d.id) ds) (data_from 0 i ds).segments.number
data_numbers i ds none apart = data_on [] 0 i ds refl apart (subst (λ (n : Numbering). AreNumbers [] n.number) (sym none) no_numbers)

-- ---- what imports bring

kind_seen : (space : Space) (i : Indices) (k : ImportKind) → view space (brought i k) ≡ given_if turn (if is_to space (own_brought k).space then Some (own_brought k).number else None) (view space i)
kind_seen Types i (kinds.Function id) = refl
kind_seen Types i (kinds.Table id) = refl
kind_seen Types i (kinds.Memory id) = refl
kind_seen Types i (kinds.Global id) = refl
kind_seen Types i (kinds.Tag id) = refl
kind_seen Functions i (kinds.Function id) = refl
kind_seen Functions i (kinds.Table id) = refl
kind_seen Functions i (kinds.Memory id) = refl
kind_seen Functions i (kinds.Global id) = refl
kind_seen Functions i (kinds.Tag id) = refl
kind_seen Tables i (kinds.Function id) = refl
kind_seen Tables i (kinds.Table id) = refl
kind_seen Tables i (kinds.Memory id) = refl
kind_seen Tables i (kinds.Global id) = refl
kind_seen Tables i (kinds.Tag id) = refl
kind_seen Memories i (kinds.Function id) = refl
kind_seen Memories i (kinds.Table id) = refl
kind_seen Memories i (kinds.Memory id) = refl
kind_seen Memories i (kinds.Global id) = refl
kind_seen Memories i (kinds.Tag id) = refl
kind_seen Tags i (kinds.Function id) = refl
kind_seen Tags i (kinds.Table id) = refl
kind_seen Tags i (kinds.Memory id) = refl
kind_seen Tags i (kinds.Global id) = refl
kind_seen Tags i (kinds.Tag id) = refl
kind_seen Globals i (kinds.Function id) = refl
kind_seen Globals i (kinds.Table id) = refl
kind_seen Globals i (kinds.Memory id) = refl
kind_seen Globals i (kinds.Global id) = refl
kind_seen Globals i (kinds.Tag id) = refl
kind_seen ElementSegments i (kinds.Function id) = refl
kind_seen ElementSegments i (kinds.Table id) = refl
kind_seen ElementSegments i (kinds.Memory id) = refl
kind_seen ElementSegments i (kinds.Global id) = refl
kind_seen ElementSegments i (kinds.Tag id) = refl
kind_seen DataSegments i (kinds.Function id) = refl
kind_seen DataSegments i (kinds.Table id) = refl
kind_seen DataSegments i (kinds.Memory id) = refl
kind_seen DataSegments i (kinds.Global id) = refl
kind_seen DataSegments i (kinds.Tag id) = refl
kind_seen Locals i (kinds.Function id) = refl
kind_seen Locals i (kinds.Table id) = refl
kind_seen Locals i (kinds.Memory id) = refl
kind_seen Locals i (kinds.Global id) = refl
kind_seen Locals i (kinds.Tag id) = refl
kind_seen Labels i (kinds.Function id) = refl
kind_seen Labels i (kinds.Table id) = refl
kind_seen Labels i (kinds.Memory id) = refl
kind_seen Labels i (kinds.Global id) = refl
kind_seen Labels i (kinds.Tag id) = refl

pub import_seen : (space : Space) (i : Indices) (x : Import) → view space (import_in_turn i x) ≡ given_if turn (brought_to space (Some (own_import x))) (view space i)
import_seen space i x = kind_seen space i x.kind

no_local : (i : Indices) (k : ImportKind) → (brought i k).locals ≡ i.locals
no_local i (kinds.Function id) = refl
no_local i (kinds.Table id) = refl
no_local i (kinds.Memory id) = refl
no_local i (kinds.Global id) = refl
no_local i (kinds.Tag id) = refl

-- ---- all of them

module _ (types functions tables memories tags globals elements : List ℕ) (imports : List Import) (segments : List Data) where
  abbrev by_imports : Indices
  by_imports = fold import_in_turn (fold type_in_turn no_indices types) imports

  abbrev by_tables : Indices
  by_tables = fold table_in_turn (fold function_in_turn by_imports functions) tables

  abbrev by_elements : Indices
  by_elements = fold element_in_turn (fold global_in_turn (fold tag_in_turn (fold memory_in_turn by_tables memories) tags) globals) elements

  -- ids one by one
  abbrev pub given_numbers : Indices
  given_numbers = data_from 0 by_elements segments

  module _ (brings : Space → List ℕ) (bring : (space : Space) (i : Indices) → view space (fold import_in_turn i imports) ≡ fold turn (view space i) (brings space)) where
    pub types_seen : view Types given_numbers ≡ fold turn unnumbered (types ++ brings Types)
    types_seen =
        data_stay (view Types) (λ i n. refl) 0 by_elements segments
        ∙ stays (view Types) element_in_turn (λ i x. refl) (fold global_in_turn (fold tag_in_turn (fold memory_in_turn by_tables memories) tags) globals) elements
        ∙ stays (view Types) global_in_turn (λ i x. refl) (fold tag_in_turn (fold memory_in_turn by_tables memories) tags) globals
        ∙ stays (view Types) tag_in_turn (λ i x. refl) (fold memory_in_turn by_tables memories) tags
        ∙ stays (view Types) memory_in_turn (λ i x. refl) by_tables memories
        ∙ stays (view Types) table_in_turn (λ i x. refl) (fold function_in_turn by_imports functions) tables
        ∙ stays (view Types) function_in_turn (λ i x. refl) by_imports functions
        ∙ bring Types (fold type_in_turn no_indices types)
        ∙ ap (λ (v : Numbering). fold turn v (brings Types)) (seen_fold (view Types) type_in_turn turn (λ i x. refl) no_indices types)
        ∙ sym (fold-append turn unnumbered types (brings Types))

    pub functions_seen : view Functions given_numbers ≡ fold turn unnumbered (brings Functions ++ functions)
    functions_seen =
        data_stay (view Functions) (λ i n. refl) 0 by_elements segments
        ∙ stays (view Functions) element_in_turn (λ i x. refl) (fold global_in_turn (fold tag_in_turn (fold memory_in_turn by_tables memories) tags) globals) elements
        ∙ stays (view Functions) global_in_turn (λ i x. refl) (fold tag_in_turn (fold memory_in_turn by_tables memories) tags) globals
        ∙ stays (view Functions) tag_in_turn (λ i x. refl) (fold memory_in_turn by_tables memories) tags
        ∙ stays (view Functions) memory_in_turn (λ i x. refl) by_tables memories
        ∙ stays (view Functions) table_in_turn (λ i x. refl) (fold function_in_turn by_imports functions) tables
        ∙ seen_fold (view Functions) function_in_turn turn (λ i x. refl) by_imports functions
        ∙ ap (λ (v : Numbering). fold turn v functions) (bring Functions (fold type_in_turn no_indices types))
        ∙ ap (λ (v : Numbering). fold turn (fold turn v (brings Functions)) functions) (stays (view Functions) type_in_turn (λ i x. refl) no_indices types)
        ∙ sym (fold-append turn unnumbered (brings Functions) functions)

    pub tables_seen : view Tables given_numbers ≡ fold turn unnumbered (brings Tables ++ tables)
    tables_seen =
        data_stay (view Tables) (λ i n. refl) 0 by_elements segments
        ∙ stays (view Tables) element_in_turn (λ i x. refl) (fold global_in_turn (fold tag_in_turn (fold memory_in_turn by_tables memories) tags) globals) elements
        ∙ stays (view Tables) global_in_turn (λ i x. refl) (fold tag_in_turn (fold memory_in_turn by_tables memories) tags) globals
        ∙ stays (view Tables) tag_in_turn (λ i x. refl) (fold memory_in_turn by_tables memories) tags
        ∙ stays (view Tables) memory_in_turn (λ i x. refl) by_tables memories
        ∙ seen_fold (view Tables) table_in_turn turn (λ i x. refl) (fold function_in_turn by_imports functions) tables
        ∙ ap (λ (v : Numbering). fold turn v tables) (stays (view Tables) function_in_turn (λ i x. refl) by_imports functions)
        ∙ ap (λ (v : Numbering). fold turn v tables) (bring Tables (fold type_in_turn no_indices types))
        ∙ ap (λ (v : Numbering). fold turn (fold turn v (brings Tables)) tables) (stays (view Tables) type_in_turn (λ i x. refl) no_indices types)
        ∙ sym (fold-append turn unnumbered (brings Tables) tables)

    pub memories_seen : view Memories given_numbers ≡ fold turn unnumbered (brings Memories ++ memories)
    memories_seen =
        data_stay (view Memories) (λ i n. refl) 0 by_elements segments
        ∙ stays (view Memories) element_in_turn (λ i x. refl) (fold global_in_turn (fold tag_in_turn (fold memory_in_turn by_tables memories) tags) globals) elements
        ∙ stays (view Memories) global_in_turn (λ i x. refl) (fold tag_in_turn (fold memory_in_turn by_tables memories) tags) globals
        ∙ stays (view Memories) tag_in_turn (λ i x. refl) (fold memory_in_turn by_tables memories) tags
        ∙ seen_fold (view Memories) memory_in_turn turn (λ i x. refl) by_tables memories
        ∙ ap (λ (v : Numbering). fold turn v memories) (stays (view Memories) table_in_turn (λ i x. refl) (fold function_in_turn by_imports functions) tables)
        ∙ ap (λ (v : Numbering). fold turn v memories) (stays (view Memories) function_in_turn (λ i x. refl) by_imports functions)
        ∙ ap (λ (v : Numbering). fold turn v memories) (bring Memories (fold type_in_turn no_indices types))
        ∙ ap (λ (v : Numbering). fold turn (fold turn v (brings Memories)) memories) (stays (view Memories) type_in_turn (λ i x. refl) no_indices types)
        ∙ sym (fold-append turn unnumbered (brings Memories) memories)

    pub tags_seen : view Tags given_numbers ≡ fold turn unnumbered (brings Tags ++ tags)
    tags_seen =
        data_stay (view Tags) (λ i n. refl) 0 by_elements segments
        ∙ stays (view Tags) element_in_turn (λ i x. refl) (fold global_in_turn (fold tag_in_turn (fold memory_in_turn by_tables memories) tags) globals) elements
        ∙ stays (view Tags) global_in_turn (λ i x. refl) (fold tag_in_turn (fold memory_in_turn by_tables memories) tags) globals
        ∙ seen_fold (view Tags) tag_in_turn turn (λ i x. refl) (fold memory_in_turn by_tables memories) tags
        ∙ ap (λ (v : Numbering). fold turn v tags) (stays (view Tags) memory_in_turn (λ i x. refl) by_tables memories)
        ∙ ap (λ (v : Numbering). fold turn v tags) (stays (view Tags) table_in_turn (λ i x. refl) (fold function_in_turn by_imports functions) tables)
        ∙ ap (λ (v : Numbering). fold turn v tags) (stays (view Tags) function_in_turn (λ i x. refl) by_imports functions)
        ∙ ap (λ (v : Numbering). fold turn v tags) (bring Tags (fold type_in_turn no_indices types))
        ∙ ap (λ (v : Numbering). fold turn (fold turn v (brings Tags)) tags) (stays (view Tags) type_in_turn (λ i x. refl) no_indices types)
        ∙ sym (fold-append turn unnumbered (brings Tags) tags)

    pub globals_seen : view Globals given_numbers ≡ fold turn unnumbered (brings Globals ++ globals)
    globals_seen =
        data_stay (view Globals) (λ i n. refl) 0 by_elements segments
        ∙ stays (view Globals) element_in_turn (λ i x. refl) (fold global_in_turn (fold tag_in_turn (fold memory_in_turn by_tables memories) tags) globals) elements
        ∙ seen_fold (view Globals) global_in_turn turn (λ i x. refl) (fold tag_in_turn (fold memory_in_turn by_tables memories) tags) globals
        ∙ ap (λ (v : Numbering). fold turn v globals) (stays (view Globals) tag_in_turn (λ i x. refl) (fold memory_in_turn by_tables memories) tags)
        ∙ ap (λ (v : Numbering). fold turn v globals) (stays (view Globals) memory_in_turn (λ i x. refl) by_tables memories)
        ∙ ap (λ (v : Numbering). fold turn v globals) (stays (view Globals) table_in_turn (λ i x. refl) (fold function_in_turn by_imports functions) tables)
        ∙ ap (λ (v : Numbering). fold turn v globals) (stays (view Globals) function_in_turn (λ i x. refl) by_imports functions)
        ∙ ap (λ (v : Numbering). fold turn v globals) (bring Globals (fold type_in_turn no_indices types))
        ∙ ap (λ (v : Numbering). fold turn (fold turn v (brings Globals)) globals) (stays (view Globals) type_in_turn (λ i x. refl) no_indices types)
        ∙ sym (fold-append turn unnumbered (brings Globals) globals)

    pub elements_seen : view ElementSegments given_numbers ≡ fold turn unnumbered (brings ElementSegments ++ elements)
    elements_seen =
        data_stay (view ElementSegments) (λ i n. refl) 0 by_elements segments
        ∙ seen_fold (view ElementSegments) element_in_turn turn (λ i x. refl) (fold global_in_turn (fold tag_in_turn (fold memory_in_turn by_tables memories) tags) globals) elements
        ∙ ap (λ (v : Numbering). fold turn v elements) (stays (view ElementSegments) global_in_turn (λ i x. refl) (fold tag_in_turn (fold memory_in_turn by_tables memories) tags) globals)
        ∙ ap (λ (v : Numbering). fold turn v elements) (stays (view ElementSegments) tag_in_turn (λ i x. refl) (fold memory_in_turn by_tables memories) tags)
        ∙ ap (λ (v : Numbering). fold turn v elements) (stays (view ElementSegments) memory_in_turn (λ i x. refl) by_tables memories)
        ∙ ap (λ (v : Numbering). fold turn v elements) (stays (view ElementSegments) table_in_turn (λ i x. refl) (fold function_in_turn by_imports functions) tables)
        ∙ ap (λ (v : Numbering). fold turn v elements) (stays (view ElementSegments) function_in_turn (λ i x. refl) by_imports functions)
        ∙ ap (λ (v : Numbering). fold turn v elements) (bring ElementSegments (fold type_in_turn no_indices types))
        ∙ ap (λ (v : Numbering). fold turn (fold turn v (brings ElementSegments)) elements) (stays (view ElementSegments) type_in_turn (λ i x. refl) no_indices types)
        ∙ sym (fold-append turn unnumbered (brings ElementSegments) elements)

    none_before : brings DataSegments ≡ [] → by_elements.segments ≡ unnumbered
    none_before none =
        stays (view DataSegments) element_in_turn (λ i x. refl) (fold global_in_turn (fold tag_in_turn (fold memory_in_turn by_tables memories) tags) globals) elements
        ∙ stays (view DataSegments) global_in_turn (λ i x. refl) (fold tag_in_turn (fold memory_in_turn by_tables memories) tags) globals
        ∙ stays (view DataSegments) tag_in_turn (λ i x. refl) (fold memory_in_turn by_tables memories) tags
        ∙ stays (view DataSegments) memory_in_turn (λ i x. refl) by_tables memories
        ∙ stays (view DataSegments) table_in_turn (λ i x. refl) (fold function_in_turn by_imports functions) tables
        ∙ stays (view DataSegments) function_in_turn (λ i x. refl) by_imports functions
        ∙ bring DataSegments (fold type_in_turn no_indices types)
        ∙ ap (λ (l : List ℕ). fold turn (view DataSegments (fold type_in_turn no_indices types)) l) none
        ∙ stays (view DataSegments) type_in_turn (λ i x. refl) no_indices types

    pub segments_seen : brings DataSegments ≡ [] → Apart (map (λ (d : Data). d.id) segments) → AreNumbers (map (λ (d : Data). d.id) segments) given_numbers.segments.number
    segments_seen none apart = data_numbers by_elements segments (none_before none) apart

  pub no_locals : given_numbers.locals ≡ no_indices.locals
  no_locals =
      data_stay (λ (i : Indices). i.locals) (λ i n. refl) 0 by_elements segments
      ∙ stays (λ (i : Indices). i.locals) element_in_turn (λ i x. refl) (fold global_in_turn (fold tag_in_turn (fold memory_in_turn by_tables memories) tags) globals) elements
      ∙ stays (λ (i : Indices). i.locals) global_in_turn (λ i x. refl) (fold tag_in_turn (fold memory_in_turn by_tables memories) tags) globals
      ∙ stays (λ (i : Indices). i.locals) tag_in_turn (λ i x. refl) (fold memory_in_turn by_tables memories) tags
      ∙ stays (λ (i : Indices). i.locals) memory_in_turn (λ i x. refl) by_tables memories
      ∙ stays (λ (i : Indices). i.locals) table_in_turn (λ i x. refl) (fold function_in_turn by_imports functions) tables
      ∙ stays (λ (i : Indices). i.locals) function_in_turn (λ i x. refl) by_imports functions
      ∙ stays (λ (i : Indices). i.locals) import_in_turn (λ i x. no_local i x.kind) (fold type_in_turn no_indices types) imports
      ∙ stays (λ (i : Indices). i.locals) type_in_turn (λ i x. refl) no_indices types
