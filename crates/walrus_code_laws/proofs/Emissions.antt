-- Lemmas: emission's numbers serve for code.
use Rattle.std.specs.Prelude.{ℕ, zero, suc, ◌+◌, ◌<◌, ◌≡◌, ◌==◌, Bool, true, false, is_some, List, [], ◌∷◌, length, map, fold, Option, Some, None, slice_get, slice_index, slice_index_or, if◌then◌else◌, refl}
use Rattle.std.specs.List.{AllByRecursion, AllZip, cons_option}
use Rattle.std.proofs.Common.{ap, sym, ◌∙◌, subst, arith, inl, inr}
use Rattle.std.proofs.lemmas.Bool.{eqb-true}
use Rattle.std.proofs.lemmas.List.Elements.{All-head, All-tail}
use Rattle.std.proofs.lemmas.Option.{none-some, same_Some}
use Rattle.wasm_operators.specs.Items as items
use Rattle.wasm_part.proofs.Picked.{all_at}
use Rattle.walrus_arena.specs.Arena.{Arena, entries, entries_from, item_at}
use Rattle.walrus_index_maps.specs.Maps.{Indices, Numbering, next_numbered, no_indices, numbered}
use Rattle.walrus_items.specs.declared.local.Local.{Local}
use Rattle.walrus_pairing.specs.Looks.{number_of}
use Rattle.walrus_module.specs.declared.module.Module.{Module}
use Rattle.walrus_module.specs.walrus_collections.LookUps.{items as items_in, local_entries}
use Rattle.walrus_builder.specs.Functions.{seqs_of}
use Rattle.walrus_tree.specs.Text.{operators}
use Rattle.walrus_tree.specs.Trees.{AreDistinct, Has}
use Rattle.walrus_body_names.specs.Names.{AreSet, local_in, text_names}
use Rattle.walrus_local_function.specs.declared.local_function.LocalFunction.{LocalFunction}
use Rattle.walrus_local_numbers.specs.Laws.{IsOnce}
use Rattle.walrus_module_items.specs.Functions.{local_of}
use Rattle.walrus_module_items.specs.declared.data.Data.{Data}
use Rattle.walrus_module_items.specs.declared.function.Function.{Function}
use Rattle.walrus_module_items.specs.declared.function.FunctionKind.{FunctionKind}
use Rattle.walrus_module_items.specs.declared.function.FunctionKind.TheVariants as functions
use Rattle.walrus_module_items.specs.declared.global.Global.{Global}
use Rattle.walrus_module_items.specs.declared.global.GlobalKind.{GlobalKind}
use Rattle.walrus_module_items.specs.declared.global.GlobalKind.TheVariants as globals
use Rattle.walrus_module_items.specs.declared.import.ImportKind.{ImportKind}
use Rattle.walrus_module_items.specs.declared.import.ImportKind.TheVariants as kinds
use Rattle.walrus_module_items.specs.declared.memory.Memory.{Memory}
use Rattle.walrus_module_items.specs.declared.table.Table.{Table}
use Rattle.walrus_module_items.specs.declared.tag.Tag.{Tag}
use Rattle.walrus_module_items.specs.declared.tag.TagKind.{TagKind}
use Rattle.walrus_module_items.specs.declared.tag.TagKind.TheVariants as tags
use Rattle.walrus_linked.specs.Linked.{IsWhole}
use Rattle.walrus_types.specs.Table.{Table as TypeTable}
use Rattle.walrus_emit_numbers.specs.declared.facts.BodyFacts.{BodyFacts}
use Rattle.walrus_emit_numbers.specs.Facts.{AreFacts}
use Rattle.walrus_emit_numbers.specs.Numbers.{brought, data_from, element_numbered, function_in_turn, functions_at, import_in_turn, memory_in_turn, numbers_of, own_global, own_memory, own_table, own_tag, table_in_turn, type_in_turn}
use Rattle.walrus_emit_numbers.specs.Order.{AreWithin}
use Rattle.walrus_emit_code.specs.Code.{facts_at}
use Rattle.walrus_due_laws.specs.Spelled.{Follows}
use Rattle.walrus_code_laws.specs.Code.{KnowsBody}
use Rattle.walrus_code_laws.specs.Emissions.{EmissionsServeCode, LinkedArgumentsAreOnce}
use Rattle.walrus_code_laws.specs.Spelled.{IsOneToOne, items_of}

-- ---- numbers in turn

-- no number is that of two ids, and the next one is new
record AreNew (m : Numbering) : Type 0 where
  below : (id n : ℕ) → m.number id ≡ Some n → n < m.given
  one : IsOneToOne m.number

next_below : (m : Numbering) (n : ℕ) (b : Bool) (o : Option ℕ) → ((n : ℕ) → o ≡ Some n → n < m.given) → (if b then Some m.given else o) ≡ Some n → n < m.given + 1
next_below m n true o h e = let same : m.given ≡ n = same_Some m.given n e in omega (arith, same)
next_below m n false o h e = let lt : n < m.given = h n e in omega (arith, lt)

next_one : (m : Numbering) (id a b n : ℕ) (c d : Bool) → (a == id) ≡ c → (b == id) ≡ d → AreNew m → (if c then Some m.given else m.number a) ≡ Some n → (if d then Some m.given else m.number b) ≡ Some n → a ≡ b
next_one m id a b n true true at bt h e f = eqb-true a id at ∙ sym (eqb-true b id bt)
next_one m id a b n true false at bt h e f = let same : m.given ≡ n = same_Some m.given n e in let lt : n < m.given = h.below b n f in absurd (omega (arith, same, lt))
next_one m id a b n false true at bt h e f = let same : m.given ≡ n = same_Some m.given n f in let lt : n < m.given = h.below a n e in absurd (omega (arith, same, lt))
next_one m id a b n false false at bt h e f = h.one a b n e f

next_new : (id : ℕ) (m : Numbering) → AreNew m → AreNew (next_numbered id m)
next_new id m h = record {
  below = λ other n e. next_below m n (other == id) (m.number other) (λ n e. h.below other n e) e;
  one = λ a b n e f. next_one m id a b n (a == id) (b == id) refl refl h e f;
}

turn_new : (id : ℕ) (m : Numbering) (b : Bool) → AreNew m → AreNew (if b then m else next_numbered id m)
turn_new id m true h = h
turn_new id m false h = next_new id m h

types_new : (types : List ℕ) (i : Indices) → AreNew i.types → AreNew (fold type_in_turn i types).types
types_new [] i h = h
types_new (id ∷ types) i h = types_new types (type_in_turn i id) (turn_new id i.types (is_some (i.types.number id)) h)

-- ---- what keeps the numbers of types and of locals

abbrev Keeps : Indices → Indices → Type 0
Keeps now old = (now.types ≡ old.types) × (now.locals ≡ old.locals)

keeps_all : {A : Type 0} (step : Indices → A → Indices) → ((i : Indices) (x : A) → Keeps (step i x) i) → (xs : List A) (i : Indices) → Keeps (fold step i xs) i
keeps_all step h [] i = (refl, refl)
keeps_all step h (x ∷ xs) i = let later = keeps_all step h xs (step i x) in let first = h i x in (later.0 ∙ first.0, later.1 ∙ first.1)

data_keeps : (next : ℕ) (ds : List Data) (i : Indices) → Keeps (data_from next i ds) i
data_keeps next [] i = (refl, refl)
data_keeps next (d ∷ ds) i = data_keeps (next + 1) ds (record i { segments = numbered d.id next i.segments })

brought_keeps : (i : Indices) (k : ImportKind) → Keeps (brought i k) i
brought_keeps i (kinds.Function id) = (refl, refl)
brought_keeps i (kinds.Table id) = (refl, refl)
brought_keeps i (kinds.Memory id) = (refl, refl)
brought_keeps i (kinds.Global id) = (refl, refl)
brought_keeps i (kinds.Tag id) = (refl, refl)

table_keeps : (i : Indices) (t : Table) (b : Bool) → Keeps (if b then i else table_in_turn i t.id) i
table_keeps i t true = (refl, refl)
table_keeps i t false = (refl, refl)

memory_keeps : (i : Indices) (x : Memory) (b : Bool) → Keeps (if b then i else memory_in_turn i x.id) i
memory_keeps i x true = (refl, refl)
memory_keeps i x false = (refl, refl)

tag_keeps : (i : Indices) (t : Tag) (k : TagKind) → Keeps (own_tag i (record t { kind = k })) i
tag_keeps i t (tags.Import import) = (refl, refl)
tag_keeps i t tags.Local = (refl, refl)

global_keeps : (i : Indices) (g : Global) (k : GlobalKind) → Keeps (own_global i (record g { kind = k })) i
global_keeps i g (globals.Import import) = (refl, refl)
global_keeps i g (globals.Local init) = (refl, refl)

module _ {B : Type 0} (input : Module B) (types ids : List ℕ) where
  abbrev by_types : Indices
  by_types = fold type_in_turn no_indices types

  abbrev by_imports : Indices
  by_imports = fold import_in_turn by_types (items_in input.imports)

  abbrev by_functions : Indices
  by_functions = fold function_in_turn by_imports ids

  abbrev by_tables : Indices
  by_tables = fold own_table by_functions (items_in input.tables)

  abbrev by_memories : Indices
  by_memories = fold own_memory by_tables (items_in input.memories)

  abbrev by_tags : Indices
  by_tags = fold own_tag by_memories (items_in input.tags)

  abbrev by_globals : Indices
  by_globals = fold own_global by_tags (items_in input.globals)

  abbrev by_elements : Indices
  by_elements = fold element_numbered by_globals (items_in input.elements)

  all_keep : Keeps (numbers_of input types ids) by_types
  all_keep =
      let segments = data_keeps 0 (items_in input.data_segments) by_elements in
      let elements = keeps_all element_numbered (λ i e. (refl, refl)) (items_in input.elements) by_globals in
      let globals = keeps_all own_global (λ i g. global_keeps i g g.kind) (items_in input.globals) by_tags in
      let tags = keeps_all own_tag (λ i t. tag_keeps i t t.kind) (items_in input.tags) by_memories in
      let memories = keeps_all own_memory (λ i x. memory_keeps i x (is_some x.import)) (items_in input.memories) by_tables in
      let tables = keeps_all own_table (λ i t. table_keeps i t (is_some t.import)) (items_in input.tables) by_functions in
      let functions = keeps_all function_in_turn (λ i id. (refl, refl)) ids by_imports in
      let imports = keeps_all import_in_turn (λ i x. brought_keeps i x.kind) (items_in input.imports) by_types in (
        segments.0 ∙ elements.0 ∙ globals.0 ∙ tags.0 ∙ memories.0 ∙ tables.0 ∙ functions.0 ∙ imports.0,
        segments.1 ∙ elements.1 ∙ globals.1 ∙ tags.1 ∙ memories.1 ∙ tables.1 ∙ functions.1 ∙ imports.1,
      )

  no_locals : (locals : ℕ → ℕ → Option ℕ) (now : List ℕ) (i : Indices) → i.locals ≡ locals → (fold type_in_turn i now).locals ≡ locals
  no_locals locals [] i e = e
  no_locals locals (id ∷ now) i e = no_locals locals now (type_in_turn i id) e

  types_one : IsOneToOne (numbers_of input types ids).types.number
  types_one =
      let new = types_new types no_indices (record { below = λ id n e. absurd (none-some n e); one = λ a b n e f. absurd (none-some n e) }) in
      subst (λ (m : Numbering). IsOneToOne m.number) (sym all_keep.0) new.one

  no_number : (f id : ℕ) → (numbers_of input types ids).locals f id ≡ None
  no_number f id = ap (λ (locals : ℕ → ℕ → Option ℕ). locals f id) (all_keep.1 ∙ no_locals no_indices.locals types no_indices refl)

-- ---- facts

module _ (funcs : Arena Function) where
  -- the entry is that of a function with a body
  abbrev IsThere : ℕ × LocalFunction → Type 0
  IsThere e = (f : Function) × (item_at funcs e.0 ≡ Some f) × (local_of f.kind ≡ Some e.1)

  entry_there : (k : ℕ) (f : Function) (kind : FunctionKind) (es : List (ℕ × Function)) → ((local : LocalFunction) → local_of kind ≡ Some local → IsThere (k, local))
      → AllByRecursion IsThere (local_entries es) → AllByRecursion IsThere (local_entries ((k, record f { kind = kind }) ∷ es))
  entry_there k f (functions.Import imported) es h rest = rest
  entry_there k f (functions.Local local) es h rest = (h local refl, rest)
  entry_there k f (functions.Uninitialized ty) es h rest = rest

  entries_there : (k : ℕ) (slots : List (Option Function)) → ((i : ℕ) → item_at funcs (k + i) ≡ slice_index_or slots i None) → AllByRecursion IsThere (local_entries (entries_from k slots))
  entries_there k [] h = tt
  entries_there k (None ∷ slots) h = entries_there (k + 1) slots (λ i. let next : k + 1 + i ≡ k + suc i = omega arith in ap (λ (n : ℕ). item_at funcs n) next ∙ h (suc i))
  entries_there k (Some f ∷ slots) h =
      let here : k ≡ k + 0 = omega arith in
      entry_there k f f.kind (entries_from (k + 1) slots) (λ local is. (f, ap (λ (n : ℕ). item_at funcs n) here ∙ h 0, is))
      (entries_there (k + 1) slots (λ i. let next : k + 1 + i ≡ k + suc i = omega arith in ap (λ (n : ℕ). item_at funcs n) next ∙ h (suc i)))

  all_there : AllByRecursion IsThere (local_entries (entries funcs))
  all_there = entries_there 0 funcs.slots (λ i. let same : 0 + i ≡ i = omega arith in ap (λ (n : ℕ). item_at funcs n) same)

  module _ (locals : List Local) (once : (id : ℕ) (f : Function) (local : LocalFunction) → item_at funcs id ≡ Some f → local_of f.kind ≡ Some local → IsOnce local.args.items) where
    knows_one : (e : ℕ × LocalFunction) (facts : BodyFacts) → IsThere e → AreFacts e facts → KnowsBody locals funcs facts
    knows_one e facts there are f local is has =
        let one : there.0 ≡ f = same_Some there.0 f (sym there.1 ∙ ap (λ (n : ℕ). item_at funcs n) (sym are.function) ∙ is) in
        let body : e.1 ≡ local = same_Some e.1 local (sym there.2 ∙ ap (λ (f : Function). local_of f.kind) one ∙ has) in
        let set = subst (λ (l : LocalFunction). AreSet (text_names local_in (operators (seqs_of l.builder) 0)) facts.used_locals.items) body are.locals in
        record { names = set.members; once = once facts.function f local is has }

    knows_all : (es : List (ℕ × LocalFunction)) (facts : List BodyFacts) → AllByRecursion IsThere es → AllZip AreFacts es facts → AllByRecursion (KnowsBody locals funcs) facts
    knows_all [] [] there are = tt
    knows_all [] (f ∷ facts) there are = absurd are
    knows_all (e ∷ es) [] there are = absurd are
    knows_all (e ∷ es) (f ∷ facts) there are = (knows_one e f there.0 are.0, knows_all es facts there.1 are.1)

-- ---- arguments of linked modules

has_at : (ids : List ℕ) (i id : ℕ) → slice_get ids i ≡ Some id → Has ids id
has_at [] i id e = absurd (none-some id e)
has_at (k ∷ ids) zero id e = inl (same_Some k id e)
has_at (k ∷ ids) (suc i) id e = inr (has_at ids i id e)

distinct_once : (ids : List ℕ) → AreDistinct ids → IsOnce ids
distinct_once [] h i j id e f = absurd (none-some id e)
distinct_once (k ∷ ids) h zero zero id e f = refl
distinct_once (k ∷ ids) h zero (suc j) id e f = absurd (h.0 (has_at ids j k (f ∙ sym e)))
distinct_once (k ∷ ids) h (suc i) zero id e f = absurd (h.0 (has_at ids i k (e ∙ sym f)))
distinct_once (k ∷ ids) h (suc i) (suc j) id e f = ap (λ (n : ℕ). suc n) (distinct_once ids h.1 i j id e f)

whole_once : (types : TypeTable) (kind : FunctionKind) (local : LocalFunction) → IsWhole types kind → local_of kind ≡ Some local → IsOnce local.args.items
whole_once types (functions.Import imported) local h e = absurd (none-some local e)
whole_once types (functions.Local x) local h e = subst (λ (l : LocalFunction). IsOnce l.args.items) (same_Some x local e) (distinct_once x.args.items h.0.distinct)
whole_once types (functions.Uninitialized ty) local h e = absurd (none-some local e)

pub arguments_once : LinkedArgumentsAreOnce
arguments_once m linked id f local is has = whole_once m.types f.kind local (linked.whole id f is) has

-- ---- facts in their order

-- those at some positions
known_at : (P : BodyFacts → Type 0) (facts : List BodyFacts) → AllByRecursion P facts → (order : List ℕ) → AllByRecursion P (facts_at facts order)
known_at P facts h [] = tt
known_at P facts h (at ∷ order) = go (slice_get facts at) refl (known_at P facts h order)
  where
    go : (o : Option BodyFacts) → slice_get facts at ≡ o → AllByRecursion P (facts_at facts order) → AllByRecursion P (cons_option o (facts_at facts order))
    go None is rest = rest
    go (Some f) is rest = (all_at P facts h at f is, rest)

fact_at : (facts : List BodyFacts) (at : ℕ) → at < length facts → (f : BodyFacts) × (slice_get facts at ≡ Some f) × (slice_index (map (λ (f : BodyFacts). f.function) facts) at ≡ f.function)
fact_at [] at lt = absurd (omega (arith, lt))
fact_at (f ∷ facts) zero lt = (f, refl, refl)
fact_at (f ∷ facts) (suc at) lt = fact_at facts at (omega (arith, lt))

in_order : (facts : List BodyFacts) (order : List ℕ) → AreWithin facts order → map (λ (f : BodyFacts). f.function) (facts_at facts order) ≡ functions_at facts order
in_order facts [] h = refl
in_order facts (at ∷ order) h =
    let one = fact_at facts at (All-head (λ (at : ℕ). at < length facts) at order h) in
    let rest = in_order facts order (All-tail (λ (at : ℕ). at < length facts) at order h) in
    ap (λ (o : Option BodyFacts). map (λ (f : BodyFacts). f.function) (cons_option o (facts_at facts order))) one.1 ∙ ap (λ (l : List ℕ). one.0.function ∷ l) rest
    ∙ ap (λ (n : ℕ). n ∷ functions_at facts order) (sym one.2)

-- ---- items follow

items_follow : (r : items.Space → ℕ → ℕ) (i : Indices) → Follows r (number_of i 0) → Follows r (items_of i)
items_follow r i h items.Types id n e = h items.Types id n e
items_follow r i h items.Functions id n e = h items.Functions id n e
items_follow r i h items.Tables id n e = h items.Tables id n e
items_follow r i h items.Memories id n e = h items.Memories id n e
items_follow r i h items.Tags id n e = h items.Tags id n e
items_follow r i h items.Globals id n e = h items.Globals id n e
items_follow r i h items.ElementSegments id n e = h items.ElementSegments id n e
items_follow r i h items.DataSegments id n e = h items.DataSegments id n e
items_follow r i h items.Locals id n e = absurd (none-some n e)
items_follow r i h items.Labels id n e = absurd (none-some n e)

pub emissions_serve : (B : Type 0) → EmissionsServeCode B
emissions_serve B input facts order types p by known within once =
    let ids = functions_at facts order in
    let i = numbers_of input types ids in
    record {
      items = by.serves;
      bodies = record { follows = items_follow p.renames i by.serves.follows; types = types_one input types ids; locals = by.locals; labels = by.labels };
      places = λ function f local is has id n e. absurd (none-some n (sym (no_number input types ids function id) ∙ e));
      known = known_at (KnowsBody input.locals input.funcs) facts (knows_all input.funcs input.locals once (local_entries (entries input.funcs)) facts (all_there input.funcs) known) order;
      order = in_order facts order within ∙ sym by.own;
    }
