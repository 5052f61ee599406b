-- The entries of a section meet their rules exactly if each does at the state before the section, and there is room for all: of the sections
-- whose entries don't look at one another.
use Rattle.std.specs.Prelude.{ℕ, suc, ◌+◌, ◌<◌, ◌≤◌, ◌≡◌, ◌⊎◌, Bool, true, false, List, [], ◌∷◌, ◌++◌, length, Option, Some, None, refl}
use Rattle.std.proofs.Common.{arith, inl, inr}
use Rattle.std.proofs.lemmas.Bool.{lt-ltb, ltb-true}
use Rattle.std.proofs.lemmas.List.{length-append}
use Rattle.wasm_features.specs.declared.WasmFeatures.{WasmFeatures}
use Rattle.wasm_formats.specs.declared.fault.Space.{Space}
use Rattle.wasm_formats.specs.declared.fault.Space.TheVariants as spaces
use Rattle.wasm_formats.specs.Stops.{Trouble}
use Rattle.wasm_formats.specs.Formats.{Format}
use Rattle.wasm_formats.specs.Bytes.{either_type}
use Rattle.wasm_formats.specs.Joined.{after}
use Rattle.wasm_formats.specs.Lists.{EntryRules}
use Rattle.wasm_formats.specs.Led.{led}
use Rattle.wasm_modules.specs.wasm_body_grammar.wasm_grammar.Modules.{Own}
use Rattle.wasm_modules.specs.wasm_body_grammar.wasm_grammar.Values.{must, first_of, memory_limits}
use Rattle.wasm_modules.specs.wasm_body_grammar.wasm_grammar.States.{State, count_of, most, has_room, room_test, function_type}
use Rattle.wasm_modules.specs.wasm_sections.Entities.{no_body, function_entry, add_function, TableEntry, table_type, initialised, table_of, table_apart, table_some, table_wants, table_entry, add_table, memory_of, memory_entry, add_memory, tag_type, tag_entry, add_tag}
use Rattle.wasm_modules.specs.wasm_sections.Segments.{ElementEntry, element_flags, element_form, element_entry, add_element, element_of, DataEntry, data_flags, data_form, data_entry, add_data, segment_of}

abbrev pub AllRuled : {A : Type 0} → (A → Type 0) → List A → Type 0
AllRuled Rule [] = Unit {0}
AllRuled Rule (x ∷ xs) = Rule x × AllRuled Rule xs

-- so many more items of a space, if there are any, are within its limit
abbrev pub RoomFor : State → Space → ℕ → Type 0
RoomFor s space n = (n ≡ 0) ⊎ (count_of s.filled space + n ≤ most space)

-- entries that add items of this space meet their rules exactly if each meets these at the state before them, and there is room
abbrev pub AreRuledBy : {A : Type 0} → (State → A → State) → (State → Format A) → Space → (State → A → Type 0) → Type 0
AreRuledBy {A} add entry space Rule = (s : State) (xs : List A) →
    (EntryRules add entry s xs → AllRuled (Rule s) xs × RoomFor s space (length xs)) × (AllRuled (Rule s) xs → RoomFor s space (length xs) → EntryRules add entry s xs)

pub record SectionsAreRuled : Type 0 where
  pub functions : AreRuledBy add_function function_entry spaces.Function (λ s. (function_type s).rules)
  pub tables : (features : WasmFeatures) → AreRuledBy add_table (table_entry features) spaces.Table
      (λ s. (led 0x40 (initialised features s) (table_type features s) (table_apart features s) (table_some features s) (table_wants features s)).rules)
  pub memories : AreRuledBy add_memory memory_entry spaces.Memory (λ s. (memory_limits None).rules)
  pub tags : AreRuledBy add_tag tag_entry spaces.Tag (λ s. (tag_type s).rules)
  pub elements : (features : WasmFeatures) → AreRuledBy add_element (element_entry features) spaces.Element (λ s. (after (element_flags s) (λ flags. element_form features s flags)).rules)
  pub segments : (features : WasmFeatures) → AreRuledBy add_data (data_entry features) spaces.Data (λ s. (after (data_flags s) (λ flags. data_form features s flags)).rules)

-- ---- proofs

-- what an entry adds, and what its rules say
record Adds {A : Type 0} (add : State → A → State) (entry : State → Format A) (space : Space) (Rule : State → A → Type 0) : Type 0 where
  counts : (s : State) (x : A) → count_of (add s x).filled space ≡ count_of s.filled space + 1
  forth : (s : State) (x y : A) → Rule (add s x) y → Rule s y
  back : (s : State) (x y : A) → Rule s y → Rule (add s x) y
  says : (s : State) (x : A) → (entry s).rules x → (count_of s.filled space < most space) × Rule s x
  asks : (s : State) (x : A) → count_of s.filled space < most space → Rule s x → (entry s).rules x

all_turned : {A : Type 0} (P Q : A → Type 0) → ((x : A) → P x → Q x) → (xs : List A) → AllRuled P xs → AllRuled Q xs
all_turned P Q f [] h = tt
all_turned P Q f (x ∷ xs) h = (f x h.0, all_turned P Q f xs h.1)

module _ {A : Type 0} (add : State → A → State) (entry : State → Format A) (space : Space) (Rule : State → A → Type 0) (a : Adds add entry space Rule) where
  room_said : (s : State) (n : ℕ) → count_of s.filled space < most space → (m : ℕ) → m ≡ count_of s.filled space + 1 → (n ≡ 0) ⊎ (m + n ≤ most space) → count_of s.filled space + suc n ≤ most space
  room_said s n lt m e (inl none) = omega (arith, lt, none)
  room_said s n lt m e (inr le) = omega (arith, e, le)

  rules_say : (s : State) (xs : List A) → EntryRules add entry s xs → AllRuled (Rule s) xs × RoomFor s space (length xs)
  rules_say s [] h = (tt, inl refl)
  rules_say s (x ∷ xs) h =
      let one = a.says s x h.0 in
      let rest = rules_say (add s x) xs h.1 in
      ((one.1, all_turned (Rule (add s x)) (Rule s) (λ y r. a.forth s x y r) xs rest.0), inr (room_said s (length xs) one.0 (count_of (add s x).filled space) (a.counts s x) rest.1))

  rules_ask : (s : State) (xs : List A) → AllRuled (Rule s) xs → RoomFor s space (length xs) → EntryRules add entry s xs
  rules_ask s [] h room = tt
  rules_ask s (x ∷ xs) h (inl none) = absurd (omega (arith, none))
  rules_ask s (x ∷ xs) h (inr le) =
      let one : count_of (add s x).filled space ≡ count_of s.filled space + 1 = a.counts s x in
      let lt : count_of s.filled space < most space = omega (arith, le) in
      let rest : count_of (add s x).filled space + length xs ≤ most space = omega (arith, le, one) in
      (a.asks s x lt h.0, rules_ask (add s x) xs (all_turned (Rule s) (Rule (add s x)) (λ y r. a.back s x y r) xs h.1) (inr rest))

  both_ways : AreRuledBy add entry space Rule
  both_ways s xs = (rules_say s xs, rules_ask s xs)

-- ---- where there is room

must_is : (b : Bool) (t : Trouble) → must b t ≡ None → b ≡ true
must_is true t e = refl
must_is false t e = absurd cc

room_is : (P : Type 0) (room : Bool) → either_type room P ⊥ → (room ≡ true) × P
room_is P true h = (refl, h)
room_is P false h = absurd h

room_for : (P : Type 0) (room : Bool) → room ≡ true → P → either_type room P ⊥
room_for P true e h = h
room_for P false e h = absurd cc

first_parts : (a b : Option Trouble) → first_of a b ≡ None → (a ≡ None) × (b ≡ None)
first_parts None b e = (refl, e)
first_parts (Some t) b e = absurd cc

first_joined : (a b : Option Trouble) → first_of a None ≡ None → b ≡ None → first_of a b ≡ None
first_joined None b e f = f
first_joined (Some t) b e f = absurd cc

first_alone : (a b : Option Trouble) → first_of a b ≡ None → first_of a None ≡ None
first_alone None b e = refl
first_alone (Some t) b e = absurd cc

one_more : {A : Type 0} (xs : List A) (x : A) → length (xs ++ x ∷ []) ≡ length xs + 1
one_more xs x = length-append xs (x ∷ [])

says_of : (P : Type 0) (s : State) (space : Space) → either_type (has_room s space) P ⊥ → (count_of s.filled space < most space) × P
says_of P s space h = let t = room_is P (has_room s space) h in (ltb-true (count_of s.filled space) (most space) t.0, t.1)

asks_of : (P : Type 0) (s : State) (space : Space) → count_of s.filled space < most space → P → either_type (has_room s space) P ⊥
asks_of P s space lt p = room_for P (has_room s space) (lt-ltb (count_of s.filled space) (most space) lt) p

room_none : (s : State) (space : Space) → count_of s.filled space < most space → room_test s space ≡ None
room_none s space lt = rw (lt-ltb (count_of s.filled space) (most space) lt) refl

room_there : (s : State) (space : Space) → room_test s space ≡ None → count_of s.filled space < most space
room_there s space e = ltb-true (count_of s.filled space) (most space) (must_is (has_room s space) _ e)

functions_add : Adds add_function function_entry spaces.Function (λ s. (function_type s).rules)
functions_add = record {
  counts = λ s x. one_more s.filled.functions (Some (record { ty = x; origin = Own no_body }));
  forth = λ s x y r. r;
  back = λ s x y r. r;
  says = λ s x r. (room_there s spaces.Function r.1, r.0);
  asks = λ s x lt r. (r, room_none s spaces.Function lt);
}

tags_add : Adds add_tag tag_entry spaces.Tag (λ s. (tag_type s).rules)
tags_add = record {
  counts = λ s x. one_more s.filled.tags (Some (record { ty = x.1; imported = None }));
  forth = λ s x y r. r;
  back = λ s x y r. r;
  says = λ s x r. says_of ((tag_type s).rules x) s spaces.Tag r;
  asks = λ s x lt r. asks_of ((tag_type s).rules x) s spaces.Tag lt r;
}

memories_add : Adds add_memory memory_entry spaces.Memory (λ s. (memory_limits None).rules)
memories_add = record {
  counts = λ s x. one_more s.filled.memories (Some (memory_of x None));
  forth = λ s x y r. r;
  back = λ s x y r. r;
  says = λ s x r. let t = r.1 in (room_there s spaces.Memory (first_parts _ _ t).1, (r.0, first_alone _ _ t, r.2));
  asks = λ s x lt r. let t = r.1 in (r.0, first_joined _ _ t (room_none s spaces.Memory lt), r.2);
}

module _ (features : WasmFeatures) where
  abbrev TableRule : State → TableEntry → Type 0
  TableRule s = (led 0x40 (initialised features s) (table_type features s) (table_apart features s) (table_some features s) (table_wants features s)).rules

  table_counts : (s : State) (x : TableEntry) → count_of (add_table s x).filled spaces.Table ≡ count_of s.filled spaces.Table + 1
  table_counts s (inl x) = one_more s.filled.tables (Some (table_of x.1.0 (Some x.1.1) None))
  table_counts s (inr ty) = one_more s.filled.tables (Some (table_of ty None None))

  table_forth : (s : State) (x y : TableEntry) → TableRule (add_table s x) y → TableRule s y
  table_forth s (inl x) (inl y) r = r
  table_forth s (inl x) (inr y) r = r
  table_forth s (inr x) (inl y) r = r
  table_forth s (inr x) (inr y) r = r

  table_back : (s : State) (x y : TableEntry) → TableRule s y → TableRule (add_table s x) y
  table_back s (inl x) (inl y) r = r
  table_back s (inl x) (inr y) r = r
  table_back s (inr x) (inl y) r = r
  table_back s (inr x) (inr y) r = r

  tables_add : Adds add_table (table_entry features) spaces.Table TableRule
  tables_add = record {
    counts = table_counts;
    forth = table_forth;
    back = table_back;
    says = λ s x r. says_of (TableRule s x) s spaces.Table r;
    asks = λ s x lt r. asks_of (TableRule s x) s spaces.Table lt r;
  }

  abbrev ElementRule : State → ElementEntry → Type 0
  ElementRule s = (after (element_flags s) (λ flags. element_form features s flags)).rules

  elements_add : Adds add_element (element_entry features) spaces.Element ElementRule
  elements_add = record {
    counts = λ s x. one_more s.filled.elements (Some (element_of x.1));
    forth = λ s x y r. r;
    back = λ s x y r. r;
    says = λ s x r. says_of (ElementRule s x) s spaces.Element r;
    asks = λ s x lt r. asks_of (ElementRule s x) s spaces.Element lt r;
  }

  abbrev DataRule : State → DataEntry → Type 0
  DataRule s = (after (data_flags s) (λ flags. data_form features s flags)).rules

  segments_add : Adds add_data (data_entry features) spaces.Data DataRule
  segments_add = record {
    counts = λ s x. one_more s.filled.segments (Some (segment_of x.1));
    forth = λ s x y r. r;
    back = λ s x y r. r;
    says = λ s x r. says_of (DataRule s x) s spaces.Data r;
    asks = λ s x lt r. asks_of (DataRule s x) s spaces.Data lt r;
  }

pub sections_are_ruled : SectionsAreRuled
sections_are_ruled = record {
  functions = both_ways add_function function_entry spaces.Function (λ s. (function_type s).rules) functions_add;
  tables = λ features. both_ways add_table (table_entry features) spaces.Table (TableRule features) (tables_add features);
  memories = both_ways add_memory memory_entry spaces.Memory (λ s. (memory_limits None).rules) memories_add;
  tags = both_ways add_tag tag_entry spaces.Tag (λ s. (tag_type s).rules) tags_add;
  elements = λ features. both_ways add_element (element_entry features) spaces.Element (ElementRule features) (elements_add features);
  segments = λ features. both_ways add_data (data_entry features) spaces.Data (DataRule features) (segments_add features);
}
