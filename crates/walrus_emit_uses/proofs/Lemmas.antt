-- What lives, and what is due for it.
use Rattle.std.specs.Prelude.{ℕ, zero, suc, ◌==◌, ◌≡◌, ◌<◌, ◌≤◌, ◌↔◌, ◌||◌, Bool, true, false, List, [], ◌∷◌, ◌++◌, length, map, Option, Some, None, IsSome, Result, slice_index_or, refl}
use Rattle.std.specs.List.{list_any}
use Rattle.std.specs.Option.{option_map}
use Rattle.std.proofs.Common.{ap, sym, ◌∙◌, subst, arith, inr, eqb-true, eq-eqb}
use Rattle.std.proofs.lemmas.Bool.{false≢true}
use Rattle.std.proofs.lemmas.List.{append-nil, length-map, map-id}
use Rattle.wasm_formats.specs.declared.fault.Limited.TheVariants as limits_of
use Rattle.wasm_formats.specs.declared.fault.Space.TheVariants as spaces
use Rattle.wasm_grammar.specs.Modules as grammar
use Rattle.walrus_arena.specs.Arena.{Arena, IsLive, item_at}
use Rattle.walrus_items.specs.declared.local.Local.{Local}
use Rattle.walrus_collections.specs.LookUps.{items}
use Rattle.walrus_linked.specs.walrus_module_items.declared.data.Data.{Data}
use Rattle.walrus_linked.specs.walrus_module_items.declared.data.DataKind.{DataKind}
use Rattle.walrus_linked.specs.walrus_module_items.declared.data.DataKind.TheVariants as datas
use Rattle.walrus_linked.specs.walrus_module_items.declared.function.Function.{Function}
use Rattle.walrus_errors.specs.declared.error.ModuleError.{ModuleError}
use Rattle.walrus_errors.specs.declared.error.ModuleError.TheVariants.{DeadReference, NotLinked, OutputLimit}
use Rattle.walrus_pairing.specs.Looks.{Look}
use Rattle.walrus_meaning.specs.Meaning.{own_data_mode, own_function, own_segment, slots_of}
use Rattle.walrus_emit_parts.specs.Due.{Due, Refused, Writes, entries, section, vec, written}
use Rattle.walrus_emit_parts.proofs.Lemmas.{lacks_it, refused_front, writes_on}
use Rattle.walrus_emit_due.specs.Own.{live}
use Rattle.walrus_emit_sections.proofs.OwnLemmas.{live_is, live_passed, live_within}
use Rattle.walrus_emit_due.specs.Slots.{live_at}
use Rattle.walrus_emit_due.specs.DataCount.{counted, data_count, is_asked, is_passive}
use Rattle.walrus_emit_due.specs.FunctionTypes as types
use Rattle.walrus_emit_due.specs.Imports as due_of

-- ---- what lives

-- the test says that it doesn't
pub not_live : {P : Type 0} (r : Bool) → (r ≡ true) ↔ P → r ≡ false → P → ⊥
not_live r is failed p = false≢true (sym failed ∙ is.1 p)

nothing_there : {T : Type 0} (o : Option T) → (IsSome o → ⊥) → o ≡ None
nothing_there None dead = refl
nothing_there (Some x) dead = absurd (dead refl)

module _ {T A : Type 0} (see : T → A) where
  at_slot : (slots : List (Option T)) (id : ℕ) → live_at (map (option_map see) slots) id ≡ option_map see (slice_index_or slots id None)
  at_slot [] id = refl
  at_slot (x ∷ slots) zero = refl
  at_slot (x ∷ slots) (suc id) = at_slot slots id

  module _ (a : Arena T) where
    pub seen_at : (id : ℕ) → live_at (slots_of see a) id ≡ option_map see (item_at a id)
    seen_at id = at_slot a.slots id

    pub dead_at : (id : ℕ) → (IsLive a id → ⊥) → live_at (slots_of see a) id ≡ None
    dead_at id dead = seen_at id ∙ ap (λ (o : Option T). option_map see o) (nothing_there (item_at a id) dead)

    pub live_length : length (items a) ≡ length (live (slots_of see a))
    live_length = sym (length-map (items a) see) ∙ ap (λ (l : List A). length l) (live_is see a)

-- ---- entries

-- a number is what is seen of an id
pub ids_written : (due : ℕ → Due) (ids old new : List ℕ) (result : Result (Unit {0}) ModuleError) → Writes (vec due (map (λ (id : ℕ). id) ids)) old new result → Writes (vec due ids) old new result
ids_written due ids old new result h = subst (λ (l : List ℕ). Writes (vec due l) old new result) (map-id ids) h

pub no_entries : {A : Type 0} (id : ℕ) (due : A → Due) (xs : List A) (old : List ℕ) (r : Bool) → r ≡ (length xs == 0) → r ≡ true → written old ≡ written old ++ entries id due xs
no_entries id due [] old r is none = sym (append-nil (written old))
no_entries id due (x ∷ xs) old r is none = absurd (omega (arith, eqb-true (length (x ∷ xs)) 0 (sym is ∙ none)))

pub some_entries : {A : Type 0} (id : ℕ) (due : A → Due) (xs : List A) (old new : List ℕ) (result : Result (Unit {0}) ModuleError) (r : Bool) → r ≡ (length xs == 0) → r ≡ false
    → Writes (section id (vec due xs)) old new result → Writes (entries id due xs) old new result
some_entries id due [] old new result r is some h = absurd (false≢true (sym some ∙ is ∙ eq-eqb 0 0 refl))
some_entries id due (x ∷ xs) old new result r is some h = h

-- behind a byte that was asked for
pub behind_code : (code kind : ℕ) (b : Due) (old mid new : List ℕ) (result : Result (Unit {0}) ModuleError) → code ≡ kind → written mid ≡ written old ++ written (code ∷ []) → Writes b mid new result
    → Writes (written (kind ∷ []) ++ b) old new result
behind_code code kind b old mid new result e same h =
    writes_on old mid new (written (kind ∷ [])) b result (subst (λ (n : ℕ). written mid ≡ written old ++ written (n ∷ [])) e same) h

pub code_refused : (code kind : ℕ) (b : Due) (old new : List ℕ) (e : ModuleError) → code ≡ kind → Refused (written (code ∷ [])) old new e → Refused (written (kind ∷ []) ++ b) old new e
code_refused code kind b old new e same h = refused_front (written (kind ∷ [])) b old new e (subst (λ (n : ℕ). Refused (written (n ∷ [])) old new e) same h)

-- ---- the count of data segments

pub passive_is : (kind : DataKind) (r : Bool) → (r ≡ true) ↔ (kind ≡ datas.Passive) → is_passive (own_data_mode kind) ≡ r
passive_is datas.Passive r is = sym (is.1 refl)
passive_is (datas.Active memory offset) true is = absurd (let wrong : datas.Active memory offset ≡ datas.Passive = is.0 refl in cc)
passive_is (datas.Active memory offset) false is = refl

module _ {T A : Type 0} (see : T → A) (test : A → Bool) where
  abbrev any : List T → Bool
  any xs = list_any test (map see xs)

  pub any_here : (had left all : List T) (x : T) → had ≡ x ∷ left → test (see x) ≡ true → any had ≡ any all → true ≡ any all
  any_here had left all x step passes h = sym (ap (λ (b : Bool). b || any left) passes) ∙ sym (ap any step) ∙ h

module _ (a : Arena Data) (is_named : Bool) where
  abbrev segments : List grammar.Segment
  segments = live (slots_of own_segment a)

  pub count_written : (count : ℕ) (asked : Bool) (old new : List ℕ) (result : Result (Unit {0}) ModuleError) → count ≡ length (items a) → asked ≡ is_asked is_named (map own_segment (items a)) → count ≤ 100000
      → Writes (counted asked count) old new result → Writes (data_count is_named (slots_of own_segment a)) old new result
  count_written count asked old new result so asks le h =
      let size : count ≡ length segments = so ∙ live_length own_segment a in
      let same : asked ≡ is_asked is_named segments = asks ∙ ap (λ (l : List grammar.Segment). is_asked is_named l) (live_is own_segment a) in
      live_within own_segment a 100000 limits_of.Data (counted (is_asked is_named segments) (length segments)) old new result (omega (arith, so, le))
      (subst (λ (n : ℕ). Writes (counted (is_asked is_named segments) n) old new result) size (subst (λ (b : Bool). Writes (counted b count) old new result) same h))

  pub count_refused : (count : ℕ) (old : List ℕ) → count ≡ length (items a) → 100000 < count → Refused (data_count is_named (slots_of own_segment a)) old old (OutputLimit limits_of.Data)
  count_refused count old so lt = live_passed own_segment a 100000 limits_of.Data (counted (is_asked is_named segments) (length segments)) old (OutputLimit limits_of.Data) (inr (refl, omega (arith, so, lt)))

-- ---- types of functions

module _ (look : Look) (a : Arena Function) where
  type_of_item : (locals : List Local) (o : Option Function) → types.type_of look (option_map (own_function []) o) ≡ types.type_of look (option_map (own_function locals) o)
  type_of_item locals None = refl
  type_of_item locals (Some f) = refl

  -- a type doesn't depend on the locals
  same_type : (locals : List Local) (id : ℕ) → types.type_in look (slots_of (own_function []) a) id ≡ types.type_in look (slots_of (own_function locals) a) id
  same_type locals id =
      ap (λ (o : Option grammar.Function). types.type_of look o) (seen_at (own_function []) a id) ∙ type_of_item locals (item_at a id)
      ∙ sym (ap (λ (o : Option grammar.Function). types.type_of look o) (seen_at (own_function locals) a id))

  same_types : (locals : List Local) → types.type_in look (slots_of (own_function []) a) ≡ types.type_in look (slots_of (own_function locals) a)
  same_types locals = λ i id. same_type locals id i

  pub types_written : (locals : List Local) (ids old new : List ℕ) (result : Result (Unit {0}) ModuleError) → length (items a) ≤ 1000000
      → Writes (entries 3 (types.type_in look (slots_of (own_function []) a)) ids) old new result → Writes (types.function_types look (slots_of (own_function locals) a) ids) old new result
  types_written locals ids old new result le h =
      live_within (own_function locals) a 1000000 limits_of.Functions (entries 3 (types.type_in look (slots_of (own_function locals) a)) ids) old new result le
      (subst (λ (f : ℕ → Due). Writes (entries 3 f ids) old new result) (same_types locals) h)

  pub type_refused : (id : ℕ) (old : List ℕ) → (IsLive a id → ⊥) → Refused (types.type_in look (slots_of (own_function []) a) id) old old (DeadReference spaces.Function)
  type_refused id old dead =
      subst (λ (o : Option grammar.Function). Refused (types.type_of look o) old old (DeadReference spaces.Function)) (sym (dead_at (own_function []) a id dead))
      (lacks_it (DeadReference spaces.Function) old old refl)

-- ---- what imports bring

module _ {T A : Type 0} (see : T → A) (due : A → Due) (a : Arena T) where
  pub not_linked : (id : ℕ) (old : List ℕ) → (IsLive a id → ⊥) → Refused (due_of.linked due (live_at (slots_of see a) id)) old old NotLinked
  not_linked id old dead = subst (λ (o : Option A). Refused (due_of.linked due o) old old NotLinked) (sym (dead_at see a id dead)) (lacks_it NotLinked old old refl)
