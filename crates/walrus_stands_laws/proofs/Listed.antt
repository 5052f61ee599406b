-- Lemmas: plans of emission list just what lives.
use Rattle.std.specs.Prelude.{ℕ, zero, suc, ◌≡◌, ◌+◌, ◌<◌, Bool, true, false, List, [], ◌∷◌, ◌++◌, length, map, filter, Option, Some, None, IsSome, slice_get, slice_index_or, refl, if◌then◌else◌}
use Rattle.std.specs.List.{AllByRecursion, cons_option, filter_map}
use Rattle.std.specs.Option.{option_map}
use Rattle.std.proofs.Common.{ap, sym, ◌∙◌, subst, arith, inl, inr}
use Rattle.std.proofs.lemmas.List.{map-append}
use Rattle.std.proofs.lemmas.Option.{none-some, same_Some}
use Rattle.walrus_arena.specs.Arena.{Arena, entries_from}
use Rattle.walrus_emit.specs.Left.{AddsDeclared}
use Rattle.walrus_emit_due.specs.Slots.{live_at}
use Rattle.walrus_emit_numbers.specs.Numbers.{functions_at}
use Rattle.walrus_meaning.specs.Meaning.{means, own_element, own_function}
use Rattle.walrus_module.specs.Parts.{Module as Parts, parts}
use Rattle.walrus_module_items.specs.declared.element.Element.{Element}
use Rattle.walrus_due_laws.specs.FunctionTypes.{HaveBodies}
use Rattle.walrus_parse_gc_laws.specs.Numbered.{numbered, numbered_function}
use Rattle.walrus_plan_laws.specs.Plans.{own_of}
use Rattle.wasm_canonical.specs.Dense.{IsOwnFunction}
use Rattle.wasm_grammar.specs.Modules as grammar
use Rattle.wasm_import_links.specs.Links.{ImportsLink, slot_import}
use Rattle.wasm_operators.specs.Items.{Space, Functions, Tables, Memories, Tags, Globals, ElementSegments, DataSegments}
use Rattle.wasm_part.specs.Kept.{AreFilled}
use Rattle.wasm_part.specs.Order.{brought_by, brought_to, import_of}
use Rattle.wasm_part.specs.Part.{Plan}
use Rattle.walrus_declared_laws.specs.Emitted.{living, plan_with}
use Rattle.walrus_stands_laws.specs.Listed.{DeclaringPlansListLiving, ListsLiving, PlansListLiving}
use Rattle.walrus_stands_laws.proofs.Placed.{names_back, split_at}

-- ---- lists

all_given : (P : ℕ → Type 0) (f : ℕ → Option ℕ) → ((x n : ℕ) → f x ≡ Some n → P n) → (ns : List ℕ) → AllByRecursion P (filter_map f ns)
all_given P f to [] = tt
all_given P f to (x ∷ ns) = by (f x) refl (all_given P f to ns)
  where
    by : (o : Option ℕ) → f x ≡ o → AllByRecursion P (filter_map f ns) → AllByRecursion P (cons_option o (filter_map f ns))
    by None is rest = rest
    by (Some n) is rest = (to x n is, rest)

all_join : (P : ℕ → Type 0) (xs ys : List ℕ) → AllByRecursion P xs → AllByRecursion P ys → AllByRecursion P (xs ++ ys)
all_join P [] ys h k = k
all_join P (x ∷ xs) ys h k = (h.0, all_join P xs ys h.1 k)

all_passed : (P : ℕ → Type 0) (test : ℕ → Bool) (ns : List ℕ) → AllByRecursion P ns → AllByRecursion P (filter test ns)
all_passed P test [] h = tt
all_passed P test (n ∷ ns) h = by (test n) (all_passed P test ns h.1)
  where
    by : (b : Bool) → AllByRecursion P (filter test ns) → AllByRecursion P (if b then n ∷ filter test ns else filter test ns)
    by true rest = (h.0, rest)
    by false rest = rest

all_turned : (P Q : ℕ → Type 0) → ((n : ℕ) → P n → Q n) → (ns : List ℕ) → AllByRecursion P ns → AllByRecursion Q ns
all_turned P Q to [] h = tt
all_turned P Q to (n ∷ ns) h = (to n h.0, all_turned P Q to ns h.1)

-- the numbers of filled slots are those of filled slots
living_all : {A : Type 0} (P : ℕ → Type 0) (k : ℕ) (slots : List (Option A)) → ((i : ℕ) → IsSome (slice_index_or slots i None) → P (k + i)) → AllByRecursion P (map (λ (e : ℕ × A). e.0) (entries_from k slots))
living_all P k [] to = tt
living_all P k (None ∷ slots) to = living_all P (k + 1) slots (λ i some. subst P (let z : k + suc i ≡ k + 1 + i = omega arith in z) (to (suc i) some))
living_all P k (Some x ∷ slots) to =
    (subst P (let z : k + 0 ≡ k = omega arith in z) (to 0 refl), living_all P (k + 1) slots (λ i some. subst P (let z : k + suc i ≡ k + 1 + i = omega arith in z) (to (suc i) some)))

living_there : {A : Type 0} (slots : List (Option A)) → AreFilled (living slots) slots
living_there slots = living_all (λ n. IsSome (slice_index_or slots n None)) 0 slots (λ i some. subst (λ (j : ℕ). IsSome (slice_index_or slots j None)) (let z : i ≡ 0 + i = omega arith in z) some)

-- ---- what imports bring is there

slot_there : {A : Type 0} (from : A → Option ℕ) (xs : List (Option A)) (n x : ℕ) → slice_index_or (map (slot_import from) xs) n None ≡ Some x → IsSome (slice_index_or xs n None)
slot_there from [] n x e = absurd (none-some x e)
slot_there from (None ∷ xs) zero x e = absurd (none-some x e)
slot_there from (Some y ∷ xs) zero x e = refl
slot_there from (y ∷ xs) (suc n) x e = slot_there from xs n x e

module _ (m : grammar.Module) (links : ImportsLink m) where
  brought_there : {A : Type 0} (space : Space) (xs : List (Option A)) → ((n x : ℕ) → import_of m space n ≡ Some x → IsSome (slice_index_or xs n None)) → (ns : List ℕ) → AreFilled (brought_by m space ns) xs
  brought_there space xs to ns = all_given (λ n. IsSome (slice_index_or xs n None)) (λ n. brought_to space (slice_index_or m.imports n None)) (λ x n e. to n x (names_back m links space n x e)) ns

  own_there : {A : Type 0} (space : Space) (xs : List (Option A)) → AreFilled (own_of m space (living xs)) xs
  own_there space xs = all_passed (λ n. IsSome (slice_index_or xs n None)) _ (living xs) (living_there xs)

  both_there : {A : Type 0} (space : Space) (xs : List (Option A)) (own ns : List ℕ) → ((n x : ℕ) → import_of m space n ≡ Some x → IsSome (slice_index_or xs n None)) → AreFilled own xs → AreFilled (brought_by m space ns ++ own) xs
  both_there space xs own ns to h = all_join (λ n. IsSome (slice_index_or xs n None)) (brought_by m space ns) own (brought_there space xs to ns) h

body_there : (o : Option grammar.Function) → IsOwnFunction o → IsSome o
body_there None h = absurd h
body_there (Some f) h = refl

pub plans_living : {B : Type 0} → PlansListLiving B
plans_living input facts order emitted h =
    let m = means (parts input) in
    let links = h.serves.linked in
    let bodies : HaveBodies m.functions (functions_at facts order) = subst (HaveBodies m.functions) h.own h.serves.bodies in
    record {
      imports = living_there m.imports;
      functions = both_there m links Functions m.functions (functions_at facts order) (living m.imports) (slot_there _ m.functions)
          (all_turned (λ id. IsOwnFunction (live_at m.functions id)) (λ n. IsSome (slice_index_or m.functions n None)) (λ n own. body_there (slice_index_or m.functions n None) own) (functions_at facts order) bodies);
      tables = both_there m links Tables m.tables (own_of m Tables (living m.tables)) (living m.imports) (slot_there _ m.tables) (own_there m links Tables m.tables);
      memories = both_there m links Memories m.memories (own_of m Memories (living m.memories)) (living m.imports) (slot_there _ m.memories) (own_there m links Memories m.memories);
      tags = both_there m links Tags m.tags (own_of m Tags (living m.tags)) (living m.imports) (slot_there _ m.tags) (own_there m links Tags m.tags);
      globals = both_there m links Globals m.globals (own_of m Globals (living m.globals)) (living m.imports) (slot_there _ m.globals) (own_there m links Globals m.globals);
      exports = living_there m.exports;
      elements = both_there m links ElementSegments m.elements (living m.elements) (living m.imports) (λ n x e. absurd (none-some x e)) (living_there m.elements);
      segments = both_there m links DataSegments m.segments (living m.segments) (living m.imports) (λ n x e. absurd (none-some x e)) (living_there m.segments);
    }

-- ---- one view of slots, and another

slot_at : {A B : Type 0} (g : A → B) (xs : List (Option A)) (n : ℕ) → slice_index_or (map (option_map g) xs) n None ≡ option_map g (slice_index_or xs n None)
slot_at g [] n = refl
slot_at g (x ∷ xs) zero = refl
slot_at g (x ∷ xs) (suc n) = slot_at g xs n

module _ {A B C : Type 0} (g : A → B) (h : A → C) where
  other_view : (xs : List (Option A)) (n : ℕ) (y : B) → slice_index_or (map (option_map g) xs) n None ≡ Some y → (z : C) × (slice_index_or (map (option_map h) xs) n None ≡ Some z)
  other_view xs n y is = by (slice_index_or xs n None) (sym (slot_at g xs n) ∙ is) (slot_at h xs n)
    where
      by : (o : Option A) → option_map g o ≡ Some y → slice_index_or (map (option_map h) xs) n None ≡ option_map h o → (z : C) × (slice_index_or (map (option_map h) xs) n None ≡ Some z)
      by None e view = absurd (none-some y e)
      by (Some x) e view = (h x, view)

  still_some : (o : Option A) → IsSome (option_map g o) → IsSome (option_map h o)
  still_some None s = absurd cc
  still_some (Some x) s = refl

  other_filled : (xs : List (Option A)) (ns : List ℕ) → AreFilled ns (map (option_map g) xs) → AreFilled ns (map (option_map h) xs)
  other_filled xs ns f = all_turned (λ n. IsSome (slice_index_or (map (option_map g) xs) n None)) (λ n. IsSome (slice_index_or (map (option_map h) xs) n None))
      (λ n s. subst IsSome (sym (slot_at h xs n)) (still_some (slice_index_or xs n None) (subst IsSome (slot_at g xs n) s))) ns f

-- ---- the segment that declares

none_given : (f : ℕ → Option ℕ) → ((x : ℕ) → f x ≡ None) → (ns : List ℕ) → filter_map f ns ≡ []
none_given f none [] = refl
none_given f none (x ∷ ns) = ap (λ (o : Option ℕ). cons_option o (filter_map f ns)) (none x) ∙ none_given f none ns

none_brought : (m : grammar.Module) (ns : List ℕ) → brought_by m ElementSegments ns ≡ []
none_brought m ns = none_given _ (λ x. by (slice_index_or m.imports x None)) ns
  where
    by : (o : Option grammar.Import) → brought_to ElementSegments o ≡ None
    by None = refl
    by (Some i) = refl

living_from : {A : Type 0} (k : ℕ) (slots : List (Option A)) (x : A) → map (λ (e : ℕ × A). e.0) (entries_from k (slots ++ Some x ∷ [])) ≡ map (λ (e : ℕ × A). e.0) (entries_from k slots) ++ (k + length slots) ∷ []
living_from k [] x = ap (λ (n : ℕ). n ∷ []) (let z : k ≡ k + 0 = omega arith in z)
living_from {A} k (None ∷ slots) x = living_from (k + 1) slots x ∙ ap (λ (n : ℕ). map (λ (e : ℕ × A). e.0) (entries_from (k + 1) slots) ++ n ∷ []) (let z : k + 1 + length slots ≡ k + suc (length slots) = omega arith in z)
living_from {A} k (Some y ∷ slots) x =
    ap (λ (l : List ℕ). k ∷ l) (living_from (k + 1) slots x ∙ ap (λ (n : ℕ). map (λ (e : ℕ × A). e.0) (entries_from (k + 1) slots) ++ n ∷ []) (let z : k + 1 + length slots ≡ k + suc (length slots) = omega arith in z))

front_slot : {A : Type 0} (xs ys : List (Option A)) (n : ℕ) (x : A) → slice_index_or xs n None ≡ Some x → (n < length xs) × (slice_index_or (xs ++ ys) n None ≡ Some x)
front_slot [] ys n x e = absurd (none-some x e)
front_slot (y ∷ xs) ys zero x e = (omega arith, e)
front_slot (y ∷ xs) ys (suc n) x e = let h = front_slot xs ys n x e in (let lt = h.0 in omega (arith, lt), h.1)

last_only : (k j n : ℕ) → slice_get (k ∷ []) j ≡ Some n → n ≡ k
last_only k zero n e = sym (same_Some k n e)
last_only k (suc j) n e = absurd (none-some n e)

-- a number that is listed, and isn't that of the last slot, is listed in front of it
listed_front : {A : Type 0} (xs : List (Option A)) (y : A) (i n : ℕ) → n < length xs → slice_get (living (xs ++ Some y ∷ [])) i ≡ Some n → slice_get (living xs) i ≡ Some n
listed_front xs y i n lt e =
    elim (split_at (living xs) ((0 + length xs) ∷ []) i n (ap (λ (l : List ℕ). slice_get l i) (sym (living_from 0 xs y)) ∙ e)) as (λ _. slice_get (living xs) i ≡ Some n) [
      | inl h ↦ h.1
      | inr h ↦ absurd (let same = last_only (0 + length xs) h.0 n h.2 in omega (arith, lt, same))
    ]

module _ (old : Parts) (q : Plan) where
  as_it_was : ListsLiving q (means old) → ListsLiving q (numbered old)
  as_it_was h = record {
    items = record {
      imports = h.items.imports;
      functions = other_filled (own_function old.locals) (numbered_function old.locals) old.funcs.slots (q.listed Functions) h.items.functions;
      tables = h.items.tables;
      memories = h.items.memories;
      tags = h.items.tags;
      globals = h.items.globals;
      exports = h.items.exports;
      elements = h.items.elements;
      segments = h.items.segments;
    };
    living = record {
      imports = h.living.imports;
      functions = λ n f is. (let z = other_view (numbered_function old.locals) (own_function old.locals) old.funcs.slots n f is in h.living.functions n z.0 z.1);
      tables = h.living.tables;
      memories = h.living.memories;
      tags = h.living.tags;
      globals = h.living.globals;
      exports = h.living.exports;
      elements = h.living.elements;
      segments = h.living.segments;
    };
  }

  module _ (fs : List ℕ) (f : ℕ) (e : Arena Element) (adds : AddsDeclared (f ∷ fs) old.elements e) (h : ListsLiving q (means (record old { elements = e }))) (imports : List ℕ)
      (segments : q.listed ElementSegments ≡ brought_by (means (record old { elements = e })) ElementSegments imports ++ living (means (record old { elements = e })).elements) where
    abbrev xs : List (Option grammar.Element)
    xs = (means old).elements

    elements_are : (d : grammar.Element) × ((means (record old { elements = e })).elements ≡ xs ++ Some d ∷ [])
    elements_are = by _ adds.added
      where
        by : (x : Element) → e.slots ≡ old.elements.slots ++ Some x ∷ [] → (d : grammar.Element) × (map (option_map own_element) e.slots ≡ xs ++ Some d ∷ [])
        by x is = (own_element x, ap (map (option_map own_element)) is ∙ map-append (option_map own_element) old.elements.slots (Some x ∷ []))

    listed_are : q.listed ElementSegments ≡ living (xs ++ Some elements_are.0 ∷ [])
    listed_are = segments ∙ ap (λ (l : List ℕ). l ++ living (means (record old { elements = e })).elements) (none_brought (means (record old { elements = e })) imports) ∙ ap (λ (l : List (Option grammar.Element)). living l) elements_are.1

    element_listed : (n : ℕ) (x : grammar.Element) → slice_index_or xs n None ≡ Some x → slice_get (living xs) (q.renames ElementSegments n) ≡ Some n
    element_listed n x is =
        let f = front_slot xs (Some elements_are.0 ∷ []) n x is in
        listed_front xs elements_are.0 (q.renames ElementSegments n) n f.0
        (ap (λ (l : List ℕ). slice_get l (q.renames ElementSegments n)) (sym listed_are)
        ∙ h.living.elements n x (ap (λ (l : List (Option grammar.Element)). slice_index_or l n None) elements_are.1 ∙ f.1))

    with_it : ListsLiving (plan_with (f ∷ fs) old q) (numbered old)
    with_it = record {
      items = record {
        imports = h.items.imports;
        functions = other_filled (own_function old.locals) (numbered_function old.locals) old.funcs.slots (q.listed Functions) h.items.functions;
        tables = h.items.tables;
        memories = h.items.memories;
        tags = h.items.tags;
        globals = h.items.globals;
        exports = h.items.exports;
        elements = living_there xs;
        segments = h.items.segments;
      };
      living = record {
        imports = h.living.imports;
        functions = λ n f is. (let z = other_view (numbered_function old.locals) (own_function old.locals) old.funcs.slots n f is in h.living.functions n z.0 z.1);
        tables = h.living.tables;
        memories = h.living.memories;
        tags = h.living.tags;
        globals = h.living.globals;
        exports = h.living.exports;
        elements = element_listed;
        segments = h.living.segments;
      };
    }

-- a module and its plan, with the segments that this lists
abbrev Ready : Plan → Parts → List ℕ → Type 0
Ready q m imports = ListsLiving q (means m) × (q.listed ElementSegments ≡ brought_by (means m) ElementSegments imports ++ living (means m).elements)

pub declaring_living : DeclaringPlansListLiving
declaring_living old new [] d q h imports segments = as_it_was old q (subst (λ (x : Parts). ListsLiving q (means x)) d h)
declaring_living old new (f ∷ fs) d q h imports segments =
    let ready : Ready q (record old { elements = new.elements }) imports = subst (λ (x : Parts). Ready q x imports) d.0 (h, segments) in
    with_it old q fs f new.elements d.1 ready.0 imports ready.1
