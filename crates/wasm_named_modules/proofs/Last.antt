-- Lemmas: the names of a module are the last ones that were read for what is there.
use Rattle.std.specs.Prelude.{ℕ, ◌<◌, ◌≤◌, ◌≡◌, ◌==◌, true, false, List, [], ◌∷◌, length, Option, None, if◌then◌else◌, refl}
use Rattle.std.specs.Option.{option_and_then}
use Rattle.std.proofs.Common.{ap, sym, ◌∙◌, subst, arith, inl, inr}
use Rattle.std.proofs.lemmas.Bool.{and_parts, cases_lt, eqb-true, false≢true, false_from_ne_true}
use Rattle.std.proofs.lemmas.Option.{slice_get_past}
use Rattle.wasm_formats.specs.declared.fault.Space.{Space}
use Rattle.wasm_formats.specs.declared.fault.Space.TheVariants as spaces
use Rattle.wasm_grammar.specs.Modules.{Function, Item, Module}
use Rattle.wasm_grammar.specs.States.{count_of, types_of}
use Rattle.wasm_name_payloads.specs.Names.{Bearer, TheModule, AnItem, ALocal, Given, first_slot, function_locals, item_in, last_name, local_count, name_of, names_of, same_bearer, space_number}
use Rattle.wasm_name_payloads.specs.Written.{NameMap}
use Rattle.wasm_named_modules.specs.Modules.{IsHere, LastNames, entry_at, last_names, local_names, name_in, names_in_function, some_of}
use Rattle.wasm_named_modules.proofs.Entries.{each_rises, entries_rise, entry_below, no_entry}
use Rattle.wasm_named_modules.proofs.Here.{AreHere, names_here}

module _ (m : Module) where
  -- ---- what isn't there has no name

  abbrev count_by : ℕ → ℕ
  count_by n =
      if n == 1 then length m.functions
      else (if n == 4 then length (types_of m)
      else (if n == 5 then length m.tables
      else (if n == 6 then length m.memories
      else (if n == 7 then length m.globals
      else (if n == 8 then length m.elements
      else (if n == 9 then length m.segments
      else (if n == 11 then length m.tags
      else 0)))))))

  counted : (space : Space) → count_by (space_number space) ≡ count_of m space
  counted spaces.«Type» = refl
  counted spaces.Function = refl
  counted spaces.Table = refl
  counted spaces.Memory = refl
  counted spaces.Tag = refl
  counted spaces.Global = refl
  counted spaces.Element = refl
  counted spaces.Data = refl
  counted spaces.Local = refl
  counted spaces.Label = refl

  same_item : (a b : Item) → same_bearer (AnItem a) (AnItem b) ≡ true → a.number < count_of m a.space → b.number < count_of m b.space
  same_item a b e lt =
      let both = and_parts (space_number a.space == space_number b.space) (a.number == b.number) e in
      let count = sym (counted a.space) ∙ ap count_by (eqb-true (space_number a.space) (space_number b.space) both.0) ∙ counted b.space in
      omega (arith, lt, eqb-true a.number b.number both.1, count)

  same_local : (f l g k : ℕ) → same_bearer (ALocal f l) (ALocal g k) ≡ true → l < local_count m f → k < local_count m g
  same_local f l g k e lt =
      let both = and_parts (f == g) (l == k) e in
      subst (λ n. k < local_count m n) (eqb-true f g both.0) (subst (λ n. n < local_count m f) (eqb-true l k both.1) lt)

  same_here : (a b : Bearer) → same_bearer a b ≡ true → IsHere m a → IsHere m b
  same_here TheModule TheModule e h = tt
  same_here (AnItem a) TheModule e h = tt
  same_here (ALocal f l) TheModule e h = tt
  same_here (AnItem a) (AnItem b) e h = same_item a b e h
  same_here (ALocal f l) (ALocal g k) e h = same_local f l g k e h
  same_here TheModule (AnItem b) e h = absurd (false≢true e)
  same_here TheModule (ALocal g k) e h = absurd (false≢true e)
  same_here (AnItem a) (ALocal g k) e h = absurd (false≢true e)
  same_here (ALocal f l) (AnItem b) e h = absurd (false≢true e)

  not_among : (bearer : Bearer) (names : List Given) → AreHere m names → (IsHere m bearer → ⊥) → last_name bearer None names ≡ None
  not_among bearer [] h away = refl
  not_among bearer (g ∷ names) h away = rw (false_from_ne_true (same_bearer g.bearer bearer) (λ e. away (same_here g.bearer bearer e h.0))) (not_among bearer names h.1 away)

  not_named : (bearer : Bearer) → (IsHere m bearer → ⊥) → name_of m bearer ≡ None
  not_named bearer = not_among bearer (names_of m) (names_here m)

  -- ---- what is there has its last one

  item_named : (space : Space) (n : ℕ) → entry_at n ((last_names m).items space) ≡ name_of m (item_in space n)
  item_named space n = elim (cases_lt n (count_of m space)) as (λ _. entry_at n ((last_names m).items space) ≡ name_of m (item_in space n)) [
    | inl lt ↦ entry_below (λ n. name_of m (item_in space n)) (count_of m space) n lt
    | inr le ↦ no_entry (λ n. name_of m (item_in space n)) (count_of m space) n le ∙ sym (not_named (item_in space n) (λ (lt : n < count_of m space). omega (arith, lt, le)))
  ]

  in_function : (f l : ℕ) → entry_at l (names_in_function m f) ≡ name_of m (ALocal f l)
  in_function f l = elim (cases_lt l (local_count m f)) as (λ _. entry_at l (names_in_function m f) ≡ name_of m (ALocal f l)) [
    | inl lt ↦ entry_below (λ l. name_of m (ALocal f l)) (local_count m f) l lt
    | inr le ↦ no_entry (λ l. name_of m (ALocal f l)) (local_count m f) l le ∙ sym (not_named (ALocal f l) (λ (lt : l < local_count m f). omega (arith, lt, le)))
  ]

  of_some : (l : ℕ) (names : NameMap) → option_and_then (entry_at l) (some_of names) ≡ entry_at l names
  of_some l [] = refl
  of_some l (e ∷ names) = refl

  no_locals : (f : ℕ) → length m.functions ≤ f → local_count m f ≡ 0
  no_locals f le = ap (λ (slot : Option (Option Function)). function_locals m (first_slot slot)) (slice_get_past m.functions f le)

  local_named : (f l : ℕ) → option_and_then (entry_at l) (entry_at f (local_names m)) ≡ name_of m (ALocal f l)
  local_named f l = elim (cases_lt f (length m.functions)) as (λ _. option_and_then (entry_at l) (entry_at f (local_names m)) ≡ name_of m (ALocal f l)) [
    | inl lt ↦ ap (option_and_then (entry_at l)) (entry_below (λ f. some_of (names_in_function m f)) (length m.functions) f lt) ∙ of_some l (names_in_function m f) ∙ in_function f l
    | inr le ↦ ap (option_and_then (entry_at l)) (no_entry (λ f. some_of (names_in_function m f)) (length m.functions) f le) ∙ sym (not_named (ALocal f l) (λ (lt : l < local_count m f). let none = no_locals f le in omega (arith, lt, none)))
  ]

  last : (bearer : Bearer) → name_in (last_names m) bearer ≡ name_of m bearer
  last TheModule = refl
  last (AnItem item) = item_named item.space item.number
  last (ALocal f l) = local_named f l

pub names_are_last : LastNames
names_are_last = record {
  last = last;
  here = λ m bearer away. last m bearer ∙ not_named m bearer away;
  items_rise = λ m space. entries_rise (λ n. name_of m (item_in space n)) (count_of m space);
  locals_rise = λ m.
      (entries_rise (λ f. some_of (names_in_function m f)) (length m.functions), each_rises (names_in_function m) (λ f. entries_rise (λ l. name_of m (ALocal f l)) (local_count m f)) (length m.functions));
}
