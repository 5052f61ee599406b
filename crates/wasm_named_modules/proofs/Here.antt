-- Lemmas: what the payloads of names give is given to what is there.
use Rattle.std.specs.Prelude.{ℕ, zero, suc, ◌<◌, ◌≡◌, nat_lt, Bool, true, false, List, [], ◌∷◌, ◌++◌, length, take, drop, Option, Some, None, Ok, Err, if◌then◌else◌, refl}
use Rattle.std.specs.List.{flat_map}
use Rattle.std.proofs.Common.{inl, inr}
use Rattle.std.proofs.lemmas.Bool.{cases_Bool, ltb-true}
use Rattle.wasm_formats.specs.Stops.{Parsing}
use Rattle.wasm_formats.specs.Formats.{Format}
use Rattle.wasm_formats.specs.Bytes.{byte}
use Rattle.wasm_formats.specs.Joined.{after}
use Rattle.wasm_formats.specs.Wholes.{u32}
use Rattle.wasm_grammar.specs.Modules.{Custom, Module}
use Rattle.wasm_grammar.specs.Values.{run}
use Rattle.wasm_grammar.specs.States.{count_of}
use Rattle.wasm_name_payloads.specs.Keepers.{Rest, Behind, Ended, Wrong, Keeper, Kept, one as single}
use Rattle.wasm_name_payloads.specs.Joined.{continued, times, led_by, led, each}
use Rattle.wasm_name_payloads.specs.Windows.{closed, window, parts_of}
use Rattle.wasm_name_payloads.specs.Names.{Bearer, TheModule, ALocal, Given, given, same_name, text, counted, association, named_below, name_map, local_count, known_function, local_names, Part, ModuleName, ItemNames, LocalNames, Skipped, part_of, item_in, contents, subsection, takes_some, section_name, names_if, names_of}
use Rattle.wasm_named_modules.specs.Modules.{IsHere}

abbrev pub AreHere : Module → List Given → Type 0
AreHere m [] = Unit {0}
AreHere m (g ∷ names) = IsHere m g.bearer × AreHere m names

module _ (m : Module) where
  here_joined : (xs ys : List Given) → AreHere m xs → AreHere m ys → AreHere m (xs ++ ys)
  here_joined [] ys h k = k
  here_joined (x ∷ xs) ys h k = (h.0, here_joined xs ys h.1 k)

  here_each : {A : Type 0} (g : A → List Given) → ((x : A) → AreHere m (g x)) → (xs : List A) → AreHere m (flat_map g xs)
  here_each g one [] = tt
  here_each g one (x ∷ xs) = here_joined (g x) (flat_map g xs) (one x) (here_each g one xs)

  -- a keeper gives what is there
  abbrev Gives : Keeper Given → Type 0
  Gives k = (bytes : List ℕ) → AreHere m (k.keeps bytes).items

  here_continued : (xs : List Given) (rest : Rest) (more : List ℕ → Kept Given) → AreHere m xs → ((bytes : List ℕ) → AreHere m (more bytes).items) → AreHere m (continued xs rest more).items
  here_continued xs (Behind later) more h k = here_joined xs (more later).items h (k later)
  here_continued xs Ended more h k = h
  here_continued xs Wrong more h k = h

  gives_times : (k : Keeper Given) → Gives k → (n : ℕ) → Gives (times k n)
  gives_times k one zero bytes = tt
  gives_times k one (suc n) bytes = here_continued (k.keeps bytes).items (k.keeps bytes).rest (times k n).keeps (one bytes) (gives_times k one n)

  here_led : {A : Type 0} (g : A → Keeper Given) → ((x : A) → Gives (g x)) → (r : Parsing A) → AreHere m (led_by g r).items
  here_led g one (Ok x) = one x.0 x.1
  here_led g one (Err s) = tt

  gives_led : {A : Type 0} (f : Format A) (g : A → Keeper Given) → ((x : A) → Gives (g x)) → Gives (led f g)
  gives_led f g one bytes = here_led g one (f.parse bytes)

  gives_each : {A : Type 0} (k : Keeper A) (g : A → List Given) → ((x : A) → AreHere m (g x)) → Gives (each k g)
  gives_each k g one bytes = here_each g one (k.keeps bytes).items

  here_closed : (xs : List Given) (rest : Rest) (later : List ℕ) → AreHere m xs → AreHere m (closed xs rest later).items
  here_closed xs (Behind []) later h = h
  here_closed xs (Behind (b ∷ left)) later h = h
  here_closed xs Ended later h = h
  here_closed xs Wrong later h = h

  gives_window : (size : ℕ) (k : Keeper Given) → Gives k → Gives (window size k)
  gives_window size k one bytes = elim (cases_Bool (nat_lt (length bytes) size)) as (λ _. AreHere m ((window size k).keeps bytes).items) [
    | inl less ↦ rw less tt
    | inr whole ↦ rw whole (here_closed (k.keeps (take size bytes)).items (k.keeps (take size bytes)).rest (drop size bytes) (one (take size bytes)))
  ]

  -- ---- entries, subsections, payloads

  gives_below : (count : ℕ) (bearer : ℕ → Bearer) → ((n : ℕ) → n < count → IsHere m (bearer n)) → (e : ℕ × List ℕ) → AreHere m (named_below count bearer e)
  gives_below count bearer there e = go (nat_lt e.0 count) refl
    where
      go : (b : Bool) → nat_lt e.0 count ≡ b → AreHere m (if b then (given (bearer e.0) e.1 ∷ []) else [])
      go true is = (there e.0 (ltb-true e.0 count is), tt)
      go false is = tt

  gives_map : (count : ℕ) (bearer : ℕ → Bearer) → ((n : ℕ) → n < count → IsHere m (bearer n)) → Gives (name_map count bearer)
  gives_map count bearer there = gives_each (counted (single association)) (named_below count bearer) (gives_below count bearer there)

  gives_locals : Gives (local_names m)
  gives_locals =
      let of_function : Keeper Given = led (known_function m) (λ f. name_map (local_count m f) (ALocal f)) in
      let each_function : Gives of_function = gives_led (known_function m) (λ f. name_map (local_count m f) (ALocal f)) (λ f. gives_map (local_count m f) (ALocal f) (λ n lt. lt)) in
      gives_led u32 (times of_function) (gives_times of_function each_function)

  gives_contents : (part : Part) (size : ℕ) → Gives (contents m part size)
  gives_contents ModuleName size = gives_window size (each (single text) (λ name. given TheModule name ∷ [])) (gives_each (single text) (λ name. given TheModule name ∷ []) (λ name. (tt, tt)))
  gives_contents (ItemNames space) size = gives_window size (name_map (count_of m space) (item_in space)) (gives_map (count_of m space) (item_in space) (λ n lt. lt))
  gives_contents LocalNames size = gives_window size (local_names m) gives_locals
  gives_contents Skipped size = gives_each (single (run size)) (λ bytes. []) (λ bytes. tt)

  gives_subsection : Gives (subsection m)
  gives_subsection = gives_led (after byte (λ _. u32)) (λ h. contents m (part_of h.0) h.1) (λ h. gives_contents (part_of h.0) h.1)

  here_parts : (fuel : ℕ) (bytes : List ℕ) → AreHere m (parts_of (subsection m) (takes_some m) fuel bytes).items
  here_parts fuel [] = tt
  here_parts zero (b ∷ bytes) = tt
  here_parts (suc fuel) (b ∷ bytes) =
      here_continued ((subsection m).keeps (b ∷ bytes)).items ((subsection m).keeps (b ∷ bytes)).rest (parts_of (subsection m) (takes_some m) fuel) (gives_subsection (b ∷ bytes)) (here_parts fuel)

  here_custom : (c : Option Custom) → AreHere m (names_if m c)
  here_custom None = tt
  here_custom (Some c) = elim (cases_Bool (same_name c.name section_name)) as (λ _. AreHere m (names_if m (Some c))) [
    | inl is ↦ rw is (here_parts (length c.bytes) c.bytes)
    | inr other ↦ rw other tt
  ]

  pub names_here : AreHere m (names_of m)
  names_here = here_each (names_if m) here_custom m.customs
