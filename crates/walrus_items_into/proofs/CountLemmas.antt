-- Lemmas: how many locals functions have, by the bodies that they get in turn.
use Rattle.std.proofs.Common.{◌≡◌, ◌∙◌, ◌<◌, ℕ, zero, suc, ◌+◌, List, [], ◌∷◌, length, map, slice_get, Option, Some, None, refl, sym, ap, subst, arith}
use Rattle.std.specs.List.{AllZip}
use Rattle.walrus_module_bodies.specs.walrus_functions_into.wasm_module_rules.wasm_modules.Modules.{module_of}
use Rattle.wasm_name_payloads.specs.Names.{function_locals, first_slot}
use Rattle.walrus_module_bodies.specs.walrus_module_env.walrus_body_parser.walrus_body_rules.wasm_grammar.Modules.{Body, Module}
use Rattle.walrus_module_bodies.specs.walrus_module_env.walrus_body_parser.walrus_body_rules.wasm_body_grammar.Codes.{param_count, with_bodies}
use Rattle.walrus_read_laws.specs.walrus_tables_into.walrus_sections_into.walrus_forms.Renaming.{at}
use Rattle.walrus_module_bodies.specs.walrus_functions_into.declared.bodies.FunctionBody.{FunctionBody}
use Rattle.walrus_module_bodies.specs.walrus_functions_into.Bodies.{bodiless, bodiless_from, paired}
use Rattle.walrus_module_bodies.specs.walrus_functions_into.Functions.{functions_from}
use Rattle.walrus_module_bodies.specs.walrus_functions_into.Laws.{ReadBodiesArePaired, read_bodies}
use Rattle.walrus_read_laws.specs.walrus_tables_into.walrus_sections_into.walrus_index_maps.Maps.{Ids}
use Rattle.walrus_read_laws.specs.walrus_tables_into.walrus_sections_into.walrus_known_sections.declared.items.Function.{Function as ReadFunction}
use Rattle.walrus_read_laws.specs.walrus_tables_into.walrus_sections_into.walrus_known_sections.Items.{function_of}
use Rattle.walrus_read_laws.specs.walrus_tables_into.walrus_sections_into.walrus_known_sections.State.{state_of}
use Rattle.walrus_module_bodies.specs.walrus_module_env.walrus_collections.walrus_module_items.declared.function.Function.{Function}
use Rattle.walrus_items_into.specs.Laws.{NamedLocalsCount}
use Rattle.walrus_items_into.specs.Numbers.{types_in}

-- by the numbers of functions alone
zip_numbers : (Q : ℕ → Body → Type 0) (pairs : List FunctionBody) (xs : List Body) → AllZip (λ (b : FunctionBody) (x : Body). Q b.number x) pairs xs → AllZip Q (map (λ (b : FunctionBody). b.number) pairs) xs
zip_numbers Q [] [] h = tt
zip_numbers Q [] (x ∷ xs) h = absurd h
zip_numbers Q (b ∷ pairs) [] h = absurd h
zip_numbers Q (b ∷ pairs) (x ∷ xs) h = (h.0, zip_numbers Q pairs xs h.1)

some_is : {A : Type 0} (x y : A) → Some x ≡ Some y → x ≡ y
some_is x y e = cc

typed_at : (reads : List ReadFunction) (k : ℕ) (f : ReadFunction) → slice_get reads k ≡ Some f → at (map (λ (f : ReadFunction). f.ty) reads) k ≡ f.ty
typed_at [] k f e = absurd cc
typed_at (g ∷ reads) zero f e = ap (λ (f : ReadFunction). f.ty) (some_is g f e)
typed_at (g ∷ reads) (suc k) f e = typed_at reads k f e

module _ (m : Module) (types tys : List ℕ) (locals : ℕ → List ℕ) where
  abbrev Own : ℕ → Body → Type 0
  Own n x = length (locals n) ≡ param_count m (at tys n) + length x.locals

  -- where the first of these functions has this number, each has its type, and no locals if it is imported
  abbrev Agrees : ℕ → List ReadFunction → Type 0
  Agrees id reads = (k : ℕ) (f : ReadFunction) → slice_get reads k ≡ Some f → at tys (id + k) ≡ f.ty

  abbrev NamesNone : ℕ → List ReadFunction → Type 0
  NamesNone id reads = (k n : ℕ) (f : ReadFunction) → slice_get reads k ≡ Some f → f.import ≡ Some n → locals (id + k) ≡ []

  abbrev Counts : List ReadFunction → Type 0
  Counts reads = (id : ℕ) (bodies : List Body) → Agrees id reads → NamesNone id reads → AllZip Own (bodiless_from id (functions_from types id reads)) bodies
      → (k : ℕ) → k < length reads → length (locals (id + k)) ≡ function_locals m (first_slot (slice_get (with_bodies (map (λ f. Some (function_of f)) reads) bodies) k))

  agrees_on : (id : ℕ) (f : ReadFunction) (reads : List ReadFunction) → Agrees id (f ∷ reads) → Agrees (suc id) reads
  agrees_on id f reads h k g e = let n : suc id + k ≡ id + suc k = omega arith in ap (λ (n : ℕ). at tys n) n ∙ h (suc k) g e

  none_on : (id : ℕ) (f : ReadFunction) (reads : List ReadFunction) → NamesNone id (f ∷ reads) → NamesNone (suc id) reads
  none_on id f reads h k i g e imported = let n : suc id + k ≡ id + suc k = omega arith in ap (λ (n : ℕ). locals n) n ∙ h (suc k) i g e imported

  count_on : (ty : ℕ) (import : Option ℕ) (reads : List ReadFunction) → Counts reads → Counts (record { ty = ty; import = import } ∷ reads)
  count_on ty (Some n) reads rest id bodies agree none h zero lt = ap length (none 0 n (record { ty = ty; import = Some n }) refl refl)
  count_on ty (Some n) reads rest id bodies agree none h (suc k) lt =
      let place : id + suc k ≡ suc id + k = omega arith in
      let f : ReadFunction = record { ty = ty; import = Some n } in
      ap (λ (n : ℕ). length (locals n)) place ∙ rest (suc id) bodies (agrees_on id f reads agree) (none_on id f reads none) h k (omega (arith, lt))
  count_on ty None reads rest id [] agree none h k lt = absurd h
  count_on ty None reads rest id (x ∷ xs) agree none h zero lt =
      let first : id + 0 ≡ id = omega arith in
      ap (λ (n : ℕ). length (locals n)) first ∙ h.0
      ∙ ap (λ (t : ℕ). param_count m t + length x.locals) (ap (λ (n : ℕ). at tys n) (sym first) ∙ agree 0 (record { ty = ty; import = None }) refl)
  count_on ty None reads rest id (x ∷ xs) agree none h (suc k) lt =
      let place : id + suc k ≡ suc id + k = omega arith in
      let f : ReadFunction = record { ty = ty; import = None } in
      ap (λ (n : ℕ). length (locals n)) place ∙ rest (suc id) xs (agrees_on id f reads agree) (none_on id f reads none) h.1 k (omega (arith, lt))

  counts : (reads : List ReadFunction) → Counts reads
  counts [] id bodies agree none h k lt = absurd (omega (arith, lt))
  counts (f ∷ reads) id bodies agree none h k lt = count_on f.ty f.import reads (counts reads) id bodies agree none h k lt

pub locals_count : {B : Type 0} → ReadBodiesArePaired → NamedLocalsCount B
locals_count law features bytes s begin i j m bodies reads f h function lt =
    let tys = map (λ (f : ReadFunction). f.ty) s.functions.items in
    let own : ℕ → Body → Type 0 = λ n x. length (j.locals n) ≡ param_count (state_of s).filled (at tys n) + length x.locals in
    let slots : m.functions.slots ≡ functions_from (types_in s).ids 0 s.functions.items = f.functions ∙ ap (λ (j : Ids). functions_from j.types 0 s.functions.items) f.numbers in
    let pairs = law features bytes s (types_in s).ids reads in
    let ids : bodiless m.functions ≡ bodiless_from 0 (functions_from (types_in s).ids 0 s.functions.items) = ap (λ (l : List (Option Function)). bodiless_from 0 l) slots in
    let named = subst (λ (ids : List ℕ). AllZip own (map (λ (b : FunctionBody). b.number) (paired ids (read_bodies s.bodies))) bodies) ids
    (zip_numbers own (paired (bodiless m.functions) (read_bodies s.bodies)) bodies h.own) in
    let zip = subst (λ (ids : List ℕ). AllZip own ids bodies) pairs.functions_are named in
    let place : function ≡ 0 + function = omega arith in
    ap (λ (n : ℕ). length (j.locals n)) place
    ∙ counts (module_of (state_of s) bodies) (types_in s).ids tys j.locals s.functions.items 0 bodies
    (λ k f e. let n : 0 + k ≡ k = omega arith in ap (λ (n : ℕ). at tys n) n ∙ typed_at s.functions.items k f e)
    (λ k n f e imported. let z : 0 + k ≡ k = omega arith in ap (λ (n : ℕ). j.locals n) z ∙ h.imported k n f e imported) zip function lt
