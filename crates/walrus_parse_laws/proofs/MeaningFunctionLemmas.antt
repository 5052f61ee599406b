-- Lemmas: functions of a module that was read, slot by slot.
use Rattle.std.specs.Prelude.{ℕ, zero, suc, ◌≡◌, ◌+◌, List, [], ◌∷◌, map, drop, Option, Some, None, slice_get, slice_index_or, refl, if◌then◌else◌}
use Rattle.std.specs.List.{AllZip, flat_map}
use Rattle.std.specs.Option.{is_some, option_map}
use Rattle.std.proofs.Common.{ap, sym, subst, ◌∙◌, arith}
use Rattle.walrus_named_bodies.specs.walrus_file_bodies.walrus_items_into.walrus_module_env.walrus_handler_types.walrus_body_steps.wasm_body_grammar.Codes.{own_type, param_count, with_bodies}
use Rattle.walrus_named_bodies.specs.walrus_file_bodies.walrus_items_into.walrus_module_env.walrus_handler_types.walrus_body_steps.wasm_body_grammar.wasm_grammar.Modules as grammar
use Rattle.walrus_named_bodies.specs.walrus_file_bodies.walrus_items_into.walrus_module_env.walrus_handler_types.walrus_body_steps.wasm_body_grammar.wasm_operators.declared.block_type.BlockType.{BlockType}
use Rattle.walrus_named_bodies.specs.walrus_file_bodies.walrus_items_into.walrus_functions_into.Bodies.{bodiless_from}
use Rattle.walrus_named_bodies.specs.walrus_file_bodies.walrus_items_into.walrus_functions_into.Functions.{functions_from}
use Rattle.walrus_named_bodies.specs.walrus_file_bodies.walrus_items_into.walrus_functions_into.declared.bodies.FunctionBody.{FunctionBody}
use Rattle.walrus_named_bodies.specs.walrus_file_bodies.walrus_items_into.walrus_tables_into.walrus_sections_into.Becomes.{look_of}
use Rattle.walrus_named_bodies.specs.walrus_file_bodies.walrus_items_into.walrus_tables_into.walrus_sections_into.walrus_known_sections.Items.{function_of}
use Rattle.walrus_named_bodies.specs.walrus_file_bodies.walrus_items_into.walrus_tables_into.walrus_sections_into.walrus_known_sections.declared.items.Function.{Function as ReadFunction}
use Rattle.walrus_body_laws.specs.walrus_pairing.walrus_index_maps.Maps.{Ids}
use Rattle.walrus_parse_laws.specs.Items.{brought_by, head_of, heads, same}
use Rattle.walrus_parse_laws.specs.Meaning.{type_id}
use Rattle.walrus_parse_laws.specs.Means.{function_bodies}
use Rattle.walrus_parse_laws.specs.Meant.{body_meant, each_from, function_meant, origin_meant}

-- ---- bodies of the file, by the numbers of their functions

-- the numbers of the functions that no import brings, where the first one has this number
abbrev pub own_numbers : ℕ → List (Option grammar.Function) → List ℕ
own_numbers n [] = []
own_numbers n (f ∷ fs) = if is_some (own_type f) then n ∷ own_numbers (suc n) fs else own_numbers (suc n) fs

-- of each function with a body
abbrev pub OriginHas : (ℕ → grammar.Function → grammar.Body → Type 0) → ℕ → grammar.Function → grammar.Origin grammar.Body → Type 0
OriginHas P n f (grammar.Imported i) = Unit {0}
OriginHas P n f (grammar.Own x) = P n f x

abbrev pub SlotHas : (ℕ → grammar.Function → grammar.Body → Type 0) → ℕ → Option grammar.Function → Type 0
SlotHas P n None = Unit {0}
SlotHas P n (Some f) = OriginHas P n f f.origin

abbrev pub EachHas : (ℕ → grammar.Function → grammar.Body → Type 0) → ℕ → List (Option grammar.Function) → Type 0
EachHas P n [] = Unit {0}
EachHas P n (f ∷ fs) = SlotHas P n f × EachHas P (suc n) fs

module _ (P : ℕ → grammar.Body → Type 0) where
  abbrev Q : ℕ → grammar.Function → grammar.Body → Type 0
  Q n f x = P n x

  abbrev Zip : List FunctionBody → List grammar.Body → Type 0
  Zip = AllZip (λ (b : FunctionBody) (x : grammar.Body). P b.number x)

  own_has : (n ty : ℕ) (b : grammar.Body) (fs : List (Option grammar.Function)) (bs : List FunctionBody) (xs : List grammar.Body)
      → ((cs : List FunctionBody) (ys : List grammar.Body) → map (λ (c : FunctionBody). c.number) cs ≡ own_numbers (suc n) fs → Zip cs ys → EachHas Q (suc n) (with_bodies fs ys))
      → map (λ (c : FunctionBody). c.number) bs ≡ n ∷ own_numbers (suc n) fs → Zip bs xs → EachHas Q n (with_bodies (Some (record { ty = ty; origin = grammar.Own b }) ∷ fs) xs)
  own_has n ty b fs [] xs on e h = absurd cc
  own_has n ty b fs (c ∷ cs) [] on e h = absurd h
  own_has n ty b fs (c ∷ cs) (x ∷ xs) on e h =
      let first : c.number ≡ n = cc in
      let others : map (λ (c : FunctionBody). c.number) cs ≡ own_numbers (suc n) fs = cc in
      (subst (λ (k : ℕ). P k x) first h.0, on cs xs others h.1)

  slot_has : (n ty : ℕ) (origin : grammar.Origin grammar.Body) (fs : List (Option grammar.Function)) (bs : List FunctionBody) (xs : List grammar.Body)
      → ((cs : List FunctionBody) (ys : List grammar.Body) → map (λ (c : FunctionBody). c.number) cs ≡ own_numbers (suc n) fs → Zip cs ys → EachHas Q (suc n) (with_bodies fs ys))
      → map (λ (c : FunctionBody). c.number) bs ≡ own_numbers n (Some (record { ty = ty; origin = origin }) ∷ fs) → Zip bs xs → EachHas Q n (with_bodies (Some (record { ty = ty; origin = origin }) ∷ fs) xs)
  slot_has n ty (grammar.Imported i) fs bs xs on e h = (tt, on bs xs e h)
  slot_has n ty (grammar.Own b) fs bs xs on e h = own_has n ty b fs bs xs on e h

  -- what holds of each body of the file, in their order, holds of the functions that get them
  pub bodies_have : (n : ℕ) (fs : List (Option grammar.Function)) (bs : List FunctionBody) (xs : List grammar.Body) → map (λ (c : FunctionBody). c.number) bs ≡ own_numbers n fs → Zip bs xs → EachHas Q n (with_bodies fs xs)
  bodies_have n [] bs xs e h = tt
  bodies_have n (None ∷ fs) bs xs e h = (tt, bodies_have (suc n) fs bs xs e h)
  bodies_have n (Some f ∷ fs) bs xs e h = slot_has n f.ty f.origin fs bs xs (λ cs ys. bodies_have (suc n) fs cs ys) e h

-- and these bodies are those of the functions
module _ (P : ℕ → grammar.Body → Type 0) where
  own_bodies : (n ty : ℕ) (b : grammar.Body) (fs : List (Option grammar.Function)) (bs : List FunctionBody) (xs : List grammar.Body)
      → ((cs : List FunctionBody) (ys : List grammar.Body) → map (λ (c : FunctionBody). c.number) cs ≡ own_numbers (suc n) fs → Zip P cs ys → flat_map function_bodies (with_bodies fs ys) ≡ ys)
      → map (λ (c : FunctionBody). c.number) bs ≡ n ∷ own_numbers (suc n) fs → Zip P bs xs → flat_map function_bodies (with_bodies (Some (record { ty = ty; origin = grammar.Own b }) ∷ fs) xs) ≡ xs
  own_bodies n ty b fs [] xs on e h = absurd cc
  own_bodies n ty b fs (c ∷ cs) [] on e h = absurd h
  own_bodies n ty b fs (c ∷ cs) (x ∷ xs) on e h =
      let others : map (λ (c : FunctionBody). c.number) cs ≡ own_numbers (suc n) fs = cc in
      ap (λ (l : List grammar.Body). x ∷ l) (on cs xs others h.1)

  slot_bodies : (n ty : ℕ) (origin : grammar.Origin grammar.Body) (fs : List (Option grammar.Function)) (bs : List FunctionBody) (xs : List grammar.Body)
      → ((cs : List FunctionBody) (ys : List grammar.Body) → map (λ (c : FunctionBody). c.number) cs ≡ own_numbers (suc n) fs → Zip P cs ys → flat_map function_bodies (with_bodies fs ys) ≡ ys)
      → map (λ (c : FunctionBody). c.number) bs ≡ own_numbers n (Some (record { ty = ty; origin = origin }) ∷ fs) → Zip P bs xs → flat_map function_bodies (with_bodies (Some (record { ty = ty; origin = origin }) ∷ fs) xs) ≡ xs
  slot_bodies n ty (grammar.Imported i) fs bs xs on e h = on bs xs e h
  slot_bodies n ty (grammar.Own b) fs bs xs on e h = own_bodies n ty b fs bs xs on e h

  no_bodies : (bs : List FunctionBody) (xs : List grammar.Body) → map (λ (c : FunctionBody). c.number) bs ≡ [] → Zip P bs xs → [] ≡ xs
  no_bodies [] [] e h = refl
  no_bodies [] (x ∷ xs) e h = absurd h
  no_bodies (b ∷ bs) xs e h = absurd cc

  pub bodies_are : (n : ℕ) (fs : List (Option grammar.Function)) (bs : List FunctionBody) (xs : List grammar.Body) → map (λ (c : FunctionBody). c.number) bs ≡ own_numbers n fs → Zip P bs xs
      → flat_map function_bodies (with_bodies fs xs) ≡ xs
  bodies_are n [] bs xs e h = no_bodies bs xs e h
  bodies_are n (None ∷ fs) bs xs e h = bodies_are (suc n) fs bs xs e h
  bodies_are n (Some f ∷ fs) bs xs e h = slot_bodies n f.ty f.origin fs bs xs (λ cs ys. bodies_are (suc n) fs cs ys) e h

-- ---- slot by slot

head_ty : {a b : ℕ} {o p : Option ℕ} → ◌≡◌ {A = Option (ℕ × Option ℕ)} (Some (a, o)) (Some (b, p)) → a ≡ b
head_ty {a} {b} {o} {p} e = ap (λ (h : Option (ℕ × Option ℕ)). first h) e
  where
    first : Option (ℕ × Option ℕ) → ℕ
    first None = a
    first (Some h) = h.0

head_origin : {a b : ℕ} {o p : Option ℕ} → ◌≡◌ {A = Option (ℕ × Option ℕ)} (Some (a, o)) (Some (b, p)) → o ≡ p
head_origin {a} {b} {o} {p} e = ap (λ (h : Option (ℕ × Option ℕ)). second h) e
  where
    second : Option (ℕ × Option ℕ) → Option ℕ
    second None = o
    second (Some h) = h.1

imported_is : (o : grammar.Origin grammar.Body) (n : ℕ) → brought_by o ≡ Some n → o ≡ grammar.Imported n
imported_is (grammar.Imported i) n e = let same_number : i ≡ n = cc in ap (λ (k : ℕ). (let x : grammar.Origin grammar.Body = grammar.Imported k in x)) same_number
imported_is (grammar.Own b) n e = absurd cc

function_is : (f : grammar.Function) (ty : ℕ) (origin : grammar.Origin grammar.Body) → f.ty ≡ ty → f.origin ≡ origin → f ≡ record { ty = ty; origin = origin }
function_is f ty origin e o = λ i. record { ty = e i; origin = o i }

heads_split : (x y : Option (ℕ × Option ℕ)) (xs ys : List (Option (ℕ × Option ℕ))) → x ∷ xs ≡ y ∷ ys → (x ≡ y) × (xs ≡ ys)
heads_split x y xs ys e = (ap (λ (l : List (Option (ℕ × Option ℕ))). first l) e, ap (drop 1) e)
  where
    first : List (Option (ℕ × Option ℕ)) → Option (ℕ × Option ℕ)
    first [] = None
    first (z ∷ zs) = z

module _ (found : Ids) (pick : BlockType → BlockType) (file : grammar.Module) (all : List (Option grammar.Function)) where
  abbrev r : ℕ → ℕ
  r = type_id (look_of found)

  -- at that number there is a function with the body that is meant
  abbrev pub BodyAt : ℕ → grammar.Function → grammar.Body → Type 0
  BodyAt n g x = (f : grammar.Function) × (slice_index_or all n None ≡ Some f) × (f.origin ≡ grammar.Own (body_meant found pick file n (param_count file g.ty) x))

  some_same : (f g : grammar.Function) → Some f ≡ Some g → f ≡ g
  some_same f g e = cc

  filled_same : (n : ℕ) (f g : grammar.Function) (o : grammar.Origin grammar.Body) → g.origin ≡ o → slice_index_or all n None ≡ Some f → Some (head_of same f) ≡ Some (r g.ty, brought_by o) → OriginHas BodyAt n g o
      → f ≡ record { ty = r g.ty; origin = origin_meant found pick file n g.ty o }
  filled_same n f g (grammar.Imported i) is at e h = function_is f (r g.ty) (grammar.Imported i) (head_ty e) (imported_is f.origin i (head_origin e))
  filled_same n f g (grammar.Own x) is at e (k, there, own) =
      function_is f (r g.ty) (grammar.Own (body_meant found pick file n (param_count file g.ty) x)) (head_ty e) (ap (λ (z : grammar.Function). z.origin) (some_same f k (sym at ∙ there)) ∙ own)

  slot_same : (n : ℕ) (x y : Option grammar.Function) → slice_index_or all n None ≡ x → option_map (head_of same) x ≡ option_map (head_of r) y → SlotHas BodyAt n y → x ≡ option_map (function_meant found pick file n) y
  slot_same n None None at e h = refl
  slot_same n None (Some g) at e h = absurd cc
  slot_same n (Some f) None at e h = absurd cc
  slot_same n (Some f) (Some g) at e h = ap (λ (z : grammar.Function). Some z) (filled_same n f g g.origin refl at e h)

  pub functions_same : (n : ℕ) (xs ys : List (Option grammar.Function)) → ((j : ℕ) → slice_index_or xs j None ≡ slice_index_or all (j + n) None) → heads same xs ≡ heads r ys → EachHas BodyAt n ys → xs ≡ each_from (function_meant found pick file) n ys
  functions_same n [] [] at e h = refl
  functions_same n [] (y ∷ ys) at e h = absurd cc
  functions_same n (x ∷ xs) [] at e h = absurd cc
  functions_same n (x ∷ xs) (y ∷ ys) at e h =
      let s = heads_split (option_map (head_of same) x) (option_map (head_of r) y) (heads same xs) (heads r ys) e in
      let here : slice_index_or all n None ≡ x = sym (at 0 ∙ ap (λ (k : ℕ). slice_index_or all k None) (let z : 0 + n ≡ n = omega arith in z)) in
      ap (λ (z : Option grammar.Function). z ∷ xs) (slot_same n x y here s.0 h.0)
      ∙ ap (λ (l : List (Option grammar.Function)). option_map (function_meant found pick file n) y ∷ l)
      (functions_same (suc n) xs ys (λ j. at (suc j) ∙ ap (λ (k : ℕ). slice_index_or all k None) (let z : suc j + n ≡ j + suc n = omega arith in z)) s.1 h.1)

-- ---- the same by number

pub at_start : {A : Type 0} (xs : List (Option A)) (n : ℕ) (x : A) → slice_get xs n ≡ Some (Some x) → slice_index_or xs n None ≡ Some x
at_start [] n x e = absurd cc
at_start (y ∷ xs) zero x e = cc
at_start (y ∷ xs) (suc n) x e = at_start xs n x e

module _ (P : ℕ → grammar.Function → grammar.Body → Type 0) where
  origin_at : (n : ℕ) (g : grammar.Function) (o : grammar.Origin grammar.Body) (x : grammar.Body) → o ≡ grammar.Own x → OriginHas P n g o → P n g x
  origin_at n g o x e h = subst (OriginHas P n g) e h

  pub has_at : (k : ℕ) (fs : List (Option grammar.Function)) (n : ℕ) (g : grammar.Function) (x : grammar.Body) → EachHas P k fs → slice_get fs n ≡ Some (Some g) → g.origin ≡ grammar.Own x → P (n + k) g x
  has_at k [] n g x h e o = absurd cc
  has_at k (f ∷ fs) zero g x h e o =
      let first : f ≡ Some g = cc in
      let z : k ≡ 0 + k = omega arith in
      subst (λ (j : ℕ). P j g x) z (origin_at k g g.origin x o (subst (SlotHas P k) first h.0))
  has_at k (f ∷ fs) (suc n) g x h e o = let z : n + suc k ≡ suc n + k = omega arith in subst (λ (j : ℕ). P j g x) z (has_at (suc k) fs n g x h.1 e o)

  origin_from : (n : ℕ) (g : grammar.Function) (o : grammar.Origin grammar.Body) → ((x : grammar.Body) → o ≡ grammar.Own x → P n g x) → OriginHas P n g o
  origin_from n g (grammar.Imported i) h = tt
  origin_from n g (grammar.Own x) h = h x refl

  slot_from : (n : ℕ) (f : Option grammar.Function) → ((g : grammar.Function) (x : grammar.Body) → f ≡ Some g → g.origin ≡ grammar.Own x → P n g x) → SlotHas P n f
  slot_from n None h = tt
  slot_from n (Some g) h = origin_from n g g.origin (λ x o. h g x refl o)

  pub has_from : (k : ℕ) (fs : List (Option grammar.Function)) → ((n : ℕ) (g : grammar.Function) (x : grammar.Body) → slice_get fs n ≡ Some (Some g) → g.origin ≡ grammar.Own x → P (n + k) g x) → EachHas P k fs
  has_from k [] h = tt
  has_from k (f ∷ fs) h = (
    slot_from k f (λ g x e o. let z : 0 + k ≡ k = omega arith in subst (λ (j : ℕ). P j g x) z (h 0 g x (ap (λ (y : Option grammar.Function). Some y) e) o)),
    has_from (suc k) fs (λ n g x e o. let z : suc n + k ≡ n + suc k = omega arith in subst (λ (j : ℕ). P j g x) z (h (suc n) g x e o)),
  )

-- the functions of two lists with the same heads have the same types
pub heads_at : (r : ℕ → ℕ) (xs ys : List (Option grammar.Function)) (n : ℕ) (f g : grammar.Function) → heads same xs ≡ heads r ys → slice_index_or xs n None ≡ Some f → slice_get ys n ≡ Some (Some g) → f.ty ≡ r g.ty
heads_at r [] ys n f g e a b = absurd cc
heads_at r (x ∷ xs) [] n f g e a b = absurd cc
heads_at r (x ∷ xs) (y ∷ ys) zero f g e a b =
    let first : y ≡ Some g = cc in
    let s = heads_split (option_map (head_of same) x) (option_map (head_of r) y) (heads same xs) (heads r ys) e in
    head_ty (sym (ap (option_map (head_of same)) a) ∙ s.0 ∙ ap (option_map (head_of r)) first)
heads_at r (x ∷ xs) (y ∷ ys) (suc n) f g e a b =
    heads_at r xs ys n f g (heads_split (option_map (head_of same) x) (option_map (head_of r) y) (heads same xs) (heads r ys) e).1 a b

-- ---- which functions want bodies

own_number : (types : List ℕ) (n : ℕ) (f : ReadFunction) (fs : List ReadFunction) (import : Option ℕ) → f.import ≡ import
    → bodiless_from (suc n) (functions_from types (suc n) fs) ≡ own_numbers (suc n) (map (λ (f : ReadFunction). Some (function_of f)) fs)
    → bodiless_from n (functions_from types n (f ∷ fs)) ≡ own_numbers n (map (λ (f : ReadFunction). Some (function_of f)) (f ∷ fs))
own_number types n f fs None is h = rw is (ap (λ (l : List ℕ). n ∷ l) h)
own_number types n f fs (Some i) is h = rw is h

pub own_are : (types : List ℕ) (n : ℕ) (fs : List ReadFunction) → bodiless_from n (functions_from types n fs) ≡ own_numbers n (map (λ (f : ReadFunction). Some (function_of f)) fs)
own_are types n [] = refl
own_are types n (f ∷ fs) = own_number types n f fs f.import refl (own_are types (suc n) fs)
