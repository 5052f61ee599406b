-- Lemmas: the functions that have bodies are written by falling size.
use Rattle.std.specs.Prelude.{ℕ, zero, suc, ◌≡◌, ◌<◌, ◌≤◌, ◌+◌, ◌⊎◌, Bool, true, false, List, [], ◌∷◌, ◌++◌, length, map, Option, Some, None, slice_get, slice_index_or, refl, if◌then◌else◌}
use Rattle.std.specs.List.{cons_option}
use Rattle.std.specs.Option.{option_map}
use Rattle.std.proofs.Common.{ap, sym, ◌∙◌, arith, inl, inr}
use Rattle.std.proofs.lemmas.Option.{none-some, same_Some}
use Rattle.walrus_types.proofs.Places.{append_at}
use Rattle.wasm_formats.specs.declared.fault.Space.{Space as FileSpace}
use Rattle.wasm_formats.specs.declared.fault.Space.TheVariants as spaces
use Rattle.wasm_operators.specs.Items.{Types, Functions}
use Rattle.wasm_operators.specs.Names.{Renaming}
use Rattle.wasm_grammar.specs.Modules.{Body, Function, Import, Imported, Module, Origin, Own, Placed}
use Rattle.wasm_import_links.specs.Links.{ImportsLink, brought, function_brought, origin_import, slot_import}
use Rattle.wasm_module_bytes.specs.Bytes.{origin_unplaced, slot_unplaced, without_places}
use Rattle.wasm_merged_modules.specs.Merged.{merged_module}
use Rattle.wasm_normal_form.specs.Normal.{size}
use Rattle.wasm_normal_form.specs.Roles.{role, weight_of}
use Rattle.wasm_ruled_normal.specs.Normal.{text_of}
use Rattle.wasm_part.specs.Handlers.{handler_groups}
use Rattle.wasm_part.specs.Part.{Plan, part, picked, renumbered_body, renumbered_function, renumbered_own, renumbered_placed}
use Rattle.wasm_part.specs.Order.{InOrder, brought_by, brought_to, is_to, size_of, slot_size}
use Rattle.wasm_rewritten.specs.Orderly.{ReadFilesAreOrderly}
use Rattle.wasm_rewriting_laws.specs.Fall.{HasBody, WrittenFunctionsFall}
use Rattle.wasm_rewriting_laws.proofs.Placeless.{at_slot}
use Rattle.wasm_rewriting_laws.proofs.Told.{map_slot}
use Rattle.wasm_rewriting_laws.proofs.Unplaced.{slot_sized}

-- ---- sizes

ops_sized : (r : Renaming) (ops : List Placed) → size (text_of (map (renumbered_placed r) ops)) ≡ size (text_of ops)
ops_sized r [] = refl
ops_sized r (o ∷ ops) = ap (λ (n : ℕ). weight_of (role o.op) + n) (ops_sized r ops)

renumbered_sized : (p : Plan) (o : Option Function) → slot_size (option_map (renumbered_function p.renames p.brings) o) ≡ slot_size o
renumbered_sized p None = refl
renumbered_sized p (Some f) = by f.origin
  where
    by : (o : Origin Body) → slot_size (Some (record { ty = p.renames Types f.ty; origin = renumbered_own p.renames p.brings (renumbered_body p.renames) o })) ≡ slot_size (Some (record { ty = f.ty; origin = o }))
    by (Imported i) = refl
    by (Own x) = ops_sized p.renames x.operators

-- ---- slots that were picked

record Picked {A : Type 0} (f : A → A) (ns : List ℕ) (xs : List (Option A)) (i : ℕ) (y : A) : Type 0 where
  number : ℕ
  listed : slice_get ns i ≡ Some number
  item : A
  there : slice_index_or xs number None ≡ Some item
  is : f item ≡ y

from_slot : {A : Type 0} (f : A → A) (o : Option A) (y : A) → option_map f o ≡ Some y → (x : A) × (o ≡ Some x) × (f x ≡ y)
from_slot f None y e = absurd (none-some y e)
from_slot f (Some x) y e = (x, refl, same_Some (f x) y e)

picked_from : {A : Type 0} (f : A → A) (ns : List ℕ) (xs : List (Option A)) (i : ℕ) (y : A) → slice_index_or (picked f ns xs) i None ≡ Some y → Picked f ns xs i y
picked_from f [] xs i y e = absurd (none-some y e)
picked_from f (n ∷ ns) xs zero y e = let x = from_slot f (slice_index_or xs n None) y e in record { number = n; listed = refl; item = x.0; there = x.1; is = x.2 }
picked_from f (n ∷ ns) xs (suc i) y e = let r = picked_from f ns xs i y e in record { number = r.number; listed = r.listed; item = r.item; there = r.there; is = r.is }

-- ---- what imports bring

function_is : (space : FileSpace) → is_to Functions space ≡ true → space ≡ spaces.Function
function_is spaces.Function e = refl
function_is spaces.«Type» e = absurd cc
function_is spaces.Table e = absurd cc
function_is spaces.Memory e = absurd cc
function_is spaces.Tag e = absurd cc
function_is spaces.Global e = absurd cc
function_is spaces.Element e = absurd cc
function_is spaces.Data e = absurd cc
function_is spaces.Local e = absurd cc
function_is spaces.Label e = absurd cc

-- an import brings this function
abbrev IsBrought : Module → ℕ → Type 0
IsBrought m n = (k : ℕ) × (x : Import) × (slice_index_or m.imports k None ≡ Some x) × (x.item.space ≡ spaces.Function) × (x.item.number ≡ n)

to_one : (space : FileSpace) (n k : ℕ) (b : Bool) → is_to Functions space ≡ b → (if b then Some k else None) ≡ Some n → (space ≡ spaces.Function) × (k ≡ n)
to_one space n k true is e = (function_is space is, same_Some k n e)
to_one space n k false is e = absurd (none-some n e)

from_import : (m : Module) (k n : ℕ) (o : Option Import) → slice_index_or m.imports k None ≡ o → brought_to Functions o ≡ Some n → IsBrought m n
from_import m k n None at e = absurd (none-some n e)
from_import m k n (Some x) at e = let to = to_one x.item.space n x.item.number (is_to Functions x.item.space) refl e in (k, x, at, to.0, to.1)

brought_one : (m : Module) (k n : ℕ) (rest : List ℕ) → ((i : ℕ) → slice_get rest i ≡ Some n → IsBrought m n) → (o : Option ℕ) → brought_to Functions (slice_index_or m.imports k None) ≡ o
    → (i : ℕ) → slice_get (cons_option o rest) i ≡ Some n → IsBrought m n
brought_one m k n rest later None is i at = later i at
brought_one m k n rest later (Some j) is zero at = from_import m k n (slice_index_or m.imports k None) refl (is ∙ at)
brought_one m k n rest later (Some j) is (suc i) at = later i at

from_brought : (m : Module) (ks : List ℕ) (i n : ℕ) → slice_get (brought_by m Functions ks) i ≡ Some n → IsBrought m n
from_brought m [] i n at = absurd (none-some n at)
from_brought m (k ∷ ks) i n at =
    brought_one m k n (brought_by m Functions ks) (λ i at. from_brought m ks i n at) (brought_to Functions (slice_index_or m.imports k None)) refl i at

-- a function that an import brings has no body
no_body : (m : Module) → ImportsLink m → (n : ℕ) (f : Function) (x : Body) → slice_index_or m.functions n None ≡ Some f → f.origin ≡ Own x → IsBrought m n → ⊥
no_body m linked n f x at own b =
    let named = linked.named b.0 b.1 b.2 in
    let here : slice_index_or (brought m spaces.Function) n None ≡ Some b.0 =
    ap (λ (k : ℕ). slice_index_or (brought m spaces.Function) k None) (sym b.4) ∙ ap (λ (s : FileSpace). slice_index_or (brought m s) b.1.item.number None) (sym b.3) ∙ named in
    let none : slice_index_or (brought m spaces.Function) n None ≡ None =
    map_slot function_brought m.functions n ∙ ap (λ (o : Option Function). slot_import function_brought o) at ∙ ap (λ (o : Origin Body). origin_import o) own in
    none-some b.0 (sym none ∙ here)

-- ---- the order

own_from : (p : Plan) (o : Origin Body) (y : Body) → renumbered_own p.renames p.brings (renumbered_body p.renames) o ≡ Own y → (x : Body) × (o ≡ Own x)
own_from p (Imported i) y e = absurd cc
own_from p (Own x) y e = (x, refl)

unplaced_own : (o : Origin Body) (q : Origin Body) (y : Body) → origin_unplaced o ≡ origin_unplaced q → q ≡ Own y → (x : Body) × (o ≡ Own x)
unplaced_own (Own x) q y e is = (x, refl)
unplaced_own (Imported i) (Own z) y e is = absurd cc
unplaced_own (Imported i) (Imported j) y e is = absurd cc

unplaced_from : (o : Option Function) (f : Function) → slot_unplaced o ≡ slot_unplaced (Some f) → (g : Function) × (o ≡ Some g) × (origin_unplaced g.origin ≡ origin_unplaced f.origin)
unplaced_from None f e = absurd cc
unplaced_from (Some g) f e =
    let a : Function = record { ty = g.ty; origin = origin_unplaced g.origin } in
    let b : Function = record { ty = f.ty; origin = origin_unplaced f.origin } in
    (g, refl, ap (λ (h : Function). h.origin) (same_Some a b e))

sizes_fall : (s t a b : ℕ) → (t < s) ⊎ ((s ≡ t) × (a < b)) → t ≤ s
sizes_fall s t a b (inl x) = omega (arith, x)
sizes_fall s t a b (inr x) = let e = x.0 in omega (arith, e)

module _ (m n : Module) (p : Plan) (linked : ImportsLink m) (order : InOrder m p) (whole : without_places n ≡ record (without_places (part p m)) { customs = n.customs }) where
  slots_same : (i : ℕ) → slot_unplaced (slice_index_or n.functions i None) ≡ slot_unplaced (slice_index_or (part p m).functions i None)
  slots_same i = sym (at_slot n.functions i) ∙ ap (λ (k : Module). slice_index_or k.functions i None) whole ∙ at_slot (part p m).functions i

  -- the function of the module that a written one with a body stands for
  record StandsFor (i : ℕ) : Type 0 where
    number : ℕ
    place : ℕ
    behind : length (brought_by m Functions p.imports) + place ≡ i
    own : slice_get (order.own Functions) place ≡ Some number
    sized : size_of n i ≡ size_of m number

  stands_for : (i : ℕ) → HasBody n i → StandsFor i
  stands_for i h =
      let g = unplaced_from (slice_index_or (part p m).functions i None) h.function (sym (slots_same i) ∙ ap slot_unplaced h.there) in
      let r = picked_from (renumbered_function p.renames p.brings) (p.listed Functions) m.functions i g.0 g.1 in
      let y = unplaced_own g.0.origin h.function.origin h.body g.2 h.own in
      let x = own_from p r.item.origin y.0 (ap (λ (f : Function). f.origin) r.is ∙ y.1) in
      let sized : size_of n i ≡ size_of m r.number =
      sym (slot_sized (slice_index_or n.functions i None)) ∙ ap slot_size (slots_same i) ∙ slot_sized (slice_index_or (part p m).functions i None)
      ∙ ap slot_size (g.1 ∙ ap (λ (f : Function). Some f) (sym r.is)) ∙ renumbered_sized p (Some r.item) ∙ ap slot_size (sym r.there) in
      let b : List ℕ = brought_by m Functions p.imports in
      let at : slice_get (b ++ order.own Functions) i ≡ Some r.number = ap (λ (l : List ℕ). slice_get l i) (sym (order.listed Functions tt)) ∙ r.listed in
      elim (append_at b (order.own Functions) i r.number at) as (λ _. StandsFor i) [
        | inl front ↦ absurd (no_body m linked r.number r.item x.0 r.there x.1 (from_brought m p.imports i r.number front))
        | inr back ↦ record { number = r.number; place = back.0; behind = back.1; own = back.2; sized = sized }
      ]

  fall : (f g : ℕ) → HasBody n f → HasBody n g → f < g → size_of n g ≤ size_of n f
  fall f g hf hg less =
      let a = stands_for f hf in
      let b = stands_for g hg in
      let first = a.behind in
      let second = b.behind in
      let before = order.ordered Functions tt a.place b.place a.number b.number (omega (arith, less, first, second)) a.own b.own in
      let le = sizes_fall (size_of m a.number) (size_of m b.number) a.number b.number before in
      let one = a.sized in
      let two = b.sized in
      omega (arith, le, one, two)

pub functions_fall : ReadFilesAreOrderly → WrittenFunctionsFall
functions_fall orderly place names producers keep features input bytes places w f g hf hg less =
    fall (merged_module place features true (handler_groups w.file) w.file) w.n w.p (orderly place features input (handler_groups w.file) w.file w.reads).0.linked w.stands.ordered w.stands.whole f g hf hg less
