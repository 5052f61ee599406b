-- Lemmas: a declared segment that a plan lists last is as well one that it adds.
use Rattle.std.specs.Prelude.{ℕ, zero, suc, ◌≡◌, ◌<◌, List, [], ◌∷◌, ◌++◌, length, map, Option, Some, None, slice_get, slice_index_or, refl}
use Rattle.std.specs.List.{AllByRecursion, cons_option}
use Rattle.std.specs.Option.{option_map}
use Rattle.std.proofs.Common.{ap, sym, subst, ◌∙◌, arith, append-nil}
use Rattle.std.proofs.lemmas.List.{map-append}
use Rattle.wasm_grammar.specs.Modules.{Element, Import, Module}
use Rattle.wasm_operators.specs.Items.{Space, Types, Functions, Tables, Memories, Tags, Globals, ElementSegments, DataSegments, Locals, Labels}
use Rattle.wasm_part.specs.Closed.{IsListed}
use Rattle.wasm_part.specs.Order.{InOrder, OwnBefore, brought_by, brought_to, import_of}
use Rattle.wasm_part.specs.Part.{Plan, declaring, part, picked, renumbered_element}
use Rattle.walrus_types.proofs.Places.{left_at}
use Rattle.walrus_declared_laws.specs.Added.{LastSegmentsAreAdded, ListsLast, declared_element, declaring_plan, listed_but, with_segment}

front_slot : {A : Type 0} (xs ys : List (Option A)) (n : ℕ) → n < length xs → slice_index_or (xs ++ ys) n None ≡ slice_index_or xs n None
front_slot [] ys n lt = absurd (omega (arith, lt))
front_slot (x ∷ xs) ys zero lt = refl
front_slot (x ∷ xs) ys (suc n) lt = front_slot xs ys n (omega (arith, lt))

last_slot : {A : Type 0} (xs : List (Option A)) (y : Option A) → slice_index_or (xs ++ y ∷ []) (length xs) None ≡ y
last_slot [] y = refl
last_slot (x ∷ xs) y = last_slot xs y

picked_front : {A : Type 0} (f : A → A) (ns : List ℕ) (xs ys : List (Option A)) → AllByRecursion (λ (n : ℕ). n < length xs) ns → picked f ns (xs ++ ys) ≡ picked f ns xs
picked_front f [] xs ys below = refl
picked_front {A} f (n ∷ ns) xs ys below =
    let first : option_map f (slice_index_or (xs ++ ys) n None) ≡ option_map f (slice_index_or xs n None) = ap (option_map f) (front_slot xs ys n below.0) in
    let rest : picked f ns (xs ++ ys) ≡ picked f ns xs = picked_front f ns xs ys below.1 in
    λ i. first i ∷ rest i

-- no import brings a segment
brings_none : (o : Option Import) → brought_to ElementSegments o ≡ None
brings_none None = refl
brings_none (Some x) = refl

pub none_brought : (m : Module) (ns : List ℕ) → brought_by m ElementSegments ns ≡ []
none_brought m [] = refl
none_brought m (n ∷ ns) =
    ap (λ (o : Option ℕ). cons_option o (brought_by m ElementSegments ns)) (brings_none (slice_index_or m.imports n None)) ∙ none_brought m ns

all_front : (P : ℕ → Type 0) (xs ys : List ℕ) → AllByRecursion P (xs ++ ys) → AllByRecursion P xs
all_front P [] ys all = tt
all_front P (x ∷ xs) ys all = (all.0, all_front P xs ys all.1)

module _ (q : Plan) (m : Module) (es ns : List ℕ) (h : ListsLast q m es) where
  abbrev p : Plan
  p = declaring_plan es ns q

  abbrev k : Module
  k = with_segment ns m

  abbrev slot : Option Element
  slot = Some (declared_element ns)

  abbrev f : Element → Element
  f = renumbered_element q.renames

  elements_same : (part q k).elements ≡ (part p m).elements
  elements_same =
      let n : ℕ = length m.elements in
      let last : picked f (n ∷ []) (m.elements ++ slot ∷ []) ≡ Some (declaring q.renames ns) ∷ [] = ap (λ (o : Option Element). option_map f o ∷ []) (last_slot m.elements slot) in
      ap (λ (l : List (List ℕ)). picked f (q.listed ElementSegments) (m.elements ++ slot ∷ []) ++ map (λ (fs : List ℕ). let o : Option Element = Some (declaring q.renames fs) in o) l) h.none
      ∙ append-nil (picked f (q.listed ElementSegments) (m.elements ++ slot ∷ []))
      ∙ ap (λ (l : List ℕ). picked f l (m.elements ++ slot ∷ [])) h.listed
      ∙ map-append (λ (j : ℕ). option_map f (slice_index_or (m.elements ++ slot ∷ []) j None)) es (n ∷ [])
      ∙ ap (λ (l : List (Option Element)). l ++ picked f (n ∷ []) (m.elements ++ slot ∷ [])) (picked_front f es m.elements (slot ∷ []) h.below)
      ∙ ap (λ (l : List (Option Element)). picked f es m.elements ++ l) last

  part_same : part q k ≡ part p m
  part_same = ap (λ (l : List (Option Element)). record (part p m) { elements = l }) elements_same

  module _ (o : InOrder k q) where
    abbrev own : Space → List ℕ
    own = listed_but es o.own

    -- the segments are the module's own
    own_elements : o.own ElementSegments ≡ es ++ length m.elements ∷ []
    own_elements = sym (ap (λ (l : List ℕ). l ++ o.own ElementSegments) (none_brought k q.imports)) ∙ sym (o.listed ElementSegments tt) ∙ h.listed

    listed : (space : Space) → IsListed space → p.listed space ≡ brought_by m space p.imports ++ own space
    listed Types is = absurd is
    listed Functions is = o.listed Functions is
    listed Tables is = o.listed Tables is
    listed Memories is = o.listed Memories is
    listed Tags is = o.listed Tags is
    listed Globals is = o.listed Globals is
    listed ElementSegments is = sym (ap (λ (l : List ℕ). l ++ es) (none_brought m p.imports))
    listed DataSegments is = o.listed DataSegments is
    listed Locals is = absurd is
    listed Labels is = absurd is

    are_own : (space : Space) → IsListed space → AllByRecursion (λ (n : ℕ). import_of m space n ≡ None) (own space)
    are_own Types is = absurd is
    are_own Functions is = o.are_own Functions is
    are_own Tables is = o.are_own Tables is
    are_own Memories is = o.are_own Memories is
    are_own Tags is = o.are_own Tags is
    are_own Globals is = o.are_own Globals is
    are_own ElementSegments is = all_front (λ (n : ℕ). import_of m ElementSegments n ≡ None) es (length m.elements ∷ []) (subst (λ (l : List ℕ). AllByRecursion (λ (n : ℕ). import_of m ElementSegments n ≡ None) l) own_elements (o.are_own ElementSegments tt))
    are_own DataSegments is = o.are_own DataSegments is
    are_own Locals is = absurd is
    are_own Labels is = absurd is

    ordered : (space : Space) → IsListed space → (i j a b : ℕ) → i < j → slice_get (own space) i ≡ Some a → slice_get (own space) j ≡ Some b → OwnBefore m space a b
    ordered Types is = absurd is
    ordered Functions is = o.ordered Functions is
    ordered Tables is = o.ordered Tables is
    ordered Memories is = o.ordered Memories is
    ordered Tags is = o.ordered Tags is
    ordered Globals is = o.ordered Globals is
    ordered ElementSegments is = λ i j a b before at_i at_j.
        o.ordered ElementSegments tt i j a b before (ap (λ (l : List ℕ). slice_get l i) own_elements ∙ left_at es (length m.elements ∷ []) i a at_i)
        (ap (λ (l : List ℕ). slice_get l j) own_elements ∙ left_at es (length m.elements ∷ []) j b at_j)
    ordered DataSegments is = o.ordered DataSegments is
    ordered Locals is = absurd is
    ordered Labels is = absurd is

    in_order : InOrder m p
    in_order = record { imports = o.imports; brings = o.brings; own = own; listed = listed; are_own = are_own; ordered = ordered }

pub last_added : LastSegmentsAreAdded
last_added q m es ns h = record { same = part_same q m es ns h; ordered = λ o. in_order q m es ns h o }
