-- What a callback leaves that answers each number by one function.
use native.Mathlib.Nat.{ℕ_set}
use Rattle.std.proofs.Common.{ℕ, ◌≡◌, Bool, true, false, List, [], ◌∷◌, length, Option, Some, None, refl, sym, ap, subst, ◌∙◌}
use Rattle.std.proofs.lemmas.Bool.{ltb-true}
use Rattle.std.proofs.lemmas.List.{with_items_is}
use Rattle.std.specs.Prelude.{map, nat_lt, MatchBool, if◌then◌else◌}
use Rattle.std.specs.Option.{option_map}
use Rattle.std.specs.Vec.{with_items}
use Rattle.std.specs.declared.alloc.Global.{Global}
use Rattle.std.specs.declared.vec.Vec.{Vec}
use Rattle.walrus_arena.specs.Arena.{Arena}
use Rattle.walrus_builder.specs.declared.function.FunctionBuilder.{FunctionBuilder}
use Rattle.walrus_builder.specs.Functions.{seqs_of}
use Rattle.walrus_collections.specs.walrus_module_items.declared.function.Function.{Function}
use Rattle.walrus_collections.specs.walrus_module_items.declared.function.FunctionKind.{FunctionKind}
use Rattle.walrus_collections.specs.walrus_module_items.declared.function.FunctionKind.TheVariants.{Import, Local, Uninitialized}
use Rattle.walrus_walks.specs.walrus_instr.declared.instr.Instr.{Instr}
use Rattle.walrus_walks.specs.walrus_instr.declared.seq.InstrLocId.{InstrLocId}
use Rattle.walrus_walks.specs.walrus_instr.declared.seq.InstrSeq.{InstrSeq}
use Rattle.walrus_walks.specs.Changes.{Threads}
use Rattle.walrus_locations.specs.Sent.{BodySent, FunctionSent, FunctionsSent, ItemSent, KindSent, LocationSent, SeqSent, SlotSent}
use Rattle.walrus_locations.specs.Laws.{Answers, AnswersReplace, LocationsStay, body_by, function_by, functions_by, item_by, kind_by, location_by, seq_by}

-- a list whose items are each changed in turn as this says
replaced : {V A : Type 0} (R : V → A → V → A → Type 0) (by : A → A) → ((v w : V) (x y : A) → R v x w y → y ≡ by x) → (v w : V) (xs ys : List A) → Threads R v xs w ys → ys ≡ map by xs
replaced R by each v w [] [] t = refl
replaced R by each v w [] (y ∷ ys) t = absurd t
replaced R by each v w (x ∷ xs) [] t = absurd t
replaced {V} {A} R by each v w (x ∷ xs) (y ∷ ys) t = λ i. each v t.0 x y t.1 i ∷ replaced R by each t.0 w xs ys t.2 i

module _ {F : Type 0} (step : F → ℕ → InstrLocId → F → Type 0) (of : ℕ → InstrLocId) (answers : Answers step of) where
  location_is : (f g : F) (place after : InstrLocId) → LocationSent step f place g after → after ≡ location_by of place
  location_is f g place after h = by_test (nat_lt place.0 4294967295) refl h
    where
      by_test : (b : Bool) → b ≡ nat_lt place.0 4294967295 → MatchBool b (step f place.0 after g) ((after ≡ place) × (f ≡ g)) → after ≡ (if b then of place.0 else place)
      by_test true e s = answers f g place.0 after (ltb-true place.0 4294967295 (sym e)) s
      by_test false e s = s.0

  item_is : (f g : F) (item after : Instr × InstrLocId) → ItemSent step f item g after → after ≡ item_by of item
  item_is f g item after h = h.1 ∙ ap (λ (place : InstrLocId). (item.0, place)) (location_is f g item.1 h.0 h.2)

  seq_is : (f g : F) (s after : InstrSeq) → SeqSent step f s g after → after ≡ seq_by of s
  seq_is f g s after (items, end, made, sent) =
      let is : items ≡ map (item_by of) s.instrs.items = replaced (ItemSent step) (item_by of) item_is f sent.0 s.instrs.items items sent.1 in
      let ends : end ≡ location_by of s.end = location_is sent.0 g s.end end sent.2 in
      made ∙ (λ i. record s { instrs = with_items s.instrs (is i); end = ends i })

  body_is : (f g : F) (b after : FunctionBuilder) → BodySent step f b g after → after ≡ body_by of b
  body_is f g b after h =
      h.1 ∙ ap (λ (seqs : List InstrSeq). record b { builder = record b.builder { seqs = seqs } }) (replaced (SeqSent step) (seq_by of) seq_is f g (seqs_of b) h.0 h.2)

  kind_is : (f g : F) (kind after : FunctionKind) → KindSent step f kind g after → after ≡ kind_by of kind
  kind_is f g (Local local) after h = h.1 ∙ ap (λ (b : FunctionBuilder). Local (record local { builder = b })) (body_is f g local.builder h.0 h.2)
  kind_is f g (Import imported) after h = h.0
  kind_is f g (Uninitialized ty) after h = h.0

  function_is : (f g : F) (function after : Function) → FunctionSent step f function g after → after ≡ function_by of function
  function_is f g function after h = h.1 ∙ ap (λ (kind : FunctionKind). record function { kind = kind }) (kind_is f g function.kind h.0 h.2)

  slot_is : (f g : F) (slot after : Option Function) → SlotSent step f slot g after → after ≡ option_map (function_by of) slot
  slot_is f g (Some function) after h = h.1 ∙ ap (λ (x : Function). Some x) (function_is f g function h.0 h.2)
  slot_is f g None after h = h.0

  functions_are : (f g : F) (functions after : Arena Function) → FunctionsSent step f functions g after → after ≡ functions_by of functions
  functions_are f g functions after h =
      h.1 ∙ ap (λ (slots : List (Option Function)). record functions { slots = slots }) (replaced (SlotSent step) (option_map (function_by of)) slot_is f g functions.slots h.0 h.2)

pub answers_replace : {F : Type 0} (step : F → ℕ → InstrLocId → F → Type 0) → AnswersReplace step
answers_replace step of answers f g functions after h = functions_are step of answers f g functions after h

-- ---- where each number is answered by its location
abbrev own : ℕ → InstrLocId
own place = record { 0 = place }

location_stays : (place : InstrLocId) → location_by own place ≡ place
location_stays place = by_test (nat_lt place.0 4294967295)
  where
    by_test : (b : Bool) → (if b then own place.0 else place) ≡ place
    by_test true = refl
    by_test false = refl

stays : {A : Type 0} (by : A → A) → ((x : A) → by x ≡ x) → (xs : List A) → map by xs ≡ xs
stays by each [] = refl
stays by each (x ∷ xs) = λ i. each x i ∷ stays by each xs i

-- a vec that is written with what it holds stays
vec_stays : {X : Type 0} (v : Vec X Global) (xs : List X) → xs ≡ v.items → with_items v xs ≡ v
vec_stays {X} v xs e = over (with_items v xs).items is ((with_items v xs).ok.0)
  where
    is : (with_items v xs).items ≡ v.items
    is = with_items_is v xs (ap length e ∙ sym v.ok.0) ∙ e

    over : (ys : List X) → ys ≡ v.items → (p : v.len ≡ length ys) → record v { items = ys; ok = (p, v.ok.1) } ≡ v
    over ys q = subst (λ (zs : List X). (p : v.len ≡ length zs) → record v { items = zs; ok = (p, v.ok.1) } ≡ v) (sym q) (λ p i. record v { ok = (ℕ_set _ _ p v.ok.0 i, v.ok.1) })

item_stays : (item : Instr × InstrLocId) → item_by own item ≡ item
item_stays item = λ i. (item.0, location_stays item.1 i)

seq_stays : (s : InstrSeq) → seq_by own s ≡ s
seq_stays s = λ i. record s { instrs = vec_stays s.instrs (map (item_by own) s.instrs.items) (stays (item_by own) item_stays s.instrs.items) i; end = location_stays s.end i }

body_stays : (b : FunctionBuilder) → body_by own b ≡ b
body_stays b = λ i. record b { builder = record b.builder { seqs = stays (seq_by own) seq_stays (seqs_of b) i } }

kind_stays : (kind : FunctionKind) → kind_by own kind ≡ kind
kind_stays (Local local) = λ i. Local (record local { builder = body_stays local.builder i })
kind_stays (Import imported) = refl
kind_stays (Uninitialized ty) = refl

function_stays : (function : Function) → function_by own function ≡ function
function_stays function = λ i. record function { kind = kind_stays function.kind i }

slot_stays : (slot : Option Function) → option_map (function_by own) slot ≡ slot
slot_stays (Some function) = λ i. Some (function_stays function i)
slot_stays None = refl

functions_stay : (functions : Arena Function) → functions_by own functions ≡ functions
functions_stay functions = λ i. record functions { slots = stays (option_map (function_by own)) slot_stays functions.slots i }

pub locations_stay : {F : Type 0} (step : F → ℕ → InstrLocId → F → Type 0) → LocationsStay step
locations_stay step answers f g functions after h = functions_are step own answers f g functions after h ∙ functions_stay functions
