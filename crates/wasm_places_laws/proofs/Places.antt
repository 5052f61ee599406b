-- Lemmas: the pairs of the bodies of functions, and those of a part.
use Rattle.std.specs.Prelude.{ℕ, zero, suc, ◌<◌, ◌≤◌, ◌≡◌, List, [], ◌∷◌, AllPairs, Contains, Option, Some, None, slice_get, slice_index_or, refl}
use Rattle.std.specs.Option.{option_map}
use Rattle.std.proofs.Common.{ap, sym, ◌∙◌, subst, inl, inr, arith}
use Rattle.std.proofs.lemmas.List.{length-append}
use Rattle.std.proofs.lemmas.List.Elements.{Contains-append_cases, Contains-append_left, Contains-append_right}
use Rattle.wasm_operators.specs.Items.{Functions}
use Rattle.wasm_operators.specs.Names.{Renaming}
use Rattle.wasm_grammar.specs.Modules.{Origin, Imported, Own, Placed, Body, Function, Module}
use Rattle.wasm_body_grammar.specs.Codes.{param_count}
use Rattle.wasm_body_grammar.specs.Rules.{Around}
use Rattle.wasm_grammar_bytes.specs.Bodies.{runs_bytes}
use Rattle.wasm_grammar_bytes.specs.Maximal.{maximal_of}
use Rattle.wasm_part.specs.Part.{Plan, part, picked, renumbered_body, renumbered_function, renumbered_own, renumbered_placed}
use Rattle.wasm_part.proofs.Picked.{picked_at}
use Rattle.wasm_rewritten.specs.Places.{HasOperator, IsTruePair}
use Rattle.wasm_places_laws.specs.Begun.{behind_origin, behind_size, behind_slot, body_begun, first_body, first_operator, functions_begun, module_begun, origin_begun, slot_begun}
use Rattle.wasm_places_laws.specs.Pairs.{functions_pairs, module_pairs, origin_pairs, slot_pairs}
use Rattle.wasm_places_laws.specs.Places.{FunctionsAtPlaces, PartPairsArePlaces}
use Rattle.wasm_places_laws.proofs.Bodies.{Below, ops_bytes, pair_in, pair_of, rising, within}
use Rattle.wasm_places_laws.proofs.Lists.{all_in, map_at, map_back, nothing, pairs_joined, some_is}

own_is : (x y : Body) → (let own : Body → Origin Body = λ z. Own z in own x ≡ own y) → x ≡ y
own_is x y e = cc

-- the i-th operator of the body of the function at this place
record OperatorAt (fs : List (Option Function)) (g i : ℕ) (o : Placed) : Type 0 where
  pub function : Function
  pub there : slice_index_or fs g None ≡ Some function
  pub body : Body
  pub own : function.origin ≡ Own body
  pub at : slice_get body.operators i ≡ Some o

record PairAt (none : ℕ) (sources targets : List (Option Function)) (old new : ℕ) : Type 0 where
  pub g : ℕ
  pub i : ℕ
  pub source : Placed
  pub target : Placed
  pub carries : OperatorAt sources g i source
  pub from : source.place ≡ old
  pub some : old ≡ none → ⊥
  pub stands : OperatorAt targets g i target
  pub to : target.place ≡ new

-- one further on
later : (f : Option Function) (fs : List (Option Function)) (g i : ℕ) (o : Placed) → OperatorAt fs g i o → OperatorAt (f ∷ fs) (suc g) i o
later f fs g i o h = record { function = h.function; there = h.there; body = h.body; own = h.own; at = h.at }

behind : (f : Option Function) (fs : List (Option Function)) (g i : ℕ) (o : Placed) → OperatorAt (f ∷ fs) (suc g) i o → OperatorAt fs g i o
behind f fs g i o h = record { function = h.function; there = h.there; body = h.body; own = h.own; at = h.at }

module _ (none : ℕ) (a : Around) where
  -- ---- a pair is true

  of_origin : (ty at : ℕ) (o : Origin Body) (fs gs : List (Option Function)) (q : ℕ × ℕ) → Contains (origin_pairs none a (param_count a.filled ty) at o) q
      → PairAt none (Some (record { ty = ty; origin = o }) ∷ fs) (slot_begun a at (Some (record { ty = ty; origin = o })) ∷ gs) q.0 q.1
  of_origin ty at (Imported n) fs gs q c = nothing q c
  of_origin ty at (Own x) fs gs q c =
      let params = param_count a.filled ty in
      let begins = behind_size a params at x in
      let r = pair_of none (first_operator a params begins x) x.operators q c in record {
        g = 0;
        i = r.i;
        source = r.source;
        target = r.target;
        carries = record { function = record { ty = ty; origin = Own x }; there = refl; body = x; own = refl; at = r.carries };
        from = r.from;
        some = r.some;
        stands = record { function = record { ty = ty; origin = Own (body_begun a params begins x) }; there = refl; body = body_begun a params begins x; own = refl; at = r.stands };
        to = r.to;
      }

  of_slot : (at : ℕ) (f : Option Function) (fs gs : List (Option Function)) (q : ℕ × ℕ) → Contains (slot_pairs none a at f) q → PairAt none (f ∷ fs) (slot_begun a at f ∷ gs) q.0 q.1
  of_slot at None fs gs q c = nothing q c
  of_slot at (Some f) fs gs q c = of_origin f.ty at f.origin fs gs q c

  of_functions : (at : ℕ) (fs : List (Option Function)) (q : ℕ × ℕ) → Contains (functions_pairs none a at fs) q → PairAt none fs (functions_begun a at fs) q.0 q.1
  of_functions at [] q c = nothing q c
  of_functions at (f ∷ fs) q c =
      let next = behind_slot a at f in
      let gs = functions_begun a next fs in
      elim (Contains-append_cases (slot_pairs none a at f) (functions_pairs none a next fs) q c) as (λ _. PairAt none (f ∷ fs) (slot_begun a at f ∷ functions_begun a (behind_slot a at f) fs) q.0 q.1) [
        | inl here ↦ of_slot at f fs gs q here
        | inr further ↦ let r = of_functions next fs q further in record {
          g = suc r.g;
          i = r.i;
          source = r.source;
          target = r.target;
          carries = later f fs r.g r.i r.source r.carries;
          from = r.from;
          some = r.some;
          stands = later (slot_begun a at f) gs r.g r.i r.target r.stands;
          to = r.to;
        }
      ]

  -- ---- all true pairs are there

  in_origin : (params at i : ℕ) (s t : Placed) (o : Origin Body) (x y : Body) → o ≡ Own x → origin_begun a params at o ≡ Own y → slice_get x.operators i ≡ Some s → slice_get y.operators i ≡ Some t
      → (s.place ≡ none → ⊥) → Contains (origin_pairs none a params at o) (s.place, t.place)
  in_origin params at i s t (Imported n) x y e f g h some = absurd cc
  in_origin params at i s t (Own z) x y e f g h some =
      let begins = behind_size a params at z in
      let source = subst (λ (b : Body). slice_get b.operators i ≡ Some s) (sym (own_is z x e)) g in
      let target = subst (λ (b : Body). slice_get b.operators i ≡ Some t) (sym (own_is (body_begun a params begins z) y f)) h in
      pair_in none (first_operator a params begins z) z.operators i s t source target some

  in_slot : (at i : ℕ) (s t : Placed) (f : Option Function) (fs gs : List (Option Function)) → OperatorAt (f ∷ fs) 0 i s → OperatorAt (slot_begun a at f ∷ gs) 0 i t → (s.place ≡ none → ⊥)
      → Contains (slot_pairs none a at f) (s.place, t.place)
  in_slot at i s t None fs gs h k some = let e = h.there in absurd cc
  in_slot at i s t (Some f) fs gs h k some =
      let params = param_count a.filled f.ty in
      let source = ap (λ (f : Function). f.origin) (some_is f h.function h.there) ∙ h.own in
      let target = ap (λ (f : Function). f.origin) (some_is (record { ty = f.ty; origin = origin_begun a params at f.origin }) k.function k.there) ∙ k.own in
      in_origin params at i s t f.origin h.body k.body source target h.at k.at some

  in_functions : (at : ℕ) (fs : List (Option Function)) (g i : ℕ) (s t : Placed) → OperatorAt fs g i s → OperatorAt (functions_begun a at fs) g i t → (s.place ≡ none → ⊥)
      → Contains (functions_pairs none a at fs) (s.place, t.place)
  in_functions at [] g i s t h k some = let e = h.there in absurd cc
  in_functions at (f ∷ fs) zero i s t h k some =
      let next = behind_slot a at f in
      Contains-append_left (slot_pairs none a at f) (functions_pairs none a next fs) (s.place, t.place) (in_slot at i s t f fs (functions_begun a next fs) h k some)
  in_functions at (f ∷ fs) (suc g) i s t h k some =
      let next = behind_slot a at f in
      let there = in_functions next fs g i s t (behind f fs g i s h) (behind (slot_begun a at f) (functions_begun a next fs) g i t k) some in
      Contains-append_right (slot_pairs none a at f) (functions_pairs none a next fs) (s.place, t.place) there

  -- ---- they rise

  origin_within : (params at : ℕ) (o : Origin Body) (q : ℕ × ℕ) → Contains (origin_pairs none a params at o) q → (at ≤ q.1) × (q.1 < behind_origin a params at o)
  origin_within params at (Imported n) q c = nothing q c
  origin_within params at (Own x) q c =
      let runs = runs_bytes a params (maximal_of x.locals) in
      let all = length-append runs (ops_bytes x.operators) in
      let r = within none (first_operator a params (behind_size a params at x) x) x.operators q c in
      let low = r.0 in
      let high = r.1 in
      (omega (arith, low), omega (arith, high, all))

  slot_within : (at : ℕ) (f : Option Function) (q : ℕ × ℕ) → Contains (slot_pairs none a at f) q → (at ≤ q.1) × (q.1 < behind_slot a at f)
  slot_within at None q c = nothing q c
  slot_within at (Some f) q c = origin_within (param_count a.filled f.ty) at f.origin q c

  origin_further : (params at : ℕ) (o : Origin Body) → at ≤ behind_origin a params at o
  origin_further params at (Imported n) = omega arith
  origin_further params at (Own x) = omega arith

  slot_further : (at : ℕ) (f : Option Function) → at ≤ behind_slot a at f
  slot_further at None = omega arith
  slot_further at (Some f) = origin_further (param_count a.filled f.ty) at f.origin

  functions_from : (at : ℕ) (fs : List (Option Function)) (q : ℕ × ℕ) → Contains (functions_pairs none a at fs) q → at ≤ q.1
  functions_from at [] q c = nothing q c
  functions_from at (f ∷ fs) q c =
      let next = behind_slot a at f in
      elim (Contains-append_cases (slot_pairs none a at f) (functions_pairs none a next fs) q c) as (λ _. at ≤ q.1) [
        | inl here ↦ (slot_within at f q here).0
        | inr further ↦ let low = functions_from next fs q further in let step = slot_further at f in omega (arith, low, step)
      ]

  origin_rising : (params at : ℕ) (o : Origin Body) → AllPairs (Below none) (origin_pairs none a params at o)
  origin_rising params at (Imported n) = λ i j d before inside. absurd (omega (arith, inside))
  origin_rising params at (Own x) = rising none (first_operator a params (behind_size a params at x) x) x.operators

  slot_rising : (at : ℕ) (f : Option Function) → AllPairs (Below none) (slot_pairs none a at f)
  slot_rising at None = λ i j d before inside. absurd (omega (arith, inside))
  slot_rising at (Some f) = origin_rising (param_count a.filled f.ty) at f.origin

  functions_rising : (at : ℕ) (fs : List (Option Function)) → AllPairs (Below none) (functions_pairs none a at fs)
  functions_rising at [] = λ i j d before inside. absurd (omega (arith, inside))
  functions_rising at (f ∷ fs) =
      let next = behind_slot a at f in
      pairs_joined (Below none) (slot_pairs none a at f) (functions_pairs none a next fs) (slot_rising at f) (functions_rising next fs)
      (λ q r here further. let high = (slot_within at f q here).1 in let low = functions_from next fs r further in omega (arith, high, low))

-- ---- the functions of a part

mapped_back : {A B : Type 0} (f : A → B) (o : Option A) (y : B) → option_map f o ≡ Some y → (x : A) × (o ≡ Some x) × (f x ≡ y)
mapped_back f None y e = absurd cc
mapped_back f (Some x) y e = (x, refl, some_is (f x) y e)

picked_back : {A : Type 0} (f : A → A) (ns : List ℕ) (xs : List (Option A)) (g : ℕ) (y : A) → slice_index_or (picked f ns xs) g None ≡ Some y
    → (n : ℕ) × (slice_get ns g ≡ Some n) × ((x : A) × (slice_index_or xs n None ≡ Some x) × (f x ≡ y))
picked_back f [] xs g y e = absurd cc
picked_back f (n ∷ ns) xs zero y e = (n, refl, mapped_back f (slice_index_or xs n None) y e)
picked_back f (n ∷ ns) xs (suc g) y e = picked_back f ns xs g y e

own_back : (r : Renaming) (brings : ℕ → ℕ) (o : Origin Body) (y : Body) → renumbered_own r brings (renumbered_body r) o ≡ Own y → (x : Body) × (o ≡ Own x) × (renumbered_body r x ≡ y)
own_back r brings (Imported n) y e = absurd cc
own_back r brings (Own x) y e = (x, refl, own_is (renumbered_body r x) y e)

module _ (m : Module) (p : Plan) where
  abbrev fs : List (Option Function)
  fs = (part p m).functions

  -- an operator of the part is one of the module, renamed
  comes_from : (g i : ℕ) (o : Placed) → OperatorAt fs g i o → (n : ℕ) × (slice_get (p.listed Functions) g ≡ Some n) × ((s : Placed) × HasOperator m n i s × (s.place ≡ o.place))
  comes_from g i o h =
      let slot = picked_back (renumbered_function p.renames p.brings) (p.listed Functions) m.functions g h.function h.there in
      let function = slot.2.0 in
      let own = own_back p.renames p.brings function.origin h.body (ap (λ (f : Function). f.origin) slot.2.2 ∙ h.own) in
      let there = subst (λ (b : Body). slice_get b.operators i ≡ Some o) (sym own.2) h.at in
      let operator = map_back (renumbered_placed p.renames) own.0.operators i o there in (
        slot.0,
        slot.1,
        (operator.0, record { function = function; there = slot.2.1; body = own.0; own = own.1; at = operator.1 }, ap (λ (p : Placed). p.place) operator.2),
      )

  goes_to : (g n i : ℕ) (s : Placed) → slice_get (p.listed Functions) g ≡ Some n → HasOperator m n i s → OperatorAt fs g i (renumbered_placed p.renames s)
  goes_to g n i s e h = record {
    function = renumbered_function p.renames p.brings h.function;
    there = picked_at (renumbered_function p.renames p.brings) m.functions (p.listed Functions) g n e ∙ ap (option_map (renumbered_function p.renames p.brings)) h.there;
    body = renumbered_body p.renames h.body;
    own = ap (renumbered_own p.renames p.brings (renumbered_body p.renames)) h.own;
    at = map_at (renumbered_placed p.renames) h.body.operators i s h.at;
  }

at_module : (n : Module) (gs : List (Option Function)) (g i : ℕ) (o : Placed) → n.functions ≡ gs → OperatorAt gs g i o → HasOperator n g i o
at_module n gs g i o e h = record {
  function = h.function;
  there = ap (λ (l : List (Option Function)). slice_index_or l g None) e ∙ h.there;
  body = h.body;
  own = h.own;
  at = h.at;
}

of_module : (n : Module) (gs : List (Option Function)) (g i : ℕ) (o : Placed) → n.functions ≡ gs → HasOperator n g i o → OperatorAt gs g i o
of_module n gs g i o e h = record {
  function = h.function;
  there = ap (λ (l : List (Option Function)). slice_index_or l g None) (sym e) ∙ h.there;
  body = h.body;
  own = h.own;
  at = h.at;
}

module _ (none : ℕ) (a : Around) (normal n : Module) (p : Plan) (places : FunctionsAtPlaces p) (same : n.functions ≡ (module_begun a (part p normal)).functions) where
  abbrev at : ℕ
  at = first_body a (part p normal)

  abbrev sources : List (Option Function)
  sources = (part p normal).functions

  abbrev targets : List (Option Function)
  targets = functions_begun a at sources

  is_true : (q : ℕ × ℕ) → Contains (module_pairs none a (part p normal)) q → IsTruePair none normal n p q.0 q.1
  is_true q c =
      let r = of_functions none a at sources q c in
      let back = comes_from normal p r.g r.i r.source r.carries in
      let number = places r.g back.0 back.1 in
      let from = back.2.2 ∙ r.from in
      let stands = at_module n targets r.g r.i r.target same r.stands in record {
        f = back.0;
        i = r.i;
        source = back.2.0;
        target = r.target;
        kept = ap (slice_get (p.listed Functions)) number ∙ back.1;
        carries = back.2.1;
        from = from;
        some = r.some;
        stands = subst (λ (k : ℕ). HasOperator n k r.i r.target) (sym number) stands;
        to = r.to;
      }

  is_there : (old new : ℕ) → IsTruePair none normal n p old new → Contains (module_pairs none a (part p normal)) (old, new)
  is_there old new h =
      let g = p.renames Functions h.f in
      let source = goes_to normal p g h.f h.i h.source h.kept h.carries in
      let target = of_module n targets g h.i h.target same h.stands in
      let there = in_functions none a at sources g h.i (renumbered_placed p.renames h.source) h.target source target (λ is. h.some (sym h.from ∙ is)) in
      subst (λ (q : ℕ × ℕ). Contains (module_pairs none a (part p normal)) q) (λ k. (h.from k, h.to k)) there

pub part_pairs : PartPairsArePlaces
part_pairs none a normal n p places same = record {
  true_pairs = all_in (λ (q : ℕ × ℕ). IsTruePair none normal n p q.0 q.1) (module_pairs none a (part p normal)) (is_true none a normal n p places same);
  rising = functions_rising none a (first_body a (part p normal)) (part p normal).functions;
  whole = is_there none a normal n p places same;
}
