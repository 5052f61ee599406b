-- Runs of a module, and of one that holds some of its functions in normal form and renamed: each step of the first is one of the second, or
-- skips a `nop`.
use Rattle.std.proofs.Common.{ℕ, zero, suc, ◌≡◌, Bool, true, false, List, [], ◌∷◌, ◌++◌, map, refl, sym, ap, subst, ◌∙◌, ◌⊎◌, inl, inr}
use Rattle.std.specs.Prelude.{Option, Some, None, slice_get, if◌then◌else◌}
use Rattle.std.specs.Option.{option_map}
use Rattle.std.proofs.lemmas.List.{map-append}
use Rattle.wasm_operators.specs.declared.clause.Clause.{Clause}
use Rattle.wasm_operators.specs.declared.clause.Clause.TheVariants as clauses
use Rattle.wasm_operators.specs.declared.entry.Flow.{Flow}
use Rattle.wasm_operators.specs.declared.entry.Flow.TheVariants as flows
use Rattle.wasm_operators.specs.Operators.{Seen, flow_of}
use Rattle.wasm_operators.specs.Names.{renamed_operator}
use Rattle.wasm_normal_form.specs.Roles.{cuts_in, cuts, is_if_in, is_if}
use Rattle.wasm_normal_form.specs.Trees.{Tree, Close, Arm, Skip, Run, Nest}
use Rattle.wasm_normal_form.specs.Normal.{normal_from, picked}
use Rattle.wasm_runs.specs.Outcomes.{Outcome, Go, Trap, Throws, Yes, No, Nth, Enter, Returns, Ending, Waiting, Misfit, goes_on, holds, throws, number, Reply, Back, Fails, Thrown, reply, found, given, taken}
use Rattle.wasm_runs.specs.Programs.{nested, labels_of, callee_of, clauses_of}
use Rattle.wasm_runs.specs.Frames.{Way, To, Along, Handler, Frame, plain, parts, closing, passed, handler_of, clause_handler}
use Rattle.wasm_runs.specs.Machine.{Move, Goes, Leaves, Raises, Enters, Becomes, Ends, to_frame, branch, branch_to, caught, offered_one, offered, thrown, Step, nothing, did, did_unless_over, stuck, goes_or_traps, Call, from, instead, entered, replied, calls, finds, calls_any, acts, otherwise, begins, ends_part, act}
use Rattle.wasm_runs.specs.Traces.{Activation, Next, On, Over, activation, on, back_to, moved, raised, step, Traces, over, goes, answered, starts}
use Rattle.wasm_runs.specs.Renamed.{renamed_outcome, FitsOne, Fits}
use Rattle.wasm_run_laws.proofs.Images.{AllOf, Images, SameCallee, Good, image, IsGood, SameBody, SameBodies, renamed_tree, labels_same, passed_same, handlers_same}

abbrev AgainGood : {E : Type 0} → (ℕ → Type 0) → Images E → ℕ → Option Tree → Type 0
AgainGood P i f None = Unit {0}
AgainGood P i f (Some t) = IsGood P i f t false

abbrev WayGood : {E : Type 0} → (ℕ → Type 0) → Images E → ℕ → Way → Type 0
WayGood P i f (To t) = IsGood P i f t false
WayGood P i f (Along k) = Unit {0}

abbrev HandlersGood : {E : Type 0} → (ℕ → Type 0) → Images E → ℕ → List Handler → Type 0
HandlersGood P i f [] = Unit {0}
HandlersGood P i f (h ∷ hs) = WayGood P i f h.way × HandlersGood P i f hs

-- a frame of function f, whether what stands behind it is in the first part of an `if` without `else`, and that all of it is good
record Marked {E : Type 0} (P : ℕ → Type 0) (i : Images E) (f : ℕ) : Type 0 where
  frame : Frame
  bare : Bool
  after_good : IsGood P i f frame.after bare
  again_good : AgainGood P i f frame.again
  handlers_good : HandlersGood P i f frame.handlers

-- an activation, and that all of it is good
record Active {E : Type 0} (P : ℕ → Type 0) (i : Images E) : Type 0 where
  function : ℕ
  ahead : Tree
  bare : Bool
  good : IsGood P i function ahead bare
  frames : List (Marked P i function)

given_like : {A B C : Type 0} (R : B → C → Type 0) (x : B) (y : C) (f : A → B) (g : A → C) → R x y → ((a : A) → R (f a) (g a)) → (o : Option A) → R (given x f o) (given y g o)
given_like R x y f g h k None = h
given_like R x y f g h k (Some a) = k a

module _ (E : Type 0) (P : ℕ → Type 0) (i : Images E) (bodies : SameBodies P i) where
  abbrev outs : List Outcome → List Outcome
  outs os = map (renamed_outcome i.function) os

  abbrev way_image : ℕ → Way → Way
  way_image f (To t) = To (image i f t false)
  way_image f (Along k) = Along k

  abbrev handler_image : ℕ → Handler → Handler
  handler_image f h = record { tagged = h.tagged; way = way_image f h.way }

  abbrev again_image : ℕ → Option Tree → Option Tree
  again_image f o = option_map (λ t. image i f t false) o

  abbrev frame_image : (f : ℕ) → Marked P i f → Frame
  frame_image f a = record { handlers = map (handler_image f) a.frame.handlers; passes = a.frame.passes; again = again_image f a.frame.again; after = image i f a.frame.after a.bare }

  abbrev bare_frame : (f : ℕ) → Marked P i f → Frame
  bare_frame f a = a.frame

  abbrev plains : (f : ℕ) → List (Marked P i f) → List Frame
  plains f ms = map (bare_frame f) ms

  abbrev images : (f : ℕ) → List (Marked P i f) → List Frame
  images f ms = map (frame_image f) ms

  -- the same move, of what stands for it
  abbrev Like : ℕ → Move → Move → Type 0
  Like f (Goes t fs b os) x = (bare : Bool) × (ms : List (Marked P i f)) × (plains f ms ≡ fs) × (x ≡ Goes (image i f t bare) (images f ms) b (outs os)) × IsGood P i f t bare × Fits P os
  Like f (Enters g u t fs b os) x =
      (bare : Bool) × (ms : List (Marked P i f)) × (plains f ms ≡ fs) × (x ≡ Enters (i.function g) (image i g u false) (image i f t bare) (images f ms) b (outs os)) × IsGood P i g u false
      × IsGood P i f t bare × Fits P os
  Like f (Becomes g u b os) x = (x ≡ Becomes (i.function g) (image i g u false) b (outs os)) × IsGood P i g u false × Fits P os
  Like f (Leaves b os) x = (x ≡ Leaves b (outs os)) × Fits P os
  Like f (Raises b os) x = (x ≡ Raises b (outs os)) × Fits P os
  Like f (Ends e) x = x ≡ Ends e

  abbrev LikeStep : ℕ → Step E Move → Step E Move → Type 0
  LikeStep f s t = Like f s.move t.move × (t.events ≡ map i.entry s.events)

  -- an outcome of a kind that names no function is the same, renamed
  taken_like : {A B C : Type 0} (R : B → C → Type 0) (kind : Outcome → Option A) → ((o : Outcome) → kind (renamed_outcome i.function o) ≡ kind o) → (stop : Ending → B) (halt : Ending → C)
      → ((e : Ending) → R (stop e) (halt e)) → (f : A → List Outcome → B) (g : A → List Outcome → C) → ((a : A) (os : List Outcome) → Fits P os → R (f a os) (g a (outs os)))
      → (os : List Outcome) → Fits P os → R (taken kind stop f os) (taken kind halt g (outs os))
  taken_like R kind same stop halt h f g k [] q = h Waiting
  taken_like {A} {B} {C} R kind same stop halt h f g k (o ∷ os) q =
      let Q : Option A → Type 0 = λ x. R (given (stop Misfit) (λ a. f a os) (kind o)) (given (halt Misfit) (λ a. g a (outs os)) x) in
      subst Q (sym (same o)) (given_like R (stop Misfit) (halt Misfit) (λ a. f a os) (λ a. g a (outs os)) (h Misfit) (λ a. k a os q.1) (kind o))

  goes_on_same : (o : Outcome) → goes_on (renamed_outcome i.function o) ≡ goes_on o
  goes_on_same (Enter f) = refl
  goes_on_same _ = refl

  holds_same : (o : Outcome) → holds (renamed_outcome i.function o) ≡ holds o
  holds_same (Enter f) = refl
  holds_same _ = refl

  throws_same : (o : Outcome) → throws (renamed_outcome i.function o) ≡ throws o
  throws_same (Enter f) = refl
  throws_same _ = refl

  number_same : (o : Outcome) → number (renamed_outcome i.function o) ≡ number o
  number_same (Enter f) = refl
  number_same _ = refl

  reply_same : (o : Outcome) → reply (renamed_outcome i.function o) ≡ reply o
  reply_same (Enter f) = refl
  reply_same _ = refl

  -- ---- moves

  ends_part_like : (f : ℕ) (ms : List (Marked P i f)) (b : ℕ) (os : List Outcome) → Fits P os → Like f (ends_part (plains f ms) b os) (ends_part (images f ms) b (outs os))
  ends_part_like f [] b os q = (refl, q)
  ends_part_like f (a ∷ ms) b os q = (a.bare, ms, refl, refl, a.after_good, q)

  to_frame_like : (f : ℕ) (o : Option Tree) (a : Marked P i f) (ms : List (Marked P i f)) (b : ℕ) (os : List Outcome) → AgainGood P i f o → Fits P os
      → Like f (to_frame o a.frame (plains f ms) b os) (to_frame (again_image f o) (frame_image f a) (images f ms) b (outs os))
  to_frame_like f None a ms b os c q = (a.bare, ms, refl, refl, a.after_good, q)
  to_frame_like f (Some u) a ms zero os c q = refl
  to_frame_like f (Some u) a ms (suc b) os c q = (false, a ∷ ms, refl, refl, c, q)

  branch_like : (f k : ℕ) (ms : List (Marked P i f)) (b : ℕ) (os : List Outcome) → Fits P os → Like f (branch k (plains f ms) b os) (branch k (images f ms) b (outs os))
  branch_like f zero [] b os q = (refl, q)
  branch_like f (suc k) [] b os q = (refl, q)
  branch_like f zero (a ∷ ms) b os q = to_frame_like f a.frame.again a ms b os a.again_good q
  branch_like f (suc k) (a ∷ ms) b os q = branch_like f k ms b os q

  branch_to_like : (f : ℕ) (o : Option ℕ) (ms : List (Marked P i f)) (b : ℕ) (os : List Outcome) → Fits P os → Like f (branch_to o (plains f ms) b os) (branch_to o (images f ms) b (outs os))
  branch_to_like f None ms b os q = refl
  branch_to_like f (Some k) ms b os q = branch_like f k ms b os q

  abbrev plain_of : (f : ℕ) (t : Tree) (bare : Bool) → IsGood P i f t bare → Marked P i f
  plain_of f t bare c = record { frame = plain t; bare = bare; after_good = c; again_good = tt; handlers_good = tt }

  caught_like : (f : ℕ) (w : Way) (t : Tree) (bare : Bool) → IsGood P i f t bare → (ms : List (Marked P i f)) (b : ℕ) (os : List Outcome) → WayGood P i f w → Fits P os
      → Like f (caught w t (plains f ms) b os) (caught (way_image f w) (image i f t bare) (images f ms) b (outs os))
  caught_like f (To h) t bare c ms b os w q = (false, plain_of f t bare c ∷ ms, refl, refl, w, q)
  caught_like f (Along k) t bare c ms b os w q = branch_like f k ms b os q

  if_like : (f : ℕ) (x y z w : Move) → Like f x z → Like f y w → (yes : Bool) → Like f (if yes then x else y) (if yes then z else w)
  if_like f x y z w h k true = h
  if_like f x y z w h k false = k

  offered_one_like : (f : ℕ) (tagged : Bool) (w : Way) (t : Tree) (bare : Bool) → IsGood P i f t bare → (ms : List (Marked P i f)) (x y : List Outcome → Move) (b : ℕ) → WayGood P i f w
      → ((os : List Outcome) → Fits P os → Like f (x os) (y (outs os))) → (os : List Outcome) → Fits P os
      → Like f (offered_one tagged w x t (plains f ms) b os) (offered_one tagged (way_image f w) y (image i f t bare) (images f ms) b (outs os))
  offered_one_like f false w t bare c ms x y b k h os q = caught_like f w t bare c ms b os k q
  offered_one_like f true w t bare c ms x y b k h os q =
      taken_like (Like f) holds holds_same Ends Ends (λ e. refl) (λ yes rest. if yes then caught w t (plains f ms) b rest else x rest)
      (λ yes rest. if yes then caught (way_image f w) (image i f t bare) (images f ms) b rest else y rest)
      (λ yes rest p. if_like f (caught w t (plains f ms) b rest) (x rest) (caught (way_image f w) (image i f t bare) (images f ms) b (outs rest)) (y (outs rest)) (caught_like f w t bare c ms b rest k p) (h rest p) yes) os q

  offered_like : (f : ℕ) (hs : List Handler) (t : Tree) (bare : Bool) → IsGood P i f t bare → (ms : List (Marked P i f)) (x y : List Outcome → Move) (b : ℕ) → HandlersGood P i f hs
      → ((os : List Outcome) → Fits P os → Like f (x os) (y (outs os))) → (os : List Outcome) → Fits P os
      → Like f (offered hs x t (plains f ms) b os) (offered (map (handler_image f) hs) y (image i f t bare) (images f ms) b (outs os))
  offered_like f [] t bare c ms x y b k h os q = h os q
  offered_like f (a ∷ hs) t bare c ms x y b k h os q =
      offered_one_like f a.tagged a.way t bare c ms (λ rest. offered hs x t (plains f ms) b rest) (λ rest. offered (map (handler_image f) hs) y (image i f t bare) (images f ms) b rest) b k.0
      (λ rest. offered_like f hs t bare c ms x y b k.1 h rest) os q

  thrown_like : (f k : ℕ) (ms : List (Marked P i f)) (b : ℕ) (os : List Outcome) → Fits P os → Like f (thrown k (plains f ms) b os) (thrown k (images f ms) b (outs os))
  thrown_like f zero [] b os q = (refl, q)
  thrown_like f (suc k) [] b os q = (refl, q)
  thrown_like f zero (a ∷ ms) b os q =
      offered_like f a.frame.handlers a.frame.after a.bare a.after_good ms (λ rest. thrown a.frame.passes (plains f ms) b rest) (λ rest. thrown a.frame.passes (images f ms) b rest) b a.handlers_good
      (λ rest. thrown_like f a.frame.passes ms b rest) os q
  thrown_like f (suc k) (a ∷ ms) b os q = thrown_like f k ms b os q

  -- ---- steps

  unless_like : (f : ℕ) (v : E) (x y : Move) → Like f x y → LikeStep f (did_unless_over v x) (did_unless_over (i.entry v) y)
  unless_like f v (Goes t fs b os) y (bare, ms, e, h, c, q) = let Q : Move → Type 0 = λ z. LikeStep f (did v (Goes t fs b os)) (did_unless_over (i.entry v) z) in subst Q (sym h) ((bare, ms, e, refl, c, q), refl)
  unless_like f v (Enters g u t fs b os) y (bare, ms, e, h, c, d, q) =
      let Q : Move → Type 0 = λ z. LikeStep f (did v (Enters g u t fs b os)) (did_unless_over (i.entry v) z) in subst Q (sym h) ((bare, ms, e, refl, c, d, q), refl)
  unless_like f v (Becomes g u b os) y (h, c, q) = let Q : Move → Type 0 = λ z. LikeStep f (did v (Becomes g u b os)) (did_unless_over (i.entry v) z) in subst Q (sym h) ((refl, c, q), refl)
  unless_like f v (Leaves b os) y (h, q) = let Q : Move → Type 0 = λ z. LikeStep f (did v (Leaves b os)) (did_unless_over (i.entry v) z) in subst Q (sym h) ((refl, q), refl)
  unless_like f v (Raises b os) y (h, q) = let Q : Move → Type 0 = λ z. LikeStep f (did v (Raises b os)) (did_unless_over (i.entry v) z) in subst Q (sym h) ((refl, q), refl)
  unless_like f v (Ends e) y h = let Q : Move → Type 0 = λ z. LikeStep f (nothing (Ends e)) (did_unless_over (i.entry v) z) in subst Q (sym h) (refl, refl)

  or_traps_like : (f : ℕ) (v : E) (x y : List Outcome → Move) → ((os : List Outcome) → Fits P os → Like f (x os) (y (outs os))) → (yes : Bool) (os : List Outcome) → Fits P os
      → LikeStep f (goes_or_traps v x yes os) (goes_or_traps (i.entry v) y yes (outs os))
  or_traps_like f v x y h true os q = (h os q, refl)
  or_traps_like f v x y h false os q = (refl, refl)

  stuck_like : (f : ℕ) (e : Ending) → LikeStep f (stuck e) (stuck e)
  stuck_like f e = (refl, refl)

  -- ---- calls

  record CallLike (f : ℕ) (a z : Call) : Type 0 where
    into : (g : ℕ) (u : Tree) (b : ℕ) (os : List Outcome) → IsGood P i g u false → Fits P os → Like f (a.into g u b os) (z.into (i.function g) (image i g u false) b (outs os))
    back : (b : ℕ) (os : List Outcome) → Fits P os → Like f (a.back b os) (z.back b (outs os))
    raise : (b : ℕ) (os : List Outcome) → Fits P os → Like f (a.raise b os) (z.raise b (outs os))

  entered_like : (f : ℕ) (v : E) (a z : Call) → CallLike f a z → (g : ℕ) (o p : Option (List Seen)) → SameBody P i g o p → (b : ℕ) (os : List Outcome) → Fits P os → (s t : Step E Move) → LikeStep f s t
      → LikeStep f (entered v a g o b os s) (entered (i.entry v) z (i.function g) p b (outs os) t)
  entered_like f v a z h g None None k b os q s t l = l
  entered_like f v a z h g None (Some others) k b os q s t l = absurd k
  entered_like f v a z h g (Some ops) None k b os q s t l = absurd k
  entered_like f v a z h g (Some ops) (Some others) k zero os q s t l = (refl, refl)
  entered_like f v a z h g (Some ops) (Some others) k (suc b) os q s t l =
      let Q : Tree → Type 0 = λ u. LikeStep f (did v (a.into g (nested ops) b os)) (did (i.entry v) (z.into (i.function g) u b (outs os))) in
      subst Q (sym k.0) (h.into g (nested ops) b os k.1 q, refl)

  replied_like : (f : ℕ) (v : E) (a z : Call) → CallLike f a z → (b : ℕ) (r : Reply) (os : List Outcome) → Fits P os → LikeStep f (replied v a b r os) (replied (i.entry v) z b r (outs os))
  replied_like f v a z h b Back os q = (h.back b os q, refl)
  replied_like f v a z h b Fails os q = (refl, refl)
  replied_like f v a z h b Thrown os q = (h.raise b os q, refl)

  -- a call that enters no function
  answered_like : (f : ℕ) (v : E) (a z : Call) → CallLike f a z → (b : ℕ) (os : List Outcome) → Fits P os → LikeStep f (taken reply stuck (replied v a b) os) (taken reply stuck (replied (i.entry v) z b) (outs os))
  answered_like f v a z h b os q = taken_like (LikeStep f) reply reply_same stuck stuck (stuck_like f) (replied v a b) (replied (i.entry v) z b) (replied_like f v a z h b) os q

  calls_like : (f : ℕ) (v : E) (a z : Call) → CallLike f a z → (o p : Option ℕ) → SameCallee P i o p → (b : ℕ) (os : List Outcome) → Fits P os → LikeStep f (calls i.here v a o b os) (calls i.there (i.entry v) z p b (outs os))
  calls_like f v a z h None None k b os q = stuck_like f Misfit
  calls_like f v a z h None (Some g) k b os q = absurd k
  calls_like f v a z h (Some g) None k b os q = absurd k
  calls_like f v a z h (Some g) (Some j) (inl k) b os q =
      let Q : ℕ → Type 0 = λ j. LikeStep f (calls i.here v a (Some g) b os) (calls i.there (i.entry v) z (Some j) b (outs os)) in
      subst Q (sym k.1)
      (entered_like f v a z h g (i.here.body g) (i.there.body (i.function g)) (bodies g k.0) b os q (taken reply stuck (replied v a b) os) (taken reply stuck (replied (i.entry v) z b) (outs os)) (answered_like f v a z h b os q))
  calls_like f v a z h (Some g) (Some j) (inr k) b os q =
      let s : Step E Move = taken reply stuck (replied v a b) os in
      let t : Step E Move = taken reply stuck (replied (i.entry v) z b) (outs os) in
      let Q : Option (List Seen) → Type 0 = λ o. LikeStep f (entered v a g o b os s) (calls i.there (i.entry v) z (Some j) b (outs os)) in
      let R : Option (List Seen) → Type 0 = λ o. LikeStep f s (entered (i.entry v) z j o b (outs os) t) in
      subst Q (sym k.0) (subst R (sym k.1) (answered_like f v a z h b os q))

  -- an outcome that a call takes which may enter a function
  found_like : (f : ℕ) (v : E) (a z : Call) → CallLike f a z → (o : Outcome) → FitsOne P o → (b : ℕ) (os : List Outcome) → Fits P os
      → LikeStep f (given (stuck Misfit) (λ r. finds i.here v a b r os) (found o)) (given (stuck Misfit) (λ r. finds i.there (i.entry v) z b r (outs os)) (found (renamed_outcome i.function o)))
  found_like f v a z h Go p b os q = (refl, refl)
  found_like f v a z h Trap p b os q = (refl, refl)
  found_like f v a z h Throws p b os q = (h.raise b os q, refl)
  found_like f v a z h Yes p b os q = (refl, refl)
  found_like f v a z h No p b os q = (refl, refl)
  found_like f v a z h (Nth k) p b os q = (refl, refl)
  found_like f v a z h (Enter g) p b os q = entered_like f v a z h g (i.here.body g) (i.there.body (i.function g)) (bodies g p) b os q (stuck Misfit) (stuck Misfit) (stuck_like f Misfit)
  found_like f v a z h Returns p b os q = (h.back b os q, refl)

  calls_any_like : (f : ℕ) (v : E) (a z : Call) → CallLike f a z → (b : ℕ) (os : List Outcome) → Fits P os → LikeStep f (calls_any i.here v a b os) (calls_any i.there (i.entry v) z b (outs os))
  calls_any_like f v a z h b [] q = stuck_like f Waiting
  calls_any_like f v a z h b (o ∷ os) q = found_like f v a z h o q.0 b os q.1

  from_like : (f : ℕ) (t : Tree) (bare : Bool) → IsGood P i f t bare → (ms : List (Marked P i f)) → CallLike f (from t (plains f ms)) (from (image i f t bare) (images f ms))
  from_like f t bare c ms = record {
    into = λ g u b os d q. (bare, ms, refl, refl, d, c, q);
    back = λ b os q. (bare, ms, refl, refl, c, q);
    raise = λ b os q. thrown_like f 0 ms b os q;
  }

  instead_like : (f : ℕ) → CallLike f instead instead
  instead_like f = record { into = λ g u b os d q. (refl, d, q); back = λ b os q. (refl, q); raise = λ b os q. (refl, q) }

  -- ---- operators

  acts_like : (f : ℕ) (flow : Option Flow) (ls : List ℕ) (o p : Option ℕ) → SameCallee P i o p → (v : E) (t : Tree) (bare : Bool) → AllOf (Good P i f) (normal_from i.pick t bare (cuts_in flow))
      → (ms : List (Marked P i f)) (b : ℕ) (os : List Outcome) → Fits P os
      → LikeStep f (acts i.here flow ls o v t (plains f ms) b os) (acts i.there flow ls p (i.entry v) (renamed_tree (i.items f) (normal_from i.pick t bare (cuts_in flow))) (images f ms) b (outs os))
  acts_like f (Some flows.Traps) ls o p k v t bare c ms b os q = (refl, refl)
  acts_like f (Some flows.Branches) ls o p k v t bare c ms b os q =
      unless_like f v (branch_to (slice_get ls 0) (plains f ms) b os) (branch_to (slice_get ls 0) (images f ms) b (outs os)) (branch_to_like f (slice_get ls 0) ms b os q)
  acts_like f (Some flows.Chooses) ls o p k v t bare c ms b os q =
      let x : Bool → List Outcome → Move = λ yes rest. if yes then branch_to (slice_get ls 0) (plains f ms) b rest else Goes t (plains f ms) b rest in
      let y : Bool → List Outcome → Move = λ yes rest. if yes then branch_to (slice_get ls 0) (images f ms) b rest else Goes (image i f t bare) (images f ms) b rest in
      taken_like (LikeStep f) holds holds_same stuck stuck (stuck_like f) (λ yes rest. did_unless_over v (x yes rest)) (λ yes rest. did_unless_over (i.entry v) (y yes rest))
      (λ yes rest r. unless_like f v (x yes rest) (y yes (outs rest))
      (if_like f (branch_to (slice_get ls 0) (plains f ms) b rest) (Goes t (plains f ms) b rest) (branch_to (slice_get ls 0) (images f ms) b (outs rest)) (Goes (image i f t bare) (images f ms) b (outs rest))
      (branch_to_like f (slice_get ls 0) ms b rest r) (bare, ms, refl, refl, c, r) yes)) os q
  acts_like f (Some flows.Selects) ls o p k v t bare c ms b os q =
      taken_like (LikeStep f) number number_same stuck stuck (stuck_like f) (λ j rest. did_unless_over v (branch_to (slice_get ls j) (plains f ms) b rest))
      (λ j rest. did_unless_over (i.entry v) (branch_to (slice_get ls j) (images f ms) b rest))
      (λ j rest r. unless_like f v (branch_to (slice_get ls j) (plains f ms) b rest) (branch_to (slice_get ls j) (images f ms) b (outs rest)) (branch_to_like f (slice_get ls j) ms b rest r)) os q
  acts_like f (Some flows.Returns) ls o p k v t bare c ms b os q = ((refl, q), refl)
  acts_like f (Some flows.Throws) ls o p k v t bare c ms b os q = (thrown_like f 0 ms b os q, refl)
  acts_like f (Some flows.ThrowsOrTraps) ls o p k v t bare c ms b os q =
      taken_like (LikeStep f) throws throws_same stuck stuck (stuck_like f) (goes_or_traps v (thrown 0 (plains f ms) b)) (goes_or_traps (i.entry v) (thrown 0 (images f ms) b))
      (or_traps_like f v (thrown 0 (plains f ms) b) (thrown 0 (images f ms) b) (λ os q. thrown_like f 0 ms b os q)) os q
  acts_like f (Some flows.Calls) ls o p k v t bare c ms b os q = calls_like f v (from t (plains f ms)) (from (image i f t bare) (images f ms)) (from_like f t bare c ms) o p k b os q
  acts_like f (Some flows.CallsIndirectly) ls o p k v t bare c ms b os q = calls_any_like f v (from t (plains f ms)) (from (image i f t bare) (images f ms)) (from_like f t bare c ms) b os q
  acts_like f (Some flows.TailCalls) ls o p k v t bare c ms b os q = calls_like f v instead instead (instead_like f) o p k b os q
  acts_like f (Some flows.TailCallsIndirectly) ls o p k v t bare c ms b os q = calls_any_like f v instead instead (instead_like f) b os q
  acts_like f _ ls o p k v t bare c ms b os q =
      taken_like (LikeStep f) goes_on goes_on_same stuck stuck (stuck_like f) (goes_or_traps v (Goes t (plains f ms) b)) (goes_or_traps (i.entry v) (Goes (image i f t bare) (images f ms) b))
      (or_traps_like f v (Goes t (plains f ms) b) (Goes (image i f t bare) (images f ms) b) (λ os q. (bare, ms, refl, refl, c, q))) os q

  -- ---- blocks

  handlers_like : (f : ℕ) (u : Tree) (dropped : Bool) → map handler_of (parts (renamed_tree (i.items f) (normal_from i.pick u false dropped))) ≡ map (handler_image f) (map handler_of (parts u))
  handlers_like f (Close o p) dropped = refl
  handlers_like f (Arm o p t) dropped = ap (λ (hs : List Handler). handler_image f (handler_of (record { by = o; tree = t })) ∷ hs) (handlers_like f t false)
  handlers_like f (Skip o p t) dropped = handlers_like f t dropped
  handlers_like f (Run o p t) true = handlers_like f t true
  handlers_like f (Run o p t) false = handlers_like f t (cuts o)
  handlers_like f (Nest o p u t) true = handlers_like f t true
  handlers_like f (Nest o p u t) false = handlers_like f t false

  handlers_good : (f : ℕ) (u : Tree) (dropped : Bool) → AllOf (Good P i f) (normal_from i.pick u false dropped) → HandlersGood P i f (map handler_of (parts u))
  handlers_good f (Close o p) dropped c = tt
  handlers_good f (Arm o p t) dropped c = (c, handlers_good f t false c)
  handlers_good f (Skip o p t) dropped c = handlers_good f t dropped c
  handlers_good f (Run o p t) true c = handlers_good f t true c
  handlers_good f (Run o p t) false c = handlers_good f t (cuts o) c.1
  handlers_good f (Nest o p u t) true c = handlers_good f t true c
  handlers_good f (Nest o p u t) false c = handlers_good f t false c.2

  passed_like : (f : ℕ) (u : Tree) (dropped : Bool) → passed (closing (renamed_tree (i.items f) (normal_from i.pick u false dropped))) ≡ passed (closing u)
  passed_like f (Close o p) dropped = passed_same (i.items f) (i.labels f) o
  passed_like f (Arm o p t) dropped = passed_like f t false
  passed_like f (Skip o p t) dropped = passed_like f t dropped
  passed_like f (Run o p t) true = passed_like f t true
  passed_like f (Run o p t) false = passed_like f t (cuts o)
  passed_like f (Nest o p u t) true = passed_like f t true
  passed_like f (Nest o p u t) false = passed_like f t false

  clauses_like : (f : ℕ) (cs : List Clause) → map (handler_image f) (map clause_handler cs) ≡ map clause_handler cs
  clauses_like f [] = refl
  clauses_like f (clauses.Catch tag label ∷ cs) = ap (λ (hs : List Handler). clause_handler (clauses.Catch tag label) ∷ hs) (clauses_like f cs)
  clauses_like f (clauses.CatchRef tag label ∷ cs) = ap (λ (hs : List Handler). clause_handler (clauses.CatchRef tag label) ∷ hs) (clauses_like f cs)
  clauses_like f (clauses.CatchAll label ∷ cs) = ap (λ (hs : List Handler). clause_handler (clauses.CatchAll label) ∷ hs) (clauses_like f cs)
  clauses_like f (clauses.CatchAllRef label ∷ cs) = ap (λ (hs : List Handler). clause_handler (clauses.CatchAllRef label) ∷ hs) (clauses_like f cs)

  clauses_good : (f : ℕ) (cs : List Clause) → HandlersGood P i f (map clause_handler cs)
  clauses_good f [] = tt
  clauses_good f (clauses.Catch tag label ∷ cs) = (tt, clauses_good f cs)
  clauses_good f (clauses.CatchRef tag label ∷ cs) = (tt, clauses_good f cs)
  clauses_good f (clauses.CatchAll label ∷ cs) = (tt, clauses_good f cs)
  clauses_good f (clauses.CatchAllRef label ∷ cs) = (tt, clauses_good f cs)

  -- the other part of an `if`: the normal form has one
  otherwise_like : (f : ℕ) (u t : Tree) (bare dropped : Bool) → AllOf (Good P i f) (normal_from i.pick u true dropped) → IsGood P i f t bare → (ms : List (Marked P i f)) (b : ℕ) (os : List Outcome) → Fits P os
      → Like f (otherwise (parts u) t (plains f ms) b os) (otherwise (parts (renamed_tree (i.items f) (normal_from i.pick u true dropped))) (image i f t bare) (images f ms) b (outs os))
  otherwise_like f (Close o p) t bare dropped d c ms b os q = (false, plain_of f t bare c ∷ ms, refl, refl, tt, q)
  otherwise_like f (Arm o p u) t bare dropped d c ms b os q = (false, plain_of f t bare c ∷ ms, refl, refl, d, q)
  otherwise_like f (Skip o p u) t bare dropped d c ms b os q = otherwise_like f u t bare dropped d c ms b os q
  otherwise_like f (Run o p u) t bare true d c ms b os q = otherwise_like f u t bare true d c ms b os q
  otherwise_like f (Run o p u) t bare false d c ms b os q = otherwise_like f u t bare (cuts o) d.1 c ms b os q
  otherwise_like f (Nest o p w u) t bare true d c ms b os q = otherwise_like f u t bare true d c ms b os q
  otherwise_like f (Nest o p w u) t bare false d c ms b os q = otherwise_like f u t bare false d.2 c ms b os q

  -- a frame whose image has the same handlers, and passes as many
  opened_like : (f : ℕ) (v : E) (u t : Tree) (bare : Bool) → IsGood P i f u false → IsGood P i f t bare → (ms : List (Marked P i f)) (b : ℕ) (os : List Outcome) → Fits P os
      → (hs : List Handler) → HandlersGood P i f hs → (passes : ℕ) (again : Option Tree) → AgainGood P i f again → (js : List Handler) (past : ℕ) → js ≡ map (handler_image f) hs → past ≡ passes
      → LikeStep f (did v (Goes u (record { handlers = hs; passes = passes; again = again; after = t } ∷ plains f ms) b os))
      (did (i.entry v) (Goes (image i f u false) (record { handlers = js; passes = past; again = again_image f again; after = image i f t bare } ∷ images f ms) b (outs os)))
  opened_like f v u t bare d c ms b os q hs k passes again a js past e h =
      let F : Marked P i f = record { frame = record { handlers = hs; passes = passes; again = again; after = t }; bare = bare; after_good = c; again_good = a; handlers_good = k } in
      let X : Step E Move = did v (Goes u (record { handlers = hs; passes = passes; again = again; after = t } ∷ plains f ms) b os) in
      let Q : List Handler → Type 0 = λ js. LikeStep f X (did (i.entry v) (Goes (image i f u false) (record { handlers = js; passes = past; again = again_image f again; after = image i f t bare } ∷ images f ms) b (outs os))) in
      let R : ℕ → Type 0 = λ past. LikeStep f X (did (i.entry v) (Goes (image i f u false) (record { handlers = map (handler_image f) hs; passes = past; again = again_image f again; after = image i f t bare } ∷ images f ms) b (outs os))) in
      subst Q (sym e) (subst R (sym h) ((false, F ∷ ms, refl, refl, d, q), refl))

  begins_like : (f : ℕ) (flow : Option Flow) (cs ds : List Clause) → map clause_handler ds ≡ map clause_handler cs → (v : E) (u t : Tree) (bare : Bool)
      → AllOf (Good P i f) (normal_from i.pick u (is_if_in flow) false) → IsGood P i f t bare → (ms : List (Marked P i f)) (b : ℕ) (os : List Outcome) → Fits P os
      → LikeStep f (begins flow cs v u t (plains f ms) b os) (begins flow ds (i.entry v) (renamed_tree (i.items f) (normal_from i.pick u (is_if_in flow) false)) (image i f t bare) (images f ms) b (outs os))
  begins_like f (Some flows.OpensIf) cs ds same v u t bare d c ms b os q =
      let w : Tree = renamed_tree (i.items f) (normal_from i.pick u true false) in
      let x : Bool → List Outcome → Move = λ yes rest. if yes then Goes u (plain t ∷ plains f ms) b rest else otherwise (parts u) t (plains f ms) b rest in
      let y : Bool → List Outcome → Move = λ yes rest. if yes then Goes w (plain (image i f t bare) ∷ images f ms) b rest else otherwise (parts w) (image i f t bare) (images f ms) b rest in
      taken_like (LikeStep f) holds holds_same stuck stuck (stuck_like f) (λ yes rest. did v (x yes rest)) (λ yes rest. did (i.entry v) (y yes rest))
      (λ yes rest r. (
        if_like f (Goes u (plain t ∷ plains f ms) b rest) (otherwise (parts u) t (plains f ms) b rest) (Goes w (plain (image i f t bare) ∷ images f ms) b (outs rest)) (otherwise (parts w) (image i f t bare) (images f ms) b (outs rest))
            (true, plain_of f t bare c ∷ ms, refl, refl, d, r) (otherwise_like f u t bare false d c ms b rest r) yes,
        refl,
      )) os q
  begins_like f (Some flows.OpensLoop) cs ds same v u t bare d c ms b os q = opened_like f v u t bare d c ms b os q [] tt 0 (Some u) d [] 0 refl refl
  begins_like f (Some flows.OpensTry) cs ds same v u t bare d c ms b os q =
      let w : Tree = renamed_tree (i.items f) (normal_from i.pick u false false) in
      opened_like f v u t bare d c ms b os q (map handler_of (parts u)) (handlers_good f u false d) (passed (closing u)) None tt (map handler_of (parts w)) (passed (closing w)) (handlers_like f u false) (passed_like f u false)
  begins_like f (Some flows.OpensTryTable) cs ds same v u t bare d c ms b os q =
      opened_like f v u t bare d c ms b os q (map clause_handler cs) (clauses_good f cs) 0 None tt (map clause_handler ds) 0 (same ∙ sym (clauses_like f cs)) refl
  begins_like f _ cs ds same v u t bare d c ms b os q = opened_like f v u t bare d c ms b os q [] tt 0 None tt [] 0 refl refl

  -- ---- stacks

  abbrev was : Active P i → Activation
  was a = activation a.function a.ahead (plains a.function a.frames)

  abbrev is : Active P i → Activation
  is a = activation (i.function a.function) (image i a.function a.ahead a.bare) (images a.function a.frames)

  abbrev LikeNext : Next → Next → Type 0
  LikeNext (On s) x = (ks : List (Active P i)) × (map was ks ≡ s.stack) × (x ≡ on (map is ks) s.bound (outs s.outcomes)) × Fits P s.outcomes
  LikeNext (Over e) x = x ≡ Over e

  abbrev active : (f : ℕ) (t : Tree) (bare : Bool) → IsGood P i f t bare → List (Marked P i f) → Active P i
  active f t bare c ms = record { function = f; ahead = t; bare = bare; good = c; frames = ms }

  back_to_like : (ks : List (Active P i)) (b : ℕ) (os : List Outcome) → Fits P os → LikeNext (back_to (map was ks) b os) (back_to (map is ks) b (outs os))
  back_to_like [] b os q = refl
  back_to_like (a ∷ ks) b os q = (a ∷ ks, refl, refl, q)

  moved_like : (f : ℕ) (ks : List (Active P i)) (u w : ℕ → List Outcome → Next) → ((b : ℕ) (os : List Outcome) → Fits P os → LikeNext (u b os) (w b (outs os))) → (x y : Move) → Like f x y
      → LikeNext (moved f (map was ks) u x) (moved (i.function f) (map is ks) w y)
  moved_like f ks u w k (Goes t fs b os) y (bare, ms, e, h, c, q) =
      let Q : Move → Type 0 = λ z. LikeNext (on (activation f t fs ∷ map was ks) b os) (moved (i.function f) (map is ks) w z) in
      subst Q (sym h) (active f t bare c ms ∷ ks, ap (λ (gs : List Frame). activation f t gs ∷ map was ks) e, refl, q)
  moved_like f ks u w k (Enters g v t fs b os) y (bare, ms, e, h, d, c, q) =
      let Q : Move → Type 0 = λ z. LikeNext (on (activation g v [] ∷ activation f t fs ∷ map was ks) b os) (moved (i.function f) (map is ks) w z) in
      subst Q (sym h) (active g v false d [] ∷ active f t bare c ms ∷ ks, ap (λ (gs : List Frame). activation g v [] ∷ activation f t gs ∷ map was ks) e, refl, q)
  moved_like f ks u w k (Becomes g v b os) y (h, d, q) =
      let Q : Move → Type 0 = λ z. LikeNext (on (activation g v [] ∷ map was ks) b os) (moved (i.function f) (map is ks) w z) in subst Q (sym h) (active g v false d [] ∷ ks, refl, refl, q)
  moved_like f ks u w k (Leaves b os) y (h, q) = let Q : Move → Type 0 = λ z. LikeNext (back_to (map was ks) b os) (moved (i.function f) (map is ks) w z) in subst Q (sym h) (back_to_like ks b os q)
  moved_like f ks u w k (Raises b os) y (h, q) = let Q : Move → Type 0 = λ z. LikeNext (u b os) (moved (i.function f) (map is ks) w z) in subst Q (sym h) (k b os q)
  moved_like f ks u w k (Ends e) y h = let Q : Move → Type 0 = λ z. LikeNext (Over e) (moved (i.function f) (map is ks) w z) in subst Q (sym h) refl

  raised_like : (ks : List (Active P i)) (b : ℕ) (os : List Outcome) → Fits P os → LikeNext (raised (map was ks) b os) (raised (map is ks) b (outs os))
  raised_like [] b os q = refl
  raised_like (a ∷ ks) b os q =
      moved_like a.function ks (raised (map was ks)) (raised (map is ks)) (raised_like ks) (thrown 0 (plains a.function a.frames) b os) (thrown 0 (images a.function a.frames) b (outs os)) (thrown_like a.function 0 a.frames b os q)

  -- the step that stands for one; or one that skips a `nop`, which nothing stands for
  abbrev Alike : List (Active P i) → ℕ → List Outcome → Type 0
  Alike ks b os =
      ((js : List (Active P i)) × (step i.here (map was ks) b os ≡ record { events = []; move = on (map was js) b os }) × (map is js ≡ map is ks))
      ⊎ (LikeNext (step i.here (map was ks) b os).move (step i.there (map is ks) b (outs os)).move × ((step i.there (map is ks) b (outs os)).events ≡ map i.entry (step i.here (map was ks) b os).events))

  abbrev StepsLike : (f : ℕ) → List (Active P i) → Step E Move → Step E Move → Type 0
  StepsLike f ks s t = LikeNext (moved f (map was ks) (raised (map was ks)) s.move) (moved (i.function f) (map is ks) (raised (map is ks)) t.move) × (t.events ≡ map i.entry s.events)

  stepped : (f : ℕ) (ks : List (Active P i)) (s t : Step E Move) → LikeStep f s t → StepsLike f ks s t
  stepped f ks s t h = (moved_like f ks (raised (map was ks)) (raised (map is ks)) (raised_like ks) s.move t.move h.0, h.1)

  run_like : (f : ℕ) (o : Seen) (t : Tree) (bare : Bool) → Good P i f o → AllOf (Good P i f) (normal_from i.pick t bare (cuts o)) → (ms : List (Marked P i f)) (b : ℕ) (os : List Outcome) → Fits P os
      → LikeStep f (act i.here f (Run o None t) (plains f ms) b os) (act i.there (i.function f) (Run (renamed_operator (i.items f) o) None (renamed_tree (i.items f) (normal_from i.pick t bare (cuts o)))) (images f ms) b (outs os))
  run_like f o t bare g c ms b os q =
      let x : Seen = renamed_operator (i.items f) o in
      let w : Tree = renamed_tree (i.items f) (normal_from i.pick t bare (cuts o)) in
      let s : Step E Move = act i.here f (Run o None t) (plains f ms) b os in
      let Q : List ℕ → Type 0 = λ ls. LikeStep f s (acts i.there (flow_of o.code) ls (callee_of x) (i.there.entry (i.function f) x) w (images f ms) b (outs os)) in
      let R : E → Type 0 = λ v. LikeStep f s (acts i.there (flow_of o.code) (labels_of o) (callee_of x) v w (images f ms) b (outs os)) in
      subst Q (sym (labels_same (i.items f) (i.labels f) o)) (subst R (sym g.shows) (acts_like f (flow_of o.code) (labels_of o) (callee_of o) (callee_of x) g.calls (i.here.entry f o) t bare c ms b os q))

  nest_like : (f : ℕ) (o : Seen) (u t : Tree) (bare : Bool) → Good P i f (picked i.pick o) → AllOf (Good P i f) (normal_from i.pick u (is_if o) false) → IsGood P i f t bare → (ms : List (Marked P i f)) (b : ℕ) (os : List Outcome) → Fits P os
      → LikeStep f (act i.here f (Nest o None u t) (plains f ms) b os)
      (act i.there (i.function f) (Nest (renamed_operator (i.items f) (picked i.pick o)) None (renamed_tree (i.items f) (normal_from i.pick u (is_if o) false)) (image i f t bare)) (images f ms) b (outs os))
  nest_like f o u t bare g d c ms b os q =
      let x : Seen = renamed_operator (i.items f) (picked i.pick o) in
      let w : Tree = renamed_tree (i.items f) (normal_from i.pick u (is_if o) false) in
      let s : Step E Move = act i.here f (Nest o None u t) (plains f ms) b os in
      let R : E → Type 0 = λ v. LikeStep f s (begins (flow_of o.code) (clauses_of x) v w (image i f t bare) (images f ms) b (outs os)) in
      subst R (sym (g.shows ∙ i.picks f o)) (begins_like f (flow_of o.code) (clauses_of o) (clauses_of x) (handlers_same (i.items f) i.pick (i.labels f) o) (i.here.entry f o) u t bare d c ms b os q)

  act_alike : (f : ℕ) (t : Tree) (bare : Bool) (c : IsGood P i f t bare) (ms : List (Marked P i f)) (ks : List (Active P i)) (b : ℕ) (os : List Outcome) → Fits P os → Alike (active f t bare c ms ∷ ks) b os
  act_alike f (Close o p) true c ms ks b os q = inr (stepped f ks (nothing (ends_part (plains f ms) b os)) (nothing (ends_part (images f ms) b (outs os))) (ends_part_like f ms b os q, refl))
  act_alike f (Close o p) false c ms ks b os q = inr (stepped f ks (nothing (ends_part (plains f ms) b os)) (nothing (ends_part (images f ms) b (outs os))) (ends_part_like f ms b os q, refl))
  act_alike f (Arm o p t) bare c ms ks b os q = inr (stepped f ks (nothing (ends_part (plains f ms) b os)) (nothing (ends_part (images f ms) b (outs os))) (ends_part_like f ms b os q, refl))
  act_alike f (Skip o p t) bare c ms ks b os q = inl (active f t bare c ms ∷ ks, refl, refl)
  act_alike f (Run o p t) bare c ms ks b os q =
      inr (stepped f ks (act i.here f (Run o None t) (plains f ms) b os) (act i.there (i.function f) (Run (renamed_operator (i.items f) o) None (renamed_tree (i.items f) (normal_from i.pick t bare (cuts o)))) (images f ms) b (outs os))
      (run_like f o t bare c.0 c.1 ms b os q))
  act_alike f (Nest o p u t) bare c ms ks b os q =
      inr (stepped f ks (act i.here f (Nest o None u t) (plains f ms) b os)
      (act i.there (i.function f) (Nest (renamed_operator (i.items f) (picked i.pick o)) None (renamed_tree (i.items f) (normal_from i.pick u (is_if o) false)) (image i f t bare)) (images f ms) b (outs os))
      (nest_like f o u t bare c.0 c.1 c.2 ms b os q))

  step_alike : (ks : List (Active P i)) (b : ℕ) (os : List Outcome) → Fits P os → Alike ks b os
  step_alike [] b os q = inr (refl, refl)
  step_alike (a ∷ ks) b os q = act_alike a.function a.ahead a.bare a.good a.frames ks b os q

  -- ---- runs

  same_run : (x : Next) (vs : List E) (e : Ending) → Traces i.here x vs e → (y : Next) → LikeNext x y → Traces i.there y (map i.entry vs) e
  same_run x vs e (over {e = d}) y h = let Q : Next → Type 0 = λ z. Traces i.there z [] d in subst Q (sym h) over
  same_run x vs e (goes {s = s} {n = n} {vs = us} h rest shows) y (ks, es, ys, q) =
      let there : step i.here (map was ks) s.bound s.outcomes ≡ n = ap (λ (stack : List Activation). step i.here stack s.bound s.outcomes) es ∙ h in
      let Z : Next → Type 0 = λ z. Traces i.there z (map i.entry vs) e in
      elim (step_alike ks s.bound s.outcomes q) as (λ _. Traces i.there y (map i.entry vs) e) [
        | inl a ↦
            let one : n ≡ record { events = []; move = on (map was a.0) s.bound s.outcomes } = sym there ∙ a.1 in
            let Q : Next → Type 0 = λ z. LikeNext z (on (map is a.0) s.bound (outs s.outcomes)) in
            let like : LikeNext n.move (on (map is a.0) s.bound (outs s.outcomes)) = subst Q (sym (ap (λ (t : Step E Next). t.move) one)) (a.0, refl, refl, q) in
            let run : Traces i.there (on (map is a.0) s.bound (outs s.outcomes)) (map i.entry us) e = same_run n.move us e rest (on (map is a.0) s.bound (outs s.outcomes)) like in
            let R : List E → Type 0 = λ ws. Traces i.there (on (map is a.0) s.bound (outs s.outcomes)) (map i.entry ws) e in
            let events : us ≡ vs = sym (ap (λ (t : Step E Next). t.events ++ us) one) ∙ shows in
            subst Z (ap (λ (stack : List Activation). on stack s.bound (outs s.outcomes)) a.2 ∙ sym ys) (subst R events run)
        | inr a ↦
            let next : Step E Next = step i.there (map is ks) s.bound (outs s.outcomes) in
            let Q : Step E Next → Type 0 = λ t. LikeNext t.move next.move in
            let like : LikeNext n.move next.move = subst Q there a.0 in
            let run : Traces i.there next.move (map i.entry us) e = same_run n.move us e rest next.move like in
            let events : next.events ++ map i.entry us ≡ map i.entry vs =
            ap (λ (ws : List E). ws ++ map i.entry us) (a.1 ∙ ap (λ (t : Step E Next). map i.entry t.events) there) ∙ sym (map-append i.entry n.events us) ∙ ap (λ (ws : List E). map i.entry ws) shows in
            subst Z (sym ys) (goes refl run events)
      ]

  starts_like : (f : ℕ) (o p : Option (List Seen)) → SameBody P i f o p → (os : List Outcome) → Fits P os → (b : ℕ) → LikeNext (starts f o os b) (starts (i.function f) p (outs os) b)
  starts_like f None None k os q b = taken_like LikeNext reply reply_same Over Over (λ e. refl) answered answered answered_alike os q
    where
      answered_alike : (r : Reply) (os : List Outcome) → Fits P os → LikeNext (answered r os) (answered r (outs os))
      answered_alike Back os q = refl
      answered_alike Fails os q = refl
      answered_alike Thrown os q = refl
  starts_like f None (Some others) k os q b = absurd k
  starts_like f (Some ops) None k os q b = absurd k
  starts_like f (Some ops) (Some others) k os q b =
      (active f (nested ops) false k.1 [] ∷ [], refl, ap (λ (t : Tree). on (activation (i.function f) t [] ∷ []) b (outs os)) k.0, q)

  -- what function f does, the one that stands for it does
  pub runs_alike : (f : ℕ) (o p : Option (List Seen)) → SameBody P i f o p → (os : List Outcome) → Fits P os → (b : ℕ) (vs : List E) (e : Ending)
      → Traces i.here (starts f o os b) vs e → Traces i.there (starts (i.function f) p (outs os) b) (map i.entry vs) e
  runs_alike f o p k os q b vs e h = same_run (starts f o os b) vs e h (starts (i.function f) p (outs os) b) (starts_like f o p k os q b)
