-- Each run ends, and in one way: a step spends of the bound, or less is ahead.
use Rattle.std.proofs.Common.{ℕ, zero, suc, ◌≡◌, ◌<◌, ◌≤◌, ◌+◌, Bool, true, false, List, [], ◌∷◌, ◌++◌, map, refl, sym, ap, subst, ◌∙◌, ◌⊎◌, inl, inr, arith}
use Rattle.std.specs.Prelude.{Option, Some, None, slice_get, if◌then◌else◌}
use Rattle.wasm_operators.specs.declared.clause.Clause.{Clause}
use Rattle.wasm_operators.specs.declared.clause.Clause.TheVariants as clauses
use Rattle.wasm_operators.specs.declared.entry.Flow.{Flow}
use Rattle.wasm_operators.specs.declared.entry.Flow.TheVariants as flows
use Rattle.wasm_operators.specs.Operators.{Seen, flow_of}
use Rattle.wasm_normal_form.specs.Trees.{Tree, Close, Arm, Skip, Run, Nest}
use Rattle.wasm_runs.specs.Outcomes.{Outcome, Ending, Waiting, Misfit, goes_on, holds, throws, number, Reply, Back, Fails, Thrown, reply, Found, Replies, Into, found, given, taken}
use Rattle.wasm_runs.specs.Programs.{Executed, Event, Code, whole, cut, nested, labels_of, callee_of, clauses_of}
use Rattle.wasm_runs.specs.Frames.{Way, To, Along, Handler, Frame, plain, Part, parts, handler_of, clause_handler, opened}
use Rattle.wasm_runs.specs.Machine.{Move, Goes, Leaves, Raises, Enters, Becomes, Ends, to_frame, branch, branch_to, caught, offered_one, offered, thrown, Step, did, did_unless_over, stuck, goes_or_traps, Call, from, instead, entered, replied, calls, finds, calls_any, acts, otherwise, begins, ends_part, act}
use Rattle.wasm_runs.specs.Traces.{Activation, State, Next, On, Over, activation, back_to, moved, raised, step, Traces, over, goes, starts}
use Rattle.wasm_runs.specs.Laws.{EachRunEnds, OneTrace, EachBodyEnds, OneBodyTrace}

-- ---- how much is ahead: in a sequence with its other parts, and up to its end

abbrev all : Tree → ℕ
all (Close o p) = 1
all (Arm o p t) = 1 + all t
all (Skip o p t) = 1 + all t
all (Run o p t) = 1 + all t
all (Nest o p u t) = 2 + all u + all t

abbrev len : Tree → ℕ
len (Close o p) = 1
len (Arm o p t) = 1
len (Skip o p t) = 1 + len t
len (Run o p t) = 1 + len t
len (Nest o p u t) = 2 + all u + len t

abbrev way_len : Way → ℕ
way_len (To t) = len t
way_len (Along k) = 0

abbrev lens : List Handler → ℕ
lens [] = 0
lens (h ∷ hs) = way_len h.way + lens hs

abbrev weights : List Frame → ℕ
weights [] = 0
weights (f ∷ fs) = 1 + lens f.handlers + len f.after + weights fs

some : (t : Tree) → 1 ≤ len t
some (Close o p) = omega arith
some (Arm o p t) = omega arith
some (Skip o p t) = omega arith
some (Run o p t) = omega arith
some (Nest o p u t) = omega arith

parts_fit : (t : Tree) → len t + lens (map handler_of (parts t)) ≤ all t
parts_fit (Close o p) = omega arith
parts_fit (Arm o p t) = let h : len t + lens (map handler_of (parts t)) ≤ all t = parts_fit t in omega arith
parts_fit (Skip o p t) = let h : len t + lens (map handler_of (parts t)) ≤ all t = parts_fit t in omega arith
parts_fit (Run o p t) = let h : len t + lens (map handler_of (parts t)) ≤ all t = parts_fit t in omega arith
parts_fit (Nest o p u t) = let h : len t + lens (map handler_of (parts t)) ≤ all t = parts_fit t in omega arith

clauses_fit : (cs : List Clause) → lens (map clause_handler cs) ≡ 0
clauses_fit [] = refl
clauses_fit (clauses.Catch tag label ∷ cs) = let h : lens (map clause_handler cs) ≡ 0 = clauses_fit cs in omega arith
clauses_fit (clauses.CatchRef tag label ∷ cs) = let h : lens (map clause_handler cs) ≡ 0 = clauses_fit cs in omega arith
clauses_fit (clauses.CatchAll label ∷ cs) = let h : lens (map clause_handler cs) ≡ 0 = clauses_fit cs in omega arith
clauses_fit (clauses.CatchAllRef label ∷ cs) = let h : lens (map clause_handler cs) ≡ 0 = clauses_fit cs in omega arith

-- ---- moves fall

-- (b, v) before (n, w)
abbrev Less : ℕ → ℕ → ℕ → ℕ → Type 0
Less n w b v = (b < n) ⊎ ((b ≡ n) × (v < w))

more : (n w x b v : ℕ) → w ≤ x → Less n w b v → Less n x b v
more n w x b v h (inl k) = inl k
more n w x b v h (inr k) = inr (k.0, omega arith)

abbrev Falls : ℕ → ℕ → Move → Type 0
Falls n w (Goes t fs b os) = Less n w b (len t + weights fs)
Falls n w (Leaves b os) = b ≡ n
Falls n w (Raises b os) = b ≡ n
Falls n w (Enters g u t fs b os) = b < n
Falls n w (Becomes g u b os) = b < n
Falls n w (Ends e) = Unit {0}

weaker : (n w x : ℕ) → w ≤ x → (m : Move) → Falls n w m → Falls n x m
weaker n w x h (Goes t fs b os) k = more n w x b (len t + weights fs) h k
weaker n w x h (Leaves b os) k = k
weaker n w x h (Raises b os) k = k
weaker n w x h (Enters g u t fs b os) k = k
weaker n w x h (Becomes g u b os) k = k
weaker n w x h (Ends e) k = tt

-- what holds whatever outcome is taken
given_has : {A B : Type 0} (P : B → Type 0) (none : B) (next : A → B) → P none → ((x : A) → P (next x)) → (o : Option A) → P (given none next o)
given_has P none next h k None = h
given_has P none next h k (Some x) = k x

taken_has : {A B : Type 0} (P : B → Type 0) (kind : Outcome → Option A) (stop : Ending → B) (next : A → List Outcome → B)
    → ((e : Ending) → P (stop e)) → ((x : A) (os : List Outcome) → P (next x os)) → (os : List Outcome) → P (taken kind stop next os)
taken_has P kind stop next h k [] = h Waiting
taken_has P kind stop next h k (o ∷ os) = given_has P (stop Misfit) (λ x. next x os) (h Misfit) (λ x. k x os) (kind o)

if_has : {B : Type 0} (P : B → Type 0) (x y : B) → P x → P y → (b : Bool) → P (if b then x else y)
if_has P x y h k true = h
if_has P x y h k false = k

to_frame_falls : (o : Option Tree) (f : Frame) (fs : List Frame) (n : ℕ) (os : List Outcome) → Falls n (suc (weights (f ∷ fs))) (to_frame o f fs n os)
to_frame_falls None f fs n os = inr (refl, omega arith)
to_frame_falls (Some u) f fs zero os = tt
to_frame_falls (Some u) f fs (suc n) os = inl (omega arith)

branch_falls : (k : ℕ) (fs : List Frame) (n : ℕ) (os : List Outcome) → Falls n (suc (weights fs)) (branch k fs n os)
branch_falls zero [] n os = refl
branch_falls (suc k) [] n os = refl
branch_falls zero (f ∷ fs) n os = to_frame_falls f.again f fs n os
branch_falls (suc k) (f ∷ fs) n os = weaker n (suc (weights fs)) (suc (weights (f ∷ fs))) (omega arith) (branch k fs n os) (branch_falls k fs n os)

branch_to_falls : (o : Option ℕ) (fs : List Frame) (n w : ℕ) (os : List Outcome) → suc (weights fs) ≤ w → Falls n w (branch_to o fs n os)
branch_to_falls None fs n w os h = tt
branch_to_falls (Some k) fs n w os h = weaker n (suc (weights fs)) w h (branch k fs n os) (branch_falls k fs n os)

caught_falls : (way : Way) (after : Tree) (fs : List Frame) (n : ℕ) (os : List Outcome) → Falls n (suc (1 + way_len way + len after + weights fs)) (caught way after fs n os)
caught_falls (To h) after fs n os = inr (refl, omega arith)
caught_falls (Along k) after fs n os = weaker n (suc (weights fs)) (suc (1 + 0 + len after + weights fs)) (omega arith) (branch k fs n os) (branch_falls k fs n os)

offered_one_falls : (tagged : Bool) (way : Way) (further : List Outcome → Move) (after : Tree) (fs : List Frame) (n x : ℕ)
    → ((os : List Outcome) → Falls n x (caught way after fs n os)) → ((os : List Outcome) → Falls n x (further os)) → (os : List Outcome) → Falls n x (offered_one tagged way further after fs n os)
offered_one_falls false way further after fs n x h k os = h os
offered_one_falls true way further after fs n x h k os =
    taken_has (Falls n x) holds Ends (λ yes rest. if yes then caught way after fs n rest else further rest) (λ e. tt) (λ yes rest. if_has (Falls n x) (caught way after fs n rest) (further rest) (h rest) (k rest) yes) os

offered_falls : (hs : List Handler) (further : List Outcome → Move) (after : Tree) (fs : List Frame) (n x : ℕ) → suc (1 + lens hs + len after + weights fs) ≤ x
    → ((os : List Outcome) → Falls n x (further os)) → (os : List Outcome) → Falls n x (offered hs further after fs n os)
offered_falls [] further after fs n x l h os = h os
offered_falls (a ∷ hs) further after fs n x l h os =
    offered_one_falls a.tagged a.way (λ rest. offered hs further after fs n rest) after fs n x
    (λ os. weaker n (suc (1 + way_len a.way + len after + weights fs)) x (omega arith) (caught a.way after fs n os) (caught_falls a.way after fs n os))
    (λ rest. offered_falls hs further after fs n x (omega arith) h rest) os

thrown_falls : (k : ℕ) (fs : List Frame) (n : ℕ) (os : List Outcome) → Falls n (suc (weights fs)) (thrown k fs n os)
thrown_falls zero [] n os = refl
thrown_falls (suc k) [] n os = refl
thrown_falls zero (f ∷ fs) n os =
    offered_falls f.handlers (λ rest. thrown f.passes fs n rest) f.after fs n (suc (weights (f ∷ fs))) (omega arith)
    (λ rest. weaker n (suc (weights fs)) (suc (weights (f ∷ fs))) (omega arith) (thrown f.passes fs n rest) (thrown_falls f.passes fs n rest)) os
thrown_falls (suc k) (f ∷ fs) n os = weaker n (suc (weights fs)) (suc (weights (f ∷ fs))) (omega arith) (thrown k fs n os) (thrown_falls k fs n os)

otherwise_falls : (ps : List Part) (t : Tree) (fs : List Frame) (n w : ℕ) (os : List Outcome) → 2 + lens (map handler_of ps) + len t + weights fs < w → Falls n w (otherwise ps t fs n os)
otherwise_falls [] t fs n w os h = inr (refl, omega arith)
otherwise_falls (p ∷ ps) t fs n w os h = inr (refl, omega arith)

-- the frame that is opened, with its body, is less than the block
opened_falls : (flow : Option Flow) (cs : List Clause) (u t : Tree) → len u + (lens (opened flow cs u t).handlers + len (opened flow cs u t).after) ≤ all u + len t
opened_falls (Some flows.OpensLoop) cs u t = let h : len u + lens (map handler_of (parts u)) ≤ all u = parts_fit u in omega arith
opened_falls (Some flows.OpensTry) cs u t = let h : len u + lens (map handler_of (parts u)) ≤ all u = parts_fit u in omega arith
opened_falls (Some flows.OpensTryTable) cs u t =
    let h : len u + lens (map handler_of (parts u)) ≤ all u = parts_fit u in let k : lens (map clause_handler cs) ≡ 0 = clauses_fit cs in omega arith
opened_falls _ cs u t = let h : len u + lens (map handler_of (parts u)) ≤ all u = parts_fit u in omega arith

ends_part_falls : (fs : List Frame) (n : ℕ) (os : List Outcome) → Falls n (1 + weights fs) (ends_part fs n os)
ends_part_falls [] n os = refl
ends_part_falls (f ∷ fs) n os = inr (refl, omega arith)

-- ---- stacks

abbrev load : List Activation → ℕ
load [] = 0
load (a ∷ ks) = 1 + len a.ahead + weights a.frames + load ks

abbrev NextFalls : ℕ → ℕ → Next → Type 0
NextFalls n w (On s) = Less n w s.bound (load s.stack)
NextFalls n w (Over e) = Unit {0}

back_to_falls : (ks : List Activation) (n w : ℕ) (os : List Outcome) (b : ℕ) → b ≡ n → load ks < w → NextFalls n w (back_to ks b os)
back_to_falls [] n w os b e h = tt
back_to_falls (a ∷ ks) n w os b e h = inr (e, h)

goes_falls : (f : ℕ) (t : Tree) (fs : List Frame) (ks : List Activation) (n w x b : ℕ) → 1 + w + load ks ≤ x → Less n w b (len t + weights fs) → Less n x b (load (activation f t fs ∷ ks))
goes_falls f t fs ks n w x b l (inl k) = inl k
goes_falls f t fs ks n w x b l (inr k) = let h : len t + weights fs < w = k.1 in inr (k.0, omega arith)

moved_falls : (f : ℕ) (ks : List Activation) (up : ℕ → List Outcome → Next) (n w x : ℕ) → 1 + w + load ks ≤ x → ((b : ℕ) (os : List Outcome) → b ≡ n → NextFalls n x (up b os))
    → (m : Move) → Falls n w m → NextFalls n x (moved f ks up m)
moved_falls f ks up n w x l k (Goes t fs b os) h = goes_falls f t fs ks n w x b l h
moved_falls f ks up n w x l k (Leaves b os) h = back_to_falls ks n x os b h (omega arith)
moved_falls f ks up n w x l k (Raises b os) h = k b os h
moved_falls f ks up n w x l k (Enters g u t fs b os) h = inl h
moved_falls f ks up n w x l k (Becomes g u b os) h = inl h
moved_falls f ks up n w x l k (Ends e) h = tt

raised_falls : (ks : List Activation) (n x : ℕ) → load ks < x → (b : ℕ) (os : List Outcome) → b ≡ n → NextFalls n x (raised ks b os)
raised_falls [] n x l b os e = tt
raised_falls (a ∷ ks) n x l b os e =
    let h : 1 ≤ len a.ahead = some a.ahead in
    let P : ℕ → Type 0 = λ b. NextFalls n x (raised (a ∷ ks) b os) in
    subst P (sym e) (moved_falls a.function ks (raised ks) n (suc (weights a.frames)) x (omega arith) (raised_falls ks n x (omega arith)) (thrown 0 a.frames n os) (thrown_falls 0 a.frames n os))

-- ---- operators

module _ (E : Type 0) (c : Code E) where
  abbrev StepFalls : ℕ → ℕ → Step E Move → Type 0
  StepFalls n w s = Falls n w s.move

  unless_falls : (v : E) (n w : ℕ) (m : Move) → Falls n w m → StepFalls n w (did_unless_over v m)
  unless_falls v n w (Goes t fs b os) h = h
  unless_falls v n w (Leaves b os) h = h
  unless_falls v n w (Raises b os) h = h
  unless_falls v n w (Enters g u t fs b os) h = h
  unless_falls v n w (Becomes g u b os) h = h
  unless_falls v n w (Ends e) h = h

  or_traps_falls : (v : E) (next : List Outcome → Move) (n w : ℕ) → ((os : List Outcome) → Falls n w (next os)) → (b : Bool) (os : List Outcome) → StepFalls n w (goes_or_traps v next b os)
  or_traps_falls v next n w h true os = h os
  or_traps_falls v next n w h false os = tt

  record CallFalls (call : Call) (n w : ℕ) : Type 0 where
    into : (g : ℕ) (u : Tree) (b : ℕ) (os : List Outcome) → b < n → Falls n w (call.into g u b os)
    back : (os : List Outcome) → Falls n w (call.back n os)
    raise : (os : List Outcome) → Falls n w (call.raise n os)

  entered_falls : (v : E) (call : Call) (n w : ℕ) → CallFalls call n w → (g : ℕ) (o : Option (List Seen)) (os : List Outcome) (other : Step E Move) → StepFalls n w other → StepFalls n w (entered v call g o n os other)
  entered_falls v call n w h g None os other k = k
  entered_falls v call zero w h g (Some ops) os other k = tt
  entered_falls v call (suc n) w h g (Some ops) os other k = h.into g (nested ops) n os (omega arith)

  replied_falls : (v : E) (call : Call) (n w : ℕ) → CallFalls call n w → (r : Reply) (os : List Outcome) → StepFalls n w (replied v call n r os)
  replied_falls v call n w h Back os = h.back os
  replied_falls v call n w h Fails os = tt
  replied_falls v call n w h Thrown os = h.raise os

  finds_falls : (v : E) (call : Call) (n w : ℕ) → CallFalls call n w → (r : Found) (os : List Outcome) → StepFalls n w (finds c v call n r os)
  finds_falls v call n w h (Replies r) os = replied_falls v call n w h r os
  finds_falls v call n w h (Into g) os = entered_falls v call n w h g (c.body g) os (stuck Misfit) tt

  calls_any_falls : (v : E) (call : Call) (n w : ℕ) → CallFalls call n w → (os : List Outcome) → StepFalls n w (calls_any c v call n os)
  calls_any_falls v call n w h os = taken_has (StepFalls n w) found stuck (finds c v call n) (λ e. tt) (finds_falls v call n w h) os

  calls_falls : (v : E) (call : Call) (n w : ℕ) → CallFalls call n w → (o : Option ℕ) (os : List Outcome) → StepFalls n w (calls c v call o n os)
  calls_falls v call n w h None os = tt
  calls_falls v call n w h (Some g) os =
      entered_falls v call n w h g (c.body g) os (taken reply stuck (replied v call n) os) (taken_has (StepFalls n w) reply stuck (replied v call n) (λ e. tt) (replied_falls v call n w h) os)

  from_falls : (t : Tree) (fs : List Frame) (n : ℕ) → CallFalls (from t fs) n (1 + len t + weights fs)
  from_falls t fs n = record {
    into = λ g u b os l. l;
    back = λ os. inr (refl, omega arith);
    raise = λ os. weaker n (suc (weights fs)) (1 + len t + weights fs) (omega arith) (thrown 0 fs n os) (thrown_falls 0 fs n os);
  }

  instead_falls : (n w : ℕ) → CallFalls instead n w
  instead_falls n w = record { into = λ g u b os l. l; back = λ os. refl; raise = λ os. refl }

  acts_falls : (flow : Option Flow) (ls : List ℕ) (o : Option ℕ) (v : E) (t : Tree) (fs : List Frame) (n : ℕ) (os : List Outcome) → StepFalls n (1 + len t + weights fs) (acts c flow ls o v t fs n os)
  acts_falls (Some flows.Traps) ls o v t fs n os = tt
  acts_falls (Some flows.Branches) ls o v t fs n os =
      unless_falls v n (1 + len t + weights fs) (branch_to (slice_get ls 0) fs n os) (branch_to_falls (slice_get ls 0) fs n (1 + len t + weights fs) os (omega arith))
  acts_falls (Some flows.Chooses) ls o v t fs n os =
      let w : ℕ = 1 + len t + weights fs in
      taken_has (StepFalls n w) holds stuck (λ yes rest. did_unless_over v (if yes then branch_to (slice_get ls 0) fs n rest else Goes t fs n rest)) (λ e. tt)
      (λ yes rest. unless_falls v n w (if yes then branch_to (slice_get ls 0) fs n rest else Goes t fs n rest)
      (if_has (Falls n w) (branch_to (slice_get ls 0) fs n rest) (Goes t fs n rest) (branch_to_falls (slice_get ls 0) fs n w rest (omega arith)) (inr (refl, omega arith)) yes)) os
  acts_falls (Some flows.Selects) ls o v t fs n os =
      let w : ℕ = 1 + len t + weights fs in
      taken_has (StepFalls n w) number stuck (λ k rest. did_unless_over v (branch_to (slice_get ls k) fs n rest)) (λ e. tt)
      (λ k rest. unless_falls v n w (branch_to (slice_get ls k) fs n rest) (branch_to_falls (slice_get ls k) fs n w rest (omega arith))) os
  acts_falls (Some flows.Returns) ls o v t fs n os = refl
  acts_falls (Some flows.Throws) ls o v t fs n os = weaker n (suc (weights fs)) (1 + len t + weights fs) (omega arith) (thrown 0 fs n os) (thrown_falls 0 fs n os)
  acts_falls (Some flows.ThrowsOrTraps) ls o v t fs n os =
      let w : ℕ = 1 + len t + weights fs in
      taken_has (StepFalls n w) throws stuck (goes_or_traps v (thrown 0 fs n)) (λ e. tt)
      (or_traps_falls v (thrown 0 fs n) n w (λ os. weaker n (suc (weights fs)) w (omega arith) (thrown 0 fs n os) (thrown_falls 0 fs n os))) os
  acts_falls (Some flows.Calls) ls o v t fs n os = calls_falls v (from t fs) n (1 + len t + weights fs) (from_falls t fs n) o os
  acts_falls (Some flows.CallsIndirectly) ls o v t fs n os = calls_any_falls v (from t fs) n (1 + len t + weights fs) (from_falls t fs n) os
  acts_falls (Some flows.TailCalls) ls o v t fs n os = calls_falls v instead n (1 + len t + weights fs) (instead_falls n (1 + len t + weights fs)) o os
  acts_falls (Some flows.TailCallsIndirectly) ls o v t fs n os = calls_any_falls v instead n (1 + len t + weights fs) (instead_falls n (1 + len t + weights fs)) os
  acts_falls _ ls o v t fs n os =
      let w : ℕ = 1 + len t + weights fs in
      taken_has (StepFalls n w) goes_on stuck (goes_or_traps v (Goes t fs n)) (λ e. tt) (or_traps_falls v (Goes t fs n) n w (λ os. inr (refl, omega arith))) os

  opens_falls : (flow : Option Flow) (cs : List Clause) (v : E) (u t : Tree) (fs : List Frame) (n : ℕ) (os : List Outcome)
      → StepFalls n (2 + all u + len t + weights fs) (did v (Goes u (opened flow cs u t ∷ fs) n os))
  opens_falls flow cs v u t fs n os = let h : len u + (lens (opened flow cs u t).handlers + len (opened flow cs u t).after) ≤ all u + len t = opened_falls flow cs u t in inr (refl, omega arith)

  begins_falls : (flow : Option Flow) (cs : List Clause) (v : E) (u t : Tree) (fs : List Frame) (n : ℕ) (os : List Outcome) → StepFalls n (2 + all u + len t + weights fs) (begins flow cs v u t fs n os)
  begins_falls (Some flows.OpensIf) cs v u t fs n os =
      let h : len u + lens (map handler_of (parts u)) ≤ all u = parts_fit u in
      let k : 1 ≤ len u = some u in
      let w : ℕ = 2 + all u + len t + weights fs in
      taken_has (StepFalls n w) holds stuck (λ yes rest. did v (if yes then Goes u (plain t ∷ fs) n rest else otherwise (parts u) t fs n rest)) (λ e. tt)
      (λ yes rest. if_has (Falls n w) (Goes u (plain t ∷ fs) n rest) (otherwise (parts u) t fs n rest) (inr (refl, omega arith)) (otherwise_falls (parts u) t fs n w rest (omega arith)) yes) os
  begins_falls None cs v u t fs n os = opens_falls None cs v u t fs n os
  begins_falls (Some flow) cs v u t fs n os = opens_falls (Some flow) cs v u t fs n os

  act_falls : (f : ℕ) (t : Tree) (fs : List Frame) (n : ℕ) (os : List Outcome) → StepFalls n (len t + weights fs) (act c f t fs n os)
  act_falls f (Close o p) fs n os = ends_part_falls fs n os
  act_falls f (Arm o p t) fs n os = ends_part_falls fs n os
  act_falls f (Skip o p t) fs n os = inr (refl, omega arith)
  act_falls f (Run o p t) fs n os = acts_falls (flow_of o.code) (labels_of o) (callee_of o) (c.entry f o) t fs n os
  act_falls f (Nest o p u t) fs n os = begins_falls (flow_of o.code) (clauses_of o) (c.entry f o) u t fs n os

  step_falls : (ks : List Activation) (n : ℕ) (os : List Outcome) → NextFalls n (load ks) (step c ks n os).move
  step_falls [] n os = tt
  step_falls (a ∷ ks) n os =
      moved_falls a.function ks (raised ks) n (len a.ahead + weights a.frames) (load (a ∷ ks)) (omega arith) (raised_falls ks n (load (a ∷ ks)) (omega arith))
      (act c a.function a.ahead a.frames n os).move (act_falls a.function a.ahead a.frames n os)

  -- ---- runs

  abbrev Runs : Next → Type 0
  Runs x = (vs : List E) × (e : Ending) × Traces c x vs e

  -- under less of the bound, or with less ahead
  on_state : (n w : ℕ) → ((s : State) → s.bound < n → Runs (On s)) → ((s : State) → s.bound ≡ n → load s.stack < w → Runs (On s)) → (x : Next) → NextFalls n w x → Runs x
  on_state n w h k (On s) (inl l) = h s l
  on_state n w h k (On s) (inr l) = k s l.0 l.1
  on_state n w h k (Over e) l = ([], e, over)

  within : (n : ℕ) → ((s : State) → s.bound < n → Runs (On s)) → (w : ℕ) (s : State) → s.bound ≡ n → load s.stack < w → Runs (On s)
  within n h zero s e l = absurd (omega arith)
  within n h (suc w) s e l =
      let next : Step E Next = step c s.stack s.bound s.outcomes in
      let P : ℕ → Type 0 = λ b. NextFalls b (load s.stack) next.move in
      let rest : Runs next.move = on_state n (load s.stack) h (λ t f less. within n h w t f (omega arith)) next.move (subst P e (step_falls s.stack s.bound s.outcomes)) in
      (next.events ++ rest.0, rest.1, goes refl rest.2 refl)

  under : (n : ℕ) (s : State) → s.bound < n → Runs (On s)
  under zero s l = absurd (omega arith)
  under (suc n) s l = within s.bound (λ t less. under n t (omega arith)) (suc (load s.stack)) s refl (omega arith)

  pub runs_end : (x : Next) → Runs x
  runs_end (On s) = under (suc s.bound) s (omega arith)
  runs_end (Over e) = ([], e, over)

  -- and in one way
  pub one_run : (x : Next) (vs ws : List E) (e d : Ending) → Traces c x vs e → Traces c x ws d → (vs ≡ ws) × (e ≡ d)
  one_run x vs ws e d over over = (refl, refl)
  one_run x vs ws e d (goes {n = n} {vs = us} h more shows) (goes {n = m} {vs = ts} k rest seen) =
      let one : n ≡ m = sym h ∙ k in
      let P : Step E Next → Type 0 = λ s. Traces c s.move ts d in
      let both : (us ≡ ts) × (e ≡ d) = one_run n.move us ts e d more (subst P (sym one) rest) in
      (sym shows ∙ ap (λ (s : Step E Next). s.events ++ us) one ∙ ap (λ (xs : List E). m.events ++ xs) both.0 ∙ seen, both.1)

pub each_run_ends : EachRunEnds
each_run_ends p f outcomes bound = runs_end Event (whole p) (starts f (p.body f) outcomes bound)

pub one_trace : OneTrace
one_trace p f outcomes bound events others ending other = one_run Event (whole p) (starts f (p.body f) outcomes bound) events others ending other

pub each_body_ends : EachBodyEnds
each_body_ends signature ops outcomes bound = runs_end Executed (cut signature) (starts 0 (Some ops) outcomes bound)

pub one_body_trace : OneBodyTrace
one_body_trace signature ops outcomes bound events others ending other = one_run Executed (cut signature) (starts 0 (Some ops) outcomes bound) events others ending other
