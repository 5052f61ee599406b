-- Lemmas: a `nop`, an operator that runs, and one that opens a block, over what open sequences grow into.
use Rattle.std.proofs.Common.{ℕ, ◌+◌, ◌≤◌, ◌≡◌, Bool, true, false, List, [], ◌∷◌, ◌++◌, length, Option, refl, sym, ap, subst, arith, ◌∙◌}
use Rattle.std.proofs.lemmas.List.{append_assoc}
use Rattle.walrus_body_env.specs.walrus_instr.declared.instr.Instr.{Instr}
use Rattle.walrus_body_env.specs.walrus_instr.declared.seq.InstrLocId.{InstrLocId}
use Rattle.walrus_body_env.specs.walrus_instr.declared.seq.InstrSeqType.{InstrSeqType}
use Rattle.walrus_builder.specs.Built.{Seq, empty_seq}
use Rattle.wasm_body_grammar.specs.wasm_operators.Operators.{Seen}
use Rattle.wasm_body_grammar.specs.Frames.{Frame}
use Rattle.wasm_normal_form.specs.Roles.{Passes, Runs, Opens, cuts, is_if}
use Rattle.wasm_normal_form.specs.Trees.{Tree, Skip, Run, Nest, prepend}
use Rattle.wasm_normal_form.specs.Normal.{normal_from}
use Rattle.walrus_body_nesting.specs.declared.frames.Opener.{Opener}
use Rattle.walrus_body_nesting.specs.declared.frames.Reach.{Reach}
use Rattle.walrus_body_nesting.specs.declared.frames.Reach.TheVariants.{Live, Cut, Dropped}
use Rattle.walrus_body_nesting.specs.Stands.{Meaning, place_in, with, lies}
use Rattle.walrus_body_nesting.specs.Opens.{Open, is_bare, ids_of, same, Grower, kept, joined, joins, up, grown, ran_in, ran, reach_in, begun, Later, IsBegun, nothing, IsSized, Grows, Unless, before_of, AreSound, weight, Reads}
use Rattle.walrus_body_nesting.specs.Seqs.{length_begun, later_begun, last_type, fresh_begun}
use Rattle.walrus_body_nesting.specs.Sizes.{hold_run, hold_begun}

pub unless_map : (r : Reach) (A B : Type 0) → (A → B) → Unless r A → Unless r B
unless_map Live A B f h = f h
unless_map Cut A B f h = f h
unless_map Dropped A B f h = tt

-- what was sound stays so where closed sequences do
grows_on : (m : Meaning) (b c : List Seq) (ids js around : List ℕ) (o : Open) (before : ℕ → Bool) (x : Grower) → ((l : List Seq) → Later c js l → Later b ids l) → length b ≤ length c
    → Grows m b ids around o before x → Grows m c js around o before x
grows_on m b c ids js around o before x h l g = record {
  grows = λ later k. g.grows later (h later k);
  fresh = λ j n. g.fresh j (omega (arith, l, n));
  begun = g.begun;
  sized = g.sized;
}

pub sound_on : (m : Meaning) (os : List Open) (b c : List Seq) (ids js : List ℕ) (cs : List Grower) → ((l : List Seq) → Later c js l → Later b ids l) → length b ≤ length c
    → AreSound m os b ids cs → AreSound m os c js cs
sound_on m [] b c ids js [] h l a = tt
sound_on m [] b c ids js (x ∷ cs) h l a = a
sound_on m (o ∷ os) b c ids js [] h l a = a
sound_on m (o ∷ os) b c ids js (x ∷ cs) h l a =
    (unless_map o.reach _ _ (grows_on m b c ids js (ids_of os) o (before_of cs) x h l) a.0, sound_on m os b c ids js cs h l a.1)

-- ---- nop

kept_skip : (r : Reach) (g : Tree → Tree) (w : Bool) (op : Seen) (p : Option ℕ) (t : Tree) → kept r g w (Skip op p t) ≡ kept r g w t
kept_skip Live g w op p t = refl
kept_skip Cut g w op p t = refl
kept_skip Dropped g w op p t = refl

grown_skip : (os : List Open) (cs : List Grower) (op : Seen) (p : Option ℕ) (ts : List Tree) → grown os cs ts ≡ grown os cs (prepend Passes op p ts)
grown_skip os cs op p [] = refl
grown_skip [] cs op p (t ∷ ts) = refl
grown_skip (o ∷ os) [] op p (t ∷ ts) = refl
grown_skip (o ∷ os) (c ∷ cs) op p (t ∷ ts) = ap (λ (u : Tree). up os u (joins o c) cs ts) (sym (kept_skip o.reach c.grow (is_bare o.kind) op p t))

pub nop_reads : (m : Meaning) (b : List Seq) (os : List Open) (op : Seen) (p : Option ℕ) (ts : List Tree) (w : Tree) → Reads m false b os (prepend Passes op p ts) w → Reads m false b os ts w
nop_reads m b os op p ts w r = (r.0, r.1, grown_skip os r.0 op p ts ∙ r.2, r.3)

-- ---- an operator that runs

abbrev run_grower : Seen → Option ℕ → Grower → Grower
run_grower x p c = record { grow = λ t. c.grow (Run x p t); met = c.met; by = c.by }

run_sized : (x : Seen) (p : Option ℕ) (grow : Tree → Tree) → IsSized grow → IsSized (λ t. grow (Run x p t))
run_sized x p grow h t = let a = h (Run x p t) in let b = h (Run x p nothing) in omega (arith, a, b)

run_weight : (x : Seen) (p : Option ℕ) (c : Grower) → IsSized c.grow → weight (run_grower x p c) ≡ weight c + 1
run_weight x p c h = let a = h (Run x p nothing) in omega (arith, a)

run_grows : (m : Meaning) (b : List Seq) (ids around : List ℕ) (o : Open) (r : Reach) (before : ℕ → Bool) (c : Grower) (i : Instr) (p : InstrLocId) (x : Seen) → m.runs (o.seq ∷ around) x i
    → Grows m b ids around o before c → Grows m b ids around (record o { instrs = o.instrs ++ (i, p) ∷ []; reach = r }) before (run_grower x (place_in p) c)
run_grows m b ids around o r before c i p x e g = record {
  grows = λ later h s more found items ms f t done lie.
      g.grows later h s ((i, p) ∷ more) found (items ∙ append_assoc o.instrs ((i, p) ∷ []) more) ms f (Run x (place_in p) t) done (e, refl, lie);
  fresh = g.fresh;
  begun = g.begun;
  sized = run_sized x (place_in p) c.grow g.sized;
}

run_at : (m : Meaning) (r : Reach) (d : Bool) (b : List Seq) (o : Open) (os : List Open) (i : Instr) (p : InstrLocId) (x : Seen) (ts : List Tree) (w : Tree)
    → o.reach ≡ r → cuts x ≡ d → m.runs (o.seq ∷ ids_of os) x i → Reads m false b (o ∷ os) (prepend Runs x (place_in p) ts) w → Reads m false b (ran_in r (i, p) d o ∷ os) ts w
run_at m r d b o os i p x ts w e q pl ([], a, z, h) = absurd a
run_at m Live d b o os i p x [] w e q pl (c ∷ cs, a, z, h) = made d
  where
    g : Grows m b (ids_of (o ∷ os)) (ids_of os) o (before_of cs) c
    g = let F : Reach → Type 0 = λ r. Unless r (Grows m b (ids_of (o ∷ os)) (ids_of os) o (before_of cs) c) in subst F e a.0

    made : (d : Bool) → Reads m false b (ran_in Live (i, p) d o ∷ os) [] w
    made true = (run_grower x (place_in p) c ∷ cs, (run_grows m b _ _ o Cut _ c i p x pl g, a.1), z, hold_run b o os c _ cs (i, p) Cut e tt (run_weight x (place_in p) c g.sized) h)
    made false = (run_grower x (place_in p) c ∷ cs, (run_grows m b _ _ o Live _ c i p x pl g, a.1), z, hold_run b o os c _ cs (i, p) Live e tt (run_weight x (place_in p) c g.sized) h)
run_at m Live true b o os i p x (t ∷ ts) w e q pl (c ∷ cs, a, z, h) =
    let G : Type 0 = Grows m b (ids_of (o ∷ os)) (ids_of os) o (before_of cs) c in
    let F : Reach → Type 0 = λ r. Unless r G in
    let K : Reach → Tree = λ r. up os (kept r c.grow (is_bare o.kind) (Run x (place_in p) t)) (joined r c.by (place_in o.place)) cs ts in
    let M : Bool → Tree = λ d. up os (c.grow (Run x (place_in p) (normal_from same t (is_bare o.kind) d))) (joined Live c.by (place_in o.place)) cs ts in
    let g = subst F e a.0 in
    (run_grower x (place_in p) c ∷ cs, (run_grows m b _ _ o Cut _ c i p x pl g, a.1), sym (ap K e ∙ ap M q) ∙ z, hold_run b o os c _ cs (i, p) Cut e tt (run_weight x (place_in p) c g.sized) h)
run_at m Live false b o os i p x (t ∷ ts) w e q pl (c ∷ cs, a, z, h) =
    let G : Type 0 = Grows m b (ids_of (o ∷ os)) (ids_of os) o (before_of cs) c in
    let F : Reach → Type 0 = λ r. Unless r G in
    let K : Reach → Tree = λ r. up os (kept r c.grow (is_bare o.kind) (Run x (place_in p) t)) (joined r c.by (place_in o.place)) cs ts in
    let M : Bool → Tree = λ d. up os (c.grow (Run x (place_in p) (normal_from same t (is_bare o.kind) d))) (joined Live c.by (place_in o.place)) cs ts in
    let g = subst F e a.0 in
    (run_grower x (place_in p) c ∷ cs, (run_grows m b _ _ o Live _ c i p x pl g, a.1), sym (ap K e ∙ ap M q) ∙ z, hold_run b o os c _ cs (i, p) Live e tt (run_weight x (place_in p) c g.sized) h)
run_at m Cut d b o os i p x [] w e q pl (c ∷ cs, a, z, h) = (c ∷ cs, a, z, h)
run_at m Cut d b o os i p x (t ∷ ts) w e q pl (c ∷ cs, a, z, h) =
    let G : Reach → Type 0 = λ r. kept r c.grow (is_bare o.kind) t ≡ kept r c.grow (is_bare o.kind) (Run x (place_in p) t) in
    (c ∷ cs, a, ap (λ (u : Tree). up os u (joins o c) cs ts) (subst G (sym e) refl) ∙ z, h)
run_at m Dropped d b o os i p x [] w e q pl (c ∷ cs, a, z, h) = (c ∷ cs, a, z, h)
run_at m Dropped d b o os i p x (t ∷ ts) w e q pl (c ∷ cs, a, z, h) =
    let G : Reach → Type 0 = λ r. kept r c.grow (is_bare o.kind) t ≡ kept r c.grow (is_bare o.kind) (Run x (place_in p) t) in
    (c ∷ cs, a, ap (λ (u : Tree). up os u (joins o c) cs ts) (subst G (sym e) refl) ∙ z, h)

pub run_reads : (m : Meaning) (b : List Seq) (o : Open) (os : List Open) (i : Instr) (p : InstrLocId) (x : Seen) (ts : List Tree) (w : Tree)
    → m.runs (o.seq ∷ ids_of os) x i → Reads m false b (o ∷ os) (prepend Runs x (place_in p) ts) w → Reads m false b (ran (i, p) (cuts x) o ∷ os) ts w
run_reads m b o os i p x ts w pl r = run_at m o.reach (cuts x) b o os i p x ts w refl refl pl r

-- ---- what opens a block

abbrev inner_grower : ℕ → Seen → Grower → Grower
inner_grower n by c = record { grow = λ t. t; met = with n c.met; by = by }

begun_grows : (m : Meaning) (b : List Seq) (ids js around : List ℕ) (o : Open) (g : Opener) (p : InstrLocId) (ty : InstrSeqType) (kind : Frame) (by : Seen) (r : Reach) (before : ℕ → Bool) (c : Grower)
    → IsBegun m (o.seq ∷ around) g ty by → Grows m b ids around o before c
    → Grows m (b ++ empty_seq (length b) ty ∷ []) js (o.seq ∷ around) (begun g p ty kind (length b) r) c.met (inner_grower (length b) by c)
begun_grows m b ids js around o g p ty kind by r before c begun k = record {
  grows = λ later h x more found items ms f t done lie.
      let F : List (Instr × InstrLocId) → Type 0 = λ is. lies m t later (o.seq ∷ around) (length b) ty (with (length b) c.met) is x.end ms f done in
      record { seq = x; fresh = k.fresh (length b) (omega arith); found = found; typed = last_type b (empty_seq (length b) ty) js later x h found; lie = subst F (sym items) lie };
  fresh = fresh_begun b (empty_seq (length b) ty) c.met k.fresh;
  begun = begun;
  sized = λ t. omega arith;
}

unless_in : (r : Reach) (A B : Type 0) → (A → B) → Unless r A → Unless (reach_in r) B
unless_in Live A B f h = f h
unless_in Cut A B f h = tt
unless_in Dropped A B f h = tt

-- where what comes next is not reached, nothing is claimed of what is opened
pub begun_in : (r : Reach) (A B C : Type 0) → (Unless (reach_in r) A) → (A → B → C) → Unless r B → Unless (reach_in r) C
begun_in Live A B C x f h = f x h
begun_in Cut A B C x f h = tt
begun_in Dropped A B C x f h = tt

kept_nest : (r : Reach) (by : Seen) (p : Option ℕ) (u t : Tree) (k : Tree → Tree) (w : Bool)
    → kept r (joined (reach_in r) by p (kept (reach_in r) (λ v. v) (is_if by) u) k) w t ≡ kept r k w (Nest by p u t)
kept_nest Live by p u t k w = refl
kept_nest Cut by p u t k w = refl
kept_nest Dropped by p u t k w = refl

grown_begun : (g : Opener) (p : InstrLocId) (ty : InstrSeqType) (kind : Frame) (by : Seen) (n : ℕ) (o : Open) (os : List Open) (c : Grower) (cs : List Grower) (ts : List Tree) → is_bare kind ≡ is_if by
    → grown (begun g p ty kind n (reach_in o.reach) ∷ (o ∷ os)) (inner_grower n by c ∷ (c ∷ cs)) ts ≡ grown (o ∷ os) (c ∷ cs) (prepend Opens by (place_in p) ts)
grown_begun g p ty kind by n o os c cs [] e = refl
grown_begun g p ty kind by n o os c cs (u ∷ []) e = refl
grown_begun g p ty kind by n o os c cs (u ∷ (t ∷ ts)) e =
    let B : Bool → Tree = λ w. kept o.reach (joined (reach_in o.reach) by (place_in p) (kept (reach_in o.reach) (λ v. v) w u) c.grow) (is_bare o.kind) t in
    ap (λ (v : Tree). up os v (joins o c) cs ts) (ap B e ∙ kept_nest o.reach by (place_in p) u t c.grow (is_bare o.kind))

pub begin_reads : (m : Meaning) (b : List Seq) (o : Open) (os : List Open) (g : Opener) (p : InstrLocId) (ty : InstrSeqType) (kind : Frame) (by : Seen) (ts : List Tree) (w : Tree)
    → is_bare kind ≡ is_if by → Unless (reach_in o.reach) (IsBegun m (ids_of (o ∷ os)) g ty by)
    → Reads m false b (o ∷ os) (prepend Opens by (place_in p) ts) w → Reads m false (b ++ empty_seq (length b) ty ∷ []) (begun g p ty kind (length b) (reach_in o.reach) ∷ (o ∷ os)) ts w
begin_reads m b o os g p ty kind by ts w e x ([], a, r, h) = absurd a
begin_reads m b o os g p ty kind by ts w e x (c ∷ cs, a, r, h) =
    let s = empty_seq (length b) ty in (
      inner_grower (length b) by c ∷ (c ∷ cs),
      (
        begun_in o.reach _ _ _ x (begun_grows m b _ _ (ids_of os) o g p ty kind by (reach_in o.reach) (before_of cs) c) a.0,
        sound_on m (o ∷ os) b (b ++ s ∷ []) _ _ (c ∷ cs) (later_begun b s (ids_of (o ∷ os))) (omega (arith, length_begun b s)) a,
      ),
      grown_begun g p ty kind by (length b) o os c cs ts e ∙ r,
      hold_begun b o os c _ cs g p ty kind refl h,
    )
