-- Lemmas: each operator is a step.
use Rattle.std.proofs.Common.{ℕ, ◌≤◌, ◌≡◌, Bool, true, false, List, [], ◌∷◌, ◌++◌, length, Option, Some, None, refl, sym, ap, subst, arith, ◌∙◌}
use Rattle.std.specs.Prelude.{Ok}
use Rattle.walrus_body_env.specs.walrus_instr.declared.instr.Instr.{Instr}
use Rattle.walrus_body_env.specs.walrus_instr.declared.seq.InstrLocId.{InstrLocId}
use Rattle.walrus_body_env.specs.walrus_instr.declared.seq.InstrSeqType.{InstrSeqType}
use Rattle.walrus_builder.specs.Built.{Seq, edited, filled_with, empty_seq}
use Rattle.wasm_body_grammar.specs.wasm_operators.declared.entry.Flow.{Flow}
use Rattle.wasm_body_grammar.specs.wasm_operators.declared.entry.Flow.TheVariants as flows
use Rattle.wasm_body_grammar.specs.wasm_operators.Operators.{Seen, flow_of}
use Rattle.wasm_body_grammar.specs.Frames.{Frame, Plain, turned}
use Rattle.wasm_normal_form.specs.Roles.{Role, Passes, Runs, Opens, Turns, Ends, role_in, role, cuts, is_if}
use Rattle.wasm_normal_form.specs.Trees.{Tree, prepend}
use Rattle.walrus_body_nesting.specs.declared.frames.Opener.{Opener}
use Rattle.walrus_body_nesting.specs.declared.frames.Reach.{Reach}
use Rattle.walrus_body_nesting.specs.declared.frames.Reach.TheVariants.{Live, Cut, Dropped}
use Rattle.walrus_body_nesting.specs.Stands.{Turn, Part, Finish, Ended, block, Meaning, place_in}
use Rattle.walrus_body_nesting.specs.Opens.{Open, is_bare, ids_of, kinds_of, ran_in, ran, nested, reach_in, reach_on, begun, turned_to, IsBegun, Makes, Unless, IsReached, Shaped, Reads, Steps}
use Rattle.walrus_body_nesting.specs.Seqs.{length_edited, length_begun, falling_up}
use Rattle.walrus_body_nesting.specs.Grown.{nop_reads, run_reads, begin_reads}
use Rattle.walrus_body_nesting.specs.Turning.{turn_reads}
use Rattle.walrus_body_nesting.specs.Ending.{IsEnd, Closing, end_reads, end_dropped, body_reads}

-- ---- what operators make of frames

-- of one that passes or runs the frames stay as they are
pub passing_turned : (f : Option Flow) (k : Frame) (ks : List Frame) → role_in f ≡ Passes → turned f (k ∷ ks) ≡ Ok (k ∷ ks)
passing_turned None k ks e = refl
passing_turned (Some flows.Passes) k ks e = refl
passing_turned (Some flows.Goes) k ks e = refl
passing_turned (Some flows.Traps) k ks e = refl
passing_turned (Some flows.OpensBlock) k ks e = absurd cc
passing_turned (Some flows.OpensLoop) k ks e = absurd cc
passing_turned (Some flows.OpensIf) k ks e = absurd cc
passing_turned (Some flows.OpensTry) k ks e = absurd cc
passing_turned (Some flows.OpensTryTable) k ks e = absurd cc
passing_turned (Some flows.Else) k ks e = absurd cc
passing_turned (Some flows.Catch) k ks e = absurd cc
passing_turned (Some flows.CatchAll) k ks e = absurd cc
passing_turned (Some flows.Delegate) k ks e = absurd cc
passing_turned (Some flows.End) k ks e = absurd cc
passing_turned (Some flows.Branches) k ks e = refl
passing_turned (Some flows.Chooses) k ks e = refl
passing_turned (Some flows.Selects) k ks e = refl
passing_turned (Some flows.Returns) k ks e = refl
passing_turned (Some flows.Calls) k ks e = refl
passing_turned (Some flows.CallsIndirectly) k ks e = refl
passing_turned (Some flows.TailCalls) k ks e = refl
passing_turned (Some flows.TailCallsIndirectly) k ks e = refl
passing_turned (Some flows.Throws) k ks e = refl
passing_turned (Some flows.ThrowsOrTraps) k ks e = refl

pub running_turned : (f : Option Flow) (k : Frame) (ks : List Frame) → role_in f ≡ Runs → turned f (k ∷ ks) ≡ Ok (k ∷ ks)
running_turned None k ks e = refl
running_turned (Some flows.Passes) k ks e = refl
running_turned (Some flows.Goes) k ks e = refl
running_turned (Some flows.Traps) k ks e = refl
running_turned (Some flows.OpensBlock) k ks e = absurd cc
running_turned (Some flows.OpensLoop) k ks e = absurd cc
running_turned (Some flows.OpensIf) k ks e = absurd cc
running_turned (Some flows.OpensTry) k ks e = absurd cc
running_turned (Some flows.OpensTryTable) k ks e = absurd cc
running_turned (Some flows.Else) k ks e = absurd cc
running_turned (Some flows.Catch) k ks e = absurd cc
running_turned (Some flows.CatchAll) k ks e = absurd cc
running_turned (Some flows.Delegate) k ks e = absurd cc
running_turned (Some flows.End) k ks e = absurd cc
running_turned (Some flows.Branches) k ks e = refl
running_turned (Some flows.Chooses) k ks e = refl
running_turned (Some flows.Selects) k ks e = refl
running_turned (Some flows.Returns) k ks e = refl
running_turned (Some flows.Calls) k ks e = refl
running_turned (Some flows.CallsIndirectly) k ks e = refl
running_turned (Some flows.TailCalls) k ks e = refl
running_turned (Some flows.TailCallsIndirectly) k ks e = refl
running_turned (Some flows.Throws) k ks e = refl
running_turned (Some flows.ThrowsOrTraps) k ks e = refl

-- no further part begins in the body's own sequence
body_turns : (f : Option Flow) (ks ls : List Frame) → role_in f ≡ Turns → turned f (Plain ∷ ks) ≡ Ok ls → ⊥
body_turns None ks ls e h = absurd cc
body_turns (Some flows.Else) ks ls e h = absurd cc
body_turns (Some flows.Catch) ks ls e h = absurd cc
body_turns (Some flows.CatchAll) ks ls e h = absurd cc
body_turns (Some flows.Passes) ks ls e h = absurd (let k = e in cc)
body_turns (Some flows.Goes) ks ls e h = absurd (let k = e in cc)
body_turns (Some flows.Traps) ks ls e h = absurd (let k = e in cc)
body_turns (Some flows.OpensBlock) ks ls e h = absurd (let k = e in cc)
body_turns (Some flows.OpensLoop) ks ls e h = absurd (let k = e in cc)
body_turns (Some flows.OpensIf) ks ls e h = absurd (let k = e in cc)
body_turns (Some flows.OpensTry) ks ls e h = absurd (let k = e in cc)
body_turns (Some flows.OpensTryTable) ks ls e h = absurd (let k = e in cc)
body_turns (Some flows.Delegate) ks ls e h = absurd (let k = e in cc)
body_turns (Some flows.End) ks ls e h = absurd (let k = e in cc)
body_turns (Some flows.Branches) ks ls e h = absurd (let k = e in cc)
body_turns (Some flows.Chooses) ks ls e h = absurd (let k = e in cc)
body_turns (Some flows.Selects) ks ls e h = absurd (let k = e in cc)
body_turns (Some flows.Returns) ks ls e h = absurd (let k = e in cc)
body_turns (Some flows.Calls) ks ls e h = absurd (let k = e in cc)
body_turns (Some flows.CallsIndirectly) ks ls e h = absurd (let k = e in cc)
body_turns (Some flows.TailCalls) ks ls e h = absurd (let k = e in cc)
body_turns (Some flows.TailCallsIndirectly) ks ls e h = absurd (let k = e in cc)
body_turns (Some flows.Throws) ks ls e h = absurd (let k = e in cc)
body_turns (Some flows.ThrowsOrTraps) ks ls e h = absurd (let k = e in cc)

-- ---- the shape of the open sequences is kept

shaped_ran_in : (r : Reach) (d : Bool) (i : Instr × InstrLocId) (b : List Seq) (o : Open) (os : List Open) → Shaped b (o ∷ os) → Shaped b (ran_in r i d o ∷ os)
shaped_ran_in Live true i b o [] h = (h.0, record { first = h.1.first; turns = h.1.turns; kind = h.1.kind; reached = tt })
shaped_ran_in Live true i b o (x ∷ os) h = h
shaped_ran_in Live false i b o [] h = (h.0, record { first = h.1.first; turns = h.1.turns; kind = h.1.kind; reached = tt })
shaped_ran_in Live false i b o (x ∷ os) h = h
shaped_ran_in Cut d i b o os h = h
shaped_ran_in Dropped d i b o os h = h

ran_kind : (r : Reach) (d : Bool) (i : Instr × InstrLocId) (o : Open) → (ran_in r i d o).kind ≡ o.kind
ran_kind Live true i o = refl
ran_kind Live false i o = refl
ran_kind Cut d i o = refl
ran_kind Dropped d i o = refl

shaped_nested : (b c : List Seq) (o u : Open) (os : List Open) (is : List (Instr × InstrLocId)) → length b ≤ length c → Shaped b (o ∷ (u ∷ os)) → Shaped c (record u { instrs = is } ∷ os)
shaped_nested b c o u [] is l h = ((let q = h.0.0 in let r = h.0.1.0 in omega (arith, l, q, r), tt), record { first = h.1.first; turns = h.1.turns; kind = h.1.kind; reached = h.1.reached })
shaped_nested b c o u (x ∷ os) is l h = ((let q = h.0.0 in let r = h.0.1.0 in omega (arith, l, q, r), h.0.1.1), h.1)

shaped_left : (b c : List Seq) (o u : Open) (os : List Open) → length b ≤ length c → Shaped b (o ∷ (u ∷ os)) → Shaped c (u ∷ os)
shaped_left b c o u [] l h = ((let q = h.0.0 in let r = h.0.1.0 in omega (arith, l, q, r), tt), h.1)
shaped_left b c o u (x ∷ os) l h = ((let q = h.0.0 in let r = h.0.1.0 in omega (arith, l, q, r), h.0.1.1), h.1)

shaped_turned : (b : List Seq) (ty : InstrSeqType) (turn : Turn) (kind : Frame) (e : InstrLocId) (o : Open) (os : List Open) (op : Seen) → role op ≡ Turns → turned (flow_of op.code) (kinds_of (o ∷ os)) ≡ Ok (kind ∷ kinds_of os)
    → Shaped b (o ∷ os)
    → Shaped (edited (filled_with o.instrs e) b o.seq ++ empty_seq (length (edited (filled_with o.instrs e) b o.seq)) ty ∷ []) (turned_to turn (length (edited (filled_with o.instrs e) b o.seq)) kind o ∷ os)
shaped_turned b ty turn kind e o [] op r t h =
    let F : Frame → Type 0 = λ k. turned (flow_of op.code) (k ∷ []) ≡ Ok (kind ∷ []) in
    absurd (body_turns (flow_of op.code) [] (kind ∷ []) r (subst F h.1.kind t))
shaped_turned b ty turn kind e o (x ∷ os) op r t h =
    let c = edited (filled_with o.instrs e) b o.seq in
    ((omega (arith, length_begun c (empty_seq (length c) ty)), falling_up o.seq (length c) (ids_of (x ∷ os)) (let q = h.0.0 in omega (arith, q, length_edited (filled_with o.instrs e) b o.seq)) h.0.1), h.1)

-- ---- steps

-- by its role
as_role : (m : Meaning) (b : List Seq) (os : List Open) (op : Seen) (p : Option ℕ) (r : Role) (ts : List Tree) (w : Tree) → role op ≡ r → Reads m false b os (prepend (role op) op p ts) w → Reads m false b os (prepend r op p ts) w
as_role m b os op p r ts w e h = let F : Role → Type 0 = λ r. Reads m false b os (prepend r op p ts) w in subst F e h

pub steps_as : (m : Meaning) (op : Seen) (p : Option ℕ) (b : List Seq) (os : List Open) (d : Bool) (c e : List Seq) (us vs : List Open) → Steps m op p b os d c us → e ≡ c → vs ≡ us → Steps m op p b os d e vs
steps_as m op p b os d c e us vs h q r =
    let F : List Seq → Type 0 = λ z. Steps m op p b os d z us in
    let G : List Open → Type 0 = λ z. Steps m op p b os d e z in
    subst G (sym r) (subst F (sym q) h)

pub nop_steps : (m : Meaning) (b : List Seq) (os : List Open) (op : Seen) (p : Option ℕ) → role op ≡ Passes → Shaped b os → Steps m op p b os false b os
nop_steps m b [] op p e h = absurd h
nop_steps m b (o ∷ os) op p e h = record {
  shaped = h;
  kinds = passing_turned (flow_of op.code) o.kind (kinds_of os) e;
  means = λ ts w r. nop_reads m b (o ∷ os) op p ts w (as_role m b (o ∷ os) op p Passes ts w e r);
}

pub run_steps : (m : Meaning) (b : List Seq) (o u : Open) (os : List Open) (i : Instr) (op : Seen) (p : InstrLocId) (d : Bool) → role op ≡ Runs → m.runs (ids_of (o ∷ os)) op i → d ≡ cuts op → u ≡ ran (i, p) d o
    → Shaped b (o ∷ os) → Steps m op (place_in p) b (o ∷ os) false b (u ∷ os)
run_steps m b o u os i op p d e runs q r h =
    let F : Bool → Type 0 = λ z. u ≡ ran (i, p) z o in
    let G : Open → Type 0 = λ z. Steps m op (place_in p) b (o ∷ os) false b (z ∷ os) in
    subst G (sym (subst F q r)) (record {
      shaped = shaped_ran_in o.reach (cuts op) (i, p) b o os h;
      kinds = running_turned (flow_of op.code) o.kind (kinds_of os) e ∙ ap (λ (k : Frame). Ok (k ∷ kinds_of os)) (sym (ran_kind o.reach (cuts op) (i, p) o));
      means = λ ts w z. run_reads m b o os i p op ts w runs (as_role m b (o ∷ os) op (place_in p) Runs ts w e z);
    })

pub begin_steps : (m : Meaning) (b c : List Seq) (g : Opener) (p : InstrLocId) (ty : InstrSeqType) (kind : Frame) (op : Seen) (o : Open) (os us : List Open) → role op ≡ Opens
    → turned (flow_of op.code) (kinds_of (o ∷ os)) ≡ Ok (kind ∷ kinds_of (o ∷ os)) → is_bare kind ≡ is_if op → Unless (reach_in o.reach) (IsBegun m (ids_of (o ∷ os)) g ty op)
    → c ≡ b ++ empty_seq (length b) ty ∷ [] → us ≡ begun g p ty kind (length b) (reach_in o.reach) ∷ (o ∷ os)
    → Shaped b (o ∷ os) → Steps m op (place_in p) b (o ∷ os) false c us
begin_steps m b c g p ty kind op o os us e t q x r s h =
    let added = empty_seq (length b) ty in
    steps_as m op (place_in p) b (o ∷ os) false (b ++ added ∷ []) c (begun g p ty kind (length b) (reach_in o.reach) ∷ (o ∷ os)) us
    (record {
      shaped = ((omega (arith, length_begun b added), h.0), h.1);
      kinds = t;
      means = λ ts w z. begin_reads m b o os g p ty kind op ts w q x (as_role m b (o ∷ os) op (place_in p) Opens ts w e z);
    }) r s

pub turn_steps : (m : Meaning) (b c : List Seq) (o u : Open) (os : List Open) (turn : Turn) (kind : Frame) (ty : InstrSeqType) (op : Seen) (p : InstrLocId) → role op ≡ Turns
    → turned (flow_of op.code) (kinds_of (o ∷ os)) ≡ Ok (kind ∷ kinds_of os) → is_bare kind ≡ false → Unless (reach_on o.reach) (m.turns o.ty op turn ty)
    → c ≡ edited (filled_with o.instrs p) b o.seq ++ empty_seq (length (edited (filled_with o.instrs p) b o.seq)) ty ∷ []
    → u ≡ turned_to turn (length (edited (filled_with o.instrs p) b o.seq)) kind o
    → Shaped b (o ∷ os) → Steps m op (place_in p) b (o ∷ os) false c (u ∷ os)
turn_steps m b c o u os turn kind ty op p e t q x r s h =
    let f = edited (filled_with o.instrs p) b o.seq in
    steps_as m op (place_in p) b (o ∷ os) false (f ++ empty_seq (length f) ty ∷ []) c (turned_to turn (length f) kind o ∷ os) (u ∷ os)
    (record {
      shaped = shaped_turned b ty turn kind p o os op e t h;
      kinds = t;
      means = λ ts w z. turn_reads m b ty o os turn kind op p ts w h.0 q x (as_role m b (o ∷ os) op (place_in p) Turns ts w e z);
    }) r (ap (λ (z : Open). z ∷ os) s)

-- the block is closed, and was added to the sequence around it where it was reached
end_at : (m : Meaning) (r : Reach) (b c : List Seq) (o v u : Open) (os : List Open) (i : Instr) (op : Seen) (p : Option ℕ) (ms : List Part) (f : Finish) → o.reach ≡ r → role op ≡ Ends
    → turned (flow_of op.code) (kinds_of (o ∷ (v ∷ os))) ≡ Ok (kinds_of (v ∷ os)) → Closing m b c (ids_of (v ∷ os)) o op p ms f → Makes o.opener i (block o.first ms f)
    → u ≡ nested r (i, o.place) v → Shaped b (o ∷ (v ∷ os)) → Steps m op p b (o ∷ (v ∷ os)) false c (u ∷ os)
end_at m Live b c o v u os i op p ms f at e t k made y h =
    let more = k.more in
    let G : Open → Type 0 = λ z. Steps m op p b (o ∷ (v ∷ os)) false c (z ∷ os) in
    subst G (sym y) (record {
      shaped = shaped_nested b c o v os (v.instrs ++ (i, o.place) ∷ []) more h;
      kinds = t;
      means = λ ts w z. end_reads m b c o v os i op p ms f ts w k made (subst IsReached (sym at) tt) (as_role m b (o ∷ (v ∷ os)) op p Ends ts w e z);
    })
end_at m Cut b c o v u os i op p ms f at e t k made y h =
    let more = k.more in
    let G : Open → Type 0 = λ z. Steps m op p b (o ∷ (v ∷ os)) false c (z ∷ os) in
    subst G (sym y) (record {
      shaped = shaped_nested b c o v os (v.instrs ++ (i, o.place) ∷ []) more h;
      kinds = t;
      means = λ ts w z. end_reads m b c o v os i op p ms f ts w k made (subst IsReached (sym at) tt) (as_role m b (o ∷ (v ∷ os)) op p Ends ts w e z);
    })
end_at m Dropped b c o v u os i op p ms f at e t k made y h =
    let more = k.more in
    let G : Open → Type 0 = λ z. Steps m op p b (o ∷ (v ∷ os)) false c (z ∷ os) in
    subst G (sym y) (record {
      shaped = shaped_left b c o v os more h;
      kinds = t;
      means = λ ts w z. end_dropped m b c o v os op p ts w k.weak more k.keeps at (as_role m b (o ∷ (v ∷ os)) op p Ends ts w e z);
    })

pub end_steps : (m : Meaning) (b c : List Seq) (o v u : Open) (os : List Open) (i : Instr) (op : Seen) (p : Option ℕ) (ms : List Part) (f : Finish) → role op ≡ Ends
    → turned (flow_of op.code) (kinds_of (o ∷ (v ∷ os))) ≡ Ok (kinds_of (v ∷ os)) → Closing m b c (ids_of (v ∷ os)) o op p ms f → Makes o.opener i (block o.first ms f)
    → u ≡ nested o.reach (i, o.place) v → Shaped b (o ∷ (v ∷ os)) → Steps m op p b (o ∷ (v ∷ os)) false c (u ∷ os)
end_steps m b c o v u os i op p ms f = end_at m o.reach b c o v u os i op p ms f refl

pub body_steps : (m : Meaning) (b c : List Seq) (o : Open) (us : List Open) (op : Seen) (p : Option ℕ) (e : InstrLocId) → role op ≡ Ends → turned (flow_of op.code) (kinds_of (o ∷ [])) ≡ Ok [] → IsEnd m op p Ended e
    → c ≡ edited (filled_with o.instrs e) b o.seq → Shaped b (o ∷ []) → Steps m op p b (o ∷ []) true c us
body_steps m b c o us op p e r t k q h =
    let F : List Seq → Type 0 = λ z. Steps m op p b (o ∷ []) true z us in
    subst F (sym q) (record {
      shaped = tt;
      kinds = t;
      means = λ ts w z. body_reads m b o op p e ts w k h.0 h.1 (as_role m b (o ∷ []) op p Ends ts w r z);
    })
