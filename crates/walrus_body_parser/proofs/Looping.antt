-- Lemmas: operators, one after another.
use Rattle.std.proofs.Common.{ℕ, ◌≡◌, ◌⊎◌, ◌<◌, ◌≤◌, ◌+◌, ◌-◌, ◌==◌, Bool, true, false, List, [], ◌∷◌, ◌++◌, length, Option, Some, None, Ok, Err, refl, sym, ap, subst, inl, inr, ◌∙◌, arith, append-nil}
use Rattle.std.specs.Prelude.{fold}
use Rattle.std.proofs.lemmas.List.{append_assoc, length-drop, length-map}
use Rattle.std.proofs.lemmas.Bool.{eqb-true}
use Rattle.std.proofs.lemmas.List.Sums.{fold-append}
use Rattle.wasm_features.specs.declared.WasmFeatures.{WasmFeatures}
use Rattle.wasm_reader.specs.Cursor.{Window, Cursor, rest, end_of, Forward, IsWithin}
use Rattle.walrus_instr.specs.declared.seq.InstrSeqType.{InstrSeqType}
use Rattle.walrus_body_operands.specs.walrus_body_stack.walrus_builder.Built.{Building, Seq, seq_of, contents, no_place}
use Rattle.wasm_formats.specs.Stops.{Nesting, stop, Parsing}
use Rattle.wasm_formats.specs.Formats.{Format, done_is, step_ok}
use Rattle.wasm_formats.specs.Bytes.{never, either}
use Rattle.wasm_formats.specs.Joined.{checked, ends_at}
use Rattle.walrus_body_operands.specs.walrus_body_rules.wasm_body_grammar.wasm_operators.declared.entry.Flow.{Flow}
use Rattle.walrus_body_operands.specs.walrus_body_rules.wasm_body_grammar.wasm_operators.declared.entry.Flow.TheVariants as flows
use Rattle.walrus_body_operands.specs.walrus_body_rules.wasm_body_grammar.wasm_operators.Operators.{Seen, flow_of}
use Rattle.walrus_body_locals.specs.wasm_body_grammar.Frames.{Frame, Plain, turned, Turned}
use Rattle.walrus_body_locals.specs.wasm_body_grammar.Rules.{turned_test}
use Rattle.walrus_body_locals.specs.wasm_body_grammar.Bodies.{Point, next_point, frames_of, opened, is_closed, operator}
use Rattle.walrus_body_locals.specs.wasm_normal_form.Trees.{open_in, tree_of}
use Rattle.walrus_body_locals.specs.wasm_normal_form.Normal.{picked, normal}
use Rattle.walrus_body_locals.specs.walrus_body_env.declared.error.BodyError.{BodyError}
use Rattle.walrus_body_locals.specs.walrus_body_env.declared.error.BodyError.TheVariants as faults
use Rattle.walrus_body_locals.specs.walrus_body_env.Faults as env
use Rattle.walrus_body_locals.specs.walrus_body_nesting.declared.frames.Opener.TheVariants as openers
use Rattle.walrus_body_locals.specs.walrus_body_nesting.declared.frames.Reach.TheVariants.{Live}
use Rattle.walrus_body_locals.specs.walrus_body_nesting.Opens.{Open, Grower, begun, ids_of, kinds_of, left_kinds, same, type_at, IsReached, AreSound, Shaped, Reads}
use Rattle.walrus_body_locals.specs.walrus_body_nesting.Ending.{unless_reached}
use Rattle.walrus_body_locals.specs.walrus_body_nesting.Stands.{StandsAs, total}
use Rattle.walrus_body_operands.specs.walrus_body_stack.declared.stack.Stack.{Stack}
use Rattle.walrus_body_operands.specs.walrus_body_stack.Frames.{inner, around, opens, blocks}
use Rattle.walrus_body_operands.specs.walrus_body_rules.Sights.{Sight}
use Rattle.walrus_body_operands.specs.walrus_body_rules.Rules.{operator_test}
use Rattle.walrus_body_operands.specs.walrus_body_steps.Meanings.{OpensOf, meaning}
use Rattle.walrus_body_operands.specs.walrus_body_steps.Stepping.{bodies_start}
use Rattle.walrus_body_locals.specs.Told.{Fails, pass_on}
use Rattle.walrus_body_locals.proofs.Answering.{end_stays, accepted, barred}
use Rattle.walrus_body_parser.proofs.Takes.{offset_is}
use Rattle.walrus_body_parser.specs.Points.{operator_seen, op_told, place_at, ops_from}
use Rattle.walrus_body_parser.specs.Changes.{LacksType, point_at, reads_next, ReadsNext}
use Rattle.walrus_body_parser.specs.Trees.{Validating, parser_of, PassOps, point_of, AreOpen, Lacks, Goes, ReadsTree, RefusesTree}

-- the place behind what was read
behind_is : {A : Type 0} (start : ℕ) (f : Format A) (bytes later : List ℕ) (x : ℕ × A) → (ends_at start f).parse bytes ≡ Ok (x, later) → x.0 ≡ start + (length bytes - length later)
behind_is {A} start f bytes later x e =
    step_ok (f.parse bytes) (λ y. Ok ((start + (length bytes - length y.1), y.0), y.1)) (x, later) e
    (λ y p q. let same = done_is ((start + (length bytes - length y.1), y.0), y.1) (x, later) q in
    ap (λ (z : (ℕ × A) × List ℕ). z.0.0) (sym same) ∙ ap (λ (z : (ℕ × A) × List ℕ). start + (length bytes - length z.1)) same)

seen_behind : (features : WasmFeatures) (s : Sight) (p : Point) (bytes later : List ℕ) (x : ℕ × Seen) → (operator_seen features s p).parse bytes ≡ Ok (x, later) → x.0 ≡ p.place + (length bytes - length later)
seen_behind features s p bytes later x e =
    behind_is p.place (either (is_closed p.frames) (never Nesting) (checked (operator features) (λ op. operator_test s p.frames op))) bytes later x e

on_point : (p : Point) (place : ℕ) (frames : List Frame) (x : ℕ × Seen) (after : List Frame) → p ≡ record { place = place; frames = frames } → turned (flow_of x.1.code) frames ≡ Ok after
    → next_point p x ≡ record { place = x.0; frames = after }
on_point p place frames x after e t =
    ap (λ (q : Point). next_point q x) e ∙ ap (λ (r : Turned). record { place = x.0; frames = frames_of r frames }) t

-- no handler begins in the body's own sequence
no_catch : (op : Seen) (f : Flow) → flow_of op.code ≡ Some f → turned_test (turned (Some f) (Plain ∷ [])) ≡ Some Nesting → turned_test (turned (flow_of op.code) (Plain ∷ [])) ≡ None → ⊥
no_catch op f e n h = let k : turned_test (turned (Some f) (Plain ∷ [])) ≡ None = ap (λ (g : Option Flow). turned_test (turned g (Plain ∷ []))) (sym e) ∙ h in absurd cc

not_there : (s : Sight) (ty : InstrSeqType) (op : Seen) → LacksType s ty op → turned_test (turned (flow_of op.code) (Plain ∷ [])) ≡ None → ⊥
not_there s ty op (inl h) t = no_catch op flows.Catch h.0 refl t
not_there s ty op (inr h) t = no_catch op flows.CatchAll h.0 refl t

-- the operator that opened the innermost block, where that is reached
opened_by : (s : Sight) (b : List Seq) (o : Open) (os : List Open) (ids : List ℕ) (cs : List Grower) (op : Seen) → AreSound (meaning s) (o ∷ os) b ids cs → IsReached o.reach
    → turned_test (turned (flow_of op.code) (kinds_of (o ∷ os))) ≡ None → LacksType s o.ty op → Shaped b (o ∷ os) → (by : Seen) × OpensOf s by o.ty
opened_by s b o os ids [] op a r t l h = absurd a
opened_by s b o [] ids (c ∷ cs) op a r t l h =
    let F : Frame → Type 0 = λ k. turned_test (turned (flow_of op.code) (k ∷ [])) ≡ None in
    absurd (not_there s o.ty op l (subst F h.1.kind t))
opened_by s b o (u ∷ os) ids (c ∷ cs) op a r t l h = let grows = unless_reached o.reach _ r a.0 in (picked same c.by, grows.begun.opens)

module _ {V : Type 0} (s : Sight) (told : Validating V) (code : ℕ) (old : Cursor) (v : V) where
  abbrev first : ℕ
  first = place_at code old

  pub goes_start : (stack : Stack) (ty : InstrSeqType) → length (blocks stack) ≡ 1 → total (blocks stack) ≡ 0 → type_at (blocks stack) 0 ≡ Some ty → opens stack ≡ begun openers.Block no_place ty Plain 0 Live ∷ []
      → IsWithin old → code ≤ old.window.start + old.position → Goes s told code old v false (blocks stack) (opens stack) old v
  goes_start stack ty one none typed is within begins =
      let start = bodies_start s stack ty one none typed is in
      record {
        ops = [];
        passed = (refl, refl);
        point = ap (λ (ks : List Frame). record { place = first; frames = ks }) (sym (ap kinds_of is));
        good = start.0;
        means = λ ys. start.1 (ops_from first ys);
        moves = record { window = refl; forward = omega arith; within = λ h. h };
        within = within;
        begins = begins;
      }

  module _ (stack : Stack) (now : Cursor) (w : V) (g : Goes s told code old v false (blocks stack) (opens stack) now w) where
    -- the next one is parsed so too
    same_next : reads_next s told.op code now stack w ≡ parser_of old.window.features s (point_of (parser_of old.window.features s) told (end_of old) first g.ops)
    same_next =
        ap (λ (f : WasmFeatures). parser_of f s (point_at code now stack)) (ap (λ (w : Window). w.features) g.moves.window)
        ∙ ap (λ (p : Point). parser_of old.window.features s p) (sym g.point)

    pub goes_on : (next : Cursor) (after : Stack) (u : V) (done : Bool) → ReadsNext s told.op code now stack w next after u (Ok done) → length (rest next) < length (rest now) → Forward now next
        → Goes s told code old v done (blocks after) (opens after) next u
    goes_on next after u done r takes moves =
        let x = r.0 in
        let n = length (rest now) in
        let m = length (rest next) in
        let ends : end_of next ≡ end_of now = end_stays now next moves in
        let there : x.0 ≡ place_at code now + (n - m) = seen_behind now.window.features s (point_at code now stack) (rest now) (rest next) x r.1 in
        let inside : IsWithin next = moves.within g.within in
        let size : n ≡ length now.window.bytes - now.position = length-drop now.position now.window.bytes in
        let place : x.0 ≡ place_at code next = there ∙ (let b = g.begins in let k = g.within in omega (arith, ends, takes, b, k, size)) in
        let P : (List ℕ → Parsing (ℕ × Seen)) → Type 0 = λ p. p (rest now) ≡ Ok (x, rest next) in
        let T : ℕ → Type 0 = λ end. told.op w (end - n) x.1 ≡ (None, u) in
        let M : (ℕ × List (ℕ × Seen)) → (ys : List (ℕ × Seen)) → Type 0 = λ z ys. Reads (meaning s) done (blocks after) (opens after) (open_in (ops_from z.0 ys)) (normal same (tree_of (ops_from first z.1))) in
        record {
          ops = g.ops ++ x ∷ [];
          passed = pass_on next_point (parser_of old.window.features s) (op_told told.op) (end_of old) g.ops (opened first) v (rest old) (rest now) (rest next) w u x g.passed
              (subst P same_next r.1) (subst T (end_stays old now g.moves) r.2);
          point = fold-append next_point (opened first) g.ops (x ∷ [])
              ∙ on_point (fold next_point (opened first) g.ops) (place_at code now) (kinds_of (opens stack)) x (left_kinds done (opens after)) g.point r.3.kinds
              ∙ ap (λ (k : ℕ). record { place = k; frames = left_kinds done (opens after) }) place;
          good = r.3.shaped;
          means = λ ys.
              let F : ℕ → Type 0 = λ k. Reads (meaning s) done (blocks after) (opens after) (open_in (ops_from k ys)) (normal same (tree_of (ops_from first ((g.ops ++ x ∷ []) ++ ys)))) in
              let G : List (ℕ × Seen) → Type 0 = λ l. Reads (meaning s) done (blocks after) (opens after) (open_in (ops_from x.0 ys)) (normal same (tree_of (ops_from first l))) in
              subst F place (subst G (sym (append_assoc g.ops (x ∷ []) ys))
              (r.3.means (open_in (ops_from x.0 ys)) (normal same (tree_of (ops_from first (g.ops ++ x ∷ ys)))) (g.means (x ∷ ys))));
          moves = record {
            window = moves.window ∙ g.moves.window;
            forward = let a = g.moves.forward in let b = moves.forward in omega (arith, a, b);
            within = λ h. inside;
          };
          within = inside;
          begins = let a = moves.forward in let b = g.begins in omega (arith, a, b, ap (λ (w : Window). w.start) moves.window);
        }

    are_open : AreOpen s first g.ops (blocks stack) (opens stack)
    are_open = record {
      kinds = ap (λ (p : Point). p.frames) g.point;
      shaped = g.good;
      reads = λ ys.
          let F : ℕ → Type 0 = λ k. Reads (meaning s) false (blocks stack) (opens stack) (open_in (ops_from k ys)) (normal same (tree_of (ops_from first (g.ops ++ ys)))) in
          subst F (sym (ap (λ (p : Point). p.place) g.point)) (g.means ys);
    }

    -- ---- the next one is refused

    fails_here : (u : V) (e : BodyError) → Fails (parser_of old.window.features s (point_of (parser_of old.window.features s) told (end_of old) first g.ops)) (op_told told.op) (end_of old) w (rest now) u e
        ⊎ (Lacks (parser_of old.window.features s) told (end_of old) first s g.ops (rest now) e × (u ≡ w)) → RefusesTree s told code old v u e
    fails_here u e (inl h) =
        inr (record { ops = g.ops; later = rest now; left = w; passed = g.passed; fails = inl (inr (ap (λ (p : Point). is_closed p.frames) g.point), h) })
    fails_here u e (inr h) = inr (record { ops = g.ops; later = rest now; left = w; passed = g.passed; fails = inr (inl h) })

    pub goes_fails : (next : Cursor) (after : Stack) (u : V) (e : BodyError) → ReadsNext s told.op code now stack w next after u (Err e) → RefusesTree s told code old v u e
    goes_fails next after u e (inl m) =
        let F : V → Type 0 = λ z. PassOps (parser_of old.window.features s) told (end_of old) first v (rest old) g.ops (rest now) z in
        inl (m.0, (g.ops, rest now, subst F (sym m.1) g.passed))
    goes_fails next after u e (inr (inl h)) =
        let A : (List ℕ → Parsing (ℕ × Seen)) → Type 0 = λ p. Fails p (op_told told.op) (end_of now) w (rest now) u e in
        let B : ℕ → Type 0 = λ end. Fails (parser_of old.window.features s (point_of (parser_of old.window.features s) told (end_of old) first g.ops)) (op_told told.op) end w (rest now) u e in
        fails_here u e (inl (subst B (end_stays old now g.moves) (subst A same_next h)))
    goes_fails next after u e (inr (inr (h, kept))) =
        let x = h.0 in
        let hinders = h.3 in
        let reads = g.means [] in
        let by = opened_by s (blocks stack) (inner stack) (around stack) (ids_of (opens stack)) reads.0 x.1 reads.1 hinders.1 hinders.0 hinders.2 g.good in
        let P : (List ℕ → Parsing (ℕ × Seen)) → Type 0 = λ p. p (rest now) ≡ Ok (x, h.1) in
        fails_here u e (inr (
          record {
            op = x;
            later = h.1;
            stands = subst P same_next h.2;
            seqs = blocks stack;
            inner = inner stack;
            around = around stack;
            behind = are_open;
            reached = hinders.1;
            by = by.0;
            opens = by.1;
            lacks = hinders.2;
            is = hinders.3 ∙ ap (λ (k : ℕ). faults.TypeForm (Some (k - length (rest now)))) (end_stays old now g.moves);
          },
          kept,
        ))

  -- ---- the body is closed

  module _ (b : List Seq) (os : List Open) (now : Cursor) (w : V) (g : Goes s told code old v true b os now w) where
    ends_closed : is_closed (point_of (parser_of old.window.features s) told (end_of old) first g.ops).frames ≡ true
    ends_closed = ap (λ (p : Point). is_closed p.frames) g.point

    pub goes_done : (end : ℕ) (u : V) → rest now ≡ [] → end ≡ end_of old → env.Answers (told.finish w end) (Ok tt) u → ReadsTree s told code old v u b
    goes_done end u none at t =
        let F : List ℕ → Type 0 = λ l. PassOps (parser_of old.window.features s) told (end_of old) first v (rest old) g.ops l w in
        let T : ℕ → Type 0 = λ k. told.finish w k ≡ (None, u) in
        let S : List (ℕ × Seen) → Type 0 = λ l. StandsAs (meaning s) b (normal same (tree_of (ops_from first l))) in
        record {
          ops = g.ops;
          read = record { left = w; passed = subst F none g.passed; closed = ends_closed; finished = subst T at (accepted (told.finish w end) u t) };
          stands = subst S (append-nil g.ops) (g.means []);
        }

    pub goes_barred : (end : ℕ) (u : V) (e : BodyError) → rest now ≡ [] → end ≡ end_of old → env.Answers (told.finish w end) (Err e) u → RefusesTree s told code old v u e
    goes_barred end u e none at t =
        let T : ℕ → Type 0 = λ k. told.finish w k ≡ (Some e, u) in
        inr (record { ops = g.ops; later = rest now; left = w; passed = g.passed; fails = inr (inr (none, ends_closed, subst T at (barred (told.finish w end) u e t))) })

    -- what follows the end is refused at its first byte
    pub goes_left : (offset : ℕ) → 0 < length (rest now) → offset ≡ end_of old - length (rest now) → RefusesTree s told code old v w (faults.Nesting (Some offset))
    goes_left offset some at =
        let N : Point → Type 0 = λ p. parser_of old.window.features s p (rest now) ≡ Err (stop Nesting (length (rest now))) in
        inr (record {
          ops = g.ops;
          later = rest now;
          left = w;
          passed = g.passed;
          fails = inl (inl some, inl (stop Nesting (length (rest now)), subst N (sym g.point) refl, ap (λ (k : ℕ). Some (faults.Nesting (Some k))) (sym at), refl));
        })

-- ---- where the reader stands

pub none_left : (l : List ℕ) (b : Bool) → b ≡ (length l == 0) → b ≡ true → l ≡ []
none_left [] b e t = refl
none_left (x ∷ l) b e t = absurd (omega (arith, eqb-true (length (x ∷ l)) 0 (sym e ∙ t)))

pub some_left : (l : List ℕ) (b : Bool) → b ≡ (length l == 0) → b ≡ false → 0 < length l
some_left [] b e t = absurd (let k : true ≡ false = sym e ∙ t in cc)
some_left (x ∷ l) b e t = omega arith

pub offset_in : (old now : Cursor) (offset : ℕ) → Forward old now → IsWithin now → offset ≡ now.window.start + now.position → offset ≡ end_of old - length (rest now)
offset_in old now offset moves within at = at ∙ offset_is now within ∙ ap (λ (n : ℕ). n - length (rest now)) (end_stays old now moves)

pub offset_end : (old now : Cursor) (offset : ℕ) → Forward old now → IsWithin now → offset ≡ now.window.start + now.position → rest now ≡ [] → offset ≡ end_of old
offset_end old now offset moves within at none = offset_in old now offset moves within at ∙ ap (λ (l : List ℕ). end_of old - length l) none ∙ omega arith

-- one sequence
pub one : (k : Building) (b : List Seq) → b ≡ contents k → length k.seqs ≡ 1 → length b ≡ 1
one k b e n = ap (λ (l : List Seq). length l) e ∙ length-map k.seqs seq_of ∙ n
