-- Lemmas: whole bodies.
use Rattle.std.proofs.Common.{ℕ, zero, suc, ◌≡◌, ◌<◌, ◌≤◌, ◌+◌, ◌-◌, Bool, true, false, List, [], ◌∷◌, ◌++◌, length, map, Option, Some, Result, Ok, Err, IfOk, IfErr, if◌then◌else◌, refl, sym, ap, subst, inl, inr, ◌∙◌, arith}
use Rattle.std.specs.Prelude.{fold}
use Rattle.std.specs.List.{repeat}
use Rattle.std.proofs.lemmas.Bool.{eq-eqb}
use Rattle.std.proofs.lemmas.List.{length-append, length-drop, length-map}
use Rattle.wasm_features.specs.declared.WasmFeatures.{WasmFeatures}
use Rattle.wasm_reader.specs.Cursor.{Window, Cursor, rest, end_of, Forward, IsWithin}
use Rattle.wasm_formats.specs.Stops.{Trouble, Nesting, Parsing, ◌>>=◌, value_at}
use Rattle.wasm_formats.specs.Formats.{step_ok, done_is, value_ok}
use Rattle.wasm_formats.specs.Parts.{told_as, told_ok}
use Rattle.wasm_formats.specs.Bytes.{never, either}
use Rattle.wasm_formats.specs.Joined.{tested, tested_ok, checked, ends_at}
use Rattle.wasm_formats.specs.Files.{parse_all}
use Rattle.walrus_body_parser.specs.walrus_body_locals.wasm_operators.Items.{Space, Types, Functions, Tables, Memories, Tags, Globals, ElementSegments, DataSegments, Locals, Labels}
use Rattle.walrus_body_parser.specs.wasm_operators.Operators.{Seen, operator_at}
use Rattle.walrus_forms.specs.declared.value.ValType.{ValType}
use Rattle.walrus_forms.specs.Renaming.{at, renamed_value}
use Rattle.walrus_instr.specs.walrus_items.declared.local.Local.{Local}
use Rattle.walrus_index_maps.specs.Maps.{Ids}
use Rattle.walrus_body_parser.specs.walrus_body_locals.wasm_body_grammar.Rules as grammar
use Rattle.walrus_body_parser.specs.walrus_body_locals.wasm_body_grammar.Rules.{Around}
use Rattle.walrus_body_parser.specs.walrus_body_locals.wasm_body_grammar.Bodies.{Run, Point, next_total, next_point, declared, opened, is_closed, operator, operator_in, takes_some, runs, body}
use Rattle.walrus_body_parser.specs.walrus_body_locals.wasm_normal_form.Trees.{tree_of}
use Rattle.walrus_instr.specs.declared.seq.InstrSeqType.{InstrSeqType}
use Rattle.walrus_body_parser.specs.walrus_body_stack.walrus_builder.Built.{Building, Seq, seq_of, contents}
use Rattle.walrus_body_parser.specs.walrus_body_locals.walrus_body_env.declared.error.BodyError.{BodyError}
use Rattle.walrus_body_parser.specs.walrus_body_locals.walrus_body_env.declared.error.BodyError.TheVariants.{Memory}
use Rattle.walrus_body_parser.specs.walrus_body_locals.walrus_body_nesting.Opens.{type_at}
use Rattle.walrus_body_parser.specs.walrus_body_steps.Picks.{picks_stand}
use Rattle.walrus_body_parser.proofs.walrus_body_locals.Answering.{end_stays}
use Rattle.walrus_body_parser.specs.walrus_body_rules.Sights.{Sight, room}
use Rattle.walrus_body_parser.specs.walrus_body_rules.Rules.{operator_test}
use Rattle.walrus_body_parser.specs.walrus_body_rules.Agreeing.{Sees, tests_agree}
use Rattle.walrus_body_parser.specs.walrus_body_locals.Told.{Telling, Pass}
use Rattle.walrus_body_parser.specs.walrus_body_locals.Locals.{run_told, IsSeen, RefusesRuns, AddsKept, kept_ids, with_locals}
use Rattle.walrus_body_parser.specs.walrus_body_locals.Named.{AreOperators}
use Rattle.walrus_body_parser.specs.Points.{op_told, place_at, ops_from}
use Rattle.walrus_body_parser.specs.Trees.{Validating, Parser, parser_of, EndOps, SomeOps, FailOps, ReadsTree, RefusesTree}
use Rattle.walrus_body_parser.proofs.walrus_body_locals.Taken.{operator_takes}
use Rattle.walrus_function_parser.specs.Parsed as parsed
use Rattle.walrus_function_parser.specs.Parsed.{IsAround, seen_by, Begins, Parses, FailsBehind, IsRefused}

-- how the operators of a body of so many locals are parsed in a file
abbrev pub parser_in : Around → ℕ → Parser
parser_in a locals p = (operator_in a locals p).parse

-- ---- operators take a byte at least

operator_shorter : (features : WasmFeatures) (bytes later : List ℕ) (op : Seen) → (operator features).parse bytes ≡ Ok (op, later) → length later < length bytes
operator_shorter features bytes later op e =
    step_ok (value_at (operator_at features bytes)) (λ x. told_as (λ o. o) _ (length bytes) x x.0) (op, later) e
    (λ x p q. let t = told_ok (λ o. o) _ (length bytes) x x.0 (op, later) q in
    let l = operator_takes features bytes x.1 x.0 (value_ok (operator_at features bytes) x p) in omega (arith, l, ap length t.1))

pub entry_shorter : (a : Around) (locals : ℕ) (p : Point) (bytes later : List ℕ) (x : ℕ × Seen) → parser_in a locals p bytes ≡ Ok (x, later) → length later < length bytes
entry_shorter a locals p bytes later x e = go (is_closed p.frames) e
  where
    test : Seen → Option Trouble
    test op = grammar.operator_test a locals p.frames op

    go : (closed : Bool) → (ends_at p.place (either closed (never Nesting) (checked (operator a.features) test))).parse bytes ≡ Ok (x, later) → length later < length bytes
    go true h = absurd cc
    go false h =
        step_ok ((operator a.features).parse bytes >>= λ y. tested (test y.0) (length bytes) y) (λ y. Ok ((p.place + (length bytes - length y.1), y.0), y.1)) (x, later) h (λ y r q.
        step_ok ((operator a.features).parse bytes) (λ z. tested (test z.0) (length bytes) z) y r (λ z u t.
        let same = (tested_ok (test z.0) (length bytes) z y t).1 in
        let l = operator_shorter a.features bytes z.1 z.0 u in
        let k : length z.1 ≡ length y.1 = ap (λ (w : Seen × List ℕ). length w.1) same in
        let n : length y.1 ≡ length later = ap (λ (w : (ℕ × Seen) × List ℕ). length w.1) (done_is ((p.place + (length bytes - length y.1), y.0), y.1) (x, later) q) in
        omega (arith, l, k, n)))

-- ---- what is parsed is what was read

operator_value : (features : WasmFeatures) (bytes later : List ℕ) (op : Seen) → (operator features).parse bytes ≡ Ok (op, later) → operator_at features bytes ≡ Ok (Some op, later)
operator_value features bytes later op e =
    step_ok (value_at (operator_at features bytes)) (λ x. told_as (λ o. o) _ (length bytes) x x.0) (op, later) e
    (λ x p q. let t = told_ok (λ o. o) _ (length bytes) x x.0 (op, later) q in
    value_ok (operator_at features bytes) x p ∙ ap (λ (o : Option Seen). Ok (o, x.1)) t.0 ∙ ap (λ (l : List ℕ). Ok (Some op, l)) t.1)

entry_value : (features : WasmFeatures) (s : Sight) (p : Point) (bytes later : List ℕ) (x : ℕ × Seen) → parser_of features s p bytes ≡ Ok (x, later) → operator_at features bytes ≡ Ok (Some x.1, later)
entry_value features s p bytes later x e = go (is_closed p.frames) e
  where
    test : Seen → Option Trouble
    test op = operator_test s p.frames op

    go : (closed : Bool) → (ends_at p.place (either closed (never Nesting) (checked (operator features) test))).parse bytes ≡ Ok (x, later) → operator_at features bytes ≡ Ok (Some x.1, later)
    go true h = absurd cc
    go false h =
        step_ok ((operator features).parse bytes >>= λ y. tested (test y.0) (length bytes) y) (λ y. Ok ((p.place + (length bytes - length y.1), y.0), y.1)) (x, later) h (λ y r q.
        step_ok ((operator features).parse bytes) (λ z. tested (test z.0) (length bytes) z) y r (λ z u t.
        let same = (tested_ok (test z.0) (length bytes) z y t).1 in
        let op : z.0 ≡ x.1 = ap (λ (w : Seen × List ℕ). w.0) same ∙ ap (λ (w : (ℕ × Seen) × List ℕ). w.0.1) (done_is ((p.place + (length bytes - length y.1), y.0), y.1) (x, later) q) in
        let behind : z.1 ≡ later = ap (λ (w : Seen × List ℕ). w.1) same ∙ ap (λ (w : (ℕ × Seen) × List ℕ). w.1) (done_is ((p.place + (length bytes - length y.1), y.0), y.1) (x, later) q) in
        operator_value features bytes z.1 z.0 u ∙ ap (λ (o : Seen). Ok (Some o, z.1)) op ∙ ap (λ (l : List ℕ). Ok (Some x.1, l)) behind))

-- operators that pass are those that stand there
pub pass_stands : {V : Type 0} (features : WasmFeatures) (s : Sight) (told : Telling (ℕ × Seen) V) (end : ℕ) (ops : List (ℕ × Seen)) (p : Point) (v w : V) (bytes : List ℕ) → Pass next_point (parser_of features s) told end p v bytes ops [] w
    → AreOperators features bytes (map (λ (x : ℕ × Seen). x.1) ops)
pass_stands features s told end [] p v w bytes h = sym h.0
pass_stands features s told end (x ∷ ops) p v w bytes h = (h.0, entry_value features s p bytes h.0 x h.2, pass_stands features s told end ops (next_point p x) h.1 w h.0 h.4)

-- ---- what passes is what is parsed

module _ {V : Type 0} (a : Around) (locals : ℕ) (told : Telling (ℕ × Seen) V) (end : ℕ) where
  pub pass_all : (ops : List (ℕ × Seen)) (fuel : ℕ) (p : Point) (v w : V) (bytes : List ℕ) → length bytes ≤ fuel → Pass next_point (parser_in a locals) told end p v bytes ops [] w
      → parse_all next_point (operator_in a locals) (takes_some a locals) fuel p bytes ≡ Ok ops
  pass_all [] fuel p v w bytes le h = rw (← h.0) refl
  pass_all (x ∷ ops) zero p v w bytes le h = absurd (let l = entry_shorter a locals p bytes h.0 x h.2 in omega (arith, l, le))
  pass_all (x ∷ ops) (suc fuel) p v w [] le h = absurd (let l = entry_shorter a locals p [] h.0 x h.2 in omega (arith, l))
  pass_all (x ∷ ops) (suc fuel) p v w (b ∷ bytes) le h =
      let l = entry_shorter a locals p (b ∷ bytes) h.0 x h.2 in
      rw (h.2, pass_all ops fuel (next_point p x) h.1 w h.0 (omega (arith, l, le)) h.4) refl

-- ---- the file that is seen

agree : {A B : Type 0} (f g : A → B) → ((x : A) → f x ≡ g x) → f ≡ g
agree f g h = λ i x. h x i

pub parsers_agree : (s : Sight) (features : WasmFeatures) (a : Around) (locals : ℕ) → a.features ≡ features → Sees s a locals → parser_of features s ≡ parser_in a locals
parsers_agree s features a locals e sees = agree (parser_of features s) (parser_in a locals) (λ p.
    let F : (Seen → Option Trouble) → List ℕ → Parsing (ℕ × Seen) = λ test. (ends_at p.place (either (is_closed p.frames) (never Nesting) (checked (operator a.features) test))).parse in
    let tests = agree (λ op. operator_test s p.frames op) (λ op. grammar.operator_test a locals p.frames op) (λ op. tests_agree s a locals p.frames op sees) in
    ap (λ (f : WasmFeatures). parser_of f s p) (sym e) ∙ ap F tests)

-- ---- the function has more locals

repeat_count : (n : ℕ) (ty : ValType) → length (repeat n (ty ∷ [])) ≡ n
repeat_count zero ty = refl
repeat_count (suc n) ty = ap suc (repeat_count n ty)

pub declared_count : (rs : List Run) (n : ℕ) → n + length (declared rs) ≡ fold next_total n rs
declared_count [] n = omega arith
declared_count (r ∷ rs) n =
    let many = length-append (repeat r.0 (r.1 ∷ [])) (declared rs) in
    let one = repeat_count r.0 r.1 in
    let more = declared_count rs (n + r.0) in
    omega (arith, many, one) ∙ more

ids_count : (kept : List Bool) (n : ℕ) → length (kept_ids n kept) ≡ length kept
ids_count [] n = refl
ids_count (true ∷ kept) n = ap suc (ids_count kept (suc n))
ids_count (false ∷ kept) n = ap suc (ids_count kept n)

locals_with : (s : Sight) (ids : List ℕ) → (seen_by s (with_locals s.function ids s.ids)).ids.locals s.function ≡ s.ids.locals s.function ++ ids
locals_with s ids = ap (λ (b : Bool). if b then s.ids.locals s.function ++ ids else s.ids.locals s.function) (eq-eqb s.function s.function refl)

sees_with : (s : Sight) (a : Around) (locals : ℕ) (ids : List ℕ) → Sees s a locals → Sees (seen_by s (with_locals s.function ids s.ids)) a (locals + length ids)
sees_with s a locals ids h = record { rooms = rooms; blocks = h.blocks; wide = h.wide; counted = h.counted }
  where
    rooms : (labels : ℕ) (space : Space) → room (seen_by s (with_locals s.function ids s.ids)) labels space ≡ grammar.room a (locals + length ids) labels space
    rooms labels Types = h.rooms labels Types
    rooms labels Functions = h.rooms labels Functions
    rooms labels Tables = h.rooms labels Tables
    rooms labels Memories = h.rooms labels Memories
    rooms labels Tags = h.rooms labels Tags
    rooms labels Globals = h.rooms labels Globals
    rooms labels ElementSegments = h.rooms labels ElementSegments
    rooms labels DataSegments = h.rooms labels DataSegments
    rooms labels Locals =
        ap (λ (l : List ℕ). length l) (locals_with s ids) ∙ length-append (s.ids.locals s.function) ids ∙ ap (λ (n : ℕ). n + length ids) (h.rooms labels Locals)
    rooms labels Labels = refl

pub sees_more : (s : Sight) (a : Around) (params : ℕ) (rs : List Run) (kept : List Bool) (ls ms : List Local) (j : Ids) → Sees s a params → AddsKept s.function kept (map (renamed_value (at s.ids.types)) (declared rs)) ls ms s.ids j
    → Sees (seen_by s j) a (fold next_total params rs)
sees_more s a params rs kept ls ms j h adds =
    let tys = map (renamed_value (at s.ids.types)) (declared rs) in
    let ids = kept_ids (length ls) kept in
    let S : Ids → Type 0 = λ k. Sees (seen_by s k) a (fold next_total params rs) in
    let N : ℕ → Type 0 = λ n. Sees (seen_by s (with_locals s.function ids s.ids)) a n in
    let count : params + length ids ≡ fold next_total params rs =
    ap (λ (n : ℕ). params + n) (ids_count kept (length ls) ∙ adds.many ∙ length-map (declared rs) (renamed_value (at s.ids.types))) ∙ declared_count rs params in
    subst S (sym adds.named) (subst N count (sees_with s a params ids h))

pub is_seen : (s : Sight) (features : WasmFeatures) (locals : ℕ) (a : Around) → IsAround s features locals a → IsSeen features s.ids.types a
is_seen s features locals a h = record { features_are = h.features_are; types_are = sym (h.sees.rooms 0 Types) }

-- ---- the whole body

-- the place behind what was read
pub place_behind : (code : ℕ) (old mid : Cursor) → Forward old mid → IsWithin old → code ≤ old.window.start + old.position → place_at code old + (length (rest old) - length (rest mid)) ≡ place_at code mid
place_behind code old mid moves within begins =
    let a = length-drop old.position old.window.bytes in
    let b : length (rest mid) ≡ length old.window.bytes - mid.position = length-drop mid.position mid.window.bytes ∙ ap (λ (w : Window). length w.bytes - mid.position) moves.window in
    let e : end_of mid ≡ end_of old = ap (λ (w : Window). w.start + length w.bytes) moves.window in
    let f = moves.forward in
    omega (arith, a, b, e, f, within, begins)

module _ {V : Type 0} (a : Around) (params place behind end : ℕ) (told : Validating V) (bytes later : List ℕ) (rs : List Run) (ops : List (ℕ × Seen)) (v w : V) where
  pub body_parsed : (runs a params).parse bytes ≡ Ok (rs, later) → place + (length bytes - length later) ≡ behind → EndOps (parser_in a (fold next_total params rs)) told end behind v later ops w
      → (body a params place).parse bytes ≡ Ok ((behind, rs), ops)
  body_parsed r p e =
      let all = pass_all a (fold next_total params rs) (op_told told.op) end ops (length later) (opened behind) v e.left later (omega arith) e.passed in
      rw (r, p, all, e.closed) refl

-- ---- what the call answers

-- one sequence
pub one_seq : (k : Building) (x : Seq) → contents k ≡ x ∷ [] → length k.seqs ≡ 1
one_seq k x e = sym (length-map k.seqs seq_of) ∙ ap (λ (l : List Seq). length l) e

pub begins_later : (code : ℕ) (old mid : Cursor) → Forward old mid → code ≤ old.window.start + old.position → code ≤ mid.window.start + mid.position
begins_later code old mid moves h = let f = moves.forward in omega (arith, f, h, ap (λ (w : Window). w.start) moves.window)

pub ends_so : (code : ℕ) (old mid : Cursor) → Forward old mid → end_of old < code + 4294967295 → end_of mid < code + 4294967295
ends_so code old mid moves h = omega (arith, h, end_stays old mid moves)

pub is_within : (c : Cursor) (offset : ℕ) → offset ≡ c.window.start + c.position → offset + length (rest c) ≡ end_of c → IsWithin c
is_within c offset at left = omega (arith, at, left)

module _ {V : Type 0} (s : Sight) (told : parsed.Telling V) (params code : ℕ) (old mid : Cursor) (ls ms : List Local) (j : Ids) (v left : V) (begins : Begins s told params code old mid ls ms j v left) where
  abbrev sees : Sight
  sees = seen_by s j

  pub parses_so : (entry : InstrSeqType) (w : V) (b : List Seq) → IsWithin old → code ≤ old.window.start + old.position → ReadsTree sees told.rest code mid left w b → type_at b 0 ≡ Some entry
      → Parses s told params code old entry ls ms j v w b
  parses_so entry w b within behind t typed =
      let moves = begins.moves in
      let features = old.window.features in
      let place = place_at code mid in
      let rs = begins.declares.runs in
      let F : WasmFeatures → Type 0 = λ f. EndOps (parser_of f sees) told.rest (end_of mid) place left (rest mid) t.ops w in
      let E : ℕ → Type 0 = λ n. EndOps (parser_of features sees) told.rest n place left (rest mid) t.ops w in
      let P : Parser → Type 0 = λ p. EndOps p told.rest (end_of old) place left (rest mid) t.ops w in
      let ended : EndOps (parser_of features sees) told.rest (end_of old) place left (rest mid) t.ops w =
      subst E (end_stays old mid moves) (subst F (ap (λ (w : Window). w.features) moves.window) t.read) in
      record {
        mid = mid;
        left = left;
        begins = begins;
        ops = t.ops;
        ended = ended;
        read = λ a around.
            body_parsed a params (place_at code old) place (end_of old) told.rest (rest old) (rest mid) rs t.ops left w
            (begins.declares.read a (is_seen s features params a around)) (place_behind code old mid moves within behind)
            (subst P (parsers_agree sees features a (fold next_total params rs) around.features_are (sees_more s a params rs begins.declares.kept ls ms j around.sees begins.declares.adds)) ended);
        adds =
            let kept = begins.declares.are_kept (map (λ (x : ℕ × Seen). x.1) t.ops) (pass_stands features sees (op_told told.rest.op) (end_of old) t.ops (opened place) left ended.left (rest mid) ended.passed) in
            subst (λ (ks : List Bool). AddsKept s.function ks (map (renamed_value (at s.ids.types)) (declared rs)) ls ms s.ids j) kept begins.declares.adds;
        typed = typed;
        stands = λ pick h. picks_stand sees pick b (tree_of (ops_from place t.ops)) h t.stands;
      }

  pub refuses_so : (w : V) (e : BodyError) → RefusesTree sees told.rest code mid left w e → IsRefused s told params code old ls ms j v w e
  refuses_so w e (inl m) =
      let moves = begins.moves in
      let place = place_at code mid in
      let F : WasmFeatures → Type 0 = λ f. SomeOps (parser_of f sees) told.rest (end_of mid) place left (rest mid) w in
      let E : ℕ → Type 0 = λ n. SomeOps (parser_of old.window.features sees) told.rest n place left (rest mid) w in
      inl (m.0, inr (mid, left, begins, subst E (end_stays old mid moves) (subst F (ap (λ (w : Window). w.features) moves.window) m.1)))
  refuses_so w e (inr h) =
      let moves = begins.moves in
      let place = place_at code mid in
      let F : WasmFeatures → Type 0 = λ f. FailOps (parser_of f sees) told.rest (end_of mid) place sees left (rest mid) w e in
      let E : ℕ → Type 0 = λ n. FailOps (parser_of old.window.features sees) told.rest n place sees left (rest mid) w e in
      inr (inr (record { mid = mid; left = left; begins = begins; fails = subst E (end_stays old mid moves) (subst F (ap (λ (w : Window). w.features) moves.window) h) }))

  -- memory is wanted between its locals and its operators
  pub short_so : IsRefused s told params code old ls ms j v left Memory
  short_so = inl (refl, inr (mid, left, begins, ([], rest mid, (refl, refl))))

pub locals_refused : {V : Type 0} (s : Sight) (told : parsed.Telling V) (params code : ℕ) (old : Cursor) (ls ms : List Local) (j : Ids) (v w : V) (e : BodyError)
    → RefusesRuns (run_told told.run) params old s.ids.types v w e → IsRefused s told params code old ls ms j v w e
locals_refused s told params code old ls ms j v w e (inl m) = inl (m.0, inl m.1)
locals_refused s told params code old ls ms j v w e (inr h) = inr (inl h)

pub both_ok : {T E : Type 0} (P Q R : T → Type 0) (r : Result T E) → ((x : T) → P x → Q x → R x) → IfOk r P → IfOk r Q → IfOk r R
both_ok P Q R (Ok x) f p q = f x p q
both_ok P Q R (Err e) f p q = p

pub of_err : {T E : Type 0} (P Q : E → Type 0) (r : Result T E) → ((e : E) → P e → Q e) → IfErr r P → IfErr r Q
of_err P Q (Ok x) f p = p
of_err P Q (Err e) f p = f e p

pub of_ok : {T E : Type 0} (P Q : T → Type 0) (r : Result T E) → ((x : T) → P x → Q x) → IfOk r P → IfOk r Q
of_ok P Q (Ok x) f p = f x p
of_ok P Q (Err e) f p = p
