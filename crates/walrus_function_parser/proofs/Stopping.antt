-- Lemmas: where a body is refused, its reading stops, or another is to blame.
use Rattle.std.proofs.Common.{ℕ, zero, suc, ◌≡◌, ◌⊎◌, ◌<◌, ◌≤◌, ◌+◌, ◌-◌, Bool, true, false, List, [], ◌∷◌, length, Option, Some, Ok, Err, refl, sym, ap, subst, inl, inr, ◌∙◌, arith}
use Rattle.std.specs.Prelude.{fold}
use Rattle.wasm_reader.specs.declared.error.ErrorKind.TheVariants as kinds
use Rattle.wasm_reader.specs.Cursor.{Cursor, rest, end_of, IsWithin}
use Rattle.wasm_formats.specs.Stops.{Read, Nesting, Stop, stop}
use Rattle.wasm_formats.specs.Formats.{refused_is}
use Rattle.wasm_formats.specs.Bytes.{never, either}
use Rattle.wasm_formats.specs.Joined.{checked, ends_at}
use Rattle.wasm_formats.specs.Wholes.{u32}
use Rattle.wasm_formats.specs.Files.{parse_all}
use Rattle.walrus_body_parser.specs.wasm_operators.Operators.{Seen, operator_at, code_at}
use Rattle.walrus_instr.specs.walrus_items.declared.local.Local.{Local}
use Rattle.walrus_index_maps.specs.Maps.{Ids}
use Rattle.walrus_body_parser.specs.walrus_body_locals.wasm_body_grammar.Rules as grammar
use Rattle.walrus_body_parser.specs.walrus_body_locals.wasm_body_grammar.Rules.{Around}
use Rattle.walrus_body_parser.specs.walrus_body_locals.wasm_body_grammar.Bodies.{Run, run, Point, next_total, next_point, opened, is_closed, operator, operator_in, takes_some, operators, runs, body}
use Rattle.walrus_body_parser.specs.walrus_body_locals.walrus_body_env.declared.error.BodyError.{BodyError}
use Rattle.walrus_body_parser.specs.walrus_body_locals.walrus_body_env.declared.error.BodyError.TheVariants.{Memory}
use Rattle.walrus_body_parser.specs.walrus_body_rules.Sights.{Sight}
use Rattle.walrus_body_parser.specs.walrus_body_locals.Told.{Telling, Pass, Fails, fail_entries}
use Rattle.walrus_body_parser.specs.walrus_body_locals.Locals.{run_told, FailRuns}
use Rattle.walrus_body_parser.specs.Points.{op_told, place_at}
use Rattle.walrus_body_parser.specs.Trees.{Validating, Parser, parser_of, PassOps, point_of, IsDue, FailOps}
use Rattle.walrus_body_parser.specs.Trees as trees
use Rattle.walrus_function_parser.specs.Parsed as parsed
use Rattle.walrus_function_parser.specs.Parsed.{IsAround, seen_by, StopsFor, Bars, Lacks, IsCause, FailsBehind, IsRefused}
use Rattle.walrus_function_parser.proofs.Bodies.{parser_in, entry_shorter, pass_all, parsers_agree, sees_more, is_seen, place_behind}

-- ---- what is refused behind entries that pass is where parsing stops

module _ {V : Type 0} (a : Around) (locals : ℕ) (told : Telling (ℕ × Seen) V) (end : ℕ) where
  fail_all : (ops : List (ℕ × Seen)) (fuel : ℕ) (p : Point) (v w : V) (bytes later : List ℕ) (t : Stop) → length bytes ≤ fuel → Pass next_point (parser_in a locals) told end p v bytes ops later w
      → 0 < length later → parser_in a locals (fold next_point p ops) later ≡ Err t → parse_all next_point (operator_in a locals) (takes_some a locals) fuel p bytes ≡ Err t
  fail_all [] fuel p v w [] later t le h some e = absurd (omega (arith, some, ap (λ (l : List ℕ). length l) h.0))
  fail_all [] zero p v w (b ∷ bytes) later t le h some e = absurd (omega (arith, le))
  fail_all [] (suc fuel) p v w (b ∷ bytes) later t le h some e = (let F : List ℕ → Type 0 = λ l. parser_in a locals p l ≡ Err t in let q = subst F h.0 e in rw q refl)
  fail_all (x ∷ ops) zero p v w bytes later t le h some e = absurd (let l = entry_shorter a locals p bytes h.0 x h.2 in omega (arith, l, le))
  fail_all (x ∷ ops) (suc fuel) p v w [] later t le h some e = absurd (let l = entry_shorter a locals p [] h.0 x h.2 in omega (arith, l))
  fail_all (x ∷ ops) (suc fuel) p v w (b ∷ bytes) later t le h some e =
      let l = entry_shorter a locals p (b ∷ bytes) h.0 x h.2 in
      rw (h.2, fail_all ops fuel (next_point p x) h.1 w h.0 later t (omega (arith, l, le)) h.4 some e) refl

-- an operator is missing at the end of the bytes
at_end : (a : Around) (locals : ℕ) (p : Point) (t : Stop) → is_closed p.frames ≡ false → parser_in a locals p [] ≡ Err t → t ≡ stop (Read (kinds.EndOfFile 1)) 0
unfolding operator_at code_at
at_end a locals p t unclosed e =
    let F : Bool → Type 0 = λ b. (ends_at p.place (either b (never Nesting) (checked (operator a.features) (λ op. grammar.operator_test a locals p.frames op)))).parse [] ≡ Err t in
    let q = subst F unclosed e in
    sym (refused_is {A = (ℕ × Seen) × List ℕ} (stop (Read (kinds.EndOfFile 1)) 0) t q)

module _ {V : Type 0} (a : Around) (locals behind end : ℕ) (told : Validating V) (v w : V) (bytes later : List ℕ) (ops : List (ℕ × Seen)) (passed : PassOps (parser_in a locals) told end behind v bytes ops later w) where
  stops_later : (t : Stop) → 0 < length later → parser_in a locals (fold next_point (opened behind) ops) later ≡ Err t → (operators a locals behind).parse bytes ≡ Err t
  stops_later t some e = rw (fail_all a locals (op_told told.op) end ops (length bytes) (opened behind) v w bytes later t (omega arith) passed some e) refl

stops_ended : {V : Type 0} (a : Around) (locals behind end : ℕ) (told : Validating V) (v w : V) (bytes : List ℕ) (ops : List (ℕ × Seen)) → PassOps (parser_in a locals) told end behind v bytes ops [] w
    → is_closed (fold next_point (opened behind) ops).frames ≡ false → (operators a locals behind).parse bytes ≡ Err (stop (Read (kinds.EndOfFile 1)) 0)
stops_ended a locals behind end told v w bytes ops passed unclosed = rw (pass_all a locals (op_told told.op) end ops (length bytes) (opened behind) v w bytes (omega arith) passed, unclosed) refl

operators_stop : {V : Type 0} (a : Around) (locals behind end : ℕ) (told : Validating V) (v w : V) (bytes later : List ℕ) (ops : List (ℕ × Seen)) (t : Stop) → PassOps (parser_in a locals) told end behind v bytes ops later w
    → IsDue (parser_in a locals) told end behind (fold next_point (opened behind) ops) later → parser_in a locals (fold next_point (opened behind) ops) later ≡ Err t → (operators a locals behind).parse bytes ≡ Err t
operators_stop a locals behind end told v w bytes [] ops t passed (inl some) e = absurd (omega (arith, some))
operators_stop a locals behind end told v w bytes [] ops t passed (inr unclosed) e =
    stops_ended a locals behind end told v w bytes ops passed unclosed ∙ ap (λ (x : Stop). Err x) (sym (at_end a locals (fold next_point (opened behind) ops) t unclosed e))
operators_stop a locals behind end told v w bytes (b ∷ later) ops t passed due e = stops_later a locals behind end told v w bytes (b ∷ later) ops passed t (omega arith) e

-- ---- the body

runs_first : (a : Around) (params place : ℕ) (bytes : List ℕ) (t : Stop) → (runs a params).parse bytes ≡ Err t → (body a params place).parse bytes ≡ Err t
runs_first a params place bytes t e = rw e refl

operators_then : (a : Around) (params place behind : ℕ) (bytes later : List ℕ) (rs : List Run) (t : Stop) → (runs a params).parse bytes ≡ Ok (rs, later) → place + (length bytes - length later) ≡ behind
    → (operators a (fold next_total params rs) behind).parse later ≡ Err t → (body a params place).parse bytes ≡ Err t
operators_then a params place behind bytes later rs t r p e = (let F : ℕ → Type 0 = λ n. (operators a (fold next_total params rs) n).parse later ≡ Err t in let q = subst F (sym p) e in rw (r, q) refl)

module _ {V : Type 0} (s : Sight) (told : parsed.Telling V) (params code : ℕ) (old : Cursor) (j : Ids) (e : BodyError) (a : Around) where
  abbrev Cause : Type 0
  Cause = StopsFor s told params code old a e ⊎ Bars s told params code old e ⊎ Lacks s told params code old j e

  -- what the validator answers
  answer : {p : Option BodyError × V} {w : V} → p ≡ (Some e, w) → p.0 ≡ Some e
  answer h = ap (λ (q : Option BodyError × V). q.0) h

  run_cause : (count : ℕ) (rs : List Run) (v w u : V) (mid later : List ℕ) → u32.parse (rest old) ≡ Ok (count, mid) → length rs < count
      → Pass next_total (λ total. (run a total).parse) (run_told told.run) (end_of old) params v mid rs later w → Fails (run a (fold next_total params rs)).parse (run_told told.run) (end_of old) w later u e → Cause
  run_cause count rs v w u mid later counted less passed (inl h) =
      let all = fail_entries next_total (run a) (run_told told.run) (end_of old) rs count params v w mid later h.0 less passed h.1 in
      inl (h.0, runs_first a params (place_at code old) (rest old) h.0 (rw (counted, all) refl), h.2)
  run_cause count rs v w u mid later counted less passed (inr h) = inr (inl (inl (w, end_of old - length later, h.0, answer h.3)))

  runs_cause : (v w : V) → FailRuns (run_told told.run) (run a) params (end_of old) v (rest old) w e → Cause
  runs_cause v w (inl h) = inl (h.0, runs_first a params (place_at code old) (rest old) h.0 (let p = h.1 in rw p refl), h.2)
  runs_cause v w (inr h) = run_cause h.0 h.2 v h.4 w h.1 h.3 h.5 h.6 h.7 h.8

  operators_cause : (rs : List Run) (behind : ℕ) (v w : V) (bytes : List ℕ) → (runs a params).parse (rest old) ≡ Ok (rs, bytes) → place_at code old + (length (rest old) - length bytes) ≡ behind
      → FailOps (parser_in a (fold next_total params rs)) told.rest (end_of old) behind (seen_by s j) v bytes w e → Cause
  operators_cause rs behind v w bytes read place f = go f.fails
    where
      next : Point
      next = fold next_point (opened behind) f.ops

      go : (IsDue (parser_in a (fold next_total params rs)) told.rest (end_of old) behind next f.later × Fails (parser_in a (fold next_total params rs) next) (op_told told.rest.op) (end_of old) f.left f.later w e)
          ⊎ (trees.Lacks (parser_in a (fold next_total params rs)) told.rest (end_of old) behind (seen_by s j) f.ops f.later e × (w ≡ f.left))
          ⊎ ((f.later ≡ []) × (is_closed next.frames ≡ true) × (told.rest.finish f.left (end_of old) ≡ (Some e, w))) → Cause
      go (inl (due, inl h)) =
          inl (
            h.0,
            operators_then a params (place_at code old) behind (rest old) bytes rs h.0 read place
                (operators_stop a (fold next_total params rs) behind (end_of old) told.rest v f.left bytes f.later f.ops h.0 f.passed due h.1),
            h.2,
          )
      go (inl (due, inr h)) = inr (inl (inr (inl (f.left, end_of old - length f.later, h.0.1, answer h.3))))
      go (inr (inl (h, kept))) = inr (inr (end_of old - length f.later, h.inner.ty, h.op.1, h.lacks, h.is))
      go (inr (inr h)) = inr (inl (inr (inr (f.left, end_of old, answer h.2))))

pub causes : {V : Type 0} (s : Sight) (told : parsed.Telling V) (params code : ℕ) (old : Cursor) (ls ms : List Local) (j : Ids) (v w : V) (e : BodyError) → IsWithin old → code ≤ old.window.start + old.position
    → IsRefused s told params code old ls ms j v w e → (e ≡ Memory) ⊎ IsCause s told params code old j e
causes s told params code old ls ms j v w e within begins (inl m) = inl m.0
causes s told params code old ls ms j v w e within begins (inr (inl h)) = inr (λ a around. runs_cause s told params code old j e a v w (h a (is_seen s old.window.features params a around)))
causes s told params code old ls ms j v w e within begins (inr (inr h)) = inr (λ a around.
    let features = old.window.features in
    let sees = seen_by s j in
    let mid = h.mid in
    let rs = h.begins.declares.runs in
    let P : Parser → Type 0 = λ p. FailOps p told.rest (end_of old) (place_at code mid) sees h.left (rest mid) w e in
    operators_cause s told params code old j e a rs (place_at code mid) h.left w (rest mid) (h.begins.declares.read a (is_seen s features params a around))
    (place_behind code old mid h.begins.moves within begins)
    (subst P (parsers_agree sees features a (fold next_total params rs) around.features_are (sees_more s a params rs h.begins.declares.kept ls ms j around.sees h.begins.declares.adds)) h.fails))
