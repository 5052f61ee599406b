-- Lemmas: exports one behind another, and the first whose name stands earlier.
use Rattle.std.specs.Prelude.{ℕ, suc, ◌+◌, ◌-◌, ◌<◌, ◌≤◌, ◌≡◌, Bool, true, false, All, List, [], ◌∷◌, ◌++◌, length, map, take, Option, Some, None, IfSome, Result, Ok, Err, slice_index_or, if◌then◌else◌, refl}
use Rattle.std.specs.List.{list_any}
use Rattle.std.specs.Option.{is_some}
use Rattle.std.proofs.Common.{ap, sym, ◌∙◌, subst, arith, inl, inr}
use Rattle.std.proofs.Math.ListN.{length-map}
use Rattle.std.proofs.Math.Seq.{take-append_seam, get_or-append_seam}
use Rattle.std.proofs.lemmas.Bool.{false≢true, cases_lt, cases_Bool}
use Rattle.std.proofs.lemmas.List.{length-append, take-append-le, get_or_append_left, get_or-take, get_or-map, get_or_default, map-append, length-take-le}
use Rattle.std.proofs.lemmas.List.Elements.{All-push}
use Rattle.std.proofs.lemmas.List.Folds.{list_any_at, Any-from_list_any}
use Rattle.std.proofs.lemmas.Map.Text.{is_eq-slice_cmp}
use Rattle.std.proofs.lemmas.Slice.Eq.{bytes_eq-Decides}
use Rattle.wasm_reader.specs.Cursor.{Cursor, rest, end_of, Forward}
use Rattle.wasm_formats.specs.Stops.{DuplicateExport, Stop, stop, Parsing, ◌>>=◌}
use Rattle.walrus_known_sections.specs.wasm_sections.wasm_grammar.Modules as grammar
use Rattle.walrus_known_sections.specs.wasm_sections.wasm_grammar.States.{State}
use Rattle.walrus_known_sections.specs.wasm_sections.Exports.{ExportEntry, same_name, has_name, kind_space, export_entry, add_export}
use Rattle.walrus_section_values.specs.walrus_section_reader.declared.fault.Fault.{Fault}
use Rattle.walrus_section_values.specs.walrus_section_reader.declared.fault.FaultKind.TheVariants as faults
use Rattle.walrus_section_values.specs.walrus_section_reader.Faults.{fault_of}
use Rattle.walrus_section_values.specs.walrus_section_reader.Parses.{Parses}
use Rattle.walrus_section_values.specs.walrus_section_reader.Repeats.{joined, same_end, fails_at, fails_as}
use Rattle.walrus_section_values.specs.walrus_section_reader.Steps.{put_in, entries_by}
use Rattle.walrus_known_sections.specs.declared.items.Export.{Export}
use Rattle.walrus_known_sections.specs.declared.sections.Sections.{Sections}
use Rattle.walrus_known_sections.specs.Items.{export_of}
use Rattle.walrus_known_sections.specs.State.{slots, state_of}
use Rattle.walrus_export_reader.specs.declared.candidates.Candidate.{Candidate}
use Rattle.walrus_export_reader.specs.Candidates.{entry_of, judged, parsed_as, ReadsCandidate}
use Rattle.walrus_export_reader.specs.Repeats.{names_of, name_at, RepeatsAt, IsFirstRepeat}
use Rattle.walrus_export_reader.specs.Verdicts.{is_among, repeats_at, verdict, lefts_of, export_step, ended_with, ReadsCandidates, Checks}

-- ---- the test of a name, and that it stands earlier

same_is : (a b : List ℕ) → a ≡ b → same_name a b ≡ true
same_is a b e = is_eq-slice_cmp a b ∙ (bytes_eq-Decides a b).1 e

is_same : (a b : List ℕ) → same_name a b ≡ true → a ≡ b
is_same a b e = (bytes_eq-Decides a b).0 (sym (is_eq-slice_cmp a b) ∙ e)

repeated : (names : List (List ℕ)) (i : ℕ) → i < length names → RepeatsAt names i → repeats_at names i ≡ true
repeated names i inside (j, less, e) =
    let size : length (take i names) ≡ i = length-take-le i names (omega (arith, inside)) in
    list_any_at (λ other. same_name other (name_at names i)) (take i names) j [] (omega (arith, size, less))
    (same_is _ _ (get_or-take i names j [] less ∙ e))

not_repeated : (names : List (List ℕ)) (i : ℕ) → i < length names → (RepeatsAt names i → ⊥) → repeats_at names i ≡ false
not_repeated names i inside not = elim (cases_Bool (repeats_at names i)) as (λ _. repeats_at names i ≡ false) [
  | inl is ↦
      let any = Any-from_list_any (λ other. same_name other (name_at names i)) (take i names) is in
      let size : length (take i names) ≡ i = length-take-le i names (omega (arith, inside)) in
      let less : any.0 < i = omega (arith, any.2, size) in
      let there : name_at names any.0 ≡ any.1 = sym (get_or-take i names any.0 [] less) ∙ get_or_default (take i names) any.0 [] any.1 any.2 ∙ any.3 in
      absurd (not (any.0, less, there ∙ is_same any.1 (name_at names i) any.4))
  | inr apart ↦ apart
]

-- ---- verdicts

-- one more name
verdict_more : {A : Type 0} (names : List (List ℕ)) (i : ℕ) (lefts : List ℕ) (n : List ℕ) (left : ℕ) (later : Parsing A) → i + length lefts ≡ length names
    → verdict (names ++ n ∷ []) i (lefts ++ left ∷ []) later ≡ verdict names i lefts (if is_among names n then Err (stop DuplicateExport left) else later)
unfolding verdict
verdict_more {A} names i [] n left later size =
    let e : i ≡ length names = omega (arith, size) in
    let before : take i (names ++ n ∷ []) ≡ names = rw e (take-append_seam names (n ∷ [])) in
    let here : name_at (names ++ n ∷ []) i ≡ n = rw e (get_or-append_seam names n [] []) in
    ap (λ (b : Bool). pick b) (ap (λ (l : List (List ℕ)). is_among l (name_at (names ++ n ∷ []) i)) before ∙ ap (λ (m : List ℕ). is_among names m) here)
  where
    pick : Bool → Parsing A
    pick b = if b then Err (stop DuplicateExport left) else later
verdict_more {A} names i (l ∷ lefts) n left later size =
    let inside : i < length names = omega (arith, size) in
    let before : take i (names ++ n ∷ []) ≡ take i names = take-append-le i names (n ∷ []) (omega (arith, inside)) in
    let here : name_at (names ++ n ∷ []) i ≡ name_at names i = get_or_append_left names (n ∷ []) [] i inside in
    let test : repeats_at (names ++ n ∷ []) i ≡ repeats_at names i = ap (λ (l : List (List ℕ)). is_among l (name_at (names ++ n ∷ []) i)) before ∙ ap (λ (m : List ℕ). is_among (take i names) m) here in
    rw (test, verdict_more names (suc i) lefts n left later (omega (arith, size))) refl

-- what follows, follows the verdict
verdict_then : {A B : Type 0} (names : List (List ℕ)) (i : ℕ) (lefts : List ℕ) (r : Parsing A) (f : A × List ℕ → Parsing B)
    → (verdict names i lefts r >>= f) ≡ verdict names i lefts (r >>= f)
unfolding verdict
verdict_then names i [] r f = refl
verdict_then {A} {B} names i (l ∷ lefts) r f =
    let one : Bool → Parsing A = λ b. if b then Err (stop DuplicateExport l) else verdict names (suc i) lefts r in
    let two : Bool → Parsing B = λ b. if b then Err (stop DuplicateExport l) else verdict names (suc i) lefts (r >>= f) in
    elim (repeats_at names i) as (λ b. (one b >>= f) ≡ two b) [
      | true ↦ refl
      | false ↦ verdict_then names (suc i) lefts r f
    ]

-- none stands earlier
verdict_none : (names : List (List ℕ)) (i : ℕ) (lefts : List ℕ) (later : Parsing State) → i + length lefts ≡ length names
    → ((k : ℕ) → i ≤ k → k < length names → RepeatsAt names k → ⊥) → verdict names i lefts later ≡ later
unfolding verdict
verdict_none names i [] later size none = refl
verdict_none names i (l ∷ lefts) later size none =
    rw (not_repeated names i (omega (arith, size)) (none i (omega arith) (omega (arith, size)))) (verdict_none names (suc i) lefts later (omega (arith, size)) (λ k le lt. none k (omega (arith, le)) lt))

-- the first that does
verdict_first : (names : List (List ℕ)) (i : ℕ) (lefts : List ℕ) (later : Parsing State) (first d : ℕ) → i + length lefts ≡ length names → first < length names → i ≤ first
    → RepeatsAt names first → ((k : ℕ) → i ≤ k → k < first → RepeatsAt names k → ⊥) → verdict names i lefts later ≡ Err (stop DuplicateExport (slice_index_or lefts (first - i) d))
unfolding verdict
verdict_first names i [] later first d size inside le is least = absurd (omega (arith, size, inside, le))
verdict_first names i (l ∷ lefts) later first d size inside le is least = elim (cases_lt i first) [
  | inl lt ↦
      let next : first - i ≡ suc (first - suc i) = omega (arith, lt) in
      rw (not_repeated names i (omega (arith, size)) (least i (omega arith) lt), next)
      (verdict_first names (suc i) lefts later first d (omega (arith, size)) inside (omega (arith, lt)) is (λ k low high. least k (omega (arith, low)) high))
  | inr ge ↦
      let e : first ≡ i = omega (arith, ge, le) in
      let here : first - i ≡ 0 = omega (arith, e) in
      let is_here : RepeatsAt names i = subst (RepeatsAt names) e is in
      rw (repeated names i (omega (arith, size)) is_here, here) refl
]

pub no_repeat : (names : List (List ℕ)) (from first : ℕ) (places : List ℕ) → IsFirstRepeat names from first → from + length places ≡ length names → length names ≤ first
    → (now : Cursor) (later : Parsing State) → verdict names from (lefts_of now places) later ≡ later
no_repeat names from first places h size past now later =
    let n = length-map places (λ p. end_of now - p) in
    verdict_none names from (lefts_of now places) later (omega (arith, n, size)) (λ k low high. h.least k low (omega (arith, high, past)))

pub repeat_at : (names : List (List ℕ)) (from first : ℕ) (places : List ℕ) (p : ℕ) → IsFirstRepeat names from first → from + length places ≡ length names → first < length names
    → p ≡ slice_index_or places (first - from) p → (now : Cursor) (later : Parsing State) → verdict names from (lefts_of now places) later ≡ Err (stop DuplicateExport (end_of now - p))
repeat_at names from first places p h size inside is now later =
    let n = length-map places (λ p. end_of now - p) in
    let r = h.repeats inside in
    let low = r.0 in
    let left : slice_index_or (lefts_of now places) (first - from) 0 ≡ end_of now - p = get_or-map (λ p. end_of now - p) places (first - from) p 0 (omega (arith, size, inside, low)) ∙ ap (λ q. end_of now - q) (sym is) in
    verdict_first names from (lefts_of now places) later first 0 (omega (arith, n, size)) inside low r.1 h.least ∙ ap (λ (k : ℕ). fails_with k) left
  where
    fails_with : ℕ → Parsing State
    fails_with k = Err (stop DuplicateExport k)

pub names_new : (exports slice : List Export) (from first count : ℕ) (places : List ℕ) → slice ≡ exports → IsFirstRepeat (names_of slice) from first → from + length places ≡ length exports
    → count ≡ length exports → count ≤ first → Checks (names_of exports) from places (Ok tt)
names_new exports slice from first count places e h size is past =
    let n = length-map exports (λ (e : Export). e.name.now) in
    no_repeat (names_of exports) from first places (subst (λ (l : List Export). IsFirstRepeat (names_of l) from first) e h) (omega (arith, n, size)) (omega (arith, n, is, past))

pub name_twice : (exports slice : List Export) (from first count : ℕ) (places : List ℕ) → slice ≡ exports → IsFirstRepeat (names_of slice) from first
    → from + length places ≡ length exports → count ≡ length exports → first < count → Checks (names_of exports) from places (Err (fault_of faults.DuplicateExport (slice_index_or places (first - from) 0)))
name_twice exports slice from first count places e h size is inside now later =
    let n = length-map exports (λ (e : Export). e.name.now) in
    let k : IsFirstRepeat (names_of exports) from first = subst (λ (l : List Export). IsFirstRepeat (names_of l) from first) e h in
    let below : first < length (names_of exports) = omega (arith, n, is, inside) in
    let r = k.repeats below in
    let low = r.0 in
    let at = get_or_default places (first - from) 0 (slice_index_or places (first - from) 0) (omega (arith, low, size, is, inside)) in
    inl (repeat_at (names_of exports) from first places (slice_index_or places (first - from) 0) k (omega (arith, n, size)) below at now later)

pub place_within : (places : List ℕ) (k p end : ℕ) → k < length places → p ≡ slice_index_or places k p → All (λ q. q ≤ end) places → p ≤ end
place_within places k p end lt is all = let le = all k p lt in omega (arith, is, le)

-- ---- entries one by one

slots_names : (exports : List Export) (n : List ℕ) → list_any (has_name n) (map (λ e. Some (export_of e)) exports) ≡ is_among (names_of exports) n
slots_names [] n = refl
slots_names (e ∷ exports) n = rw (slots_names exports n) refl

slot_name : Option grammar.Export → List ℕ
slot_name None = []
slot_name (Some e) = e.name

names_are : (exports : List Export) → names_of exports ≡ map slot_name (map (λ e. Some (export_of e)) exports)
unfolding slot_name
names_are [] = refl
names_are (e ∷ exports) = ap (λ (l : List (List ℕ)). e.name.now ∷ l) (names_are exports)

-- the names behind one more export
more_names : (s t : Sections) (x : ExportEntry) → state_of t ≡ add_export (state_of s) x → names_of t.exports.items ≡ names_of s.exports.items ++ x.0.0 ∷ []
unfolding slot_name
more_names s t x e =
    names_are t.exports.items ∙ ap (λ (q : State). map slot_name q.filled.exports) e
    ∙ map-append slot_name (slots export_of s.exports) (Some (record { name = x.0.0; item = record { space = kind_space x.0.1; number = x.1 } }) ∷ [])
    ∙ ap (λ (l : List (List ℕ)). l ++ x.0.0 ∷ []) (sym (names_are s.exports.items))

next_is : (count i : ℕ) (s : State) (bytes : List ℕ) → i < count
    → entries_by export_step (count - i) s bytes ≡ (((export_entry s).parse bytes >>= put_in (add_export s)) >>= λ x. entries_by export_step (count - (i + 1)) x.0 x.1)
unfolding entries_by
next_is count i s bytes below = let one : count - i ≡ suc (count - (i + 1)) = omega arith in rw one refl

-- after `i` of `count` entries
pub record Judging (first now : Sections) (places : List ℕ) (start here : Cursor) (count i : ℕ) : Type 0 where
  pub value : entries_by export_step count (state_of first) (rest start)
      ≡ verdict (names_of now.exports.items) (length first.exports.items) (lefts_of start places) (entries_by export_step (count - i) (state_of now) (rest here))
  pub counts : length first.exports.items + length places ≡ length now.exports.items
  pub inside : All (λ p. p ≤ end_of start) places
  pub moves : Forward start here

pub judges_none : (first : Sections) (places : List ℕ) (start : Cursor) (count : ℕ) → places ≡ [] → Judging first first places start start count 0
unfolding verdict
judges_none first places start count e = rw e (record {
  value = let all : count - 0 ≡ count = omega arith in rw all refl;
  counts = omega arith;
  inside = λ k d lt. absurd (omega (arith, lt));
  moves = record { window = refl; forward = omega arith; within = λ w. w };
})

module _ (first now : Sections) (places : List ℕ) (start here new : Cursor) (count i : ℕ) (so : Judging first now places start here count i) where
  pub judges_end : count ≤ i → ReadsCandidates count first now places start here None
  unfolding entries_by
  judges_end past = record {
    value = let none : count - i ≡ 0 = omega (arith, past) in so.value ∙ rw none refl;
    counts = so.counts;
    inside = so.inside;
    place = tt;
    moves = so.moves;
  }

  pub moves_on : Forward here new → Forward start new
  moves_on moves = joined start here new so.moves moves

  -- what the next entry is parsed as, and what follows
  abbrev After : Parsing ExportEntry → Parsing State
  After r = (r >>= put_in (add_export (state_of now))) >>= λ x. entries_by export_step (count - (i + 1)) x.0 x.1

  next_value : (result : Result Candidate Fault) → i < count → ReadsCandidate (state_of now) here new result
      → entries_by export_step count (state_of first) (rest start)
      ≡ verdict (names_of now.exports.items) (length first.exports.items) (lefts_of start places) (After (parsed_as (state_of now) here new result))
  next_value result below p =
      so.value ∙ ap (λ (r : Parsing State). verdict (names_of now.exports.items) (length first.exports.items) (lefts_of start places) r)
      (next_is count i (state_of now) (rest here) below ∙ ap (λ (r : Parsing ExportEntry). After r) p.value)

  -- it can't be read
  pub judge_fails : (e : Fault) → i < count → ReadsCandidate (state_of now) here new (Err e) → ReadsCandidates count first now places start new (Some e)
  judge_fails e below p = record {
    value = next_value (Err e) below p;
    counts = so.counts;
    inside = so.inside;
    place = p.place;
    moves = joined start here new so.moves p.moves;
  }

  chosen : (b : Bool) (stopped : Parsing ExportEntry) (t : Parsing ExportEntry) (d : Stop) → stopped ≡ Err d → After (if b then stopped else t) ≡ (if b then Err d else After t)
  chosen true stopped t d e = rw e refl
  chosen false stopped t d e = refl

  -- it was read, and its name is one more
  one_more : (c : Candidate) (later : Sections) → i < count → ReadsCandidate (state_of now) here new (Ok c) → state_of later ≡ add_export (state_of now) (entry_of c)
      → entries_by export_step count (state_of first) (rest start)
      ≡ verdict (names_of later.exports.items) (length first.exports.items) (lefts_of start (places ++ c.offset ∷ [])) (After (judged new (entry_of c) c.fault))
  one_more c later below p put =
      let left : end_of start - c.offset ≡ length (rest here) = ap (λ n. n - c.offset) (same_end start here so.moves) ∙ p.offset in
      let lefts : lefts_of start (places ++ c.offset ∷ []) ≡ lefts_of start places ++ length (rest here) ∷ [] =
      map-append (λ p. end_of start - p) places (c.offset ∷ []) ∙ ap (λ n. lefts_of start places ++ n ∷ []) left in
      let names = more_names now later (entry_of c) put in
      let n = length-map now.exports.items (λ (e : Export). e.name.now) in
      let m = length-map places (λ p. end_of start - p) in
      let sizes = so.counts in
      let t = After (judged new (entry_of c) c.fault) in
      let more = verdict_more (names_of now.exports.items) (length first.exports.items) (lefts_of start places) c.name.now (length (rest here)) t (omega (arith, n, m, sizes)) in
      let test = slots_names now.exports.items c.name.now in
      next_value (Ok c) below p
      ∙ ap (λ (r : Parsing State). verdict (names_of now.exports.items) (length first.exports.items) (lefts_of start places) r)
      (chosen (list_any (has_name c.name.now) (slots export_of now.exports)) _ (judged new (entry_of c) c.fault) (stop DuplicateExport (length (rest here))) refl
      ∙ ap (λ (b : Bool). if b then Err (stop DuplicateExport (length (rest here))) else t) test)
      ∙ sym more
      ∙ ap (λ (l : List (List ℕ)). verdict l (length first.exports.items) (lefts_of start places ++ length (rest here) ∷ []) t) (sym names)
      ∙ ap (λ (l : List ℕ). verdict (names_of later.exports.items) (length first.exports.items) l t) (sym lefts)

  more_counts : (c : Candidate) (later : Sections) → state_of later ≡ add_export (state_of now) (entry_of c) → length first.exports.items + length (places ++ c.offset ∷ []) ≡ length later.exports.items
  more_counts c later put =
      let names = ap length (more_names now later (entry_of c) put) in
      let n = length-map now.exports.items (λ (e : Export). e.name.now) in
      let m = length-map later.exports.items (λ (e : Export). e.name.now) in
      let one = length-append (names_of now.exports.items) (c.name.now ∷ []) in
      let two = length-append places (c.offset ∷ []) in
      let sizes = so.counts in
      omega (arith, names, n, m, one, two, sizes)

  more_inside : (c : Candidate) → ReadsCandidate (state_of now) here new (Ok c) → All (λ p. p ≤ end_of start) (places ++ c.offset ∷ [])
  more_inside c p = All-push (λ p. p ≤ end_of start) places c.offset so.inside (omega (arith, p.inside, same_end start here so.moves))

  pub judge_stops : (c : Candidate) (later : Sections) (items : List ℕ) → i < count → ReadsCandidate (state_of now) here new (Ok c) → items ≡ places ++ c.offset ∷ []
      → state_of later ≡ add_export (state_of now) (entry_of c) → true ≡ is_some c.fault → ReadsCandidates count first later items start new c.fault
  judge_stops c later items below p pushed put is = go c.fault refl is
    where
      go : (f : Option Fault) → c.fault ≡ f → true ≡ is_some f → ReadsCandidates count first later items start new f
      go None e is = absurd (false≢true (sym is))
      go (Some f) e is = rw pushed (record {
        value = one_more c later below p put ∙ ap (λ (f : Option Fault). verdict (names_of later.exports.items) (length first.exports.items) (lefts_of start (places ++ c.offset ∷ [])) (After (judged new (entry_of c) f))) e;
        counts = more_counts c later put;
        inside = more_inside c p;
        place = subst (λ (f : Option Fault). IfSome f (λ e. e.offset ≤ end_of new)) e p.fault;
        moves = joined start here new so.moves p.moves;
      })

  pub judges_on : (c : Candidate) (later : Sections) (items : List ℕ) → i < count → ReadsCandidate (state_of now) here new (Ok c) → items ≡ places ++ c.offset ∷ []
      → state_of later ≡ add_export (state_of now) (entry_of c) → false ≡ is_some c.fault → Judging first later items start new count (i + 1)
  judges_on c later items below p pushed put is = go c.fault refl is
    where
      go : (f : Option Fault) → c.fault ≡ f → false ≡ is_some f → Judging first later items start new count (i + 1)
      go (Some f) e is = absurd (false≢true is)
      go None e is = rw pushed (record {
        value = one_more c later below p put
            ∙ ap (λ (f : Option Fault). verdict (names_of later.exports.items) (length first.exports.items) (lefts_of start (places ++ c.offset ∷ [])) (After (judged new (entry_of c) f))) e
            ∙ ap (λ (s : State). verdict (names_of later.exports.items) (length first.exports.items) (lefts_of start (places ++ c.offset ∷ [])) (entries_by export_step (count - (i + 1)) s (rest new))) (sym put);
        counts = more_counts c later put;
        inside = more_inside c p;
        moves = joined start here new so.moves p.moves;
      })

-- ---- the whole

-- which of two is answered
pub counted_fails : (count : ℕ) (first now : Sections) (places slice : List ℕ) (from : ℕ) (old new : Cursor) (fault : Option Fault) (view : Unit {0} → State) (e : Fault)
    → ReadsCandidates count first now places old new fault → from ≡ length first.exports.items → slice ≡ places
    → Checks (names_of now.exports.items) from slice (Err e) → ((end : ℕ) → All (λ p. p ≤ end) slice → e.offset ≤ end) → Parses (entries_by export_step count (state_of first)) view old new (Err e)
counted_fails count first now places slice from old new fault view e h is same checks inside = record {
  value =
      let checks : Checks (names_of now.exports.items) (length first.exports.items) places (Err e) =
      subst (λ (l : List ℕ). Checks (names_of now.exports.items) (length first.exports.items) l (Err e)) same (subst (λ (n : ℕ). Checks (names_of now.exports.items) n slice (Err e)) is checks) in
      fails_at old new e _ (same_end old new h.moves) (fails_as old e _ _ (sym h.value) (checks old (ended_with (state_of now) new fault)));
  place =
      let inside : (end : ℕ) → All (λ p. p ≤ end) places → e.offset ≤ end = subst (λ (l : List ℕ). (end : ℕ) → All (λ p. p ≤ end) l → e.offset ≤ end) same inside in
      inside (end_of new) (subst (λ (n : ℕ). All (λ p. p ≤ n) places) (same_end old new h.moves) h.inside);
  moves = h.moves;
}
