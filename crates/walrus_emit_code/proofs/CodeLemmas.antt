-- The code section is written body by body.
use Rattle.std.specs.Prelude.{ℕ, zero, suc, ◌+◌, ◌≡◌, ◌≤◌, ◌<◌, List, [], ◌∷◌, ◌++◌, length, take, drop, slice_get, slice_index_or, Option, Some, None, Result, Ok, Err, OnOk, All, refl}
use Rattle.std.proofs.Common.{ap, sym, ◌∙◌, subst, append_assoc, append-nil, arith, le-ltb}
use Rattle.std.proofs.lemmas.List.{length-append, length-drop, take-append-drop}
use Rattle.walrus_operators.specs.Appended.{Keeps}
use Rattle.wasm_formats.specs.declared.fault.Limited.{Limited}
use Rattle.wasm_formats.specs.declared.fault.Limited.TheVariants.{Body, Locals}
use Rattle.wasm_operators.specs.Operators.{Seen}
use Rattle.wasm_operators.specs.Bytes.{unsigned_bytes}
use Rattle.wasm_operators.proofs.Keeps.{keeps_all, keeps_front, keeps_on}
use Rattle.walrus_arena.specs.Arena.{Arena, item_at}
use Rattle.walrus_errors.specs.declared.error.ModuleError.{ModuleError}
use Rattle.walrus_index_maps.specs.Maps.{Indices}
use Rattle.walrus_instr.specs.declared.seq.InstrSeq.{InstrSeq}
use Rattle.walrus_items.specs.declared.local.Local.{Local}
use Rattle.walrus_body_writer.specs.walrus_pairing.Looks.{Look, Or, number_of}
use Rattle.walrus_body_writer.specs.walrus_tree.Text.{operators}
use Rattle.walrus_body_writer.specs.walrus_tree.walrus_builder.Functions.{seqs_of}
use Rattle.walrus_body_writer.specs.declared.output.Output.{Output}
use Rattle.walrus_body_writer.specs.Outputs.{Wrote}
use Rattle.walrus_body_writer.specs.Spelled.{Text, AreWritten, IsWritten, bytes_of, text_bytes, written as written_piece}
use Rattle.walrus_local_numbers.specs.Written as locals
use Rattle.walrus_local_numbers.specs.Written.{Run}
use Rattle.walrus_local_function.specs.declared.local_function.LocalFunction.{LocalFunction}
use Rattle.walrus_module_items.specs.declared.function.Function.{Function}
use Rattle.walrus_module_items.specs.declared.function.FunctionKind.TheVariants.{Local as WithBody}
use Rattle.walrus_emit_parts.specs.Due.{Due, Writes, limited, number, section, sized, written}
use Rattle.walrus_emit_parts.proofs.Lemmas.{keeps_written, nothing, put_before, puts, size_is, written_both, written_size}
use Rattle.walrus_emit_numbers.specs.declared.facts.BodyFacts.{BodyFacts}
use Rattle.walrus_emit_numbers.specs.Order.{AreWithin}
use Rattle.walrus_emit_code.specs.Code.{bodies_due, bodies_numbers, body_due, body_numbers, code, contents, declarations, facts_at, local_count, operator_due, operators_due, or_lacking, runs_due, text_due, with_locals}

-- ---- what stands at the front

pub keeps_both : (old mid new : List ℕ) → Keeps old mid → Keeps mid new → Keeps old new
keeps_both old mid new first then = keeps_on old mid new first.more first.behind then

pub keeps_itself : (out : List ℕ) → Keeps out out
keeps_itself out = keeps_all out out refl

pub kept : (due : Due) (old new : List ℕ) (result : Result (Unit {0}) ModuleError) → Writes due old new result → Keeps old new
kept due old new (Ok x) h = keeps_written old new due h
kept due old new (Err e) h = h.keeps

pub written_then : (due : Due) (old new : List ℕ) (result : Result (Unit {0}) ModuleError) → Writes due old new result → OnOk result (written new ≡ written old ++ due)
written_then due old new (Ok x) h = h
written_then due old new (Err e) h = tt

pub no_longer : (old new : List ℕ) → Keeps old new → length old ≤ length new
no_longer old new h = omega (arith, ap length h.behind, length-append old h.more)

pub still_there : (old new : List ℕ) (start : ℕ) → start ≤ length old → Keeps old new → start ≤ length new
still_there old new start le h = omega (arith, le, no_longer old new h)

pub front_kept : (old new : List ℕ) (start : ℕ) → Keeps old new → Keeps (take start old) new
front_kept old new start h = record {
  more = drop start old ++ h.more;
  behind = h.behind ∙ ap (λ (l : List ℕ). l ++ h.more) (sym (take-append-drop start old)) ∙ append_assoc (take start old) (drop start old) h.more;
}

pub turned : (old new bytes : List ℕ) (start : ℕ) → new ≡ take start old ++ (bytes ++ drop start old) → Keeps (take start old) new
turned old new bytes start h = record { more = bytes ++ drop start old; behind = h }

-- a section: what was there stays, its contents begin behind that, and their size is put in there
pub sealed : (old first mid new : List ℕ) (start : ℕ) → start ≡ length first → Keeps old first → Keeps first mid → Keeps (take start mid) new → Keeps old new
sealed old first mid new start e a b c =
    let front : take start mid ≡ first = keeps_front first mid start e b in
    keeps_both old first new a (subst (λ (l : List ℕ). Keeps l new) front c)

-- ---- one body

-- what is written for locals is what is due
pub runs_written : (types : ℕ → Option ℕ) (rs : List Run) (old new : List ℕ) → locals.Writes types rs old new → written new ≡ written old ++ runs_due types rs
runs_written types rs old new w = rw w.are (puts old new (locals.runs_bytes w.runs) w.bytes)

-- a piece that is written is what is due
piece_due : (o : Or (Option Seen)) → IsWritten o → or_lacking operator_due o ≡ written (bytes_of o)
piece_due (Ok (Some s)) w = refl
piece_due (Ok None) w = refl
piece_due (Err e) w = absurd w

-- so are the operators of a text
text_written : (look : Look) (b : List InstrSeq) (t : Text) → AreWritten look b t → text_due look b t ≡ written (text_bytes look b t)
text_written look b [] w = refl
text_written look b (p ∷ ps) w =
    ap (λ (l : Due). l ++ text_due look b ps) (piece_due (written_piece look b p.0) w.0)
    ∙ ap (λ (l : Due). written (bytes_of (written_piece look b p.0)) ++ l) (text_written look b ps w.1)
    ∙ sym (written_both (bytes_of (written_piece look b p.0)) (text_bytes look b ps))

operators_written : (look : Look) (b : List InstrSeq) (t : Text) (old new : Output) → Wrote look b t old new → written new.bytes.items ≡ written old.bytes.items ++ text_due look b t
operators_written look b t old new w =
    puts old.bytes.items new.bytes.items (text_bytes look b t) w.bytes ∙ ap (λ (l : Due). written old.bytes.items ++ l) (sym (text_written look b t w.written))

-- the builder that is asked is the function's
pub operators_of : (function : ℕ) (local : LocalFunction) (i : Indices) (b : List InstrSeq) (old new : Output) → b ≡ seqs_of local.builder → Wrote (number_of i function) b (operators b 0) old new
    → written new.bytes.items ≡ written old.bytes.items ++ operators_due function local i
operators_of function local i b old new is w =
    operators_written (number_of i function) (seqs_of local.builder) (operators (seqs_of local.builder) 0) old new (subst (λ (b : List InstrSeq). Wrote (number_of i function) b (operators b 0) old new) is w)

both_within : (m1 m2 n1 : ℕ) (l1 l2 : Limited) (all : Due) → n1 ≤ m1 → length all ≤ m2 → limited m1 n1 l1 (limited m2 (length all) l2 all) ≡ all
both_within m1 m2 n1 l1 l2 all few short = rw (le-ltb m1 n1 few, le-ltb m2 (length all) short) refl

is_within : (m1 m2 n1 : ℕ) (l1 l2 : Limited) (all : Due) (bytes : List ℕ) → n1 ≤ m1 → length bytes ≤ m2 → written bytes ≡ all → written bytes ≡ limited m1 n1 l1 (limited m2 (length all) l2 all)
is_within m1 m2 n1 l1 l2 all bytes few short is =
    is ∙ sym (both_within m1 m2 n1 l1 l2 all few (subst (λ (k : ℕ). k ≤ m2) (sym (written_size bytes) ∙ ap length is) short))

module _ (of : List Local) (function : ℕ) (local : LocalFunction) (used : List ℕ) where
  -- its declarations, then its operators with the new numbers
  pub contents_written : (i j : Indices) (none first second : List ℕ) → none ≡ [] → j ≡ with_locals of function local used i → written first ≡ written none ++ declarations of local used i
      → local_count (j.locals function) (length local.args.items) used ≤ 50000 → written second ≡ written first ++ operators_due function local j → length second ≤ 7654321
      → written second ≡ contents of function local used i
  contents_written i j none first second empty numbers a few b short =
      let numbered = with_locals of function local used i in
      let front : written first ≡ declarations of local used i = a ∙ ap (λ (l : List ℕ). written l ++ declarations of local used i) empty in
      let all : written second ≡ declarations of local used i ++ operators_due function local numbered =
      b ∙ ap (λ (l : Due). l ++ operators_due function local j) front ∙ ap (λ (k : Indices). declarations of local used i ++ operators_due function local k) numbers in
      is_within 50000 7654321 (local_count (numbered.locals function) (length local.args.items) used) Locals Body (declarations of local used i ++ operators_due function local numbered) second
      (subst (λ (k : Indices). local_count (k.locals function) (length local.args.items) used ≤ 50000) numbers few) short all

-- bytes with their size before them
pub body_written : (old mid new bytes : List ℕ) → written mid ≡ written old ++ number (length bytes) → written new ≡ written mid ++ written bytes → written new ≡ written old ++ sized (written bytes)
body_written old mid new bytes a b =
    b ∙ ap (λ (l : Due). l ++ written bytes) a ∙ append_assoc (written old) (number (length bytes)) (written bytes)
    ∙ ap (λ (n : ℕ). written old ++ (number n ++ written bytes)) (sym (written_size bytes))

pub sized_contents : (old new bytes : List ℕ) (due : Due) → written bytes ≡ due → written new ≡ written old ++ sized (written bytes) → written new ≡ written old ++ sized due
sized_contents old new bytes due is h = subst (λ (l : Due). written new ≡ written old ++ sized l) is h

-- a count, and what has it
pub behind_both : (old mid new : List ℕ) (a b : Due) → written mid ≡ written old ++ a → written new ≡ written mid ++ b → written new ≡ written old ++ (a ++ b)
behind_both old mid new a b first then = then ∙ ap (λ (l : Due). l ++ b) first ∙ append_assoc (written old) a b

-- ---- all of them

module _ (of : List Local) (functions : Arena Function) where
  -- it has a body
  pub body_is : (i : Indices) (facts : BodyFacts) (f : Function) (local : LocalFunction) (old new : List ℕ) → item_at functions facts.function ≡ Some f → f.kind ≡ WithBody local
      → written new ≡ written old ++ sized (contents of facts.function local facts.used_locals.items i) → written new ≡ written old ++ body_due of functions i facts
  body_is i facts f local old new is kind h = rw (is, kind) h

  pub numbers_are : (i j : Indices) (facts : BodyFacts) (f : Function) (local : LocalFunction) → item_at functions facts.function ≡ Some f → f.kind ≡ WithBody local
      → j ≡ with_locals of facts.function local facts.used_locals.items i → j ≡ body_numbers of functions i facts
  numbers_are i j facts f local is kind h = rw (is, kind) h

  -- some were written, and these are left
  pub record WroteBodies (all left : List BodyFacts) (i now : Indices) (old bytes : List ℕ) : Type 0 where
    pub numbers : bodies_numbers of functions now left ≡ bodies_numbers of functions i all
    pub bytes_are : written bytes ++ bodies_due of functions now left ≡ written old ++ bodies_due of functions i all

  pub bodies_begin : (all : List BodyFacts) (i : Indices) (old : List ℕ) → WroteBodies all all i i old old
  bodies_begin all i old = record { numbers = refl; bytes_are = refl }

  one_body : (all left : List BodyFacts) (f : BodyFacts) (i now next : Indices) (old mid new : List ℕ) → WroteBodies all (f ∷ left) i now old mid → next ≡ body_numbers of functions now f
      → written new ≡ written mid ++ body_due of functions now f → WroteBodies all left i next old new
  one_body all left f i now next old mid new h numbers bytes = record {
    numbers = ap (λ (k : Indices). bodies_numbers of functions k left) numbers ∙ h.numbers;
    bytes_are = ap (λ (l : Due). l ++ bodies_due of functions next left) bytes ∙ append_assoc (written mid) (body_due of functions now f) (bodies_due of functions next left)
        ∙ ap (λ (k : Indices). written mid ++ (body_due of functions now f ++ bodies_due of functions k left)) numbers ∙ h.bytes_are;
  }

  bodies_end : (all : List BodyFacts) (i now : Indices) (old bytes : List ℕ) → WroteBodies all [] i now old bytes
      → (now ≡ bodies_numbers of functions i all) × (written bytes ≡ written old ++ bodies_due of functions i all)
  bodies_end all i now old bytes h = (h.numbers, sym (append-nil (written bytes)) ∙ h.bytes_are)

  -- ---- by their positions

  index_get : {A : Type 0} (xs : List A) (i : ℕ) (d : A) → i < length xs → slice_get xs i ≡ Some (slice_index_or xs i d)
  index_get [] i d lt = absurd (omega (arith, lt))
  index_get (x ∷ xs) zero d lt = refl
  index_get (x ∷ xs) (suc i) d lt = index_get xs i d (omega (arith, lt))

  next_left : {A : Type 0} (xs : List A) (i : ℕ) (d : A) → i < length xs → drop i xs ≡ slice_index_or xs i d ∷ drop (suc i) xs
  next_left [] i d lt = absurd (omega (arith, lt))
  next_left (x ∷ xs) zero d lt = refl
  next_left (x ∷ xs) (suc i) d lt = next_left xs i d (omega (arith, lt))

  first_fact : (facts : List BodyFacts) (at : ℕ) (d : BodyFacts) (order : List ℕ) → at < length facts → facts_at facts (at ∷ order) ≡ slice_index_or facts at d ∷ facts_at facts order
  first_fact facts at d order lt = rw (index_get facts at d lt) refl

  pub facts_next : (facts : List BodyFacts) (order : List ℕ) (i o at : ℕ) (d f : BodyFacts) → i < length order → at ≡ slice_index_or order i o → at < length facts → f ≡ slice_index_or facts at d
      → facts_at facts (drop i order) ≡ f ∷ facts_at facts (drop (i + 1) order)
  facts_next facts order i o at d f lt is inside fact =
      let one : suc i ≡ i + 1 = omega arith in
      ap (λ (l : List ℕ). facts_at facts l) (next_left order i o lt) ∙ ap (λ (k : ℕ). facts_at facts (k ∷ drop (suc i) order)) (sym is)
      ∙ first_fact facts at d (drop (suc i) order) inside ∙ ap (λ (g : BodyFacts). g ∷ facts_at facts (drop (suc i) order)) (sym fact)
      ∙ ap (λ (n : ℕ). f ∷ facts_at facts (drop n order)) one

  pub body_next : (facts : List BodyFacts) (order : List ℕ) (i o at : ℕ) (d f : BodyFacts) (first now next : Indices) (old mid new : List ℕ) → i < length order → at ≡ slice_index_or order i o
      → at < length facts → f ≡ slice_index_or facts at d → WroteBodies (facts_at facts order) (facts_at facts (drop i order)) first now old mid
      → next ≡ body_numbers of functions now f → written new ≡ written mid ++ body_due of functions now f
      → WroteBodies (facts_at facts order) (facts_at facts (drop (i + 1) order)) first next old new
  body_next facts order i o at d f first now next old mid new lt is inside fact h numbers bytes =
      one_body (facts_at facts order) (facts_at facts (drop (i + 1) order)) f first now next old mid new
      (subst (λ (l : List BodyFacts). WroteBodies (facts_at facts order) l first now old mid) (facts_next facts order i o at d f lt is inside fact) h) numbers bytes

  pub drop_past : {A : Type 0} (xs : List A) (i : ℕ) → length xs ≤ i → drop i xs ≡ []
  drop_past [] zero le = refl
  drop_past [] (suc i) le = refl
  drop_past (x ∷ xs) zero le = absurd (omega (arith, le))
  drop_past (x ∷ xs) (suc i) le = drop_past xs i (omega (arith, le))

  pub bodies_done : (facts : List BodyFacts) (order : List ℕ) (i : ℕ) (first now : Indices) (old bytes : List ℕ) → length order ≤ i
      → WroteBodies (facts_at facts order) (facts_at facts (drop i order)) first now old bytes
      → (now ≡ bodies_numbers of functions first (facts_at facts order)) × (written bytes ≡ written old ++ bodies_due of functions first (facts_at facts order))
  bodies_done facts order i first now old bytes le h =
      bodies_end (facts_at facts order) first now old bytes (subst (λ (l : List ℕ). WroteBodies (facts_at facts order) (facts_at facts l) first now old bytes) (drop_past order i le) h)

  -- ---- the section

  get_there : (facts : List BodyFacts) (at : ℕ) → at < length facts → (f : BodyFacts) × (slice_get facts at ≡ Some f)
  get_there [] at lt = absurd (omega (arith, lt))
  get_there (x ∷ xs) zero lt = (x, refl)
  get_there (x ∷ xs) (suc i) lt = get_there xs i (omega (arith, lt))

  pub facts_there : (facts : List BodyFacts) (order : List ℕ) → All (λ (at : ℕ). at < length facts) order → length (facts_at facts order) ≡ length order
  facts_there facts [] h = refl
  facts_there facts (at ∷ order) h =
      let there = get_there facts at (h 0 at (omega arith)) in
      rw there.1 (ap suc (facts_there facts order (λ k d lt. h (suc k) d (omega (arith, lt)))))

  code_is : (i : Indices) (fs : List BodyFacts) → 0 < length fs → section 10 (number (length fs) ++ bodies_due of functions i fs) ≡ code of functions i fs
  code_is i [] lt = absurd (omega (arith, lt))
  code_is i (f ∷ fs) lt = refl

  pub section_written : (facts : List BodyFacts) (order : List ℕ) (i : Indices) (old first mid new : List ℕ) (start : ℕ) → start ≡ length first → 0 < length order → AreWithin facts order
      → written first ≡ written old ++ written (10 ∷ []) → written mid ≡ written first ++ (number (length order) ++ bodies_due of functions i (facts_at facts order))
      → new ≡ take start mid ++ (unsigned_bytes (length (drop start mid)) ++ drop start mid) → written new ≡ written old ++ code of functions i (facts_at facts order)
  section_written facts order i old first mid new start at some within id all is =
      let fs = facts_at facts order in
      let due : Due = number (length order) ++ bodies_due of functions i fs in
      let count : length fs ≡ length order = facts_there facts order within in
      let size : length (drop start mid) ≡ length due = omega (arith, length-drop start mid, size_is first mid due all, at) in
      put_before first mid new due start (length (drop start mid)) at all is
      ∙ ap (λ (l : Due). l ++ (number (length (drop start mid)) ++ due)) id
      ∙ append_assoc (written old) (written (10 ∷ [])) (number (length (drop start mid)) ++ due)
      ∙ ap (λ (n : ℕ). written old ++ (Ok 10 ∷ (number n ++ due))) size
      ∙ ap (λ (n : ℕ). written old ++ section 10 (number n ++ bodies_due of functions i fs)) (sym count)
      ∙ ap (λ (l : Due). written old ++ l) (code_is i fs (omega (arith, some, count)))

  pub none_written : (facts : List BodyFacts) (order : List ℕ) (i : Indices) (old : List ℕ) → order ≡ [] → written old ≡ written old ++ code of functions i (facts_at facts order)
  none_written facts order i old none = rw none (nothing old)

  pub none_numbered : (facts : List BodyFacts) (order : List ℕ) (i : Indices) → order ≡ [] → i ≡ bodies_numbers of functions i (facts_at facts order)
  none_numbered facts order i none = rw none refl
