-- Lemmas: a header, sections to the last byte, and what is missing there.
use Rattle.std.specs.Prelude.{ℕ, zero, suc, ◌+◌, ◌-◌, ◌<◌, ◌≡◌, ◌==◌, ◌&&◌, ◌⊎◌, Bool, true, false, List, length, fold, Result, Ok, Err, IfErr, refl}
use Rattle.std.proofs.Common.{ap, sym, ◌∙◌, subst, arith, length-drop, inl, inr}
use Rattle.std.proofs.lemmas.Bool.{false≢true, eqb-true}
use Rattle.std.proofs.lemmas.List.{length-append}
use Rattle.wasm_features.specs.declared.WasmFeatures.{WasmFeatures}
use Rattle.wasm_reader.specs.Cursor.{Cursor, Window, rest, end_of}
use Rattle.wasm_reader.specs.Reading.{plain}
use Rattle.wasm_reader.specs.declared.error.ErrorKind.TheVariants as kinds
use Rattle.walrus_section_frames.specs.walrus_known_sections.wasm_sections.wasm_grammar.wasm_formats.Stops.{Count, Header, Read, Stop, stop, Parsing, ◌>>=◌}
use Rattle.walrus_section_frames.specs.walrus_known_sections.wasm_sections.wasm_grammar.wasm_formats.Formats.{Small, done_is, done_refused, step_ok, step_err}
use Rattle.walrus_section_frames.specs.walrus_known_sections.wasm_sections.wasm_grammar.wasm_formats.Files.{parse_all, ended_at}
use Rattle.walrus_section_frames.specs.walrus_known_sections.wasm_sections.wasm_file_formats.Headers.{behind, behind_is, parted_ok, parted_err}
use Rattle.walrus_section_frames.specs.walrus_known_sections.wasm_sections.wasm_grammar.States.{State, nothing_yet}
use Rattle.walrus_section_frames.specs.walrus_known_sections.wasm_sections.Laws.{ReadsSections, StopsSections}
use Rattle.walrus_section_frames.specs.walrus_known_sections.wasm_sections.Modules.{magic, header, has_bodies, has_data, FileEntry, file}
use Rattle.walrus_section_frames.specs.walrus_known_sections.wasm_sections.Modules as grammar
use Rattle.walrus_section_frames.specs.walrus_known_sections.wasm_sections.Sections.{SectionEntry, section_entry, section_takes, next}
use Rattle.walrus_section_reader.specs.declared.fault.Fault.{Fault}
use Rattle.walrus_section_reader.specs.declared.fault.FaultKind.TheVariants as faults
use Rattle.walrus_section_reader.specs.Faults.{fault_of, error_of, trouble_of, IsMemory}
use Rattle.walrus_section_reader.specs.Parses.{stop_of, ParsesExactly, FailsAs, ParsesWhole}
use Rattle.walrus_section_reader.specs.Repeats.{same_end, fails_at, fails_then}
use Rattle.walrus_section_reader.specs.Steps.{put_all, all_by, all_steps_are}
use Rattle.walrus_section_reader.specs.Windows.{Runs}
use Rattle.walrus_code_reader.specs.Code.{code_place}
use Rattle.walrus_file_reader.specs.Contents.{section_step}
use Rattle.walrus_file_reader.specs.Files.{rounds, with_all, sections_to_end, file_steps, FaultOf, HasHeader, IsRefused}

pub handed_whole : {S X : Type 0} (p : List ℕ → Result S Stop) (view : X → S) (now : Cursor) (result : Result X Fault) (d e : Fault) → result ≡ Err d → d ≡ e
    → ParsesWhole p view now (Err e) → ParsesWhole p view now result
handed_whole p view now result d e is same h = rw (is, same) h

-- ---- rounds

pub runs_none : (features : WasmFeatures) (s : State) (start : Cursor) → Runs (section_step features) s s start start 0
runs_none features s start = record {
  so_far = ap (λ (n : ℕ). all_by (section_step features) n s (rest start)) (omega arith);
  moves = record { window = refl; forward = omega arith; within = λ w. w };
  left = omega arith;
}

pub some_left : (n : ℕ) → false ≡ (n == 0) → 0 < n
some_left zero e = absurd (false≢true e)
some_left (suc n) e = omega arith

pub none_left : (n : ℕ) → true ≡ (n == 0) → n ≡ 0
none_left n e = eqb-true n 0 (sym e)

pub as_rounds : {X : Type 0} (features : WasmFeatures) (s : State) (view : X → State) (now : Cursor) (result : Result X Fault) → ParsesWhole (all_by (section_step features) (length (rest now)) s) view now result
    → ParsesWhole (rounds features s) view now result
as_rounds features s view now result h = record { value = h.value; place = h.place }

-- ---- what is missing at the end

pub rounds_fail : (features : WasmFeatures) (s : State) (now : Cursor) (e : Fault) (other view : Unit {0} → State) → ParsesWhole (rounds features s) other now (Err e) → ParsesWhole (sections_to_end features s) view now (Err e)
rounds_fail features s now e other view h = record { value = fails_then now e (rounds features s (rest now)) with_all h.value; place = h.place }

chosen : (b : Bool) (t : State) → b ≡ false → ended_at Count b t ≡ Err (stop Count 0)
chosen true t e = absurd (false≢true (sym e))
chosen false t e = refl

fine : (b : Bool) (t : State) → b ≡ true → ended_at Count b t ≡ Ok t
fine true t e = refl
fine false t e = absurd (false≢true e)

pub lacks : (features : WasmFeatures) (s t : State) (now : Cursor) (x : Unit {0}) (view : Unit {0} → State) (fault : Fault) (end : ℕ) → ParsesWhole (rounds features s) (λ (_ : Unit {0}). t) now (Ok x)
    → false ≡ (has_bodies t && has_data t) → fault ≡ fault_of faults.Count end → end ≡ end_of now → ParsesWhole (sections_to_end features s) view now (Err fault)
lacks features s t now x view fault end h none is at = rw is (record {
  value = inl (ap (λ (r : Result State Stop). r >>= with_all) h.value ∙ chosen (has_bodies t && has_data t) t (sym none) ∙ ap (λ (n : ℕ). stopped n) zero_left);
  place = omega (arith, at);
})
  where
    stopped : ℕ → Result State Stop
    stopped n = Err (stop Count n)

    zero_left : 0 ≡ end_of now - end
    zero_left = omega (arith, at)

pub has_them : (features : WasmFeatures) (s t : State) (now : Cursor) (x y : Unit {0}) → ParsesWhole (rounds features s) (λ (_ : Unit {0}). t) now (Ok x) → true ≡ (has_bodies t && has_data t)
    → ParsesWhole (sections_to_end features s) (λ (_ : Unit {0}). t) now (Ok y)
has_them features s t now x y h all = record {
  value = ap (λ (r : Result State Stop). r >>= with_all) h.value ∙ fine (has_bodies t && has_data t) t (sym all);
  place = tt;
}

-- ---- the header

pub no_header : (features : WasmFeatures) (s : State) (old new : Cursor) (e : Fault) (view : Unit {0} → State) → ParsesExactly {X = Unit {0}} header.parse plain old new (Err e) → ParsesWhole (file_steps features s) view old (Err e)
no_header features s old new e view h =
    let ends = sym (same_end old new h.moves) in
    record {
      value = fails_then old e (header.parse (rest old)) (λ h. sections_to_end features s h.1) (fails_at new old e (header.parse (rest old)) ends (inl h.value));
      place = omega (arith, h.place, ends);
    }

pub behind_header : (old new : Cursor) (x : Unit {0}) → ParsesExactly header.parse plain old new (Ok x) → code_place new ≡ code_place old + 8
behind_header old new x h =
    let parts = behind_is magic (rest old) (rest new) (parted_ok magic Header refl (length (rest old)) (behind magic (rest old)) (rest new) x h.value) in
    let size = ap length parts in
    let whole = length-append magic (rest new) in
    let m = length-drop old.position old.window.bytes in
    let n = length-drop new.position new.window.bytes in
    let width : length new.window.bytes ≡ length old.window.bytes = ap (λ (w : Window). length w.bytes) h.moves.window in
    let starts : new.window.start ≡ old.window.start = ap (λ (w : Window). w.start) h.moves.window in
    let within = h.moves.within (omega (arith, size, whole, m)) in
    omega (arith, size, whole, m, n, width, starts, within)

-- where there is none, it isn't memory that is wanted
pub no_memory : (old new : Cursor) (result : Result (Unit {0}) Fault) (d e : Fault) → result ≡ Err d → d ≡ e → ParsesExactly {X = Unit {0}} header.parse plain old new (Err e)
    → IfErr result (λ fault. IsMemory fault → HasHeader (rest old))
no_memory old new result d e is same h =
    subst (λ (r : Result (Unit {0}) Fault). IfErr r (λ fault. IsMemory fault → HasHeader (rest old))) (sym (is ∙ ap Err same)) (λ memory. absurd (clash memory))
  where
    told : trouble_of e.kind ≡ Header
    told = ap (λ (s : Stop). s.trouble) (parted_err magic Header refl (length (rest old)) (behind magic (rest old)) (stop_of new e) h.value).1

    clash : IsMemory e → ⊥
    clash memory = let bad : Read kinds.Memory ≡ Header = sym (ap trouble_of memory) ∙ told in cc

-- where it is there, it is
pub header_there : (old mid : Cursor) (x : Unit {0}) (result : Result (Unit {0}) Fault) → ParsesExactly header.parse plain old mid (Ok x) → IfErr result (λ fault. IsMemory fault → HasHeader (rest old))
header_there old mid x (Ok y) h = tt
header_there old mid x (Err e) h = λ memory. (rest mid, behind_is magic (rest old) (rest mid) (parted_ok magic Header refl (length (rest old)) (behind magic (rest old)) (rest mid) x h.value))

pub header_then : (s : State) (old mid : Cursor) (x : Unit {0}) (view : Unit {0} → State) (result : Result (Unit {0}) Fault) → ParsesExactly header.parse plain old mid (Ok x)
    → ParsesWhole (sections_to_end mid.window.features s) view mid result → ParsesWhole (file_steps old.window.features s) view old result
header_then s old mid x view result h two =
    let two : ParsesWhole (sections_to_end old.window.features s) view mid result = subst (λ (w : Window). ParsesWhole (sections_to_end w.features s) view mid result) h.moves.window two in
    go result two
  where
    at : file_steps old.window.features s (rest old) ≡ sections_to_end old.window.features s (rest mid)
    at = ap (λ (r : Parsing (Unit {0})). r >>= λ h. sections_to_end old.window.features s h.1) h.value

    go : (result : Result (Unit {0}) Fault) → ParsesWhole (sections_to_end old.window.features s) view mid result → ParsesWhole (file_steps old.window.features s) view old result
    go (Ok y) p = record { value = at ∙ p.value; place = tt }
    go (Err e) p =
        let ends = sym (same_end old mid h.moves) in
        record {
          value = fails_at mid old e (file_steps old.window.features s (rest old)) ends (subst (λ (r : Result State Stop). FailsAs mid e r) (sym at) p.value);
          place = omega (arith, p.place, ends);
        }

-- ---- the grammar's file

rounds_are : (features : WasmFeatures) (s : State) (bytes : List ℕ)
    → rounds features s bytes ≡ (parse_all next (section_entry features) (section_takes features) (length bytes) s bytes >>= put_all (λ xs. fold next s xs))
rounds_are features s bytes = all_steps_are next (section_entry features) (section_takes features) (length bytes) s bytes

abbrev ending : FileEntry → Result FileEntry Stop
ending x = ended_at Count (grammar.has_all x) x

abbrev with_header : Unit {0} → List SectionEntry → Result FileEntry Stop
with_header u xs = Ok (u, xs)

ended_put : (b : Bool) (x : FileEntry) → (ended_at Count b x >>= put_all grammar.state_of) ≡ ended_at Count b (grammar.state_of x)
ended_put true x = refl
ended_put false x = refl

entries_go : (u : Unit {0}) (r : Result (List SectionEntry) Stop) → (((r >>= with_header u) >>= ending) >>= put_all grammar.state_of) ≡ ((r >>= put_all (λ xs. fold next nothing_yet xs)) >>= with_all)
entries_go u (Ok xs) = ended_put (grammar.has_all (u, xs)) (u, xs)
entries_go u (Err e) = refl

file_is : (features : WasmFeatures) (bytes : List ℕ) → ((file features).parse bytes >>= put_all grammar.state_of) ≡ file_steps features nothing_yet bytes
file_is features bytes = go (header.parse bytes)
  where
    go : (r : Parsing (Unit {0})) → (((r >>= λ h. (grammar.sections features).parse h.1 >>= with_header h.0) >>= ending) >>= put_all grammar.state_of) ≡ (r >>= λ h. sections_to_end features nothing_yet h.1)
    go (Ok h) = entries_go h.0 ((grammar.sections features).parse h.1) ∙ ap (λ (r : Result State Stop). r >>= with_all) (sym (rounds_are features nothing_yet h.1))
    go (Err e) = refl

-- a cursor at the front of all bytes
pub record Begins (features : WasmFeatures) (bytes : List ℕ) (now : Cursor) : Type 0 where
  pub all : rest now ≡ bytes
  pub place : end_of now ≡ length bytes
  pub features_are : now.window.features ≡ features

pub begins : (features : WasmFeatures) (bytes : List ℕ) (now : Cursor) → now.window.bytes ≡ bytes → now.window.start ≡ 0 → now.position ≡ 0 → now.window.features ≡ features → Begins features bytes now
begins features bytes now all start position same = record {
  all = rw (position, all) refl;
  place = let n = ap length all in omega (arith, n, start);
  features_are = same;
}

steps_at : (features : WasmFeatures) (bytes : List ℕ) (now : Cursor) (s : State) → Begins features bytes now → s ≡ nothing_yet → file_steps now.window.features s (rest now) ≡ ((file features).parse bytes >>= put_all grammar.state_of)
steps_at features bytes now s at is =
    ap (λ (l : List ℕ). file_steps now.window.features s l) at.all ∙ ap (λ (f : WasmFeatures). file_steps f s bytes) at.features_are ∙ ap (λ (t : State). file_steps features t bytes) is ∙ sym (file_is features bytes)

pub file_read : (features : WasmFeatures) (bytes : List ℕ) (now : Cursor) (s t : State) (x : Unit {0}) → Begins features bytes now → s ≡ nothing_yet → Small bytes
    → ParsesWhole (file_steps now.window.features s) (λ (_ : Unit {0}). t) now (Ok x) → ReadsSections features bytes t
file_read features bytes now s t x at is small h =
    let done : ((file features).parse bytes >>= put_all grammar.state_of) ≡ Ok t = sym (steps_at features bytes now s at is) ∙ h.value in
    step_ok ((file features).parse bytes) (put_all grammar.state_of) t done (λ y p q. (y, (file features).found bytes y small p, done_is (grammar.state_of y) t q))

pub file_refused : (features : WasmFeatures) (bytes : List ℕ) (now : Cursor) (s : State) (view : Unit {0} → State) (e : Fault) → Begins features bytes now → s ≡ nothing_yet → Small bytes
    → (IsMemory e → HasHeader (rest now)) → ParsesWhole (file_steps now.window.features s) view now (Err e) → IsRefused features bytes (error_of e)
file_refused features bytes now s view e at is small header_is h = (e, refl, go h.value)
  where
    tells : (file features).parse bytes ≡ Err (stop_of now e) → (d : Stop) × StopsSections features bytes d × ((stop_of now e).trouble ≡ d.trouble) × (e.offset + d.left ≡ length bytes)
    tells p = (stop_of now e, (file features).told bytes (stop_of now e) small p, refl, omega (arith, h.place, at.place))

    go : FailsAs now e (file_steps now.window.features s (rest now)) → FaultOf features bytes e ⊎ (IsMemory e × HasHeader bytes)
    go (inl f) = inl (step_err ((file features).parse bytes) (put_all grammar.state_of) (stop_of now e) (sym (steps_at features bytes now s at is) ∙ f) tells (λ y _ q. done_refused (grammar.state_of y) (stop_of now e) q))
    go (inr m) = inr (m, subst HasHeader at.all (header_is m))
