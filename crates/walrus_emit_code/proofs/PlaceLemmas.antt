-- Where code stands, body by body.
use Rattle.std.specs.Prelude.{ℕ, ◌+◌, ◌-◌, ◌≡◌, ◌≤◌, ◌<◌, ◌==◌, Bool, true, false, List, [], ◌∷◌, ◌++◌, length, take, drop, map, filter, slice_index_or, Some, refl, if◌then◌else◌}
use Rattle.std.specs.declared.ops.Range.{Range}
use Rattle.std.proofs.Common.{ap, sym, ◌∙◌, subst, append_assoc, append-nil, arith}
use Rattle.std.proofs.lemmas.List.{length-append, length-drop, map-append, take-append-drop, take_more}
use Rattle.std.proofs.lemmas.List.Elements.{filter-append}
use Rattle.wasm_operators.specs.Bytes.{unsigned_bytes}
use Rattle.walrus_arena.specs.Arena.{Arena, item_at}
use Rattle.walrus_index_maps.specs.Maps.{Indices}
use Rattle.walrus_instr.specs.declared.seq.InstrLocId.{InstrLocId}
use Rattle.walrus_instr.specs.declared.seq.InstrSeq.{InstrSeq}
use Rattle.walrus_items.specs.declared.local.Local.{Local}
use Rattle.walrus_body_writer.specs.walrus_pairing.Looks.{number_of}
use Rattle.walrus_body_writer.specs.walrus_tree.Text.{operators}
use Rattle.walrus_body_writer.specs.walrus_tree.walrus_builder.Functions.{seqs_of}
use Rattle.walrus_body_writer.specs.declared.output.Output.{Output}
use Rattle.walrus_body_writer.specs.Outputs.{Wrote}
use Rattle.walrus_local_function.specs.declared.local_function.LocalFunction.{LocalFunction}
use Rattle.walrus_module_items.specs.declared.function.Function.{Function}
use Rattle.walrus_module_items.specs.declared.function.FunctionKind.TheVariants.{Local as WithBody}
use Rattle.walrus_emit_parts.specs.Due.{Due, number, written}
use Rattle.walrus_emit_parts.proofs.Lemmas.{size_is, written_size}
use Rattle.walrus_emit_numbers.specs.declared.facts.BodyFacts.{BodyFacts}
use Rattle.walrus_emit_numbers.specs.Order.{AreWithin}
use Rattle.walrus_emit_code.specs.Code.{bodies_due, body_due, body_numbers, contents, declarations, facts_at, with_locals}
use Rattle.walrus_emit_code.specs.Places.{behind_size, bodies_locations, bodies_ranges, body_locations, body_ranges, code_start, has_location, if_kept, located, locations, places_from, places_in, range_of, ranges}
use Rattle.walrus_emit_code.proofs.CodeLemmas.{drop_past, facts_next, facts_there}

-- ---- where places are kept

module _ {A : Type 0} where
  behind_kept : (keeps : Bool) (a b : List A) → (if keeps then a ++ b else a) ≡ a ++ if_kept keeps b
  behind_kept true a b = refl
  behind_kept false a b = sym (append-nil a)

  both_kept : (keeps : Bool) (a b : List A) → if_kept keeps (a ++ b) ≡ if_kept keeps a ++ if_kept keeps b
  both_kept true a b = refl
  both_kept false a b = refl

  none_kept : (keeps : Bool) → if_kept {A = A} keeps [] ≡ []
  none_kept true = refl
  none_kept false = refl

-- ---- locations

located_kept : (keeps : Bool) (by : ℕ) (places : List (InstrLocId × ℕ)) → located by (if_kept keeps places) ≡ if_kept keeps (located by places)
located_kept true by places = refl
located_kept false by places = refl

abbrev moved : ℕ → InstrLocId × ℕ → ℕ × ℕ
moved by p = (p.0.0, by + p.1)

located_both : (by : ℕ) (a b : List (InstrLocId × ℕ)) → located by (a ++ b) ≡ located by a ++ located by b
located_both by a b = ap (map (moved by)) (filter-append has_location a b) ∙ map-append (moved by) (filter has_location a) (filter has_location b)

-- an operator with no location, and one that has one
pub not_noted : (by at : ℕ) (l : InstrLocId) (old : List (ℕ × ℕ)) → (l.0 == 4294967295) ≡ true → old ≡ old ++ located by ((l, at) ∷ [])
not_noted by at l old e = rw e (sym (append-nil old))

pub noted : (by at place : ℕ) (l : InstrLocId) (old new : List (ℕ × ℕ)) → (l.0 == 4294967295) ≡ false → place ≡ by + at → new ≡ old ++ (l.0, place) ∷ [] → new ≡ old ++ located by ((l, at) ∷ [])
noted by at place l old new e is h = rw e (h ∙ ap (λ (n : ℕ). old ++ (l.0, n) ∷ []) is)

-- one operator more
pub located_next : (by : ℕ) (places : List (InstrLocId × ℕ)) (i : ℕ) (d : InstrLocId × ℕ) (old now next : List (ℕ × ℕ)) → i < length places → now ≡ old ++ located by (take i places)
    → next ≡ now ++ located by (slice_index_or places i d ∷ []) → next ≡ old ++ located by (take (i + 1) places)
located_next by places i d old now next lt first after =
    let p = slice_index_or places i d in
    after ∙ ap (λ (l : List (ℕ × ℕ)). l ++ located by (p ∷ [])) first ∙ append_assoc old (located by (take i places)) (located by (p ∷ []))
    ∙ ap (λ (l : List (ℕ × ℕ)). old ++ l) (sym (ap (located by) (take_more places i d lt) ∙ located_both by (take i places) (p ∷ [])))

-- ---- one body

-- the builder that is asked is the function's
pub places_of : (function : ℕ) (local : LocalFunction) (i : Indices) (b : List InstrSeq) (old new : Output) → b ≡ seqs_of local.builder → Wrote (number_of i function) b (operators b 0) old new
    → new.places.items ≡ old.places.items ++ if_kept old.keeps_places (places_from (length old.bytes.items) function local i)
places_of function local i b old new is w =
    (subst (λ (s : List InstrSeq). Wrote (number_of i function) s (operators s 0) old new) is w).places
    ∙ behind_kept old.keeps_places old.places.items (places_from (length old.bytes.items) function local i)

module _ (of : List Local) (function : ℕ) (local : LocalFunction) (used : List ℕ) where
  -- its declarations were written, then its operators with the new numbers
  pub placed_in : (i j : Indices) (keeps : Bool) (none mid new : Output) → none.bytes.items ≡ [] → none.places.items ≡ [] → none.keeps_places ≡ keeps → mid ≡ record none { bytes = mid.bytes }
      → j ≡ with_locals of function local used i → written mid.bytes.items ≡ written none.bytes.items ++ declarations of local used i
      → new.places.items ≡ mid.places.items ++ if_kept mid.keeps_places (places_from (length mid.bytes.items) function local j)
      → new.places.items ≡ if_kept keeps (places_in of function local used i)
  placed_in i j keeps none mid new empty bare same rest numbers w h =
      let declared = declarations of local used i in
      let places : mid.places.items ≡ [] = ap (λ (o : Output). o.places.items) rest ∙ bare in
      let kept : mid.keeps_places ≡ keeps = ap (λ (o : Output). o.keeps_places) rest ∙ same in
      let size : length mid.bytes.items ≡ length declared = omega (arith, size_is none.bytes.items mid.bytes.items declared w, ap length empty) in
      h ∙ ap (λ (l : List (InstrLocId × ℕ)). l ++ if_kept mid.keeps_places (places_from (length mid.bytes.items) function local j)) places
      ∙ ap (λ (k : Bool). if_kept k (places_from (length mid.bytes.items) function local j)) kept
      ∙ ap (λ (n : ℕ). if_kept keeps (places_from n function local j)) size
      ∙ ap (λ (k : Indices). if_kept keeps (places_from (length declared) function local k)) numbers

module _ (old mid bytes : List ℕ) (start : ℕ) (there : start ≤ length old) (count : written mid ≡ written old ++ number (length bytes)) where
  -- it begins behind its size
  pub begins : length mid - start ≡ behind_size (length old - start) (written bytes)
  begins =
      let size : length (number (length bytes)) ≡ length (number (length (written bytes))) = ap (λ (n : ℕ). length (number n)) (sym (written_size bytes)) in
      omega (arith, there, size, size_is old mid (number (length bytes)) count)

  pub ends : (new : List ℕ) → written new ≡ written mid ++ written bytes → length new - start ≡ behind_size (length old - start) (written bytes) + length (written bytes)
  ends new h = omega (arith, there, begins, size_is old mid (number (length bytes)) count, size_is mid new (written bytes) h)

  pub body_ranged : (function : ℕ) (new : List ℕ) (first after : List (ℕ × Range ℕ)) → written new ≡ written mid ++ written bytes
      → after ≡ first ++ (function, record { start = length mid - start; end = length new - start }) ∷ [] → after ≡ first ++ (function, range_of (length old - start) (written bytes)) ∷ []
  body_ranged function new first after h is =
      is ∙ ap (λ (n : ℕ). first ++ (function, record { start = n; end = length new - start }) ∷ []) begins
      ∙ ap (λ (n : ℕ). first ++ (function, record { start = behind_size (length old - start) (written bytes); end = n }) ∷ []) (ends new h)

  pub body_located : (places : List (InstrLocId × ℕ)) (first after : List (ℕ × ℕ)) → after ≡ first ++ located (length mid - start) places
      → after ≡ first ++ located (behind_size (length old - start) (written bytes)) places
  body_located places first after is = is ∙ ap (λ (n : ℕ). first ++ located n places) begins

-- bytes that were written apart are what is due
pub apart_located : (keeps : Bool) (at : ℕ) (bytes : List ℕ) (due : Due) (places all : List (InstrLocId × ℕ)) (first after : List (ℕ × ℕ)) → written bytes ≡ due → places ≡ if_kept keeps all
    → after ≡ first ++ located (behind_size at (written bytes)) places → after ≡ first ++ if_kept keeps (located (behind_size at due) all)
apart_located keeps at bytes due places all first after is kept h =
    h ∙ ap (λ (l : Due). first ++ located (behind_size at l) places) is ∙ ap (λ (l : List (InstrLocId × ℕ)). first ++ located (behind_size at due) l) kept
    ∙ ap (λ (l : List (ℕ × ℕ)). first ++ l) (located_kept keeps (behind_size at due) all)

pub apart_ranged : (function at : ℕ) (bytes : List ℕ) (due : Due) (first after : List (ℕ × Range ℕ)) → written bytes ≡ due → after ≡ first ++ (function, range_of at (written bytes)) ∷ []
    → after ≡ first ++ (function, range_of at due) ∷ []
apart_ranged function at bytes due first after is h = h ∙ ap (λ (l : Due). first ++ (function, range_of at l) ∷ []) is

-- ---- all of them

module _ (of : List Local) (functions : Arena Function) where
  -- it has a body
  pub locations_are : (keeps : Bool) (at : ℕ) (i : Indices) (facts : BodyFacts) (f : Function) (local : LocalFunction) (first after : List (ℕ × ℕ)) → item_at functions facts.function ≡ Some f → f.kind ≡ WithBody local
      → after ≡ first ++ if_kept keeps (located (behind_size at (contents of facts.function local facts.used_locals.items i)) (places_in of facts.function local facts.used_locals.items i))
      → after ≡ first ++ if_kept keeps (body_locations of functions i facts at)
  locations_are keeps at i facts f local first after is kind h = rw (is, kind) h

  pub ranges_are : (at : ℕ) (i : Indices) (facts : BodyFacts) (f : Function) (local : LocalFunction) (first after : List (ℕ × Range ℕ)) → item_at functions facts.function ≡ Some f → f.kind ≡ WithBody local
      → after ≡ first ++ (facts.function, range_of at (contents of facts.function local facts.used_locals.items i)) ∷ [] → after ≡ first ++ body_ranges of functions i facts at
  ranges_are at i facts f local first after is kind h = rw (is, kind) h

  -- some were written up to a place, and these are left
  pub record PlacedBodies (keeps : Bool) (all left : List BodyFacts) (i now : Indices) (from to : ℕ) (old new : List (ℕ × ℕ)) (first after : List (ℕ × Range ℕ)) : Type 0 where
    pub located : new ++ if_kept keeps (bodies_locations of functions now to left) ≡ old ++ if_kept keeps (bodies_locations of functions i from all)
    pub ranged : after ++ bodies_ranges of functions now to left ≡ first ++ bodies_ranges of functions i from all

  pub placing_begins : (keeps : Bool) (all : List BodyFacts) (i : Indices) (from : ℕ) (old : List (ℕ × ℕ)) (first : List (ℕ × Range ℕ)) → PlacedBodies keeps all all i i from from old old first first
  placing_begins keeps all i from old first = record { located = refl; ranged = refl }

  module _ (keeps : Bool) (all left : List BodyFacts) (f : BodyFacts) (i now next : Indices) (from to upto : ℕ) (old mid new : List (ℕ × ℕ)) (first after last : List (ℕ × Range ℕ)) where
    one_placed : PlacedBodies keeps all (f ∷ left) i now from to old mid first after → next ≡ body_numbers of functions now f → upto ≡ to + length (body_due of functions now f)
        → new ≡ mid ++ if_kept keeps (body_locations of functions now f to) → last ≡ after ++ body_ranges of functions now f to → PlacedBodies keeps all left i next from upto old new first last
    one_placed h numbers size l r = record {
      located = ap (λ (k : Indices). new ++ if_kept keeps (bodies_locations of functions k upto left)) numbers
          ∙ ap (λ (n : ℕ). new ++ if_kept keeps (bodies_locations of functions (body_numbers of functions now f) n left)) size
          ∙ ap (λ (x : List (ℕ × ℕ)). x ++ if_kept keeps rest) l
          ∙ append_assoc mid (if_kept keeps (body_locations of functions now f to)) (if_kept keeps rest)
          ∙ ap (λ (x : List (ℕ × ℕ)). mid ++ x) (sym (both_kept keeps (body_locations of functions now f to) rest)) ∙ h.located;
      ranged = ap (λ (k : Indices). last ++ bodies_ranges of functions k upto left) numbers
          ∙ ap (λ (n : ℕ). last ++ bodies_ranges of functions (body_numbers of functions now f) n left) size
          ∙ ap (λ (x : List (ℕ × Range ℕ)). x ++ others) r
          ∙ append_assoc after (body_ranges of functions now f to) others ∙ h.ranged;
    }
      where
        rest : List (ℕ × ℕ)
        rest = bodies_locations of functions (body_numbers of functions now f) (to + length (body_due of functions now f)) left

        others : List (ℕ × Range ℕ)
        others = bodies_ranges of functions (body_numbers of functions now f) (to + length (body_due of functions now f)) left

  -- bytes of the next one were written behind the place
  pub placed_next : (keeps holds : Bool) (facts : List BodyFacts) (order : List ℕ) (k o at : ℕ) (d f : BodyFacts) (i now next : Indices) (start : ℕ) (bytes more all : List ℕ)
      (old mid new : List (ℕ × ℕ)) (first after last : List (ℕ × Range ℕ)) → k < length order → at ≡ slice_index_or order k o → at < length facts → f ≡ slice_index_or facts at d
      → PlacedBodies keeps (facts_at facts order) (facts_at facts (drop k order)) i now (length bytes - start) (length more - start) old mid first after
      → holds ≡ keeps → start ≤ length more → next ≡ body_numbers of functions now f → written all ≡ written more ++ body_due of functions now f
      → new ≡ mid ++ if_kept holds (body_locations of functions now f (length more - start)) → last ≡ after ++ body_ranges of functions now f (length more - start)
      → PlacedBodies keeps (facts_at facts order) (facts_at facts (drop (k + 1) order)) i next (length bytes - start) (length all - start) old new first last
  placed_next keeps holds facts order k o at d f i now next start bytes more all old mid new first after last lt is inside fact h same there numbers w l r =
      let size : length all - start ≡ length more - start + length (body_due of functions now f) = omega (arith, there, size_is more all (body_due of functions now f) w) in
      one_placed keeps (facts_at facts order) (facts_at facts (drop (k + 1) order)) f i now next (length bytes - start) (length more - start) (length all - start) old mid new first after last
      (subst (λ (l : List BodyFacts). PlacedBodies keeps (facts_at facts order) l i now (length bytes - start) (length more - start) old mid first after)
      (facts_next of functions facts order k o at d f lt is inside fact) h)
      numbers size (l ∙ ap (λ (b : Bool). mid ++ if_kept b (body_locations of functions now f (length more - start))) same) r

  module _ (keeps : Bool) (facts : List BodyFacts) (order : List ℕ) (k : ℕ) (i now : Indices) (from to : ℕ) (old new : List (ℕ × ℕ)) (first after : List (ℕ × Range ℕ)) (le : length order ≤ k)
      (h : PlacedBodies keeps (facts_at facts order) (facts_at facts (drop k order)) i now from to old new first after) where
    ended : PlacedBodies keeps (facts_at facts order) [] i now from to old new first after
    ended = subst (λ (l : List ℕ). PlacedBodies keeps (facts_at facts order) (facts_at facts l) i now from to old new first after) (drop_past of functions order k le) h

    pub all_located : new ≡ old ++ if_kept keeps (bodies_locations of functions i from (facts_at facts order))
    all_located = sym (append-nil new) ∙ ap (λ (l : List (ℕ × ℕ)). new ++ l) (sym (none_kept keeps)) ∙ ended.located

    pub all_ranged : after ≡ first ++ bodies_ranges of functions i from (facts_at facts order)
    all_ranged = sym (append-nil after) ∙ ended.ranged

  -- behind a count
  module _ (i : Indices) (fs : List BodyFacts) (old mid : List ℕ) (start n : ℕ) (there : start ≤ length old) (count : written mid ≡ written old ++ number n) where
    behind_count : length mid - start ≡ length old - start + length (number n)
    behind_count = omega (arith, there, size_is old mid (number n) count)

    pub counted_located : (keeps : Bool) (first after : List (ℕ × ℕ)) → after ≡ first ++ if_kept keeps (bodies_locations of functions i (length mid - start) fs)
        → after ≡ first ++ if_kept keeps (bodies_locations of functions i (length old - start + length (number n)) fs)
    counted_located keeps first after h = h ∙ ap (λ (at : ℕ). first ++ if_kept keeps (bodies_locations of functions i at fs)) behind_count

    pub counted_ranged : (first after : List (ℕ × Range ℕ)) → after ≡ first ++ bodies_ranges of functions i (length mid - start) fs
        → after ≡ first ++ bodies_ranges of functions i (length old - start + length (number n)) fs
    counted_ranged first after h = h ∙ ap (λ (at : ℕ). first ++ bodies_ranges of functions i at fs) behind_count

  -- ---- the section

  module _ (facts : List BodyFacts) (order : List ℕ) (within : AreWithin facts order) (i : Indices) (start : ℕ) (bytes : List ℕ) (at_end : start ≡ length bytes) where
    first_place : length bytes - start + length (number (length order)) ≡ length (number (length (facts_at facts order)))
    first_place = omega (arith, at_end, ap (λ (n : ℕ). length (number n)) (facts_there of functions facts order within))

    pub section_located : (keeps : Bool) (first after : List (ℕ × ℕ))
        → after ≡ first ++ if_kept keeps (bodies_locations of functions i (length bytes - start + length (number (length order))) (facts_at facts order))
        → after ≡ first ++ if_kept keeps (locations of functions i (facts_at facts order))
    section_located keeps first after h = h ∙ ap (λ (at : ℕ). first ++ if_kept keeps (bodies_locations of functions i at (facts_at facts order))) first_place

    pub section_ranged : (first after : List (ℕ × Range ℕ)) → after ≡ first ++ bodies_ranges of functions i (length bytes - start + length (number (length order))) (facts_at facts order)
        → after ≡ first ++ ranges of functions i (facts_at facts order)
    section_ranged first after h = h ∙ ap (λ (at : ℕ). first ++ bodies_ranges of functions i at (facts_at facts order)) first_place

  module _ (facts : List BodyFacts) (order : List ℕ) (i : Indices) (none : order ≡ []) where
    pub none_located : (keeps : Bool) (first : List (ℕ × ℕ)) → first ≡ first ++ if_kept keeps (locations of functions i (facts_at facts order))
    none_located keeps first =
        sym (append-nil first) ∙ ap (λ (l : List (ℕ × ℕ)). first ++ l) (sym (none_kept keeps))
        ∙ ap (λ (l : List ℕ). first ++ if_kept keeps (locations of functions i (facts_at facts l))) (sym none)

    pub none_ranged : (first : List (ℕ × Range ℕ)) → first ≡ first ++ ranges of functions i (facts_at facts order)
    none_ranged first = sym (append-nil first) ∙ ap (λ (l : List ℕ). first ++ ranges of functions i (facts_at facts l)) (sym none)

    pub none_begins : (before at : ℕ) → before ≡ code_start of functions i before at (facts_at facts order)
    none_begins before at = ap (λ (l : List ℕ). code_start of functions i before at (facts_at facts l)) (sym none)

  code_begins : (i : Indices) (before at : ℕ) (fs : List BodyFacts) → 0 < length fs → code_start of functions i before at fs ≡ behind_size (at + 1) (number (length fs) ++ bodies_due of functions i fs)
  code_begins i before at [] lt = absurd (omega (arith, lt))
  code_begins i before at (f ∷ fs) lt = refl

  pub section_begins : (facts : List BodyFacts) (order : List ℕ) (i : Indices) (before : ℕ) (old first mid : List ℕ) (start begin : ℕ) → start ≡ length first → 0 < length order → AreWithin facts order
      → written first ≡ written old ++ written (10 ∷ []) → written mid ≡ written first ++ (number (length order) ++ bodies_due of functions i (facts_at facts order))
      → begin ≡ start + length (unsigned_bytes (length (drop start mid))) → begin ≡ code_start of functions i before (length old) (facts_at facts order)
  section_begins facts order i before old first mid start begin at some within id all is =
      let fs = facts_at facts order in
      let count : length fs ≡ length order = facts_there of functions facts order within in
      let due : Due = number (length order) ++ bodies_due of functions i fs in
      let size : length (drop start mid) ≡ length due = omega (arith, length-drop start mid, size_is first mid due all, at) in
      let digits : length (unsigned_bytes (length (drop start mid))) ≡ length (number (length due)) = ap (λ (n : ℕ). length (unsigned_bytes n)) size ∙ sym (written_size (unsigned_bytes (length due))) in
      let place : begin ≡ behind_size (length old + 1) due = omega (arith, is, at, digits, size_is old first (written (10 ∷ [])) id) in
      place ∙ ap (λ (n : ℕ). behind_size (length old + 1) (number n ++ bodies_due of functions i fs)) (sym count)
      ∙ sym (code_begins i before (length old) fs (omega (arith, some, count)))

-- the contents begin behind their size, which is put in there
pub sealed_begin : (old new : List ℕ) (start : ℕ) → start ≤ length old → new ≡ take start old ++ (unsigned_bytes (length (drop start old)) ++ drop start old)
    → length new - (length old - start) ≡ start + length (unsigned_bytes (length (drop start old)))
sealed_begin old new start there turned =
    let bytes = unsigned_bytes (length (drop start old)) in
    omega (
      arith,
      there,
      ap length turned,
      length-append (take start old) (bytes ++ drop start old),
      length-append bytes (drop start old),
      length-drop start old,
      ap length (take-append-drop start old),
      length-append (take start old) (drop start old),
    )
