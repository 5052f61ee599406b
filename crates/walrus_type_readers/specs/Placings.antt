-- Lemmas: a group is parsed as the reader below reads it, each member at its first byte.
use Rattle.std.specs.Prelude.{ℕ, zero, suc, ◌+◌, ◌-◌, ◌==◌, ◌≡◌, nat_le, Bool, true, false, List, [], ◌∷◌, length, map, Ok, Err, if◌then◌else◌, refl}
use Rattle.std.proofs.Common.{ap, sym, subst, ◌∙◌, arith, inl, inr}
use Rattle.wasm_features.specs.declared.WasmFeatures.{WasmFeatures}
use Rattle.wasm_features.specs.Features.{GcTypes, enables, constant, features_of}
use Rattle.wasm_reader.specs.declared.error.ErrorKind.TheVariants as kinds
use Rattle.wasm_reader.specs.Reading.{Reading, fault, ◌>>=◌ as ◌>>>◌}
use Rattle.wasm_reader.specs.Items.{items_at, vec_at}
use Rattle.wasm_reader.specs.Numbers.{unsigned_at}
use Rattle.wasm_reader.specs.Text.{size_at}
use Rattle.wasm_types.specs.declared.subtype.SubType.{SubType}
use Rattle.wasm_types.specs.Readings.{sub_at, sub_after}
use Rattle.wasm_types.specs.Placed.{Placed, placed_sub_at, placed_after, placed_at}
use Rattle.walrus_known_sections.specs.wasm_sections.wasm_grammar.wasm_formats.Stops.{Trouble, Read, Parsing, ◌>>=◌, value_at}
use Rattle.walrus_known_sections.specs.wasm_sections.wasm_grammar.wasm_formats.Formats.{Format, Inside}
use Rattle.walrus_known_sections.specs.wasm_sections.wasm_grammar.wasm_formats.Joined.{checked, tested}
use Rattle.walrus_known_sections.specs.wasm_sections.wasm_grammar.wasm_formats.Lists.{parse_entries}
use Rattle.walrus_known_sections.specs.wasm_sections.wasm_grammar.wasm_formats.Wholes.{u32}
use Rattle.walrus_known_sections.specs.wasm_sections.wasm_grammar.wasm_formats.Led.{led}
use Rattle.walrus_known_sections.specs.wasm_sections.wasm_grammar.wasm_formats.Bytes.{either}
use Rattle.walrus_known_sections.specs.wasm_sections.wasm_file_formats.Barred.{barred}
use Rattle.walrus_known_sections.specs.wasm_sections.wasm_grammar.Values.{must}
use Rattle.walrus_known_sections.specs.wasm_sections.TypeSection.{sub, Measured, measured, behind, Explicit, explicit, GroupEntry, rectype, single, sub_apart, sub_some, sub_wants, single_apart, single_some, single_wants, placed, members, is_explicit}
use Rattle.walrus_section_reader.specs.Steps.{put_in}

-- a member by the number of bytes that are left at its first byte
abbrev pub at_left : ℕ → Measured → ℕ × SubType
at_left whole m = (whole - m.0, m.1)

abbrev pub left_in : ℕ → GroupEntry → Placed
left_in whole g = record { explicit = is_explicit g; members = map (at_left whole) (members g) }

-- ---- one reading behind another

value_then : {A B : Type 0} (r : Reading A) (k : A × List ℕ → Reading B) → value_at (r >>> k) ≡ (value_at r >>= λ x. value_at (k x))
value_then (Ok x) k = refl
value_then (Err e) k = refl

-- a value before what is listed behind it, on both sides
one_before : {A B : Type 0} (a : A) (b : B) (over under : List A → List B) (p : Parsing (List A)) (r : Reading (List B)) → ((xs : List A) → over (a ∷ xs) ≡ b ∷ under xs)
    → (p >>= put_in under) ≡ value_at r → ((p >>= λ xs. Ok (a ∷ xs.0, xs.1)) >>= put_in over) ≡ value_at (r >>> λ ys. Ok (b ∷ ys.0, ys.1))
one_before {A} {B} a b over under p r first same = turned p ∙ ap (λ (z : Parsing (List B)). z >>= put_in (λ ys. b ∷ ys)) same ∙ sym (value_then r (λ ys. Ok (b ∷ ys.0, ys.1)))
  where
    turned : (p : Parsing (List A)) → ((p >>= λ xs. Ok (a ∷ xs.0, xs.1)) >>= put_in over) ≡ ((p >>= put_in under) >>= put_in (λ ys. b ∷ ys))
    turned (Ok xs) = rw (first xs.0) refl
    turned (Err e) = refl

-- ---- members

module _ (features : WasmFeatures) (whole : ℕ) where
  abbrev left_of : ℕ → List Measured → List (ℕ × SubType)
  left_of place xs = map (at_left whole) (placed place xs)

  abbrev MembersAre : ℕ → Type 0
  MembersAre count = (place : ℕ) (bytes : List ℕ) → place + length bytes ≡ whole
      → (parse_entries behind (measured features) count place bytes >>= put_in (left_of place)) ≡ value_at (items_at (placed_sub_at features) count bytes)

  abbrev next_read : ℕ → List ℕ → SubType × List ℕ → Reading (List (ℕ × SubType))
  next_read count bytes x = items_at (placed_sub_at features) count x.1 >>> λ ys. Ok ((length bytes, x.0) ∷ ys.0, ys.1)

  abbrev end_of : ℕ → List ℕ → SubType × List ℕ → ℕ
  end_of place bytes x = place + (length bytes - length x.1)

  abbrev next_parsed : ℕ → ℕ → List ℕ → SubType × List ℕ → Parsing (List Measured)
  next_parsed count place bytes x = parse_entries behind (measured features) count (end_of place bytes x) x.1 >>= λ xs. Ok ((end_of place bytes x, x.0) ∷ xs.0, xs.1)

  first_left : (place : ℕ) (bytes : List ℕ) (x : Measured) (xs : List Measured) → place + length bytes ≡ whole → left_of place (x ∷ xs) ≡ (length bytes, x.1) ∷ left_of x.0 xs
  first_left place bytes x xs start = let left : whole - place ≡ length bytes = omega (arith, start) in rw left refl

  one_is : (count place : ℕ) (bytes : List ℕ) → MembersAre count → place + length bytes ≡ whole → (r : Reading SubType) → Inside (length bytes) (value_at r)
      → ((value_at r >>= next_parsed count place bytes) >>= put_in (left_of place)) ≡ value_at (r >>> next_read count bytes)
  one_is count place bytes later start (Ok x) inside =
      let end = end_of place bytes x in
      one_before (end, x.0) (length bytes, x.0) (left_of place) (left_of end) (parse_entries behind (measured features) count end x.1) (items_at (placed_sub_at features) count x.1)
      (λ xs. first_left place bytes (end, x.0) xs start) (later end x.1 (omega (arith, start, inside)))
  one_is count place bytes later start (Err e) inside = refl

  abbrev with_end : ℕ → List ℕ → SubType × List ℕ → Parsing Measured
  with_end place bytes x = Ok ((end_of place bytes x, x.0), x.1)

  abbrev with_left : List ℕ → SubType × List ℕ → Reading (ℕ × SubType)
  with_left bytes x = Ok ((length bytes, x.0), x.1)

  -- a measured member, and those behind it
  measured_is : (count place : ℕ) (bytes : List ℕ) (r : Parsing SubType)
      → ((r >>= with_end place bytes) >>= λ x. parse_entries behind (measured features) count x.0.0 x.1 >>= λ xs. Ok (x.0 ∷ xs.0, xs.1)) ≡ (r >>= next_parsed count place bytes)
  measured_is count place bytes (Ok x) = refl
  measured_is count place bytes (Err e) = refl

  placed_is : (count : ℕ) (bytes : List ℕ) (r : Reading SubType)
      → ((r >>> with_left bytes) >>> λ first. items_at (placed_sub_at features) count first.1 >>> λ ys. Ok (first.0 ∷ ys.0, ys.1)) ≡ (r >>> next_read count bytes)
  placed_is count bytes (Ok x) = refl
  placed_is count bytes (Err e) = refl

  members_are : (count : ℕ) → MembersAre count
  unfolding items_at placed_sub_at
  members_are zero place bytes start = refl
  members_are (suc count) place bytes start =
      ap (λ (z : Parsing (List Measured)). z >>= put_in (left_of place)) (measured_is count place bytes ((sub features).parse bytes))
      ∙ one_is count place bytes (members_are count) start (sub_at features bytes) ((sub features).within bytes)
      ∙ ap (λ (z : Reading (List (ℕ × SubType))). value_at z) (sym (placed_is count bytes (sub_at features bytes)))

-- ---- groups

abbrev counted : Format ℕ
counted = checked u32 (λ n. must (nat_le n 1000000) (Read kinds.Limit))

count_is : (bytes : List ℕ) → counted.parse bytes ≡ value_at (size_at 1000000 bytes)
unfolding size_at
count_is bytes = go (unsigned_at 32 bytes)
  where
    tested_is : (x : ℕ × List ℕ) (small : Bool) → tested (must small (Read kinds.Limit)) (length bytes) x ≡ value_at (if small then Ok x else Err (fault kinds.Limit (length bytes)))
    tested_is x true = refl
    tested_is x false = refl

    go : (r : Reading ℕ) → (value_at r >>= λ x. tested (must (nat_le x.0 1000000) (Read kinds.Limit)) (length bytes) x)
        ≡ value_at (r >>> λ x. if nat_le x.0 1000000 then Ok x else Err (fault kinds.Limit (length bytes)))
    go (Ok x) = tested_is x (nat_le x.0 1000000)
    go (Err e) = refl

abbrev as_explicit : List (ℕ × SubType) → Placed
as_explicit xs = record { explicit = true; members = xs }

abbrev as_single : ℕ → SubType → Placed
as_single left ty = record { explicit = false; members = (left, ty) ∷ [] }

module _ (features : WasmFeatures) (bytes : List ℕ) where
  abbrev count_end : ℕ × List ℕ → ℕ
  count_end n = 1 + (length bytes - length n.1)

  abbrev with_count : ℕ × List ℕ → Parsing (ℕ × ℕ)
  with_count n = Ok ((count_end n, n.0), n.1)

  abbrev with_list : ℕ × ℕ → List Measured × List ℕ → Parsing Explicit
  with_list c xs = Ok ((c, xs.0), xs.1)

  abbrev with_listed : (ℕ × ℕ) × List ℕ → Parsing Explicit
  with_listed c = parse_entries behind (measured features) c.0.1 c.0.0 c.1 >>= with_list c.0

  abbrev led_first : Explicit × List ℕ → Parsing GroupEntry
  led_first x = Ok (inl x.0, x.1)

  abbrev with_members : ℕ × List ℕ → List Measured × List ℕ → Parsing GroupEntry
  with_members n xs = Ok (inl ((count_end n, n.0), xs.0), xs.1)

  abbrev counted_members : ℕ × List ℕ → Parsing GroupEntry
  counted_members n = parse_entries behind (measured features) n.0 (count_end n) n.1 >>= with_members n

  explicit_read : (r : Reading ℕ) → Inside (length bytes) (value_at r)
      → ((value_at r >>= counted_members) >>= put_in (left_in (suc (length bytes)))) ≡ value_at ((r >>> λ n. items_at (placed_sub_at features) n.0 n.1) >>> λ x. Ok (as_explicit x.0, x.1))
  explicit_read (Ok n) inside =
      gathered (parse_entries behind (measured features) n.0 (count_end n) n.1)
      ∙ ap (λ (z : Parsing (List (ℕ × SubType))). z >>= put_in as_explicit) (members_are features (suc (length bytes)) n.0 (count_end n) n.1 (omega (arith, inside)))
      ∙ sym (value_then (items_at (placed_sub_at features) n.0 n.1) (λ x. Ok (as_explicit x.0, x.1)))
    where
      gathered : (p : Parsing (List Measured)) → ((p >>= with_members n) >>= put_in (left_in (suc (length bytes)))) ≡ ((p >>= put_in (left_of features (suc (length bytes)) (count_end n))) >>= put_in as_explicit)
      gathered (Ok xs) = refl
      gathered (Err e) = refl
  explicit_read (Err e) inside = refl

  explicit_parts : (r : Parsing ℕ) → (((r >>= with_count) >>= with_listed) >>= led_first) ≡ (r >>= counted_members)
  explicit_parts (Ok n) = go (parse_entries behind (measured features) n.0 (count_end n) n.1)
    where
      go : (p : Parsing (List Measured)) → ((p >>= with_list (count_end n, n.0)) >>= led_first) ≡ (p >>= with_members n)
      go (Ok xs) = refl
      go (Err e) = refl
  explicit_parts (Err e) = refl

  -- behind 4e
  explicit_is : (((explicit features).parse bytes >>= led_first) >>= put_in (left_in (suc (length bytes)))) ≡ value_at (vec_at 1000000 (placed_sub_at features) bytes >>> λ x. Ok (as_explicit x.0, x.1))
  unfolding vec_at
  explicit_is =
      ap (λ (z : Parsing GroupEntry). z >>= put_in (left_in (suc (length bytes)))) (explicit_parts (counted.parse bytes))
      ∙ ap (λ (z : Parsing ℕ). (z >>= counted_members) >>= put_in (left_in (suc (length bytes)))) (count_is bytes)
      ∙ explicit_read (size_at 1000000 bytes) (subst (Inside (length bytes)) (count_is bytes) (counted.within bytes))

-- a subtype alone
abbrev other_first : Measured × List ℕ → Parsing GroupEntry
other_first y = Ok (inr y.0, y.1)

single_is : (features : WasmFeatures) (bytes : List ℕ) (r : Reading SubType)
    → (((value_at r >>= with_end features 0 0 bytes) >>= other_first) >>= put_in (left_in (length bytes))) ≡ value_at (r >>> λ x. Ok (as_single (length bytes) x.0, x.1))
single_is features bytes (Ok x) = let all : length bytes - 0 ≡ length bytes = omega arith in rw all refl
single_is features bytes (Err e) = refl

if_led : {A B : Type 0} (test : Bool) (f g : Parsing A) (p q : Reading B) (into : A → B) → (f >>= put_in into) ≡ value_at p → (g >>= put_in into) ≡ value_at q
    → ((if test then f else g) >>= put_in into) ≡ value_at (if test then p else q)
if_led true f g p q into one other = one
if_led false f g p q into one other = other

module _ (features : WasmFeatures) where
  abbrev gc_fault : Trouble
  gc_fault = Read (kinds.Feature (features_of (constant GcTypes)))

  abbrev entry_by : Bool → List ℕ → Parsing GroupEntry
  entry_by on bytes =
      (either on (led 0x4e (explicit features) (measured features 0) (sub_apart features 0) (sub_some features 0) (sub_wants features 0))
      (barred 0x4e gc_fault (single features) (single_apart features) (single_some features) (single_wants features))).parse bytes

  abbrev placed_by : Bool → ℕ → List ℕ → Reading Placed
  placed_by on b bytes =
      if b == 0x4e then (if on then (vec_at 1000000 (placed_sub_at features) bytes >>> λ x. Ok (as_explicit x.0, x.1)) else Err (fault (kinds.Feature (features_of (constant GcTypes))) (length (b ∷ bytes))))
      else (sub_after features b (length (b ∷ bytes)) bytes >>> λ x. Ok (as_single (length (b ∷ bytes)) x.0, x.1))

  by_byte : (on : Bool) (b : ℕ) (bytes : List ℕ) → (entry_by on (b ∷ bytes) >>= put_in (left_in (length (b ∷ bytes)))) ≡ value_at (placed_by on b bytes)
  unfolding sub_at
  by_byte true b bytes = if_led (b == 0x4e) _ _ _ _ (left_in (length (b ∷ bytes))) (explicit_is features bytes) (single_is features (b ∷ bytes) (sub_after features b (length (b ∷ bytes)) bytes))
  by_byte false b bytes = if_led (b == 0x4e) _ _ _ _ (left_in (length (b ∷ bytes))) refl (single_is features (b ∷ bytes) (sub_after features b (length (b ∷ bytes)) bytes))

  by_none : (on : Bool) → (entry_by on [] >>= put_in (left_in 0)) ≡ value_at (placed_at features [])
  unfolding sub_at placed_at
  by_none true = refl
  by_none false = refl

  pub rectype_is : (bytes : List ℕ) → ((rectype features).parse bytes >>= put_in (left_in (length bytes))) ≡ value_at (placed_at features bytes)
  unfolding placed_at placed_after
  rectype_is [] = by_none (enables features GcTypes)
  rectype_is (b ∷ bytes) = by_byte (enables features GcTypes) b bytes
