-- Lemmas: a group as it is read, and what it is refused for.
use Rattle.std.proofs.Common.{◌≡◌, ◌≤◌, ◌-◌, ◌∙◌, ℕ, suc, Bool, ◌+◌, List, [], ◌∷◌, length, map, zip, All, Option, Some, None, Result, Ok, Err, refl, sym, ap, subst, inl, inr, arith}
use Rattle.std.specs.Option.{option_map}
use Rattle.std.proofs.lemmas.List.{length-map}
use Rattle.std.proofs.lemmas.List.Elements.{All-nil, All-cons, All-head, All-tail}
use Rattle.std.specs.List.{filter_map, cons_option}
use Rattle.wasm_features.specs.declared.WasmFeatures.{WasmFeatures}
use Rattle.wasm_reader.specs.declared.error.Error.{Error}
use Rattle.wasm_reader.specs.Cursor.{Cursor, rest, end_of}
use Rattle.wasm_reader.specs.Reading.{Reading}
use Rattle.wasm_reader.specs.Items.{ReadsUnlessMemory}
use Rattle.wasm_types.specs.declared.subtype.SubType.{SubType}
use Rattle.wasm_types.specs.Groups.{Group}
use Rattle.wasm_types.specs.Placed.{Placed, placed_at, placed}
use Rattle.walrus_forms.specs.Records.{TypeGroup, type_group}
use Rattle.walrus_forms.specs.Kinds.{Kind}
use Rattle.walrus_forms.specs.declared.record.GroupRecord.{GroupRecord}
use Rattle.walrus_known_sections.specs.wasm_sections.wasm_grammar.wasm_formats.Stops.{Trouble, stop, Parsing, ◌>>=◌, value_at}
use Rattle.walrus_known_sections.specs.wasm_sections.wasm_grammar.wasm_formats.Parts.{inner_tested}
use Rattle.walrus_known_sections.specs.wasm_sections.wasm_grammar.States.{State, type_count}
use Rattle.walrus_known_sections.specs.wasm_sections.TypeNames.{kind_of}
use Rattle.walrus_known_sections.specs.wasm_sections.TypeSection.{GroupEntry, rectype, sub_test, members_test, group_test, at_place, members, is_explicit, type_group as read_group}
use Rattle.walrus_section_reader.specs.declared.fault.Fault.{Fault}
use Rattle.walrus_section_reader.specs.declared.fault.FaultKind.TheVariants as faults
use Rattle.walrus_section_reader.specs.Faults.{read_fault, trouble_of}
use Rattle.walrus_section_reader.specs.Parses.{Parses}
use Rattle.walrus_section_reader.specs.Repeats.{same_end}
use Rattle.walrus_section_reader.specs.Steps.{put_in}
use Rattle.walrus_type_readers.specs.Placings.{rectype_is, left_in}
use Rattle.walrus_type_readers.specs.Groups.{parse_placed, parse_group, kind_in, told, told_group, offset_test, offset_members, TellsGroup}

module _ (features : WasmFeatures) (old new : Cursor) where
  pub placed_ok : (g : Group) → ReadsUnlessMemory (placed_at features) (placed (end_of old)) old new (Ok g) → Parses (parse_placed features) (placed (end_of old)) old new (Ok g)
  placed_ok g h = record { value = rectype_is features (rest old) ∙ ap (λ (r : Reading Placed). value_at r) h.value; place = tt; moves = h.moves }

  pub placed_err : (result : Result Group Fault) (d : Fault) (e : Error) → result ≡ Err d → d ≡ read_fault e → ReadsUnlessMemory (placed_at features) (placed (end_of old)) old new (Err e)
      → Parses (parse_placed features) (placed (end_of old)) old new result
  placed_err result d e is from h = rw (is, from) (record {
    value = elim h.value [
      | inl stops ↦ inl (rectype_is features (rest old) ∙ ap (λ (r : Reading Placed). value_at r) stops)
      | inr wants ↦ inr (ap faults.Read wants.kind)
    ];
    place = h.place;
    moves = h.moves;
  })

-- ---- places in other words

abbrev moved_test : (ℕ → ℕ) → Option (ℕ × Trouble) → Option (ℕ × Trouble)
moved_test h o = option_map (λ t. (h t.0, t.1)) o

abbrev moved_member : (ℕ → ℕ) → ℕ × SubType → ℕ × SubType
moved_member h m = (h m.0, m.1)

one_moves : (h : ℕ → ℕ) (place : ℕ) (o : Option Trouble) (there here : Option (ℕ × Trouble)) → there ≡ moved_test h here → at_place (h place) o there ≡ moved_test h (at_place place o here)
one_moves h place None there here later = later
one_moves h place (Some t) there here later = refl

tests_move : (h : ℕ → ℕ) (end n : ℕ) (ms : List (ℕ × SubType)) → members_test end n (map (moved_member h) ms) ≡ moved_test h (members_test end n ms)
tests_move h end n [] = refl
tests_move h end n (m ∷ ms) = one_moves h m.0 (sub_test end n m.1) _ _ (tests_move h end (suc n) ms)

kinds_move : (h : ℕ → ℕ) (ms : List (ℕ × SubType)) → filter_map kind_in (map (moved_member h) ms) ≡ filter_map kind_in ms
kinds_move h [] = refl
kinds_move h (m ∷ ms) = ap (λ (ks : List Kind). cons_option (kind_of m.1) ks) (kinds_move h ms)

-- ---- a group that was read, and what is tested of it

abbrev tested_by : Option (ℕ × Trouble) → TypeGroup → List ℕ → Parsing TypeGroup
tested_by None g later = Ok (g, later)
tested_by (Some t) g later = Err (stop t.1 t.0)

abbrev placed_kinds : Placed → TypeGroup
placed_kinds p = record { marked = p.explicit; kinds = filter_map kind_in p.members }

abbrev tested_group : ℕ → Placed × List ℕ → Parsing TypeGroup
tested_group types p = tested_by (members_test (types + length p.0.members) types p.0.members) (placed_kinds p.0) p.1

-- where places are moved by h
moved_group : (h : ℕ → ℕ) (types : ℕ) (marked : Bool) (ms : List (ℕ × SubType)) (later : List ℕ)
    → tested_group types (record { explicit = marked; members = map (moved_member h) ms }, later)
    ≡ tested_by (moved_test h (members_test (types + length ms) types ms)) (record { marked = marked; kinds = filter_map kind_in ms }) later
moved_group h types marked ms later = rw (length-map ms (moved_member h), tests_move h (types + length ms) types ms, kinds_move h ms) refl

module _ (features : WasmFeatures) (s : State) where
  pub group_is : (bytes : List ℕ) → parse_group features s bytes ≡ (parse_placed features bytes >>= tested_group (type_count s))
  group_is bytes = go ((rectype features).parse bytes)
    where
      by_test : (x : GroupEntry × List ℕ) (o : Option (ℕ × Trouble)) → (inner_tested o (length bytes) x >>= put_in read_group) ≡ tested_by (moved_test (λ n. length bytes - n) o) (read_group x.0) x.1
      by_test x None = refl
      by_test x (Some t) = refl

      go : (r : Parsing GroupEntry) → ((r >>= λ x. inner_tested (group_test (type_count s) x.0) (length bytes) x) >>= put_in read_group) ≡ ((r >>= put_in (left_in (length bytes))) >>= tested_group (type_count s))
      go (Ok x) = by_test x (group_test (type_count s) x.0) ∙ sym (moved_group (λ n. length bytes - n) (type_count s) (is_explicit x.0) (members x.0) x.1)
      go (Err e) = refl

-- ---- a fault that was found is a member's

one_below : (most place : ℕ) (e : Fault) (o : Option Trouble) (later : Option (ℕ × Trouble)) → place ≤ most → (later ≡ told e → e.offset ≤ most) → at_place place o later ≡ told e → e.offset ≤ most
one_below most place e None later le behind found = behind found
one_below most place e (Some t) later le behind found = subst (λ (k : ℕ). k ≤ most) (ap (λ (p : ℕ × Trouble). p.0) (pair_is (place, t) (e.offset, trouble_of e.kind) found)) le
  where
    pair_is : (p q : ℕ × Trouble) → Some p ≡ Some q → p ≡ q
    pair_is p q same = cc

found_below : (most end n : ℕ) (ms : List (ℕ × SubType)) (e : Fault) → All (λ m. m.0 ≤ most) ms → members_test end n ms ≡ told e → e.offset ≤ most
found_below most end n [] e below found = absurd cc
found_below most end n (m ∷ ms) e below found = one_below most m.0 e (sub_test end n m.1) _ (All-head (λ m. m.0 ≤ most) m ms below) (found_below most end (suc n) ms e (All-tail (λ m. m.0 ≤ most) m ms below)) found

zip_below : (most : ℕ) (offsets : List ℕ) (types : List SubType) → All (λ n. n ≤ most) offsets → All (λ m. m.0 ≤ most) (zip offsets types)
zip_below most [] types below = All-nil (λ m. m.0 ≤ most)
zip_below most (n ∷ offsets) [] below = All-nil (λ m. m.0 ≤ most)
zip_below most (n ∷ offsets) (ty ∷ types) below = All-cons (λ m. m.0 ≤ most) (n, ty) (zip offsets types) (All-head (λ n. n ≤ most) n offsets below) (zip_below most offsets types (All-tail (λ n. n ≤ most) n offsets below))

module _ (features : WasmFeatures) (s : State) (types : ℕ) (count : types ≡ type_count s) (old new : Cursor) (g : Group)
    (read : Parses (parse_placed features) (placed (end_of old)) old new (Ok g)) where
  group_parsed : parse_group features s (rest old) ≡ tested_by (moved_test (λ n. end_of old - n) (offset_test types g)) (told_group g) (rest new)
  group_parsed = rw count (group_is features s (rest old) ∙ ap (λ (r : Parsing Placed). r >>= tested_group (type_count s)) read.value
      ∙ moved_group (λ n. end_of old - n) (type_count s) g.explicit (offset_members g) (rest new))

  pub group_told : (result : Result GroupRecord Fault) → All (λ n. n ≤ end_of old) g.offsets → TellsGroup types g result → Parses (parse_group features s) type_group old new result
  group_told (Ok r) below h = record { value = group_parsed ∙ rw (h.0, h.1) refl; place = tt; moves = read.moves }
  group_told (Err e) below (inl found) = let ends = same_end old new read.moves in record {
    value = inl (group_parsed ∙ rw (found, ends) refl);
    place = subst (λ (k : ℕ). e.offset ≤ k) ends (found_below (end_of old) (types + length (offset_members g)) types (offset_members g) e (zip_below (end_of old) g.offsets g.types below) found);
    moves = read.moves;
  }
  group_told (Err e) below (inr memory) = record { value = inr (ap (λ (e : Fault). e.kind) memory); place = rw memory (omega arith); moves = read.moves }
