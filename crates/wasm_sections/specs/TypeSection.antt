-- Groups of types (Core Specification, binary format: recursive types; type section).
use Rattle.std.specs.Prelude.{ℕ, suc, ◌+◌, ◌≤◌, ◌≡◌, nat_lt, nat_le, Bool, true, false, List, [], ◌∷◌, ◌++◌, length, Option, Some, None, Err, ◌⊎◌, not, refl}
use Rattle.std.specs.List.{list_any, filter_map}
use Rattle.std.proofs.Common.{ap, sym, subst, arith, inl, inr}
use Rattle.std.proofs.lemmas.List.{length-append}
use Rattle.wasm_features.specs.declared.WasmFeatures.{WasmFeatures}
use Rattle.wasm_features.specs.Features.{GcTypes, enables, constant, features_of}
use Rattle.wasm_types.specs.wasm_composite_types.wasm_reader.declared.error.ErrorKind.TheVariants as kinds
use Rattle.wasm_types.specs.wasm_composite_types.Readings.{composite_after, form_after}
use Rattle.wasm_types.specs.declared.subtype.SubType.{SubType}
use Rattle.wasm_types.specs.Readings.{sub_at, sub_after}
use Rattle.wasm_types.specs.Spellings.{SpellsSub}
use Rattle.wasm_types.specs.TypesTaken.{sub_taken}
use Rattle.wasm_types.specs.Finals.{sub_final}
use Rattle.wasm_grammar.specs.walrus_forms.Kinds.{Kind}
use Rattle.wasm_grammar.specs.walrus_forms.Records.{TypeGroup}
use Rattle.wasm_grammar.specs.wasm_formats.declared.fault.Space.TheVariants as spaces
use Rattle.wasm_grammar.specs.wasm_formats.declared.fault.Form.TheVariants as unsupported
use Rattle.wasm_grammar.specs.wasm_formats.declared.fault.Limited.TheVariants as limits
use Rattle.wasm_grammar.specs.wasm_formats.Stops.{Trouble, Read, Index, Unsupported, Limit, Stop, stop, can_end}
use Rattle.wasm_grammar.specs.wasm_formats.Formats.{Format, leaf, refused_is}
use Rattle.wasm_grammar.specs.wasm_formats.Bytes.{either, either_type}
use Rattle.wasm_grammar.specs.wasm_formats.Joined.{checked, after, built, ends_at}
use Rattle.wasm_grammar.specs.wasm_formats.Parts.{inner_checked}
use Rattle.wasm_grammar.specs.wasm_formats.Wholes.{u32}
use Rattle.wasm_grammar.specs.wasm_formats.Lists.{listed, SpellsEntries}
use Rattle.wasm_grammar.specs.wasm_formats.Led.{led}
use Rattle.wasm_file_formats.specs.Barred.{barred}
use Rattle.wasm_grammar.specs.Values.{must, first_of}
use Rattle.wasm_grammar.specs.States.{State, type_count}
use Rattle.wasm_sections.specs.TypeNames.{sub_names, kind_of}

-- ---- subtypes, as the definitions of types have them

abbrev pub sub : WasmFeatures → Format SubType
sub features = leaf (sub_at features) (SpellsSub features) (sub_taken features) (sub_final features)

-- a subtype that begins at this place of its group, and the place behind it
abbrev pub Measured : Type 0
Measured = ℕ × SubType

abbrev pub measured : WasmFeatures → ℕ → Format Measured
measured features place = ends_at place (sub features)

abbrev pub behind : ℕ → Measured → ℕ
behind place x = x.0

-- a group's count, with the place behind it: at most 1,000,000
abbrev pub member_count : Format (ℕ × ℕ)
member_count = ends_at 1 (checked u32 (λ n. must (nat_le n 1000000) (Read kinds.Limit)))

-- behind 4e: a vec of subtypes
abbrev pub Explicit : Type 0
Explicit = (ℕ × ℕ) × List Measured

abbrev pub explicit : WasmFeatures → Format Explicit
explicit features = after member_count (λ count. listed behind (measured features) count.1 count.0)

-- a group that is written as one, or a subtype alone
abbrev pub GroupEntry : Type 0
GroupEntry = Explicit ⊎ Measured

-- no subtype begins with 4e, and none is spelled by no bytes
pub sub_apart : (features : WasmFeatures) (place : ℕ) (later : List ℕ) (x : Measured) → (measured features place).spells (0x4e ∷ later) x → ⊥
unfolding sub_at sub_after composite_after form_after
sub_apart features place later x h = let e = (sub_taken features).again (0x4e ∷ later) [] x.1 h.0 in absurd cc

pub sub_some : (features : WasmFeatures) (place : ℕ) (x : Measured) → (measured features place).spells [] x → ⊥
unfolding sub_at
sub_some features place x h = let e = (sub_taken features).again [] [] x.1 h.0 in absurd cc

pub sub_wants : (features : WasmFeatures) (place : ℕ) (s : Stop) → (measured features place).parse [] ≡ Err s → can_end s.trouble ≡ true
unfolding sub_at
sub_wants features place s e = subst (λ (s : Stop). can_end s.trouble ≡ true) (refused_is {A = Measured × List ℕ} (stop (Read (kinds.EndOfFile 1)) 0) s e) refl

pub single_once : (x y : Measured) → (let into : Measured → GroupEntry = λ z. inr z in into x ≡ into y) → x ≡ y
single_once x y e = cc

-- a subtype alone
abbrev pub single : WasmFeatures → Format GroupEntry
single features = built (measured features 0) (λ x. inr x) single_once

pub single_apart : (features : WasmFeatures) (later : List ℕ) (x : GroupEntry) → (single features).spells (0x4e ∷ later) x → ⊥
single_apart features later x h = sub_apart features 0 later h.0 h.2

pub single_some : (features : WasmFeatures) (x : GroupEntry) → (single features).spells [] x → ⊥
single_some features x h = sub_some features 0 h.0 h.2

pub single_wants : (features : WasmFeatures) (s : Stop) → (single features).parse [] ≡ Err s → can_end s.trouble ≡ true
unfolding sub_at
single_wants features s e = subst (λ (s : Stop). can_end s.trouble ≡ true) (refused_is {A = GroupEntry × List ℕ} (stop (Read (kinds.EndOfFile 1)) 0) s e) refl

-- rectype: 4e and a vec of subtypes, or a subtype alone; without the types of garbage collection 4e is refused
abbrev pub rectype : WasmFeatures → Format GroupEntry
rectype features =
    either (enables features GcTypes)
    (led 0x4e (explicit features) (measured features 0) (sub_apart features 0) (sub_some features 0) (sub_wants features 0))
    (barred 0x4e (Read (kinds.Feature (features_of (constant GcTypes)))) (single features) (single_apart features) (single_some features) (single_wants features))

-- ---- what is tested once a group was read, member by member, at each one's first byte

-- each member's first place, and itself
abbrev pub placed : ℕ → List Measured → List Measured
placed place [] = []
placed place (x ∷ xs) = (place, x.1) ∷ placed x.0 xs

abbrev pub members : GroupEntry → List Measured
members (inl g) = placed g.0.0 g.1
members (inr x) = (0, x.1) ∷ []

abbrev pub is_told : Option Kind → Bool
is_told None = false
is_told (Some kind) = true

-- the types that the n-th type names are below its group's end; it isn't shared; there is room for it
abbrev pub sub_test : ℕ → ℕ → SubType → Option Trouble
sub_test end n ty =
    first_of (must (not (list_any (λ name. nat_le end name) (sub_names ty))) (Index spaces.Type))
    (first_of (must (is_told (kind_of ty)) (Unsupported unsupported.SharedType)) (must (nat_lt n 1000000) (Limit limits.Types)))

abbrev pub at_place : ℕ → Option Trouble → Option (ℕ × Trouble) → Option (ℕ × Trouble)
at_place place None later = later
at_place place (Some trouble) later = Some (place, trouble)

abbrev pub members_test : ℕ → ℕ → List Measured → Option (ℕ × Trouble)
members_test end n [] = None
members_test end n (x ∷ xs) = at_place x.0 (sub_test end n x.1) (members_test end (suc n) xs)

abbrev pub group_test : ℕ → GroupEntry → Option (ℕ × Trouble)
group_test types g = members_test (types + length (members g)) types (members g)

-- the trouble that was found stands at a member or behind it
pub at_one : (place most : ℕ) (o : Option Trouble) (later : Option (ℕ × Trouble)) (t : ℕ × Trouble) → place ≤ most → ((u : ℕ × Trouble) → later ≡ Some u → u.0 ≤ most)
    → at_place place o later ≡ Some t → t.0 ≤ most
at_one place most None later t le h e = h t e
at_one place most (Some trouble) later t le h e = subst (λ (u : ℕ × Trouble). u.0 ≤ most) (some_is (place, trouble) t e) le
  where
    some_is : (x y : ℕ × Trouble) → Some x ≡ Some y → x ≡ y
    some_is x y e = cc

pub none_found : {P : Type 0} (t : ℕ × Trouble) → (let none : Option (ℕ × Trouble) = None in none ≡ Some t) → P
none_found t e = absurd cc

pub listed_inside : (features : WasmFeatures) (end n place most : ℕ) (xs : List Measured) (bytes : List ℕ) (t : ℕ × Trouble) → SpellsEntries behind (measured features) place bytes xs
    → place + length bytes ≤ most → members_test end n (placed place xs) ≡ Some t → t.0 ≤ most
listed_inside features end n place most [] bytes t h le e = none_found t e
listed_inside features end n place most (x ∷ xs) bytes t h le e =
    let size : x.0 ≡ place + length h.0 = h.3.1 in
    let sum : length bytes ≡ length h.0 + length h.1 = subst (λ (l : List ℕ). length l ≡ length h.0 + length h.1) (sym h.2) (length-append h.0 h.1) in
    at_one place most (sub_test end n x.1) (members_test end (suc n) (placed x.0 xs)) t (omega (arith, le))
    (λ u v. listed_inside features end (suc n) x.0 most xs h.1 u h.4 (omega (arith, le, size, sum)) v) e

pub explicit_inside : (features : WasmFeatures) (end n : ℕ) (g : Explicit) (bytes : List ℕ) (t : ℕ × Trouble) → (explicit features).spells bytes g
    → members_test end n (placed g.0.0 g.1) ≡ Some t → t.0 ≤ suc (length bytes)
explicit_inside features end n g bytes t h e =
    let start : g.0.0 ≡ 1 + length h.0 = h.3.1 in
    let sum : length bytes ≡ length h.0 + length h.1 = subst (λ (l : List ℕ). length l ≡ length h.0 + length h.1) (sym h.2) (length-append h.0 h.1) in
    listed_inside features end n g.0.0 (suc (length bytes)) g.1 h.1 t h.4.0 (omega (arith, start, sum)) e

pub single_inside : (end n : ℕ) (x : Measured) (bytes : List ℕ) (t : ℕ × Trouble) → members_test end n ((0, x.1) ∷ []) ≡ Some t → t.0 ≤ length bytes
single_inside end n x bytes t e = at_one 0 (length bytes) (sub_test end n x.1) None t (omega arith) (λ u v. none_found u v) e

pub group_inside : (features : WasmFeatures) (types : ℕ) (bytes : List ℕ) (g : GroupEntry) (t : ℕ × Trouble) → (rectype features).spells bytes g → group_test types g ≡ Some t → t.0 ≤ length bytes
group_inside features types bytes g t h e = go (enables features GcTypes) g h e
  where
    by_led : (g : GroupEntry) → (led 0x4e (explicit features) (measured features 0) (sub_apart features 0) (sub_some features 0) (sub_wants features 0)).spells bytes g → group_test types g ≡ Some t → t.0 ≤ length bytes
    by_led (inl x) h e = let size : length bytes ≡ suc (length h.0) = ap length h.1 in
        subst (λ (n : ℕ). t.0 ≤ n) (sym size) (explicit_inside features (types + length (members (inl x))) types x h.0 t h.2 e)
    by_led (inr x) h e = single_inside (types + 1) types x bytes t e

    by_single : (g : GroupEntry) → group_test types g ≡ Some t → (x : Measured) → (let into : Measured → GroupEntry = λ z. inr z in into x ≡ g) → t.0 ≤ length bytes
    by_single g e x is = single_inside (types + 1) types x bytes t (subst (λ (g : GroupEntry). group_test types g ≡ Some t) (sym is) e)

    go : (on : Bool) (g : GroupEntry) → either_type on ((led 0x4e (explicit features) (measured features 0) (sub_apart features 0) (sub_some features 0) (sub_wants features 0)).spells bytes g)
        ((single features).spells bytes g) → group_test types g ≡ Some t → t.0 ≤ length bytes
    go true g h e = by_led g h e
    go false g h e = by_single g e h.0 h.1

-- a group, at this point of the file
abbrev pub group : WasmFeatures → State → Format GroupEntry
group features s = inner_checked (rectype features) (group_test (type_count s)) (group_inside features (type_count s))

-- ---- what the state is behind it

abbrev pub is_explicit : GroupEntry → Bool
is_explicit (inl g) = true
is_explicit (inr x) = false

abbrev pub type_group : GroupEntry → TypeGroup
type_group g = record { marked = is_explicit g; kinds = filter_map (λ (x : Measured). kind_of x.1) (members g) }

abbrev pub add_group : State → GroupEntry → State
add_group s g = record s { filled = record s.filled { groups = s.filled.groups ++ type_group g ∷ [] } }
