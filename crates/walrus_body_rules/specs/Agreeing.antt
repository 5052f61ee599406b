-- Where an environment tells of a file, what is asked of operators is what the grammar of bodies asks.
use Rattle.std.specs.Prelude.{◌≡◌, ℕ, ◌^◌, ◌&&◌, ◌||◌, nat_lt, Bool, not, List, [], ◌∷◌, Option, None, slice_index_or, refl}
use Rattle.std.specs.List.{list_any}
use Rattle.std.proofs.Common.{ap, ◌∙◌}
use Rattle.wasm_body_grammar.specs.wasm_operators.declared.block_type.BlockType.TheVariants as blocks
use Rattle.wasm_body_grammar.specs.wasm_operators.Items.{Space, Memories, Item, Names, Number, S32, S64, Bits, Byte, Bytes, Heap, Block, Access, ManyLabels, ManyValues, ManyClauses}
use Rattle.wasm_body_grammar.specs.wasm_operators.Operators.{Seen, flow_of}
use Rattle.wasm_body_grammar.specs.wasm_operators.Names.{Name, operator_names}
use Rattle.wasm_body_grammar.specs.wasm_formats.Stops.{Trouble, Index, Position, Bounds}
use Rattle.wasm_body_grammar.specs.wasm_grammar.Values.{must, first_of}
use Rattle.wasm_body_grammar.specs.Frames.{Frame, turned, label_count}
use Rattle.wasm_body_grammar.specs.Rules as grammar
use Rattle.wasm_body_grammar.specs.Rules.{Around, space_of, names_test, is_segment, first_in, select_rule, words_rule, turned_test, first_trouble}
use Rattle.walrus_body_rules.specs.Sights.{Sight, look, room}
use Rattle.walrus_body_rules.specs.Rules.{block_test, form_rule, data_test, has_wide, access_rule, operator_test}

-- a body's parser sees this file, in which the function has so many locals
pub record Sees (s : Sight) (a : Around) (locals : ℕ) : Type 0 where
  pub rooms : (labels : ℕ) (space : Space) → room s labels space ≡ grammar.room a locals labels space
  pub blocks : (n : ℕ) → block_test s (blocks.Type n) ≡ grammar.block_test a (blocks.Type n)
  pub wide : (n : ℕ) → has_wide s (look s Memories n) ≡ grammar.has_wide (slice_index_or a.filled.memories n None)
  pub counted : s.has_data_count ≡ a.counted

-- what is asked is what the grammar asks
abbrev pub TestsAgree : Type 0
TestsAgree = (s : Sight) (a : Around) (locals : ℕ) (frames : List Frame) (op : Seen) → Sees s a locals → operator_test s frames op ≡ grammar.operator_test a locals frames op

-- ---- lemmas

names_agree : (f g : Space → ℕ) (names : List Name) → ((space : Space) → f space ≡ g space) → names_test f names ≡ names_test g names
names_agree f g [] h = refl
names_agree f g (n ∷ names) h =
    ap (λ (k : ℕ). first_of (must (nat_lt n.1 k) (Index (space_of n.0))) (names_test f names)) (h n.0)
    ∙ ap (λ (t : Option Trouble). first_of (must (nat_lt n.1 (g n.0)) (Index (space_of n.0))) t) (names_agree f g names h)

first_agree : (f g : Item → Option Trouble) (is : List Item) → ((i : Item) → f i ≡ g i) → first_in f is ≡ first_in g is
first_agree f g [] h = refl
first_agree f g (i ∷ is) h = ap (λ (t : Option Trouble). first_of t (first_in f is)) (h i) ∙ ap (λ (t : Option Trouble). first_of (g i) t) (first_agree f g is h)

forms_agree : (s : Sight) (a : Around) (locals : ℕ) (i : Item) → Sees s a locals → form_rule s i ≡ grammar.form_rule a i
forms_agree s a locals (Names space n) h = refl
forms_agree s a locals (Number n) h = refl
forms_agree s a locals (S32 z) h = refl
forms_agree s a locals (S64 z) h = refl
forms_agree s a locals (Bits size n) h = refl
forms_agree s a locals (Byte b) h = refl
forms_agree s a locals (Bytes run) h = refl
forms_agree s a locals (Heap ty) h = refl
forms_agree s a locals (Block blocks.Empty) h = refl
forms_agree s a locals (Block (blocks.Value ty)) h = refl
forms_agree s a locals (Block (blocks.Type n)) h = h.blocks n
forms_agree s a locals (Access x) h = refl
forms_agree s a locals (ManyLabels ns) h = refl
forms_agree s a locals (ManyValues tys) h = refl
forms_agree s a locals (ManyClauses cs) h = refl

accesses_agree : (s : Sight) (a : Around) (locals : ℕ) (i : Item) → Sees s a locals → access_rule s i ≡ grammar.access_rule a i
accesses_agree s a locals (Names space n) h = refl
accesses_agree s a locals (Number n) h = refl
accesses_agree s a locals (S32 z) h = refl
accesses_agree s a locals (S64 z) h = refl
accesses_agree s a locals (Bits size n) h = refl
accesses_agree s a locals (Byte b) h = refl
accesses_agree s a locals (Bytes run) h = refl
accesses_agree s a locals (Heap ty) h = refl
accesses_agree s a locals (Block ty) h = refl
accesses_agree s a locals (Access x) h = ap (λ (w : Bool). must (nat_lt x.align 32 && (w || nat_lt x.offset (2 ^ 32))) Bounds) (h.wide x.memory)
accesses_agree s a locals (ManyLabels ns) h = refl
accesses_agree s a locals (ManyValues tys) h = refl
accesses_agree s a locals (ManyClauses cs) h = refl

abbrev all_tests : Option Trouble → Option Trouble → Option Trouble → Option Trouble → Option Trouble → Option Trouble → Option Trouble → Option Trouble
all_tests names forms turns counts select words access = first_trouble (names ∷ forms ∷ turns ∷ counts ∷ select ∷ words ∷ access ∷ [])

pub tests_agree : TestsAgree
tests_agree s a locals frames op h =
    let labels = label_count (flow_of op.code) frames in
    let named = operator_names op in
    let turns = turned_test (turned (flow_of op.code) frames) in
    let selects = first_in select_rule op.items in
    let words = first_in words_rule op.items in
    let names : names_test (room s labels) named ≡ names_test (grammar.room a locals labels) named = names_agree (room s labels) (grammar.room a locals labels) named (h.rooms labels) in
    let forms : first_in (form_rule s) op.items ≡ first_in (grammar.form_rule a) op.items = first_agree (form_rule s) (grammar.form_rule a) op.items (λ i. forms_agree s a locals i h) in
    let counts : data_test s named ≡ grammar.data_test a named = ap (λ (c : Bool). must (c || not (list_any (λ (n : Name). is_segment n.0) named)) Position) h.counted in
    let access : first_in (access_rule s) op.items ≡ first_in (grammar.access_rule a) op.items = first_agree (access_rule s) (grammar.access_rule a) op.items (λ i. accesses_agree s a locals i h) in
    ap (λ (t : Option Trouble). all_tests t (first_in (form_rule s) op.items) turns (data_test s named) selects words (first_in (access_rule s) op.items)) names
    ∙ ap (λ (t : Option Trouble). all_tests (names_test (grammar.room a locals labels) named) t turns (data_test s named) selects words (first_in (access_rule s) op.items)) forms
    ∙ ap (λ (t : Option Trouble). all_tests (names_test (grammar.room a locals labels) named) (first_in (grammar.form_rule a) op.items) turns t selects words (first_in (access_rule s) op.items)) counts
    ∙ ap (λ (t : Option Trouble). all_tests (names_test (grammar.room a locals labels) named) (first_in (grammar.form_rule a) op.items) turns (grammar.data_test a named) selects words t) access
