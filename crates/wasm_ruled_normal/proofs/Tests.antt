-- Lemmas: the tests of an operator, one by one.
use Rattle.std.specs.Prelude.{ℕ, ◌≡◌, ◌||◌, nat_lt, Bool, true, false, not, List, [], ◌∷◌, ◌++◌, map, Option, None, refl}
use Rattle.std.specs.List.{AllByRecursion, list_any}
use Rattle.std.proofs.Common.{ap, ◌∙◌}
use Rattle.wasm_ruled_modules.specs.wasm_module_rules.wasm_modules.wasm_body_grammar.Frames.{Frame, label_count, turned}
use Rattle.wasm_ruled_modules.specs.wasm_module_rules.wasm_modules.wasm_body_grammar.Rules.{Around, access_rule, data_test, first_in, form_rule, is_segment, names_test, operator_test, room, select_rule, space_of, turned_test, words_rule}
use Rattle.wasm_ruled_modules.specs.wasm_module_rules.wasm_modules.wasm_body_grammar.wasm_formats.Stops.{Index, Position, Trouble}
use Rattle.wasm_ruled_modules.specs.wasm_module_rules.wasm_modules.wasm_body_grammar.wasm_grammar.Values.{first_of, must}
use Rattle.wasm_ruled_modules.specs.wasm_module_rules.wasm_modules.wasm_body_grammar.wasm_operators.Names.{Name, operator_names}
use Rattle.wasm_ruled_modules.specs.wasm_module_rules.wasm_modules.wasm_body_grammar.wasm_operators.Items.{Item, Space}
use Rattle.wasm_ruled_modules.specs.wasm_module_rules.wasm_modules.wasm_body_grammar.wasm_operators.Operators.{Seen, flow_of}
use Rattle.wasm_ruled_modules.specs.wasm_module_rules.Keeps.{first_none, must_holds}

-- ---- tests of one place

pub holds_must : (b : Bool) (t : Trouble) → b ≡ true → must b t ≡ None
holds_must b t e = ap (λ (c : Bool). must c t) e

pub none_first : (x y : Option Trouble) → x ≡ None → y ≡ None → first_of x y ≡ None
none_first x y e f = ap (λ (z : Option Trouble). first_of z y) e ∙ f

-- an operator passes each test
pub record Passes (a : Around) (locals : ℕ) (frames : List Frame) (op : Seen) : Type 0 where
  pub named : names_test (room a locals (label_count (flow_of op.code) frames)) (operator_names op) ≡ None
  pub formed : first_in (form_rule a) op.items ≡ None
  pub nested : turned_test (turned (flow_of op.code) frames) ≡ None
  pub counted : data_test a (operator_names op) ≡ None
  pub selects : first_in select_rule op.items ≡ None
  pub worded : first_in words_rule op.items ≡ None
  pub reached : first_in (access_rule a) op.items ≡ None

pub passes : (a : Around) (locals : ℕ) (frames : List Frame) (op : Seen) → operator_test a locals frames op ≡ None → Passes a locals frames op
passes a locals frames op e =
    let named = first_none _ _ e in
    let formed = first_none _ _ named.1 in
    let nested = first_none _ _ formed.1 in
    let counted = first_none _ _ nested.1 in
    let selects = first_none _ _ counted.1 in
    let worded = first_none _ _ selects.1 in
    let reached = first_none _ _ worded.1 in record {
      named = named.0;
      formed = formed.0;
      nested = nested.0;
      counted = counted.0;
      selects = selects.0;
      worded = worded.0;
      reached = reached.0;
    }

pub tested : (a : Around) (locals : ℕ) (frames : List Frame) (op : Seen) → Passes a locals frames op → operator_test a locals frames op ≡ None
tested a locals frames op h =
    none_first _ _ h.named
    (none_first _ _ h.formed (none_first _ _ h.nested (none_first _ _ h.counted (none_first _ _ h.selects (none_first _ _ h.worded (none_first _ _ h.reached refl))))))

-- ---- names

pub all_split : {A : Type 0} (P : A → Type 0) (xs ys : List A) → AllByRecursion P (xs ++ ys) → AllByRecursion P xs × AllByRecursion P ys
all_split P [] ys h = (tt, h)
all_split P (x ∷ xs) ys h = let later = all_split P xs ys h.1 in ((h.0, later.0), later.1)

pub all_join : {A : Type 0} (P : A → Type 0) (xs ys : List A) → AllByRecursion P xs → AllByRecursion P ys → AllByRecursion P (xs ++ ys)
all_join P [] ys h k = k
all_join P (x ∷ xs) ys h k = (h.0, all_join P xs ys h.1 k)

-- a name of so many in its space
abbrev pub Within : (Space → ℕ) → Name → Type 0
Within rooms n = nat_lt n.1 (rooms n.0) ≡ true

pub names_within : (rooms : Space → ℕ) (names : List Name) → names_test rooms names ≡ None → AllByRecursion (Within rooms) names
names_within rooms [] e = tt
names_within rooms (n ∷ names) e =
    let both = first_none (must (nat_lt n.1 (rooms n.0)) (Index (space_of n.0))) (names_test rooms names) e in
    (must_holds (nat_lt n.1 (rooms n.0)) (Index (space_of n.0)) both.0, names_within rooms names both.1)

pub within_passes : (rooms : Space → ℕ) (names : List Name) → AllByRecursion (Within rooms) names → names_test rooms names ≡ None
within_passes rooms [] h = refl
within_passes rooms (n ∷ names) h =
    none_first (must (nat_lt n.1 (rooms n.0)) (Index (space_of n.0))) (names_test rooms names) (holds_must (nat_lt n.1 (rooms n.0)) (Index (space_of n.0)) h.0) (within_passes rooms names h.1)

-- ---- data segments among names

abbrev pub has_segment : List Name → Bool
has_segment names = list_any (λ (n : Name). is_segment n.0) names

pub segment_joined : (xs ys : List Name) → has_segment (xs ++ ys) ≡ (has_segment xs || has_segment ys)
segment_joined [] ys = refl
segment_joined (x ∷ xs) ys = by (is_segment x.0) (segment_joined xs ys)
  where
    by : (b : Bool) → has_segment (xs ++ ys) ≡ (has_segment xs || has_segment ys) → (b || has_segment (xs ++ ys)) ≡ ((b || has_segment xs) || has_segment ys)
    by true e = refl
    by false e = e

-- names of which as many are segments pass the test that others passed
pub counted_alike : (a b : Around) (xs ys : List Name) → has_segment ys ≡ has_segment xs → (a.counted ≡ true → b.counted ≡ true) → data_test a xs ≡ None → data_test b ys ≡ None
counted_alike a b xs ys same more e =
    holds_must (b.counted || not (has_segment ys)) Position
    (ap (λ (s : Bool). b.counted || not s) same ∙ go a.counted b.counted (not (has_segment xs)) more (must_holds (a.counted || not (has_segment xs)) Position e))
  where
    go : (c d n : Bool) → (c ≡ true → d ≡ true) → (c || n) ≡ true → (d || n) ≡ true
    go true d n more h = ap (λ (x : Bool). x || n) (more refl)
    go false true n more h = refl
    go false false n more h = h

-- ---- items

-- what each item passes, each that is made of one passes
pub first_each : (rule other : Item → Option Trouble) (f : Item → Item) → ((x : Item) → rule x ≡ None → other (f x) ≡ None) → (xs : List Item) → first_in rule xs ≡ None → first_in other (map f xs) ≡ None
first_each rule other f h [] e = refl
first_each rule other f h (x ∷ xs) e =
    let both = first_none (rule x) (first_in rule xs) e in
    none_first (other (f x)) (first_in other (map f xs)) (h x both.0) (first_each rule other f h xs both.1)
