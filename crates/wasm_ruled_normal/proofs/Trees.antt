-- Lemmas: the normal form of operators that meet the rules, by the trees of the sequences that are open.
use Rattle.std.specs.Prelude.{ℕ, ◌≡◌, ◌||◌, Bool, true, false, not, List, [], ◌∷◌, ◌++◌, map, Option, Some, None, Ok, refl}
use Rattle.std.specs.List.{AllByRecursion, flat_map}
use Rattle.std.proofs.Common.{ap, sym, ◌∙◌, subst}
use Rattle.std.proofs.lemmas.List.{append-nil, append_assoc, map-append}
use Rattle.walrus_forms.specs.Same.{SameKindIsEquality}
use Rattle.wasm_ruled_modules.specs.wasm_module_rules.wasm_modules.wasm_body_grammar.Bodies.{frames_of}
use Rattle.wasm_ruled_modules.specs.wasm_module_rules.wasm_modules.wasm_body_grammar.Frames.{Frame, Plain, Choice, Trying, Catching, Caught, Turned, delegated, handler, label_count, other_part, turned}
use Rattle.wasm_ruled_modules.specs.wasm_module_rules.wasm_modules.wasm_body_grammar.Rules.{Around, access_rule, data_test, first_in, form_rule, has_words, operator_test, room, select_rule, turned_test, words_rule}
use Rattle.wasm_ruled_modules.specs.wasm_module_rules.wasm_modules.wasm_body_grammar.wasm_formats.Stops.{Position, Unsupported}
use Rattle.wasm_ruled_modules.specs.wasm_module_rules.wasm_modules.wasm_body_grammar.wasm_formats.declared.fault.Form.TheVariants as unsupported
use Rattle.wasm_ruled_modules.specs.wasm_module_rules.wasm_modules.wasm_body_grammar.wasm_grammar.Modules as grammar
use Rattle.wasm_ruled_modules.specs.wasm_module_rules.wasm_modules.wasm_body_grammar.wasm_operators.Operators.{Seen, flow_of}
use Rattle.wasm_ruled_modules.specs.wasm_module_rules.wasm_modules.wasm_body_grammar.wasm_operators.Table.{structure_rows}
use Rattle.wasm_ruled_modules.specs.wasm_module_rules.wasm_modules.wasm_body_grammar.wasm_operators.declared.entry.Flow.{Flow}
use Rattle.wasm_ruled_modules.specs.wasm_module_rules.wasm_modules.wasm_body_grammar.wasm_operators.declared.entry.Flow.TheVariants as flows
use Rattle.wasm_ruled_modules.specs.wasm_module_rules.wasm_modules.wasm_body_grammar.wasm_operators.Names.{item_names, operator_names}
use Rattle.wasm_normal_form.specs.Normal.{closed, normal_from, normal_ops, picked, with_pick}
use Rattle.wasm_normal_form.specs.Roles.{placed, Passes as PassesOn, Runs, Opens, Turns, Ends, cuts, else_op, end_op, is_if, is_if_in, role_in}
use Rattle.wasm_normal_form.specs.Trees.{Tree, Close, Arm, Skip, Run, Nest, flat, innermost, open_in, prepend, tree_of}
use Rattle.wasm_normal_form.specs.wasm_operators.Items.{Item, Names, Number, S32, S64, Bits, Byte, Bytes, Heap, Block, Access, ManyLabels, ManyValues, ManyClauses}
use Rattle.wasm_normal_form.specs.wasm_operators.declared.block_type.BlockType.{BlockType}
use Rattle.wasm_ruled_modules.specs.Rules.{AreOperators, GroupsBelow}
use Rattle.wasm_run_names.specs.Picks.{block_pick}
use Rattle.wasm_ruled_normal.proofs.Picks.{block_segments, picked_fits, picked_tested, picked_words}
use Rattle.wasm_ruled_modules.specs.wasm_module_rules.Keeps.{must_holds}
use Rattle.wasm_ruled_normal.proofs.Tests.{Passes, Within, all_join, all_split, counted_alike, first_each, has_segment, holds_must, names_within, passes, segment_joined, tested, within_passes}
use Rattle.wasm_ruled_normal.specs.Normal.{located, text_of}

-- ---- an operator with its pick

-- what holds of an item and itself, and of a block type and its pick, holds of each item and what it becomes
picked_cases : (pick : BlockType → BlockType) (R : Item → Item → Type 0) → ((x : Item) → R x x) → ((ty : BlockType) → R (Block ty) (Block (pick ty))) → (x : Item) → R x (with_pick pick x)
picked_cases pick R own block (Names space n) = own (Names space n)
picked_cases pick R own block (Number n) = own (Number n)
picked_cases pick R own block (S32 z) = own (S32 z)
picked_cases pick R own block (S64 z) = own (S64 z)
picked_cases pick R own block (Bits size n) = own (Bits size n)
picked_cases pick R own block (Byte b) = own (Byte b)
picked_cases pick R own block (Bytes run) = own (Bytes run)
picked_cases pick R own block (Heap ty) = own (Heap ty)
picked_cases pick R own block (Block ty) = block ty
picked_cases pick R own block (Access a) = own (Access a)
picked_cases pick R own block (ManyLabels ns) = own (ManyLabels ns)
picked_cases pick R own block (ManyValues tys) = own (ManyValues tys)
picked_cases pick R own block (ManyClauses cs) = own (ManyClauses cs)

items_segments : (pick : BlockType → BlockType) (xs : List Item) → has_segment (flat_map item_names (map (with_pick pick) xs)) ≡ has_segment (flat_map item_names xs)
items_segments pick [] = refl
items_segments pick (x ∷ xs) =
    segment_joined (item_names (with_pick pick x)) (flat_map item_names (map (with_pick pick) xs))
    ∙ ap (λ (b : Bool). b || has_segment (flat_map item_names (map (with_pick pick) xs)))
    (picked_cases pick (λ x y. has_segment (item_names y) ≡ has_segment (item_names x)) (λ x. refl) (λ ty. block_segments (pick ty) ∙ sym (block_segments ty)) x)
    ∙ ap (λ (b : Bool). has_segment (item_names x) || b) (items_segments pick xs) ∙ sym (segment_joined (item_names x) (flat_map item_names xs))

module _ (is : SameKindIsEquality) (a : Around) (below : GroupsBelow 0 a.filled.groups) (locals : ℕ) where
  items_fit : (labels : ℕ) (xs : List Item) → AllByRecursion (Within (room a locals labels)) (flat_map item_names xs)
      → AllByRecursion (Within (room a locals labels)) (flat_map item_names (map (with_pick (block_pick a)) xs))
  items_fit labels [] h = tt
  items_fit labels (x ∷ xs) h =
      let both = all_split (Within (room a locals labels)) (item_names x) (flat_map item_names xs) h in
      all_join (Within (room a locals labels)) (item_names (with_pick (block_pick a) x)) (flat_map item_names (map (with_pick (block_pick a)) xs))
      (picked_cases (block_pick a) (λ x y. AllByRecursion (Within (room a locals labels)) (item_names x) → AllByRecursion (Within (room a locals labels)) (item_names y)) (λ x h. h)
      (λ ty h. picked_fits is a below locals labels ty h) x both.0) (items_fit labels xs both.1)

  picked_passes : (frames : List Frame) (op : Seen) → Passes a locals frames op → Passes a locals frames (picked (block_pick a) op)
  picked_passes frames op h = record {
    named = within_passes _ _ (items_fit (label_count (flow_of op.code) frames) op.items (names_within _ _ h.named));
    formed = first_each (form_rule a) (form_rule a) (with_pick (block_pick a))
        (picked_cases (block_pick a) (λ x y. form_rule a x ≡ None → form_rule a y ≡ None) (λ x e. e) (λ ty e. picked_tested is a ty e)) op.items h.formed;
    nested = h.nested;
    counted = counted_alike a a (operator_names op) (operator_names (picked (block_pick a) op)) (items_segments (block_pick a) op.items) (λ e. e) h.counted;
    selects = first_each select_rule select_rule (with_pick (block_pick a)) (picked_cases (block_pick a) (λ x y. select_rule x ≡ None → select_rule y ≡ None) (λ x e. e) (λ ty e. refl)) op.items h.selects;
    worded = first_each words_rule words_rule (with_pick (block_pick a))
        (picked_cases (block_pick a) (λ x y. words_rule x ≡ None → words_rule y ≡ None) (λ x e. e)
        (λ ty e. holds_must (has_words (Block (block_pick a ty))) (Unsupported unsupported.SharedType)
        (picked_words is a ty (must_holds (has_words (Block ty)) (Unsupported unsupported.SharedType) e)))) op.items h.worded;
    reached = first_each (access_rule a) (access_rule a) (with_pick (block_pick a)) (picked_cases (block_pick a) (λ x y. access_rule a x ≡ None → access_rule a y ≡ None) (λ x e. e) (λ ty e. refl)) op.items h.reached;
  }

-- ---- trees whose operators meet the rules

-- an operator passes inside these frames, and leads to those
pub record Leads (a : Around) (locals : ℕ) (frames behind : List Frame) (o : Seen) : Type 0 where
  pub test : operator_test a locals frames o ≡ None
  pub leads_to : turned (flow_of o.code) frames ≡ Ok behind

module _ (a : Around) (locals : ℕ) where
  -- a sequence inside its frame and those around it
  abbrev pub Ruled : Tree → Frame → List Frame → Type 0
  Ruled (Close o p) f around = Leads a locals (f ∷ around) around o
  Ruled (Arm o p t) f around = (g : Frame) × Leads a locals (f ∷ around) (g ∷ around) o × Ruled t g around
  Ruled (Skip o p t) f around = Leads a locals (f ∷ around) (f ∷ around) o × Ruled t f around
  Ruled (Run o p t) f around = Leads a locals (f ∷ around) (f ∷ around) o × Ruled t f around
  Ruled (Nest o p u t) f around = (g : Frame) × Leads a locals (f ∷ around) (g ∷ (f ∷ around)) o × (is_if o ≡ true → g ≡ Choice) × Ruled u g (f ∷ around) × Ruled t f around

  -- the open sequences, each in its frame
  abbrev Stand : List Tree → List Frame → Type 0
  Stand [] [] = Unit {0}
  Stand [] (f ∷ frames) = ⊥
  Stand (t ∷ ts) [] = ⊥
  Stand (t ∷ ts) (f ∷ frames) = Ruled t f frames × Stand ts frames

  skips : (o : Seen) (p : Option ℕ) (ts : List Tree) (f : Frame) (around : List Frame) → Leads a locals (f ∷ around) (f ∷ around) o → Stand ts (f ∷ around) → Stand (prepend PassesOn o p ts) (f ∷ around)
  skips o p [] f around k h = absurd h
  skips o p (t ∷ ts) f around k h = ((k, h.0), h.1)

  runs : (o : Seen) (p : Option ℕ) (ts : List Tree) (f : Frame) (around : List Frame) → Leads a locals (f ∷ around) (f ∷ around) o → Stand ts (f ∷ around) → Stand (prepend Runs o p ts) (f ∷ around)
  runs o p [] f around k h = absurd h
  runs o p (t ∷ ts) f around k h = ((k, h.0), h.1)

  turns : (o : Seen) (p : Option ℕ) (ts : List Tree) (f g : Frame) (around : List Frame) → Leads a locals (f ∷ around) (g ∷ around) o → Stand ts (g ∷ around) → Stand (prepend Turns o p ts) (f ∷ around)
  turns o p [] f g around k h = absurd h
  turns o p (t ∷ ts) f g around k h = ((g, k, h.0), h.1)

  opens : (o : Seen) (p : Option ℕ) (ts : List Tree) (f g : Frame) (around : List Frame) → Leads a locals (f ∷ around) (g ∷ (f ∷ around)) o → (is_if o ≡ true → g ≡ Choice) → Stand ts (g ∷ (f ∷ around))
      → Stand (prepend Opens o p ts) (f ∷ around)
  opens o p [] f g around k choice h = absurd h
  opens o p (u ∷ []) f g around k choice h = absurd h.1
  opens o p (u ∷ (t ∷ ts)) f g around k choice h = ((g, k, choice, h.0, h.1.0), h.1.1)

  ends : (o : Seen) (p : Option ℕ) (ts : List Tree) (f : Frame) (around : List Frame) → Leads a locals (f ∷ around) around o → Stand ts around → Stand (prepend Ends o p ts) (f ∷ around)
  ends o p ts f around k h = (k, h)

  -- where an operator may turn to the next sequence, the frame changes
  abbrev Turning : List Tree → Frame → List Frame → Turned → Type 0
  Turning ts f around t = (g : Frame) × (t ≡ Ok (g ∷ around)) × Stand ts (g ∷ around)

  other : (ts : List Tree) (f : Frame) (around : List Frame) → turned_test (other_part f around) ≡ None → Stand ts (frames_of (other_part f around) (f ∷ around)) → Turning ts f around (other_part f around)
  other ts Plain around e h = absurd cc
  other ts Choice around e h = (Plain, refl, h)
  other ts Trying around e h = absurd cc
  other ts Catching around e h = absurd cc
  other ts Caught around e h = absurd cc

  handles : (next : Frame) (ts : List Tree) (f : Frame) (around : List Frame) → turned_test (handler next f around) ≡ None → Stand ts (frames_of (handler next f around) (f ∷ around)) → Turning ts f around (handler next f around)
  handles next ts Plain around e h = absurd cc
  handles next ts Choice around e h = absurd cc
  handles next ts Trying around e h = (next, refl, h)
  handles next ts Catching around e h = (next, refl, h)
  handles next ts Caught around e h = absurd cc

  hands : (ts : List Tree) (f : Frame) (around : List Frame) → turned_test (delegated f around) ≡ None → Stand ts (frames_of (delegated f around) (f ∷ around)) → (delegated f around ≡ Ok around) × Stand ts around
  hands ts Plain around e h = absurd cc
  hands ts Choice around e h = absurd cc
  hands ts Trying around e h = (refl, h)
  hands ts Catching around e h = absurd cc
  hands ts Caught around e h = absurd cc

  module _ (o : Seen) (p : Option ℕ) (ts : List Tree) (f : Frame) (around : List Frame) (test : operator_test a locals (f ∷ around) o ≡ None) where
    leads : (flow : Option Flow) (behind : List Frame) → flow_of o.code ≡ flow → turned flow (f ∷ around) ≡ Ok behind → Leads a locals (f ∷ around) behind o
    leads flow behind is e = record { test = test; leads_to = ap (λ (x : Option Flow). turned x (f ∷ around)) is ∙ e }

    -- no other operator opens an `if`
    no_if : (flow : Option Flow) (g : Frame) → flow_of o.code ≡ flow → is_if_in flow ≡ false → is_if o ≡ true → g ≡ Choice
    no_if flow g is e k = let none : false ≡ true = sym e ∙ ap is_if_in (sym is) ∙ k in absurd cc

    step : (flow : Option Flow) → flow_of o.code ≡ flow → turned_test (turned flow (f ∷ around)) ≡ None → Stand ts (frames_of (turned flow (f ∷ around)) (f ∷ around)) → Stand (prepend (role_in flow) o p ts) (f ∷ around)
    step None is e h = runs o p ts f around (leads None (f ∷ around) is refl) h
    step (Some flows.Passes) is e h = skips o p ts f around (leads (Some flows.Passes) (f ∷ around) is refl) h
    step (Some flows.Goes) is e h = runs o p ts f around (leads (Some flows.Goes) (f ∷ around) is refl) h
    step (Some flows.Traps) is e h = runs o p ts f around (leads (Some flows.Traps) (f ∷ around) is refl) h
    step (Some flows.OpensBlock) is e h = opens o p ts f Plain around (leads (Some flows.OpensBlock) (Plain ∷ (f ∷ around)) is refl) (no_if (Some flows.OpensBlock) Plain is refl) h
    step (Some flows.OpensLoop) is e h = opens o p ts f Plain around (leads (Some flows.OpensLoop) (Plain ∷ (f ∷ around)) is refl) (no_if (Some flows.OpensLoop) Plain is refl) h
    step (Some flows.OpensIf) is e h = opens o p ts f Choice around (leads (Some flows.OpensIf) (Choice ∷ (f ∷ around)) is refl) (λ _. refl) h
    step (Some flows.OpensTry) is e h = opens o p ts f Trying around (leads (Some flows.OpensTry) (Trying ∷ (f ∷ around)) is refl) (no_if (Some flows.OpensTry) Trying is refl) h
    step (Some flows.OpensTryTable) is e h = opens o p ts f Plain around (leads (Some flows.OpensTryTable) (Plain ∷ (f ∷ around)) is refl) (no_if (Some flows.OpensTryTable) Plain is refl) h
    step (Some flows.Else) is e h = let x = other ts f around e h in turns o p ts f x.0 around (leads (Some flows.Else) (x.0 ∷ around) is x.1) x.2
    step (Some flows.Catch) is e h = let x = handles Catching ts f around e h in turns o p ts f x.0 around (leads (Some flows.Catch) (x.0 ∷ around) is x.1) x.2
    step (Some flows.CatchAll) is e h = let x = handles Caught ts f around e h in turns o p ts f x.0 around (leads (Some flows.CatchAll) (x.0 ∷ around) is x.1) x.2
    step (Some flows.Delegate) is e h = let x = hands ts f around e h in ends o p ts f around (leads (Some flows.Delegate) around is x.0) x.1
    step (Some flows.End) is e h = ends o p ts f around (leads (Some flows.End) around is refl) h
    step (Some flows.Branches) is e h = runs o p ts f around (leads (Some flows.Branches) (f ∷ around) is refl) h
    step (Some flows.Chooses) is e h = runs o p ts f around (leads (Some flows.Chooses) (f ∷ around) is refl) h
    step (Some flows.Selects) is e h = runs o p ts f around (leads (Some flows.Selects) (f ∷ around) is refl) h
    step (Some flows.Returns) is e h = runs o p ts f around (leads (Some flows.Returns) (f ∷ around) is refl) h
    step (Some flows.Calls) is e h = runs o p ts f around (leads (Some flows.Calls) (f ∷ around) is refl) h
    step (Some flows.CallsIndirectly) is e h = runs o p ts f around (leads (Some flows.CallsIndirectly) (f ∷ around) is refl) h
    step (Some flows.TailCalls) is e h = runs o p ts f around (leads (Some flows.TailCalls) (f ∷ around) is refl) h
    step (Some flows.TailCallsIndirectly) is e h = runs o p ts f around (leads (Some flows.TailCallsIndirectly) (f ∷ around) is refl) h
    step (Some flows.Throws) is e h = runs o p ts f around (leads (Some flows.Throws) (f ∷ around) is refl) h
    step (Some flows.ThrowsOrTraps) is e h = runs o p ts f around (leads (Some flows.ThrowsOrTraps) (f ∷ around) is refl) h

  open_stand : (ops : List grammar.Placed) (frames : List Frame) → AreOperators a locals frames ops → Stand (open_in (text_of ops)) frames
  open_stand [] [] h = tt
  open_stand [] (f ∷ around) h = absurd cc
  open_stand (o ∷ ops) [] h = let e = h.0 in absurd cc
  open_stand (o ∷ ops) (f ∷ around) h =
      step o.op (Some o.place) (open_in (text_of ops)) f around h.1 (flow_of o.op.code) refl (passes a locals (f ∷ around) o.op h.1).nested
      (open_stand ops (frames_of (turned (flow_of o.op.code) (f ∷ around)) (f ∷ around)) h.2)

  innermost_ruled : (ts : List Tree) (f : Frame) (around : List Frame) → Stand ts (f ∷ around) → Ruled (innermost ts) f around
  innermost_ruled [] f around h = absurd h
  innermost_ruled (t ∷ ts) f around h = h.0

  pub tree_ruled : (ops : List grammar.Placed) (f : Frame) (around : List Frame) → AreOperators a locals (f ∷ around) ops → Ruled (tree_of (text_of ops)) f around
  tree_ruled ops f around h = innermost_ruled (open_in (text_of ops)) f around (open_stand ops (f ∷ around) h)

  -- ---- back to operators

  on_behind : (at : Option ℕ → ℕ) (o : Seen) (p : Option ℕ) (f : Frame) (around behind : List Frame) (ops : List grammar.Placed) → Leads a locals (f ∷ around) behind o → AreOperators a locals behind ops
      → AreOperators a locals (f ∷ around) (located at (placed o p) ∷ ops)
  on_behind at o p f around behind ops k h = (refl, k.test, subst (λ (x : Turned). AreOperators a locals (frames_of x (f ∷ around)) ops) (sym k.leads_to) h)

  flat_ruled : (at : Option ℕ → ℕ) (t : Tree) (f : Frame) (around : List Frame) (ops : List grammar.Placed) → Ruled t f around → AreOperators a locals around ops
      → AreOperators a locals (f ∷ around) (map (located at) (flat t) ++ ops)
  flat_ruled at (Close o p) f around ops h k = on_behind at o p f around around ops h k
  flat_ruled at (Arm o p t) f around ops h k = on_behind at o p f around (h.0 ∷ around) (map (located at) (flat t) ++ ops) h.1 (flat_ruled at t h.0 around ops h.2 k)
  flat_ruled at (Skip o p t) f around ops h k = on_behind at o p f around (f ∷ around) (map (located at) (flat t) ++ ops) h.0 (flat_ruled at t f around ops h.1 k)
  flat_ruled at (Run o p t) f around ops h k = on_behind at o p f around (f ∷ around) (map (located at) (flat t) ++ ops) h.0 (flat_ruled at t f around ops h.1 k)
  flat_ruled at (Nest o p u t) f around ops h k =
      let joined : map (located at) (flat u ++ flat t) ++ ops ≡ map (located at) (flat u) ++ (map (located at) (flat t) ++ ops) =
      ap (λ (l : List grammar.Placed). l ++ ops) (map-append (located at) (flat u) (flat t)) ∙ append_assoc (map (located at) (flat u)) (map (located at) (flat t)) ops in
      on_behind at o p f around (h.0 ∷ (f ∷ around)) (map (located at) (flat u ++ flat t) ++ ops) h.1
      (subst (AreOperators a locals (h.0 ∷ (f ∷ around))) (sym joined) (flat_ruled at u h.0 (f ∷ around) (map (located at) (flat t) ++ ops) h.3 (flat_ruled at t f around ops h.4 k)))

  pub all_ruled : (at : Option ℕ → ℕ) (t : Tree) (f : Frame) → Ruled t f [] → AreOperators a locals (f ∷ []) (map (located at) (flat t))
  all_ruled at t f h = subst (AreOperators a locals (f ∷ [])) (append-nil (map (located at) (flat t))) (flat_ruled at t f [] [] h refl)

-- ---- the `else` that an `if` hasn't

or_true : (b : Bool) → (b || true) ≡ true
or_true true = refl
or_true false = refl

-- an operator with no immediates passes where it may stand
plain_tested : (a : Around) (locals : ℕ) (frames : List Frame) (o : Seen) → o.items ≡ [] → turned_test (turned (flow_of o.code) frames) ≡ None → operator_test a locals frames o ≡ None
plain_tested a locals frames o none e =
    let named : operator_names o ≡ [] = ap (flat_map item_names) none in
    let holds : data_test a [] ≡ None = holds_must (a.counted || not (has_segment [])) Position (or_true a.counted) in
    tested a locals frames o (record {
      named = within_passes _ _ (subst (AllByRecursion (Within (room a locals (label_count (flow_of o.code) frames)))) (sym named) tt);
      formed = ap (first_in (form_rule a)) none;
      nested = e;
      counted = ap (data_test a) named ∙ holds;
      selects = ap (first_in select_rule) none;
      worded = ap (first_in words_rule) none;
      reached = ap (first_in (access_rule a)) none;
    })

else_turns : (around : List Frame) → turned (flow_of else_op.code) (Choice ∷ around) ≡ Ok (Plain ∷ around)
unfolding structure_rows
else_turns around = refl

end_closes : (f : Frame) (around : List Frame) → turned (flow_of end_op.code) (f ∷ around) ≡ Ok around
unfolding structure_rows
end_closes f around = refl

added : (a : Around) (locals : ℕ) (p : Option ℕ) (f : Frame) (around : List Frame) → f ≡ Choice → Ruled a locals (Arm else_op p (Close end_op None)) f around
added a locals p f around e =
    subst (λ (g : Frame). Ruled a locals (Arm else_op p (Close end_op None)) g around) (sym e) (
      Plain,
      record { test = plain_tested a locals (Choice ∷ around) else_op refl (ap turned_test (else_turns around)); leads_to = else_turns around },
      record { test = plain_tested a locals (Plain ∷ around) end_op refl (ap turned_test (end_closes Plain around)); leads_to = end_closes Plain around },
    )

-- ---- normal forms

module _ (is : SameKindIsEquality) (a : Around) (below : GroupsBelow 0 a.filled.groups) (locals : ℕ) where
  picked_leads : (frames behind : List Frame) (o : Seen) → Leads a locals frames behind o → Leads a locals frames behind (picked (block_pick a) o)
  picked_leads frames behind o h = record {
    test = tested a locals frames (picked (block_pick a) o) (picked_passes is a below locals frames o (passes a locals frames o h.test));
    leads_to = h.leads_to;
  }

  closed_ruled : (o : Seen) (p : Option ℕ) (bare : Bool) (f : Frame) (around : List Frame) → (bare ≡ true → f ≡ Choice) → Leads a locals (f ∷ around) around o → Ruled a locals (closed bare o p) f around
  closed_ruled o p true f around choice h = added a locals p f around (choice refl)
  closed_ruled o p false f around choice h = h

  normal_ruled : (t : Tree) (bare dropped : Bool) (f : Frame) (around : List Frame) → (bare ≡ true → f ≡ Choice) → Ruled a locals t f around → Ruled a locals (normal_from (block_pick a) t bare dropped) f around
  normal_ruled (Close o p) bare dropped f around choice h = closed_ruled o p bare f around choice h
  normal_ruled (Arm o p t) bare dropped f around choice h = (h.0, h.1, normal_ruled t false false h.0 around (λ e. absurd cc) h.2)
  normal_ruled (Skip o p t) bare dropped f around choice h = normal_ruled t bare dropped f around choice h.1
  normal_ruled (Run o p t) bare true f around choice h = normal_ruled t bare true f around choice h.1
  normal_ruled (Run o p t) bare false f around choice h = (h.0, normal_ruled t bare (cuts o) f around choice h.1)
  normal_ruled (Nest o p u t) bare true f around choice h = normal_ruled t bare true f around choice h.4
  normal_ruled (Nest o p u t) bare false f around choice h =
      (h.0, picked_leads (f ∷ around) (h.0 ∷ (f ∷ around)) o h.1, h.2, normal_ruled u (is_if o) false h.0 (f ∷ around) h.2 h.3, normal_ruled t bare false f around choice h.4)

  pub normal_operators : (at : Option ℕ → ℕ) (ops : List grammar.Placed) → AreOperators a locals (Plain ∷ []) ops → AreOperators a locals (Plain ∷ []) (map (located at) (normal_ops (block_pick a) (text_of ops)))
  normal_operators at ops h =
      all_ruled a locals at (normal_from (block_pick a) (tree_of (text_of ops)) false false) Plain
      (normal_ruled (tree_of (text_of ops)) false false Plain [] (λ e. absurd cc) (tree_ruled a locals ops Plain [] h))
