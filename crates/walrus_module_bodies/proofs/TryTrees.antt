-- Lemmas: sequences that stand as a tree in which no operator opens a legacy `try` have none.
use Rattle.std.proofs.Common.{ℕ, zero, suc, ◌+◌, ◌≤◌, ◌≡◌, Bool, true, false, List, [], ◌∷◌, length, map, Option, Some, None, refl, sym, ap, arith}
use Rattle.std.proofs.Math.Dec.{eqb-suc-suc, eqb-suc-zero, eqb-zero-suc}
use Rattle.std.specs.Prelude.{◌==◌, ◌&&◌, ◌||◌, not, slice_get, if◌then◌else◌}
use Rattle.walrus_module_env.specs.walrus_body_parser.wasm_operators.declared.op_code.OpCode.{OpCode}
use Rattle.walrus_module_env.specs.walrus_body_parser.wasm_operators.declared.entry.Entry.{Entry}
use Rattle.walrus_module_env.specs.walrus_body_parser.wasm_operators.declared.entry.Flow.{Flow}
use Rattle.walrus_module_env.specs.walrus_body_parser.wasm_operators.declared.entry.Flow.TheVariants as flows
use Rattle.walrus_module_env.specs.walrus_body_parser.wasm_operators.Table.{find_code, structure_rows, call_rows, plain_rows, fb_rows, fc_rows, fd_rows, fe_rows}
use Rattle.walrus_module_env.specs.walrus_body_parser.wasm_operators.Operators.{Seen, flow_in, flow_of}
use Rattle.walrus_module_env.specs.walrus_body_parser.wasm_operators.declared.block_type.BlockType.{BlockType}
use Rattle.walrus_module_env.specs.walrus_body_parser.walrus_body_stack.wasm_normal_form.Roles.{placed, role, Role, Passes, Runs, Opens, Turns, Ends, cuts, is_if}
use Rattle.walrus_module_env.specs.walrus_body_parser.walrus_body_stack.wasm_normal_form.Trees.{Tree, Close, Arm, Skip, Run, Nest, prepend, open_in, innermost, tree_of}
use Rattle.walrus_module_env.specs.walrus_body_parser.walrus_body_stack.wasm_normal_form.Normal.{normal, normal_from}
use Rattle.walrus_module_env.specs.walrus_body_parser.walrus_body_rules.wasm_grammar.Modules as grammar
use Rattle.walrus_module_env.specs.walrus_body_parser.walrus_body_rules.wasm_body_grammar.Bodies.{placed as placed_from}
use Rattle.walrus_module_env.specs.walrus_body_parser.walrus_body_stack.walrus_instr.declared.instr.Instr.{Instr}
use Rattle.walrus_module_env.specs.walrus_body_parser.walrus_body_stack.walrus_instr.declared.seq.InstrLocId.{InstrLocId}
use Rattle.walrus_module_env.specs.walrus_body_parser.walrus_body_stack.walrus_instr.declared.seq.InstrSeq.{InstrSeq}
use Rattle.walrus_module_env.specs.walrus_body_parser.walrus_body_stack.walrus_instr.declared.seq.InstrSeqType.{InstrSeqType}
use Rattle.walrus_module_env.specs.walrus_body_parser.walrus_body_stack.walrus_builder.Built.{Seq, seq_of}
use Rattle.walrus_module_env.specs.walrus_body_parser.walrus_body_stack.walrus_body_nesting.Stands.{Part, Finish, Ended, Block, Meaning, with, none, lies, StandsAs, total, tree_size}
use Rattle.walrus_body_trees.proofs.walrus_pairing.Rows.{TablePasses, table_holds}
use Rattle.walrus_module_env.specs.walrus_handler_types.walrus_handlers.Gathering.{has_try, have_try, is_try}
use Rattle.walrus_module_bodies.specs.TryCodes.{opens_try}
use Rattle.walrus_module_bodies.proofs.TryReads.{both}

-- ---- the one code that opens a `try`

abbrev opens_in : Flow → Bool
opens_in flows.OpensTry = true
opens_in _ = false

abbrev try_test : ℕ → Entry → ℕ → Bool
try_test prefix e n = not (opens_in e.flow) || (prefix == 0 && n == 6)

rows_pass : TablePasses try_test
unfolding structure_rows call_rows plain_rows fb_rows fc_rows fd_rows fe_rows
rows_pass = record { structure = refl; call = refl; plain = refl; fb = refl; fc = refl; fd = refl; fe = refl }

abbrev opens_so : Option Flow → Bool
opens_so None = false
opens_so (Some flow) = opens_in flow

pub none_opens : (code : OpCode) → opens_try code ≡ false → flow_of code ≡ Some flows.OpensTry → ⊥
none_opens code shut flow = at (find_code code.prefix code.number) refl (ap opens_so flow)
  where
    tested : (b c : Bool) → not b || c ≡ true → b ≡ true → c ≡ false → ⊥
    tested true c h e f = absurd cc
    tested false c h e f = absurd cc

    at : (o : Option Entry) → find_code code.prefix code.number ≡ o → opens_so (flow_in o) ≡ true → ⊥
    at None found is = absurd cc
    at (Some e) found is = tested (opens_in e.flow) (opens_try code) (table_holds try_test rows_pass code.prefix code.number e found) is shut

-- no operator among these opens one
abbrev pub OpenNone : List (ℕ × Seen) → Type 0
OpenNone [] = Unit {0}
OpenNone (x ∷ xs) = (opens_try x.1.code ≡ false) × OpenNone xs

-- ---- trees

-- no block of the tree is a `try`
abbrev pub IsShut : Tree → Type 0
IsShut (Close o p) = Unit {0}
IsShut (Arm o p t) = IsShut t
IsShut (Skip o p t) = IsShut t
IsShut (Run o p t) = IsShut t
IsShut (Nest o p u t) = (opens_try o.code ≡ false) × IsShut u × IsShut t

abbrev AreShut : List Tree → Type 0
AreShut [] = Unit {0}
AreShut (t ∷ ts) = IsShut t × AreShut ts

one_shut : (op : Seen) (place : Option ℕ) (r : Role) (ts : List Tree) → opens_try op.code ≡ false → AreShut ts → AreShut (prepend r op place ts)
one_shut op place Passes [] e h = tt
one_shut op place Passes (t ∷ ts) e h = h
one_shut op place Runs [] e h = tt
one_shut op place Runs (t ∷ ts) e h = h
one_shut op place Turns [] e h = tt
one_shut op place Turns (t ∷ ts) e h = h
one_shut op place Opens [] e h = tt
one_shut op place Opens (u ∷ []) e h = tt
one_shut op place Opens (u ∷ (t ∷ ts)) e h = ((e, h.0, h.1.0), h.1.1)
one_shut op place Ends ts e h = (tt, h)

all_shut : (ops : List (ℕ × Seen)) (place : ℕ) → OpenNone ops → AreShut (open_in (map (λ (o : grammar.Placed). placed o.op (Some o.place)) (placed_from place ops)))
all_shut [] place h = tt
all_shut (x ∷ xs) place h = one_shut x.1 (Some place) (role x.1) _ h.0 (all_shut xs x.0 h.1)

first_shut : (ts : List Tree) → AreShut ts → IsShut (innermost ts)
first_shut [] h = tt
first_shut (t ∷ ts) h = h.0

normal_shut : (pick : BlockType → BlockType) (t : Tree) (bare dropped : Bool) → IsShut t → IsShut (normal_from pick t bare dropped)
normal_shut pick (Close o p) true dropped h = tt
normal_shut pick (Close o p) false dropped h = tt
normal_shut pick (Arm o p t) bare dropped h = normal_shut pick t false false h
normal_shut pick (Skip o p t) bare dropped h = normal_shut pick t bare dropped h
normal_shut pick (Run o p t) bare true h = normal_shut pick t bare true h
normal_shut pick (Run o p t) bare false h = normal_shut pick t bare (cuts o) h
normal_shut pick (Nest o p u t) bare true h = normal_shut pick t bare true h.2
normal_shut pick (Nest o p u t) bare false h = (h.0, normal_shut pick u (is_if o) false h.1, normal_shut pick t bare false h.2)

pub body_shut : (pick : BlockType → BlockType) (place : ℕ) (ops : List (ℕ × Seen)) → OpenNone ops → IsShut (normal pick (tree_of (map (λ (o : grammar.Placed). placed o.op (Some o.place)) (placed_from place ops))))
body_shut pick place ops h =
    let ts = open_in (map (λ (o : grammar.Placed). placed o.op (Some o.place)) (placed_from place ops)) in
    normal_shut pick (innermost ts) false false (first_shut ts (all_shut ops place h))

-- ---- sequences that weren't met

-- what they weigh together
abbrev unmet : (Seq → ℕ) → (ℕ → Bool) → List Seq → ℕ
unmet weight met [] = 0
unmet weight met (s ∷ b) = (if met 0 then 0 else weight s) + unmet weight (λ j. met (suc j)) b

same_seq : (x y : Seq) → ◌≡◌ {A = Option Seq} (Some x) (Some y) → x ≡ y
same_seq x y e = cc

-- the test of a later number, where one more was met
first_with : (met : ℕ → Bool) → ◌≡◌ {A = ℕ → Bool} (λ j. with 0 met (suc j)) (λ j. met (suc j))
first_with met = λ i. λ j. (ap (λ (c : Bool). if c then true else met (suc j)) (eqb-suc-zero j)) i

later_with : (k : ℕ) (met : ℕ → Bool) → ◌≡◌ {A = ℕ → Bool} (λ j. with (suc k) met (suc j)) (with k (λ j. met (suc j)))
later_with k met = λ i. λ j. (ap (λ (c : Bool). if c then true else met (suc j)) (eqb-suc-suc j k)) i

enter : (weight : Seq → ℕ) (b : List Seq) (met : ℕ → Bool) (k : ℕ) (s : Seq) → met k ≡ false → slice_get b k ≡ Some s → unmet weight met b ≡ weight s + unmet weight (with k met) b
enter weight [] met k s fresh found = absurd cc
enter weight (x ∷ b) met zero s fresh found =
    let later = unmet weight (λ j. met (suc j)) b in
    let a : (if met 0 then 0 else weight x) + later ≡ weight x + later = ap (λ (c : Bool). (if c then 0 else weight x) + later) fresh in
    let w : weight x ≡ weight s = ap weight (same_seq x s found) in
    let l : unmet weight (λ j. with 0 met (suc j)) b ≡ later = ap (λ (m : ℕ → Bool). unmet weight m b) (first_with met) in
    omega (arith, a, w, l)
enter weight (x ∷ b) met (suc k) s fresh found =
    let h = enter weight b (λ j. met (suc j)) k s fresh found in
    let c : (if with (suc k) met 0 then 0 else weight x) ≡ (if met 0 then 0 else weight x) = ap (λ (c : Bool). if (if c then true else met 0) then 0 else weight x) (eqb-zero-suc k) in
    let l : unmet weight (λ j. with (suc k) met (suc j)) b ≡ unmet weight (with k (λ j. met (suc j))) b = ap (λ (m : ℕ → Bool). unmet weight m b) (later_with k met) in
    omega (arith, h, c, l)

abbrev lasts : Seq → ℕ
lasts s = length s.instrs

abbrev tries : Seq → ℕ
tries s = if has_try s.instrs then 1 else 0

tries_least : (s : Seq) → tries s ≤ lasts s
tries_least s = go s.instrs
  where
    one : (c : Bool) (n : ℕ) → (if c then 1 else 0) ≤ suc n
    one true n = omega arith
    one false n = omega arith

    go : (is : List (Instr × InstrLocId)) → (if has_try is then 1 else 0) ≤ length is
    go [] = omega arith
    go (i ∷ is) = one (has_try (i ∷ is)) (length is)

least : (b : List Seq) (met : ℕ → Bool) → unmet tries met b ≤ unmet lasts met b
least [] met = omega arith
least (s ∷ b) met = go (met 0) (least b (λ j. met (suc j)))
  where
    go : (c : Bool) → unmet tries (λ j. met (suc j)) b ≤ unmet lasts (λ j. met (suc j)) b
        → (if c then 0 else tries s) + unmet tries (λ j. met (suc j)) b ≤ (if c then 0 else lasts s) + unmet lasts (λ j. met (suc j)) b
    go true h = omega (arith, h)
    go false h = let t = tries_least s in omega (arith, t, h)

all_unmet : (b : List Seq) → total b ≡ unmet lasts none b
all_unmet [] = refl
all_unmet (s ∷ b) = ap (λ (n : ℕ). length s.instrs + n) (all_unmet b)

-- ---- what lies as a tree

module _ (m : Meaning) (runs : (around : List ℕ) (o : Seen) (i : Instr) → m.runs around o i → is_try i ≡ false)
    (nests : (around : List ℕ) (o : Seen) (i : Instr) (q : Block) → opens_try o.code ≡ false → m.nests around o i q → is_try i ≡ false) (b : List Seq) where
  -- these instructions have no `try`, nor has a sequence that is met behind them; and they are the tree's
  record Lain (t : Tree) (met : ℕ → Bool) (is : List (Instr × InstrLocId)) (done : ℕ → Bool) : Type 0 where
    pub quiet : has_try is ≡ false
    pub counts : length is + unmet lasts met b ≡ tree_size t + unmet lasts done b
    pub tells : unmet tries met b ≡ unmet tries done b

  no_tries : (s : Seq) → has_try s.instrs ≡ false → tries s ≡ 0
  no_tries s e = ap (λ (c : Bool). if c then 1 else 0) e

  lain : (t : Tree) (around : List ℕ) (k : ℕ) (ty : InstrSeqType) (met : ℕ → Bool) (is : List (Instr × InstrLocId)) (e : InstrLocId) (ms : List Part) (f : Finish) (done : ℕ → Bool)
      → IsShut t → lies m t b around k ty met is e ms f done → Lain t met is done
  lain (Close o p) around k ty met [] e [] f done c (ends, place, same) = record {
    quiet = refl;
    counts = ap (λ (x : ℕ → Bool). 0 + unmet lasts x b) (sym same);
    tells = ap (λ (x : ℕ → Bool). unmet tries x b) (sym same);
  }
  lain (Close o p) around k ty met [] e (n ∷ ms) f done c h = absurd h
  lain (Close o p) around k ty met (i ∷ is) e ms f done c h = absurd h
  lain (Arm o p t) around k ty met [] e [] f done c h = absurd h
  lain (Arm o p t) around k ty met [] e (n ∷ ms) f done c (place, fresh, x, found, turns, lie) =
      let l = lain t around n.seq ty (with n.seq met) x.instrs x.end ms f done c lie in
      let a = enter lasts b met n.seq x fresh found in
      let w = enter tries b met n.seq x fresh found in
      let z = no_tries x l.quiet in
      let counts = l.counts in
      let tells = l.tells in
      record { quiet = refl; counts = omega (arith, a, counts); tells = omega (arith, w, z, tells) }
  lain (Arm o p t) around k ty met (i ∷ is) e ms f done c h = absurd h
  lain (Skip o p t) around k ty met [] e [] f done c h = absurd h
  lain (Skip o p t) around k ty met [] e (n ∷ ms) f done c h = absurd h
  lain (Skip o p t) around k ty met (i ∷ is) e ms f done c h = absurd h
  lain (Run o p t) around k ty met [] e [] f done c h = absurd h
  lain (Run o p t) around k ty met [] e (n ∷ ms) f done c h = absurd h
  lain (Run o p t) around k ty met (i ∷ is) e ms f done c (run, place, lie) =
      let l = lain t around k ty met is e ms f done c lie in
      let counts = l.counts in
      record { quiet = both (is_try i.0) (has_try is) (runs (k ∷ around) o i.0 run) l.quiet; counts = omega (arith, counts); tells = l.tells }
  lain (Nest o p u t) around k ty met [] e [] f done c h = absurd h
  lain (Nest o p u t) around k ty met [] e (n ∷ ms) f done c h = absurd h
  lain (Nest o p u t) around k ty met (i ∷ is) e ms f done c (q, nest, place, fresh, x, found, opens, half, inside, lie) =
      let v = lain u (k ∷ around) q.first x.ty (with q.first met) x.instrs x.end q.more q.finish half c.1 inside in
      let l = lain t around k ty half is e ms f done c.2 lie in
      let a = enter lasts b met q.first x fresh found in
      let w = enter tries b met q.first x fresh found in
      let z = no_tries x v.quiet in
      let inner = v.counts in
      let counts = l.counts in
      let before = v.tells in
      let tells = l.tells in
      record {
        quiet = both (is_try i.0) (has_try is) (nests (k ∷ around) o i.0 q c.0 nest) l.quiet;
        counts = omega (arith, a, inner, counts);
        tells = omega (arith, w, z, before, tells);
      }

  none_left : (t : Tree) → IsShut t → StandsAs m b t → unmet tries none b ≡ 0
  none_left t shut h =
      let n = h.enters in
      let l = lain t [] 0 h.ty (with 0 none) n.seq.instrs n.seq.end [] Ended h.done shut n.lie in
      let a = enter lasts b none 0 n.seq refl n.found in
      let w = enter tries b none 0 n.seq refl n.found in
      let z = no_tries n.seq l.quiet in
      let counts = l.counts in
      let tells = l.tells in
      let just = h.just in
      let all = all_unmet b in
      let few = least b h.done in
      omega (arith, a, w, z, counts, tells, just, all, few)

-- ---- of all sequences

none_have : (b : List InstrSeq) → unmet tries none (map seq_of b) ≡ 0 → have_try b ≡ false
none_have [] e = refl
none_have (s ∷ b) e = both (has_try s.instrs.items) (have_try b) (go (has_try s.instrs.items) refl) (none_have b (omega (arith, e)))
  where
    go : (c : Bool) → has_try s.instrs.items ≡ c → has_try s.instrs.items ≡ false
    go true h = absurd (let one : tries (seq_of s) ≡ 1 = ap (λ (c : Bool). if c then 1 else 0) h in omega (arith, one, e))
    go false h = h

pub stands_quiet : (m : Meaning) → ((around : List ℕ) (o : Seen) (i : Instr) → m.runs around o i → is_try i ≡ false)
    → ((around : List ℕ) (o : Seen) (i : Instr) (q : Block) → opens_try o.code ≡ false → m.nests around o i q → is_try i ≡ false)
    → (b : List InstrSeq) (t : Tree) → IsShut t → StandsAs m (map seq_of b) t → have_try b ≡ false
stands_quiet m runs nests b t shut h = none_have b (none_left m runs nests (map seq_of b) t shut h)
