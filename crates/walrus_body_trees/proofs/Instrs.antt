-- Lemmas: what an instruction that is read holds, and which labels it names.
use Rattle.std.proofs.Common.{ℕ, zero, suc, ◌<◌, ◌≡◌, Bool, true, false, List, [], ◌∷◌, ◌++◌, length, map, Option, Some, None, Ok, refl, sym, ap, subst, ◌∙◌, inl, inr}
use Rattle.std.specs.Prelude.{◌+◌, ◌-◌, ◌==◌, ◌&&◌, nat_le, nat_lt, slice_get, if◌then◌else◌}
use Rattle.wasm_features.specs.declared.WasmFeatures.{WasmFeatures}
use Rattle.walrus_meaning.specs.walrus_body_writer.walrus_pairing.wasm_operators.declared.clause.Clause.{Clause}
use Rattle.walrus_meaning.specs.walrus_body_writer.walrus_pairing.wasm_operators.declared.clause.Clause.TheVariants as handlers
use Rattle.walrus_meaning.specs.walrus_body_writer.walrus_pairing.wasm_operators.Items.{Space, Labels, Item, Names, Byte, Heap, ManyLabels}
use Rattle.walrus_meaning.specs.walrus_local_function.walrus_body_parser.wasm_operators.declared.op_code.OpCode.{OpCode}
use Rattle.walrus_meaning.specs.walrus_local_function.walrus_body_parser.wasm_operators.Operators.{Seen}
use Rattle.wasm_operators.specs.Ranges.{OperatorFits}
use Rattle.walrus_meaning.specs.walrus_body_writer.walrus_pairing.walrus_forms.declared.value.RefType.{RefType}
use Rattle.walrus_meaning.specs.walrus_body_writer.walrus_body_env.walrus_instr.declared.instr.Instr.{Instr}
use Rattle.walrus_meaning.specs.walrus_body_writer.walrus_body_env.walrus_instr.declared.instr.Instr.TheVariants as instrs
use Rattle.walrus_meaning.specs.walrus_body_writer.walrus_body_env.walrus_instr.declared.instr.LegacyCatch.{LegacyCatch}
use Rattle.walrus_meaning.specs.walrus_body_writer.walrus_body_env.walrus_instr.declared.instr.LegacyCatch.TheVariants as legacy
use Rattle.walrus_meaning.specs.walrus_body_writer.walrus_body_env.walrus_instr.declared.instr.TryTableCatch.{TryTableCatch}
use Rattle.walrus_meaning.specs.walrus_body_writer.walrus_tree.walrus_walks.Tree.{children, handlers as handlers_of}
use Rattle.walrus_tree.specs.Trees.{Has, HasAll, Delegates, IsWithin, clause_label}
use Rattle.walrus_meaning.specs.walrus_body_writer.walrus_pairing.walrus_codes.Runs.{Run, in_runs}
use Rattle.walrus_meaning.specs.walrus_body_writer.walrus_pairing.Read.{at, of_bytes, of_objects, instr_at}
use Rattle.walrus_meaning.specs.walrus_body_writer.walrus_pairing.Write.{operator_at}
use Rattle.walrus_pairing.specs.Laws.{OperatorComesBack, all}
use Rattle.walrus_meaning.specs.walrus_local_function.walrus_body_locals.walrus_body_nesting.declared.frames.Opener.{Opener}
use Rattle.walrus_meaning.specs.walrus_local_function.walrus_body_locals.walrus_body_nesting.declared.frames.Opener.TheVariants as openers
use Rattle.walrus_meaning.specs.walrus_local_function.walrus_body_locals.walrus_body_nesting.Stands.{Part, Finish, Ended, Delegated, Block, parts_of, finish_of, EndsOnce}
use Rattle.walrus_meaning.specs.walrus_local_function.walrus_body_locals.walrus_body_nesting.Opens.{Makes}
use Rattle.walrus_meaning.specs.walrus_local_function.walrus_body_parser.walrus_body_rules.Sights.{Sight, look}
use Rattle.walrus_meaning.specs.walrus_local_function.walrus_body_parser.walrus_body_steps.Meanings.{AreLabels, RunsAs, IsClause, AreClauses, IsOpener, branch_at, cast_at}
use Rattle.walrus_body_trees.proofs.Counted.{Names1}

abbrev pub seqs_in : List Part → List ℕ
seqs_in ms = map (λ (p : Part). p.seq) ms

-- what ends a block inside so many sequences
abbrev pub Finishes : ℕ → Finish → Type 0
Finishes n Ended = Unit {0}
Finishes n (Delegated k) = k < n

-- ---- labels that are around

pub has_at : (xs : List ℕ) (n k : ℕ) → slice_get xs n ≡ Some k → Has xs k
has_at [] n k e = absurd cc
has_at (x ∷ xs) zero k e = inl (let f = e in cc)
has_at (x ∷ xs) (suc n) k e = inr (has_at xs n k e)

labels_have : (around ns ks : List ℕ) → AreLabels around ns ks → HasAll around ks
labels_have around [] ks h = subst (HasAll around) (sym h) tt
labels_have around (n ∷ ns) ks h = subst (HasAll around) (sym h.2) (has_at around n h.0 h.3, labels_have around ns h.1 h.4)

all_append : (around xs ys : List ℕ) → HasAll around xs → HasAll around ys → HasAll around (xs ++ ys)
all_append around [] ys h g = g
all_append around (x ∷ xs) ys h g = (h.0, all_append around xs ys h.1 g)

module _ (s : Sight) (around : List ℕ) where
  clause_has : (h : Clause) (c : TryTableCatch) → IsClause s around h c → Has around (clause_label c)
  clause_has (handlers.Catch tag n) c (t, k, found, there, is) = subst (λ (d : TryTableCatch). Has around (clause_label d)) (sym is) (has_at around n k there)
  clause_has (handlers.CatchRef tag n) c (t, k, found, there, is) = subst (λ (d : TryTableCatch). Has around (clause_label d)) (sym is) (has_at around n k there)
  clause_has (handlers.CatchAll n) c (k, there, is) = subst (λ (d : TryTableCatch). Has around (clause_label d)) (sym is) (has_at around n k there)
  clause_has (handlers.CatchAllRef n) c (k, there, is) = subst (λ (d : TryTableCatch). Has around (clause_label d)) (sym is) (has_at around n k there)

  clauses_have : (hs : List Clause) (cs : List TryTableCatch) → AreClauses s around hs cs → HasAll around (map clause_label cs)
  clauses_have [] cs h = subst (λ (ds : List TryTableCatch). HasAll around (map clause_label ds)) (sym h) tt
  clauses_have (c ∷ hs) cs (d, ds, is, one, rest) =
      subst (λ (es : List TryTableCatch). HasAll around (map clause_label es)) (sym is) (clause_has c d one, clauses_have hs ds rest)

-- ---- blocks

handlers_are : (cs : List LegacyCatch) → EndsOnce cs → handlers_of cs ≡ seqs_in (parts_of cs)
handlers_are [] h = refl
handlers_are (legacy.Catch tag k ∷ cs) h = ap (λ (ks : List ℕ). k ∷ ks) (handlers_are cs h)
handlers_are (legacy.CatchAll k ∷ cs) h = ap (λ (ks : List ℕ). k ∷ ks) (handlers_are cs h)
handlers_are (legacy.Delegate n ∷ cs) h = ap handlers_of h

delegates_are : (n : ℕ) (cs : List LegacyCatch) → EndsOnce cs → Finishes n (finish_of cs) → Delegates n cs
delegates_are n [] h f = tt
delegates_are n (legacy.Catch tag k ∷ cs) h f = delegates_are n cs h f
delegates_are n (legacy.CatchAll k ∷ cs) h f = delegates_are n cs h f
delegates_are n (legacy.Delegate k ∷ cs) h f = (f, h)

pub made_children : (g : Opener) (i : Instr) (q : Block) → Makes g i q → children i ≡ q.first ∷ seqs_in q.more
made_children openers.Block i q h = ap children h.0 ∙ ap (λ (ms : List Part). q.first ∷ seqs_in ms) (sym h.1)
made_children openers.Loop i q h = ap children h.0 ∙ ap (λ (ms : List Part). q.first ∷ seqs_in ms) (sym h.1)
made_children openers.If i q h = ap children h.1 ∙ ap (λ (ms : List Part). q.first ∷ seqs_in ms) (sym h.2)
made_children openers.Try i q h =
    ap children h.1 ∙ ap (λ (ks : List ℕ). q.first ∷ ks) (handlers_are h.0.items h.4) ∙ ap (λ (ms : List Part). q.first ∷ seqs_in ms) (sym h.2)
made_children (openers.TryTable cs) i q h = ap children h.0 ∙ ap (λ (ms : List Part). q.first ∷ seqs_in ms) (sym h.1)

pub made_within : (s : Sight) (around : List ℕ) (op : Seen) (g : Opener) (i : Instr) (q : Block) → Makes g i q → IsOpener s around op g → Finishes (length around) q.finish → IsWithin around i
made_within s around op openers.Block i q h is f = subst (IsWithin around) (sym h.0) (record { named = tt; counted = tt })
made_within s around op openers.Loop i q h is f = subst (IsWithin around) (sym h.0) (record { named = tt; counted = tt })
made_within s around op openers.If i q h is f = subst (IsWithin around) (sym h.1) (record { named = tt; counted = tt })
made_within s around op openers.Try i q h is f =
    subst (IsWithin around) (sym h.1) (record { named = tt; counted = delegates_are (length around) h.0.items h.4 (subst (Finishes (length around)) h.3 f) })
made_within s around op (openers.TryTable cs) i q h is f =
    subst (IsWithin around) (sym h.0) (record { named = clauses_have s around is.2 cs.items is.4; counted = tt })

-- ---- what stands in a sequence

-- it holds no sequence, and its labels name what is around it
abbrev pub StandsIn : List ℕ → Instr → Type 0
StandsIn around i = IsWithin around i × (children i ≡ [])

plain_stands : (around : List ℕ) (i : Instr) (x : Seen) → operator_at all i ≡ Ok (Some x) → StandsIn around i
unfolding operator_at
plain_stands around (instrs.Block k) x e = absurd cc
plain_stands around (instrs.Loop k) x e = absurd cc
plain_stands around (instrs.IfElse k j) x e = absurd cc
plain_stands around (instrs.Try k cs) x e = absurd cc
plain_stands around (instrs.TryTable k cs) x e = absurd cc
plain_stands around (instrs.Br k) x e = absurd cc
plain_stands around (instrs.BrIf k) x e = absurd cc
plain_stands around (instrs.BrTable k ks) x e = absurd cc
plain_stands around (instrs.BrOnNull k) x e = absurd cc
plain_stands around (instrs.BrOnNonNull k) x e = absurd cc
plain_stands around (instrs.BrOnCast k from to) x e = absurd cc
plain_stands around (instrs.BrOnCastFail k from to) x e = absurd cc
plain_stands around (instrs.Rethrow n) x e = absurd cc
plain_stands around _ x e = (record { named = tt; counted = tt }, refl)

-- what each of some runs has
module _ (P : Instr → Type 0) where
  abbrev Each : List Instr → Type 0
  Each [] = Unit {0}
  Each (i ∷ is) = P i × Each is

  abbrev pub InAll : List (Run Instr) → Type 0
  InAll [] = Unit {0}
  InAll (r ∷ rs) = Each r.ops × InAll rs

  each_at : (is : List Instr) (n : ℕ) (i : Instr) → Each is → slice_get is n ≡ Some i → P i
  each_at [] n i h e = absurd cc
  each_at (j ∷ is) zero i h e = subst P (let f = e in cc) h.0
  each_at (j ∷ is) (suc n) i h e = each_at is n i h.1 e

  runs_have : (rs : List (Run Instr)) (n : ℕ) (i : Instr) → InAll rs → in_runs rs n ≡ Some i → P i
  runs_have [] n i h e = absurd cc
  runs_have (r ∷ rs) n i h e = go (nat_le r.first n && nat_lt n (r.first + length r.ops)) e (runs_have rs n i h.1)
    where
      go : (c : Bool) → (if c then slice_get r.ops (n - r.first) else in_runs rs n) ≡ Some i → (in_runs rs n ≡ Some i → P i) → P i
      go true e later = each_at r.ops (n - r.first) i h.0 e
      go false e later = later e

  pub bytes_have : (rs : List (Run Instr)) (code : OpCode) (i : Instr) → InAll rs → of_bytes rs code ≡ Some i → P i
  bytes_have rs code i h e = go (code.prefix == 0) e
    where
      go : (c : Bool) → (if c then in_runs rs code.number else None) ≡ Some i → P i
      go true e = runs_have rs code.number i h e
      go false e = absurd cc

  pub objects_have : (rs os : List (Run Instr)) (code : OpCode) (i : Instr) → InAll rs → InAll os → of_objects rs os code ≡ Some i → P i
  objects_have rs os code i h g e = go (code.prefix == 0xfb) e
    where
      go : (c : Bool) → (if c then in_runs os code.number else of_bytes rs code) ≡ Some i → P i
      go true e = runs_have os code.number i g e
      go false e = bytes_have rs code i h e

abbrev value_of : Option ℕ → ℕ
value_of (Some id) = id
value_of None = 0

module _ (back : OperatorComesBack) (features : WasmFeatures) (s : Sight) (around : List ℕ) where
  abbrev P : Instr → Type 0
  P = StandsIn around

  branch_stands : (code : OpCode) (k : ℕ) (i : Instr) → Has around k → branch_at code k ≡ Some i → StandsIn around i
  branch_stands code k i has e =
      let here : IsWithin around (instrs.Br k) = record { named = (has, tt); counted = tt } in
      let on : IsWithin around (instrs.BrIf k) = record { named = (has, tt); counted = tt } in
      let null : IsWithin around (instrs.BrOnNull k) = record { named = (has, tt); counted = tt } in
      let other : IsWithin around (instrs.BrOnNonNull k) = record { named = (has, tt); counted = tt } in
      bytes_have P (at 0x0c (instrs.Br k) ∷ at 0x0d (instrs.BrIf k) ∷ at 0xd5 (instrs.BrOnNull k) ∷ at 0xd6 (instrs.BrOnNonNull k) ∷ []) code i
      (((here, refl), tt), (((on, refl), tt), (((null, refl), tt), (((other, refl), tt), tt)))) e

  cast_stands : (code : OpCode) (k : ℕ) (from to : RefType) (i : Instr) → Has around k → cast_at code k from to ≡ Some i → StandsIn around i
  cast_stands code k from to i has e =
      let here : IsWithin around (instrs.BrOnCast k from to) = record { named = (has, tt); counted = tt } in
      let fail : IsWithin around (instrs.BrOnCastFail k from to) = record { named = (has, tt); counted = tt } in
      objects_have P [] (at 24 (instrs.BrOnCast k from to) ∷ at 25 (instrs.BrOnCastFail k from to) ∷ []) code i tt (((here, refl), tt), (((fail, refl), tt), tt)) e

  -- each number is renamed as it is looked up
  abbrev renames : Space → ℕ → ℕ
  renames space n = value_of (look s space n)

  pub read_stands : (op : Seen) (i : Instr) → OperatorFits features op → instr_at (look s) op ≡ Ok (Some i) → StandsIn around i
  read_stands op i fits e = plain_stands around i _ (back renames (look s) all (λ space n id f. ap (λ (o : Option ℕ). Some (value_of o)) (sym f)) features op i fits e)

  pub run_stands : (op : Seen) (i : Instr) → RunsAs s around op.code op.items i → OperatorFits features op → Names1 (length around) op → StandsIn around i
  run_stands op i h fits named = go op.items refl h
    where
      go : (items : List Item) → op.items ≡ items → RunsAs s around op.code items i → StandsIn around i
      go (Names Labels n ∷ []) e (inl h) = subst (StandsIn around) (sym h.1) (record { named = tt; counted = named n e }, refl)
      go (Names Labels n ∷ []) e (inr (k, there, is)) = branch_stands op.code k i (has_at around n k there) is
      go (ManyLabels ns ∷ Names Labels n ∷ []) e (ks, k, are, there, is) =
          subst (StandsIn around) (sym is) (record { named = all_append around ks.items (k ∷ []) (labels_have around ns ks.items are) (has_at around n k there, tt); counted = tt }, refl)
      go (Byte b ∷ Names Labels n ∷ Heap x ∷ Heap y ∷ []) e (k, from, to, there, f, t, is) = cast_stands op.code k _ _ i (has_at around n k there) is
      go _ e h = read_stands op i fits (ap (λ items. instr_at (look s) (record { code = op.code; items = items })) e ∙ h)
