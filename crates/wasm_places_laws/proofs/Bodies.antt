-- Lemmas: the pairs of operators one behind another.
use Rattle.std.specs.Prelude.{ℕ, zero, suc, ◌+◌, ◌<◌, ◌≤◌, ◌≡◌, ◌==◌, ◌%◌, Bool, true, false, List, [], ◌∷◌, ◌++◌, AllPairs, Contains, length, Some, slice_get, if◌then◌else◌, refl}
use Rattle.std.specs.List.{flat_map}
use Rattle.std.proofs.Common.{ap, sym, ◌∙◌, subst, inl, inr, arith}
use Rattle.std.proofs.lemmas.Bool.{eqb-true, eq-eqb, false≢true}
use Rattle.std.proofs.lemmas.List.{length-append}
use Rattle.std.proofs.lemmas.List.Elements.{Contains-append_cases, Contains-append_left, Contains-append_right}
use Rattle.std.proofs.lemmas.List.Kept.{AllPairs-cons}
use Rattle.wasm_operators.specs.Bytes.{code_bytes, item_bytes, operator_bytes, unsigned_bytes}
use Rattle.wasm_operators.specs.declared.op_code.OpCode.{OpCode}
use Rattle.wasm_operators.specs.Operators.{Seen}
use Rattle.wasm_grammar.specs.Modules.{Placed}
use Rattle.wasm_places_laws.specs.Begun.{begun}
use Rattle.wasm_places_laws.specs.Bodies.{BodyPairsAreTrue, IsPair}
use Rattle.wasm_places_laws.specs.Pairs.{if_carried, pairs_at}
use Rattle.wasm_places_laws.proofs.Lists.{all_in, nothing, one_alone, some_is}

-- ---- an operator takes a byte at least

code_some : (code : OpCode) → 0 < length (code_bytes code)
code_some code = go (code.prefix == 0)
  where
    go : (b : Bool) → 0 < length (if b then code.number % 256 ∷ [] else (code.prefix ∷ unsigned_bytes code.number))
    go true = omega arith
    go false = omega arith

pub operator_some : (op : Seen) → 0 < length (operator_bytes op)
operator_some op =
    let some = code_some op.code in
    let all = length-append (code_bytes op.code) (flat_map item_bytes op.items) in
    omega (arith, some, all)

-- ---- one pair

in_carried : (none old new : ℕ) → (old ≡ none → ⊥) → Contains (if_carried none old new) (old, new)
in_carried none old new some = go (old == none) refl
  where
    go : (b : Bool) → (old == none) ≡ b → Contains {X = ℕ × ℕ} (if b then [] else (old, new) ∷ []) (old, new)
    go true e = absurd (some (eqb-true old none e))
    go false e = (0, omega arith, refl)

of_carried : (none old new : ℕ) (q : ℕ × ℕ) → Contains (if_carried none old new) q → (◌≡◌ {A = ℕ × ℕ} (old, new) q) × (old ≡ none → ⊥)
of_carried none old new q c = go (old == none) refl c
  where
    go : (b : Bool) → (old == none) ≡ b → Contains {X = ℕ × ℕ} (if b then [] else (old, new) ∷ []) q → (◌≡◌ {A = ℕ × ℕ} (old, new) q) × (old ≡ none → ⊥)
    go true e c = nothing q c
    go false e c = (one_alone (old, new) q c, λ is. false≢true (sym e ∙ eq-eqb old none is))

-- ---- all of them

abbrev pub ops_bytes : List Placed → List ℕ
ops_bytes ops = flat_map (λ (o : Placed). operator_bytes o.op) ops

module _ (none : ℕ) where
  pub pair_in : (at : ℕ) (ops : List Placed) (i : ℕ) (s t : Placed) → slice_get ops i ≡ Some s → slice_get (begun at ops) i ≡ Some t → (s.place ≡ none → ⊥)
      → Contains (pairs_at none at ops) (s.place, t.place)
  pair_in at [] i s t e f some = absurd cc
  pair_in at (o ∷ ops) zero s t e f some =
      let source : o ≡ s = some_is o s e in
      let target : record { place = at; op = o.op } ≡ t = some_is (record { place = at; op = o.op }) t f in
      let rest = pairs_at none (at + length (operator_bytes o.op)) ops in
      let carried = in_carried none o.place at (λ is. some (ap (λ (p : Placed). p.place) (sym source) ∙ is)) in
      subst (λ (q : ℕ × ℕ). Contains (if_carried none o.place at ++ rest) q) (λ k. ((source k).place, (target k).place)) (Contains-append_left (if_carried none o.place at) rest (o.place, at) carried)
  pair_in at (o ∷ ops) (suc i) s t e f some =
      let next = at + length (operator_bytes o.op) in
      Contains-append_right (if_carried none o.place at) (pairs_at none next ops) (s.place, t.place) (pair_in next ops i s t e f some)

  pub pair_of : (at : ℕ) (ops : List Placed) (q : ℕ × ℕ) → Contains (pairs_at none at ops) q → IsPair none ops (begun at ops) q.0 q.1
  pair_of at [] q c = nothing q c
  pair_of at (o ∷ ops) q c =
      let next = at + length (operator_bytes o.op) in
      elim (Contains-append_cases (if_carried none o.place at) (pairs_at none next ops) q c) as (λ _. IsPair none (o ∷ ops) (begun at (o ∷ ops)) q.0 q.1) [
        | inl here ↦ let h = of_carried none o.place at q here in record {
          i = 0;
          source = o;
          target = record { place = at; op = o.op };
          carries = refl;
          from = ap (λ (p : ℕ × ℕ). p.0) h.0;
          some = λ is. h.1 (ap (λ (p : ℕ × ℕ). p.0) h.0 ∙ is);
          stands = refl;
          to = ap (λ (p : ℕ × ℕ). p.1) h.0;
        }
        | inr later ↦ let r = pair_of next ops q later in record {
          i = suc r.i;
          source = r.source;
          target = r.target;
          carries = r.carries;
          from = r.from;
          some = r.some;
          stands = r.stands;
          to = r.to;
        }
      ]

  -- they begin inside the bytes
  pub within : (at : ℕ) (ops : List Placed) (q : ℕ × ℕ) → Contains (pairs_at none at ops) q → (at ≤ q.1) × (q.1 < at + length (ops_bytes ops))
  within at [] q c = nothing q c
  within at (o ∷ ops) q c =
      let next = at + length (operator_bytes o.op) in
      let some = operator_some o.op in
      let all = length-append (operator_bytes o.op) (ops_bytes ops) in
      elim (Contains-append_cases (if_carried none o.place at) (pairs_at none next ops) q c) as (λ _. (at ≤ q.1) × (q.1 < at + length (operator_bytes o.op ++ ops_bytes ops))) [
        | inl here ↦ let is : at ≡ q.1 = ap (λ (p : ℕ × ℕ). p.1) (of_carried none o.place at q here).0 in (omega (arith, is), omega (arith, is, some, all))
        | inr later ↦ let r = within next ops q later in (let low = r.0 in omega (arith, low), let high = r.1 in omega (arith, high, all))
      ]

  abbrev pub Below : ℕ × ℕ → ℕ × ℕ → Type 0
  Below q r = q.1 < r.1

  rising_behind : (at : ℕ) (o : Placed) (ops : List Placed) (b : Bool) → AllPairs Below (pairs_at none (at + length (operator_bytes o.op)) ops)
      → AllPairs Below ((if b then [] else (o.place, at) ∷ []) ++ pairs_at none (at + length (operator_bytes o.op)) ops)
  rising_behind at o ops true h = h
  rising_behind at o ops false h =
      let next = at + length (operator_bytes o.op) in
      let rest = pairs_at none next ops in
      let above : (q : ℕ × ℕ) → Contains rest q → at < q.1 = λ q c. let low = (within next ops q c).0 in let some = operator_some o.op in omega (arith, low, some) in
      AllPairs-cons Below (o.place, at) rest (all_in (Below (o.place, at)) rest above) h

  pub rising : (at : ℕ) (ops : List Placed) → AllPairs Below (pairs_at none at ops)
  rising at [] = λ i j d before inside. absurd (omega (arith, inside))
  rising at (o ∷ ops) = rising_behind at o ops (o.place == none) (rising (at + length (operator_bytes o.op)) ops)

pub body_pairs_true : BodyPairsAreTrue
body_pairs_true none at ops = record {
  true_pairs = all_in (λ (q : ℕ × ℕ). IsPair none ops (begun at ops) q.0 q.1) (pairs_at none at ops) (pair_of none at ops);
  rising = rising none at ops;
  whole = λ old new h.
      let there = pair_in none at ops h.i h.source h.target h.carries h.stands (λ is. h.some (sym h.from ∙ is)) in
      subst (λ (q : ℕ × ℕ). Contains (pairs_at none at ops) q) (λ k. (h.from k, h.to k)) there;
}
