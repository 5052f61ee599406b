-- Lemmas: the locals that operators name, one operator after another.
use Rattle.std.proofs.Common.{ℕ, zero, suc, ◌≡◌, ◌≢◌, ◌+◌, ◌-◌, ◌<◌, ◌≤◌, ◌==◌, ◌||◌, Bool, true, false, List, [], ◌∷◌, ◌++◌, All, length, map, inl, inr, Option, Some, None, Ok, Err, refl, ap, sym, subst, ◌∙◌, arith}
use Rattle.std.specs.List.{flat_map, list_any, range_with_len}
use Rattle.std.proofs.lemmas.Bool.{eq-eqb, eqb-false, eqb-true, ne_eqb}
use Rattle.std.proofs.lemmas.List.Elements.{All-nil, All-push}
use Rattle.wasm_features.specs.declared.WasmFeatures.{WasmFeatures}
use Rattle.wasm_reader.specs.Cursor.{Cursor, Window, Forward, rest}
use Rattle.wasm_reader.specs.Reading.{Reading}
use Rattle.walrus_pairing.specs.wasm_operators.Operators.{Seen, operator_at}
use Rattle.walrus_body_locals.specs.Named.{AreOperators, Notes, Steps, among, is_among, locals_of, named_of, names_local, one_of}

-- ---- names

or_assoc : (a b c : Bool) → (a || b) || c ≡ a || (b || c)
or_assoc true b c = refl
or_assoc false b c = refl

or_false : (b : Bool) → (b || false) ≡ b
or_false true = refl
or_false false = refl

any_more : (n : ℕ) (xs ys : List ℕ) → is_among (xs ++ ys) n ≡ (is_among xs n || is_among ys n)
any_more n [] ys = refl
any_more n (x ∷ xs) ys = ap (λ (b : Bool). (x == n) || b) (any_more n xs ys) ∙ sym (or_assoc (x == n) (is_among xs n) (is_among ys n))

-- what was read, and what is left
seen_in : Reading (Option Seen) → Option Seen
seen_in (Ok x) = x.0
seen_in (Err e) = None

later_in : Reading (Option Seen) → List ℕ
later_in (Ok x) = x.1
later_in (Err e) = []

some_is : (x y : Seen) → Some x ≡ Some y → x ≡ y
some_is x y e = cc

-- ---- some operators were read

pub record Scanned (params count : ℕ) (start now : Cursor) (ns : List ℕ) : Type 0 where
  pub below : All (λ n. n < count) ns
  pub moves : Forward start now
  pub goes : (ops : List Seen) → AreOperators start.window.features (rest start) ops
      → (left : List Seen) × AreOperators start.window.features (rest now) left × ((n : ℕ) → n < count → names_local ops (params + n) ≡ (is_among ns n || names_local left (params + n)))

pub scan_starts : (params count : ℕ) (start : Cursor) → Scanned params count start start []
scan_starts params count start = record {
  below = All-nil (λ n. n < count);
  moves = record { window = refl; forward = omega arith; within = λ h. h };
  goes = λ ops are. (ops, are, λ n lt. refl);
}

module _ (params count : ℕ) (start now next : Cursor) (ns ms : List ℕ) (h : Scanned params count start now ns) where
  features_same : now.window.features ≡ start.window.features
  features_same = ap (λ (w : Window). w.features) h.moves.window

  pub scan_on : Steps params count now next ns ms true → Scanned params count start next ms
  unfolding seen_in later_in
  scan_on s = record {
    below = s.2.below h.below;
    moves = record {
      window = s.3.window ∙ h.moves.window;
      forward = let a = h.moves.forward in let b = s.3.forward in omega (arith, a, b);
      within = λ w. s.3.within (h.moves.within w);
    };
    goes = λ ops are. let r = h.goes ops are in go ops r.0 r.1 r.2;
  }
    where
      here : operator_at start.window.features (rest now) ≡ Ok (Some s.0, rest next)
      here = ap (λ (f : WasmFeatures). operator_at f (rest now)) (sym features_same) ∙ s.1

      go : (ops left : List Seen) → AreOperators start.window.features (rest now) left → ((n : ℕ) → n < count → names_local ops (params + n) ≡ (is_among ns n || names_local left (params + n)))
          → (left : List Seen) × AreOperators start.window.features (rest next) left × ((n : ℕ) → n < count → names_local ops (params + n) ≡ (is_among ms n || names_local left (params + n)))
      go ops [] are names = absurd (let l = s.4 in let none : length (rest now) ≡ 0 = ap length are in omega (arith, l, none))
      go ops (op ∷ left) (later, reads, are) names =
          let same : op ≡ s.0 = some_is op s.0 (ap seen_in (sym reads ∙ here)) in
          let rests : later ≡ rest next = ap later_in (sym reads ∙ here) in (
            left,
            subst (λ (l : List ℕ). AreOperators start.window.features l left) rests are,
            λ n lt.
                names n lt
                ∙ ap (λ (b : Bool). is_among ns n || b) (any_more (params + n) (locals_of op) (flat_map locals_of left) ∙ ap (λ (o : Seen). is_among (locals_of o) (params + n) || names_local left (params + n)) same)
                ∙ sym (or_assoc (is_among ns n) (is_among (locals_of s.0) (params + n)) (names_local left (params + n)))
                ∙ ap (λ (b : Bool). b || names_local left (params + n)) (sym (s.2.are n lt)),
          )

  -- where there is no next one, all were read
  pub scan_ends : Steps params count now next ns ms false → (ops : List Seen) → AreOperators start.window.features (rest start) ops → (n : ℕ) → n < count → names_local ops (params + n) ≡ is_among ns n
  scan_ends s ops are n lt = let r = h.goes ops are in go r.0 r.1 (r.2 n lt)
    where
      go : (left : List Seen) → AreOperators start.window.features (rest now) left → names_local ops (params + n) ≡ (is_among ns n || names_local left (params + n)) → names_local ops (params + n) ≡ is_among ns n
      go [] are names = names ∙ or_false (is_among ns n)
      go (op ∷ left) (later, reads, are) names = absurd (s.0 op later (ap (λ (f : WasmFeatures). operator_at f (rest now)) features_same ∙ reads))

-- ---- those that were noted, as those that are kept

pub among_many : (count : ℕ) (ns : List ℕ) → length (among count ns) ≡ count
among_many count ns = many count 0
  where
    many : (k from : ℕ) → length (map (is_among ns) (range_with_len from k)) ≡ k
    many zero from = refl
    many (suc k) from = ap suc (many k (from + 1))

pub among_named : (params count : ℕ) (ns : List ℕ) (ops : List Seen) → ((n : ℕ) → n < count → names_local ops (params + n) ≡ is_among ns n) → among count ns ≡ named_of params count ops
among_named params count ns ops h = go count 0 params (omega arith) (λ n lt. h n (omega (arith, lt)))
  where
    go : (k from at : ℕ) → at ≡ params + from → ((n : ℕ) → n < from + k → names_local ops (params + n) ≡ is_among ns n) → map (is_among ns) (range_with_len from k) ≡ map (names_local ops) (range_with_len at k)
    go zero from at e h = refl
    go (suc k) from at e h =
        ap (λ (b : Bool). b ∷ map (is_among ns) (range_with_len (from + 1) k)) (sym (h from (omega arith)) ∙ ap (names_local ops) (sym e))
        ∙ ap (λ (l : List Bool). names_local ops at ∷ l) (go k (from + 1) (at + 1) (omega (arith, e)) (λ n lt. h n (omega (arith, lt))))

-- ---- a number is noted

or_nothing : (b : Bool) → b ≡ (b || (false || false))
or_nothing true = refl
or_nothing false = refl

-- one that is none of these locals
pub notes_none : (params count number : ℕ) (ns : List ℕ) → ((n : ℕ) → n < count → number ≢ params + n) → Notes params count (number ∷ []) ns ns
notes_none params count number ns other = record {
  below = λ h. h;
  are = λ n lt. or_nothing (is_among ns n) ∙ ap (λ (b : Bool). is_among ns n || (b || false)) (sym (ne_eqb number (params + n) (other n lt)));
}

pub notes_one : (params count number own : ℕ) (ns ms : List ℕ) → params + own ≡ number → own < count → ms ≡ ns ++ own ∷ [] → Notes params count (number ∷ []) ns ms
notes_one params count number own ns ms is lt e = record {
  below = λ h. subst (All (λ n. n < count)) (sym e) (All-push (λ n. n < count) ns own h lt);
  are = λ n below.
      ap (λ (l : List ℕ). is_among l n) e ∙ any_more n ns (own ∷ [])
      ∙ ap (λ (b : Bool). is_among ns n || (b || false)) (same n);
}
  where
    same : (n : ℕ) → (own == n) ≡ (number == params + n)
    same n = go (own == n) refl
      where
        go : (b : Bool) → (own == n) ≡ b → (own == n) ≡ (number == params + n)
        go true at = at ∙ sym (eq-eqb number (params + n) (let q = eqb-true own n at in omega (arith, q, is)))
        go false at = at ∙ sym (ne_eqb number (params + n) (λ q. eqb-false own n at (omega (arith, q, is))))

-- none more
pub notes_nothing : (params count : ℕ) (ns : List ℕ) → Notes params count [] ns ns
notes_nothing params count ns = record { below = λ h. h; are = λ n lt. sym (or_false (is_among ns n)) }

-- what an operator names is noted, or it names none
pub notes_named : (params count number : ℕ) (locals : List ℕ) (found : Option ℕ) (ns ms : List ℕ) → locals ≡ one_of found → found ≡ Some number → Notes params count (number ∷ []) ns ms → Notes params count locals ns ms
notes_named params count number locals found ns ms names is h = subst (λ (l : List ℕ). Notes params count l ns ms) (sym (names ∙ ap one_of is)) h

pub notes_unnamed : (params count : ℕ) (locals : List ℕ) (found : Option ℕ) (ns ms : List ℕ) → locals ≡ one_of found → found ≡ None → ms ≡ ns → Notes params count locals ns ms
notes_unnamed params count locals found ns ms names is same =
    subst (λ (l : List ℕ). Notes params count l ns ms) (sym (names ∙ ap one_of is)) (subst (Notes params count [] ns) (sym same) (notes_nothing params count ns))
