-- Lemmas: how many instructions the sequences of a body hold that is read.
use Rattle.std.proofs.Common.{ℕ, zero, suc, ◌+◌, ◌<◌, ◌≤◌, ◌≡◌, ◌≢◌, List, [], ◌∷◌, ◌++◌, length, refl, sym, ap, subst, arith, ◌∙◌, length-append}
use Rattle.walrus_body_env.specs.walrus_instr.declared.instr.Instr.{Instr}
use Rattle.walrus_body_env.specs.walrus_instr.declared.seq.InstrLocId.{InstrLocId}
use Rattle.walrus_body_env.specs.walrus_instr.declared.seq.InstrSeqType.{InstrSeqType}
use Rattle.walrus_builder.specs.Built.{Seq, edited, filled_with, empty_seq}
use Rattle.wasm_body_grammar.specs.Frames.{Frame}
use Rattle.walrus_body_nesting.specs.declared.frames.Opener.{Opener}
use Rattle.walrus_body_nesting.specs.declared.frames.Reach.{Reach}
use Rattle.walrus_body_nesting.specs.declared.frames.Reach.TheVariants.{Live, Cut, Dropped}
use Rattle.walrus_body_nesting.specs.Stands.{Turn, total}
use Rattle.walrus_body_nesting.specs.Opens.{Open, ids_of, Falling, Grower, reach_in, reach_on, begun, turned_to, IsReached, weight, weight_in, instrs_at, AreBare, AreAround, Holds}
use Rattle.walrus_body_nesting.specs.Seqs.{falling_up}

-- ---- what sequences hold

instrs_begun : (b : List Seq) (n : ℕ) (ty : InstrSeqType) (k : ℕ) → instrs_at (b ++ empty_seq n ty ∷ []) k ≡ instrs_at b k
instrs_begun [] n ty zero = refl
instrs_begun [] n ty (suc k) = refl
instrs_begun (s ∷ b) n ty zero = refl
instrs_begun (s ∷ b) n ty (suc k) = instrs_begun b n ty k

instrs_past : (b : List Seq) (k : ℕ) → length b ≤ k → instrs_at b k ≡ []
instrs_past [] k l = refl
instrs_past (s ∷ b) zero l = absurd (omega (arith, l))
instrs_past (s ∷ b) (suc k) l = instrs_past b k (omega (arith, l))

instrs_filled : (is : List (Instr × InstrLocId)) (e : InstrLocId) (b : List Seq) (k j : ℕ) → j ≢ k → instrs_at (edited (filled_with is e) b k) j ≡ instrs_at b j
instrs_filled is e [] k j n = refl
instrs_filled is e (s ∷ b) zero zero n = absurd (n refl)
instrs_filled is e (s ∷ b) zero (suc j) n = refl
instrs_filled is e (s ∷ b) (suc k) zero n = refl
instrs_filled is e (s ∷ b) (suc k) (suc j) n = instrs_filled is e b k j (λ q. n (ap suc q))

pub total_begun : (b : List Seq) (n : ℕ) (ty : InstrSeqType) → total (b ++ empty_seq n ty ∷ []) ≡ total b
total_begun [] n ty = refl
total_begun (s ∷ b) n ty = ap (λ (t : ℕ). length s.instrs + t) (total_begun b n ty)

pub total_filled : (is : List (Instr × InstrLocId)) (e : InstrLocId) (b : List Seq) (k : ℕ) → k < length b → instrs_at b k ≡ [] → total (edited (filled_with is e) b k) ≡ length is + total b
total_filled is e [] k l h = absurd (omega (arith, l))
total_filled is e (s ∷ b) zero l h = let none : length s.instrs ≡ 0 = ap (λ (x : List (Instr × InstrLocId)). length x) h in omega (arith, none)
total_filled is e (s ∷ b) (suc k) l h = let r = total_filled is e b k (omega (arith, l)) h in omega (arith, r)

pub bare_begun : (b : List Seq) (n : ℕ) (ty : InstrSeqType) (ks : List ℕ) → AreBare b ks → AreBare (b ++ empty_seq n ty ∷ []) ks
bare_begun b n ty [] h = tt
bare_begun b n ty (k ∷ ks) h = (instrs_begun b n ty k ∙ h.0, bare_begun b n ty ks h.1)

pub bare_filled : (is : List (Instr × InstrLocId)) (e : InstrLocId) (b : List Seq) (k : ℕ) (ks : List ℕ) → Falling k ks → AreBare b ks → AreBare (edited (filled_with is e) b k) ks
bare_filled is e b k [] fa h = tt
bare_filled is e b k (j ∷ js) fa h =
    (instrs_filled is e b k j (λ q. absurd (let l = fa.0 in omega (arith, q, l))) ∙ h.0, bare_filled is e b k js (falling_up j k js (let l = fa.0 in omega (arith, l)) fa.1) h.1)

-- ---- open blocks

around_on : (r q : Reach) (os : List Open) → (IsReached q → IsReached r) → AreAround r os → AreAround q os
around_on r q [] f h = tt
around_on r q (o ∷ os) f h = ((λ z. h.0 (f z)), h.1)

pub weight_reached : (r : Reach) (c : Grower) → IsReached r → weight_in r c ≡ weight c
weight_reached Live c n = refl
weight_reached Cut c n = refl
weight_reached Dropped c n = absurd n

weight_none : (r : Reach) (c : Grower) → weight c ≡ 0 → weight_in r c ≡ 0
weight_none Live c e = e
weight_none Cut c e = e
weight_none Dropped c e = refl

was_reached : (r : Reach) → IsReached (reach_in r) → IsReached r
was_reached Live n = tt
was_reached Cut n = absurd n
was_reached Dropped n = absurd n

on_reached : (r : Reach) → IsReached (reach_on r) → IsReached r
on_reached Live n = tt
on_reached Cut n = tt
on_reached Dropped n = absurd n

-- an instruction more
more_run : (v w x s t l m h : ℕ) → v ≡ x + 1 → w ≡ x → m ≡ l + 1 → w + s ≡ t + (l + h) → v + s ≡ t + (m + h)
more_run v w x s t l m h a b c d = omega (arith, a, b, c, d)

pub hold_run : (b : List Seq) (o : Open) (os : List Open) (c d : Grower) (cs : List Grower) (i : Instr × InstrLocId) (r : Reach) → o.reach ≡ Live → IsReached r → weight d ≡ weight c + 1
    → Holds b (o ∷ os) (c ∷ cs) → Holds b (record o { instrs = o.instrs ++ i ∷ []; reach = r } ∷ os) (d ∷ cs)
hold_run b o os c d cs i r live n e h =
    let reached : IsReached o.reach = subst IsReached (sym live) tt in
    record {
      bare = h.bare;
      around = ((λ z. absurd z), around_on o.reach r os (λ z. reached) h.around.1);
      sums = more_run _ _ _ _ _ _ _ _ (weight_reached r d n ∙ e) (weight_reached o.reach c reached) (length-append o.instrs (i ∷ [])) h.sums;
    }

-- an empty sequence more
more_begun : (v w t u h : ℕ) → v ≡ 0 → u ≡ t → w ≡ t + h → v + w ≡ u + (0 + h)
more_begun v w t u h a b c = omega (arith, a, b, c)

pub hold_begun : (b : List Seq) (o : Open) (os : List Open) (c d : Grower) (cs : List Grower) (g : Opener) (p : InstrLocId) (ty : InstrSeqType) (kind : Frame) → weight d ≡ 0
    → Holds b (o ∷ os) (c ∷ cs) → Holds (b ++ empty_seq (length b) ty ∷ []) (begun g p ty kind (length b) (reach_in o.reach) ∷ (o ∷ os)) (d ∷ (c ∷ cs))
hold_begun b o os c d cs g p ty kind e h = record {
  bare = (instrs_begun b (length b) ty (length b) ∙ instrs_past b (length b) (omega arith), bare_begun b (length b) ty (ids_of (o ∷ os)) h.bare);
  around = ((λ z. absurd z), ((λ z. was_reached o.reach z), h.around.1));
  sums = more_begun _ _ _ _ _ (weight_none (reach_in o.reach) d e) (total_begun b (length b) ty) h.sums;
}

-- what was open is filled, and an empty one is open
more_turned : (v w s t u l h : ℕ) → v ≡ w → u ≡ l + t → w + s ≡ t + (l + h) → v + s ≡ u + (0 + h)
more_turned v w s t u l h a b c = omega (arith, a, b, c)

pub hold_turned : (b : List Seq) (ty : InstrSeqType) (o : Open) (os : List Open) (c d : Grower) (cs : List Grower) (turn : Turn) (kind : Frame) (e : InstrLocId) → Falling (length b) (o.seq ∷ ids_of os)
    → weight_in (reach_on o.reach) d ≡ weight_in o.reach c → Holds b (o ∷ os) (c ∷ cs)
    → Holds (edited (filled_with o.instrs e) b o.seq ++ empty_seq (length (edited (filled_with o.instrs e) b o.seq)) ty ∷ []) (turned_to turn (length (edited (filled_with o.instrs e) b o.seq)) kind o ∷ os) (d ∷ cs)
hold_turned b ty o os c d cs turn kind e fa same h =
    let b1 = edited (filled_with o.instrs e) b o.seq in
    record {
      bare = (instrs_begun b1 (length b1) ty (length b1) ∙ instrs_past b1 (length b1) (omega arith), bare_begun b1 (length b1) ty (ids_of os) (bare_filled o.instrs e b o.seq (ids_of os) fa.1 h.bare.1));
      around = ((λ z. absurd z), around_on o.reach (reach_on o.reach) os (λ z. on_reached o.reach z) h.around.1);
      sums = more_turned _ _ _ _ _ _ _ same (total_begun b1 (length b1) ty ∙ total_filled o.instrs e b o.seq fa.0 h.bare.0) h.sums;
    }

-- how a block that ends is held by the sequences: what its last one held is in its place
pub record Keeps (b c : List Seq) (o : Open) (ids : List ℕ) : Type 0 where
  pub bare : AreBare c ids
  pub total_is : total c ≡ length o.instrs + total b

-- a block that was reached
more_nested : (v w x y s t u l m n h : ℕ) → v ≡ y + x + 1 → w ≡ x → n ≡ m + 1 → u ≡ l + t → w + (y + s) ≡ t + (l + (m + h)) → v + s ≡ u + (n + h)
more_nested v w x y s t u l m n h a b c d e = omega (arith, a, b, c, d, e)

pub hold_nested : (b c : List Seq) (o v : Open) (os : List Open) (x y d : Grower) (cs : List Grower) (i : Instr × InstrLocId) → IsReached o.reach → weight d ≡ weight y + weight x + 1 → Keeps b c o (ids_of (v ∷ os))
    → Holds b (o ∷ (v ∷ os)) (x ∷ (y ∷ cs)) → Holds c (record v { instrs = v.instrs ++ i ∷ [] } ∷ os) (d ∷ cs)
hold_nested b c o v os x y d cs i n e k h =
    let outer : IsReached v.reach = h.around.1.0 n in
    record {
      bare = k.bare;
      around = ((λ z. absurd z), h.around.1.1);
      sums = more_nested _ _ _ _ _ _ _ _ _ _ _ (weight_reached v.reach d outer ∙ e ∙ ap (λ (z : ℕ). z + weight x + 1) (sym (weight_reached v.reach y outer))) (weight_reached o.reach x n)
          (length-append v.instrs (i ∷ [])) k.total_is h.sums;
    }

-- one that wasn't
more_left : (w s t u l h : ℕ) → w ≡ 0 → u ≡ l + t → w + s ≡ t + (l + h) → s ≡ u + h
more_left w s t u l h a b c = omega (arith, a, b, c)

weight_dropped : (r : Reach) (c : Grower) → r ≡ Dropped → weight_in r c ≡ 0
weight_dropped r c e = ap (λ (q : Reach). weight_in q c) e

pub hold_left : (b c : List Seq) (o v : Open) (os : List Open) (x y : Grower) (cs : List Grower) → o.reach ≡ Dropped → Keeps b c o (ids_of (v ∷ os)) → Holds b (o ∷ (v ∷ os)) (x ∷ (y ∷ cs)) → Holds c (v ∷ os) (y ∷ cs)
hold_left b c o v os x y cs e k h = record {
  bare = k.bare;
  around = ((λ z. absurd z), h.around.1.1);
  sums = more_left _ _ _ _ _ _ (weight_dropped o.reach x e) k.total_is h.sums;
}

-- the body itself
more_ended : (w x t u l : ℕ) → w ≡ x → u ≡ l + t → w + 0 ≡ t + (l + 0) → u ≡ x
more_ended w x t u l a b c = omega (arith, a, b, c)

pub hold_ended : (b : List Seq) (o : Open) (x : Grower) (e : InstrLocId) → IsReached o.reach → o.seq < length b → Holds b (o ∷ []) (x ∷ []) → total (edited (filled_with o.instrs e) b o.seq) ≡ weight x
hold_ended b o x e n l h = more_ended _ _ _ _ _ (weight_reached o.reach x n) (total_filled o.instrs e b o.seq l h.bare.0) h.sums

-- before the first operator
bare_start : (b : List Seq) (k : ℕ) → length b ≡ 1 → total b ≡ 0 → instrs_at b k ≡ []
bare_start [] k e t = refl
bare_start (s ∷ b) (suc k) e t = instrs_past b k (omega (arith, e))
bare_start (s ∷ b) zero e t = none s.instrs (omega (arith, t))
  where
    none : (is : List (Instr × InstrLocId)) → length is ≡ 0 → is ≡ []
    none [] e = refl
    none (i ∷ is) e = absurd (omega (arith, e))

more_started : (w t h : ℕ) → w ≡ 0 → t ≡ 0 → h ≡ 0 → w + 0 ≡ t + (h + 0)
more_started w t h a b c = omega (arith, a, b, c)

pub hold_start : (b : List Seq) (o : Open) (c : Grower) → length b ≡ 1 → total b ≡ 0 → o.instrs ≡ [] → weight c ≡ 0 → Holds b (o ∷ []) (c ∷ [])
hold_start b o c one none empty e = record {
  bare = (bare_start b o.seq one none, tt);
  around = ((λ z. absurd z), tt);
  sums = more_started _ _ _ (weight_none o.reach c e) none (ap (λ (is : List (Instr × InstrLocId)). length is) empty);
}
