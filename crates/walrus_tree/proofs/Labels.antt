-- Labels by marks: the test of an instruction is right where the marks say what is around.
use Rattle.std.proofs.Common.{ℕ, ◌<◌, ◌≡◌, Bool, true, false, ◌&&◌, nat_lt, List, [], ◌∷◌, ◌++◌, length, refl, sym, ap, arith, ◌∙◌, map, true≢false}
use Rattle.std.proofs.lemmas.Bool.{lt-ltb, ltb-true}
use Rattle.walrus_builder.specs.walrus_walks.walrus_instr.declared.instr.Instr.{Instr}
use Rattle.walrus_builder.specs.walrus_walks.walrus_instr.declared.instr.Instr.TheVariants.{Try, TryTable, Br, BrIf, BrTable, BrOnNull, BrOnNonNull, BrOnCast, BrOnCastFail, Rethrow}
use Rattle.walrus_builder.specs.walrus_walks.walrus_instr.declared.instr.LegacyCatch.{LegacyCatch}
use Rattle.walrus_builder.specs.walrus_walks.walrus_instr.declared.instr.LegacyCatch.TheVariants as Legacy
use Rattle.walrus_builder.specs.walrus_walks.walrus_instr.declared.instr.TryTableCatch.{TryTableCatch}
use Rattle.walrus_builder.specs.walrus_walks.walrus_instr.declared.seq.InstrLocId.{InstrLocId}
use Rattle.walrus_tree.specs.declared.marks.Mark.{Mark}
use Rattle.walrus_tree.specs.declared.marks.Mark.TheVariants.{Fresh, Open, Done}
use Rattle.walrus_tree.specs.Trees.{Has, HasAll, clause_label, Delegates, IsWithin, AreWithin}
use Rattle.walrus_tree.specs.Testing.{mark_at, is_open, open_at, all_open, clauses_open, is_last, delegates, within, all_within, Marked}

-- ---- tests
and_parts : (x y : Bool) → x && y ≡ true → (x ≡ true) × (y ≡ true)
and_parts true y h = (refl, h)
and_parts false y h = absurd (true≢false (sym h))

and_made : (x y : Bool) → x ≡ true → y ≡ true → x && y ≡ true
and_made x y e f = ap (λ (z : Bool). z && y) e ∙ f

open_is : (m : Mark) → is_open m ≡ true → m ≡ Open
open_is Open h = refl
open_is Fresh h = absurd (true≢false (sym h))
open_is Done h = absurd (true≢false (sym h))

last_is : (parts : List LegacyCatch) → is_last parts ≡ true → parts ≡ []
last_is [] h = refl
last_is (part ∷ parts) h = absurd (true≢false (sym h))

-- ---- lists of ids
has_all_append : (js xs ys : List ℕ) → HasAll js xs → HasAll js ys → HasAll js (xs ++ ys)
has_all_append js [] ys h g = g
has_all_append js (x ∷ xs) ys h g = (h.0, has_all_append js xs ys h.1 g)

has_all_front : (js xs ys : List ℕ) → HasAll js (xs ++ ys) → HasAll js xs
has_all_front js [] ys h = tt
has_all_front js (x ∷ xs) ys h = (h.0, has_all_front js xs ys h.1)

has_all_back : (js xs ys : List ℕ) → HasAll js (xs ++ ys) → HasAll js ys
has_all_back js [] ys h = h
has_all_back js (x ∷ xs) ys h = has_all_back js xs ys h.1

module _ (ms : List Mark) (n : ℕ) (around : List ℕ) (marked : Marked ms n around) where
  open_has : (k : ℕ) → open_at ms k ≡ true → Has around k
  open_has k h = marked.known k (open_is (mark_at ms k) h)

  has_open : (k : ℕ) → Has around k → open_at ms k ≡ true
  has_open k h = ap is_open (marked.opens k h)

  all_open_has : (ks : List ℕ) → all_open ms ks ≡ true → HasAll around ks
  all_open_has [] h = tt
  all_open_has (k ∷ ks) h = let p = and_parts (open_at ms k) (all_open ms ks) h in (open_has k p.0, all_open_has ks p.1)

  has_all_open : (ks : List ℕ) → HasAll around ks → all_open ms ks ≡ true
  has_all_open [] h = refl
  has_all_open (k ∷ ks) h = and_made (open_at ms k) (all_open ms ks) (has_open k h.0) (has_all_open ks h.1)

  clauses_open_has : (cs : List TryTableCatch) → clauses_open ms cs ≡ true → HasAll around (map clause_label cs)
  clauses_open_has [] h = tt
  clauses_open_has (c ∷ cs) h = let p = and_parts (open_at ms (clause_label c)) (clauses_open ms cs) h in (open_has (clause_label c) p.0, clauses_open_has cs p.1)

  has_clauses_open : (cs : List TryTableCatch) → HasAll around (map clause_label cs) → clauses_open ms cs ≡ true
  has_clauses_open [] h = refl
  has_clauses_open (c ∷ cs) h = and_made (open_at ms (clause_label c)) (clauses_open ms cs) (has_open (clause_label c) h.0) (has_clauses_open cs h.1)

  -- ---- numbers
  below : (depth : ℕ) → nat_lt depth n ≡ true → depth < length around
  below depth h = let l = ltb-true depth n h in let e = marked.counted in omega (arith, l, e)

  is_below : (depth : ℕ) → depth < length around → nat_lt depth n ≡ true
  is_below depth h = let e = marked.counted in lt-ltb depth n (omega (arith, h, e))

  delegates_right : (parts : List LegacyCatch) → delegates n parts ≡ true → Delegates (length around) parts
  delegates_right [] h = tt
  delegates_right (Legacy.Catch _ _ ∷ parts) h = delegates_right parts h
  delegates_right (Legacy.CatchAll _ ∷ parts) h = delegates_right parts h
  delegates_right (Legacy.Delegate depth ∷ parts) h = let p = and_parts (nat_lt depth n) (is_last parts) h in (below depth p.0, last_is parts p.1)

  right_delegates : (parts : List LegacyCatch) → Delegates (length around) parts → delegates n parts ≡ true
  right_delegates [] h = refl
  right_delegates (Legacy.Catch _ _ ∷ parts) h = right_delegates parts h
  right_delegates (Legacy.CatchAll _ ∷ parts) h = right_delegates parts h
  right_delegates (Legacy.Delegate depth ∷ parts) h = and_made (nat_lt depth n) (is_last parts) (is_below depth h.0) (ap is_last h.1)

  -- ---- instructions
  pub within_right : (i : Instr) → within ms n i ≡ true → IsWithin around i
  within_right (TryTable _ catches) h = record { named = clauses_open_has catches.items h; counted = tt }
  within_right (Br block) h = record { named = (open_has block h, tt); counted = tt }
  within_right (BrIf block) h = record { named = (open_has block h, tt); counted = tt }
  within_right (BrTable other blocks) h =
      let p = and_parts (all_open ms blocks.items) (open_at ms other) h in
      record { named = has_all_append around blocks.items (other ∷ []) (all_open_has blocks.items p.0) (open_has other p.1, tt); counted = tt }
  within_right (BrOnNull block) h = record { named = (open_has block h, tt); counted = tt }
  within_right (BrOnNonNull block) h = record { named = (open_has block h, tt); counted = tt }
  within_right (BrOnCast block _ _) h = record { named = (open_has block h, tt); counted = tt }
  within_right (BrOnCastFail block _ _) h = record { named = (open_has block h, tt); counted = tt }
  within_right (Rethrow depth) h = record { named = tt; counted = below depth h }
  within_right (Try _ catches) h = record { named = tt; counted = delegates_right catches.items h }
  within_right _ h = record { named = tt; counted = tt }

  pub right_within : (i : Instr) → IsWithin around i → within ms n i ≡ true
  right_within (TryTable _ catches) h = has_clauses_open catches.items h.named
  right_within (Br block) h = has_open block h.named.0
  right_within (BrIf block) h = has_open block h.named.0
  right_within (BrTable other blocks) h =
      and_made (all_open ms blocks.items) (open_at ms other) (has_all_open blocks.items (has_all_front around blocks.items (other ∷ []) h.named))
      (has_open other (has_all_back around blocks.items (other ∷ []) h.named).0)
  right_within (BrOnNull block) h = has_open block h.named.0
  right_within (BrOnNonNull block) h = has_open block h.named.0
  right_within (BrOnCast block _ _) h = has_open block h.named.0
  right_within (BrOnCastFail block _ _) h = has_open block h.named.0
  right_within (Rethrow depth) h = is_below depth h.counted
  right_within (Try _ catches) h = right_delegates catches.items h.counted
  right_within _ h = refl

  pub all_within_right : (is : List (Instr × InstrLocId)) → all_within ms n is ≡ true → AreWithin around is
  all_within_right [] h = tt
  all_within_right (i ∷ is) h = let p = and_parts (within ms n i.0) (all_within ms n is) h in (within_right i.0 p.0, all_within_right is p.1)

  pub right_all_within : (is : List (Instr × InstrLocId)) → AreWithin around is → all_within ms n is ≡ true
  right_all_within [] h = refl
  right_all_within (i ∷ is) h = and_made (within ms n i.0) (all_within ms n is) (right_within i.0 h.0) (right_all_within is h.1)
