-- Writes to one of the sequences, as edits.
use Rattle.std.proofs.Common.{ℕ, zero, suc, ◌+◌, ◌<◌, ◌≡◌, ◌≢◌, min, Bool, true, false, ◌&&◌, if◌then◌else◌, eqb, eq-eqb, lt-ltb, true≢false, insert, take, drop, option_map, List, [], ◌∷◌, ◌++◌, length, map, get_or, Some, refl, sym, ap, subst, arith, ◌∙◌, inl, inr, Result, Ok, Err, length-append}
use Rattle.std.proofs.lemmas.List.{length-map, take_min, drop_min}
use Rattle.std.proofs.lemmas.Bool.{cases_lt}
use Rattle.std.specs.Prelude.{slice_get, slice_set, IsErr, IfErr}
use Rattle.std.specs.Fn.{Once, FnOnceReturnsAtMut}
use Rattle.std.specs.Borrow.{MutBor}
use Rattle.std.specs.declared.alloc.AllocError.{AllocError}
use Rattle.walrus_walks.specs.walrus_instr.declared.seq.InstrSeqType.{InstrSeqType}
use Rattle.walrus_walks.specs.walrus_instr.declared.instr.Instr.{Instr}
use Rattle.walrus_walks.specs.walrus_instr.declared.seq.InstrLocId.{InstrLocId}
use Rattle.walrus_walks.specs.walrus_instr.declared.seq.InstrSeq.{InstrSeq}
use Rattle.walrus_builder.specs.Built.{Building, Seq, seq_of, contents, no_place, with_instrs, edited, Edits, Keeps, Extends, ExtendsAlways, EditsAt, inserts, back_to, IsLeft, IsRefused, IsRefusedOfTwo}
use Rattle.walrus_builder.specs.Edited.{edited_length, edited_others, edited_past}
use Rattle.walrus_builder.specs.Built.IsRefused.{Unbegun, Failed, Ungrown}
use Rattle.walrus_builder.specs.Built.IsRefusedOfTwo.{First, Second}

edited_at : (f : Seq → Seq) (xs : List InstrSeq) (k : ℕ) (s t : InstrSeq) → k < length xs → s ≡ get_or xs k s → seq_of t ≡ f (seq_of s) → map seq_of (slice_set xs k t) ≡ edited f (map seq_of xs) k
edited_at f [] k s t l e h = absurd (omega arith)
edited_at f (x ∷ xs) zero s t l e h = ap (λ (y : Seq). y ∷ map seq_of xs) (h ∙ ap (λ (z : InstrSeq). f (seq_of z)) e)
edited_at f (x ∷ xs) (suc k) s t l e h = ap (λ (ys : List Seq). seq_of x ∷ ys) (edited_at f xs k s t (omega arith) e h)

-- a write to the sequence at an index that equals an id, seen as an edit
pub edited_set : (f : Seq → Seq) (xs : List InstrSeq) (j k : ℕ) (s t : InstrSeq) → j ≡ k → k < length xs → s ≡ get_or xs j s → seq_of t ≡ f (seq_of s) → map seq_of (slice_set xs j t) ≡ edited f (map seq_of xs) k
edited_set f xs j k s t q l e h =
    let F : ℕ → Type 0 = λ i. s ≡ get_or xs i s in
    ap (λ (i : ℕ). map seq_of (slice_set xs i t)) q ∙ edited_at f xs k s t l (subst F q e) h

edited_seqs_at : (f : InstrSeq → InstrSeq) (xs : List InstrSeq) (k : ℕ) (s : InstrSeq) → k < length xs → s ≡ get_or xs k s → slice_set xs k (f s) ≡ edited f xs k
edited_seqs_at f [] k s l e = absurd (omega arith)
edited_seqs_at f (x ∷ xs) zero s l e = ap (λ (y : InstrSeq). f y ∷ xs) e
edited_seqs_at f (x ∷ xs) (suc k) s l e = ap (λ (ys : List InstrSeq). x ∷ ys) (edited_seqs_at f xs k s (omega arith) e)

-- a write of what a function makes of the sequence there
pub edited_seqs : (f : InstrSeq → InstrSeq) (xs : List InstrSeq) (j k : ℕ) (s : InstrSeq) → j ≡ k → k < length xs → s ≡ get_or xs j s → slice_set xs j (f s) ≡ edited f xs k
edited_seqs f xs j k s q l e =
    let F : ℕ → Type 0 = λ i. s ≡ get_or xs i s in
    ap (λ (i : ℕ). slice_set xs i (f s)) q ∙ edited_seqs_at f xs k s l (subst F q e)

edited_same : (ss : List Seq) (k : ℕ) → edited (λ s. s) ss k ≡ ss
edited_same [] k = refl
edited_same (s ∷ ss) zero = refl
edited_same (s ∷ ss) (suc k) = ap (λ (ys : List Seq). s ∷ ys) (edited_same ss k)

-- a write that leaves what is seen
pub kept_set : (xs : List InstrSeq) (j k : ℕ) (s t : InstrSeq) → j ≡ k → k < length xs → s ≡ get_or xs j s → seq_of t ≡ seq_of s → map seq_of (slice_set xs j t) ≡ map seq_of xs
kept_set xs j k s t q l e h = edited_set (λ u. u) xs j k s t q l e h ∙ edited_same (map seq_of xs) k

-- an edit changes the sequence at hand alone
extends_edited : (old : Building) (f : Seq → Seq) (new : Building) → new.id ≡ old.id → contents new ≡ edited f (contents old) old.id → Extends old new
extends_edited old f new i e = record {
  id = i;
  known = omega (arith, ap length e, edited_length f (contents old) old.id);
  kept = λ k l n. ap (λ (ss : List Seq). slice_get ss k) e ∙ edited_others f (contents old) old.id k n;
}

-- what is seen as before extends
pub extends_same : (old new : Building) → new.id ≡ old.id → contents new ≡ contents old → Extends old new
extends_same old new i e = record { id = i; known = omega (arith, ap length e); kept = λ k l n. ap (λ (ss : List Seq). slice_get ss k) e }

pub extends_trans : (a b c : Building) → Extends a b → Extends b c → Extends a c
extends_trans a b c x y = record {
  id = y.id ∙ x.id;
  known = let p = x.known in let q = y.known in omega (arith, p, q);
  kept = λ k l n.
      let p = x.known in
      let other : k ≢ b.id = λ e. n (e ∙ x.id) in
      y.kept k (omega (arith, l, p)) other ∙ x.kept k l n;
}

-- to keep all sequences is to extend
pub keeps_extends : (a b : Building) → Keeps a b → Extends a b
keeps_extends a b h = record { id = h.id; known = h.known; kept = λ k l n. h.kept k l }

pub edits_ok : (old : Building) (f : Seq → Seq) (new : Building) → new.id ≡ old.id → contents new ≡ edited f (contents old) old.id → Edits old f (Ok tt) new
edits_ok old f new i e = record { id = i; made = e; others = extends_edited old f new i e }

-- a refused edit
pub edits_err : (old : Building) (f : Seq → Seq) (r : Result (Unit {0}) AllocError) (new : Building) → IsErr r → new.id ≡ old.id → contents new ≡ contents old → Edits old f r new
edits_err old f (Ok x) new h i e = let z : ⊥ = cc in absurd z
edits_err old f (Err x) new h i e = record { id = i; made = e; others = extends_same old new i e }

-- the sequence with other instructions
pub instrs_become : (s : InstrSeq) (is js : List (Instr × InstrLocId)) → is ≡ js → with_instrs (seq_of s) is ≡ with_instrs (seq_of s) js
instrs_become s is js e = ap (with_instrs (seq_of s)) e

-- the sequence at an id, as it is seen
pub seq_seen : (xs : List InstrSeq) (k : ℕ) (s : InstrSeq) → k < length xs → s ≡ get_or xs k s → slice_get (map seq_of xs) k ≡ Some (seq_of s)
seq_seen [] k s l e = absurd (omega arith)
seq_seen (x ∷ xs) zero s l e = ap (λ (z : InstrSeq). Some (seq_of z)) (sym e)
seq_seen (x ∷ xs) (suc k) s l e = seq_seen xs k s (omega arith) e

-- ---- what a filled sequence leaves
module _ (old mid new : Building) where
  -- the sequences stay, where the builder is seen as before
  pub keeps_same : new.id ≡ mid.id → contents new ≡ contents mid → Keeps old mid → Keeps old new
  keeps_same i e h = record {
    id = i ∙ h.id;
    known = let l = h.known in omega (arith, l, ap length e);
    kept = λ k l. ap (λ (ss : List Seq). slice_get ss k) e ∙ h.kept k l;
  }

pub keeps_all : (old new : Building) → new.id ≡ old.id → contents new ≡ contents old → Keeps old new
keeps_all old new i e = record { id = i; known = omega (arith, ap length e); kept = λ k l. ap (λ (ss : List Seq). slice_get ss k) e }

get_front : (xs ys : List Seq) (k : ℕ) → k < length xs → slice_get (xs ++ ys) k ≡ slice_get xs k
get_front [] ys k l = absurd (omega arith)
get_front (x ∷ xs) ys zero l = refl
get_front (x ∷ xs) ys (suc k) l = get_front xs ys k (omega arith)

-- a sequence was added, and what was added was changed alone
pub keeps_filled : (old begun filled new : Building) (s : Seq) → contents begun ≡ contents old ++ s ∷ [] → begun.id ≡ length (contents old) → Extends begun filled → new.id ≡ old.id → contents new ≡ contents filled → Keeps old new
keeps_filled old begun filled new s a i x n e = record {
  id = n;
  known = let l = x.known in omega (arith, l, ap length a, ap length e, length-append (contents old) (s ∷ []));
  kept = λ k l.
      let len : length (contents begun) ≡ length (contents old) + 1 = ap length a ∙ length-append (contents old) (s ∷ []) in
      let other : k ≢ begun.id = λ q. omega (arith, l, q, i) in
      ap (λ (ss : List Seq). slice_get ss k) e ∙ x.kept k (omega (arith, l, len)) other ∙ ap (λ (ss : List Seq). slice_get ss k) a ∙ get_front (contents old) (s ∷ []) k l;
}

-- a known id is known still
pub known_filled : (old begun filled : Building) (s : Seq) (k : ℕ) → k < length old.seqs → contents begun ≡ contents old ++ s ∷ [] → Extends begun filled → k < length filled.seqs
known_filled old begun filled s k l a x =
    let m = x.known in
    omega (arith, m, l, ap length a, length-append (contents old) (s ∷ []), length-map old.seqs seq_of, length-map filled.seqs seq_of)

module _ {F : Type 0} (g : Once F (MutBor Building × Unit {0}) (Result (Unit {0}) AllocError × (MutBor Building × Unit {0}))) (make : F) where
  -- what a call of the closure shows and leaves
  called : (shown left : MutBor Building) (r : Result (Unit {0}) AllocError) → g.post make (shown, tt) (r, (left, tt)) → FnOnceReturnsAtMut g make shown.now r left.now
  called shown left r h = record { shown = shown; shows = refl; left = left; met = h; leaves = refl }

  pub called_as : (shown left : MutBor Building) (r q : Result (Unit {0}) AllocError) → r ≡ q → g.post make (shown, tt) (r, (left, tt)) → FnOnceReturnsAtMut g make shown.now q left.now
  called_as shown left r q e h = let G : Result (Unit {0}) AllocError → Type 0 = λ p. FnOnceReturnsAtMut g make shown.now p left.now in subst G e (called shown left r h)

-- ---- an edit at an id
-- nothing is to be done where there is no sequence of that id
pub edits_nowhere : (old : Building) (outer id : ℕ) (f : Seq → Seq) → (outer < length old.seqs → old.id ≡ outer) → id ≡ old.id → false ≡ (eqb id outer && true) → EditsAt old outer f (Ok tt) old
edits_nowhere old outer id f back same other = record {
  id = refl;
  made = elim (cases_lt outer (length old.seqs)) as (λ _. contents old ≡ edited f (contents old) outer) [
    | inl h ↦ absurd (true≢false (sym (other ∙ ap (λ (b : Bool). b && true) (eq-eqb id outer (same ∙ back h)))))
    | inr h ↦ sym (edited_past f (contents old) outer (omega (arith, h, length-map old.seqs seq_of)))
  ];
  found = tt;
}

edited_like : (f g : Seq → Seq) (ss : List Seq) (k : ℕ) → ((s : Seq) → slice_get ss k ≡ Some s → f s ≡ g s) → edited f ss k ≡ edited g ss k
edited_like f g [] k h = refl
edited_like f g (s ∷ ss) zero h = ap (λ (t : Seq). t ∷ ss) (h s refl)
edited_like f g (s ∷ ss) (suc k) h = ap (λ (ys : List Seq). s ∷ ys) (edited_like f g ss k h)

insert_cut : (is : List (Instr × InstrLocId)) (at : ℕ) (i : Instr) → insert is (min at (length is)) (i, no_place) ≡ insert is at (i, no_place)
insert_cut is at i = ap (λ (js : List (Instr × InstrLocId)). js ++ (i, no_place) ∷ drop (min at (length is)) is) (take_min at is)
    ∙ ap (λ (js : List (Instr × InstrLocId)). take at is ++ (i, no_place) ∷ js) (drop_min at is)

-- to insert past the end is to insert at the end
inserts_cut : (old : Building) (i : Instr) (at within : ℕ) (is : List (Instr × InstrLocId)) → option_map (λ (s : Seq). s.instrs) (slice_get (contents old) old.id) ≡ Some is
    → within ≡ min at (length is) → edited (inserts within i) (contents old) old.id ≡ edited (inserts at i) (contents old) old.id
inserts_cut old i at within is seen cut = edited_like (inserts within i) (inserts at i) (contents old) old.id (λ s e.
    let same : s.instrs ≡ is = some_is (ap (option_map (λ (t : Seq). t.instrs)) (sym e) ∙ seen) in
    let cut_here : within ≡ min at (length s.instrs) = cut ∙ ap (λ (js : List (Instr × InstrLocId)). min at (length js)) (sym same) in
    instrs_become_seen s (ap (λ (n : ℕ). insert s.instrs n (i, no_place)) cut_here ∙ insert_cut s.instrs at i))
  where
    some_is : {A : Type 0} {x y : A} → Some x ≡ Some y → x ≡ y
    some_is e = cc

    instrs_become_seen : (s : Seq) {is js : List (Instr × InstrLocId)} → is ≡ js → with_instrs s is ≡ with_instrs s js
    instrs_become_seen s e = ap (with_instrs s) e

pub edits_cut : (old : Building) (i : Instr) (at within : ℕ) (is : List (Instr × InstrLocId)) (r : Result (Unit {0}) AllocError) (new : Building) → option_map (λ (s : Seq). s.instrs) (slice_get (contents old) old.id) ≡ Some is
    → within ≡ min at (length is) → Edits old (inserts within i) r new → Edits old (inserts at i) r new
edits_cut old i at within is (Ok x) new seen cut h = record { id = h.id; made = h.made ∙ inserts_cut old i at within is seen cut; others = h.others }
edits_cut old i at within is (Err x) new seen cut h = record { id = h.id; made = h.made; others = h.others }

-- ---- what closures leave that change at most the sequence at hand
keeps_trans : (a b c : Building) → Keeps a b → Keeps b c → Keeps a c
keeps_trans a b c x y = record {
  id = y.id ∙ x.id;
  known = let p = x.known in let q = y.known in omega (arith, p, q);
  kept = λ k l. let p = x.known in y.kept k (omega (arith, l, p)) ∙ x.kept k l;
}

-- a known id is known still
known_kept : (old new : Building) (k : ℕ) → Keeps old new → k < length old.seqs → k < length new.seqs
known_kept old new k h l = let m = h.known in omega (arith, m, l, length-map old.seqs seq_of, length-map new.seqs seq_of)

module _ {F : Type 0} (g : Once F (MutBor Building × Unit {0}) (Result (Unit {0}) AllocError × (MutBor Building × Unit {0}))) (make : F) (always : ExtendsAlways g make) (ty : InstrSeqType) (old : Building) (outer : ℕ) (same : outer ≡ old.id) (known : outer < length old.seqs) where
  pub left_keeps : (r : Result (Unit {0}) AllocError) (new : Building) → IsLeft g make (contents old) ty outer r new → Keeps old new
  left_keeps r new h =
      let grows = always h.begun h.left r h.calls in
      let there : outer < length h.left.seqs = known_filled old h.begun h.left _ outer known h.begins.added grows in
      let back : back_to outer h.left ≡ outer = ap (λ (b : Bool). if b then outer else h.left.id) (lt-ltb outer (length h.left.seqs) there) in
      keeps_filled old h.begun h.left new _ h.begins.added h.begins.id grows (h.back ∙ back ∙ same) h.stays

  pub refused_keeps : (new : Building) → IsRefused g make ty outer old new → Keeps old new
  refused_keeps new (Unbegun i e) = keeps_all old new i e
  refused_keeps new (Failed e h) = left_keeps (Err e) new h
  refused_keeps new (Ungrown there h) = left_keeps (Ok tt) new h

module _ {F G : Type 0} (g : Once F (MutBor Building × Unit {0}) (Result (Unit {0}) AllocError × (MutBor Building × Unit {0}))) (first : F) (h : Once G (MutBor Building × Unit {0}) (Result (Unit {0}) AllocError × (MutBor Building × Unit {0}))) (second : G) (always : ExtendsAlways g first) (too : ExtendsAlways h second) (ty : InstrSeqType) (old : Building) (outer : ℕ) (same : outer ≡ old.id) (known : outer < length old.seqs) (half : Building) (x : IsLeft g first (contents old) ty outer (Ok tt) half) where
  half_keeps : Keeps old half
  half_keeps = left_keeps g first always ty old outer same known (Ok tt) half x

  pub both_keep : (r : Result (Unit {0}) AllocError) (new : Building) → IsLeft h second (contents half) ty outer r new → Keeps old new
  both_keep r new y = keeps_trans old half new half_keeps (left_keeps h second too ty half outer (same ∙ sym half_keeps.id) (known_kept old half outer half_keeps known) r new y)

  pub second_keeps : (new : Building) → IsRefused h second ty outer half new → Keeps old new
  second_keeps new y = keeps_trans old half new half_keeps (refused_keeps h second too ty half outer (same ∙ sym half_keeps.id) (known_kept old half outer half_keeps known) new y)

-- an instruction that was put where the sequences before it stay
module _ (old mid : Building) (kept : Keeps old mid) (outer : ℕ) (same : outer ≡ old.id) where
  pub put_extends : (f : Seq → Seq) (r : Result (Unit {0}) AllocError) (new : Building) → EditsAt mid outer f r new → Extends old new
  put_extends f (Ok x) new h =
      extends_trans old mid new (keeps_extends old mid kept) (extends_edited mid f new h.id (h.made ∙ ap (edited f (contents mid)) (same ∙ sym kept.id)))
  put_extends f (Err x) new h = keeps_extends old new (keeps_same old mid new h.id h.made kept)

  pub put_keeps : (f : Seq → Seq) (e : AllocError) (new : Building) → EditsAt mid outer f (Err e) new → Keeps old new
  put_keeps f e new h = keeps_same old mid new h.id h.made kept

-- ---- what a refused call leaves
put_left : {F : Type 0} (g : Once F (MutBor Building × Unit {0}) (Result (Unit {0}) AllocError × (MutBor Building × Unit {0}))) (make : F) (ss : List Seq) (ty : InstrSeqType) (outer : ℕ) (r : Result (Unit {0}) AllocError) (mid new : Building) → IsLeft g make ss ty outer r mid → new.id ≡ mid.id → contents new ≡ contents mid → IsLeft g make ss ty outer r new
put_left g make ss ty outer r mid new h i e = record { begun = h.begun; left = h.left; begins = h.begins; calls = h.calls; stays = e ∙ h.stays; back = i ∙ h.back }

-- the instruction was refused
pub put_refused : {F : Type 0} (g : Once F (MutBor Building × Unit {0}) (Result (Unit {0}) AllocError × (MutBor Building × Unit {0}))) (make : F) (ty : InstrSeqType) (old : Building) (outer at : ℕ) (mid new : Building) (f : Seq → Seq) (e : AllocError) → outer ≡ at → IsLeft g make (contents old) ty outer (Ok tt) mid → EditsAt mid outer f (Err e) new → IsRefused g make ty at old new
put_refused g make ty old outer at mid new f e same h x =
    let G : ℕ → Type 0 = λ k. IsLeft g make (contents old) ty k (Ok tt) new in
    let there = x.found in
    let grown : at < length new.seqs = omega (arith, there, same, ap length x.made, length-map mid.seqs seq_of, length-map new.seqs seq_of) in
    Ungrown grown (subst G same (put_left g make (contents old) ty outer (Ok tt) mid new h x.id x.made))

module _ {F G : Type 0} (g : Once F (MutBor Building × Unit {0}) (Result (Unit {0}) AllocError × (MutBor Building × Unit {0}))) (first : F) (h : Once G (MutBor Building × Unit {0}) (Result (Unit {0}) AllocError × (MutBor Building × Unit {0}))) (second : G) (ty : InstrSeqType) (old new : Building) (outer : ℕ) (same : outer ≡ old.id) where
  pub first_refused : IsRefused g first ty outer old new → IsRefusedOfTwo g first h second ty old new
  first_refused x = let G : ℕ → Type 0 = λ k. IsRefused g first ty k old new in First (subst G same x)

  pub second_refused : (half : Building) → IsLeft g first (contents old) ty outer (Ok tt) half → IsRefused h second ty outer half new → IsRefusedOfTwo g first h second ty old new
  second_refused half x y =
      let G : ℕ → Type 0 = λ k. IsLeft g first (contents old) ty k (Ok tt) half in
      let H : ℕ → Type 0 = λ k. IsRefused h second ty k half new in
      Second half (subst G same x) (subst H same y)

-- the outer sequence is at hand wherever there is one of that id
pub left_back : {F : Type 0} (g : Once F (MutBor Building × Unit {0}) (Result (Unit {0}) AllocError × (MutBor Building × Unit {0}))) (make : F) (ss : List Seq) (ty : InstrSeqType) (outer : ℕ) (r : Result (Unit {0}) AllocError) (new : Building) → IsLeft g make ss ty outer r new → outer < length new.seqs → new.id ≡ outer
left_back g make ss ty outer r new h l =
    let there : outer < length h.left.seqs = omega (arith, l, ap length h.stays, length-map new.seqs seq_of, length-map h.left.seqs seq_of) in
    h.back ∙ ap (λ (b : Bool). if b then outer else h.left.id) (lt-ltb outer (length h.left.seqs) there)

-- what holds anyway holds at `Err`
pub if_err : {A E : Type 0} {P : Type 0} (r : Result A E) → P → IfErr r (λ _. P)
if_err (Ok x) p = tt
if_err (Err e) p = p
