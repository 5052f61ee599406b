-- What an edit of one sequence leaves: its own sequence edited, all others, and their count.
use Rattle.std.specs.Prelude.{◌≡◌, ◌≢◌, ℕ, zero, suc, ◌≤◌, List, [], ◌∷◌, length, map, slice_get, slice_set, Some, Result, Ok, Err, refl}
use Rattle.std.specs.Option.{option_map}
use Rattle.std.proofs.Common.{ap, sym, ◌∙◌, arith}
use Rattle.std.proofs.lemmas.List.{length-map}
use Rattle.std.specs.declared.alloc.AllocError.{AllocError}
use Rattle.walrus_walks.specs.walrus_instr.declared.seq.InstrSeq.{InstrSeq}
use Rattle.walrus_builder.specs.Built.{Seq, seq_of, Building, contents, edited, Edits}

-- ---- one of a list is edited
module _ {S : Type 0} (f : S → S) where
  pub edited_length : (ss : List S) (k : ℕ) → length (edited f ss k) ≡ length ss
  edited_length [] k = refl
  edited_length (s ∷ ss) zero = refl
  edited_length (s ∷ ss) (suc k) = ap suc (edited_length ss k)

  pub edited_here : (ss : List S) (k : ℕ) → slice_get (edited f ss k) k ≡ option_map f (slice_get ss k)
  edited_here [] k = refl
  edited_here (s ∷ ss) zero = refl
  edited_here (s ∷ ss) (suc k) = edited_here ss k

  pub edited_others : (ss : List S) (k j : ℕ) → j ≢ k → slice_get (edited f ss k) j ≡ slice_get ss j
  edited_others [] k j n = refl
  edited_others (s ∷ ss) zero zero n = absurd (n refl)
  edited_others (s ∷ ss) zero (suc j) n = refl
  edited_others (s ∷ ss) (suc k) zero n = refl
  edited_others (s ∷ ss) (suc k) (suc j) n = edited_others ss k j (λ e. n (ap suc e))

  -- past the last there is nothing to edit
  pub edited_past : (ss : List S) (k : ℕ) → length ss ≤ k → edited f ss k ≡ ss
  edited_past [] k l = refl
  edited_past (s ∷ ss) zero l = absurd (omega (arith, l))
  edited_past (s ∷ ss) (suc k) l = ap (λ (ts : List S). s ∷ ts) (edited_past ss k (omega (arith, l)))

  -- two edits of one are an edit
  pub edited_twice : (g : S → S) (ss : List S) (k : ℕ) → edited g (edited f ss k) k ≡ edited (λ s. g (f s)) ss k
  edited_twice g [] k = refl
  edited_twice g (s ∷ ss) zero = refl
  edited_twice g (s ∷ ss) (suc k) = ap (λ (ts : List S). s ∷ ts) (edited_twice g ss k)

-- ---- the sequences of a body
-- a sequence as it is seen
pub contents_at : (b : Building) (k : ℕ) → slice_get (contents b) k ≡ option_map seq_of (slice_get b.seqs k)
contents_at b k = at b.seqs k
  where
    at : (xs : List InstrSeq) (j : ℕ) → slice_get (map seq_of xs) j ≡ option_map seq_of (slice_get xs j)
    at [] j = refl
    at (x ∷ xs) zero = refl
    at (x ∷ xs) (suc j) = at xs j

pub contents_count : (b : Building) → length (contents b) ≡ length b.seqs
contents_count b = length-map b.seqs seq_of

-- a sequence that was written in the place of another is an edit of that one alone
pub written_edits : (f : Seq → Seq) (xs : List InstrSeq) (k : ℕ) (s t : InstrSeq) → slice_get xs k ≡ Some s → seq_of t ≡ f (seq_of s) → map seq_of (slice_set xs k t) ≡ edited f (map seq_of xs) k
written_edits f [] k s t e h = absurd cc
written_edits f (x ∷ xs) zero s t e h =
    let same : x ≡ s = cc in
    ap (λ (u : Seq). u ∷ map seq_of xs) (h ∙ ap (λ (y : InstrSeq). f (seq_of y)) (sym same))
written_edits f (x ∷ xs) (suc k) s t e h = ap (λ (ss : List Seq). seq_of x ∷ ss) (written_edits f xs k s t e h)

-- ---- what a call leaves that edits the sequence at hand
module _ (old : Building) (f : Seq → Seq) where
  -- as many sequences
  pub edits_count : (r : Result (Unit {0}) AllocError) (new : Building) → Edits old f r new → length new.seqs ≡ length old.seqs
  edits_count (Ok x) new h = omega (arith, ap length h.made, edited_length f (contents old) old.id, length-map old.seqs seq_of, length-map new.seqs seq_of)
  edits_count (Err x) new h = omega (arith, ap length h.made, length-map old.seqs seq_of, length-map new.seqs seq_of)

  -- the others as they were
  pub edits_others : (r : Result (Unit {0}) AllocError) (new : Building) → Edits old f r new → (k : ℕ) → k ≢ old.id → slice_get (contents new) k ≡ slice_get (contents old) k
  edits_others (Ok x) new h k n = ap (λ (ss : List Seq). slice_get ss k) h.made ∙ edited_others f (contents old) old.id k n
  edits_others (Err x) new h k n = ap (λ (ss : List Seq). slice_get ss k) h.made

  -- the one at hand edited, where the call isn't refused
  pub edits_here : (new : Building) → Edits old f (Ok tt) new → (s : Seq) → slice_get (contents old) old.id ≡ Some s → slice_get (contents new) old.id ≡ Some (f s)
  edits_here new h s e = ap (λ (ss : List Seq). slice_get ss old.id) h.made ∙ edited_here f (contents old) old.id ∙ ap (option_map f) e
