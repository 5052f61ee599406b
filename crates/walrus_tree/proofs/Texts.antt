-- The text of nested sequences is the plain recursion; that of a tree is sound.
use Rattle.std.proofs.Common.{ℕ, zero, suc, ◌<◌, ◌≤◌, ◌≡◌, List, [], ◌∷◌, ◌++◌, length, Option, Some, refl, sym, ap, subst, arith, ◌∙◌}
use Rattle.std.specs.Prelude.{slice_get}
use Rattle.walrus_builder.specs.walrus_walks.walrus_instr.declared.instr.Instr.{Instr}
use Rattle.walrus_builder.specs.walrus_walks.walrus_instr.declared.instr.Instr.TheVariants.{Block, Loop, IfElse, Try, TryTable}
use Rattle.walrus_builder.specs.walrus_walks.walrus_instr.declared.instr.LegacyCatch.{LegacyCatch}
use Rattle.walrus_builder.specs.walrus_walks.walrus_instr.declared.instr.LegacyCatch.TheVariants as Legacy
use Rattle.walrus_builder.specs.walrus_walks.walrus_instr.declared.seq.InstrLocId.{InstrLocId}
use Rattle.walrus_builder.specs.walrus_walks.walrus_instr.declared.seq.InstrSeq.{InstrSeq}
use Rattle.walrus_builder.specs.walrus_walks.Tree.{children, children_in, handlers, Falls, IsRank}
use Rattle.walrus_builder.specs.walrus_walks.Plain.{RanksFit}
use Rattle.walrus_tree.specs.Trees.{AreWithin, Delegates, Trees, Nothing, Tree, Stand}
use Rattle.walrus_tree.specs.Text.{Piece, End, after_parts, after, of_parts, of_instrs, of_seq, text_within}
use Rattle.walrus_tree.specs.TextLaws.{IsPlainText, TextIsPlain, PlainTextIsOne, IsSound, AreSound, TreesAreSound, PartsAreWhole}

-- ---- two texts agree on these sequences
abbrev pub Agree : (ℕ → Piece → List (Piece × InstrLocId)) → (ℕ → Piece → List (Piece × InstrLocId)) → List ℕ → Type 0
Agree w v [] = Unit {0}
Agree w v (k ∷ ks) = ((p : Piece) → w k p ≡ v k p) × Agree w v ks

module _ (w v : ℕ → Piece → List (Piece × InstrLocId)) where
  agree_split : (xs ys : List ℕ) → Agree w v (xs ++ ys) → Agree w v xs × Agree w v ys
  agree_split [] ys h = (tt, h)
  agree_split (x ∷ xs) ys h = let p = agree_split xs ys h.1 in ((h.0, p.0), p.1)

  parts_agree : (ks : List ℕ) (ps : List Piece) → Agree w v ks → of_parts w ks ps ≡ of_parts v ks ps
  parts_agree [] ps h = refl
  parts_agree (k ∷ ks) [] h = refl
  parts_agree (k ∷ ks) (p ∷ ps) h =
      let e = h.0 p in
      let f = parts_agree ks ps h.1 in
      cc

  instrs_agree : (around : List ℕ) (is : List (Instr × InstrLocId)) → Agree w v (children_in is) → of_instrs w around is ≡ of_instrs v around is
  instrs_agree around [] h = refl
  instrs_agree around (i ∷ is) h =
      let p = agree_split (children i.0) (children_in is) h in
      let e = parts_agree (children i.0) (after i.0) p.0 in
      let f = instrs_agree around is p.1 in
      cc

  seq_agrees : (around : List ℕ) (o : Option InstrSeq) (s : InstrSeq) (p : Piece) → o ≡ Some s → Agree w v (children_in s.instrs.items) → of_seq w around o p ≡ of_seq v around o p
  seq_agrees around o s p e h =
      let F : Option InstrSeq → Type 0 = λ q. of_seq w around q p ≡ of_seq v around q p in
      let G : List (Piece × InstrLocId) → List (Piece × InstrLocId) = λ ps. ps ++ (p, s.end) ∷ [] in
      subst F (sym e) (ap G (instrs_agree around s.instrs.items h))

  falls_agree : (rank : ℕ → ℕ) (t : ℕ) → ((c : ℕ) → 0 < rank c → rank c < t → (p : Piece) → w c p ≡ v c p) → (ks : List ℕ) → Falls rank t ks → Agree w v ks
  falls_agree rank t same [] f = tt
  falls_agree rank t same (c ∷ cs) f = (same c f.0 f.1, falls_agree rank t same cs f.2)

-- ---- the text is the plain recursion
-- a text deep enough is as good as a deeper one
same_within : (b : List InstrSeq) (rank : ℕ → ℕ) → IsRank b rank → (n m : ℕ) (around : List ℕ) (k : ℕ) (p : Piece) → 0 < rank k → rank k ≤ n → rank k ≤ m → text_within b n around k p ≡ text_within b m around k p
same_within b rank r zero m around k p l h g = absurd (omega (arith, l, h))
same_within b rank r (suc n) zero around k p l h g = absurd (omega (arith, l, g))
same_within b rank r (suc n) (suc m) around k p l h g =
    let s = r k l in
    let same = λ (c : ℕ) (q : 0 < rank c) (d : rank c < rank k) (x : Piece). same_within b rank r n m (k ∷ around) c x q (omega (arith, d, h)) (omega (arith, d, g)) in
    let w = text_within b n (k ∷ around) in
    let v = text_within b m (k ∷ around) in
    seq_agrees w v (k ∷ around) (slice_get b k) s.0 p s.1 (falls_agree w v rank (rank k) same (children_in s.0.instrs.items) s.2)

pub text_is_plain : RanksFit → TextIsPlain
text_is_plain fit b around k p s h e =
    let f = fit b k h in
    let most = f.3 k in
    let deeper : text_within b (length b) around k p ≡ text_within b (suc (length b)) around k p = same_within b f.0 f.1 (length b) (suc (length b)) around k p f.2 most (omega (arith, most)) in
    deeper ∙ ap (λ (o : Option InstrSeq). of_seq (text_within b (length b) (k ∷ around)) (k ∷ around) o p) e

module _ (b : List InstrSeq) (plain : List ℕ → ℕ → Piece → List (Piece × InstrLocId)) (is_plain : IsPlainText b plain) (rank : ℕ → ℕ) (r : IsRank b rank) where
  plain_within : (n : ℕ) (around : List ℕ) (k : ℕ) (p : Piece) → 0 < rank k → rank k ≤ n → plain around k p ≡ text_within b n around k p
  plain_within zero around k p l h = absurd (omega (arith, l, h))
  plain_within (suc n) around k p l h =
      let s = r k l in
      let same = λ (c : ℕ) (q : 0 < rank c) (d : rank c < rank k) (x : Piece). plain_within n (k ∷ around) c x q (omega (arith, d, h)) in
      let w = plain (k ∷ around) in
      let v = text_within b n (k ∷ around) in
      let G : List (Piece × InstrLocId) → List (Piece × InstrLocId) = λ ps. ps ++ (p, s.0.end) ∷ [] in
      is_plain around k p s.0 (record { rank = rank; is_rank = r; ranked = l }) s.1
      ∙ ap G (instrs_agree w v (k ∷ around) s.0.instrs.items (falls_agree w v rank (rank k) same (children_in s.0.instrs.items) s.2))
      ∙ sym (ap (λ (o : Option InstrSeq). of_seq v (k ∷ around) o p) s.1)

pub plain_text_is_one : RanksFit → PlainTextIsOne
plain_text_is_one fit b plain is_plain around k p h =
    let f = fit b k h in
    plain_within b plain is_plain f.0 f.1 (length b) around k p f.2 (f.3 k)

-- ---- the text of a tree is sound
sound_append : (xs ys : List (Piece × InstrLocId)) → AreSound xs → AreSound ys → AreSound (xs ++ ys)
sound_append [] ys h g = g
sound_append (x ∷ xs) ys h g = (h.0, sound_append xs ys h.1 g)

abbrev pub AllSound : List Piece → Type 0
AllSound [] = Unit {0}
AllSound (p ∷ ps) = IsSound p × AllSound ps

parts_sound : (parts : List LegacyCatch) → AllSound (after_parts parts)
parts_sound [] = (tt, tt)
parts_sound (Legacy.Catch _ _ ∷ parts) = (tt, parts_sound parts)
parts_sound (Legacy.CatchAll _ ∷ parts) = (tt, parts_sound parts)
parts_sound (Legacy.Delegate _ ∷ parts) = (tt, tt)

after_sound : (i : Instr) → AllSound (after i)
after_sound (Block _) = (tt, tt)
after_sound (Loop _) = (tt, tt)
after_sound (IfElse _ _) = (tt, (tt, tt))
after_sound (Try _ catches) = parts_sound catches.items
after_sound (TryTable _ _) = (tt, tt)
after_sound _ = tt

-- the texts of these sequences are sound
abbrev pub SoundAt : (ℕ → Piece → List (Piece × InstrLocId)) → List ℕ → Type 0
SoundAt t [] = Unit {0}
SoundAt t (k ∷ ks) = ((p : Piece) → IsSound p → AreSound (t k p)) × SoundAt t ks

module _ (t : ℕ → Piece → List (Piece × InstrLocId)) where
  sound_split : (xs ys : List ℕ) → SoundAt t (xs ++ ys) → SoundAt t xs × SoundAt t ys
  sound_split [] ys h = (tt, h)
  sound_split (x ∷ xs) ys h = let p = sound_split xs ys h.1 in ((h.0, p.0), p.1)

  of_parts_sound : (ks : List ℕ) (ps : List Piece) → SoundAt t ks → AllSound ps → AreSound (of_parts t ks ps)
  of_parts_sound [] ps h g = tt
  of_parts_sound (k ∷ ks) [] h g = tt
  of_parts_sound (k ∷ ks) (p ∷ ps) h g = sound_append (t k p) (of_parts t ks ps) (h.0 p g.0) (of_parts_sound ks ps h.1 g.1)

  instrs_sound : (around : List ℕ) (is : List (Instr × InstrLocId)) → AreWithin around is → SoundAt t (children_in is) → AreSound (of_instrs t around is)
  instrs_sound around [] h g = tt
  instrs_sound around (i ∷ is) h g =
      let p = sound_split (children i.0) (children_in is) g in
      (h.0, sound_append (of_parts t (children i.0) (after i.0)) (of_instrs t around is) (of_parts_sound (children i.0) (after i.0) p.0 (after_sound i.0)) (instrs_sound around is h.1 p.1))

one_sound : (b : List InstrSeq) (n : ℕ) (around : List ℕ) (k : ℕ) (s : InstrSeq) → slice_get b k ≡ Some s → AreWithin (k ∷ around) s.instrs.items
    → ((m : ℕ) → SoundAt (text_within b m (k ∷ around)) (children_in s.instrs.items)) → (p : Piece) → IsSound p → AreSound (text_within b n around k p)
one_sound b zero around k s found within held p h = tt
one_sound b (suc n) around k s found within held p h =
    let t = text_within b n (k ∷ around) in
    let F : Option InstrSeq → Type 0 = λ o. AreSound (of_seq t (k ∷ around) o p) in
    subst F (sym found) (sound_append (of_instrs t (k ∷ around) s.instrs.items) ((p, s.end) ∷ []) (instrs_sound t (k ∷ around) s.instrs.items within (held n)) (h, tt))

stand_sound : (b : List InstrSeq) (ts : Trees) (around ks : List ℕ) → Stand b ts around ks → (n : ℕ) → SoundAt (text_within b n around) ks
stand_sound b Nothing around [] h n = tt
stand_sound b Nothing around (k ∷ ks) h n = absurd h
stand_sound b (Tree id inside beside) around [] h n = absurd h
stand_sound b (Tree id inside beside) around (k ∷ ks) h n =
    (one_sound b n around k h.1 h.2 h.3 (λ m. stand_sound b inside (k ∷ around) (children_in h.1.instrs.items) h.4 m), stand_sound b beside around ks h.5 n)

pub trees_are_sound : TreesAreSound
trees_are_sound b entry t = (stand_sound b (Tree entry t.inside Nothing) [] (entry ∷ []) t.stands (length b)).0 End tt

-- ---- one piece behind each sequence
parts_whole : (n : ℕ) (parts : List LegacyCatch) → Delegates n parts → length (after_parts parts) ≡ suc (length (handlers parts))
parts_whole n [] h = refl
parts_whole n (Legacy.Catch _ _ ∷ parts) h = ap suc (parts_whole n parts h)
parts_whole n (Legacy.CatchAll _ ∷ parts) h = ap suc (parts_whole n parts h)
parts_whole n (Legacy.Delegate _ ∷ parts) h = ap (λ (rest : List LegacyCatch). suc (length (handlers rest))) (sym h.1)

pub parts_are_whole : PartsAreWhole
parts_are_whole around (Block _) h = refl
parts_are_whole around (Loop _) h = refl
parts_are_whole around (IfElse _ _) h = refl
parts_are_whole around (Try _ catches) h = parts_whole (length around) catches.items h.counted
parts_are_whole around (TryTable _ _) h = refl
parts_are_whole around _ h = refl
