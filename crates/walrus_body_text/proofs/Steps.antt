-- One step along the text of a tree keeps what a loop over it keeps.
use Rattle.std.proofs.Common.{ℕ, zero, suc, ◌+◌, ◌-◌, ◌<◌, ◌≡◌, List, [], ◌∷◌, ◌++◌, length, drop, Option, Some, None, refl, sym, ap, subst, arith, ◌∙◌}
use Rattle.std.specs.Prelude.{slice_get, slice_set}
use Rattle.std.proofs.lemmas.List.{append_assoc, length-set}
use Rattle.std.proofs.lemmas.Option.{slice_get_within}
use Rattle.walrus_tree.specs.walrus_walks.walrus_instr.declared.instr.Instr.{Instr}
use Rattle.walrus_tree.specs.walrus_walks.walrus_instr.declared.seq.InstrLocId.{InstrLocId}
use Rattle.walrus_tree.specs.walrus_walks.walrus_instr.declared.seq.InstrSeq.{InstrSeq}
use Rattle.walrus_tree.specs.walrus_walks.Tree.{children, children_in, Falls, IsRank, IsNested}
use Rattle.walrus_tree.specs.Trees.{IsWithin}
use Rattle.walrus_tree.specs.Text.{Piece, Operator, after, of_parts, of_instrs, text, operators}
use Rattle.walrus_tree.specs.TextLaws.{TextIsPlain, AreSound}
use Rattle.walrus_body_text.specs.declared.todo.Closer.TheVariants.{End}
use Rattle.walrus_body_text.specs.declared.todo.Met.{Met}
use Rattle.walrus_body_text.specs.declared.todo.Place.{Place}
use Rattle.walrus_body_text.specs.declared.todo.Todo.{Todo}
use Rattle.walrus_body_text.specs.declared.todo.Todo.TheVariants.{Enter, Inside}
use Rattle.walrus_body_text.specs.declared.depths.Depths.{Depths}
use Rattle.walrus_body_text.specs.Doing.{Text, piece_of, entering, opened, rest_of, here, left, AreDeep, IsBelow, AreRanked, place_of, depths_after, height_after}
use Rattle.walrus_body_text.specs.Walking.{State, state, advanced, MetInstr, MetEnd, AdvancesIn, AdvancesAt, Advances, Good, Passed}
use Rattle.walrus_body_text.proofs.Lefts.{opened_append, left_append, left_last, ranked_append, ranked_front, ranked_back, not_around, held_text, falls_at, held_ranked, entering_opens}
use Rattle.walrus_body_text.proofs.Deep.{deep_entered}

-- ---- what is next

-- what is known of what was taken from the list: its sequence, which is open once it is entered
record Top (b : List InstrSeq) (rank : ℕ → ℕ) (around depths : List ℕ) (height : ℕ) (top : Todo) : Type 0 where
  pub seq : InstrSeq
  pub found : slice_get b (place_of top).seq ≡ Some seq
  pub falls : Falls rank (rank (place_of top).seq) (children_in seq.instrs.items)
  pub some : 0 < rank (place_of top).seq
  pub below : IsBelow rank (place_of top).seq around
  pub deep : AreDeep (depths_after depths height top) ((place_of top).seq ∷ around)
  pub high : height_after height top ≡ length ((place_of top).seq ∷ around)
  pub sized : length (depths_after depths height top) ≡ length b
  pub text_is : here b around top ≡ of_instrs (text b ((place_of top).seq ∷ around)) ((place_of top).seq ∷ around) (drop (place_of top).next seq.instrs.items) ++ (piece_of (place_of top).closer, seq.end) ∷ []

module _ (b : List InstrSeq) (plain : TextIsPlain) (rank : ℕ → ℕ) (is_rank : IsRank b rank) where
  top_is : (ts : List Todo) (top : Todo) (depths : List ℕ) (height : ℕ) → AreRanked rank (opened [] ts) (top ∷ []) → AreDeep depths (opened [] (ts ++ top ∷ [])) → height ≡ length (opened [] (ts ++ top ∷ []))
      → length depths ≡ length b → Top b rank (opened [] ts) depths height top
  top_is ts (Enter k c) depths height ranked deep high sized =
      let s = is_rank k ranked.0 in
      let around = opened [] ts in
      let at = opened_append [] ts (Enter k c ∷ []) in
      let here_deep : AreDeep depths around = subst (AreDeep depths) at deep in
      let here_high : height ≡ length around = high ∙ ap length at in
      let inside : k < length depths = let l = slice_get_within b k s.0 s.1 in omega (arith, l, sized) in
      record {
        seq = s.0;
        found = s.1;
        falls = s.2;
        some = ranked.0;
        below = ranked.1;
        deep = subst (λ (v : ℕ). AreDeep (slice_set depths k v) (k ∷ around)) (sym here_high) (deep_entered depths around k inside (not_around rank k around ranked.1) here_deep);
        high = omega (arith, here_high);
        sized = length-set depths k height ∙ sized;
        text_is = plain b around k (piece_of c) s.0 (record { rank = rank; is_rank = is_rank; ranked = ranked.0 }) s.1;
      }
  top_is ts (Inside at) depths height ranked deep high sized =
      let s = is_rank at.seq ranked.0 in
      let around = opened [] ts in
      let on = opened_append [] ts (Inside at ∷ []) in
      record {
        seq = s.0;
        found = s.1;
        falls = s.2;
        some = ranked.0;
        below = ranked.1;
        deep = subst (AreDeep depths) on deep;
        high = high ∙ ap length on;
        sized = sized;
        text_is = ap (rest_of (text b (at.seq ∷ around)) (at.seq ∷ around) (piece_of at.closer) at.next) s.1;
      }

-- ---- positions in a sequence

drop_suc : {A : Type 0} (xs : List A) (n : ℕ) (x : A) → slice_get xs n ≡ Some x → drop n xs ≡ x ∷ drop (suc n) xs
drop_suc {A} [] n x e = absurd (none_some A x e)
  where
    none_some : (A : Type 0) (x : A) → ◌≡◌ {A = Option A} None (Some x) → ⊥
    none_some A x e = cc
drop_suc {A} (y ∷ xs) zero x e = ap (λ (z : A). z ∷ xs) (some_is A y x e)
  where
    some_is : (A : Type 0) (y x : A) → ◌≡◌ {A = Option A} (Some y) (Some x) → y ≡ x
    some_is A y x e = cc
drop_suc {A} (y ∷ xs) (suc n) x e = drop_suc xs n x e

pub drop_at : {A : Type 0} (xs : List A) (n : ℕ) (x : A) → slice_get xs n ≡ Some x → drop n xs ≡ x ∷ drop (n + 1) xs
drop_at xs n x e = let one : suc n ≡ n + 1 = omega arith in drop_suc xs n x e ∙ ap (λ (m : ℕ). x ∷ drop m xs) one

pub drop_past : {A : Type 0} (xs : List A) (n : ℕ) → slice_get xs n ≡ None → drop n xs ≡ []
drop_past [] zero e = refl
drop_past [] (suc n) e = refl
drop_past {A} (y ∷ xs) zero e = absurd (some_none A y e)
  where
    some_none : (A : Type 0) (y : A) → ◌≡◌ {A = Option A} (Some y) None → ⊥
    some_none A y e = cc
drop_past (y ∷ xs) (suc n) e = drop_past xs n e

-- the pieces behind one another
regroup : (x : Piece × InstrLocId) (p r e l : Text) → ((x ∷ (p ++ r)) ++ e) ++ l ≡ x ∷ (p ++ ((r ++ e) ++ l))
regroup x p r e l =
    ap (λ (z : Text). x ∷ (z ++ l)) (append_assoc p r e) ∙ ap (λ (z : Text). x ∷ z) (append_assoc p (r ++ e) l)

-- behind a list that ts and this make
module _ (b : List InstrSeq) (plain : TextIsPlain) (ts : List Todo) (top : Todo) (old : State) (g : Good b (record { todo = ts ++ top ∷ []; marks = old.marks; depths = old.depths; height = old.height })) where
  -- the text that was left begins with this piece
  goes_on : (p : Piece × InstrLocId) (rest : Text) (new : State) → left b [] (ts ++ top ∷ []) ≡ p ∷ rest → left b [] new.todo ≡ rest
      → AreRanked g.rank [] new.todo → AreDeep new.depths (opened [] new.todo) → new.height ≡ length (opened [] new.todo) → length new.depths ≡ length b → Good b new
  goes_on p rest new was now ranked deep high sized = record {
    rank = g.rank;
    is_rank = g.is_rank;
    ranked = ranked;
    deep = deep;
    height = high;
    sized = sized;
    sound = subst AreSound (sym now) (subst AreSound was g.sound).1;
  }

  top_of : Top b g.rank (opened [] ts) old.depths old.height top
  top_of = top_is b plain g.rank g.is_rank ts top old.depths old.height (ranked_back g.rank [] ts (top ∷ []) g.ranked) g.deep g.height g.sized

  module _ (t : Top b g.rank (opened [] ts) old.depths old.height top) (met : Met) (new : State) where
    instr_passed : (i : Instr × InstrLocId) → slice_get t.seq.instrs.items (place_of top).next ≡ Some i → MetInstr top i met (record { todo = ts; marks = old.marks; depths = old.depths; height = old.height }) new → Passed b (left b [] (ts ++ top ∷ [])) met new
    instr_passed i at w =
        let k = (place_of top).seq in
        let around = opened [] ts in
        let env = k ∷ around in
        let next = (place_of top).next in
        let e : Text = (piece_of (place_of top).closer, t.seq.end) ∷ [] in
        let held : Text = of_parts (text b env) (children i.0) (after i.0) in
        let rest : Text = of_instrs (text b env) env (drop (next + 1) t.seq.instrs.items) in
        let more : Text = held ++ ((rest ++ e) ++ left b [] ts) in
        let behind = Inside (advanced (place_of top)) in
        let was : left b [] (ts ++ top ∷ []) ≡ (Operator env i.0, i.1) ∷ more =
        left_last b ts top ∙ ap (λ (z : Text). z ++ left b [] ts) (t.text_is ∙ ap (λ (is : List (Instr × InstrLocId)). of_instrs (text b env) env is ++ e) (drop_at t.seq.instrs.items next i at))
        ∙ regroup (Operator env i.0, i.1) held rest e (left b [] ts) in
        let within : IsWithin env i.0 = (subst AreSound was g.sound).0 in
        let opens : opened [] (ts ++ behind ∷ []) ≡ env = opened_append [] ts (behind ∷ []) in
        let all_opens : opened [] ((ts ++ behind ∷ []) ++ entering i.0) ≡ env = opened_append [] (ts ++ behind ∷ []) (entering i.0) ∙ ap (λ (z : List ℕ). opened z (entering i.0)) opens ∙ entering_opens env i.0 in
        let now : left b [] new.todo ≡ more =
        ap (left b []) w.todo ∙ left_append b [] (ts ++ behind ∷ []) (entering i.0)
        ∙ ap (λ (z : List ℕ). left b z (entering i.0) ++ left b [] (ts ++ behind ∷ [])) opens
        ∙ ap (λ (z : Text). z ++ left b [] (ts ++ behind ∷ [])) (held_text b env i.0 (length env) within.counted)
        ∙ ap (λ (z : Text). held ++ z) (left_last b ts behind ∙ ap (λ (s : Option InstrSeq). rest_of (text b env) env (piece_of (place_of top).closer) (next + 1) s ++ left b [] ts) t.found) in
        let here_deep : AreDeep new.depths env = subst (λ (z : List ℕ). AreDeep z env) (sym w.depths) t.deep in
        let here_high : new.height ≡ length env = w.height ∙ t.high in
        subst (λ (m : Met). Passed b (left b [] (ts ++ top ∷ [])) m new) (sym w.is) (record {
          seq = t.seq;
          item = i;
          around = env;
          found = t.found;
          stands = at;
          deep = here_deep;
          high = here_high;
          within = within;
          was = was ∙ ap (λ (z : Text). (Operator env i.0, i.1) ∷ z) (sym now);
          good = goes_on (Operator env i.0, i.1) more new was now
              (subst (AreRanked g.rank []) (sym w.todo)
              (ranked_append g.rank [] (ts ++ behind ∷ []) (entering i.0)
              (ranked_append g.rank [] ts (behind ∷ []) (ranked_front g.rank [] ts (top ∷ []) g.ranked) (t.some, t.below, tt))
              (subst (λ (z : List ℕ). AreRanked g.rank z (entering i.0)) (sym opens) (held_ranked g.rank k around t.below i.0 (falls_at g.rank (g.rank k) t.seq.instrs.items next i at t.falls)))))
              (subst (λ (z : List Todo). AreDeep new.depths (opened [] z)) (sym w.todo) (subst (AreDeep new.depths) (sym all_opens) here_deep))
              (here_high ∙ ap length (sym all_opens) ∙ ap (λ (z : List Todo). length (opened [] z)) (sym w.todo))
              (ap length w.depths ∙ t.sized);
        })

    end_passed : slice_get t.seq.instrs.items (place_of top).next ≡ None → MetEnd top t.seq.end met (record { todo = ts; marks = old.marks; depths = old.depths; height = old.height }) new → Passed b (left b [] (ts ++ top ∷ [])) met new
    end_passed at w =
        let k = (place_of top).seq in
        let around = opened [] ts in
        let env = k ∷ around in
        let p = piece_of (place_of top).closer in
        let was : left b [] (ts ++ top ∷ []) ≡ (p, t.seq.end) ∷ left b [] ts =
        left_last b ts top ∙ ap (λ (z : Text). z ++ left b [] ts) (t.text_is ∙ ap (λ (is : List (Instr × InstrLocId)). of_instrs (text b env) env is ++ (p, t.seq.end) ∷ []) (drop_past t.seq.instrs.items (place_of top).next at)) in
        let now = ap (left b []) w.todo in
        let down : length env - 1 ≡ length around = omega arith in
        subst (λ (m : Met). Passed b (left b [] (ts ++ top ∷ [])) m new) (sym w.is) (record {
          was = was ∙ ap (λ (z : Text). (p, t.seq.end) ∷ z) (sym now);
          good = goes_on (p, t.seq.end) (left b [] ts) new was now
              (subst (AreRanked g.rank []) (sym w.todo) (ranked_front g.rank [] ts (top ∷ []) g.ranked))
              (subst (λ (z : List Todo). AreDeep new.depths (opened [] z)) (sym w.todo) (subst (λ (z : List ℕ). AreDeep z around) (sym w.depths) t.deep.1))
              (w.height ∙ ap (λ (m : ℕ). m - 1) t.high ∙ down ∙ ap (λ (z : List Todo). length (opened [] z)) (sym w.todo))
              (ap length w.depths ∙ t.sized);
        })

    in_passed : (o : Option (Instr × InstrLocId)) → slice_get t.seq.instrs.items (place_of top).next ≡ o → AdvancesIn top met t.seq o (record { todo = ts; marks = old.marks; depths = old.depths; height = old.height }) new → Passed b (left b [] (ts ++ top ∷ [])) met new
    in_passed (Some i) e h = instr_passed i e h
    in_passed None e h = end_passed e h

    at_passed : AdvancesAt top met (slice_get b (place_of top).seq) (record { todo = ts; marks = old.marks; depths = old.depths; height = old.height }) new → Passed b (left b [] (ts ++ top ∷ [])) met new
    at_passed h =
        let F : Option InstrSeq → Type 0 = λ o. AdvancesAt top met o (record { todo = ts; marks = old.marks; depths = old.depths; height = old.height }) new in
        in_passed (slice_get t.seq.instrs.items (place_of top).next) refl (subst F t.found h)

  pub passed_at : (met : Met) (new : State) → Advances b top met (record { todo = ts; marks = old.marks; depths = old.depths; height = old.height }) new → Passed b (left b [] (ts ++ top ∷ [])) met new
  passed_at met new h = at_passed top_of met new h

  -- what is next may be entered first: the text that is left stays
  opened_text : left b [] (ts ++ top ∷ []) ≡ left b [] (ts ++ Inside (place_of top) ∷ [])
  opened_text =
      let t = top_of in
      let at = place_of top in
      let env = at.seq ∷ opened [] ts in
      left_last b ts top ∙ ap (λ (z : Text). z ++ left b [] ts) (t.text_is ∙ sym (ap (rest_of (text b env) env (piece_of at.closer) at.next) t.found)) ∙ sym (left_last b ts (Inside at))

  opened_good : (e : Depths) → e.depths.items ≡ depths_after old.depths old.height top → e.height ≡ height_after old.height top → Good b (state (ts ++ Inside (place_of top) ∷ []) e)
  opened_good e lie high =
      let t = top_of in
      let at = place_of top in
      let env = at.seq ∷ opened [] ts in
      let on : opened [] (ts ++ Inside at ∷ []) ≡ env = opened_append [] ts (Inside at ∷ []) in
      record {
        rank = g.rank;
        is_rank = g.is_rank;
        ranked = ranked_append g.rank [] ts (Inside at ∷ []) (ranked_front g.rank [] ts (top ∷ []) g.ranked) (t.some, t.below, tt);
        deep = subst (AreDeep e.depths.items) (sym on) (subst (λ (z : List ℕ). AreDeep z env) (sym lie) t.deep);
        height = high ∙ t.high ∙ ap length (sym on);
        sized = ap length lie ∙ t.sized;
        sound = subst AreSound opened_text g.sound;
      }

-- what is next was entered, and is open
pub record Opens (b : List InstrSeq) (ts : List Todo) (top : Todo) (at : Place) (e : Depths) : Type 0 where
  pub good : Good b (state (ts ++ Inside at ∷ []) e)
  pub same : left b [] (ts ++ top ∷ []) ≡ left b [] (ts ++ Inside at ∷ [])

pub opens : (b : List InstrSeq) → TextIsPlain → (ts : List Todo) (top : Todo) (at : Place) (d e : Depths) → Good b (state (ts ++ top ∷ []) d) → at ≡ place_of top
    → e.depths.items ≡ depths_after d.depths.items d.height top → e.height ≡ height_after d.height top → Opens b ts top at e
opens b plain ts top at d e good is lie high =
    let F : Place → Type 0 = λ p. Opens b ts top p e in
    subst F (sym is) (record { good = opened_good b plain ts top (state ts d) good e lie high; same = opened_text b plain ts top (state ts d) good })

-- a turn of a loop over the list
pub passed : (b : List InstrSeq) → TextIsPlain → (items ts : List Todo) (top : Todo) (d : Depths) (met : Met) (new : State) → items ≡ ts ++ top ∷ [] → Good b (state items d) → Advances b top met (state ts d) new → Passed b (left b [] items) met new
passed b plain items ts top d met new is g h =
    let F : List Todo → Type 0 = λ z. Good b (state z d) in
    let G : List Todo → Type 0 = λ z. Passed b (left b [] z) met new in
    subst G (sym is) (passed_at b plain ts top (state ts d) (subst F is g) met new h)

-- the beginning
pub starts : (b : List InstrSeq) (entry : ℕ) (items : List Todo) (d : Depths) → IsNested b entry → AreSound (operators b entry) → items ≡ Enter entry End ∷ [] → d.height ≡ 0 → length d.depths.items ≡ length b → Good b (state items d)
starts b entry items d nested sound is low sized =
    let F : List Todo → Type 0 = λ z. Good b (state z d) in
    subst F (sym is) (record { rank = nested.rank; is_rank = nested.is_rank; ranked = (nested.ranked, tt, tt); deep = tt; height = low; sized = sized; sound = sound })
