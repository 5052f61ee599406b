-- What the steps still enter, part by part.
use Rattle.std.proofs.Common.{ℕ, ◌≡◌, List, [], ◌∷◌, ◌++◌, refl, sym, ap, subst, ◌∙◌, append_assoc}
use Rattle.walrus_builder.specs.walrus_walks.walrus_instr.declared.seq.InstrSeq.{InstrSeq}
use Rattle.walrus_tree.specs.declared.steps.Step.{Step}
use Rattle.walrus_tree.specs.declared.steps.Step.TheVariants.{Enter, Leave}
use Rattle.walrus_tree.specs.Trees.{Trees, Nothing, Tree, ids, Stand}
use Rattle.walrus_tree.specs.Testing.{entering, opened, Left}

-- what two lists of steps enter
pub record Splits (b : List InstrSeq) (around : List ℕ) (fs gs : List Step) (ks : List ℕ) : Type 0 where
  pub x : List ℕ
  pub y : List ℕ
  pub is : ks ≡ x ++ y
  pub front : Left b around fs x
  pub back : Left b (opened around fs) gs y

pub left_split : (b : List InstrSeq) (around : List ℕ) (fs gs : List Step) (ks : List ℕ) → Left b around (fs ++ gs) ks → Splits b around fs gs ks
left_split b around [] gs ks h = record { x = []; y = ks; is = refl; front = refl; back = h }
left_split b around (Leave k ∷ fs) gs ks h =
    let r = left_split b (k ∷ around) fs gs ks h in
    record { x = r.x; y = r.y; is = r.is; front = r.front; back = r.back }
left_split b around (Enter k ∷ fs) gs ks h =
    let r = left_split b around fs gs h.1 h.4 in
    let own = ids (Tree k h.0 Nothing) in
    record { x = own ++ r.x; y = r.y; is = h.2 ∙ ap (λ (m : List ℕ). own ++ m) r.is ∙ sym (append_assoc own r.x r.y); front = (h.0, r.x, refl, h.3, r.front); back = r.back }

pub left_join : (b : List InstrSeq) (around : List ℕ) (fs gs : List Step) (x y : List ℕ) → Left b around fs x → Left b (opened around fs) gs y → Left b around (fs ++ gs) (x ++ y)
left_join b around [] gs x y f g =
    let F : List ℕ → Type 0 = λ z. Left b around gs (z ++ y) in
    subst F (sym f) g
left_join b around (Leave k ∷ fs) gs x y f g = left_join b (k ∷ around) fs gs x y f g
left_join b around (Enter k ∷ fs) gs x y f g =
    let own = ids (Tree k f.0 Nothing) in
    (f.0, f.1 ++ y, ap (λ (z : List ℕ). z ++ y) f.2 ∙ append_assoc own f.1 y, f.3, left_join b around fs gs f.1 y f.4 g)

-- steps that enter these sequences, and trees of them
pub record Stands (b : List InstrSeq) (around ks cs : List ℕ) : Type 0 where
  pub trees : Trees
  pub is : ks ≡ ids trees
  pub stand : Stand b trees around cs

pub left_stands : (b : List InstrSeq) (around cs ks : List ℕ) → Left b around (entering cs) ks → Stands b around ks cs
left_stands b around [] ks h = record { trees = Nothing; is = h; stand = tt }
left_stands b around (c ∷ cs) ks h =
    let r = left_stands b around cs h.1 h.4 in
    let st = h.3 in
    record {
      trees = Tree c h.0 r.trees;
      is = h.2 ∙ ap (λ (z : List ℕ). c ∷ z) (append_assoc (ids h.0) [] h.1) ∙ ap (λ (m : List ℕ). c ∷ (ids h.0 ++ m)) r.is;
      stand = (st.0, st.1, st.2, st.3, st.4, r.stand);
    }

pub stands_left : (b : List InstrSeq) (around cs : List ℕ) (ts : Trees) → Stand b ts around cs → Left b around (entering cs) (ids ts)
stands_left b around [] Nothing h = refl
stands_left b around [] (Tree id inside beside) h = absurd h
stands_left b around (c ∷ cs) Nothing h = absurd h
stands_left b around (c ∷ cs) (Tree id inside beside) h =
    let same = h.0 in
    let is : id ∷ (ids inside ++ ids beside) ≡ c ∷ ((ids inside ++ []) ++ ids beside) = ap (λ (k : ℕ). k ∷ (ids inside ++ ids beside)) same ∙ ap (λ (z : List ℕ). c ∷ z) (sym (append_assoc (ids inside) [] (ids beside))) in
    (inside, ids beside, is, (refl, h.1, h.2, h.3, h.4, tt), stands_left b around cs beside h.5)
