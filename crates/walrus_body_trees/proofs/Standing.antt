-- Lemmas: sequences that lie as a tree of operators stand as a tree of ids.
use Rattle.std.proofs.Common.{ℕ, zero, suc, ◌≡◌, ◌⊎◌, Bool, true, false, List, [], ◌∷◌, ◌++◌, length, map, Some, refl, sym, ap, subst, arith, ◌∙◌, inl, inr, eq-eqb}
use Rattle.std.specs.Prelude.{◌==◌, slice_get, if◌then◌else◌}
use Rattle.std.proofs.lemmas.List.{append_assoc}
use Rattle.wasm_features.specs.declared.WasmFeatures.{WasmFeatures}
use Rattle.walrus_meaning.specs.walrus_local_function.walrus_body_parser.wasm_operators.Operators.{Seen}
use Rattle.walrus_meaning.specs.walrus_local_function.walrus_body_locals.wasm_normal_form.Trees.{Tree as OpTree, Close, Arm, Skip, Run, Nest}
use Rattle.walrus_meaning.specs.walrus_body_writer.walrus_body_env.walrus_instr.declared.instr.Instr.{Instr}
use Rattle.walrus_meaning.specs.walrus_body_writer.walrus_body_env.walrus_instr.declared.seq.InstrLocId.{InstrLocId}
use Rattle.walrus_meaning.specs.walrus_body_writer.walrus_body_env.walrus_instr.declared.seq.InstrSeq.{InstrSeq}
use Rattle.walrus_meaning.specs.walrus_body_writer.walrus_body_env.walrus_instr.declared.seq.InstrSeqType.{InstrSeqType}
use Rattle.walrus_meaning.specs.walrus_module.walrus_builder.Built.{Seq, seq_of}
use Rattle.walrus_meaning.specs.walrus_body_writer.walrus_tree.walrus_walks.Tree.{children_in}
use Rattle.walrus_tree.specs.Trees.{Has, AreDistinct, AreWithin, Trees, Nothing, Tree, ids, Stand, IsTree}
use Rattle.walrus_pairing.specs.Laws.{OperatorComesBack}
use Rattle.walrus_meaning.specs.walrus_local_function.walrus_body_locals.walrus_body_nesting.Stands.{Part, Finish, Ended, Delegated, with, none, lies, StandsAs}
use Rattle.walrus_meaning.specs.walrus_local_function.walrus_body_parser.walrus_body_rules.Sights.{Sight}
use Rattle.walrus_meaning.specs.walrus_local_function.walrus_body_parser.walrus_body_steps.Meanings.{EndsAs, meaning}
use Rattle.walrus_body_trees.proofs.Counted.{Counts, Hands}
use Rattle.walrus_body_trees.proofs.Instrs.{Finishes, seqs_in, made_children, made_within, run_stands}

-- ---- ids

has_either : (xs ys : List ℕ) (k : ℕ) → Has (xs ++ ys) k → Has xs k ⊎ Has ys k
has_either [] ys k h = inr h
has_either (x ∷ xs) ys k (inl e) = inl (inl e)
has_either (x ∷ xs) ys k (inr h) = elim (has_either xs ys k h) as (λ _. Has (x ∷ xs) k ⊎ Has ys k) [ inl f ↦ inl (inr f) | inr f ↦ inr f ]

distinct_append : (xs ys : List ℕ) → AreDistinct xs → AreDistinct ys → ((k : ℕ) → Has xs k → Has ys k → ⊥) → AreDistinct (xs ++ ys)
distinct_append [] ys h g apart = g
distinct_append (x ∷ xs) ys h g apart = (
  λ f. elim (has_either xs ys x f) as (λ _. ⊥) [ inl a ↦ h.0 a | inr b ↦ apart x (inl refl) b ],
  distinct_append xs ys h.1 g (λ k a b. apart k (inr a) b),
)

-- what was met stays so
abbrev pub Stays : (ℕ → Bool) → (ℕ → Bool) → Type 0
Stays met done = (j : ℕ) → met j ≡ true → done j ≡ true

-- these were met in between, each once
pub record AreNew (met done : ℕ → Bool) (ks : List ℕ) : Type 0 where
  pub fresh : (j : ℕ) → Has ks j → met j ≡ false
  pub now : (j : ℕ) → Has ks j → done j ≡ true
  pub once : AreDistinct ks

pub not_both : (b : Bool) → b ≡ true → b ≡ false → ⊥
not_both b h g = cc

old : (met done : ℕ → Bool) → Stays met done → (j : ℕ) → done j ≡ false → met j ≡ false
old met done stays j h = go (met j) refl
  where
    go : (b : Bool) → met j ≡ b → met j ≡ false
    go true e = absurd (not_both (done j) (stays j e) h)
    go false e = e

new_join : (met half done : ℕ → Bool) (xs ys : List ℕ) → Stays met half → Stays half done → AreNew met half xs → AreNew half done ys → AreNew met done (xs ++ ys)
new_join met half done xs ys first second x y = record {
  fresh = λ j h. elim (has_either xs ys j h) as (λ _. met j ≡ false) [ inl a ↦ x.fresh j a | inr b ↦ old met half first j (y.fresh j b) ];
  now = λ j h. elim (has_either xs ys j h) as (λ _. done j ≡ true) [ inl a ↦ second j (x.now j a) | inr b ↦ y.now j b ];
  once = distinct_append xs ys x.once y.once (λ k a b. not_both (half k) (x.now k a) (y.fresh k b));
}

pub with_here : (k : ℕ) (met : ℕ → Bool) → with k met k ≡ true
with_here k met = ap (λ (c : Bool). if c then true else met k) (eq-eqb k k refl)

pub with_stays : (k : ℕ) (met : ℕ → Bool) → Stays met (with k met)
with_stays k met j h = go (j == k)
  where
    go : (c : Bool) → (if c then true else met j) ≡ true
    go true = refl
    go false = h

-- one more, before these
new_one : (k : ℕ) (met done : ℕ → Bool) (ks : List ℕ) → met k ≡ false → Stays (with k met) done → AreNew (with k met) done ks → AreNew met done (k ∷ ks)
new_one k met done ks unmet stays n = record {
  fresh = λ j h. elim h as (λ _. met j ≡ false) [ inl e ↦ ap met (sym e) ∙ unmet | inr f ↦ old met (with k met) (with_stays k met) j (n.fresh j f) ];
  now = λ j h. elim h as (λ _. done j ≡ true) [ inl e ↦ ap done (sym e) ∙ stays k (with_here k met) | inr f ↦ n.now j f ];
  once = (λ h. not_both (with k met k) (with_here k met) (n.fresh k h), n.once);
}

stays_on : (met half done : ℕ → Bool) → Stays met half → Stays half done → Stays met done
stays_on met half done h g j e = g j (h j e)

-- ---- trees beside one another

abbrev join : Trees → Trees → Trees
join Nothing y = y
join (Tree id inside beside) y = Tree id inside (join beside y)

ids_join : (x y : Trees) → ids (join x y) ≡ ids x ++ ids y
ids_join Nothing y = refl
ids_join (Tree id inside beside) y =
    ap (λ (l : List ℕ). id ∷ (ids inside ++ l)) (ids_join beside y) ∙ ap (λ (l : List ℕ). id ∷ l) (sym (append_assoc (ids inside) (ids beside) (ids y)))

module _ (b : List InstrSeq) where
  stand_join : (x y : Trees) (around ks ls : List ℕ) → Stand b x around ks → Stand b y around ls → Stand b (join x y) around (ks ++ ls)
  stand_join Nothing y around [] ls h g = g
  stand_join Nothing y around (k ∷ ks) ls h g = absurd h
  stand_join (Tree id inside beside) y around [] ls h g = absurd h
  stand_join (Tree id inside beside) y around (k ∷ ks) ls h g = (h.0, h.1, h.2, h.3, h.4, stand_join beside y around ks ls h.5 g)

  none_stand : (x : Trees) (around : List ℕ) → Stand b x around [] → ids x ≡ []
  none_stand Nothing around h = refl
  none_stand (Tree id inside beside) around h = absurd h

-- ---- sequences as they are seen

pub seen_at : (b : List InstrSeq) (k : ℕ) (x : Seq) → slice_get (map seq_of b) k ≡ Some x → (y : InstrSeq) × (slice_get b k ≡ Some y) × (x ≡ seq_of y)
seen_at [] k x e = absurd cc
seen_at (y ∷ b) zero x e = (y, refl, let f = e in cc)
seen_at (y ∷ b) (suc k) x e = seen_at b k x e

-- the first sequence of a body lies as the tree
pub body_lies : (s : Sight) (b : List InstrSeq) (t : OpTree) (h : StandsAs (meaning s) (map seq_of b) t)
    → (y : InstrSeq) × (slice_get b 0 ≡ Some y) × lies (meaning s) t (map seq_of b) [] 0 h.ty (with 0 none) y.instrs.items y.end [] Ended h.done
body_lies s b t h =
    let n = h.enters in
    let y = seen_at b 0 n.seq n.found in
    (y.0, y.1, subst (λ (z : Seq). lies (meaning s) t (map seq_of b) [] 0 h.ty (with 0 none) z.instrs z.end [] Ended h.done) y.2 n.lie)

-- ---- what lies as a tree

-- the instructions of sequence k from here on, and the further parts of its block, stand as trees
pub record Laid (b : List InstrSeq) (around : List ℕ) (k : ℕ) (met : ℕ → Bool) (is : List (Instr × InstrLocId)) (ms : List Part) (f : Finish) (done : ℕ → Bool) : Type 0 where
  pub inner : Trees
  pub outer : Trees
  pub within : AreWithin (k ∷ around) is
  pub held : Stand b inner (k ∷ around) (children_in is)
  pub beside : Stand b outer around (seqs_in ms)
  pub new : AreNew met done (ids inner ++ ids outer)
  pub stays : Stays met done
  pub finishes : Finishes (length around) f

no_more : (met done : ℕ → Bool) → AreNew met done []
no_more met done = record { fresh = λ j h. absurd h; now = λ j h. absurd h; once = tt }

-- of four lists
regrouped : (a b c d : List ℕ) → (a ++ b) ++ (c ++ d) ≡ (a ++ (b ++ c)) ++ d
regrouped a b c d = append_assoc a b (c ++ d) ∙ ap (λ (l : List ℕ). a ++ l) (sym (append_assoc b c d)) ∙ sym (append_assoc a (b ++ c) d)

module _ (back : OperatorComesBack) (features : WasmFeatures) (s : Sight) (b : List InstrSeq) where
  abbrev pub Lies : OpTree → List ℕ → ℕ → InstrSeqType → (ℕ → Bool) → List (Instr × InstrLocId) → InstrLocId → List Part → Finish → (ℕ → Bool) → Type 0
  Lies t around k ty met is e ms f done = lies (meaning s) t (map seq_of b) around k ty met is e ms f done

  finishes : (o : Seen) (n : ℕ) (f : Finish) → EndsAs o f → Hands (suc n) o → Finishes n f
  finishes o n Ended h hands = tt
  finishes o n (Delegated k) h hands = let l = hands h.0 k h.1 in omega (arith, l)

  pub laid : (t : OpTree) (around : List ℕ) (k : ℕ) (ty : InstrSeqType) (met : ℕ → Bool) (is : List (Instr × InstrLocId)) (e : InstrLocId) (ms : List Part) (f : Finish) (done : ℕ → Bool)
      → Counts features (suc (length around)) t → Lies t around k ty met is e ms f done → Laid b around k met is ms f done
  laid (Close o p) around k ty met [] e [] f done c (ends, place, same) = record {
    inner = Nothing;
    outer = Nothing;
    within = tt;
    held = tt;
    beside = tt;
    new = no_more met done;
    stays = λ j h. ap (λ (m : ℕ → Bool). m j) same ∙ h;
    finishes = finishes o (length around) f ends c;
  }
  laid (Close o p) around k ty met [] e (n ∷ ms) f done c h = absurd h
  laid (Close o p) around k ty met (i ∷ is) e ms f done c h = absurd h
  laid (Arm o p t) around k ty met [] e [] f done c h = absurd h
  laid (Arm o p t) around k ty met [] e (n ∷ ms) f done c (place, fresh, x, found, turns, lie) =
      let y = seen_at b n.seq x found in
      let l = laid t around n.seq ty (with n.seq met) y.0.instrs.items y.0.end ms f done c
      (subst (λ (z : Seq). Lies t around n.seq ty (with n.seq met) z.instrs z.end ms f done) y.2 lie) in
      record {
        inner = Nothing;
        outer = Tree n.seq l.inner l.outer;
        within = tt;
        held = tt;
        beside = (refl, y.0, y.1, l.within, l.held, l.beside);
        new = new_one n.seq met done (ids l.inner ++ ids l.outer) fresh l.stays l.new;
        stays = stays_on met (with n.seq met) done (with_stays n.seq met) l.stays;
        finishes = l.finishes;
      }
  laid (Arm o p t) around k ty met (i ∷ is) e ms f done c h = absurd h
  laid (Skip o p t) around k ty met [] e [] f done c h = absurd h
  laid (Skip o p t) around k ty met [] e (n ∷ ms) f done c h = absurd h
  laid (Skip o p t) around k ty met (i ∷ is) e ms f done c h = absurd h
  laid (Run o p t) around k ty met [] e [] f done c h = absurd h
  laid (Run o p t) around k ty met [] e (n ∷ ms) f done c h = absurd h
  laid (Run o p t) around k ty met (i ∷ is) e ms f done c (runs, place, lie) =
      let l = laid t around k ty met is e ms f done c.2 lie in
      let r = run_stands back features s (k ∷ around) o i.0 runs c.0 c.1 in
      record {
        inner = l.inner;
        outer = l.outer;
        within = (r.0, l.within);
        held = subst (λ (ks : List ℕ). Stand b l.inner (k ∷ around) (ks ++ children_in is)) (sym r.1) l.held;
        beside = l.beside;
        new = l.new;
        stays = l.stays;
        finishes = l.finishes;
      }
  laid (Nest o p u t) around k ty met [] e [] f done c h = absurd h
  laid (Nest o p u t) around k ty met [] e (n ∷ ms) f done c h = absurd h
  laid (Nest o p u t) around k ty met (i ∷ is) e ms f done c (q, (g, makes, opener), place, fresh, x, found, opens, half, inside, lie) =
      let y = seen_at b q.first x found in
      let v = laid u (k ∷ around) q.first x.ty (with q.first met) y.0.instrs.items y.0.end q.more q.finish half c.0
      (subst (λ (z : Seq). Lies u (k ∷ around) q.first x.ty (with q.first met) z.instrs z.end q.more q.finish half) y.2 inside) in
      let l = laid t around k ty half is e ms f done c.1 lie in
      let inner = Tree q.first v.inner (join v.outer l.inner) in
      let block : Stand b (Tree q.first v.inner v.outer) (k ∷ around) (q.first ∷ seqs_in q.more) = (refl, y.0, y.1, v.within, v.held, v.beside) in
      let half_way : Stays met half = stays_on met (with q.first met) half (with_stays q.first met) v.stays in
      let both : AreNew met done ((q.first ∷ (ids v.inner ++ ids v.outer)) ++ (ids l.inner ++ ids l.outer)) =
      new_join met half done (q.first ∷ (ids v.inner ++ ids v.outer)) (ids l.inner ++ ids l.outer) half_way l.stays (new_one q.first met half (ids v.inner ++ ids v.outer) fresh v.stays v.new) l.new in
      let same : (q.first ∷ (ids v.inner ++ ids v.outer)) ++ (ids l.inner ++ ids l.outer) ≡ ids inner ++ ids l.outer =
      ap (λ (ks : List ℕ). q.first ∷ ks) (regrouped (ids v.inner) (ids v.outer) (ids l.inner) (ids l.outer) ∙ ap (λ (ks : List ℕ). (ids v.inner ++ ks) ++ ids l.outer) (sym (ids_join v.outer l.inner))) in
      record {
        inner = inner;
        outer = l.outer;
        within = (made_within s (k ∷ around) o g i.0 q makes opener v.finishes, l.within);
        held = subst (λ (ks : List ℕ). Stand b inner (k ∷ around) (ks ++ children_in is)) (sym (made_children g i.0 q makes))
            (stand_join b (Tree q.first v.inner v.outer) l.inner (k ∷ around) (q.first ∷ seqs_in q.more) (children_in is) block l.held);
        beside = l.beside;
        new = subst (AreNew met done) same both;
        stays = stays_on met half done half_way l.stays;
        finishes = l.finishes;
      }

  pub stands_tree : (t : OpTree) → Counts features 1 t → StandsAs (meaning s) (map seq_of b) t → IsTree b 0
  stands_tree t c h =
      let y = body_lies s b t h in
      let l = laid t [] 0 h.ty (with 0 none) y.0.instrs.items y.0.end [] Ended h.done c y.2 in
      let once = new_one 0 none h.done (ids l.inner ++ ids l.outer) h.enters.fresh l.stays l.new in
      record {
        inside = l.inner;
        stands = (refl, y.0, y.1, l.within, l.held, tt);
        once = subst (λ (ks : List ℕ). AreDistinct (0 ∷ (ids l.inner ++ ks))) (none_stand b l.outer [] l.beside) once.once;
      }
