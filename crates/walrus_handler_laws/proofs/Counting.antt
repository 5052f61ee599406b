-- Lemmas: each sequence of a tree is held once.
use Rattle.std.proofs.Common.{◌≡◌, ◌∙◌, ◌⊎◌, inl, inr, ℕ, zero, suc, ◌+◌, ◌≤◌, Bool, true, false, List, [], ◌∷◌, ◌++◌, map, refl, sym, ap, subst, arith, eq-eqb, eqb-true}
use Rattle.std.specs.Prelude.{◌==◌, Option, Some, None, slice_get, if◌then◌else◌}
use Rattle.walrus_tree.specs.walrus_builder.Built.{Seq, seq_of}
use Rattle.walrus_tree.specs.walrus_walks.walrus_instr.declared.instr.Instr.{Instr}
use Rattle.walrus_tree.specs.walrus_walks.walrus_instr.declared.instr.Instr.TheVariants as instrs
use Rattle.walrus_tree.specs.walrus_walks.walrus_instr.declared.instr.LegacyCatch.{LegacyCatch}
use Rattle.walrus_tree.specs.walrus_walks.walrus_instr.declared.instr.LegacyCatch.TheVariants as legacy
use Rattle.walrus_tree.specs.walrus_walks.walrus_instr.declared.seq.InstrLocId.{InstrLocId}
use Rattle.walrus_tree.specs.walrus_walks.walrus_instr.declared.seq.InstrSeq.{InstrSeq}
use Rattle.walrus_tree.specs.walrus_walks.walrus_instr.declared.seq.InstrSeqType.{InstrSeqType}
use Rattle.walrus_tree.specs.walrus_walks.Tree.{children, children_in, handlers}
use Rattle.walrus_tree.specs.Trees.{AreDistinct, Has, IsTree, Nothing, Stand, Tree, Trees, ids}
use Rattle.walrus_handler_laws.specs.declared.handler.Handler.{Handler}
use Rattle.walrus_handler_laws.specs.Handlers.{AreTold, Slot, TreesTell, all_slots, handler_in, part_slots, seq_slots, slots, slots_in, tree_ids}

-- ---- how often an id stands in a list

abbrev pub once_if : Bool → ℕ
once_if b = if b then 1 else 0

abbrev pub count : ℕ → List ℕ → ℕ
count j [] = 0
count j (k ∷ ks) = once_if (k == j) + count j ks

count_append : (j : ℕ) (xs ys : List ℕ) → count j (xs ++ ys) ≡ count j xs + count j ys
count_append j [] ys = omega arith
count_append j (x ∷ xs) ys = let e = count_append j xs ys in omega (arith, e)

has_counts : (ks : List ℕ) (j : ℕ) → Has ks j → 1 ≤ count j ks
has_counts [] j h = absurd h
has_counts (k ∷ ks) j (inl e) = let one : once_if (k == j) ≡ 1 = ap once_if (eq-eqb k j e) in omega (arith, one)
has_counts (k ∷ ks) j (inr h) = let le = has_counts ks j h in omega (arith, le)

counts_has : (ks : List ℕ) (j : ℕ) → 1 ≤ count j ks → Has ks j
counts_has [] j le = absurd (omega (arith, le))
counts_has (k ∷ ks) j le = go (k == j) refl (counts_has ks j)
  where
    go : (c : Bool) → (k == j) ≡ c → (1 ≤ count j ks → Has ks j) → Has (k ∷ ks) j
    go true e rest = inl (eqb-true k j e)
    go false e rest = let none : once_if (k == j) ≡ 0 = ap once_if e in inr (rest (omega (arith, le, none)))

one_at_most : (b : Bool) → once_if b ≤ 1
one_at_most true = omega arith
one_at_most false = omega arith

distinct_counts : (ks : List ℕ) (j : ℕ) → AreDistinct ks → count j ks ≤ 1
distinct_counts [] j h = omega arith
distinct_counts (k ∷ ks) j h = go (k == j) refl (count j ks) refl (distinct_counts ks j h.1)
  where
    go : (c : Bool) → (k == j) ≡ c → (n : ℕ) → count j ks ≡ n → count j ks ≤ 1 → count j (k ∷ ks) ≤ 1
    go false e n is le = let none : once_if (k == j) ≡ 0 = ap once_if e in omega (arith, le, none)
    go true e zero is le = let one = one_at_most (k == j) in omega (arith, one, is)
    go true e (suc n) is le = absurd (h.0 (subst (Has ks) (sym (eqb-true k j e)) (counts_has ks j (omega (arith, is)))))

-- ---- what sequences hold

abbrev seq_kids : Option InstrSeq → List ℕ
seq_kids None = []
seq_kids (Some s) = children_in s.instrs.items

abbrev kids : List InstrSeq → List ℕ → List ℕ
kids b [] = []
kids b (k ∷ ks) = seq_kids (slice_get b k) ++ kids b ks

kids_count : (b : List InstrSeq) (j : ℕ) (xs ys : List ℕ) → count j (kids b (xs ++ ys)) ≡ count j (kids b xs) + count j (kids b ys)
kids_count b j [] ys = omega arith
kids_count b j (x ∷ xs) ys =
    let own = seq_kids (slice_get b x) in
    let e = kids_count b j xs ys in
    let l = count_append j own (kids b (xs ++ ys)) in
    let r = count_append j own (kids b xs) in
    omega (arith, e, l, r)

-- each sequence of trees is the first of one, or held by one
stand_count : (b : List InstrSeq) (j : ℕ) (x : Trees) (around ks : List ℕ) → Stand b x around ks → count j (ids x) ≡ count j ks + count j (kids b (ids x))
stand_count b j Nothing around [] h = refl
stand_count b j Nothing around (k ∷ ks) h = absurd h
stand_count b j (Tree id inside beside) around [] h = absurd h
stand_count b j (Tree id inside beside) around (k ∷ ks) (same, s, found, within, held, next) =
    let i = stand_count b j inside (k ∷ around) (children_in s.instrs.items) held in
    let o = stand_count b j beside around ks next in
    let parts = count_append j (ids inside) (ids beside) in
    let below = kids_count b j (ids inside) (ids beside) in
    let own : seq_kids (slice_get b id) ≡ children_in s.instrs.items = ap (λ (n : ℕ). seq_kids (slice_get b n)) same ∙ ap seq_kids found in
    let all = count_append j (seq_kids (slice_get b id)) (kids b (ids inside ++ ids beside)) in
    let mine = ap (count j) own in
    let first : once_if (id == j) ≡ once_if (k == j) = ap (λ (n : ℕ). once_if (n == j)) same in
    omega (arith, i, o, parts, below, all, mine, first)

-- ---- slots

abbrev pub seqs_of : List Slot → List ℕ
seqs_of [] = []
seqs_of (x ∷ xs) = x.seq ∷ seqs_of xs

seqs_append : (xs ys : List Slot) → seqs_of (xs ++ ys) ≡ seqs_of xs ++ seqs_of ys
seqs_append [] ys = refl
seqs_append (x ∷ xs) ys = ap (λ (l : List ℕ). x.seq ∷ l) (seqs_append xs ys)

parts_are : (tags : ℕ → Option ℕ) (ty : Option InstrSeqType) (cs : List LegacyCatch) → seqs_of (part_slots tags ty cs) ≡ handlers cs
parts_are tags ty [] = refl
parts_are tags ty (legacy.Catch tag k ∷ cs) = ap (λ (l : List ℕ). k ∷ l) (parts_are tags ty cs)
parts_are tags ty (legacy.CatchAll k ∷ cs) = ap (λ (l : List ℕ). k ∷ l) (parts_are tags ty cs)
parts_are tags ty (legacy.Delegate n ∷ cs) = parts_are tags ty cs

module _ (tags : ℕ → Option ℕ) (c : List Seq) where
  slots_are : (i : Instr) → seqs_of (slots tags c i) ≡ children i
  slots_are (instrs.Block k) = refl
  slots_are (instrs.Loop k) = refl
  slots_are (instrs.IfElse k j) = refl
  slots_are (instrs.Try k cs) = ap (λ (l : List ℕ). k ∷ l) (parts_are tags _ cs.items)
  slots_are (instrs.TryTable k cs) = refl
  slots_are _ = refl

  all_are : (is : List (Instr × InstrLocId)) → seqs_of (slots_in tags c is) ≡ children_in is
  all_are [] = refl
  all_are (i ∷ is) = seqs_append (slots tags c i.0) (slots_in tags c is) ∙ ap (λ (l : List ℕ). l ++ seqs_of (slots_in tags c is)) (slots_are i.0) ∙ ap (λ (l : List ℕ). children i.0 ++ l) (all_are is)

  seq_are : (b : List InstrSeq) (k : ℕ) → seqs_of (seq_slots tags c (slice_get (map seq_of b) k)) ≡ seq_kids (slice_get b k)
  seq_are [] k = refl
  seq_are (y ∷ b) zero = all_are y.instrs.items
  seq_are (y ∷ b) (suc k) = seq_are b k

tree_slots : (tags : ℕ → Option ℕ) (b : List InstrSeq) (ks : List ℕ) → seqs_of (all_slots tags (map seq_of b) ks) ≡ kids b ks
tree_slots tags b [] = refl
tree_slots tags b (k ∷ ks) =
    seqs_append (seq_slots tags (map seq_of b) (slice_get (map seq_of b) k)) (all_slots tags (map seq_of b) ks)
    ∙ ap (λ (l : List ℕ). l ++ seqs_of (all_slots tags (map seq_of b) ks)) (seq_are tags (map seq_of b) b k)
    ∙ ap (λ (l : List ℕ). seq_kids (slice_get b k) ++ l) (tree_slots tags b ks)

-- ---- what is told of them

abbrev HasSlot : List Slot → Slot → Type 0
HasSlot [] x = ⊥
HasSlot (y ∷ ys) x = (y ≡ x) ⊎ HasSlot ys x

slot_has : (ys : List Slot) (x : Slot) → HasSlot ys x → Has (seqs_of ys) x.seq
slot_has [] x h = absurd h
slot_has (y ∷ ys) x (inl e) = inl (ap (λ (z : Slot). z.seq) e)
slot_has (y ∷ ys) x (inr h) = inr (slot_has ys x h)

slot_front : (xs ys : List Slot) (x : Slot) → HasSlot xs x → HasSlot (xs ++ ys) x
slot_front [] ys x h = absurd h
slot_front (y ∷ xs) ys x (inl e) = inl e
slot_front (y ∷ xs) ys x (inr h) = inr (slot_front xs ys x h)

slot_behind : (xs ys : List Slot) (x : Slot) → HasSlot ys x → HasSlot (xs ++ ys) x
slot_behind [] ys x h = h
slot_behind (y ∷ xs) ys x h = inr (slot_behind xs ys x h)

slot_of : (tags : ℕ → Option ℕ) (c : List Seq) (ks : List ℕ) (k : ℕ) (x : Slot) → Has ks k → HasSlot (seq_slots tags c (slice_get c k)) x → HasSlot (all_slots tags c ks) x
slot_of tags c [] k x has h = absurd has
slot_of tags c (j ∷ ks) k x (inl e) h = slot_front (seq_slots tags c (slice_get c j)) (all_slots tags c ks) x (subst (λ (n : ℕ). HasSlot (seq_slots tags c (slice_get c n)) x) (sym e) h)
slot_of tags c (j ∷ ks) k x (inr has) h = slot_behind (seq_slots tags c (slice_get c j)) (all_slots tags c ks) x (slot_of tags c ks k x has h)

-- what stands in a list once is found there
found_once : (ys : List Slot) (x : Slot) → count x.seq (seqs_of ys) ≤ 1 → HasSlot ys x → handler_in ys x.seq ≡ x.handles
found_once [] x le h = absurd h
found_once (y ∷ ys) x le (inl e) = ap (λ (c : Bool). if c then y.handles else handler_in ys x.seq) (eq-eqb y.seq x.seq (ap (λ (z : Slot). z.seq) e)) ∙ ap (λ (z : Slot). z.handles) e
found_once (y ∷ ys) x le (inr h) = go (y.seq == x.seq) refl (λ rest. found_once ys x rest h)
  where
    go : (c : Bool) → (y.seq == x.seq) ≡ c → (count x.seq (seqs_of ys) ≤ 1 → handler_in ys x.seq ≡ x.handles) → handler_in (y ∷ ys) x.seq ≡ x.handles
    go true e rest = absurd (let one : once_if (y.seq == x.seq) ≡ 1 = ap once_if e in let more = has_counts (seqs_of ys) x.seq (slot_has ys x h) in omega (arith, le, one, more))
    go false e rest =
        let none : once_if (y.seq == x.seq) ≡ 0 = ap once_if e in
        ap (λ (c : Bool). if c then y.handles else handler_in ys x.seq) e ∙ rest (omega (arith, le, none))

found_none : (ys : List Slot) (j : ℕ) → count j (seqs_of ys) ≡ 0 → handler_in ys j ≡ None
found_none [] j none = refl
found_none (y ∷ ys) j none = go (y.seq == j) refl (found_none ys j)
  where
    go : (c : Bool) → (y.seq == j) ≡ c → (count j (seqs_of ys) ≡ 0 → handler_in ys j ≡ None) → handler_in (y ∷ ys) j ≡ None
    go true e rest = absurd (let one : once_if (y.seq == j) ≡ 1 = ap once_if e in omega (arith, none, one))
    go false e rest =
        let zero_is : once_if (y.seq == j) ≡ 0 = ap once_if e in
        ap (λ (c : Bool). if c then y.handles else handler_in ys j) e ∙ rest (omega (arith, none, zero_is))

all_told : (js : List ℕ) (told : ℕ → Option Handler) (ys : List Slot) → ((x : Slot) → HasSlot ys x → Has js x.seq × (told x.seq ≡ x.handles)) → AreTold js told ys
all_told js told [] h = tt
all_told js told (y ∷ ys) h = let r = h y (inl refl) in (r.0, r.1, all_told js told ys (λ x has. h x (inr has)))

-- each sequence of a tree is held at most once
pub held_once : (tags : ℕ → Option ℕ) (b : List InstrSeq) (t : IsTree b 0) (j : ℕ) → count j (seqs_of (all_slots tags (map seq_of b) (tree_ids t))) ≤ 1
held_once tags b t j =
    let e = stand_count b j (Tree 0 t.inside Nothing) [] (0 ∷ []) t.stands ∙ ap (λ (l : List ℕ). count j (0 ∷ []) + count j l) (sym (tree_slots tags b (tree_ids t))) in
    let le = distinct_counts (tree_ids t) j t.once in
    omega (arith, e, le)

pub trees_tell : TreesTell
trees_tell tags b t = record {
  body = inl refl;
  plain = found_none xs 0 (let e = counted 0 in let le = distinct_counts js 0 t.once in let one : once_if (0 == 0) ≡ 1 = refl in omega (arith, e, le, one));
  held = λ k has. all_told js (handler_in xs) (seq_slots tags c (slice_get c k)) (λ x h. let there = slot_of tags c js k x has h in (within x there, found_once xs x (once x.seq) there));
}
  where
    c : List Seq
    c = map seq_of b

    js : List ℕ
    js = tree_ids t

    xs : List Slot
    xs = all_slots tags c js

    counted : (j : ℕ) → count j js ≡ count j (0 ∷ []) + count j (seqs_of xs)
    counted j = stand_count b j (Tree 0 t.inside Nothing) [] (0 ∷ []) t.stands ∙ ap (λ (l : List ℕ). count j (0 ∷ []) + count j l) (sym (tree_slots tags b js))

    once : (j : ℕ) → count j (seqs_of xs) ≤ 1
    once j = let e = counted j in let le = distinct_counts js j t.once in omega (arith, e, le)

    within : (x : Slot) → HasSlot xs x → Has js x.seq
    within x h = let e = counted x.seq in let le = has_counts (seqs_of xs) x.seq (slot_has xs x h) in counts_has js x.seq (omega (arith, e, le))
