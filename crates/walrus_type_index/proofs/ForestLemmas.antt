-- Trees whose nodes stand in one list: what a change of one of them leaves of the others.
use Rattle.std.proofs.Common.{◌≡◌, ◌∙◌, ℕ, zero, suc, ◌+◌, ◌-◌, ◌<◌, ◌≤◌, if◌then◌else◌, true, false, List, [], ◌∷◌, ◌++◌, length, take, drop, replicate, length-append, filter, find, not, slice_set, Option, Some, None, IsSome, is_some, Bool, inl, inr, refl, sym, ap, subst, arith}
use Rattle.std.specs.Option.{option_map}
use Rattle.std.specs.List.Sorted.{IsStrictlySortedBy}
use Rattle.std.proofs.Math.Seq.{take-append_seam}
use Rattle.std.proofs.lemmas.List.{take_all, length-replicate}
use Rattle.std.proofs.lemmas.Option.{slice_get_past}
use Rattle.walrus_items.specs.walrus_forms.Kinds.{Kind}
use Rattle.walrus_type_index.specs.declared.node_list.FlatNode.{FlatNode}
use Rattle.walrus_type_index.specs.Places.{Hashed, hashed_cmp, is_before, is_tied, last_of, put_in}
use Rattle.walrus_type_index.specs.Ordered.{IsIndex}
use Rattle.walrus_type_index.specs.Directory.{joined, tree_at, last_set, changed_to, is_later, halves, last_half}
use Rattle.walrus_type_index.specs.Flat.{Link, link_of, slots, Stands, none, count, Keeps, Becomes, Parts, Puts, Takes, Meets, Filters, Splits, IsLatest, IsOnce}
use Rattle.walrus_type_index.specs.Forest.{Forest, ids_in, all_ids_in, AllStand, AreTrees}
use Rattle.walrus_type_index.proofs.FlatLemmas.{Slots, count-append, count-here, count-other, same-or, beside}
use Rattle.walrus_type_index.proofs.FlatListed.{grown, tree-fits, tree-listed}
use Rattle.walrus_type_index.proofs.DirectoryLemmas.{Halved, halved-more, halved-last, swept-more, tree-inside, tree-past, last-inside, last-past}

-- ---- counts

pub tree-count : (id : ℕ) (trees : List (List Hashed)) (p : ℕ) (last : List Hashed) → count id (tree_at trees p last) ≤ count id (joined trees last)
tree-count id [] p last = omega arith
tree-count id (tree ∷ trees) zero last = let s = count-append id tree (joined trees last) in omega (arith, s)
tree-count id (tree ∷ trees) (suc p) last =
    let s = count-append id tree (joined trees last) in
    let h = tree-count id trees p last in
    omega (arith, s, h)

-- one tree in place of another
pub set-count : (id : ℕ) (trees : List (List Hashed)) (p : ℕ) (last ys : List Hashed)
    → count id (joined (slice_set trees p ys) (last_set trees p last ys)) + count id (tree_at trees p last) ≡ count id (joined trees last) + count id ys
set-count id [] p last ys = omega arith
set-count id (tree ∷ trees) zero last ys =
    let s = count-append id tree (joined trees last) in
    let t = count-append id ys (joined trees last) in
    omega (arith, s, t)
set-count id (tree ∷ trees) (suc p) last ys =
    let s = count-append id tree (joined trees last) in
    let t = count-append id tree (joined (slice_set trees p ys) (last_set trees p last ys)) in
    let h = set-count id trees p last ys in
    omega (arith, s, t, h)

pub tree-once : (trees : List (List Hashed)) (p : ℕ) (last : List Hashed) → IsOnce (joined trees last) → IsOnce (tree_at trees p last)
tree-once trees p last once id = let h = tree-count id trees p last in let o = once id in omega (arith, h, o)

-- ---- one tree among them

pub stands-at : (at : Slots) (tops : List ℕ) (trees : List (List Hashed)) (p top : ℕ) (last : List Hashed) → AllStand at tops trees → Stands at top last
    → Stands at (tree_at tops p top) (tree_at trees p last)
stands-at at [] [] p top last all stands = stands
stands-at at [] (tree ∷ trees) p top last all stands = absurd cc
stands-at at (t ∷ tops) [] p top last all stands = absurd all
stands-at at (t ∷ tops) (tree ∷ trees) zero top last all stands = all.0
stands-at at (t ∷ tops) (tree ∷ trees) (suc p) top last all stands = stands-at at tops trees p top last all.1 stands

-- all stand apart from what has changed
pub record Both (at : Slots) (tops : List ℕ) (top : ℕ) (trees : List (List Hashed)) (last : List Hashed) : Type 0 where
  pub all : AllStand at tops trees
  pub behind : Stands at top last

pub all-beside : (old new : Slots) (touched : List Hashed) (tops : List ℕ) (trees : List (List Hashed)) (top : ℕ) (last : List Hashed) → Keeps old new touched
    → AllStand old tops trees → Stands old top last → ((id : ℕ) → count id touched + count id (joined trees last) ≤ 1) → Both new tops top trees last
all-beside old new touched [] [] top last keeps all stands apart = record { all = refl; behind = beside old new touched top last keeps stands apart }
all-beside old new touched [] (tree ∷ trees) top last keeps all stands apart = absurd cc
all-beside old new touched (t ∷ tops) [] top last keeps all stands apart = absurd all
all-beside old new touched (t ∷ tops) (tree ∷ trees) top last keeps all stands apart =
    let sum : (id : ℕ) → count id (tree ++ joined trees last) ≡ count id tree + count id (joined trees last) = λ id. count-append id tree (joined trees last) in
    let rest = all-beside old new touched tops trees top last keeps all.1 stands (λ id. let a = apart id in let s = sum id in omega (arith, a, s)) in
    record {
      all = (beside old new touched t tree keeps all.0 (λ id. let a = apart id in let s = sum id in omega (arith, a, s)), rest.all);
      behind = rest.behind;
    }

-- one tree in place of another: what has changed is in no other
pub set-beside : (old new : Slots) (touched ys : List Hashed) (tops : List ℕ) (trees : List (List Hashed)) (p top now : ℕ) (last : List Hashed) → Keeps old new touched → Stands new now ys
    → AllStand old tops trees → Stands old top last → ((id : ℕ) → count id touched + count id (joined trees last) ≤ 1 + count id (tree_at trees p last))
    → Both new (slice_set tops p now) (last_set tops p top now) (slice_set trees p ys) (last_set trees p last ys)
set-beside old new touched ys [] [] p top now last keeps stands all behind apart = record { all = refl; behind = stands }
set-beside old new touched ys [] (tree ∷ trees) p top now last keeps stands all behind apart = absurd cc
set-beside old new touched ys (t ∷ tops) [] p top now last keeps stands all behind apart = absurd all
set-beside old new touched ys (t ∷ tops) (tree ∷ trees) zero top now last keeps stands all behind apart =
    let rest = all-beside old new touched tops trees top last keeps all.1 behind (λ id. let a = apart id in let s = count-append id tree (joined trees last) in omega (arith, a, s)) in
    record { all = (stands, rest.all); behind = rest.behind }
set-beside old new touched ys (t ∷ tops) (tree ∷ trees) (suc p) top now last keeps stands all behind apart =
    let rest = set-beside old new touched ys tops trees p top now last keeps stands all.1 behind
    (λ id. let a = apart id in let s = count-append id tree (joined trees last) in omega (arith, a, s)) in
    record {
      all = (beside old new touched t tree keeps all.0 (λ id. let a = apart id in let s = count-append id tree (joined trees last) in let h = tree-count id trees p last in omega (arith, a, s, h)), rest.all);
      behind = rest.behind;
    }

pub trees-set : (old new : Slots) (touched ys : List Hashed) (tops : List ℕ) (trees : List (List Hashed)) (p top now : ℕ) (last : List Hashed) → AreTrees old tops top trees last → Becomes old new touched now ys
    → ((id : ℕ) → count id touched + count id (joined trees last) ≤ 1 + count id (tree_at trees p last))
    → AreTrees new (slice_set tops p now) (last_set tops p top now) (slice_set trees p ys) (last_set trees p last ys)
trees-set old new touched ys tops trees p top now last are becomes apart =
    let both = set-beside old new touched ys tops trees p top now last becomes.keeps becomes.stands are.stand are.last_stands apart in
    record {
      stand = both.all;
      last_stands = both.behind;
      once = λ id. let s = set-count id trees p last ys in let w = becomes.within id in let a = apart id in omega (arith, s, w, a);
      bare = becomes.keeps.empty 4294967295 are.bare;
    }

-- ---- what stands is what is computed

all-listed : (ns : List FlatNode) (tops : List ℕ) (trees : List (List Hashed)) (last : List Hashed) → AllStand (slots ns) tops trees → IsOnce (joined trees last) → all_ids_in ns tops ≡ trees
all-listed ns [] trees last all once = sym all
all-listed ns (t ∷ tops) [] last all once = absurd all
all-listed ns (t ∷ tops) (tree ∷ trees) last all once =
    let sum : (id : ℕ) → count id (tree ++ joined trees last) ≡ count id tree + count id (joined trees last) = λ id. count-append id tree (joined trees last) in
    ap (λ (xs : List Hashed). xs ∷ all_ids_in ns tops) (tree-listed ns t tree all.0 (λ id. let o = once id in let s = sum id in omega (arith, o, s)))
    ∙ ap (λ (xss : List (List Hashed)). tree ∷ xss) (all-listed ns tops trees last all.1 (λ id. let o = once id in let s = sum id in omega (arith, o, s)))

last-once : (trees : List (List Hashed)) (last : List Hashed) → IsOnce (joined trees last) → IsOnce last
last-once [] last once = once
last-once (tree ∷ trees) last once = last-once trees last (λ id. let s = count-append id tree (joined trees last) in let o = once id in omega (arith, s, o))

pub record Seen (ns : List FlatNode) (tops : List ℕ) (top : ℕ) (trees : List (List Hashed)) (last : List Hashed) : Type 0 where
  pub trees_are : all_ids_in ns tops ≡ trees
  pub last_is : ids_in ns top ≡ last
  pub holds : AreTrees (slots ns) tops top (all_ids_in ns tops) (ids_in ns top)

pub seen : (ns : List FlatNode) (tops : List ℕ) (top : ℕ) (trees : List (List Hashed)) (last : List Hashed) → AreTrees (slots ns) tops top trees last → Seen ns tops top trees last
seen ns tops top trees last are =
    let a : all_ids_in ns tops ≡ trees = all-listed ns tops trees last are.stand are.once in
    let b : ids_in ns top ≡ last = tree-listed ns top last are.last_stands (last-once trees last are.once) in
    record {
      trees_are = a;
      last_is = b;
      holds = subst (λ (xss : List (List Hashed)). AreTrees (slots ns) tops top xss (ids_in ns top)) (sym a) (subst (λ (xs : List Hashed). AreTrees (slots ns) tops top trees xs) (sym b) are);
    }

-- a tree among them has no more ids than there are nodes
pub tree-short : (ns : List FlatNode) (tops : List ℕ) (top : ℕ) (trees : List (List Hashed)) (p : ℕ) (last : List Hashed) → AreTrees (slots ns) tops top trees last → length (tree_at trees p last) ≤ length ns
tree-short ns tops top trees p last are =
    tree-fits ns (tree_at tops p top) (tree_at trees p last) (stands-at (slots ns) tops trees p top last are.stand are.last_stands) (tree-once trees p last are.once)

-- ---- more trees

-- two trees in place of one
pub split-beside : (old new : Slots) (touched xs ys : List Hashed) (a b t top : ℕ) (before tops : List ℕ) (done trees : List (List Hashed)) (tree last : List Hashed) → Parts old new touched a b xs ys
    → AllStand old (before ++ t ∷ tops) (done ++ tree ∷ trees) → Stands old top last → length before ≡ length done
    → ((id : ℕ) → count id touched + count id (joined (done ++ trees) last) ≤ 1)
    → Both new (before ++ a ∷ b ∷ tops) top (done ++ xs ∷ ys ∷ trees) last
split-beside old new touched xs ys a b t top [] tops [] trees tree last parts all behind len apart =
    let rest = all-beside old new touched tops trees top last parts.keeps all.1 behind apart in
    record { all = (parts.first_stands, (parts.second_stands, rest.all)); behind = rest.behind }
split-beside old new touched xs ys a b t top [] tops (d ∷ done) trees tree last parts all behind len apart = absurd cc
split-beside old new touched xs ys a b t top (s ∷ before) tops [] trees tree last parts all behind len apart = absurd cc
split-beside old new touched xs ys a b t top (s ∷ before) tops (d ∷ done) trees tree last parts all behind len apart =
    let sum : (id : ℕ) → count id (d ++ joined (done ++ trees) last) ≡ count id d + count id (joined (done ++ trees) last) = λ id. count-append id d (joined (done ++ trees) last) in
    let rest = split-beside old new touched xs ys a b t top before tops done trees tree last parts all.1 behind (omega (arith, len)) (λ id. let h = apart id in let e = sum id in omega (arith, h, e)) in
    record {
      all = (beside old new touched s d parts.keeps all.0 (λ id. let h = apart id in let e = sum id in omega (arith, h, e)), rest.all);
      behind = rest.behind;
    }

mid-count : (id : ℕ) (done : List (List Hashed)) (tree : List Hashed) (trees : List (List Hashed)) (last : List Hashed)
    → count id (joined (done ++ tree ∷ trees) last) ≡ count id tree + count id (joined (done ++ trees) last)
mid-count id [] tree trees last = count-append id tree (joined trees last)
mid-count id (d ∷ done) tree trees last =
    let s = count-append id d (joined (done ++ tree ∷ trees) last) in
    let t = count-append id d (joined (done ++ trees) last) in
    let h = mid-count id done tree trees last in
    omega (arith, s, t, h)

pub trees-split : (old new : Slots) (xs ys : List Hashed) (a b t top : ℕ) (before tops : List ℕ) (done trees : List (List Hashed)) (tree last : List Hashed) → Parts old new tree a b xs ys
    → AreTrees old (before ++ t ∷ tops) top (done ++ tree ∷ trees) last → length before ≡ length done → AreTrees new (before ++ a ∷ b ∷ tops) top (done ++ xs ∷ ys ∷ trees) last
trees-split old new xs ys a b t top before tops done trees tree last parts are len =
    let both = split-beside old new tree xs ys a b t top before tops done trees tree last parts are.stand are.last_stands len
    (λ id. let o = are.once id in let m = mid-count id done tree trees last in omega (arith, o, m)) in
    record {
      stand = both.all;
      last_stands = both.behind;
      once = λ id.
          let o = are.once id in
          let m = mid-count id done tree trees last in
          let w = parts.within id in
          let n = mid-count id done xs (ys ∷ trees) last in
          let k = mid-count id done ys trees last in
          omega (arith, o, m, w, n, k);
      bare = parts.keeps.empty 4294967295 are.bare;
    }

-- the last tree in two
last-beside : (old new : Slots) (touched xs ys : List Hashed) (a b : ℕ) (tops : List ℕ) (trees : List (List Hashed)) → Parts old new touched a b xs ys → AllStand old tops trees
    → ((id : ℕ) → count id touched + count id (joined trees []) ≤ 1) → AllStand new (tops ++ a ∷ []) (trees ++ xs ∷ [])
last-beside old new touched xs ys a b [] [] parts all apart = (parts.first_stands, refl)
last-beside old new touched xs ys a b [] (tree ∷ trees) parts all apart = absurd cc
last-beside old new touched xs ys a b (t ∷ tops) [] parts all apart = absurd all
last-beside old new touched xs ys a b (t ∷ tops) (tree ∷ trees) parts all apart =
    let sum : (id : ℕ) → count id (tree ++ joined trees []) ≡ count id tree + count id (joined trees []) = λ id. count-append id tree (joined trees []) in (
      beside old new touched t tree parts.keeps all.0 (λ id. let h = apart id in let e = sum id in omega (arith, h, e)),
      last-beside old new touched xs ys a b tops trees parts all.1 (λ id. let h = apart id in let e = sum id in omega (arith, h, e)),
    )

end-count : (id : ℕ) (trees : List (List Hashed)) (last : List Hashed) → count id (joined trees last) ≡ count id (joined trees []) + count id last
end-count id [] last = omega arith
end-count id (tree ∷ trees) last =
    let s = count-append id tree (joined trees last) in
    let t = count-append id tree (joined trees []) in
    let h = end-count id trees last in
    omega (arith, s, t, h)

more-count : (id : ℕ) (trees : List (List Hashed)) (xs ys : List Hashed) → count id (joined (trees ++ xs ∷ []) ys) ≡ count id (joined trees []) + count id xs + count id ys
more-count id [] xs ys = let s = count-append id xs ys in omega (arith, s)
more-count id (tree ∷ trees) xs ys =
    let s = count-append id tree (joined (trees ++ xs ∷ []) ys) in
    let t = count-append id tree (joined trees []) in
    let h = more-count id trees xs ys in
    omega (arith, s, t, h)

pub trees-halved : (old new : Slots) (xs ys : List Hashed) (a b top : ℕ) (tops : List ℕ) (trees : List (List Hashed)) (last : List Hashed) → Parts old new last a b xs ys → AreTrees old tops top trees last
    → AreTrees new (tops ++ a ∷ []) b (trees ++ xs ∷ []) ys
trees-halved old new xs ys a b top tops trees last parts are = record {
  stand = last-beside old new last xs ys a b tops trees parts are.stand (λ id. let o = are.once id in let e = end-count id trees last in omega (arith, o, e));
  last_stands = parts.second_stands;
  once = λ id.
      let o = are.once id in
      let e = end-count id trees last in
      let w = parts.within id in
      let m = more-count id trees xs ys in
      omega (arith, o, e, w, m);
  bare = parts.keeps.empty 4294967295 are.bare;
}

-- some of the trees are in two
pub record Halving (at : Slots) (shift : ℕ) (wide tops : List ℕ) (top : ℕ) (trees : List (List Hashed)) (rest : List Hashed) : Type 0 where
  pub done : List (List Hashed)
  pub left : List (List Hashed)
  pub halved : Halved shift trees rest done left
  pub stand : AreTrees at (wide ++ tops) top (done ++ left) rest
  pub len : length wide ≡ length done

two-behind : {A : Type 0} (xs zs : List A) (a b : A) → ((xs ++ a ∷ []) ++ b ∷ []) ++ zs ≡ xs ++ a ∷ b ∷ zs
two-behind [] zs a b = refl
two-behind {A} (x ∷ xs) zs a b = ap (λ (ys : List A). x ∷ ys) (two-behind xs zs a b)

two-longer : {A : Type 0} (xs : List A) (a b : A) → length ((xs ++ a ∷ []) ++ b ∷ []) ≡ suc (suc (length xs))
two-longer [] a b = refl
two-longer (x ∷ xs) a b = ap suc (two-longer xs a b)

nothing-behind : {A : Type 0} (xs : List A) → xs ++ [] ≡ xs
nothing-behind [] = refl
nothing-behind {A} (x ∷ xs) = ap (λ (ys : List A). x ∷ ys) (nothing-behind xs)

-- the next tree that is to be cut
pub record Next (at : Slots) (t : ℕ) (left : List (List Hashed)) : Type 0 where
  pub tree : List Hashed
  pub more : List (List Hashed)
  pub are : left ≡ tree ∷ more
  pub stands : Stands at t tree

next-in : (at : Slots) (before : List ℕ) (t : ℕ) (tops : List ℕ) (done left : List (List Hashed)) → AllStand at (before ++ t ∷ tops) (done ++ left) → length before ≡ length done → Next at t left
next-in at [] t tops [] [] all len = absurd all
next-in at [] t tops [] (tree ∷ more) all len = record { tree = tree; more = more; are = refl; stands = all.0 }
next-in at [] t tops (d ∷ done) left all len = absurd cc
next-in at (s ∷ before) t tops [] left all len = absurd cc
next-in at (s ∷ before) t tops (d ∷ done) left all len = next-in at before t tops done left all.1 (omega (arith, len))

none-left : (at : Slots) (before : List ℕ) (done left : List (List Hashed)) → AllStand at (before ++ []) (done ++ left) → length before ≡ length done → left ≡ []
none-left at [] [] left all len = all
none-left at [] (d ∷ done) left all len = absurd cc
none-left at (s ∷ before) [] left all len = absurd cc
none-left at (s ∷ before) (d ∷ done) left all len = none-left at before done left all.1 (omega (arith, len))

pub halving-first : (at : Slots) (shift : ℕ) (wide tops : List ℕ) (top : ℕ) (trees : List (List Hashed)) (rest : List Hashed) → wide ≡ [] → AreTrees at tops top trees rest → Halving at shift wide tops top trees rest
halving-first at shift wide tops top trees rest nil are =
    subst (λ (w : List ℕ). Halving at shift w tops top trees rest) (sym nil)
    (record { done = []; left = trees; halved = record { trees_are = refl; last_is = refl }; stand = are; len = refl })

pub halving-more : (ns : List FlatNode) (new : Slots) (shift : ℕ) (wide : List ℕ) (t : ℕ) (tops : List ℕ) (top : ℕ) (trees : List (List Hashed)) (rest : List Hashed) (place fuel a b : ℕ)
    → place ≡ length wide → fuel ≡ length ns → Splits (is_later shift place) (slots ns) new t fuel a b → Halving (slots ns) shift wide (t ∷ tops) top trees rest
    → Halving new shift ((wide ++ a ∷ []) ++ b ∷ []) tops top trees rest
halving-more ns new shift wide t tops top trees rest place fuel a b at full splits h =
    let next = next-in (slots ns) wide t tops h.done h.left h.stand.stand h.len in
    let stand : AreTrees (slots ns) (wide ++ t ∷ tops) top (h.done ++ next.tree ∷ next.more) rest =
    subst (λ (l : List (List Hashed)). AreTrees (slots ns) (wide ++ t ∷ tops) top (h.done ++ l) rest) next.are h.stand in
    let halved : Halved shift trees rest h.done (next.tree ∷ next.more) = subst (λ (l : List (List Hashed)). Halved shift trees rest h.done l) next.are h.halved in
    let once : IsOnce next.tree = λ id. let o = stand.once id in let m = mid-count id h.done next.tree next.more rest in omega (arith, o, m) in
    let parts = splits next.tree next.stands once (let f = tree-fits ns t next.tree next.stands once in omega (arith, f, full)) in
    let is : place ≡ length h.done = at ∙ h.len in
    let low = filter (λ x. not (is_later shift (length h.done) x)) next.tree in
    let high = filter (is_later shift (length h.done)) next.tree in
    let cut : Parts (slots ns) new next.tree a b low high =
    subst (λ (k : ℕ). Parts (slots ns) new next.tree a b (filter (λ x. not (is_later shift k x)) next.tree) (filter (is_later shift k) next.tree)) is parts in
    let all = trees-split (slots ns) new low high a b t top wide tops h.done next.more next.tree rest cut stand h.len in
    let l = two-longer wide a b in
    let m = two-longer h.done low high in
    record {
      done = (h.done ++ low ∷ []) ++ high ∷ [];
      left = next.more;
      halved = halved-more shift trees rest h.done next.tree next.more halved;
      stand =
          subst (λ (ts : List ℕ). AreTrees new ts top (((h.done ++ low ∷ []) ++ high ∷ []) ++ next.more) rest) (sym (two-behind wide tops a b))
          (subst (λ (xss : List (List Hashed)). AreTrees new (wide ++ a ∷ b ∷ tops) top xss rest) (sym (two-behind h.done next.more low high)) all);
      len = let e = h.len in omega (arith, l, m, e);
    }

pub halving-last : (ns : List FlatNode) (new : Slots) (shift : ℕ) (wide left : List ℕ) (top : ℕ) (trees : List (List Hashed)) (rest : List Hashed) (place fuel a b : ℕ) (now : List ℕ)
    → place ≡ length wide → fuel ≡ length ns → left ≡ [] → now ≡ wide ++ a ∷ [] → Splits (is_later shift place) (slots ns) new top fuel a b → Halving (slots ns) shift wide left top trees rest
    → AreTrees new now b (halves shift trees 0 rest) (last_half shift trees 0 rest)
halving-last ns new shift wide left top trees rest place fuel a b now at full gone is splits h =
    let stand : AreTrees (slots ns) (wide ++ []) top (h.done ++ h.left) rest = subst (λ (ts : List ℕ). AreTrees (slots ns) (wide ++ ts) top (h.done ++ h.left) rest) gone h.stand in
    let nil : h.left ≡ [] = none-left (slots ns) wide h.done h.left stand.stand h.len in
    let bare : AreTrees (slots ns) wide top h.done rest =
    subst (λ (ts : List ℕ). AreTrees (slots ns) ts top h.done rest) (nothing-behind wide)
    (subst (λ (xss : List (List Hashed)). AreTrees (slots ns) (wide ++ []) top xss rest) (nothing-behind h.done)
    (subst (λ (xss : List (List Hashed)). AreTrees (slots ns) (wide ++ []) top (h.done ++ xss) rest) nil stand)) in
    let once : IsOnce rest = last-once h.done rest bare.once in
    let parts = splits rest bare.last_stands once (let f = tree-fits ns top rest bare.last_stands once in omega (arith, f, full)) in
    let all = trees-halved (slots ns) new (filter (λ x. not (is_later shift place x)) rest) (filter (is_later shift place) rest) a b top wide h.done rest parts bare in
    let e = halved-last shift trees rest h.done h.left place (filter (λ x. not (is_later shift place x)) rest) (filter (is_later shift place) rest)
    (h.done ++ filter (λ x. not (is_later shift place x)) rest ∷ []) h.halved nil (at ∙ h.len) refl refl refl in
    subst (λ (ts : List ℕ). AreTrees new ts b (halves shift trees 0 rest) (last_half shift trees 0 rest)) (sym is)
    (subst (λ (xss : List (List Hashed)). AreTrees new (wide ++ a ∷ []) b xss (last_half shift trees 0 rest)) e.0
    (subst (λ (xs : List Hashed). AreTrees new (wide ++ a ∷ []) b (h.done ++ filter (λ x. not (is_later shift place x)) rest ∷ []) xs) e.1 all))

-- one of them is changed
pub filtered : (ns : List FlatNode) (new : Slots) (p : Hashed → Bool) (tops : List ℕ) (trees : List (List Hashed)) (k top t fuel now : ℕ) (last : List Hashed)
    → t ≡ tree_at tops k top → fuel ≡ length ns → Filters p (slots ns) new t fuel now → AreTrees (slots ns) tops top trees last
    → AreTrees new (slice_set tops k now) (last_set tops k top now) (slice_set trees k (filter p (tree_at trees k last))) (last_set trees k last (filter p (tree_at trees k last)))
filtered ns new p tops trees k top t fuel now last is full filters are =
    let xs = tree_at trees k last in
    let stands = stands-at (slots ns) tops trees k top last are.stand are.last_stands in
    let once = tree-once trees k last are.once in
    let becomes = filters xs (subst (λ (n : ℕ). Stands (slots ns) n xs) (sym is) stands) once (let f = tree-fits ns (tree_at tops k top) xs stands once in omega (arith, f, full)) in
    trees-set (slots ns) new xs (filter p xs) tops trees k top now last are becomes (λ id. let o = are.once id in omega (arith, o))

-- as many as there are top nodes
all-length : (at : Slots) (tops : List ℕ) (trees : List (List Hashed)) → AllStand at tops trees → length trees ≡ length tops
all-length at [] trees all = ap (λ (xss : List (List Hashed)). length xss) all
all-length at (t ∷ tops) [] all = absurd all
all-length at (t ∷ tops) (tree ∷ trees) all = ap suc (all-length at tops trees all.1)

changed-length : (f : List Hashed → List Hashed) (k : ℕ) (trees : List (List Hashed)) → length (changed_to f k trees) ≡ length trees
changed-length f zero trees = refl
changed-length f (suc k) [] = refl
changed-length f (suc k) (tree ∷ trees) = ap suc (changed-length f k trees)

-- so many of them, and one more
pub swept-next : (ns : List FlatNode) (new : Slots) (p : Hashed → Bool) (tops : List ℕ) (trees : List (List Hashed)) (k top t fuel now : ℕ) (last : List Hashed)
    → k < length tops → t ≡ tree_at tops k top → fuel ≡ length ns → Filters p (slots ns) new t fuel now → AreTrees (slots ns) tops top (changed_to (filter p) k trees) last
    → AreTrees new (slice_set tops k now) top (changed_to (filter p) (k + 1) trees) last
swept-next ns new p tops trees k top t fuel now last less is full filters are =
    let xss = changed_to (filter p) k trees in
    let long : length xss ≡ length tops = all-length (slots ns) tops xss are.stand in
    let same : length xss ≡ length trees = changed-length (filter p) k trees in
    let tree = tree_at xss k last in
    let ys = filter p tree in
    let all = filtered ns new p tops xss k top t fuel now last is full filters are in
    let a : slice_set xss k ys ≡ changed_to (filter p) (k + 1) trees =
    swept-more (filter p) trees k xss tree ys refl (omega (arith, less, long, same)) (sym (tree-inside xss k last tree (omega (arith, less, long)))) refl in
    let b : last ≡ last_set xss k last ys = last-inside xss k last ys (omega (arith, less, long)) in
    let c : top ≡ last_set tops k top now = last-inside tops k top now less in
    subst (λ (n : ℕ). AreTrees new (slice_set tops k now) n (changed_to (filter p) (k + 1) trees) last) (sym c)
    (subst (λ (xs : List Hashed). AreTrees new (slice_set tops k now) (last_set tops k top now) (changed_to (filter p) (k + 1) trees) xs) (sym b)
    (subst (λ (yss : List (List Hashed)). AreTrees new (slice_set tops k now) (last_set tops k top now) yss (last_set xss k last ys)) a all))

-- all of them
pub swept-all : (at : Slots) (p : Hashed → Bool) (was tops : List ℕ) (trees : List (List Hashed)) (k top : ℕ) (last : List Hashed)
    → k ≡ length was → AreTrees at tops top (changed_to (filter p) k trees) last → AreTrees at tops top (changed_to (filter p) (length was) trees) last
swept-all at p was tops trees k top last end are = subst (λ (n : ℕ). AreTrees at tops top (changed_to (filter p) n trees) last) end are

-- ---- the calls of a forest

-- what a slice of a whole list became is what the list became
pub whole : {A : Type 0} (new old : List A) (n : ℕ) → n ≡ length old → length new ≡ length old → take n (new ++ drop (length new) old) ≡ new
whole {A} new old n is same =
    ap (λ (k : ℕ). take k (new ++ drop (length new) old)) (is ∙ sym same) ∙ take-append_seam new (drop (length new) old)

-- of lists that are given otherwise
pub seen-as : (ns now : List FlatNode) (tops tops_now : List ℕ) (top top_now : ℕ) (trees : List (List Hashed)) (last : List Hashed)
    → now ≡ ns → tops_now ≡ tops → top_now ≡ top → AreTrees (slots ns) tops top trees last → Seen now tops_now top_now trees last
seen-as ns now tops tops_now top top_now trees last n t l are =
    seen now tops_now top_now trees last
    (subst (λ (ms : List FlatNode). AreTrees (slots ms) tops_now top_now trees last) (sym n)
    (subst (λ (ts : List ℕ). AreTrees (slots ns) ts top_now trees last) (sym t)
    (subst (λ (k : ℕ). AreTrees (slots ns) tops k trees last) (sym l) are)))

-- the value of a forest
abbrev pub value_of : List FlatNode → List ℕ → ℕ → Forest
value_of ns tops top = record { trees = all_ids_in ns tops; last = ids_in ns top; room = length ns }

has-slot : (ns : List FlatNode) (id : ℕ) → id < length ns → IsSome (slots ns id)
has-slot [] id less = absurd (omega (arith, less))
has-slot (n ∷ ns) zero less = refl
has-slot (n ∷ ns) (suc id) less = has-slot ns id (omega (arith, less))

once-with : (x : Hashed) (xs all : List Hashed) (id : ℕ) → count id xs ≤ count id all → IsOnce all → count x.id all ≡ 0 → count id (x ∷ xs) + count id all ≤ 1 + count id xs
once-with x xs all id few once out = elim (same-or x.id id) as (λ _. count id (x ∷ xs) + count id all ≤ 1 + count id xs) [
  | inl same ↦
      let h = count-here id x xs same in
      let g : count id all ≡ 0 = ap (λ (k : ℕ). count k all) (sym same) ∙ out in
      omega (arith, h, g)
  | inr other ↦ let h = count-other id x xs other in let o = once id in omega (arith, h, o)
]

put-in-trees : (ks : List (Option Kind)) (ns new : List FlatNode) (tops : List ℕ) (trees : List (List Hashed)) (k top t fuel now : ℕ) (x : Hashed) (last : List Hashed)
    → t ≡ tree_at tops k top → fuel ≡ length ns → Puts ks (slots ns) (slots new) t x fuel now → IsStrictlySortedBy (hashed_cmp ks) (tree_at trees k last) → x.id < length ns → count x.id (joined trees last) ≡ 0
    → AreTrees (slots ns) tops top trees last
    → AreTrees (slots new) (slice_set tops k now) (last_set tops k top now) (slice_set trees k (put_in (is_before ks x) x (tree_at trees k last))) (last_set trees k last (put_in (is_before ks x) x (tree_at trees k last)))
put-in-trees ks ns new tops trees k top t fuel now x last is full puts sorted room out are =
    let xs = tree_at trees k last in
    let stands = subst (λ (n : ℕ). Stands (slots ns) n xs) (sym is) (stands-at (slots ns) tops trees k top last are.stand are.last_stands) in
    let few : (id : ℕ) → count id xs ≤ count id (joined trees last) = λ id. tree-count id trees k last in
    let apart : (id : ℕ) → count id (x ∷ xs) + count id (joined trees last) ≤ 1 + count id xs = λ id. once-with x xs (joined trees last) id (few id) are.once out in
    let once : IsOnce (x ∷ xs) = λ id. let a = apart id in let f = few id in omega (arith, a, f) in
    let becomes = puts xs stands once sorted (has-slot ns x.id room) are.bare (let f = tree-short ns tops top trees k last are in omega (arith, f, full)) in
    trees-set (slots ns) (slots new) (x ∷ xs) (put_in (is_before ks x) x xs) tops trees k top now last are becomes apart

-- an id is put
pub put-done : (ks : List (Option Kind)) (ns sent new now : List FlatNode) (tops tops_now : List ℕ) (k top top_now t fuel made : ℕ) (x : Hashed) (f : Forest)
    → value_of ns tops top ≡ f → AreTrees (slots ns) tops top (all_ids_in ns tops) (ids_in ns top) → sent ≡ ns → now ≡ new → tops_now ≡ slice_set tops k made → top_now ≡ last_set tops k top made
    → t ≡ tree_at tops k top → fuel ≡ length ns → Puts ks (slots sent) (slots new) t x fuel made → IsStrictlySortedBy (hashed_cmp ks) (tree_at f.trees k f.last) → x.id < f.room → count x.id (joined f.trees f.last) ≡ 0
    → Seen now tops_now top_now (slice_set f.trees k (put_in (is_before ks x) x (tree_at f.trees k f.last))) (last_set f.trees k f.last (put_in (is_before ks x) x (tree_at f.trees k f.last)))
put-done ks ns sent new now tops tops_now k top top_now t fuel made x f view are at n ts l is full puts =
    subst (λ (g : Forest). IsStrictlySortedBy (hashed_cmp ks) (tree_at g.trees k g.last) → x.id < g.room → count x.id (joined g.trees g.last) ≡ 0
    → Seen now tops_now top_now (slice_set g.trees k (put_in (is_before ks x) x (tree_at g.trees k g.last))) (last_set g.trees k g.last (put_in (is_before ks x) x (tree_at g.trees k g.last)))) view
    (λ sorted room out.
    seen-as new now (slice_set tops k made) tops_now (last_set tops k top made) top_now _ _ n ts l
    (put-in-trees ks ns new tops (all_ids_in ns tops) k top t fuel made x (ids_in ns top) is full
    (subst (λ (ms : List FlatNode). Puts ks (slots ms) (slots new) t x fuel made) at puts) sorted room out are))

take-out-of : (ks : List (Option Kind)) (ns new : List FlatNode) (tops : List ℕ) (trees : List (List Hashed)) (k top t fuel now : ℕ) (x : Hashed) (last : List Hashed)
    → t ≡ tree_at tops k top → fuel ≡ length ns → Takes ks (slots ns) (slots new) t x fuel now → IsStrictlySortedBy (hashed_cmp ks) (tree_at trees k last) → AreTrees (slots ns) tops top trees last
    → AreTrees (slots new) (slice_set tops k now) (last_set tops k top now) (slice_set trees k (filter (λ y. not (is_tied ks x y)) (tree_at trees k last))) (last_set trees k last (filter (λ y. not (is_tied ks x y)) (tree_at trees k last)))
take-out-of ks ns new tops trees k top t fuel now x last is full takes sorted are =
    let xs = tree_at trees k last in
    let stands = subst (λ (n : ℕ). Stands (slots ns) n xs) (sym is) (stands-at (slots ns) tops trees k top last are.stand are.last_stands) in
    let once = tree-once trees k last are.once in
    let becomes = takes xs stands once sorted (let f = tree-short ns tops top trees k last are in omega (arith, f, full)) in
    trees-set (slots ns) (slots new) xs (filter (λ y. not (is_tied ks x y)) xs) tops trees k top now last are becomes (λ id. let o = are.once id in omega (arith, o))

-- an id is taken out
pub take-done : (ks : List (Option Kind)) (ns sent new now : List FlatNode) (tops tops_now : List ℕ) (k top top_now t fuel made : ℕ) (x : Hashed) (f : Forest)
    → value_of ns tops top ≡ f → AreTrees (slots ns) tops top (all_ids_in ns tops) (ids_in ns top) → sent ≡ ns → now ≡ new → tops_now ≡ slice_set tops k made → top_now ≡ last_set tops k top made
    → t ≡ tree_at tops k top → fuel ≡ length ns → Takes ks (slots sent) (slots new) t x fuel made → IsStrictlySortedBy (hashed_cmp ks) (tree_at f.trees k f.last)
    → Seen now tops_now top_now (slice_set f.trees k (filter (λ y. not (is_tied ks x y)) (tree_at f.trees k f.last))) (last_set f.trees k f.last (filter (λ y. not (is_tied ks x y)) (tree_at f.trees k f.last)))
take-done ks ns sent new now tops tops_now k top top_now t fuel made x f view are at n ts l is full takes =
    subst (λ (g : Forest). IsStrictlySortedBy (hashed_cmp ks) (tree_at g.trees k g.last)
    → Seen now tops_now top_now (slice_set g.trees k (filter (λ y. not (is_tied ks x y)) (tree_at g.trees k g.last))) (last_set g.trees k g.last (filter (λ y. not (is_tied ks x y)) (tree_at g.trees k g.last)))) view
    (λ sorted.
    seen-as new now (slice_set tops k made) tops_now (last_set tops k top made) top_now _ _ n ts l
    (take-out-of ks ns new tops (all_ids_in ns tops) k top t fuel made x (ids_in ns top) is full
    (subst (λ (ms : List FlatNode). Takes ks (slots ms) (slots new) t x fuel made) at takes) sorted are))

-- whether it was in
pub take-met : (ks : List (Option Kind)) (ns sent : List FlatNode) (tops : List ℕ) (k top t fuel : ℕ) (x : Hashed) (met : Bool) (f : Forest)
    → value_of ns tops top ≡ f → AreTrees (slots ns) tops top (all_ids_in ns tops) (ids_in ns top) → sent ≡ ns → t ≡ tree_at tops k top → fuel ≡ length ns → Meets ks (slots sent) t x fuel met
    → IsStrictlySortedBy (hashed_cmp ks) (tree_at f.trees k f.last) → met ≡ is_some (find (is_tied ks x) (tree_at f.trees k f.last))
take-met ks ns sent tops k top t fuel x met f view are at is full meets =
    subst (λ (g : Forest). IsStrictlySortedBy (hashed_cmp ks) (tree_at g.trees k g.last) → met ≡ is_some (find (is_tied ks x) (tree_at g.trees k g.last))) view
    (λ sorted.
    let trees = all_ids_in ns tops in
    let last = ids_in ns top in
    let xs = tree_at trees k last in
    subst (λ (ms : List FlatNode). Meets ks (slots ms) t x fuel met) at meets xs (subst (λ (n : ℕ). Stands (slots ns) n xs) (sym is) (stands-at (slots ns) tops trees k top last are.stand are.last_stands)) sorted
    (let s = tree-short ns tops top trees k last are in omega (arith, s, full)))

-- the last of a kind is found
pub latest-met : (ks : List (Option Kind)) (ns sent : List FlatNode) (tops : List ℕ) (k top t fuel : ℕ) (kind : Kind) (own : Bool) (found : Option ℕ) (f : Forest)
    → value_of ns tops top ≡ f → AreTrees (slots ns) tops top (all_ids_in ns tops) (ids_in ns top) → sent ≡ ns → t ≡ tree_at tops k top → fuel ≡ length ns → IsLatest ks (slots sent) t kind own fuel found
    → IsIndex ks (tree_at f.trees k f.last) → found ≡ last_of ks kind own (tree_at f.trees k f.last)
latest-met ks ns sent tops k top t fuel kind own found f view are at is full latest =
    subst (λ (g : Forest). IsIndex ks (tree_at g.trees k g.last) → found ≡ last_of ks kind own (tree_at g.trees k g.last)) view
    (λ index.
    let trees = all_ids_in ns tops in
    let last = ids_in ns top in
    let xs = tree_at trees k last in
    subst (λ (ms : List FlatNode). IsLatest ks (slots ms) t kind own fuel found) at latest xs (subst (λ (n : ℕ). Stands (slots ns) n xs) (sym is) (stands-at (slots ns) tops trees k top last are.stand are.last_stands)) index
    (let s = tree-short ns tops top trees k last are in omega (arith, s, full)))

set-past : {A : Type 0} (xs : List A) (k : ℕ) (y : A) → length xs ≤ k → slice_set xs k y ≡ xs
set-past [] k y up = refl
set-past (x ∷ xs) zero y up = absurd (omega (arith, up))
set-past {A} (x ∷ xs) (suc k) y up = ap (λ (zs : List A). x ∷ zs) (set-past xs k y (omega (arith, up)))

-- the last tree is changed
last-filtered : (ns : List FlatNode) (new : Slots) (p : Hashed → Bool) (tops : List ℕ) (trees : List (List Hashed)) (top fuel now : ℕ) (last : List Hashed)
    → fuel ≡ length ns → Filters p (slots ns) new top fuel now → AreTrees (slots ns) tops top trees last → AreTrees new tops now trees (filter p last)
last-filtered ns new p tops trees top fuel now last full filters are =
    let k = length tops in
    let long : length trees ≤ k = let h = all-length (slots ns) tops trees are.stand in omega (arith, h) in
    let up : length tops ≤ k = omega arith in
    let a : last ≡ tree_at trees k last = tree-past trees k last long in
    let all = filtered ns new p tops trees k top top fuel now last (tree-past tops k top up) full filters are in
    let ys = filter p (tree_at trees k last) in
    subst (λ (xs : List Hashed). AreTrees new tops now trees (filter p xs)) (sym a)
    (subst (λ (xs : List Hashed). AreTrees new tops now trees xs) (sym (last-past trees k last ys long))
    (subst (λ (xss : List (List Hashed)). AreTrees new tops now xss (last_set trees k last ys)) (set-past trees k ys long)
    (subst (λ (n : ℕ). AreTrees new tops n (slice_set trees k ys) (last_set trees k last ys)) (sym (last-past tops k top now up))
    (subst (λ (ts : List ℕ). AreTrees new ts (last_set tops k top now) (slice_set trees k ys) (last_set trees k last ys)) (set-past tops k now up) all))))

-- all are swept
pub sweep-done : (ns sent swept mid again new now : List FlatNode) (p : Hashed → Bool) (tops tops_sent tops_new tops_now : List ℕ) (top fuel made : ℕ) (f : Forest)
    → value_of ns tops top ≡ f → AreTrees (slots ns) tops top (all_ids_in ns tops) (ids_in ns top) → sent ≡ ns → tops_sent ≡ tops → mid ≡ swept → again ≡ mid → now ≡ new → tops_now ≡ tops_new → fuel ≡ length again
    → ((t : ℕ) (trees : List (List Hashed)) (last : List Hashed) → AreTrees (slots sent) tops_sent t trees last → AreTrees (slots swept) tops_new t (changed_to (filter p) (length tops_sent) trees) last)
    → Filters p (slots again) (slots new) top fuel made
    → Seen now tops_now made (changed_to (filter p) (length f.trees) f.trees) (filter p f.last)
sweep-done ns sent swept mid again new now p tops tops_sent tops_new tops_now top fuel made f view are at ats m ag n ts full all filters =
    let trees = all_ids_in ns tops in
    let last = ids_in ns top in
    let long : length tops_sent ≡ length trees = ap (λ (xs : List ℕ). length xs) ats ∙ sym (all-length (slots ns) tops trees are.stand) in
    let there : AreTrees (slots sent) tops_sent top trees last =
    subst (λ (ms : List FlatNode). AreTrees (slots ms) tops_sent top trees last) (sym at) (subst (λ (xs : List ℕ). AreTrees (slots ns) xs top trees last) (sym ats) are) in
    let first : AreTrees (slots again) tops_new top (changed_to (filter p) (length trees) trees) last =
    subst (λ (ms : List FlatNode). AreTrees (slots ms) tops_new top (changed_to (filter p) (length trees) trees) last) (sym (ag ∙ m))
    (subst (λ (k : ℕ). AreTrees (slots swept) tops_new top (changed_to (filter p) k trees) last) long (all top trees last there)) in
    subst (λ (g : Forest). Seen now tops_now made (changed_to (filter p) (length g.trees) g.trees) (filter p g.last)) view
    (seen-as new now tops_new tops_now made made _ _ n ts refl (last-filtered again (slots new) p tops_new (changed_to (filter p) (length trees) trees) top fuel made last full filters first))

-- each is cut in two
pub halve-done : (shift : ℕ) (ns sent new now : List FlatNode) (tops taken made : List ℕ) (top top_now : ℕ) (f : Forest)
    → value_of ns tops top ≡ f → AreTrees (slots ns) tops top (all_ids_in ns tops) (ids_in ns top) → sent ≡ ns → now ≡ new → taken ≡ tops
    → ((trees : List (List Hashed)) (rest : List Hashed) → AreTrees (slots sent) taken top trees rest → AreTrees (slots new) made top_now (halves shift trees 0 rest) (last_half shift trees 0 rest))
    → Seen now made top_now (halves shift f.trees 0 f.last) (last_half shift f.trees 0 f.last)
halve-done shift ns sent new now tops taken made top top_now f view are at n t all =
    subst (λ (g : Forest). Seen now made top_now (halves shift g.trees 0 g.last) (last_half shift g.trees 0 g.last)) view
    (seen-as new now made made top_now top_now _ _ n refl refl
    (all (all_ids_in ns tops) (ids_in ns top) (subst (λ (ms : List FlatNode). AreTrees (slots ms) taken top (all_ids_in ns tops) (ids_in ns top)) (sym at)
    (subst (λ (ts : List ℕ). AreTrees (slots ns) ts top (all_ids_in ns tops) (ids_in ns top)) (sym t) are))))

-- more nodes
all-grown : (old new : Slots) (tops : List ℕ) (trees : List (List Hashed)) → AllStand old tops trees → ((id : ℕ) (n : Link) → old id ≡ Some n → new id ≡ Some n) → new 4294967295 ≡ None → AllStand new tops trees
all-grown old new [] trees all same bare = all
all-grown old new (t ∷ tops) [] all same bare = absurd all
all-grown old new (t ∷ tops) (tree ∷ trees) all same bare = (grown old new t tree all.0 same bare, all-grown old new tops trees all.1 same bare)

slots-front : (ns more : List FlatNode) (id : ℕ) (n : Link) → slots ns id ≡ Some n → slots (ns ++ more) id ≡ Some n
slots-front [] more id n e = absurd cc
slots-front (m ∷ ns) more zero n e = e
slots-front (m ∷ ns) more (suc id) n e = slots-front ns more id n e

pub grow-done : (ns more now : List FlatNode) (tops : List ℕ) (top : ℕ) (f : Forest) → value_of ns tops top ≡ f → AreTrees (slots ns) tops top (all_ids_in ns tops) (ids_in ns top)
    → now ≡ ns ++ more → length now ≤ 4294967295 → Seen now tops top f.trees f.last
grow-done ns more now tops top f view are n few =
    let same : (id : ℕ) (m : Link) → slots ns id ≡ Some m → slots now id ≡ Some m = λ id m e. ap (λ (ms : List FlatNode). slots ms id) n ∙ slots-front ns more id m e in
    let bare : slots now 4294967295 ≡ None = ap (option_map link_of) (slice_get_past now 4294967295 few) in
    subst (λ (g : Forest). Seen now tops top g.trees g.last) view
    (seen now tops top (all_ids_in ns tops) (ids_in ns top) (record {
      stand = all-grown (slots ns) (slots now) tops (all_ids_in ns tops) are.stand same bare;
      last_stands = grown (slots ns) (slots now) top (ids_in ns top) are.last_stands same bare;
      once = are.once;
      bare = bare;
    }))

-- where there is room for more
pub grow-may : (b : Bool) (ns now : List FlatNode) (x : FlatNode) (n wanted : ℕ) (tops : List ℕ) (top : ℕ) (f : Forest) → value_of ns tops top ≡ f → AreTrees (slots ns) tops top (all_ids_in ns tops) (ids_in ns top)
    → now ≡ (if b then take wanted ns ++ replicate (wanted - n) x else ns) → n ≡ length ns → n < wanted → wanted ≤ 4294967295 → Seen now tops top f.trees f.last
grow-may false ns now x n wanted tops top f view are e is less few =
    grow-done ns [] now tops top f view are (e ∙ sym (nothing-behind ns)) (let l = ap (λ (ms : List FlatNode). length ms) e in omega (arith, l, is, less, few))
grow-may true ns now x n wanted tops top f view are e is less few =
    let all : take wanted ns ≡ ns = take_all wanted ns (omega (arith, is, less)) in
    let more = replicate (wanted - n) x in
    let now_is : now ≡ ns ++ more = e ∙ ap (λ (ms : List FlatNode). ms ++ more) all in
    let l : length now ≡ length ns + length more = ap (λ (ms : List FlatNode). length ms) now_is ∙ length-append ns more in
    let r : length more ≡ wanted - n = length-replicate (wanted - n) x in
    grow-done ns more now tops top f view are now_is (omega (arith, l, r, is, less, few))

-- none at all
pub none-done : (ns : List FlatNode) (tops : List ℕ) → ns ≡ [] → tops ≡ [] → AreTrees (slots ns) tops 4294967295 (all_ids_in ns tops) (ids_in ns 4294967295)
none-done ns tops n t =
    (seen-as [] ns [] tops 4294967295 4294967295 [] [] n t refl (record { stand = refl; last_stands = none 4294967295 [] refl refl refl; once = λ id. omega arith; bare = refl })).holds

-- as many trees of first places as top nodes
pub as-many : (ns : List FlatNode) (tops : List ℕ) → length (all_ids_in ns tops) ≡ length tops
as-many ns [] = refl
as-many ns (top ∷ tops) = ap suc (as-many ns tops)
