-- Trees whose nodes stand in one list: their ids as a list that is computed, how many there are, and more nodes.
use Rattle.std.proofs.Common.{◌≡◌, ◌∙◌, ℕ, zero, suc, ◌+◌, ◌<◌, ◌≤◌, List, [], ◌∷◌, ◌++◌, length, Option, Some, None, inl, inr, refl, sym, ap, arith, length-append}
use Rattle.std.specs.Option.{option_map, option_map_or}
use Rattle.std.proofs.lemmas.Bool.{cases_lt}
use Rattle.std.proofs.lemmas.Option.{slice_get_past}
use Rattle.walrus_type_index.specs.declared.node_list.FlatNode.{FlatNode}
use Rattle.walrus_type_index.specs.Places.{Hashed}
use Rattle.walrus_type_index.specs.Flat.{Link, link_of, slots, Stands, none, node, hashed_of, listed, count, IsOnce}
use Rattle.walrus_type_index.proofs.FlatLemmas.{Slots, count-here, count-other, count-mid, same-or, some-none}

-- what stands is what is computed
pub listed-is : (at : Slots) (fuel top : ℕ) (xs : List Hashed) → Stands at top xs → length xs ≤ fuel → listed fuel at top ≡ xs
listed-is at zero top xs (none _ _ _ e is) short = sym is
listed-is at zero top xs (node _ _ n l r e left right is) short =
    let s = length-append l (hashed_of top n ∷ r) in
    let t = ap (λ (zs : List Hashed). length zs) is in
    let no : ⊥ = omega (arith, s, t, short) in
    absurd no
listed-is at (suc fuel) top xs (none _ _ _ e is) short =
    ap (λ (o : Option Link). option_map_or (λ (n : Link). listed fuel at n.left ++ hashed_of top n ∷ listed fuel at n.right) o []) e ∙ sym is
listed-is at (suc fuel) top xs (node _ _ n l r e left right is) short =
    let s = length-append l (hashed_of top n ∷ r) in
    let t = ap (λ (zs : List Hashed). length zs) is in
    let first : listed fuel at n.left ≡ l = listed-is at fuel n.left l left (omega (arith, s, t, short)) in
    let second : listed fuel at n.right ≡ r = listed-is at fuel n.right r right (omega (arith, s, t, short)) in
    ap (λ (o : Option Link). option_map_or (λ (m : Link). listed fuel at m.left ++ hashed_of top m ∷ listed fuel at m.right) o []) e
    ∙ ap (λ (zs : List Hashed). zs ++ hashed_of top n ∷ listed fuel at n.right) first
    ∙ ap (λ (zs : List Hashed). l ++ hashed_of top n ∷ zs) second
    ∙ sym is

-- more nodes
pub grown : (old new : Slots) (top : ℕ) (xs : List Hashed) → Stands old top xs → ((id : ℕ) (n : Link) → old id ≡ Some n → new id ≡ Some n) → new 4294967295 ≡ None → Stands new top xs
grown old new top xs (none _ _ end e is) same bare = none top xs end (ap new end ∙ bare) is
grown old new top xs (node _ _ n l r e left right is) same bare = node top xs n l r (same top n e) (grown old new n.left l left same bare) (grown old new n.right r right same bare) is

-- what has no node isn't in a tree
pub out-of : (at : Slots) (top : ℕ) (xs : List Hashed) (id : ℕ) → Stands at top xs → at id ≡ None → count id xs ≡ 0
out-of at top xs id (none _ _ _ e is) gone = ap (count id) is
out-of at top xs id (node _ _ n l r e left right is) gone =
    let x = hashed_of top n in
    let first = out-of at n.left l id left gone in
    let second = out-of at n.right r id right gone in
    let here : count id (x ∷ []) ≡ 0 = count-other id x [] (λ same. some-none (at id) n gone (ap at (sym same) ∙ e)) in
    let sum = ap (count id) is ∙ count-mid id l x r in
    omega (arith, first, second, here, sum)

-- how many there are of ids below a number
abbrev pub total : ℕ → List Hashed → ℕ
total zero xs = 0
total (suc k) xs = count k xs + total k xs

total-cons : (k : ℕ) (x : Hashed) (xs : List Hashed) → total k (x ∷ xs) ≡ total k (x ∷ []) + total k xs
total-cons zero x xs = refl
total-cons (suc k) x xs =
    let h = total-cons k x xs in
    let c : count k (x ∷ xs) ≡ count k (x ∷ []) + count k xs = omega arith in
    omega (arith, h, c)

total-past : (k : ℕ) (x : Hashed) → k ≤ x.id → total k (x ∷ []) ≡ 0
total-past zero x up = refl
total-past (suc k) x up =
    let h = total-past k x (omega (arith, up)) in
    let c : count k (x ∷ []) ≡ 0 = count-other k x [] (λ same. omega (arith, same, up)) in
    omega (arith, h, c)

total-one : (k : ℕ) (x : Hashed) → x.id < k → total k (x ∷ []) ≡ 1
total-one zero x less = let no : ⊥ = omega (arith, less) in absurd no
total-one (suc k) x less = elim (same-or x.id k) as (λ _. total (suc k) (x ∷ []) ≡ 1) [
  | inl same ↦
      let h = total-past k x (omega (arith, same)) in
      let c : count k (x ∷ []) ≡ 1 = count-here k x [] same in
      omega (arith, h, c)
  | inr other ↦
      let h = total-one k x (omega (arith, less, other)) in
      let c : count k (x ∷ []) ≡ 0 = count-other k x [] other in
      omega (arith, h, c)
]

total-length : (k : ℕ) (xs : List Hashed) → ((id : ℕ) → k ≤ id → count id xs ≡ 0) → total k xs ≡ length xs
total-length zero [] below = refl
total-length (suc k) [] below = let h = total-length k [] (λ id up. refl) in omega (arith, h)
total-length k (x ∷ xs) below =
    let here : count x.id (x ∷ xs) ≡ suc (count x.id xs) = count-here x.id x xs refl in
    let less : x.id < k = elim (cases_lt x.id k) as (λ _. x.id < k) [
      | inl h ↦ h
      | inr h ↦ let b = below x.id h in let no : ⊥ = omega (arith, b, here) in absurd no
    ] in
    let rest = total-length k xs (λ id up. let b = below id up in let c : count id (x ∷ xs) ≡ count id (x ∷ []) + count id xs = omega arith in omega (arith, b, c)) in
    let one = total-one k x less in
    let sum = total-cons k x xs in
    omega (arith, rest, one, sum)

total-once : (k : ℕ) (xs : List Hashed) → IsOnce xs → total k xs ≤ k
total-once zero xs once = omega arith
total-once (suc k) xs once = let h = total-once k xs once in let o = once k in omega (arith, h, o)

-- a tree has no more ids than there are nodes
pub all-fit : (ns : List FlatNode) (xs : List Hashed) → IsOnce xs → ((id : ℕ) → slots ns id ≡ None → count id xs ≡ 0) → length xs ≤ length ns
all-fit ns xs once out =
    let all = total-length (length ns) xs (λ id up. out id (ap (option_map link_of) (slice_get_past ns id up))) in
    let few = total-once (length ns) xs once in
    omega (arith, all, few)

pub tree-fits : (ns : List FlatNode) (top : ℕ) (xs : List Hashed) → Stands (slots ns) top xs → IsOnce xs → length xs ≤ length ns
tree-fits ns top xs stands once = all-fit ns xs once (λ id gone. out-of (slots ns) top xs id stands gone)

-- what is computed from all nodes
pub tree-listed : (ns : List FlatNode) (top : ℕ) (xs : List Hashed) → Stands (slots ns) top xs → IsOnce xs → listed (length ns) (slots ns) top ≡ xs
tree-listed ns top xs stands once = listed-is (slots ns) (length ns) top xs stands (tree-fits ns top xs stands once)
