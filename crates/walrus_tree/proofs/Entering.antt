-- Steps that enter sequences, and what is around the end of steps.
use Rattle.std.proofs.Common.{ℕ, Bool, true, ◌&&◌, ◌+◌, ◌<◌, ◌≤◌, ◌≡◌, List, [], ◌∷◌, ◌++◌, length, drop, get_or, refl, sym, ap, arith, ◌∙◌, append_assoc}
use Rattle.std.proofs.lemmas.List.{drop_more}
use Rattle.walrus_builder.specs.walrus_walks.walrus_instr.declared.instr.Instr.{Instr}
use Rattle.walrus_builder.specs.walrus_walks.walrus_instr.declared.seq.InstrLocId.{InstrLocId}
use Rattle.walrus_builder.specs.walrus_walks.Tree.{children, children_in}
use Rattle.walrus_tree.specs.declared.marks.Mark.{Mark}
use Rattle.walrus_tree.specs.declared.steps.Step.{Step}
use Rattle.walrus_tree.specs.declared.steps.Step.TheVariants.{Enter, Leave}
use Rattle.walrus_tree.specs.Testing.{entering, opened, within, all_within}

pub entering_append : (js ks : List ℕ) → entering (js ++ ks) ≡ entering js ++ entering ks
entering_append [] ks = refl
entering_append (j ∷ js) ks = ap (λ (fs : List Step). Enter j ∷ fs) (entering_append js ks)

pub entering_length : (ks : List ℕ) → length (entering ks) ≡ length ks
entering_length [] = refl
entering_length (k ∷ ks) = let rest = entering_length ks in omega (arith, rest)

pub opened_append : (around : List ℕ) (fs gs : List Step) → opened around (fs ++ gs) ≡ opened (opened around fs) gs
opened_append around [] gs = refl
opened_append around (Enter k ∷ fs) gs = opened_append around fs gs
opened_append around (Leave k ∷ fs) gs = opened_append (k ∷ around) fs gs

pub opened_entering : (around ks : List ℕ) → opened around (entering ks) ≡ around
opened_entering around [] = refl
opened_entering around (k ∷ ks) = opened_entering around ks

pub opened_most : (around : List ℕ) (fs : List Step) → length (opened around fs) ≤ length around + length fs
opened_most around [] = omega arith
opened_most around (Enter k ∷ fs) = let rest = opened_most around fs in omega (arith, rest)
opened_most around (Leave k ∷ fs) = let rest = opened_most (k ∷ around) fs in omega (arith, rest)

-- one instruction's sequences are entered
pub pushed_more : (front new back : List Step) (is : List (Instr × InstrLocId)) (n : ℕ) (x : Instr × InstrLocId) → n < length is → x ≡ get_or is n x → new ≡ front ++ entering (children x.0)
    → front ++ entering (children_in (drop n is)) ≡ back → new ++ entering (children_in (drop (n + 1) is)) ≡ back
pushed_more front new back is n x l e push before =
    let rest = entering (children_in (drop (n + 1) is)) in
    ap (λ (fs : List Step). fs ++ rest) push
    ∙ append_assoc front (entering (children x.0)) rest
    ∙ ap (λ (fs : List Step). front ++ fs) (sym (entering_append (children x.0) (children_in (drop (n + 1) is))))
    ∙ ap (λ (js : List (Instr × InstrLocId)). front ++ entering (children_in js)) (sym (drop_more is n x l ∙ ap (λ (y : Instr × InstrLocId). y ∷ drop (n + 1) is) (sym e)))
    ∙ before

-- one instruction's labels are right
pub within_more : (ms : List Mark) (depth : ℕ) (is : List (Instr × InstrLocId)) (n : ℕ) (x : Instr × InstrLocId) (all : Bool) → n < length is → x ≡ get_or is n x → within ms depth x.0 ≡ true
    → all_within ms depth (drop n is) ≡ all → all_within ms depth (drop (n + 1) is) ≡ all
within_more ms depth is n x all l e right before =
    let rest = drop (n + 1) is in
    let is_next : drop n is ≡ x ∷ rest = drop_more is n x l ∙ ap (λ (y : Instr × InstrLocId). y ∷ rest) (sym e) in
    sym (ap (λ (b : Bool). b && all_within ms depth rest) right) ∙ sym (ap (all_within ms depth) is_next) ∙ before
