-- Lemmas: slots that are picked by a list of numbers, what imports bring first.
use Rattle.std.specs.Prelude.{ℕ, zero, suc, ◌≡◌, ◌+◌, Bool, true, false, List, [], ◌∷◌, ◌++◌, length, map, drop, Option, Some, None, IsSome, slice_get, slice_index_or, refl, if◌then◌else◌}
use Rattle.std.specs.List.{AllByRecursion, cons_option, filter_map}
use Rattle.std.specs.Option.{option_map}
use Rattle.std.proofs.Common.{ap, sym, ◌∙◌, subst}
use Rattle.std.proofs.Math.Seq.{drop-append_seam}
use Rattle.std.proofs.lemmas.List.{length-append, length-map, map-append}
use Rattle.std.proofs.lemmas.List.Elements.{filter_map-append}
use Rattle.wasm_operators.specs.Items.{Space}
use Rattle.wasm_grammar.specs.Modules.{Import, Module}
use Rattle.wasm_import_links.specs.Links.{slot_import}
use Rattle.wasm_module_rules.specs.Linked.{Each}
use Rattle.wasm_canonical.specs.Dense.{AreThere}
use Rattle.wasm_part.specs.Part.{picked}
use Rattle.wasm_part.specs.Kept.{AreFilled}
use Rattle.wasm_part.specs.Order.{brought_by, brought_to, is_to}
use Rattle.wasm_part.proofs.Picked.{each_at}

-- ---- slots

pub each_unit : {A : Type 0} (xs : List (Option A)) → Each (λ (x : A). Unit {0}) xs
each_unit [] = tt
each_unit (None ∷ xs) = each_unit xs
each_unit (Some x ∷ xs) = (tt, each_unit xs)

pub picked_there : {A : Type 0} (P Q : A → Type 0) (f : A → A) (xs : List (Option A)) (ns : List ℕ) → AreFilled ns xs → Each Q xs → ((x : A) → Q x → P (f x)) → AreThere P (picked f ns xs)
picked_there P Q f xs [] h each step = tt
picked_there {A} P Q f xs (n ∷ ns) h each step = go (slice_index_or xs n None) refl h.0 (picked_there P Q f xs ns h.1 each step)
  where
    go : (o : Option A) → slice_index_or xs n None ≡ o → IsSome o → AreThere P (picked f ns xs) → AreThere P (option_map f o ∷ picked f ns xs)
    go None at some rest = absurd cc
    go (Some x) at some rest = (step x (each_at Q xs n x each at), rest)

pub there_joined : {A : Type 0} (P : A → Type 0) (xs ys : List (Option A)) → AreThere P xs → AreThere P ys → AreThere P (xs ++ ys)
there_joined P [] ys h k = k
there_joined P (None ∷ xs) ys h k = absurd h
there_joined P (Some x ∷ xs) ys h k = (h.0, there_joined P xs ys h.1 k)

pub all_behind : {A : Type 0} (P : A → Type 0) (xs ys : List A) → AllByRecursion P (xs ++ ys) → AllByRecursion P ys
all_behind P [] ys h = h
all_behind P (x ∷ xs) ys h = all_behind P xs ys h.1

pub slot_mapped : {A : Type 0} (from : A → Option ℕ) (xs : List (Option A)) (n : ℕ) → slice_index_or (map (slot_import from) xs) n None ≡ slot_import from (slice_index_or xs n None)
slot_mapped from [] n = refl
slot_mapped from (x ∷ xs) zero = refl
slot_mapped from (x ∷ xs) (suc n) = slot_mapped from xs n

-- ---- the module's own items, behind those that imports bring

all_own : {A : Type 0} (IsOwn : Option A → Type 0) (from : A → Option ℕ) (f : A → A) (xs : List (Option A)) (ns : List ℕ) → AreFilled ns xs
    → AllByRecursion (λ n. slice_index_or (map (slot_import from) xs) n None ≡ None) ns → ((x : A) → from x ≡ None → IsOwn (Some (f x))) → AllByRecursion IsOwn (picked f ns xs)
all_own IsOwn from f xs [] there own step = tt
all_own {A} IsOwn from f xs (n ∷ ns) there own step = (go (slice_index_or xs n None) there.0 (sym (slot_mapped from xs n) ∙ own.0), all_own IsOwn from f xs ns there.1 own.1 step)
  where
    go : (o : Option A) → IsSome o → slot_import from o ≡ None → IsOwn (option_map f o)
    go None some e = absurd cc
    go (Some x) some e = step x e

pub own_behind : {A : Type 0} (IsOwn : Option A → Type 0) (from : A → Option ℕ) (f : A → A) (xs : List (Option A)) (listed bs own : List ℕ) (count : ℕ) → listed ≡ bs ++ own → count ≡ length bs
    → AreFilled listed xs → AllByRecursion (λ n. slice_index_or (map (slot_import from) xs) n None ≡ None) own → ((x : A) → from x ≡ None → IsOwn (Some (f x))) → AllByRecursion IsOwn (drop count (picked f listed xs))
own_behind {A} IsOwn from f xs listed bs own count is many there owned step =
    let g : ℕ → Option A = λ n. option_map f (slice_index_or xs n None) in
    let behind : drop (length (map g bs)) (map g bs ++ map g own) ≡ map g own = drop-append_seam (map g bs) (map g own) in
    let all : drop count (picked f listed xs) ≡ map g own = ap (λ (l : List ℕ). drop count (map g l)) is ∙ ap (λ (l : List (Option A)). drop count l) (map-append g bs own)
    ∙ ap (λ (k : ℕ). drop k (map g bs ++ map g own)) (many ∙ sym (length-map bs g)) ∙ behind in
    let filled : AreFilled own xs = all_behind (λ n. IsSome (slice_index_or xs n None)) bs own (subst (λ (l : List ℕ). AreFilled l xs) is there) in
    subst (AllByRecursion IsOwn) (sym all) (all_own IsOwn from f xs own filled owned step)

-- ---- what imports bring

pub seam : (xs : List ℕ) (y : ℕ) (ys zs : List ℕ) → slice_get ((xs ++ y ∷ ys) ++ zs) (length xs) ≡ Some y
seam [] y ys zs = refl
seam (x ∷ xs) y ys zs = seam xs y ys zs

counted_if : (b : Bool) (k : ℕ) → length (cons_option (if b then Some k else None) []) ≡ (if b then 1 else 0)
counted_if true k = refl
counted_if false k = refl

-- one import more
pub one_longer : (m : Module) (space : Space) (earlier : List ℕ) (n : ℕ) (x : Import) → slice_index_or m.imports n None ≡ Some x
    → length (brought_by m space (earlier ++ n ∷ [])) ≡ length (brought_by m space earlier) + (if is_to space x.item.space then 1 else 0)
one_longer m space earlier n x at =
    let g : ℕ → Option ℕ = λ n. brought_to space (slice_index_or m.imports n None) in
    ap (λ (l : List ℕ). length l) (filter_map-append g earlier (n ∷ [])) ∙ length-append (filter_map g earlier) (filter_map g (n ∷ []))
    ∙ ap (λ (k : ℕ). length (filter_map g earlier) + k) (ap (λ (o : Option Import). length (cons_option (brought_to space o) [])) at ∙ counted_if (is_to space x.item.space) x.item.number)

-- the item that an import brings stands behind those of the imports before it
pub brought_at : (m : Module) (space : Space) (earlier later own : List ℕ) (n : ℕ) (x : Import) → slice_index_or m.imports n None ≡ Some x → is_to space x.item.space ≡ true
    → slice_get (brought_by m space (earlier ++ n ∷ later) ++ own) (length (brought_by m space earlier)) ≡ Some x.item.number
brought_at m space earlier later own n x at to =
    let g : ℕ → Option ℕ = λ n. brought_to space (slice_index_or m.imports n None) in
    let one : brought_by m space (n ∷ later) ≡ x.item.number ∷ brought_by m space later = ap (λ (o : Option Import). cons_option (brought_to space o) (filter_map g later)) at
    ∙ ap (λ (b : Bool). cons_option (if b then Some x.item.number else None) (filter_map g later)) to in
    ap (λ (l : List ℕ). slice_get (l ++ own) (length (brought_by m space earlier))) (filter_map-append g earlier (n ∷ later) ∙ ap (λ (l : List ℕ). filter_map g earlier ++ l) one)
    ∙ seam (filter_map g earlier) x.item.number (filter_map g later) own
