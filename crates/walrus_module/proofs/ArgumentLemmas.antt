-- Arguments that are added one by one.
use Rattle.std.proofs.Common.{◌≡◌, ◌∙◌, ◌+◌, ◌<◌, ℕ, zero, suc, List, [], ◌∷◌, ◌++◌, length, take, get_or, None, sym, ap, refl, arith, length-append}
use Rattle.std.specs.List.{range_with_len}
use Rattle.std.proofs.lemmas.List.{take_more, append_assoc, length-take-le}
use Rattle.walrus_forms.specs.declared.value.ValType.{ValType}
use Rattle.walrus_items.specs.declared.local.Local.{Local}
use Rattle.walrus_module.specs.Replaced.{arguments}

-- one more number
range-suc : (a n : ℕ) → range_with_len a (suc n) ≡ range_with_len a n ++ (a + n) ∷ []
range-suc a zero = let same : a ≡ a + 0 = omega arith in ap (λ (k : ℕ). k ∷ []) same
range-suc a (suc n) =
    let same : a + 1 + n ≡ a + suc n = omega arith in
    ap (λ (ks : List ℕ). a ∷ ks) (range-suc (a + 1) n ∙ ap (λ (k : ℕ). range_with_len (a + 1) n ++ k ∷ []) same)

pub range-more : (a n j : ℕ) → a + n ≡ j → range_with_len a (n + 1) ≡ range_with_len a n ++ j ∷ []
range-more a n j is =
    let e : n + 1 ≡ suc n = omega arith in
    ap (range_with_len a) e ∙ range-suc a n ∙ ap (λ (k : ℕ). range_with_len a n ++ k ∷ []) is

-- one more argument
arguments-snoc : (first : ℕ) (ps : List ValType) (ty : ValType) (id : ℕ) → first + length ps ≡ id
    → arguments first (ps ++ ty ∷ []) ≡ arguments first ps ++ record { id = id; ty = ty; name = None } ∷ []
arguments-snoc first [] ty id is =
    let same : first ≡ id = omega (arith, is) in
    let L : ℕ → List Local = λ k. record { id = k; ty = ty; name = None } ∷ [] in
    ap L same
arguments-snoc first (p ∷ ps) ty id is =
    let L : List Local → List Local = λ ls. record { id = first; ty = p; name = None } ∷ ls in
    ap L (arguments-snoc (first + 1) ps ty id (omega (arith, is)))

arguments-length : (first : ℕ) (ps : List ValType) → length (arguments first ps) ≡ length ps
arguments-length first [] = refl
arguments-length first (p ∷ ps) = ap suc (arguments-length (first + 1) ps)

-- a turn: the local that is added has the next id, and is the next argument
pub turn : (old : List Local) (ps : List ValType) (k : ℕ) (x : ValType) (id : ℕ) (now new : List Local) → k < length ps → x ≡ get_or ps k x → id ≡ length now
    → now ≡ old ++ arguments (length old) (take k ps) → new ≡ now ++ record { id = id; ty = x; name = None } ∷ []
    → (length old + k ≡ id) × (new ≡ old ++ arguments (length old) (take (k + 1) ps))
turn old ps k x id now new less at is was adds =
    let n = length old in
    let ps' = take k ps in
    let last : Local = record { id = id; ty = x; name = None } in
    let long : length ps' ≡ k = length-take-le k ps (omega (arith, less)) in
    let count : n + k ≡ id = omega (arith, is, ap length was, length-append old (arguments n ps'), arguments-length n ps', long) in
    let more : take (k + 1) ps ≡ ps' ++ x ∷ [] = take_more ps k x less ∙ ap (λ (y : ValType). ps' ++ y ∷ []) (sym at) in
    let snoc = arguments-snoc n ps' x id (omega (arith, count, long)) in (
      count,
      adds ∙ ap (λ (ls : List Local). ls ++ last ∷ []) was ∙ append_assoc old (arguments n ps') (last ∷ [])
          ∙ ap (λ (ls : List Local). old ++ ls) (sym snoc ∙ ap (arguments n) (sym more)),
    )
