-- Values that meet the rules are prefix-free, in each format.
use Rattle.std.specs.Prelude.{ℕ, ◌≡◌, List, ◌++◌, Ok}
use Rattle.std.proofs.Common.{ap, sym, ◌∙◌, subst}
use Rattle.std.proofs.lemmas.List.{append_cancel_right}
use Rattle.wasm_formats.specs.wasm_reader.Laws.{IsPrefixFree}
use Rattle.wasm_formats.specs.Formats.{Format, done_is}

-- the bytes spell this value, and it meets the rules
abbrev pub Ruled : {A : Type 0} → Format A → List ℕ → A → Type 0
Ruled f bytes x = f.spells bytes x × f.rules x

pub format_free : {A : Type 0} (f : Format A) → IsPrefixFree (Ruled f)
format_free {A} f a b x y m n h k e =
    let other : f.parse (a ++ x) ≡ Ok (n, y) = subst (λ (l : List ℕ). f.parse l ≡ Ok (n, y)) (sym e) (f.again b y n k.0 k.1) in
    let same = done_is (m, x) (n, y) (sym (f.again a x m h.0 h.1) ∙ other) in
    let later : x ≡ y = ap (λ (p : A × List ℕ). p.1) same in
    (append_cancel_right a b x (e ∙ ap (λ (l : List ℕ). b ++ l) (sym later)), ap (λ (p : A × List ℕ). p.0) same)
