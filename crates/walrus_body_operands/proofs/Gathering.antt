-- What a loop makes of the items of a list.
use Rattle.std.specs.Prelude.{◌≡◌, ℕ, ◌<◌, ◌≤◌, ◌+◌, List, [], ◌∷◌, ◌++◌, length, Option, None, refl}
use Rattle.std.proofs.Common.{ap, sym, subst, ◌∙◌, get_or, drop}
use Rattle.std.proofs.lemmas.List.{append-nil, append_assoc, drop_all, drop_more}
use Rattle.wasm_formats.specs.Stops.{Trouble}
use Rattle.walrus_body_steps.specs.wasm_grammar.Values.{first_of}
use Rattle.walrus_body_operands.specs.Asked.{tests_of}

-- of a list these items are left, and those before them have passed their tests and made these
pub record Gathers {A B : Type 0} (test : A → Option Trouble) (Are : List A → List B → Type 0) (whole rest : List A) (done : List B) : Type 0 where
  pub tests : tests_of test whole ≡ tests_of test rest
  pub makes : (more : List B) → Are rest more → Are whole (done ++ more)

pub gathers_none : {A B : Type 0} (test : A → Option Trouble) (Are : List A → List B → Type 0) (whole : List A) → Gathers test Are whole whole []
gathers_none test Are whole = record { tests = refl; makes = λ more are. are }

gathers_one : {A B : Type 0} (test : A → Option Trouble) (Are : List A → List B → Type 0) (whole rest : List A) (done : List B) (x : A) (y : B)
    → Gathers test Are whole (x ∷ rest) done → test x ≡ None → ((more : List B) → Are rest more → Are (x ∷ rest) (y ∷ more)) → Gathers test Are whole rest (done ++ y ∷ [])
gathers_one test Are whole rest done x y g passes joins = record {
  tests = g.tests ∙ ap (λ (t : Option Trouble). first_of t (tests_of test rest)) passes;
  makes = λ more are. subst (Are whole) (sym (append_assoc done (y ∷ []) more)) (g.makes (y ∷ more) (joins more are));
}

-- one item on
pub gathers_more : {A B : Type 0} (test : A → Option Trouble) (Are : List A → List B → Type 0) (whole : List A) (i : ℕ) (done next : List B) (y : B)
    → (d : A) → i < length whole → Gathers test Are whole (drop i whole) done → test (get_or whole i d) ≡ None
    → ((rest : List A) (more : List B) → Are rest more → Are (get_or whole i d ∷ rest) (y ∷ more)) → next ≡ done ++ y ∷ [] → Gathers test Are whole (drop (i + 1) whole) next
gathers_more {A = A} {B = B} test Are whole i done next y d l g passes joins is =
    let h : Gathers test Are whole (get_or whole i d ∷ drop (i + 1) whole) done = subst (λ (xs : List A). Gathers test Are whole xs done) (drop_more whole i d l) g in
    subst (λ (ys : List B). Gathers test Are whole (drop (i + 1) whole) ys) (sym is) (gathers_one test Are whole (drop (i + 1) whole) done (get_or whole i d) y h passes (joins (drop (i + 1) whole)))

-- all of them
pub gathers_all : {A B : Type 0} (test : A → Option Trouble) (Are : List A → List B → Type 0) (whole : List A) (i : ℕ) (done : List B) → length whole ≤ i → Are [] []
    → Gathers test Are whole (drop i whole) done → (tests_of test whole ≡ None) × Are whole done
gathers_all {A = A} test Are whole i done l none g =
    let is = drop_all i whole l in
    (g.tests ∙ ap (tests_of test) is, subst (Are whole) (append-nil done) (g.makes [] (subst (λ (xs : List A). Are xs []) (sym is) none)))
