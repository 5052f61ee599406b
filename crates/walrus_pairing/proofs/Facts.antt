-- Lemmas: where answers come from.
use Rattle.std.specs.Prelude.{ℕ, ◌≡◌, ◌⊎◌, Option, Some, None, Ok, Err, refl}
use Rattle.std.specs.Option.{option_map}
use Rattle.std.proofs.Common.{ap, ◌∙◌, inl, inr}
use Rattle.wasm_operators.specs.Items.{Space}
use Rattle.walrus_instr.specs.declared.instr.Instr.{Instr}
use Rattle.walrus_pairing.specs.Looks.{Look, Or, ◌>>=◌, found}
use Rattle.walrus_pairing.specs.Read.{first}

pub first_is : (o other : Option Instr) (i : Instr) → first o other ≡ Some i → (o ≡ Some i) ⊎ (other ≡ Some i)
first_is (Some x) other i e = inl e
first_is None other i e = inr e

-- what a value was made of
pub made_of : {A : Type 0} (make : A → Instr) (o : Option A) (i : Instr) → option_map make o ≡ Some i → (x : A) × (o ≡ Some x) × (make x ≡ i)
made_of make None i e = absurd cc
made_of make (Some x) i e = (x, refl, cc)

abbrev pub good : {A : Type 0} → A → Or A
good x = Ok x

pub ok_is : {A : Type 0} (x y : A) → good x ≡ good y → x ≡ y
ok_is x y e = cc

-- an answer behind another
pub then_is : {A B : Type 0} (r : Or A) (make : A → Or B) (b : B) → (r >>= make) ≡ Ok b → (a : A) × (r ≡ Ok a) × (make a ≡ Ok b)
then_is (Ok a) make b e = (a, refl, e)
then_is (Err x) make b e = absurd cc

pub found_is : (look : Look) (space : Space) (n id : ℕ) → found look space n ≡ Ok id → look space n ≡ Some id
found_is look space n id e = elim_at (look space n) refl
  where
    elim_at : (o : Option ℕ) → look space n ≡ o → look space n ≡ Some id
    elim_at (Some m) h = h ∙ ap Some (ok_is m id (rw h at e))
    elim_at None h = absurd (let w = (rw h at e) in cc)
