-- What a look-up answers.
use Rattle.std.specs.Prelude.{◌≡◌, Option, Some, None, Ok, Err, refl}
use Rattle.std.specs.Option.{ok_or}

pub found : {A E : Type 0} (o : Option A) (e : E) (x : A) → ok_or o e ≡ Ok x → o ≡ Some x
found (Some y) e x same = cc
found None e x same = absurd cc

pub missing : {A E : Type 0} (o : Option A) (e f : E) → ok_or o e ≡ Err f → o ≡ None
missing (Some y) e f same = absurd cc
missing None e f same = refl
