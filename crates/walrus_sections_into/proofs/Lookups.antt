-- What a look-up answers.
use Rattle.std.specs.Prelude.{◌≡◌, Option, Some, None, Ok, Err, refl}
use Rattle.std.specs.Option.{ok_or}

pub found : {A E : Type 0} (o : Option A) (e : E) (x : A) → ok_or o e ≡ Ok x → o ≡ Some x
found (Some y) e x same = cc
found None e x same = absurd cc

pub missing : {A E : Type 0} (o : Option A) (e d : E) → ok_or o e ≡ Err d → o ≡ None
missing (Some y) e d same = absurd cc
missing None e d same = refl

pub found_as : {A E D : Type 0} (o : Option A) (e : E) (d : D) (x : A) → ok_or o e ≡ Ok x → Ok x ≡ ok_or o d
found_as (Some y) e d x same = cc
found_as None e d x same = absurd cc

pub missing_as : {A E D : Type 0} (o : Option A) (e f : E) (d : D) → ok_or o e ≡ Err f → Err d ≡ ok_or o d
missing_as (Some y) e f d same = absurd cc
missing_as None e f d same = refl
