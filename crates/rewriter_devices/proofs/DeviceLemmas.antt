-- What several calls of a device did to its bytes.
use Rattle.std.proofs.Common.{ℕ, List, ◌++◌, take, Option, None, Some, Result, Ok, Err, ap, sym, ◌∙◌}
use Rattle.std.specs.Io.KnownBytes.{Keeps, Appends, Consumes, ReadConsumes, WriteAppends}
use Rattle.std.proofs.KnownBytes.{Keeps-trans}

pub Keeps-Consumes : (a b c : Option (List ℕ)) (bs : List ℕ) → Keeps a b → Consumes b c bs → Consumes a c bs
Keeps-Consumes None b c bs p q = tt
Keeps-Consumes (Some x) None c bs p q = absurd p
Keeps-Consumes (Some x) (Some y) None bs p q = absurd q
Keeps-Consumes (Some x) (Some y) (Some z) bs p q = sym p ∙ q

pub Keeps-Appends : (a b c : Option (List ℕ)) (bs : List ℕ) → Keeps a b → Appends b c bs → Appends a c bs
Keeps-Appends None b c bs p q = tt
Keeps-Appends (Some x) None c bs p q = absurd p
Keeps-Appends (Some x) (Some y) None bs p q = absurd q
Keeps-Appends (Some x) (Some y) (Some z) bs p q = q ∙ ap (λ l. l ++ bs) p

pub Keeps-ReadConsumes : {E : Type 0} (a b c : Option (List ℕ)) (r : Result ℕ E) (buf : List ℕ) → Keeps a b → ReadConsumes b c r buf → ReadConsumes a c r buf
Keeps-ReadConsumes a b c (Ok n) buf p q = (Keeps-Consumes a b c (take n buf) p q.0, q.1)
Keeps-ReadConsumes a b c (Err e) buf p q = Keeps-trans a b c p q

pub Keeps-WriteAppends : {E : Type 0} (a b c : Option (List ℕ)) (r : Result ℕ E) (buf : List ℕ) → Keeps a b → WriteAppends b c r buf → WriteAppends a c r buf
Keeps-WriteAppends a b c (Ok n) buf p q = Keeps-Appends a b c (take n buf) p q
Keeps-WriteAppends a b c (Err e) buf p q = Keeps-trans a b c p q
