-- What stands at the front stays there.
use Rattle.std.proofs.Common.{◌≡◌, ℕ, List, [], ◌++◌, length, take, sym, ap, ◌∙◌}
use Rattle.std.proofs.lemmas.List.{append-nil, append_assoc, take_at}
use Rattle.wasm_operators.specs.Appended.{Keeps}

pub keeps_all : (old new : List ℕ) → new ≡ old → Keeps old new
keeps_all old new e = record { more = []; behind = e ∙ sym (append-nil old) }

pub keeps_on : (old mid new bytes : List ℕ) → mid ≡ old ++ bytes → Keeps mid new → Keeps old new
keeps_on old mid new bytes e it = record { more = bytes ++ it.more; behind = it.behind ∙ ap (λ (l : List ℕ). l ++ it.more) e ∙ append_assoc old bytes it.more }

pub keeps_front : (old new : List ℕ) (n : ℕ) → n ≡ length old → Keeps old new → take n new ≡ old
keeps_front old new n e it = ap (λ (l : List ℕ). take n l) it.behind ∙ take_at old it.more n (sym e)
