-- An add as an edit, whatever it answers.
use Rattle.std.proofs.Common.{◌≡◌, ℕ, [], ◌∷◌, ◌++◌, Some, ap}
use Rattle.std.specs.Prelude.{Result, Ok, Err, IfOk, OnOk, OnErr}
use Rattle.walrus_arena.specs.Arena.{Arena, next_id}
use Rattle.walrus_linked.specs.OwnIds.{Edit}
use Rattle.walrus_linked.specs.OwnIds.Edit.{Stays, Adds}

-- one item more, which has the next id
abbrev pub AddsOne : {T : Type 0} → (T → ℕ) → Arena T → Arena T → Type 0
AddsOne {T} id_of old new = (x : T) × (id_of x ≡ next_id old) × (new.slots ≡ old.slots ++ Some x ∷ [])

pub add_edits : {A E T : Type 0} (id_of : T → ℕ) (old new : Arena T) (r : Result A E) → IfOk r (λ _. AddsOne id_of old new) → OnErr r (new ≡ old) → Edit id_of old new
add_edits {A} {E} {T} id_of old new (Ok a) adds stays = Adds adds.0 adds.1 adds.2
add_edits {A} {E} {T} id_of old new (Err e) adds stays = Stays (ap (λ (a : Arena T). a.slots) stays)

-- what holds where a call answers, and what follows
pub if_ok : {A E : Type 0} (r : Result A E) (P Q : A → Type 0) → IfOk r P → ((a : A) → P a → Q a) → IfOk r Q
if_ok (Ok a) P Q p f = f a p
if_ok (Err e) P Q p f = tt

pub if_both : {A E : Type 0} (r : Result A E) (P Q : A → Type 0) → IfOk r P → IfOk r Q → IfOk r (λ a. P a × Q a)
if_both (Ok a) P Q p q = (p, q)
if_both (Err e) P Q p q = tt

pub on_ok : {A E : Type 0} (r : Result A E) (P Q : Type 0) → OnOk r P → (P → Q) → IfOk r (λ _. Q)
on_ok (Ok a) P Q p f = f p
on_ok (Err e) P Q p f = tt
