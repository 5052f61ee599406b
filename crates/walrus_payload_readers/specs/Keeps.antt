-- What a call that keeps what stands before the first fault did, in words of the keepers: it pushed the items, and says whether there was none.
use Rattle.std.specs.Prelude.{ℕ, ◌≡◌, Bool, true, false, List, ◌++◌, map, Option, Some, None, Result, Ok, Err, IfOk, refl}
use Rattle.std.proofs.Common.{ap, sym, ◌∙◌}
use Rattle.std.proofs.lemmas.List.{append-nil}
use Rattle.wasm_reader.specs.Cursor.{Cursor, rest}
use Rattle.wasm_formats.specs.Stops.{Parsing, can_end}
use Rattle.wasm_formats.specs.Formats.{Format}
use Rattle.wasm_name_payloads.specs.Keepers.{Rest, Behind, Ended, Wrong, Kept, Keeper, why}
use Rattle.wasm_name_payloads.specs.Joined.{led}
use Rattle.walrus_payload_readers.specs.Gives.{Gives, unless_refused, answer}

-- the bytes behind what was kept, unless there is a fault
abbrev pub behind : Rest → Option (List ℕ)
behind (Behind later) = Some later
behind Ended = None
behind Wrong = None

abbrev pub left : Bool → Cursor → Option (List ℕ)
left true new = Some (rest new)
left false new = None

pub record Keeps {X A : Type 0} (keeps : List ℕ → Kept A) (view : X → A) (before now : List X) (old new : Cursor) (whole : Bool) : Type 0 where
  pub items : map view now ≡ map view before ++ (keeps (rest old)).items
  pub bytes : behind (keeps (rest old)).rest ≡ left whole new

-- Lemmas: a value that isn't kept, and then what it leads to

pub behind_why : (b : Bool) → behind (why b) ≡ None
behind_why true = refl
behind_why false = refl

module _ {X Y A B : Type 0} (f : Format A) (g : A → Keeper B) (seen : Y → A) (view : X → B) where
  pub led_not : (before : List X) (old mid new : Cursor) → Gives f.parse seen old mid None → Keeps (led f g).keeps view before before old new false
  led_not before old mid new h = go (f.parse (rest old)) refl h
    where
      go : (r : Parsing A) → f.parse (rest old) ≡ r → unless_refused r ≡ None → Keeps (led f g).keeps view before before old new false
      go (Ok x) e h = absurd cc
      go (Err s) e h = record { items = rw e (sym (append-nil (map view before))); bytes = rw e (behind_why (can_end s.trouble)) }

  pub led_on : (before now : List X) (old mid new : Cursor) (y : Y) (whole : Bool) → Gives f.parse seen old mid (Some y) → Keeps (g (seen y)).keeps view before now mid new whole
      → Keeps (led f g).keeps view before now old new whole
  led_on before now old mid new y whole h k = go (f.parse (rest old)) refl h
    where
      go : (r : Parsing A) → f.parse (rest old) ≡ r → unless_refused r ≡ answer seen mid (Some y) → Keeps (led f g).keeps view before now old new whole
      go (Ok x) e h = let same : f.parse (rest old) ≡ Ok (seen y, rest mid) = e ∙ cc in record { items = rw same k.items; bytes = rw same k.bytes }
      go (Err s) e h = absurd cc

-- what holds of an answer implies this
pub if_ok : {X E : Type 0} (P Q : X → Type 0) (r : Result X E) → IfOk r P → ((x : X) → P x → Q x) → IfOk r Q
if_ok P Q (Ok x) h prove = prove x h
if_ok P Q (Err e) h prove = h

-- the same of what keeps as much of these bytes
pub keeps_as : {X A : Type 0} (k l : List ℕ → Kept A) (view : X → A) (before now : List X) (old new : Cursor) (whole : Bool) → k (rest old) ≡ l (rest old)
    → Keeps k view before now old new whole → Keeps l view before now old new whole
keeps_as {X} {A} k l view before now old new whole same h = record {
  items = h.items ∙ ap (λ (r : Kept A). map view before ++ r.items) same;
  bytes = sym (ap (λ (r : Kept A). behind r.rest) same) ∙ h.bytes;
}
