-- The same bytes at another offset give the same answer, moved.
use Rattle.std.proofs.Common.{◌≡◌, ◌+◌, ◌-◌, ℕ, Bool, true, false, inl, inr, List, length, drop, Result, Ok, Err, sym, ap, ◌∙◌, arith}
use Rattle.std.proofs.lemmas.List.{length-drop}
use Rattle.wasm_reader.specs.declared.error.Error.{Error}
use Rattle.wasm_reader.specs.Cursor.{Window, Cursor, rest, end_of, IsWithin}
use Rattle.wasm_reader.specs.Reading.{Reading, Reads, Fault, fault, answer}
use Rattle.wasm_reader.specs.Laws.{IsMoved, MovedAnswer, OffsetsMove, SparesMemory, OffsetsMoveBy}
use Rattle.wasm_reader.specs.Items.{ReadsBy}

ok_is : {A : Type 0} (x y : A × List ℕ) → (let done : A × List ℕ → Reading A = λ v. Ok v in done x ≡ done y) → x ≡ y
ok_is x y e = cc

err_is : {A : Type 0} (f g : Fault) → (let none : Fault → Reading A = λ v. Err v in none f ≡ none g) → f ≡ g
err_is f g e = cc

module _ {X Y : Type 0} (view : X → Y) (reading : List ℕ → Reading Y) (k : ℕ) (old new old' new' : Cursor) (moved : IsMoved k old old') (within : IsWithin old) where
  same_rest : rest old' ≡ rest old
  same_rest = ap (λ (n : ℕ). drop n old'.window.bytes) moved.position ∙ ap (λ (l : List ℕ). drop old.position l) moved.bytes

  answers : (result result' : Result X Error) → Reads reading view old new result → Reads reading view old' new' result'
      → (answer view new result ≡ answer view new' result') → MovedAnswer view k new new' result result'
  answers (Ok x) (Ok y) p q e =
      let same = ok_is (view x, rest new) (view y, rest new') e in
      let bytes : new'.window.bytes ≡ new.window.bytes = ap (λ (w : Window). w.bytes) q.moves.window ∙ moved.bytes ∙ sym (ap (λ (w : Window). w.bytes) p.moves.window) in
      let here : IsWithin new = p.moves.within within in
      let there : IsWithin new' = q.moves.within (let a = moved.position in let b = ap length moved.bytes in omega arith) in
      let sizes : length new'.window.bytes ≡ length new.window.bytes = ap length bytes in
      let left : length (rest new) ≡ length (rest new') = ap (λ (r : Y × List ℕ). length r.1) same in (
        sym (ap (λ (r : Y × List ℕ). r.0) same),
        record {
          bytes = bytes;
          start = ap (λ (w : Window). w.start) q.moves.window ∙ moved.start ∙ ap (λ (n : ℕ). n + k) (sym (ap (λ (w : Window). w.start) p.moves.window));
          position = omega (arith, length-drop new.position new.window.bytes, length-drop new'.position new'.window.bytes);
        },
      )
  answers (Err e) (Err f) p q h =
      let same = err_is (fault e.kind (end_of new - e.offset)) (fault f.kind (end_of new' - f.offset)) h in
      let left : end_of new - e.offset ≡ end_of new' - f.offset = ap (λ (g : Fault). g.left) same in
      let end : end_of new ≡ end_of old = ap (λ (w : Window). w.start + length w.bytes) p.moves.window in
      let end' : end_of new' ≡ end_of old' = ap (λ (w : Window). w.start + length w.bytes) q.moves.window in
      let further : end_of old' ≡ end_of old + k = let a = moved.start in let b = ap length moved.bytes in omega arith in
      (sym (ap (λ (g : Fault). g.kind) same), let a = p.place in let b = q.place in omega arith)
  answers (Ok x) (Err f) p q e = cc
  answers (Err e) (Ok y) p q h = cc

pub offsets_move_lem : {X Y : Type 0} (view : X → Y) → OffsetsMove view
offsets_move_lem view reading k old new old' new' result result' moved within p q =
    answers view reading k old new old' new' moved within result result' p q
    (sym p.value ∙ sym (ap reading (same_rest view reading k old new old' new' moved within)) ∙ q.value)

-- want of memory aside, a call reads as one that takes none
spared : {X Y : Type 0} (takes : Bool) (reading : List ℕ → Reading Y) (view : X → Y) (old new : Cursor) (result : Result X Error) → SparesMemory new result → ReadsBy takes reading view old new result → Reads reading view old new result
spared false reading view old new result spares h = h
spared true reading view old new (Ok x) spares h = record { value = h.value; place = h.place; moves = h.moves }
spared true reading view old new (Err e) spares h = record { value = elim h.value [ inl fails ↦ fails | inr wants ↦ absurd (spares wants) ]; place = h.place; moves = h.moves }

pub offsets_move_by : {X Y : Type 0} (takes : Bool) (view : X → Y) → OffsetsMoveBy takes view
offsets_move_by takes view reading k old new old' new' result result' moved within spares spares' p q =
    offsets_move_lem view reading k old new old' new' result result' moved within (spared takes reading view old new result spares p) (spared takes reading view old' new' result' spares' q)
