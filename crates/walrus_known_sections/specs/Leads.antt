-- Lemmas: forms that a byte leads, entries that there may be no room for, expressions over what is known.
use Rattle.std.specs.Prelude.{ℕ, ◌+◌, ◌-◌, ◌<◌, ◌≤◌, ◌≡◌, ◌⊎◌, ◌||◌, nat_le, Bool, true, false, List, [], ◌∷◌, length, Result, Ok, Err, IfErr, if◌then◌else◌, refl}
use Rattle.std.proofs.Common.{ap, sym, ◌∙◌, subst, arith, inl, inr}
use Rattle.std.proofs.lemmas.Bool.{cases_lt, lt-ltb, le-ltb, le-leb, eq-eqb, leb-true}
use Rattle.wasm_reader.specs.declared.error.ErrorKind.{ErrorKind}
use Rattle.wasm_reader.specs.declared.error.ErrorKind.TheVariants as kinds
use Rattle.wasm_features.specs.declared.WasmFeatures.{WasmFeatures}
use Rattle.wasm_reader.specs.Cursor.{Window, Cursor, rest, end_of, Forward, TakesByte}
use Rattle.wasm_formats.specs.declared.fault.Limited.{Limited}
use Rattle.wasm_formats.specs.Stops.{Limit, Stop, stop, can_end, Parsing, ◌>>=◌}
use Rattle.wasm_formats.specs.Formats.{Format, refused}
use Rattle.wasm_formats.specs.Joined.{after}
use Rattle.wasm_formats.specs.Led.{IsOther, led, led_by, there, not_there}
use Rattle.wasm_sections.specs.wasm_file_formats.Rooms.{if_room, first_or}
use Rattle.walrus_section_values.specs.walrus_section_reader.declared.fault.Fault.{Fault}
use Rattle.walrus_section_values.specs.walrus_section_reader.declared.fault.FaultKind.{FaultKind}
use Rattle.walrus_section_values.specs.walrus_section_reader.declared.fault.FaultKind.TheVariants as faults
use Rattle.walrus_section_values.specs.walrus_section_reader.Faults.{fault_of}
use Rattle.walrus_section_values.specs.walrus_section_reader.Parses.{stop_of, FailsAs, Answers, Parses}
use Rattle.walrus_section_values.specs.walrus_section_reader.Repeats.{joined, same_end, fails_then, fails_as}
use Rattle.walrus_known_sections.specs.Rooms.{is_memory_kind, is_memory, in_room}

-- ---- one value behind another

-- an answer that `?` hands on
pub handed_on : {S X : Type 0} (p : List ℕ → Parsing S) (view : X → S) (old new : Cursor) (result : Result X Fault) (d e : Fault) → result ≡ Err d → d ≡ e
    → Parses p view old new (Err e) → Parses p view old new result
handed_on p view old new result d e is same h = rw (is, same) h

-- a call under the features of the window that it stands in
pub by_window : {S X : Type 0} (p : WasmFeatures → List ℕ → Parsing S) (view : X → S) (old mid new : Cursor) (result : Result X Fault) → Forward old mid
    → Parses (p mid.window.features) view mid new result → Parses (p old.window.features) view mid new result
by_window p view old mid new result moves h = subst (λ (w : Window). Parses (p w.features) view mid new result) moves.window h

-- a call of a reader that was left alone
pub from_same : {S X : Type 0} (p : WasmFeatures → List ℕ → Parsing S) (view : X → S) (old mid new : Cursor) (result : Result X Fault) → mid ≡ old
    → Parses (p mid.window.features) view mid new result → Parses (p old.window.features) view old new result
from_same p view old mid new result same h = subst (λ (c : Cursor). Parses (p c.window.features) view c new result) same h

module _ {A B X Y Z : Type 0} (f : Format A) (g : A → Format B) (v : Y → A) (w : Z → B) (view : X → A × B) (old mid new : Cursor) (y : Y) where
  pub after_ok : (z : Z) (x : X) → view x ≡ (v y, w z) → Parses f.parse v old mid (Ok y) → Parses (g (v y)).parse w mid new (Ok z) → Parses (after f g).parse view old new (Ok x)
  after_ok z x same p q = record { value = rw (p.value, q.value, same) refl; place = tt; moves = joined old mid new p.moves q.moves }

  pub after_err : (e : Fault) → Parses f.parse v old mid (Ok y) → Parses (g (v y)).parse w mid new (Err e) → Parses (after f g).parse view old new (Err e)
  after_err e p q = record {
    value = fails_as new e _ _ (rw p.value refl) (fails_then new e ((g (v y)).parse (rest mid)) (λ z. Ok ((v y, z.0), z.1)) q.value);
    place = q.place;
    moves = joined old mid new p.moves q.moves;
  }

-- a call, and a last one behind it whose answer is the whole's
pub after_last : {A B X Y : Type 0} (f : Format A) (g : A → Format B) (v : Y → A) (w : X → B) (view : X → A × B) (old mid new : Cursor) (y : Y) (result : Result X Fault)
    → ((z : X) → view z ≡ (v y, w z)) → Parses f.parse v old mid (Ok y) → Parses (g (v y)).parse w mid new result → Parses (after f g).parse view old new result
after_last f g v w view old mid new y (Ok x) same p q = after_ok f g v w view old mid new y x x (same x) p q
after_last f g v w view old mid new y (Err e) same p q = after_err f g v w view old mid new y e p q

pub after_first : {A B X Y : Type 0} (f : Format A) (g : A → Format B) (v : Y → A) (view : X → A × B) (old new : Cursor) (e : Fault) → Parses f.parse v old new (Err e)
    → Parses (after f g).parse view old new (Err e)
after_first f g v view old new e p = record { value = fails_then new e _ _ p.value; place = p.place; moves = p.moves }

-- ---- a form that a byte leads, or another one

module _ {A B : Type 0} (b : ℕ) (f : Format A) (g : Format B) (apart : (later : List ℕ) (y : B) → g.spells (b ∷ later) y → ⊥) (some : (y : B) → g.spells [] y → ⊥)
    (wants : (s : Stop) → g.parse [] ≡ Err s → can_end s.trouble ≡ true) where
  lead_is : (old mid : Cursor) → TakesByte b old mid → (led b f g apart some wants).parse (rest old) ≡ (f.parse (rest mid) >>= led_by b f g apart some)
  lead_is old mid h = let was = h.was in rw was (there b f g apart some b (rest mid) (eq-eqb b b refl))

  pub lead_ok : {X Y : Type 0} (view : X → A ⊎ B) (v : Y → A) (old mid new : Cursor) (x : X) (y : Y) → TakesByte b old mid → view x ≡ inl (v y)
      → Parses f.parse v mid new (Ok y) → Parses (led b f g apart some wants).parse view old new (Ok x)
  lead_ok view v old mid new x y takes same p = record {
    value = lead_is old mid takes ∙ rw (p.value, same) refl;
    place = tt;
    moves = joined old mid new takes.moves p.moves;
  }

  pub lead_err : {X Y : Type 0} (view : X → A ⊎ B) (v : Y → A) (old mid new : Cursor) (e : Fault) → TakesByte b old mid
      → Parses f.parse v mid new (Err e) → Parses (led b f g apart some wants).parse view old new (Err e)
  lead_err view v old mid new e takes p = record {
    value = fails_as new e _ _ (sym (lead_is old mid takes)) (fails_then new e _ _ p.value);
    place = p.place;
    moves = joined old mid new takes.moves p.moves;
  }

  pub other_ok : {X Y : Type 0} (view : X → A ⊎ B) (v : Y → B) (old new : Cursor) (x : X) (y : Y) → IsOther b (rest old) → view x ≡ inr (v y)
      → Parses g.parse v old new (Ok y) → Parses (led b f g apart some wants).parse view old new (Ok x)
  other_ok view v old new x y other same p = record { value = not_there b f g apart some (rest old) other ∙ rw (p.value, same) refl; place = tt; moves = p.moves }

  pub other_err : {X Y : Type 0} (view : X → A ⊎ B) (v : Y → B) (old new : Cursor) (e : Fault) → IsOther b (rest old)
      → Parses g.parse v old new (Err e) → Parses (led b f g apart some wants).parse view old new (Err e)
  other_err view v old new e other p = record {
    value = fails_as new e _ _ (sym (not_there b f g apart some (rest old) other)) (fails_then new e _ _ p.value);
    place = p.place;
    moves = p.moves;
  }

-- ---- an entry that there may be no room for

memory_is : (kind : FaultKind) → is_memory kind ≡ true → kind ≡ faults.Read kinds.Memory
memory_is (faults.Read kind) e = go kind e
  where
    go : (kind : ErrorKind) → is_memory_kind kind ≡ true → faults.Read kind ≡ faults.Read kinds.Memory
    go kinds.Memory e = refl
    go (kinds.EndOfFile n) e = absurd cc
    go kinds.TooLong e = absurd cc
    go kinds.TooLarge e = absurd cc
    go kinds.Utf8 e = absurd cc
    go kinds.BadByte e = absurd cc
    go kinds.Limit e = absurd cc
    go (kinds.Feature f) e = absurd cc
    go kinds.Trailing e = absurd cc
memory_is faults.Header e = absurd cc
memory_is faults.SectionOrder e = absurd cc
memory_is faults.SectionSize e = absurd cc
memory_is faults.Count e = absurd cc
memory_is (faults.Index s) e = absurd cc
memory_is faults.TypeForm e = absurd cc
memory_is faults.ConstExpr e = absurd cc
memory_is faults.OffsetType e = absurd cc
memory_is (faults.Unsupported f) e = absurd cc
memory_is faults.DuplicateExport e = absurd cc
memory_is faults.Bounds e = absurd cc
memory_is (faults.Limit of) e = absurd cc

module _ {A X : Type 0} (of : Limited) (f : Format A) (view : X → A) (old new : Cursor) (offset : ℕ) (at : offset + length (rest old) ≡ end_of old) where
  -- a fault of a call lies in the window
  abbrev Placed : Result X Fault → Type 0
  Placed r = IfErr r (λ e. e.offset ≤ end_of new)

  -- the limit's fault, at the first byte
  limit_is : end_of old ≡ end_of new → stop (Limit of) (length (rest old)) ≡ stop_of new (fault_of (faults.Limit of) offset)
  limit_is ends = ap (λ (n : ℕ). stop (Limit of) n) (omega (arith, at, ends))

  early : (e : Fault) → end_of old ≡ end_of new → e.offset ≤ offset → first_or of f (length (rest old)) (Err (stop_of new e)) ≡ stop_of new e
  early e ends le = rw (le-ltb (end_of new - e.offset) (length (rest old)) (omega (arith, at, ends, le))) refl

  late : (e : Fault) → end_of old ≡ end_of new → offset < e.offset → e.offset ≤ end_of new → first_or of f (length (rest old)) (Err (stop_of new e)) ≡ stop (Limit of) (length (rest old))
  late e ends lt le = rw (lt-ltb (end_of new - e.offset) (length (rest old)) (omega (arith, at, ends, lt, le))) refl

  -- the parsing where no room is left
  full_at : Parsing A → Parsing A
  full_at r = Err (first_or of f (length (rest old)) r)

  fault_fails : (e : Fault) (r : Parsing A) → end_of old ≡ end_of new → e.offset ≤ end_of new → FailsAs new e r → (memory early_enough : Bool) → is_memory e.kind ≡ memory → nat_le e.offset offset ≡ early_enough
      → Answers view new (if memory || early_enough then Err e else Err (fault_of (faults.Limit of) offset)) (refused (first_or of f (length (rest old)) r))
  fault_fails e r ends le h true o m n = inr (memory_is e.kind m)
  fault_fails e r ends le (inr h) false o m n = let clash : true ≡ false = sym (ap is_memory h) ∙ m in absurd cc
  fault_fails e r ends le (inl h) false true m n = inl (rw h (ap (λ (s : Stop). refused s) (early e ends (leb-true e.offset offset n))))
  fault_fails e r ends le (inl h) false false m n =
      let lt : offset < e.offset = elim (cases_lt offset e.offset) [
        | inl lt ↦ lt
        | inr ge ↦ let clash : true ≡ false = sym (le-leb e.offset offset ge) ∙ n in absurd cc
      ] in
      inl (rw h (ap (λ (s : Stop). refused s) (late e ends lt le ∙ limit_is ends)))

  pub room_parses : (room : Bool) (r : Result X Fault) → Parses f.parse view old new r → Parses (if_room room of f).parse view old new (in_room room of offset r)
  room_parses true r p = p
  room_parses false (Ok x) p = let ends = same_end old new p.moves in record {
    value = inl (rw p.value (ap (λ (s : Stop). refused s) (limit_is ends)));
    place = omega (arith, at, ends);
    moves = p.moves;
  }
  room_parses false (Err e) p = let ends = same_end old new p.moves in record {
    value = fault_fails e (f.parse (rest old)) ends p.place p.value (is_memory e.kind) (nat_le e.offset offset) refl refl;
    place = placed (is_memory e.kind || nat_le e.offset offset) p.place (omega (arith, at, ends));
    moves = p.moves;
  }
    where
      placed : (b : Bool) → e.offset ≤ end_of new → offset ≤ end_of new → Placed (if b then Err e else Err (fault_of (faults.Limit of) offset))
      placed true h k = h
      placed false h k = k

pub room_read : {A X : Type 0} (of : Limited) (f : Format A) (view : X → A) (old new : Cursor) (offset : ℕ) (room held : Bool) (r result : Result X Fault) → offset + length (rest old) ≡ end_of old
    → held ≡ room → result ≡ in_room held of offset r → Parses f.parse view old new r → Parses (if_room room of f).parse view old new result
room_read {A} {X} of f view old new offset room held r result at same is p =
    subst (λ (o : Result X Fault). Parses (if_room room of f).parse view old new o) (sym (is ∙ ap (λ (b : Bool). in_room b of offset r) same)) (room_parses of f view old new offset at room r p)
