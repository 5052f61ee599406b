-- Contents that calls without memory open and read to their end.
use Rattle.std.specs.Prelude.{ℕ, ◌-◌, ◌≡◌, List, Result, Ok, Err, refl}
use Rattle.std.proofs.Common.{ap, ◌∙◌, arith, inl}
use Rattle.wasm_reader.specs.Cursor.{Cursor, rest, IsInner}
use Rattle.wasm_reader.specs.Reading.{seen_window}
use Rattle.wasm_formats.specs.Stops.{Stop, Parsing}
use Rattle.wasm_formats.specs.Formats.{refused}
use Rattle.walrus_section_reader.specs.declared.fault.Fault.{Fault}
use Rattle.walrus_section_reader.specs.Parses.{ParsesExactly, Parses}
use Rattle.walrus_section_reader.specs.Opened.{opened_at}
use Rattle.walrus_section_reader.specs.Steps.{sized_by}
use Rattle.walrus_section_reader.specs.Windows.{moved_stop, opened_to, sized_is}
use Rattle.walrus_section_frames.specs.Customs.{ReadsWhole}

-- such a call parses, too
pub parses : {X Y : Type 0} (parse : List ℕ → Parsing Y) (view : X → Y) (old new : Cursor) (result : Result X Fault) → ParsesExactly parse view old new result → Parses parse view old new result
parses parse view old new (Ok x) p = record { value = p.value; place = p.place; moves = p.moves }
parses parse view old new (Err e) p = record { value = inl p.value; place = p.place; moves = p.moves }

pub not_opened : {S X : Type 0} (parse : List ℕ → Result S Stop) (view : X → S) (old new : Cursor) (e : Fault) → ParsesExactly opened_at seen_window old new (Err e) → ParsesExactly (sized_by parse) view old new (Err e)
not_opened parse view old new e p = record {
  value = sized_is parse (rest old) ∙ rw p.value refl;
  place = p.place;
  moves = p.moves;
}

pub not_parsed : {S X Y : Type 0} (parse : List ℕ → Result S Stop) (view : X → S) (other : Y → S) (old new inner : Cursor) (e : Fault)
    → ParsesExactly opened_at seen_window old new (Ok inner) → IsInner new inner → ReadsWhole parse other inner (Err e) → ParsesExactly (sized_by parse) view old new (Err e)
not_parsed parse view other old new inner e p within q = record {
  value = opened_to parse old new inner p within ∙ rw q.value (ap (λ (s : Stop). refused s) (moved_stop inner new e _ within.ends q.place));
  place = omega (arith, within.ends, q.place);
  moves = p.moves;
}

pub parsed : {S X Y : Type 0} (parse : List ℕ → Result S Stop) (view : X → S) (other : Y → S) (old new inner : Cursor) (x : X) (y : Y) → other y ≡ view x
    → ParsesExactly opened_at seen_window old new (Ok inner) → IsInner new inner → ReadsWhole parse other inner (Ok y) → ParsesExactly (sized_by parse) view old new (Ok x)
parsed parse view other old new inner x y same p within q = record {
  value = opened_to parse old new inner p within ∙ rw (q.value, same) refl;
  place = tt;
  moves = p.moves;
}
