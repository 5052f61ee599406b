-- What is written behind what was written.
use Rattle.std.proofs.Common.{ℕ, ◌+◌, ◌≡◌, Bool, true, false, List, [], ◌∷◌, ◌++◌, length, Option, Some, None, Ok, Err, refl, sym, ap, subst, arith, ◌∙◌, length-append}
use Rattle.std.specs.Prelude.{MatchBool, if◌then◌else◌}
use Rattle.std.proofs.lemmas.List.{append-nil, append_assoc}
use Rattle.walrus_body_text.specs.walrus_tree.walrus_walks.walrus_instr.declared.seq.InstrLocId.{InstrLocId}
use Rattle.walrus_body_text.specs.walrus_tree.walrus_walks.walrus_instr.declared.seq.InstrSeq.{InstrSeq}
use Rattle.walrus_body_text.specs.walrus_tree.Text.{Piece}
use Rattle.wasm_operators.specs.Operators.{Seen}
use Rattle.walrus_pairing.specs.Looks.{Look, Or}
use Rattle.walrus_body_writer.specs.declared.output.Output.{Output}
use Rattle.walrus_body_writer.specs.Spelled.{Text, written, bytes_of, piece_bytes, text_bytes, pair_of, text_places, IsWritten, AreWritten}
use Rattle.walrus_body_writer.specs.Outputs.{Joins, PutsIf, IsNothing, IsSame, Wrote, moved}

abbrev pub Pairs : Type 0
Pairs = List (InstrLocId × ℕ)

-- ---- texts, part by part

module _ (look : Look) (b : List InstrSeq) where
  pub bytes_append : (xs ys : Text) → text_bytes look b (xs ++ ys) ≡ text_bytes look b xs ++ text_bytes look b ys
  bytes_append [] ys = refl
  bytes_append (x ∷ xs) ys =
      ap (λ (z : List ℕ). piece_bytes look b x.0 ++ z) (bytes_append xs ys) ∙ sym (append_assoc (piece_bytes look b x.0) (text_bytes look b xs) (text_bytes look b ys))

  pub places_append : (at : ℕ) (xs ys : Text) → text_places look b at (xs ++ ys) ≡ text_places look b at xs ++ text_places look b (at + length (text_bytes look b xs)) ys
  places_append at [] ys = ap (λ (n : ℕ). text_places look b n ys) (sum_nil at)
    where
      sum_nil : (n : ℕ) → n ≡ n + 0
      sum_nil n = omega arith
  places_append at (x ∷ xs) ys =
      let here = piece_bytes look b x.0 in
      let first : Pairs = pair_of (written look b x.0) x.1 at in
      let rest = text_bytes look b xs in
      let n : (at + length here) + length rest ≡ at + length (here ++ rest) = omega (arith, length-append here rest) in
      ap (λ (z : Pairs). first ++ z) (places_append (at + length here) xs ys)
      ∙ ap (λ (m : ℕ). first ++ (text_places look b (at + length here) xs ++ text_places look b m ys)) n
      ∙ sym (append_assoc first (text_places look b (at + length here) xs) (text_places look b (at + length (here ++ rest)) ys))

  pub written_append : (xs ys : Text) → AreWritten look b xs → AreWritten look b ys → AreWritten look b (xs ++ ys)
  written_append [] ys h g = g
  written_append (x ∷ xs) ys h g = (h.0, written_append xs ys h.1 g)

-- ---- one piece more

record PutAs (a : Or (Option Seen)) (l : InstrLocId) (mid new : Output) : Type 0 where
  pub bytes : new.bytes.items ≡ mid.bytes.items ++ bytes_of a
  pub places : new.places.items ≡ (if mid.keeps_places then mid.places.items ++ pair_of a l (length mid.bytes.items) else mid.places.items)
  pub keeps : new.keeps_places ≡ mid.keeps_places
  pub written : IsWritten a

none_more : (k : Bool) (ps : Pairs) → ps ≡ (if k then ps ++ [] else ps)
none_more true ps = sym (append-nil ps)
none_more false ps = refl

put_as : (a : Or (Option Seen)) (l : InstrLocId) (mid new : Output) → PutsIf a l mid new → PutAs a l mid new
put_as (Ok (Some op)) l mid new h = record { bytes = h.bytes; places = h.places; keeps = h.keeps; written = tt }
put_as (Ok None) l mid new h = record {
  bytes = ap (λ (o : Output). o.bytes.items) h ∙ sym (append-nil mid.bytes.items);
  places = ap (λ (o : Output). o.places.items) h ∙ none_more mid.keeps_places mid.places.items;
  keeps = ap (λ (o : Output). o.keeps_places) h;
  written = tt;
}
put_as (Err e) l mid new h = absurd h

places_on : (k j : Bool) (olds mids news first more : Pairs) → j ≡ k → mids ≡ (if k then olds ++ first else olds) → news ≡ (if j then mids ++ more else mids) → news ≡ (if k then olds ++ (first ++ more) else olds)
places_on true true olds mids news first more same e f = f ∙ ap (λ (z : Pairs). z ++ more) e ∙ append_assoc olds first more
places_on false false olds mids news first more same e f = f ∙ e
places_on true false olds mids news first more same e f = absurd cc
places_on false true olds mids news first more same e f = absurd cc

pub wrote_none : (look : Look) (b : List InstrSeq) (out : Output) → Wrote look b [] out out
wrote_none look b out = record { bytes = sym (append-nil out.bytes.items); places = none_more out.keeps_places out.places.items; keeps = refl; written = tt }

pub wrote_on : (look : Look) (b : List InstrSeq) (t : Text) (old mid new : Output) (p : Piece × InstrLocId) → Wrote look b t old mid → PutsIf (written look b p.0) p.1 mid new → Wrote look b (t ++ p ∷ []) old new
wrote_on look b t old mid new p w h =
    let a = written look b p.0 in
    let puts = put_as a p.1 mid new h in
    let size : length mid.bytes.items ≡ length old.bytes.items + length (text_bytes look b t) = ap length w.bytes ∙ length-append old.bytes.items (text_bytes look b t) in
    let more : Pairs = pair_of a p.1 (length mid.bytes.items) in
    let pairs : text_places look b (length old.bytes.items) t ++ more ≡ text_places look b (length old.bytes.items) (t ++ p ∷ []) =
    ap (λ (z : Pairs). text_places look b (length old.bytes.items) t ++ z) (ap (λ (n : ℕ). pair_of a p.1 n) size ∙ sym (append-nil (pair_of a p.1 (length old.bytes.items + length (text_bytes look b t)))))
    ∙ sym (places_append look b (length old.bytes.items) t (p ∷ [])) in
    record {
      bytes =
          puts.bytes ∙ ap (λ (z : List ℕ). z ++ bytes_of a) w.bytes ∙ append_assoc old.bytes.items (text_bytes look b t) (bytes_of a)
          ∙ ap (λ (z : List ℕ). old.bytes.items ++ z) (ap (λ (z : List ℕ). text_bytes look b t ++ z) (sym (append-nil (bytes_of a))) ∙ sym (bytes_append look b t (p ∷ [])));
      places =
          places_on old.keeps_places mid.keeps_places old.places.items mid.places.items new.places.items (text_places look b (length old.bytes.items) t) more w.keeps w.places puts.places
          ∙ ap (λ (z : Pairs). if old.keeps_places then old.places.items ++ z else old.places.items) pairs;
      keeps = puts.keeps ∙ w.keeps;
      written = written_append look b t (p ∷ []) w.written (puts.written, tt);
    }

pub wrote_same : (look : Look) (b : List InstrSeq) (t : Text) (old mid new : Output) → Wrote look b t old mid → IsSame mid new → Wrote look b t old new
wrote_same look b t old mid new w s = record { bytes = s.bytes ∙ w.bytes; places = s.places ∙ w.places; keeps = s.keeps ∙ w.keeps; written = w.written }

-- ---- what was written elsewhere

-- what stood there stands at the front
pub record Fronts (old new : Pairs) : Type 0 where
  pub more : Pairs
  pub is : new ≡ old ++ more

moved_append : (by : ℕ) (xs ys : Pairs) → moved by (xs ++ ys) ≡ moved by xs ++ moved by ys
moved_append by [] ys = refl
moved_append by (x ∷ xs) ys = ap (λ (z : Pairs). (x.0, by + x.1) ∷ z) (moved_append by xs ys)

moved_pair : (by : ℕ) (a : Or (Option Seen)) (l : InstrLocId) (at : ℕ) → moved by (pair_of a l at) ≡ pair_of a l (by + at)
moved_pair by (Ok (Some op)) l at = refl
moved_pair by (Ok None) l at = refl
moved_pair by (Err e) l at = refl

module _ (look : Look) (b : List InstrSeq) where
  moved_places : (by at : ℕ) (t : Text) → moved by (text_places look b at t) ≡ text_places look b (by + at) t
  moved_places by at [] = refl
  moved_places by at (x ∷ xs) =
      let size = length (piece_bytes look b x.0) in
      let a = written look b x.0 in
      let n : by + (at + size) ≡ (by + at) + size = omega arith in
      moved_append by (pair_of a x.1 at) (text_places look b (at + size) xs)
      ∙ ap (λ (z : Pairs). z ++ moved by (text_places look b (at + size) xs)) (moved_pair by a x.1 at)
      ∙ ap (λ (z : Pairs). pair_of a x.1 (by + at) ++ z) (moved_places by (at + size) xs ∙ ap (λ (m : ℕ). text_places look b m xs) n)

  places_behind : (k j : Bool) (olds starts mores : Pairs) (n m : ℕ) (t : Text) → j ≡ k → starts ≡ [] → m ≡ 0 → mores ≡ (if j then starts ++ text_places look b m t else starts)
      → olds ++ moved n mores ≡ (if k then olds ++ text_places look b n t else olds)
  places_behind true true olds starts mores n m t same none zero h =
      let sum : n + 0 ≡ n = omega arith in
      ap (λ (z : Pairs). olds ++ moved n z) (h ∙ ap (λ (z : Pairs). z ++ text_places look b m t) none ∙ ap (λ (i : ℕ). text_places look b i t) zero)
      ∙ ap (λ (z : Pairs). olds ++ z) (moved_places n 0 t ∙ ap (λ (i : ℕ). text_places look b i t) sum)
  places_behind false false olds starts mores n m t same none zero h = ap (λ (z : Pairs). olds ++ moved n z) (h ∙ none) ∙ append-nil olds
  places_behind true false olds starts mores n m t same none zero h = absurd cc
  places_behind false true olds starts mores n m t same none zero h = absurd cc

  -- what was written behind nothing stands behind what was written here
  pub wrote_behind : (t : Text) (start more old new : Output) → start.bytes.items ≡ [] → start.places.items ≡ [] → start.keeps_places ≡ old.keeps_places → Wrote look b t start more → Joins more old new → Wrote look b t old new
  wrote_behind t start more old new none nowhere same w j = record {
    bytes = j.bytes ∙ ap (λ (z : List ℕ). old.bytes.items ++ z) (w.bytes ∙ ap (λ (z : List ℕ). z ++ text_bytes look b t) none);
    places = j.places ∙ places_behind old.keeps_places start.keeps_places old.places.items start.places.items more.places.items (length old.bytes.items) (length start.bytes.items) t same nowhere (ap length none) w.places;
    keeps = j.keeps;
    written = w.written;
  }

-- ---- what was written apart

module _ (look : Look) (b : List InstrSeq) (t : Text) (start more old new : Output) where
  wrote_from : IsSame old start → Wrote look b t start more → Wrote look b t old more
  wrote_from same w =
      let pairs : ℕ → Pairs = λ n. text_places look b n t in
      record {
        bytes = w.bytes ∙ ap (λ (z : List ℕ). z ++ text_bytes look b t) same.bytes;
        places =
            w.places ∙ ap (λ (n : ℕ). if start.keeps_places then start.places.items ++ pairs n else start.places.items) (ap length same.bytes)
            ∙ ap (λ (z : Pairs). if start.keeps_places then z ++ pairs (length old.bytes.items) else z) same.places
            ∙ ap (λ (k : Bool). if k then old.places.items ++ pairs (length old.bytes.items) else old.places.items) same.keeps;
        keeps = w.keeps ∙ same.keeps;
        written = w.written;
      }

  -- stands behind what was written
  pub wrote_taken : (short : Bool) → MatchBool short (IsSame old start) (IsNothing old start) → MatchBool short (new ≡ more) (Joins more old new) → Wrote look b t start more → Wrote look b t old new
  wrote_taken true same is w = let F : Output → Type 0 = λ z. Wrote look b t old z in subst F (sym is) (wrote_from same w)
  wrote_taken false none j w = wrote_behind look b t start more old new none.bytes none.places none.keeps w j
