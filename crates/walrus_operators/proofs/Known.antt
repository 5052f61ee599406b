-- Lemmas: a code of which the table was asked before it is read.
use Rattle.std.proofs.Common.{◌≡◌, ◌<◌, ◌∙◌, refl, ℕ, true, List, [], ◌∷◌, Option, Some, None, Ok, Err, sym, ap, subst, slice_get}
use Rattle.std.proofs.lemmas.Bool.{lt-leb}
use Rattle.wasm_operators.specs.wasm_reader.Cursor.{Cursor, rest}
use Rattle.wasm_operators.specs.wasm_reader.Reading.{Fault, Reading, byte_at, next_at}
use Rattle.wasm_operators.specs.wasm_reader.wasm_features.declared.WasmFeatures.{WasmFeatures}
use Rattle.wasm_operators.specs.declared.entry.Entry.{Entry}
use Rattle.wasm_operators.specs.declared.entry.Kind.{Kind}
use Rattle.wasm_operators.specs.Table.{find_code}
use Rattle.wasm_operators.specs.Operators.{allowed, code_at, is_on, kind_of, op_code}
use Rattle.walrus_operators.specs.Operators.{IsNext, IsNextOf}

abbrev byte_in : Reading ℕ → ℕ
byte_in (Ok x) = x.0
byte_in (Err e) = 0

-- what is looked at is the first byte, if there is one
pub peeked : (bytes : List ℕ) (b : ℕ) → next_at bytes ≡ Ok (b, bytes) → Some b ≡ slice_get bytes 0
peeked [] b e = absurd cc
peeked (d ∷ bytes) b e = ap (λ n. Some n) (sym (ap byte_in e))

pub none_left : (bytes : List ℕ) (f : Fault) → next_at bytes ≡ Err f → None ≡ slice_get bytes 0
none_left [] f e = refl
none_left (d ∷ bytes) f e = absurd cc

-- the byte that is read is that one
same_byte : (c : Cursor) (e : Entry) (b : ℕ) (later : List ℕ) (n : IsNext c e) → byte_at (rest c) ≡ Ok (b, later) → n.byte ≡ b
same_byte c e b later n read = ap byte_in (sym (ap byte_at n.stands) ∙ read)

-- as the number that it is kept in
module _ (c : Cursor) (b k : ℕ) (later : List ℕ) (is : k ≡ b) (read : byte_at (rest c) ≡ Ok (b, later)) where
  pub entry_next : (e : Entry) → IsNext c e → find_code 0 k ≡ Some e
  entry_next e n = ap (find_code 0) (is ∙ sym (same_byte c e b later n read)) ∙ n.listed

  pub code_next : (kind : Kind) → IsNextOf c kind → code_at (rest c) ≡ Ok (op_code 0 k, later)
  unfolding code_at
  code_next kind (e, n, kind_is) =
      let F : ℕ → Type 0 = λ m. m < 0xfb in
      let low : b < 0xfb = subst F (same_byte c e b later n read) n.low in
      rw (read, is, lt-leb 0xfb b low) refl

  allowed_so : (e : Entry) (found : Option Entry) → found ≡ Some e → is_on c.window.features e.gate ≡ true → allowed c.window.features found ≡ Some e.kind
  allowed_so e found holds on = rw (holds, on) refl

  pub kind_next : (kind : Kind) → IsNextOf c kind → kind_of c.window.features (op_code 0 k) ≡ Some kind
  unfolding kind_of
  kind_next kind (e, n, kind_is) = allowed_so e (find_code 0 k) (entry_next e n) n.on ∙ ap (λ (q : Kind). Some q) kind_is
