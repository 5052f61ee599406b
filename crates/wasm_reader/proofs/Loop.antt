-- The loops over the bytes of a number, for unsigned and signed ones at once.
use Rattle.std.proofs.Common.{◌≡◌, ◌+◌, ◌-◌, ◌*◌, ◌<◌, ◌≤◌, ◌^◌, ℕ, zero, suc, true, false, List, [], ◌∷◌, length, Ok, Err, Result, refl, sym, ap, ◌∙◌, arith, rules, add-one, ℤ, pos, ◌+ℤ◌, ◌*ℤ◌}
use Rattle.std.proofs.lemmas.Nat.{pow-add}
use Rattle.std.proofs.lemmas.Int.{ints}
use borrow.Author.Differences.{up, down, same_in}
use lib.IntN.{negsuc, neg_ℤ}
use Rattle.std.proofs.Math.Nat.{mul-zero}
use Rattle.wasm_reader.specs.declared.error.Error.{Error}
use Rattle.wasm_reader.specs.declared.error.ErrorKind.{ErrorKind}
use Rattle.wasm_reader.specs.declared.error.ErrorKind.TheVariants as kinds
use Rattle.wasm_reader.specs.Cursor.{Window, Cursor, rest, end_of, Forward}
use Rattle.wasm_reader.specs.Reading.{Reading, Reads, fault, Fault, ◌>>=◌, plain, byte_at}
use Rattle.wasm_reader.proofs.Bits.{joined_below}
use Rattle.wasm_reader.specs.Spelled.{number_at-last, number_at-wrong, number_at-too_long, number_at-more, number_at-none}
use Rattle.wasm_reader.specs.Numbers.{Style, unsigned, signed, number_at}

-- how low bits go below what the later bytes stand for
pub record Raises {A : Type 0} (s : Style A) : Type 0 where
  pub raise : ℕ → ℕ → A → A
  pub nothing : (x : A) → raise 0 0 x ≡ x
  pub regroup : (low shift b : ℕ) (x : A) → raise low shift (s.onto b x) ≡ raise (low + 2 ^ shift * b) (shift + 7) x

down_neg : (n : ℕ) → down (neg_ℤ (pos n)) ≡ n
down_neg zero = refl
down_neg (suc n) = refl

up_neg : (n : ℕ) → up (neg_ℤ (pos n)) ≡ 0
up_neg zero = refl
up_neg (suc n) = refl

up_times : (a : ℕ) (z : ℤ) → up (pos a *ℤ z) ≡ a * up z
up_times a (pos n) = refl
up_times a (negsuc n) = up_neg (a * suc n) ∙ sym (mul-zero a)

down_times : (a : ℕ) (z : ℤ) → down (pos a *ℤ z) ≡ a * down z
down_times a (pos n) = sym (mul-zero a)
down_times a (negsuc n) = down_neg (a * suc n)

seven_above : (shift : ℕ) → 2 ^ (shift + 7) ≡ 2 ^ shift * 128
seven_above shift = pow-add 2 shift 7

pub regroup_unsigned : (low shift b x : ℕ) → low + 2 ^ shift * (b + 128 * x) ≡ low + 2 ^ shift * b + 2 ^ (shift + 7) * x
regroup_unsigned low shift b x = rw (seven_above shift) (omega arith)

pub regroup_signed : (low shift b : ℕ) (x : ℤ) → pos low +ℤ pos (2 ^ shift) *ℤ (pos b +ℤ pos 128 *ℤ x) ≡ pos (low + 2 ^ shift * b) +ℤ pos (2 ^ (shift + 7)) *ℤ x
regroup_signed low shift b x =
    let unit : ℕ = 2 ^ shift in
    let inner : ℤ = pos b +ℤ pos 128 *ℤ x in
    let parts : up inner + 128 * down x ≡ b + 128 * up x + down inner = omega (arith, ints, up_times 128 x, down_times 128 x) in
    let times : unit * (up inner + 128 * down x) ≡ unit * (b + 128 * up x + down inner) = ap (λ (n : ℕ). unit * n) parts in
    rw (seven_above shift)
    (same_in (pos low +ℤ pos unit *ℤ inner) (pos (low + unit * b) +ℤ pos (unit * 128) *ℤ x)
    (omega (arith, ints, up_times unit inner, down_times unit inner, up_times (unit * 128) x, down_times (unit * 128) x, times)))

pub nothing_unsigned : (x : ℕ) → 0 + 2 ^ 0 * x ≡ x
nothing_unsigned x = omega arith

pub nothing_signed : (x : ℤ) → pos 0 +ℤ pos (2 ^ 0) *ℤ x ≡ x
nothing_signed x = same_in (pos 0 +ℤ pos 1 *ℤ x) x (omega (arith, up_times 1 x, down_times 1 x, ints))

abbrev pub raises_unsigned : Raises unsigned
raises_unsigned = record {
  raise = λ low shift x. low + 2 ^ shift * x;
  nothing = nothing_unsigned;
  regroup = regroup_unsigned;
}

abbrev pub raises_signed : Raises signed
raises_signed = record {
  raise = λ low shift x. pos low +ℤ pos (2 ^ shift) *ℤ x;
  nothing = nothing_signed;
  regroup = regroup_signed;
}

-- a reading of the later bytes, with the low bits below it
abbrev pub raised : {A : Type 0} → {s : Style A} → Raises s → ℕ → ℕ → Reading A → Reading A
raised k low shift (Ok x) = Ok (k.raise low shift x.0, x.1)
raised k low shift (Err e) = Err e

-- the loop's invariant: the low bits are below their shift, and the rest of the reading is that of the bytes left
pub record Rises {A : Type 0} (s : Style A) (k : Raises s) (wrong : ErrorKind) (start now : Cursor) (width shift low : ℕ) : Type 0 where
  pub within : shift < width
  pub below : low < 2 ^ shift
  pub so_far : raised k low shift (number_at s wrong (width - shift) (rest now)) ≡ number_at s wrong width (rest start)
  pub moves : Forward start now

raised-nothing : {A : Type 0} {s : Style A} (k : Raises s) (r : Reading A) → raised k 0 0 r ≡ r
raised-nothing k (Ok x) = ap (λ v. Ok (v, x.1)) (k.nothing x.0)
raised-nothing k (Err e) = refl

raised-then : {A : Type 0} {s : Style A} (k : Raises s) (low shift b : ℕ) (r : Reading A)
    → raised k low shift (r >>= λ x. Ok (s.onto b x.0, x.1)) ≡ raised k (low + 2 ^ shift * b) (shift + 7) r
raised-then k low shift b (Ok x) = ap (λ v. Ok (v, x.1)) (k.regroup low shift b x.0)
raised-then k low shift b (Err e) = refl

pub Forward-then : {a b c : Cursor} → Forward a b → Forward b c → Forward a c
Forward-then p q = record { window = q.window ∙ p.window; forward = omega arith; within = λ h. q.within (p.within h) }

pub Forward-same : (a : Cursor) → Forward a a
Forward-same a = record { window = refl; forward = omega arith; within = λ h. h }

pub starts : {A : Type 0} {s : Style A} (k : Raises s) (wrong : ErrorKind) (c : Cursor) (width : ℕ) → 0 < width → Rises s k wrong c c width 0 0
starts {s = s} k wrong c width h = record {
  within = h;
  below = omega arith;
  so_far = let same : width - 0 ≡ width = omega arith in rw same (raised-nothing k (number_at s wrong width (rest c)));
  moves = Forward-same c;
}

ok_is : {A B : Type 0} (x y : A) → (let done : A → Result A B = λ z. Ok z in done x ≡ done y) → x ≡ y
ok_is x y e = cc

-- what one byte's reading says of the bytes
byte_was : (bytes later : List ℕ) (b : ℕ) → byte_at bytes ≡ Ok (b, later) → bytes ≡ b ∷ later
byte_was [] later b e = cc
byte_was (x ∷ bytes) later b e =
    let pair : ℕ → List ℕ → ℕ × List ℕ = λ n l. (n, l) in
    let same : pair x bytes ≡ pair b later = ok_is (pair x bytes) (pair b later) e in
    let first : x ≡ b = ap (λ (p : ℕ × List ℕ). p.0) same in
    let second : bytes ≡ later = ap (λ (p : ℕ × List ℕ). p.1) same in
    ap (λ (n : ℕ). n ∷ bytes) first ∙ ap (λ (l : List ℕ). b ∷ l) second

no_byte_was : (bytes : List ℕ) (f : Fault) → byte_at bytes ≡ Err f → (bytes ≡ []) × (f ≡ fault (kinds.EndOfFile 1) 0)
no_byte_was [] f e = (refl, cc)
no_byte_was (x ∷ bytes) f e = cc

module _ {A X : Type 0} {s : Style A} (k : Raises s) (wrong : ErrorKind) (view : X → A) (start now next : Cursor) (width shift low b : ℕ) (rises : Rises s k wrong start now width shift low) where
  module _ (read : Reads byte_at plain now next (Ok b)) where
    bytes_are : rest now ≡ b ∷ rest next
    bytes_are = byte_was (rest now) (rest next) b read.value

    pub goes_on : 128 ≤ b → 7 < width - shift → b < 256 → Rises s k wrong start next width (shift + 7) (low + 2 ^ shift * (b - 128))
    goes_on goes wide small = record {
      within = omega arith;
      below = joined_below (shift + 7) low (b - 128) shift (omega arith) rises.below (let same : shift + 7 - shift ≡ 7 = omega arith in rw same (omega arith));
      so_far =
          let same : width - shift - 7 ≡ width - (shift + 7) = omega arith in
          let step = number_at-more s wrong (width - shift) b (rest next) goes wide in
          let sofar = rises.so_far in
          sym (raised-then k low shift (b - 128) (number_at s wrong (width - (shift + 7)) (rest next)))
          ∙ ap (raised k low shift) (sym (rw same at (ap (number_at s wrong (width - shift)) bytes_are ∙ step)))
          ∙ sofar;
      moves = Forward-then rises.moves read.moves;
    }

    -- the value of a number's last byte
    pub ends : (x : X) → b < 128 → s.fits (width - shift) b ≡ true → view x ≡ k.raise low shift (s.value b) → Reads (number_at s wrong width) view start next (Ok x)
    ends x last fits e = record {
      value = sym rises.so_far ∙ ap (λ bytes. raised k low shift (number_at s wrong (width - shift) bytes)) bytes_are
          ∙ ap (raised k low shift) (number_at-last s wrong (width - shift) b (rest next) last fits) ∙ ap (λ v. Ok (v, rest next)) (sym e);
      place = search rules;
      moves = Forward-then rises.moves read.moves;
    }

    fails : (e : Error) (kind : ErrorKind) → e.kind ≡ kind → e.offset + length (rest now) ≡ end_of now
        → number_at s wrong (width - shift) (b ∷ rest next) ≡ Err (fault kind (length (rest next) + 1)) → Reads (number_at s wrong width) view start next (Err e)
    fails e kind same place step =
        let size : length (rest now) ≡ length (rest next) + 1 = ap length bytes_are ∙ sym (add-one (length (rest next))) in
        let end : end_of next ≡ end_of now = ap (λ (w : Window). w.start + length w.bytes) read.moves.window in
        let left : end_of next - e.offset ≡ length (rest next) + 1 = omega arith in
        record {
          value = sym rises.so_far ∙ ap (λ bytes. raised k low shift (number_at s wrong (width - shift) bytes)) bytes_are
              ∙ ap (raised k low shift) step ∙ sym (ap (λ (n : ℕ). Err (fault e.kind n)) left ∙ ap (λ (w : ErrorKind). Err (fault w (length (rest next) + 1))) same);
          place = omega arith;
          moves = Forward-then rises.moves read.moves;
        }

    -- a last byte whose unused bits are wrong
    pub ends_wrong : (e : Error) → e.kind ≡ wrong → e.offset + length (rest now) ≡ end_of now → b < 128 → s.fits (width - shift) b ≡ false
        → Reads (number_at s wrong width) view start next (Err e)
    ends_wrong e kind place last fits = fails e wrong kind place (number_at-wrong s wrong (width - shift) b (rest next) last fits)

    -- a last byte that goes on
    pub ends_long : (e : Error) → e.kind ≡ kinds.TooLong → e.offset + length (rest now) ≡ end_of now → 128 ≤ b → width - shift ≤ 7
        → Reads (number_at s wrong width) view start next (Err e)
    ends_long e kind place goes narrow = fails e kinds.TooLong kind place (number_at-too_long s wrong (width - shift) b (rest next) goes narrow)

  -- no byte is left
  pub misses : (e : Error) → Reads byte_at plain now next (Err e) → Reads (number_at s wrong width) view start next (Err e)
  misses e read =
      let none = no_byte_was (rest now) (fault e.kind (end_of next - e.offset)) read.value in
      record {
        value = sym rises.so_far ∙ ap (λ bytes. raised k low shift (number_at s wrong (width - shift) bytes)) none.0
            ∙ ap (raised k low shift) (number_at-none s wrong (width - shift)) ∙ sym (ap (λ (f : Fault). Err f) none.1);
        place = read.place;
        moves = Forward-then rises.moves read.moves;
      }
