-- Numbers of one byte.
use Rattle.std.proofs.Common.{◌≡◌, ◌<◌, ◌≤◌, ℕ, true, Ok, ap, ◌∙◌, sym, rules, ℤ}
use Rattle.wasm_reader.specs.declared.error.ErrorKind.{ErrorKind}
use Rattle.wasm_reader.specs.Cursor.{Cursor, rest, TakesByte}
use Rattle.wasm_reader.specs.Reading.{Reads, plain}
use Rattle.wasm_reader.specs.Numbers.{Style, unsigned, signed, number_at}
use Rattle.wasm_reader.specs.Spelled.{number_at-last}
use Rattle.wasm_reader.proofs.Bits.{seven_fit, seven_fit_signed}

small : {A : Type 0} (s : Style A) (wrong : ErrorKind) (width b : ℕ) (x : A) (old new : Cursor) → TakesByte b old new → b < 128 → s.fits width b ≡ true → x ≡ s.value b
    → Reads (number_at s wrong width) plain old new (Ok x)
small s wrong width b x old new takes last fits e = record {
  value = ap (number_at s wrong width) takes.was ∙ number_at-last s wrong width b (rest new) last fits ∙ ap (λ v. Ok (v, rest new)) (sym e);
  place = search rules;
  moves = takes.moves;
}

pub small_unsigned : (wrong : ErrorKind) (width b x : ℕ) (old new : Cursor) → TakesByte b old new → b < 128 → 7 ≤ width → x ≡ b → Reads (number_at unsigned wrong width) plain old new (Ok x)
small_unsigned wrong width b x old new takes last wide e = small unsigned wrong width b x old new takes last (seven_fit width b last wide) e

pub small_signed : (wrong : ErrorKind) (width b : ℕ) (x : ℤ) (old new : Cursor) → TakesByte b old new → b < 128 → 7 ≤ width → x ≡ signed.value b
    → Reads (number_at signed wrong width) plain old new (Ok x)
small_signed wrong width b x old new takes last wide e = small signed wrong width b x old new takes last (seven_fit_signed width b last wide) e
