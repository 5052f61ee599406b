-- Tests of texts.
use Rattle.std.proofs.Common.{◌≡◌, ℕ, List, true, false, inl, inr}
use Rattle.std.proofs.lemmas.Bool.{cases_Bool}
use Rattle.std.specs.Str.{is_utf8, IsUtf8}
use Rattle.std.proofs.lemmas.Str.{is_utf8-from_IsUtf8, IsUtf8-from_is_utf8}

pub is_text : (bytes : List ℕ) → IsUtf8 bytes → is_utf8 bytes ≡ true
is_text bytes h = is_utf8-from_IsUtf8 bytes h

pub is_no_text : (bytes : List ℕ) → ¬ (IsUtf8 bytes) → is_utf8 bytes ≡ false
is_no_text bytes h = elim (cases_Bool (is_utf8 bytes)) [ inl e ↦ absurd (h (IsUtf8-from_is_utf8 bytes e)) | inr e ↦ e ]
