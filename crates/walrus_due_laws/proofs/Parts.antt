-- Lemmas: what is due part by part is spelled part by part.
use Rattle.std.specs.Prelude.{ℕ, ◌≡◌, Bool, true, false, nat_lt, List, [], ◌∷◌, ◌++◌, length, take, drop, Ok, if◌then◌else◌, refl}
use Rattle.std.proofs.Common.{ap, sym, ◌∙◌}
use Rattle.std.proofs.lemmas.List.{append-nil, take_at, drop_at, take-map, drop-map, take-append-drop}
use Rattle.wasm_operators.specs.Bytes.{unsigned_bytes}
use Rattle.wasm_formats.specs.declared.fault.Limited.{Limited}
use Rattle.wasm_section_bytes.specs.Segments.{sized_bytes}
use Rattle.walrus_errors.specs.declared.error.ModuleError.{ModuleError}
use Rattle.walrus_errors.specs.declared.error.ModuleError.TheVariants.{OutputLimit}
use Rattle.walrus_emit_parts.specs.Due.{Due, lacking, limited, number, section, sized, text, written}
use Rattle.walrus_emit_parts.proofs.Lemmas.{written_once, written_size}
use Rattle.walrus_due_laws.specs.Spelled.{SpelledAs}

-- the parts of what can be written can be written
parts : (a b : Due) (bytes : List ℕ) → a ++ b ≡ written bytes → (a ≡ written (take (length a) bytes)) × (b ≡ written (drop (length a) bytes))
parts a b bytes e = (
  sym (take_at a b (length a) refl) ∙ ap (λ (l : Due). take (length a) l) e ∙ take-map (λ (n : ℕ). Ok n) (length a) bytes,
  sym (drop_at a b (length a) refl) ∙ ap (λ (l : Due). drop (length a) l) e ∙ drop-map (λ (n : ℕ). Ok n) (length a) bytes,
)

lacking_not : {e : ModuleError} (bytes : List ℕ) → lacking e ≡ written bytes → ⊥
lacking_not [] h = absurd cc
lacking_not (b ∷ bytes) h = absurd cc

-- bytes are themselves
pub plain : (x : List ℕ) → SpelledAs (written x) x
plain x bytes e = sym (written_once x bytes e)

-- what can't be written is anything
pub lacks : (e : ModuleError) (x : List ℕ) → SpelledAs (lacking e) x
lacks e x bytes h = absurd (lacking_not bytes h)

-- in other words
pub turned : (a : Due) (x y : List ℕ) → x ≡ y → SpelledAs a x → SpelledAs a y
turned a x y same f bytes e = f bytes e ∙ same

pub both : (a b : Due) (x y : List ℕ) → SpelledAs a x → SpelledAs b y → SpelledAs (a ++ b) (x ++ y)
both a b x y f g bytes e =
    let p = parts a b bytes e in
    let front = take (length a) bytes in
    let back = drop (length a) bytes in
    sym (take-append-drop (length a) bytes) ∙ ap (λ (l : List ℕ). l ++ back) (f front p.0) ∙ ap (λ (l : List ℕ). x ++ l) (g back p.1)

-- so is all of which a part can't
pub lacks_within : (a b : Due) (e : ModuleError) (x : List ℕ) → SpelledAs (a ++ (lacking e ++ b)) x
lacks_within a b e x bytes h =
    let p = parts a (lacking e ++ b) bytes h in
    let q = parts (lacking e) b (drop (length a) bytes) p.1 in
    absurd (lacking_not (take 1 (drop (length a) bytes)) q.0)

-- a byte in front
pub led : (byte : ℕ) (a : Due) (x : List ℕ) → SpelledAs a x → SpelledAs (Ok byte ∷ a) (byte ∷ x)
led byte a x f = both (written (byte ∷ [])) a (byte ∷ []) x (plain (byte ∷ [])) f

pub within : (most n : ℕ) (of : Limited) (a : Due) (x : List ℕ) → SpelledAs a x → SpelledAs (limited most n of a) x
within most n of a x f bytes e = go (nat_lt most n) e
  where
    go : (passed : Bool) → (if passed then lacking (OutputLimit of) else a) ≡ written bytes → bytes ≡ x
    go true e = absurd (lacking_not bytes e)
    go false e = f bytes e

-- the size is that of the bytes
pub sized_as : (a : Due) (x : List ℕ) → SpelledAs a x → SpelledAs (sized a) (sized_bytes x)
sized_as a x f bytes e =
    let size = number (length a) in
    let p = parts size a bytes e in
    let same : a ≡ written x = p.1 ∙ ap (λ (l : List ℕ). written l) (f (drop (length size) bytes) p.1) in
    let count : length a ≡ length x = ap length same ∙ written_size x in
    both size a (unsigned_bytes (length a)) x (plain (unsigned_bytes (length a))) f bytes e ∙ ap (λ (n : ℕ). unsigned_bytes n ++ x) count

pub section_as : (id : ℕ) (a : Due) (x : List ℕ) → SpelledAs a x → SpelledAs (section id a) (id ∷ sized_bytes x)
section_as id a x f = led id (sized a) (sized_bytes x) (sized_as a x f)

pub text_as : (bytes : List ℕ) → SpelledAs (text bytes) (sized_bytes bytes)
text_as bytes = both (number (length bytes)) (written bytes) (unsigned_bytes (length bytes)) bytes (plain (unsigned_bytes (length bytes))) (plain bytes)

-- alone in a list of sections
pub alone : (a : Due) (x y : List ℕ) → x ≡ y → SpelledAs a x → SpelledAs a (y ++ [])
alone a x y same f = turned a x (y ++ []) (same ∙ sym (append-nil y)) f
