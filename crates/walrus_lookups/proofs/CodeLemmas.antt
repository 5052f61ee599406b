-- Where the contents of the code section begin, a section after the other.
use Rattle.std.proofs.Common.{◌≡◌, ◌∙◌, ◌≤◌, ◌<◌, ℕ, true, List, [], ◌∷◌, ◌++◌, length, drop, Ok, Err, refl, sym, ap, subst, arith}
use Rattle.std.specs.Prelude.{◌↔◌, IsErr, Result, is_err}
use Rattle.std.proofs.lemmas.List.{length-drop}
use Rattle.wasm_reader.specs.Cursor.{Cursor, Forward, rest}
use Rattle.wasm_reader.specs.Reading.{Fault, byte_at, bytes_at}
use Rattle.wasm_reader.specs.Numbers.{unsigned_at}
use Rattle.walrus_lookups.specs.Code.{CodeBegins, IsCodeOf, header, here, behind, section_at}

-- ---- readings
no_err : {A : Type 0} (r : Result A Fault) (x : A) → r ≡ Ok x → IsErr r → ⊥
no_err {A} r x e h = (let clash : is_err {T = A} {E = Fault} (Ok x) ≡ true = subst (λ (z : Result A Fault). is_err z ≡ true) e h in absurd cc)

-- the value that is there
value_or : {A : Type 0} → A → Result A Fault → A
value_or d (Ok x) = x
value_or d (Err e) = d

same_value : {A : Type 0} (r : Result A Fault) (x y : A) → r ≡ Ok x → r ≡ Ok y → x ≡ y
unfolding value_or
same_value {A} r x y p q = ap (value_or {A = A} x) (sym p ∙ q)

pub one_section : (bytes between later : List ℕ) (id size : ℕ) → byte_at bytes ≡ Ok (id, between) → unsigned_at 32 between ≡ Ok (size, later) → section_at bytes ≡ Ok ((id, size), later)
one_section bytes between later id size p q = rw (p, q) refl

pub no_id : (bytes : List ℕ) (fault : Fault) → byte_at bytes ≡ Err fault → IsErr (section_at bytes)
no_id bytes fault p = rw p refl

pub no_size : (bytes between : List ℕ) (id : ℕ) (fault : Fault) → byte_at bytes ≡ Ok (id, between) → unsigned_at 32 between ≡ Err fault → IsErr (section_at bytes)
no_size bytes between id fault p q = rw (p, q) refl

pub moved : (a b : Cursor) → Forward a b → length (rest b) ≤ length (rest a)
moved a b h =
    let one = length-drop a.position a.window.bytes in
    let two = length-drop b.position b.window.bytes in
    let same = ap (λ w. length w.bytes) h.window in
    omega (arith, one, two, same, h.forward)

pub took_byte : (bytes left : List ℕ) (b : ℕ) → byte_at bytes ≡ Ok (b, left) → length left < length bytes
took_byte [] left b e = absurd cc
took_byte (c ∷ bytes) left b e = (let long = ap (λ (p : ℕ × List ℕ). length p.1) (same_value (byte_at (c ∷ bytes)) (c, bytes) (b, left) refl e) in omega (arith, long))

-- ---- sections, where the code section's contents begin in them as in what is left
abbrev pub Same : List ℕ → List ℕ → Type 0
Same sections left = (contents : List ℕ) → CodeBegins sections contents ↔ CodeBegins left contents

same_section : (bytes one other : List ℕ) (s t : ℕ × ℕ) → section_at bytes ≡ Ok (s, one) → section_at bytes ≡ Ok (t, other) → (s ≡ t) × (one ≡ other)
same_section bytes one other s t p q = (let both = same_value (section_at bytes) (s, one) (t, other) p q in (ap (λ z. z.0) both, ap (λ z. z.1) both))

same_bytes : (bytes left run later run' later' : List ℕ) (size size' : ℕ) → bytes_at size bytes ≡ Ok (run, later) → bytes_at size' left ≡ Ok (run', later') → size ≡ size' → bytes ≡ left → later' ≡ later
same_bytes bytes left run later run' later' size size' p q sizes lists =
    sym (ap (λ z. z.1) (same_value (bytes_at size bytes) (run, later) (run', later') p (ap (λ n. bytes_at n bytes) sizes ∙ ap (bytes_at size') lists ∙ q)))

pub no_section : (bytes contents : List ℕ) → IsErr (section_at bytes) → CodeBegins bytes contents → ⊥
no_section bytes contents cut (here size at) = no_err (section_at bytes) ((10, size), contents) at cut
no_section bytes contents cut (behind id size left run later at other skips on) = no_err (section_at bytes) ((id, size), left) at cut

only_on : (bytes left run later contents : List ℕ) (id size : ℕ) → section_at bytes ≡ Ok ((id, size), left) → (id ≡ 10 → ⊥) → bytes_at size left ≡ Ok (run, later) → CodeBegins bytes contents → CodeBegins later contents
only_on bytes left run later contents id size at other skips (here size' at') = absurd (other (ap (λ s. s.0) (same_section bytes left contents (id, size) (10, size') at at').0))
only_on bytes left run later contents id size at other skips (behind id' size' left' run' later' at' other' skips' on) =
    let same = same_section bytes left left' (id, size) (id', size') at at' in
    subst (λ z. CodeBegins z contents) (same_bytes left left' run later run' later' size size' skips skips' (ap (λ s. s.1) same.0) same.1) on

no_skip : (bytes left contents : List ℕ) (id size : ℕ) → section_at bytes ≡ Ok ((id, size), left) → (id ≡ 10 → ⊥) → IsErr (bytes_at size left) → CodeBegins bytes contents → ⊥
no_skip bytes left contents id size at other cut (here size' at') = other (ap (λ s. s.0) (same_section bytes left contents (id, size) (10, size') at at').0)
no_skip bytes left contents id size at other cut (behind id' size' left' run' later' at' other' skips' on) =
    let same = same_section bytes left left' (id, size) (id', size') at at' in
    no_err (bytes_at size left) (run', later') (ap (λ n. bytes_at n left) (ap (λ s. s.1) same.0) ∙ ap (bytes_at size') same.1 ∙ skips') cut

pub begins : (sections : List ℕ) (r : Cursor) → r.window.bytes ≡ sections → r.position ≡ 0 → Same sections (rest r)
begins sections r bytes front contents =
    let all : rest r ≡ sections = ap (λ n. drop n r.window.bytes) front ∙ bytes in
    (subst (λ z. CodeBegins z contents) (sym all), subst (λ z. CodeBegins z contents) all)

module _ (sections bytes left : List ℕ) (id size : ℕ) (same : Same sections bytes) where
  pub found : (count : ℕ) → section_at bytes ≡ Ok ((id, size), left) → id ≡ 10 → count ≡ length left → (contents : List ℕ) × CodeBegins sections contents × (count ≡ length contents)
  found count at is counted = (left, (same left).1 (here size (subst (λ n. section_at bytes ≡ Ok ((n, size), left)) is at)), counted)

  pub passed : (run later : List ℕ) → section_at bytes ≡ Ok ((id, size), left) → (id ≡ 10 → ⊥) → bytes_at size left ≡ Ok (run, later) → Same sections later
  passed run later at other skips contents = (
    λ h. only_on bytes left run later contents id size at other skips ((same contents).0 h),
    λ h. (same contents).1 (behind id size left run later at other skips h),
  )

  pub cut_off : section_at bytes ≡ Ok ((id, size), left) → (id ≡ 10 → ⊥) → IsErr (bytes_at size left) → (contents : List ℕ) → CodeBegins sections contents → ⊥
  cut_off at other cut contents h = no_skip bytes left contents id size at other cut ((same contents).0 h)

pub ended : (sections bytes : List ℕ) → Same sections bytes → IsErr (section_at bytes) → (contents : List ℕ) → CodeBegins sections contents → ⊥
ended sections bytes same cut contents h = no_section bytes contents cut ((same contents).0 h)

-- ---- the header
pub none_in_file : (file sections : List ℕ) → file ≡ header ++ sections → ((contents : List ℕ) → CodeBegins sections contents → ⊥) → (contents : List ℕ) → IsCodeOf file contents → ⊥
none_in_file file sections is none contents (other, is', begins) = none contents (subst (λ z. CodeBegins z contents) (ap (drop 8) (sym is' ∙ is)) begins)
