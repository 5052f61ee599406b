-- The section `name`, subsection by subsection.
use Rattle.std.specs.Prelude.{ℕ, zero, suc, ◌+◌, ◌≡◌, ◌<◌, ◌≤◌, List, [], ◌∷◌, ◌++◌, length, take, slice_index_or}
use Rattle.std.specs.List.{flat_map}
use Rattle.std.proofs.Common.{ap, sym, ◌∙◌, arith}
use Rattle.std.proofs.lemmas.List.{append_assoc, append-nil}
use Rattle.wasm_formats.specs.declared.fault.Space.{Space}
use Rattle.wasm_name_payloads.specs.Names.{section_name}
use Rattle.wasm_name_payloads.specs.Written.{NameMap, item_part}
use Rattle.walrus_errors.specs.declared.error.ModuleError.{ModuleError}
use Rattle.walrus_payload_writers.specs.Writes.{Refused}
use Rattle.walrus_payload_writers.specs.Sections.{items_of, later_parts, section_of}
use Rattle.walrus_payload_writers.specs.declared.names.Names.{Names}
use Rattle.walrus_payload_writers.proofs.Lemmas.{refused_inside, custom_back}

next_is : {X : Type 0} (f : X → List ℕ) (xs : List X) (i : ℕ) (other : X) → i < length xs → flat_map f (take (suc i) xs) ≡ flat_map f (take i xs) ++ f (slice_index_or xs i other)
next_is f [] i other lt = absurd (omega (arith, lt))
next_is f (x ∷ xs) zero other lt = append-nil (f x)
next_is f (x ∷ xs) (suc i) other lt =
    ap (λ (l : List ℕ). f x ++ l) (next_is f xs i other (omega (arith, lt))) ∙ sym (append_assoc (f x) (flat_map f (take i xs)) (f (slice_index_or xs i other)))

-- one more subsection
pub later_on : (n : Names) (list : List Space) (i : ℕ) (other : Space) (old mid new : List ℕ) (entries : NameMap) → i < length list → mid ≡ old ++ later_parts n (take i list)
    → entries ≡ items_of n (slice_index_or list i other) → new ≡ mid ++ item_part (slice_index_or list i other) entries → new ≡ old ++ later_parts n (take (i + 1) list)
later_on n list i other old mid new entries lt so same h =
    let one : i + 1 ≡ suc i = omega arith in
    let now = slice_index_or list i other in
    let parts : Space → List ℕ = λ space. item_part space (items_of n space) in
    rw one (h ∙ ap (λ (l : NameMap). mid ++ item_part now l) same ∙ ap (λ (l : List ℕ). l ++ parts now) so ∙ append_assoc old (later_parts n (take i list)) (parts now)
    ∙ ap (λ (l : List ℕ). old ++ l) (sym (next_is parts list i other lt)))

longer : (payload : List ℕ) → length payload ≤ length (section_of payload)
longer [] = omega arith
longer (b ∷ payload) = custom_back section_name (b ∷ payload)

-- the payload is refused
pub payload_refused : (payload old inner : List ℕ) (e : ModuleError) → Refused payload [] inner e → Refused (section_of payload) old old e
payload_refused payload old inner e h = refused_inside payload (section_of payload) old inner e h (longer payload)
