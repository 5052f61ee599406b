-- What the first custom sections say, and one more.
use Rattle.std.proofs.Common.{◌≡◌, ◌∙◌, ◌+◌, ◌<◌, ◌++◌, ℕ, List, [], ◌∷◌, Option, Some, length, take, slice_index_or, ap, sym}
use Rattle.std.specs.List.{flat_map}
use Rattle.std.proofs.lemmas.List.{take_more, map-append, append-nil}
use Rattle.walrus_payload_readers.specs.wasm_name_payloads.Joined.{flat_map_append}
use Rattle.walrus_known_sections.specs.Items.{custom_of}
use Rattle.walrus_known_sections.specs.declared.items.Custom.{Custom}
use Rattle.wasm_body_grammar.specs.wasm_grammar.Modules.{Custom as Read}
use Rattle.walrus_payloads_into.specs.Customs.{customs_of}

one_more : {Z : Type 0} (f : Option Read → List Z) (customs : List Custom) (i : ℕ) (now : Custom) → i < length customs
    → flat_map f (customs_of (take (i + 1) customs)) ≡ flat_map f (customs_of (take i customs)) ++ f (Some (custom_of (slice_index_or customs i now)))
one_more {Z} f customs i now lt =
    let last = slice_index_or customs i now in
    ap (λ (l : List Custom). flat_map f (customs_of l)) (take_more customs i now lt)
    ∙ ap (flat_map f) (map-append (λ (c : Custom). Some (custom_of c)) (take i customs) (last ∷ []))
    ∙ flat_map_append f (customs_of (take i customs)) (Some (custom_of last) ∷ [])
    ∙ ap (λ (l : List Z). flat_map f (customs_of (take i customs)) ++ l) (append-nil (f (Some (custom_of last))))

pub next : {Z : Type 0} (f : Option Read → List Z) (customs : List Custom) (i : ℕ) (other now : Custom) (before after : List Z) → now ≡ slice_index_or customs i other → i < length customs
    → before ≡ flat_map f (customs_of (take i customs)) → after ≡ before ++ f (Some (custom_of now)) → after ≡ flat_map f (customs_of (take (i + 1) customs))
next {Z} f customs i other now before after is lt had more =
    more
    ∙ ap (λ (l : List Z). l ++ f (Some (custom_of now))) had
    ∙ ap (λ (c : Custom). flat_map f (customs_of (take i customs)) ++ f (Some (custom_of c))) is
    ∙ sym (one_more f customs i other lt)
