-- Lemmas: sections that pass a test, one list behind another.
use Rattle.std.specs.Prelude.{ℕ, ◌≡◌, ◌++◌, Bool, true, false, not, List, [], ◌∷◌, filter, map, if◌then◌else◌, refl}
use Rattle.std.proofs.Common.{ap, sym, ◌∙◌, subst}
use Rattle.std.proofs.lemmas.List.{append-nil, append_assoc}
use Rattle.wasm_features.specs.declared.WasmFeatures.{WasmFeatures}
use Rattle.wasm_grammar.specs.Modules.{Custom}
use Rattle.wasm_grammar.specs.States.{nothing_yet}
use Rattle.wasm_name_payloads.specs.Names.{section_name}
use Rattle.wasm_name_payloads.specs.Producers.{Field, processed, producers_of, section_name as producers_name}
use Rattle.wasm_name_payloads.specs.Written.{payload_bytes, producers_bytes}
use Rattle.wasm_section_bytes.specs.Files.{entry_bytes}
use Rattle.wasm_canonical.specs.Canonical.{is_linking}
use Rattle.wasm_canonical.specs.Due.{custom_due, items_in}
use Rattle.wasm_rewritten.specs.Customs.{names_kept, section_if, section_of, stays}
use Rattle.walrus_customs.specs.Producers.{fields_of}
use Rattle.walrus_payload_writers.specs.Producers.{producers_section}
use Rattle.walrus_payload_writers.specs.Sections.{names_section}
use Rattle.walrus_emit_parts.specs.Due.{Due, written}
use Rattle.walrus_emit.specs.Whole.{if_asked}
use Rattle.walrus_due_laws.specs.Spelled.{SpelledAs, spelled}
use Rattle.walrus_due_laws.proofs.Parts.{both, plain, turned}
use Rattle.walrus_customs_laws.specs.Parted.{CustomsAreParted, PayloadsAreSpelled, payload_sections}
use Rattle.walrus_customs_laws.specs.Payloads.{NamesAreSpelled, ProducersAreSpelled}

-- ---- filters

module _ (test : Custom → Bool) where
  pass_by : (c : Custom) (xs ys : List Custom) (b : Bool) → (if b then c ∷ (xs ++ ys) else (xs ++ ys)) ≡ (if b then c ∷ xs else xs) ++ ys
  pass_by c xs ys true = refl
  pass_by c xs ys false = refl

  pass_both : (xs ys : List Custom) → filter test (xs ++ ys) ≡ filter test xs ++ filter test ys
  pass_both [] ys = refl
  pass_both (c ∷ xs) ys = ap (λ (l : List Custom). if test c then c ∷ l else l) (pass_both xs ys) ∙ pass_by c (filter test xs) (filter test ys) (test c)

  again_by : (c : Custom) (xs : List Custom) (b : Bool) → test c ≡ b → filter test xs ≡ xs → filter test (if b then c ∷ xs else xs) ≡ (if b then c ∷ xs else xs)
  again_by c xs true e h = ap (λ (b : Bool). if b then c ∷ filter test xs else filter test xs) e ∙ ap (λ (l : List Custom). c ∷ l) h
  again_by c xs false e h = h

  pass_again : (xs : List Custom) → filter test (filter test xs) ≡ filter test xs
  pass_again [] = refl
  pass_again (c ∷ xs) = again_by c (filter test xs) (test c) refl (pass_again xs)

  none_by : (c : Custom) (xs : List Custom) (b : Bool) → test c ≡ b → filter test xs ≡ [] → filter test (if not b then c ∷ xs else xs) ≡ []
  none_by c xs true e h = h
  none_by c xs false e h = ap (λ (b : Bool). if b then c ∷ filter test xs else filter test xs) e ∙ h

  none_pass : (xs : List Custom) → filter test (filter (λ c. not (test c)) xs) ≡ []
  none_pass [] = refl
  none_pass (c ∷ xs) = none_by c (filter (λ c. not (test c)) xs) (test c) refl (none_pass xs)

  not_by : (c : Custom) (xs : List Custom) (b : Bool) → test c ≡ b → filter (λ c. not (test c)) xs ≡ [] → filter (λ c. not (test c)) (if b then c ∷ xs else xs) ≡ []
  not_by c xs true e h = ap (λ (b : Bool). if not b then c ∷ filter (λ c. not (test c)) xs else filter (λ c. not (test c)) xs) e ∙ h
  not_by c xs false e h = h

  not_pass : (xs : List Custom) → filter (λ c. not (test c)) (filter test xs) ≡ []
  not_pass [] = refl
  not_pass (c ∷ xs) = not_by c (filter test xs) (test c) refl (not_pass xs)

others : Custom → Bool
others c = not (is_linking c)

-- a payload isn't one of dynamic linking
module _ (bytes : List ℕ) where
  names_not : (b : Bool) → filter is_linking (section_if b (section_of section_name bytes)) ≡ []
  names_not false = refl
  names_not true = go bytes
    where
      go : (bytes : List ℕ) → filter is_linking (section_of section_name bytes) ≡ []
      go [] = refl
      go (x ∷ bytes) = refl

  names_stay : (b : Bool) → filter (λ c. not (is_linking c)) (section_if b (section_of section_name bytes)) ≡ section_if b (section_of section_name bytes)
  names_stay false = refl
  names_stay true = go bytes
    where
      go : (bytes : List ℕ) → filter (λ c. not (is_linking c)) (section_of section_name bytes) ≡ section_of section_name bytes
      go [] = refl
      go (x ∷ bytes) = refl

  producers_not : (b : Bool) → filter is_linking (section_if b (section_of producers_name bytes)) ≡ []
  producers_not false = refl
  producers_not true = go bytes
    where
      go : (bytes : List ℕ) → filter is_linking (section_of producers_name bytes) ≡ []
      go [] = refl
      go (x ∷ bytes) = refl

  producers_stay : (b : Bool) → filter (λ c. not (is_linking c)) (section_if b (section_of producers_name bytes)) ≡ section_if b (section_of producers_name bytes)
  producers_stay false = refl
  producers_stay true = go bytes
    where
      go : (bytes : List ℕ) → filter (λ c. not (is_linking c)) (section_of producers_name bytes) ≡ section_of producers_name bytes
      go [] = refl
      go (x ∷ bytes) = refl

-- four lists, one behind another
four : (test : Custom → Bool) (a b c d w x y z : List Custom) → filter test a ≡ w → filter test b ≡ x → filter test c ≡ y → filter test d ≡ z → filter test (a ++ (b ++ (c ++ d))) ≡ w ++ (x ++ (y ++ z))
four test a b c d w x y z e f g h =
    pass_both test a (b ++ (c ++ d)) ∙ ap (λ (l : List Custom). filter test a ++ l) (pass_both test b (c ++ d) ∙ ap (λ (l : List Custom). filter test b ++ l) (pass_both test c d))
    ∙ (λ i. e i ++ (f i ++ (g i ++ h i)))

pub customs_parted : CustomsAreParted
customs_parted names producers features file p =
    let all : List Custom = filter stays (items_in file.customs) in
    let n : List ℕ = payload_bytes (names_kept features file p) in
    let m : List ℕ = producers_bytes (processed (producers_of file)) in record {
      first =
          four is_linking (filter is_linking all) (section_if names (section_of section_name n)) (section_if producers (section_of producers_name m)) (filter (λ c. not (is_linking c)) all)
          (filter is_linking all) [] [] [] (pass_again is_linking all) (names_not n names) (producers_not m producers) (none_pass is_linking all)
          ∙ append-nil (filter is_linking all);
      last =
          four (λ c. not (is_linking c)) (filter is_linking all) (section_if names (section_of section_name n)) (section_if producers (section_of producers_name m)) (filter (λ c. not (is_linking c)) all)
          [] (section_if names (section_of section_name n)) (section_if producers (section_of producers_name m)) (filter (λ c. not (is_linking c)) all)
          (not_pass is_linking all) (names_stay n names) (producers_stay m producers) (pass_again (λ c. not (is_linking c)) all)
          ∙ sym (append_assoc (section_if names (section_of section_name n)) (section_if producers (section_of producers_name m)) (filter (λ c. not (is_linking c)) all));
    }

-- ---- what is due

module _ (features : WasmFeatures) where
  abbrev bytes_of : List Custom → List ℕ
  bytes_of cs = spelled features (map custom_due cs)

  joined : (xs ys : List Custom) → bytes_of xs ++ bytes_of ys ≡ bytes_of (xs ++ ys)
  joined [] ys = refl
  joined (c ∷ xs) ys = append_assoc (entry_bytes features nothing_yet (custom_due c)) (bytes_of xs) (bytes_of ys) ∙ ap (λ (l : List ℕ). entry_bytes features nothing_yet (custom_due c) ++ l) (joined xs ys)

  asked : (b : Bool) (due : Due) (cs : List Custom) → (b ≡ true → SpelledAs due (bytes_of cs)) → SpelledAs (if_asked b due) (bytes_of (section_if b cs))
  asked true due cs h = h refl
  asked false due cs h = plain []

pub payloads_spelled : (B : Type 0) → NamesAreSpelled → ProducersAreSpelled → PayloadsAreSpelled B
payloads_spelled B names_so producers_so features input n fields same names_fit producers_fit =
    let names = input.config.generate_name_section in
    let producers = input.config.generate_producers_section in
    let ns : List Custom = section_of section_name (payload_bytes n) in
    let ps : List Custom = section_of producers_name (producers_bytes (processed fields)) in
    let due : Due = written (producers_section (fields_of input.producers)) in
    let told : producers ≡ true → SpelledAs due (bytes_of features ps) =
    λ e. subst (λ (l : List Field). SpelledAs (written (producers_section l)) (bytes_of features ps)) (sym same) (producers_so features fields (producers_fit e)) in
    turned (if_asked names (written (names_section n)) ++ if_asked producers due) (bytes_of features (section_if names ns) ++ bytes_of features (section_if producers ps))
    (bytes_of features (payload_sections names producers n (processed fields))) (joined features (section_if names ns) (section_if producers ps))
    (both (if_asked names (written (names_section n))) (if_asked producers due) (bytes_of features (section_if names ns)) (bytes_of features (section_if producers ps))
    (asked features names (written (names_section n)) ns (λ e. names_so features n (names_fit e))) (asked features producers due ps told))
