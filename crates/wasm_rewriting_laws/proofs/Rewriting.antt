-- Lemmas: what is written of a file is told by it.
use Rattle.std.specs.Prelude.{ℕ, ◌≡◌, ◌<◌, Bool, true, List, [], map, MatchOption, Option, Some, None, slice_get, refl}
use Rattle.std.proofs.Common.{ap, sym, ◌∙◌, subst, arith}
use Rattle.std.proofs.lemmas.Option.{get_or_from_slice_get, slice_get_within}
use Rattle.walrus_types.proofs.Places.{Has, contains_has, pairs_of}
use Rattle.wasm_features.specs.declared.WasmFeatures.{WasmFeatures}
use Rattle.wasm_formats.specs.Formats.{Small}
use Rattle.wasm_operators.specs.Items.{Functions}
use Rattle.wasm_grammar.specs.Modules.{Custom, Module}
use Rattle.wasm_modules.specs.Laws.{ReadsOnce}
use Rattle.wasm_sections.specs.Modules.{state_of}
use Rattle.wasm_modules.specs.Modules.{IsShort, Reads, module_of}
use Rattle.wasm_module_bytes.specs.Bytes.{ModulesHaveShortest, without_places}
use Rattle.wasm_merged_modules.specs.Merged.{merged_module}
use Rattle.wasm_part.specs.Handlers.{HandlersAreMissing, handler_groups, lacking}
use Rattle.wasm_part.specs.Part.{Plan, part}
use Rattle.wasm_canonical.specs.Canonical.{bytes_due}
use Rattle.wasm_rewritten.specs.Customs.{customs_written}
use Rattle.wasm_rewritten.specs.Orderly.{ReadFilesAreOrderly}
use Rattle.wasm_rewritten.specs.Places.{ArePlaces, HasOperator, IsTruePair}
use Rattle.wasm_rewritten.specs.Rewritten.{Rewritten}
use Rattle.wasm_rewritten.specs.Ruled.{FilesNameTheirLocals}
use Rattle.wasm_rewritten.specs.Runs.{ReadFilesAreAsked}
use Rattle.wasm_rewriting_laws.specs.Rewriting.{AlikeAreRewrittenAlike, DifferInPadding, PaddingIsDropped, ReadAlike, RewritingIsTold}
use Rattle.wasm_rewriting_laws.specs.Told.{AreAlike, IsPlanOf, NamesAll, PlanIsTold}
use Rattle.wasm_rewriting_laws.proofs.Customs.{customs_so, customs_stay}
use Rattle.wasm_rewriting_laws.proofs.Lists.{one_sorted}
use Rattle.wasm_rewriting_laws.proofs.Placeless.{handlers_stay, merged_stays, part_stays}
use Rattle.wasm_rewriting_laws.proofs.Unplaced.{names_unplaced, plan_unplaced}

-- ---- pairs of places

module _ (none : ℕ) (m n : Module) (p q : Plan) (alike : AreAlike p q) where
  pair_goes : (old new : ℕ) → IsTruePair none m n p old new → IsTruePair none m n q old new
  pair_goes old new h =
      let number = alike.numbers Functions h.f tt h.kept in
      record {
        f = h.f;
        i = h.i;
        source = h.source;
        target = h.target;
        kept = ap (λ (l : List ℕ). slice_get l (q.renames Functions h.f)) (sym (alike.listed Functions tt)) ∙ ap (λ (k : ℕ). slice_get (p.listed Functions) k) (sym number) ∙ h.kept;
        carries = h.carries;
        from = h.from;
        some = h.some;
        stands = subst (λ (k : ℕ). HasOperator n k h.i h.target) number h.stands;
        to = h.to;
      }

  pair_of : (r : Plan) (ps : List (ℕ × ℕ)) → ArePlaces none m n r ps → (x : ℕ × ℕ) → Has ps x → IsTruePair none m n r x.0 x.1
  pair_of r ps a x h =
      subst (λ (y : ℕ × ℕ). IsTruePair none m n r y.0 y.1) (get_or_from_slice_get ps h.0 x x h.1) (a.true_pairs h.0 x (slice_get_within ps h.0 x h.1))

abbrev IsEarlier : ℕ × ℕ → ℕ × ℕ → Type 0
IsEarlier q r = q.1 < r.1

earlier_apart : (a b : ℕ × ℕ) → IsEarlier a b → IsEarlier b a → ⊥
earlier_apart a b x y = omega (arith, x, y)

places_told : (none : ℕ) (m n : Module) (p q : Plan) → AreAlike p q → AreAlike q p → (ps qs : List (ℕ × ℕ)) → ArePlaces none m n p ps → ArePlaces none m n q qs → ps ≡ qs
places_told none m n p q to back ps qs a b =
    one_sorted IsEarlier earlier_apart ps qs
    (λ x h. contains_has qs x (b.whole x.0 x.1 (pair_goes none m n p q to x.0 x.1 (pair_of none m n p q to p ps a x h))))
    (λ x h. contains_has ps x (a.whole x.0 x.1 (pair_goes none m n q p back x.0 x.1 (pair_of none m n p q to q qs b x h))))
    (pairs_of IsEarlier ps a.rising) (pairs_of IsEarlier qs b.rising)

-- ---- modules

module _ (missing : HandlersAreMissing) (asked : ReadFilesAreAsked) (orderly : ReadFilesAreOrderly) (locals : FilesNameTheirLocals) (told : PlanIsTold) (place : Option ℕ → ℕ) (features : WasmFeatures) where
  -- the module of which a part is written
  abbrev source : Module → Module
  source file = merged_module place features true (handler_groups file) file

  names_all : (bytes : List ℕ) (file : Module) → Reads features bytes file → NamesAll features (source file)
  names_all bytes file reads =
      let rules = asked features bytes file (handler_groups file) reads (lacking file, missing features bytes file reads, refl) in
      record {
        linked = (orderly place features bytes (handler_groups file) file reads).0.linked;
        locals = λ n f at. locals place features (handler_groups file) file rules.0 rules.1 n f at;
      }

  sources_alike : (file other : Module) → without_places file ≡ without_places other → without_places (source file) ≡ without_places (source other)
  sources_alike file other same =
      let more : handler_groups file ≡ handler_groups other = sym (handlers_stay file) ∙ ap handler_groups same ∙ handlers_stay other in
      sym (merged_stays place features (handler_groups file) file)
      ∙ (λ i. without_places (merged_module place features true (more i) (same i)))
      ∙ merged_stays place features (handler_groups other) other

  module _ (names producers keep : Bool) (a b bytes others : List ℕ) (places pairs : Option (List (ℕ × ℕ))) (first : Rewritten place names producers keep features a bytes places)
      (second : Rewritten place names producers keep features b others pairs) (same : without_places first.file ≡ without_places second.file) where
    abbrev m : Module
    m = without_places (source first.file)

    sources : without_places (source first.file) ≡ without_places (source second.file)
    sources = sources_alike first.file second.file same

    named : NamesAll features m
    named = names_unplaced features (source first.file) (names_all a first.file first.reads)

    first_plan : IsPlanOf features m keep [] first.t first.p
    first_plan = plan_unplaced features (source first.file) keep [] first.t first.p (record { writes = first.stands.writes; ordered = first.stands.ordered; declared = first.stands.declared })

    second_plan : IsPlanOf features m keep [] second.t second.p
    second_plan =
        subst (λ (n : Module). IsPlanOf features n keep [] second.t second.p) (sym sources)
        (plan_unplaced features (source second.file) keep [] second.t second.p (record { writes = second.stands.writes; ordered = second.stands.ordered; declared = second.stands.declared }))

    alike : AreAlike first.p second.p
    alike = (told features m keep [] first.t second.t first.p second.p named first_plan second_plan).0

    back : AreAlike second.p first.p
    back = (told features m keep [] second.t first.t second.p first.p named second_plan first_plan).0

    parts : without_places (part first.p (source first.file)) ≡ without_places (part second.p (source second.file))
    parts =
        sym (part_stays first.p (source first.file))
        ∙ ap without_places ((told features m keep [] first.t second.t first.p second.p named first_plan second_plan).1)
        ∙ ap (λ (n : Module). without_places (part second.p n)) sources ∙ part_stays second.p (source second.file)

    sections : customs_written names producers features first.file first.p ≡ customs_written names producers features second.file second.p
    sections =
        sym (customs_stay features first.file names producers first.p)
        ∙ ap (λ (file : Module). customs_written names producers features file first.p) same
        ∙ customs_stay features second.file names producers first.p
        ∙ customs_so features second.file first.p second.p alike names producers

    customs : first.n.customs ≡ second.n.customs
    customs = first.customs_are ∙ ap (λ (cs : List Custom). map (λ (c : Custom). Some c) cs) sections ∙ sym second.customs_are

    written : without_places first.n ≡ without_places second.n
    written = first.stands.whole ∙ (λ i. record (parts i) { customs = customs i }) ∙ sym second.stands.whole

    same_bytes : bytes ≡ others
    same_bytes = first.canonical ∙ ap (bytes_due features) written ∙ sym second.canonical

pub alike_rewritten : HandlersAreMissing → ReadFilesAreAsked → ReadFilesAreOrderly → FilesNameTheirLocals → ReadsOnce → PlanIsTold → AlikeAreRewrittenAlike
alike_rewritten missing asked orderly locals once told place names producers keep features a b bytes others places pairs alike first second =
    let one : first.file ≡ alike.0 = once features a first.file alike.0 first.reads alike.2 in
    let two : alike.1 ≡ second.file = once features b alike.1 second.file alike.3 second.reads in
    same_bytes missing asked orderly locals told place features names producers keep a b bytes others places pairs first second (ap without_places one ∙ alike.4 ∙ ap without_places two)

-- inputs with one shortest spelling read alike
padded_alike : ModulesHaveShortest → ReadsOnce → (features : WasmFeatures) (a b : List ℕ) → Small a → Small b → IsShort a → IsShort b → DifferInPadding features a b → ReadAlike features a b
padded_alike shortest once features a b small_a small_b short_a short_b d =
    let x = d.1 in
    let y = d.2 in
    let p = shortest features a x.sections x.bodies small_a short_a x.spelled x.ruled x.read in
    let q = shortest features b y.sections y.bodies small_b short_b y.spelled y.ruled y.read in
    let same : p.0 ≡ q.0 = once features d.0 p.0 q.0 (subst (λ (l : List ℕ). Reads features l p.0) (sym x.is) p.1) (subst (λ (l : List ℕ). Reads features l q.0) (sym y.is) q.1) in (
      module_of (state_of x.sections) x.bodies,
      module_of (state_of y.sections) y.bodies,
      (short_a, (state_of x.sections, x.bodies, (x.sections, (x.spelled, x.ruled), refl), x.read, refl)),
      (short_b, (state_of y.sections, y.bodies, (y.sections, (y.spelled, y.ruled), refl), y.read, refl)),
      sym p.2 ∙ ap without_places same ∙ q.2,
    )

pub padding_dropped : ModulesHaveShortest → ReadsOnce → AlikeAreRewrittenAlike → PaddingIsDropped
padding_dropped shortest once alike place names producers keep features a b bytes others places pairs small_a small_b d first second =
    alike place names producers keep features a b bytes others places pairs (padded_alike shortest once features a b small_a small_b first.reads.0 second.reads.0 d) first second

pub rewriting_told : HandlersAreMissing → ReadFilesAreAsked → ReadFilesAreOrderly → FilesNameTheirLocals → ReadsOnce → PlanIsTold → RewritingIsTold
rewriting_told missing asked orderly locals once told place names producers keep features input bytes others places pairs first second = (same, pairs_same)
  where
    file : first.file ≡ second.file
    file = once features input first.file second.file first.reads second.reads

    same : bytes ≡ others
    same = same_bytes missing asked orderly locals told place features names producers keep input input bytes others places pairs first second (ap without_places file)

    n : first.n ≡ second.n
    n = once features bytes first.n second.n first.reads_again (subst (λ (b : List ℕ). Reads features b second.n) (sym same) second.reads_again)

    pairs_same : (ps qs : List (ℕ × ℕ)) → places ≡ Some ps → pairs ≡ Some qs → ps ≡ qs
    pairs_same ps qs is are =
        let m = source missing asked orderly locals told place features second.file in
        let old : ArePlaces (place None) (source missing asked orderly locals told place features first.file) first.n first.p ps =
        subst (λ (o : Option (List (ℕ × ℕ))). MatchOption o (Unit {0}) (λ ps. ArePlaces (place None) (merged_module place features true (handler_groups first.file) first.file) first.n first.p ps)) is first.pairs in
        let new : ArePlaces (place None) m second.n second.p qs =
        subst (λ (o : Option (List (ℕ × ℕ))). MatchOption o (Unit {0}) (λ ps. ArePlaces (place None) (merged_module place features true (handler_groups second.file) second.file) second.n second.p ps)) are second.pairs in
        let moved : ArePlaces (place None) m second.n first.p ps =
        subst (λ (k : Module). ArePlaces (place None) m k first.p ps) n (subst (λ (f : Module). ArePlaces (place None) (source missing asked orderly locals told place features f) first.n first.p ps) file old) in
        places_told (place None) m second.n first.p second.p
        (alike missing asked orderly locals told place features names producers keep input input bytes others places pairs first second (ap without_places file))
        (back missing asked orderly locals told place features names producers keep input input bytes others places pairs first second (ap without_places file)) ps qs moved new
