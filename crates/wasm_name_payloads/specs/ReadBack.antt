-- Lemmas: names and producers that were written are read back.
use Rattle.std.specs.Prelude.{ℕ, ◌<◌, ◌≡◌, ◌^◌, nat_lt, List, [], ◌∷◌, ◌++◌, length, Option, Some, None, refl}
use Rattle.std.specs.List.{flat_map}
use Rattle.std.proofs.Common.{ap, sym, ◌∙◌, subst, arith}
use Rattle.std.proofs.lemmas.Bool.{lt-ltb}
use Rattle.std.proofs.lemmas.List.{append_assoc, append-nil}
use Rattle.wasm_reader.specs.Numbers.{unsigned, Spells}
use Rattle.wasm_reader.specs.Shortest.{u32_bytes}
use Rattle.wasm_reader.specs.Spelled.{IsShortest-unsigned}
use Rattle.wasm_reader.specs.Text.{SpellsText}
use Rattle.wasm_formats.specs.declared.fault.Space.{Space}
use Rattle.wasm_formats.specs.declared.fault.Space.TheVariants as spaces
use Rattle.wasm_formats.specs.Stops.{Index}
use Rattle.wasm_formats.specs.Formats.{Format}
use Rattle.wasm_formats.specs.Lists.{SpellsEntries, EntryRules, vec}
use Rattle.wasm_body_grammar.specs.wasm_grammar.Modules.{Module}
use Rattle.wasm_body_grammar.specs.wasm_grammar.Values.{must}
use Rattle.wasm_body_grammar.specs.wasm_grammar.States.{count_of}
use Rattle.wasm_name_payloads.specs.Keepers.{Behind, Kept, kept, Keeper, one}
use Rattle.wasm_name_payloads.specs.Joined.{times, led, flat_map_append}
use Rattle.wasm_name_payloads.specs.Windows.{SpellsParts, total_again}
use Rattle.wasm_name_payloads.specs.Names.{Given, Bearer, ALocal, Part, ItemNames, association, counted, named_below, name_map, local_count, local_names, known_function, part_of, item_in, contents, subsection, takes_some, names_in, space_number}
use Rattle.wasm_name_payloads.specs.Producers.{Value, Field, value, field, fields, producers_in}
use Rattle.wasm_name_payloads.specs.Written

-- a u32
u32_spelled : (n : ℕ) → n < 2 ^ 32 → Spells unsigned 32 (u32_bytes n) n
u32_spelled n below = (IsShortest-unsigned 5 32 n (omega arith) (omega arith) below).spells

name_spelled : (name : List ℕ) → Written.FitsName name → SpellsText (Written.name_bytes name) name
name_spelled name fits = record { size = u32_bytes (length name); spells = u32_spelled (length name) fits.0; utf8 = fits.1; joined = refl }

-- ---- vecs

times_spelled : {A X : Type 0} (k : Keeper A) (bytes : X → List ℕ) (items : X → List A) (fits : X → Type 0) → ((x : X) → fits x → k.spells (bytes x) (items x))
    → (xs : List X) → Written.AllFit fits xs → (times k (length xs)).spells (flat_map bytes xs) (flat_map items xs)
times_spelled k bytes items fits spelled [] h = (refl, refl)
times_spelled k bytes items fits spelled (x ∷ xs) h =
    (items x, flat_map items xs, bytes x, flat_map bytes xs, refl, refl, spelled x h.0, times_spelled k bytes items fits spelled xs h.1)

counted_spelled : {A X : Type 0} (k : Keeper A) (bytes : X → List ℕ) (items : X → List A) (fits : X → Type 0) → ((x : X) → fits x → k.spells (bytes x) (items x))
    → (xs : List X) → Written.FitsVec fits xs → (counted k).spells (Written.vec_bytes bytes xs) (flat_map items xs)
counted_spelled k bytes items fits spelled xs h =
    (length xs, u32_bytes (length xs), flat_map bytes xs, refl, (u32_spelled (length xs) h.0, tt), times_spelled k bytes items fits spelled xs h.1)

singles : {A : Type 0} (xs : List A) → flat_map (λ x. x ∷ []) xs ≡ xs
singles [] = refl
singles {A} (x ∷ xs) = ap (λ (l : List A). x ∷ l) (singles xs)

-- a vec of values of a format
listed_spelled : {A : Type 0} (f : Format A) (bytes : A → List ℕ) (fits : A → Type 0) → ((x : A) → fits x → f.spells (bytes x) x × f.rules x)
    → (xs : List A) → Written.FitsVec fits xs → (counted (one f)).spells (Written.vec_bytes bytes xs) xs
listed_spelled f bytes fits spelled xs h =
    subst (λ (l : List _). (counted (one f)).spells (Written.vec_bytes bytes xs) l) (singles xs)
    (counted_spelled (one f) bytes (λ x. x ∷ []) fits (λ x p. let s = spelled x p in (x, refl, s.0, s.1)) xs h)

-- ---- names

map_spelled : (count : ℕ) (bearer : ℕ → Bearer) (entries : Written.NameMap) → Written.FitsMap entries
    → (name_map count bearer).spells (Written.map_bytes entries) (flat_map (named_below count bearer) entries)
map_spelled count bearer entries fits = (
  entries,
  refl,
  listed_spelled association Written.association_bytes (λ (e : ℕ × List ℕ). (e.0 < 2 ^ 32) × Written.FitsName e.1)
      (λ e p. ((u32_bytes e.0, Written.name_bytes e.1, refl, u32_spelled e.0 p.0, name_spelled e.1 p.1), (tt, tt))) entries fits,
)

module _ (m : Module) where
  -- the bytes are subsections that give these names
  abbrev Gives : List ℕ → List Given → Type 0
  Gives bytes items = (parts : List (List Given)) × SpellsParts (subsection m) (takes_some m) bytes parts × (flat_map (λ xs. xs) parts ≡ items)

  gives_none : Gives [] []
  gives_none = ([], refl, refl)

  parts_join : (xs ys : List (List Given)) (a b : List ℕ) → SpellsParts (subsection m) (takes_some m) a xs → SpellsParts (subsection m) (takes_some m) b ys
      → SpellsParts (subsection m) (takes_some m) (a ++ b) (xs ++ ys)
  parts_join [] ys a b h k = rw h k
  parts_join (x ∷ xs) ys a b h k = (h.0, h.1 ++ b, ap (λ (l : List ℕ). l ++ b) h.2 ∙ append_assoc h.0 h.1 b, h.3, parts_join xs ys h.1 b h.4 k)

  gives_join : (a b : List ℕ) (xs ys : List Given) → Gives a xs → Gives b ys → Gives (a ++ b) (xs ++ ys)
  gives_join a b xs ys h k =
      (h.0 ++ k.0, parts_join h.0 k.0 a b h.1 k.1, flat_map_append (λ xs. xs) h.0 k.0 ∙ ap (λ (l : List Given). l ++ flat_map (λ xs. xs) k.0) h.2 ∙ ap (λ (l : List Given). xs ++ l) k.2)

  -- a subsection
  gives_part : (id : ℕ) (bytes : List ℕ) (items : List Given) → id < 256 → length bytes < 2 ^ 32 → (contents m (part_of id) (length bytes)).spells bytes items → Gives (Written.part_bytes id bytes) items
  gives_part id bytes items small fits h = (
    items ∷ [],
    (
      Written.part_bytes id bytes,
      [],
      sym (append-nil (Written.part_bytes id bytes)),
      (
        (id, length bytes),
        id ∷ u32_bytes (length bytes),
        bytes,
        refl,
        ((id ∷ [], u32_bytes (length bytes), refl, (refl, small), u32_spelled (length bytes) fits), (tt, tt)),
        h,
      ),
      refl,
    ),
    append-nil items,
  )

  gives_own : (own : Option (List ℕ)) → Written.FitsOwn own → Gives (Written.own_part own) (Written.own_given own)
  gives_own None fits = gives_none
  gives_own (Some name) fits =
      gives_part 0 (Written.name_bytes name) (Written.own_given (Some name)) (omega arith) fits.1
      (refl, (name ∷ [], refl, (name, refl, name_spelled name fits.0, tt)))

  gives_items : (space : Space) (entries : Written.NameMap) → space_number space < 256 → part_of (space_number space) ≡ ItemNames space → Written.FitsItems entries
      → Gives (Written.item_part space entries) (Written.items_given m space entries)
  gives_items space [] small is fits = gives_none
  gives_items space (e ∷ entries) small is fits =
      gives_part (space_number space) (Written.map_bytes (e ∷ entries)) (Written.items_given m space (e ∷ entries)) small fits.1
      (subst (λ (p : Part). (contents m p (length (Written.map_bytes (e ∷ entries)))).spells (Written.map_bytes (e ∷ entries)) (Written.items_given m space (e ∷ entries))) (sym is)
      (refl, map_spelled (count_of m space) (item_in space) (e ∷ entries) fits.0))

  locals_spelled : (functions : List (ℕ × Written.NameMap)) → Written.FitsLocals m functions → (local_names m).spells (Written.locals_bytes functions) (Written.locals_given m functions)
  locals_spelled functions fits =
      counted_spelled (led (known_function m) (λ f. name_map (local_count m f) (ALocal f))) (λ (e : ℕ × Written.NameMap). u32_bytes e.0 ++ Written.map_bytes e.1)
      (λ (e : ℕ × Written.NameMap). flat_map (named_below (local_count m e.0) (ALocal e.0)) e.1)
      (λ (e : ℕ × Written.NameMap). (e.0 < length m.functions) × (e.0 < 2 ^ 32) × Written.FitsMap e.1)
      (λ e p. (e.0, u32_bytes e.0, Written.map_bytes e.1, refl, (u32_spelled e.0 p.1, (tt, known e.0 p.0)), map_spelled (local_count m e.0) (ALocal e.0) e.1 p.2))
      functions fits.0
    where
      known : (f : ℕ) → f < length m.functions → must (nat_lt f (length m.functions)) (Index spaces.Function) ≡ None
      known f below = rw (lt-ltb f (length m.functions) below) refl

  gives_locals : (functions : List (ℕ × Written.NameMap)) → Written.FitsLocals m functions → Gives (Written.local_part functions) (Written.locals_given m functions)
  gives_locals [] fits = gives_none
  gives_locals (e ∷ functions) fits =
      gives_part 2 (Written.locals_bytes (e ∷ functions)) (Written.locals_given m (e ∷ functions)) (omega arith) fits.1 (refl, locals_spelled (e ∷ functions) fits)

  gives_spaces : (n : Written.Names) → Written.FitsNames m n → (list : List Space) → Written.AllFit (λ space. (space_number space < 256) × (part_of (space_number space) ≡ ItemNames space)) list
      → Gives (flat_map (λ space. Written.item_part space (n.items space)) list) (flat_map (λ space. Written.items_given m space (n.items space)) list)
  gives_spaces n fits [] h = gives_none
  gives_spaces n fits (space ∷ list) h =
      gives_join (Written.item_part space (n.items space)) (flat_map (λ space. Written.item_part space (n.items space)) list) (Written.items_given m space (n.items space))
      (flat_map (λ space. Written.items_given m space (n.items space)) list) (gives_items space (n.items space) h.0.0 h.0.1 (fits.items space)) (gives_spaces n fits list h.1)

  gives_all : (n : Written.Names) → Written.FitsNames m n → Gives (Written.payload_bytes n) (Written.names_given m n)
  gives_all n fits =
      let later = flat_map (λ space. Written.item_part space (n.items space)) Written.later_spaces in
      let later_given = flat_map (λ space. Written.items_given m space (n.items space)) Written.later_spaces in
      let ok : Written.AllFit (λ space. (space_number space < 256) × (part_of (space_number space) ≡ ItemNames space)) Written.later_spaces =
      ((omega arith, refl), ((omega arith, refl), ((omega arith, refl), ((omega arith, refl), ((omega arith, refl), ((omega arith, refl), ((omega arith, refl), tt))))))) in
      gives_join (Written.own_part n.own) (Written.item_part spaces.Function (n.items spaces.Function) ++ (Written.local_part n.locals ++ later)) (Written.own_given n.own)
      (Written.items_given m spaces.Function (n.items spaces.Function) ++ (Written.locals_given m n.locals ++ later_given)) (gives_own n.own fits.own)
      (gives_join (Written.item_part spaces.Function (n.items spaces.Function)) (Written.local_part n.locals ++ later) (Written.items_given m spaces.Function (n.items spaces.Function))
      (Written.locals_given m n.locals ++ later_given) (gives_items spaces.Function (n.items spaces.Function) (omega arith) refl (fits.items spaces.Function))
      (gives_join (Written.local_part n.locals) later (Written.locals_given m n.locals) later_given (gives_locals n.locals fits.locals) (gives_spaces n fits Written.later_spaces ok)))

  pub names_read_back : (n : Written.Names) → Written.FitsNames m n → names_in m (Written.payload_bytes n) ≡ Written.names_given m n
  names_read_back n fits = let g = gives_all n fits in total_again (subsection m) (takes_some m) (Written.payload_bytes n) g.0 g.1 ∙ g.2

-- ---- producers

values_spelled : (values : List Value) → Written.FitsVec Written.FitsValue values → (vec (λ (s : Unit {0}) _. s) (λ _. value) tt).spells (Written.vec_bytes Written.value_bytes values) values
values_spelled values fits = (u32_bytes (length values), flat_map Written.value_bytes values, refl, u32_spelled (length values) fits.0, go values fits.1)
  where
    go : (values : List Value) → Written.AllFit Written.FitsValue values → SpellsEntries (λ (s : Unit {0}) _. s) (λ _. value) tt (flat_map Written.value_bytes values) values
    go [] h = refl
    go (v ∷ values) h = (
      Written.value_bytes v,
      flat_map Written.value_bytes values,
      refl,
      ((v.name, v.version), refl, (Written.name_bytes v.name, Written.name_bytes v.version, refl, name_spelled v.name h.0.0, name_spelled v.version h.0.1)),
      go values h.1,
    )

values_ruled : (values : List Value) → EntryRules (λ (s : Unit {0}) _. s) (λ _. value) tt values
values_ruled [] = tt
values_ruled (v ∷ values) = ((λ x e. (tt, tt)), values_ruled values)

field_spelled : (f : Field) → Written.FitsField f → field.spells (Written.field_bytes f) f × field.rules f
field_spelled f fits = (
  ((f.name, f.values), refl, (Written.name_bytes f.name, Written.vec_bytes Written.value_bytes f.values, refl, name_spelled f.name fits.0, values_spelled f.values fits.1)),
  (λ x e. (tt, values_ruled x.1)),
)

pub producers_read_back : (list : List Field) → Written.FitsVec Written.FitsField list → producers_in (Written.producers_bytes list) ≡ list
producers_read_back list fits =
    let all : fields.keeps (Written.producers_bytes list) ≡ kept list (Behind []) =
    ap fields.keeps (sym (append-nil (Written.producers_bytes list)))
    ∙ fields.again (Written.producers_bytes list) [] list (listed_spelled field Written.field_bytes Written.FitsField field_spelled list fits) in
    ap (λ (k : Kept Field). k.items) all
