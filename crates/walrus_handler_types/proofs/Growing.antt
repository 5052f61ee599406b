-- Lemmas: a table that grows by what handlers lacked keeps the types that others were given.
use Rattle.std.proofs.Common.{◌≡◌, ◌∙◌, ◌⊎◌, inl, inr, ℕ, zero, suc, ◌+◌, ◌<◌, ◌≤◌, Bool, true, false, ◌&&◌, List, [], ◌∷◌, ◌++◌, length, map, refl, sym, ap, subst, arith}
use Rattle.std.proofs.lemmas.Bool.{cases_eq, false≢true}
use Rattle.std.specs.Prelude.{◌≢◌, Option, Some, None, MatchOption, is_some, not, slice_get, if◌then◌else◌}
use Rattle.std.specs.List.{AllByRecursion, list_any}
use Rattle.std.specs.Option.{option_and_then, option_map, option_or}
use Rattle.walrus_arena.specs.Arena.{entries_from}
use Rattle.walrus_forms.proofs.EqLemmas.{same-kind-law}
use Rattle.walrus_function_types.specs.FunctionTypes.{form_params, form_results}
use Rattle.walrus_function_types.specs.Growth.{Grows}
use Rattle.walrus_function_types.proofs.GrowthLemmas.{found_stays, function_grows, grows_on, grows_same, lives_on}
use Rattle.walrus_handlers.specs.walrus_body_steps.walrus_body_nesting.Stands.{total}
use Rattle.walrus_handlers.specs.walrus_body_steps.walrus_body_rules.Sights.{Sight, results_of}
use Rattle.walrus_handlers.specs.walrus_handler_laws.declared.handler.Handler.{Handler}
use Rattle.walrus_handlers.specs.walrus_handler_laws.Handlers.{told_by, tree_ids}
use Rattle.walrus_handlers.specs.walrus_handler_laws.Retyping.{IsTyped, handler_params, with_type}
use Rattle.walrus_handlers.specs.walrus_tree.Trees.{Has, IsTree}
use Rattle.walrus_handlers.specs.walrus_tree.walrus_builder.Built.{Seq, edited, seq_of}
use Rattle.walrus_handlers.specs.walrus_tree.walrus_builder.Edited.{edited_here, edited_others}
use Rattle.walrus_handlers.specs.walrus_tree.walrus_walks.walrus_forms.declared.value.ValType.{ValType}
use Rattle.walrus_handlers.specs.walrus_tree.walrus_walks.walrus_forms.Kinds.{Kind, function_kind}
use Rattle.walrus_handlers.specs.walrus_tree.walrus_walks.walrus_forms.Same.{same_kind}
use Rattle.walrus_handlers.specs.walrus_tree.walrus_walks.walrus_instr.BlockTypes.{Makes, picked, short_form}
use Rattle.walrus_handlers.specs.walrus_tree.walrus_walks.walrus_instr.declared.seq.InstrSeq.{InstrSeq}
use Rattle.walrus_handlers.specs.walrus_tree.walrus_walks.walrus_instr.declared.seq.InstrSeqType.{InstrSeqType}
use Rattle.walrus_handlers.specs.walrus_tree.walrus_walks.walrus_instr.declared.seq.InstrSeqType.TheVariants.{Simple, MultiValue}
use Rattle.walrus_handlers.specs.walrus_tree.walrus_walks.walrus_types.Items.{Item}
use Rattle.walrus_handlers.specs.walrus_tree.walrus_walks.walrus_types.Table.{Adds, Merges, Table, entries, equal_type, found_type, latest_id, latest_in, merges, names_itself, next_id, type_at}
use Rattle.walrus_handler_types.specs.Giving.{Finds, FindsIf, GivenTypesGrow, Gives, GivesAt, GivesTree, GivesType, ListsGive, PicksHandlers, SeesLists, TreesAreTyped, block_results, caught}
use Rattle.walrus_handlers.specs.Gathering.{listed}
use Rattle.walrus_handler_types.proofs.Ordering.{ids_there, told_there}

-- ---- searches

pub latest_push : (test : ℕ × Item → Bool) (first : ℕ) (slots : List (Option Item)) (item : Item) (found : Option ℕ) (id : ℕ) → first + length slots ≡ id
    → latest_in test found (entries_from first (slots ++ Some item ∷ [])) ≡ (if test (id, item) then Some id else latest_in test found (entries_from first slots))
latest_push test first [] item found id is = let e : first ≡ id = omega (arith, is) in ap (λ (n : ℕ). if test (n, item) then Some n else found) e
latest_push test first (None ∷ slots) item found id is = latest_push test (first + 1) slots item found id (omega (arith, is))
latest_push test first (Some x ∷ slots) item found id is = latest_push test (first + 1) slots item (if test (first, x) then Some first else found) id (omega (arith, is))

-- where a wider search finds nothing, the narrower one finds nothing
step_none : (c d : Bool) (id : ℕ) (f g : Option ℕ) → (c ≡ true → d ≡ true) → (g ≡ None → f ≡ None) → (if d then Some id else g) ≡ None → (if c then Some id else f) ≡ None
step_none true true id f g up h e = absurd cc
step_none true false id f g up h e = absurd (let a = up refl in cc)
step_none false true id f g up h e = absurd cc
step_none false false id f g up h e = h e

latest_none : (test wide : ℕ × Item → Bool) → ((e : ℕ × Item) → test e ≡ true → wide e ≡ true) → (es : List (ℕ × Item)) (f g : Option ℕ) → (g ≡ None → f ≡ None)
    → latest_in wide g es ≡ None → latest_in test f es ≡ None
latest_none test wide up [] f g h e = h e
latest_none test wide up (x ∷ es) f g h e =
    latest_none test wide up es (if test x then Some x.0 else f) (if wide x then Some x.0 else g) (step_none (test x) (wide x) x.0 f g (up x) h) e

and_first : (a b : Bool) → (a && b) ≡ true → a ≡ true
and_first true b h = refl
and_first false b h = h

none_either : (c : Bool) (o : Option ℕ) → o ≡ None → (if c then None else o) ≡ None
none_either true o e = refl
none_either false o e = e

pub equal_none : (kind : Kind) (t : Table) → latest_id (λ e. same_kind e.1.kind kind) t ≡ None → equal_type kind t ≡ None
equal_none kind t none =
    none_either (names_itself (next_id t) kind) (latest_id (merges kind) t)
    (latest_none (merges kind) (λ e. same_kind e.1.kind kind) (λ e h. and_first (same_kind e.1.kind kind) (not (names_itself e.0 e.1.kind)) h) (entries t) None None (λ e. e) none)

-- ---- what a table that has grown tells

then_grows : (f : Item → Option (List ValType)) (o p : Option Item) (l : List ValType) → ((x : Item) → o ≡ Some x → p ≡ Some x) → option_and_then f o ≡ Some l → option_and_then f p ≡ Some l
then_grows f None p l up h = absurd cc
then_grows f (Some x) p l up h = ap (option_and_then f) (up x refl) ∙ h

caught_grows : (t v : Table) → Grows t v → (tag : Option ℕ) (l : List ValType) → caught t tag ≡ Some l → caught v tag ≡ Some l
caught_grows t v g None l h = h
caught_grows t v g (Some id) l h = then_grows (λ (item : Item). form_params item.kind.form) (type_at t id) (type_at v id) l (lives_on t v g id) h

results_grow : (t v : Table) → Grows t v → (block : InstrSeqType) (l : List ValType) → block_results t block ≡ Some l → block_results v block ≡ Some l
results_grow t v g (Simple ty) l h = h
results_grow t v g (MultiValue id) l h = then_grows (λ (item : Item). form_results item.kind.form) (type_at t id) (type_at v id) l (lives_on t v g id) h

picks_one : (o : Option InstrSeqType) (a b : Option ℕ) (ty : InstrSeqType) → ((id : ℕ) → a ≡ Some id → b ≡ Some id) → option_or o (option_map MultiValue a) ≡ Some ty → option_or o (option_map MultiValue b) ≡ Some ty
picks_one (Some s) a b ty up h = h
picks_one None None b ty up h = absurd cc
picks_one None (Some id) b ty up h = ap (λ (x : Option ℕ). option_or None (option_map MultiValue x)) (up id refl) ∙ h

pub picks_grow : (t v : Table) → Grows t v → (params results : List ValType) (ty : InstrSeqType) → picked params results t ≡ Some ty → picked params results v ≡ Some ty
picks_grow t v g ps rs ty h = picks_one (short_form ps rs) (found_type ps rs t) (found_type ps rs v) ty (found_stays t v g ps rs) h

pub params_grow : (t v : Table) → Grows t v → (id : ℕ) (l : List ValType) → caught t (Some id) ≡ Some l → caught v (Some id) ≡ Some l
params_grow t v g id l h = caught_grows t v g (Some id) l h

pub function_results_grow : (t v : Table) → Grows t v → (id : ℕ) (l : List ValType) → block_results t (MultiValue id) ≡ Some l → block_results v (MultiValue id) ≡ Some l
function_results_grow t v g id l h = results_grow t v g (MultiValue id) l h

-- ---- one type

none_of : (o : Option InstrSeqType) (a : Option ℕ) → option_or o (option_map MultiValue a) ≡ None → (o ≡ None) × (a ≡ None)
none_of (Some s) a h = absurd cc
none_of None (Some id) h = absurd cc
none_of None None h = (refl, refl)

-- a type of lists that nothing had is found by them then
found_new : (ps rs : List ValType) (id : ℕ) (t v : Table) → Adds (function_kind ps rs) id t v → found_type ps rs v ≡ Some id
found_new ps rs id t v adds =
    let test : ℕ × Item → Bool = λ e. same_kind e.1.kind (function_kind ps rs) in
    let item : Item = record { id = id; kind = function_kind ps rs; name = None } in
    ap (λ (l : List (Option Item)). latest_in test None (entries_from 0 l)) adds.types
    ∙ latest_push test 0 t.types item None id (let g = adds.given in omega (arith, g))
    ∙ ap (λ (c : Bool). if c then Some id else found_type ps rs t) ((same-kind-law (function_kind ps rs) (function_kind ps rs)).1 refl)

-- the type of these lists is found, or it is added and found then
found_grows : (ps rs : List ValType) (t v : Table) (ty : InstrSeqType) → Finds ps rs t ty v → Grows t v × (picked ps rs v ≡ Some ty)
found_grows ps rs t v ty finds = go (picked ps rs t) refl finds
  where
    merged : (id : ℕ) → ty ≡ MultiValue id → short_form ps rs ≡ None → found_type ps rs t ≡ None → Merges (function_kind ps rs) id t v → Grows t v × (picked ps rs v ≡ Some ty)
    merged id is short none m =
        let adds = subst (λ (o : Option ℕ). MatchOption o (Adds (function_kind ps rs) id t v) (λ found. (id ≡ found) × (v ≡ t))) (equal_none (function_kind ps rs) t none) m in (
          function_grows ps rs id t v none m,
          ap (λ (o : Option InstrSeqType). option_or o (option_map MultiValue (found_type ps rs v))) short
              ∙ ap (λ (o : Option ℕ). option_or None (option_map MultiValue o)) (found_new ps rs id t v adds)
              ∙ ap (λ (x : InstrSeqType). Some x) (sym is),
        )

    made : (short_form ps rs ≡ None) × (found_type ps rs t ≡ None) → Makes ps rs ty t v → Grows t v × (picked ps rs v ≡ Some ty)
    made none makes =
        let m = subst (λ (o : Option InstrSeqType). MatchOption o ((id : ℕ) × (ty ≡ MultiValue id) × Merges (function_kind ps rs) id t v) (λ short. (ty ≡ short) × (v ≡ t))) none.0 makes in
        merged m.0 m.1 none.0 none.1 m.2

    go : (o : Option InstrSeqType) → picked ps rs t ≡ o → MatchOption o (Makes ps rs ty t v) (λ found. (ty ≡ found) × (v ≡ t)) → Grows t v × (picked ps rs v ≡ Some ty)
    go (Some found) e h = (grows_same t v h.1, ap (picked ps rs) h.1 ∙ e ∙ ap (λ (x : InstrSeqType). Some x) (sym h.0))
    go None e h = made (none_of (short_form ps rs) (found_type ps rs t) e) h

finds_if_grows : (o p : Option (List ValType)) (was ty : InstrSeqType) (t v : Table) → FindsIf o p was t ty v → Grows t v
finds_if_grows (Some ps) (Some rs) was ty t v f = (found_grows ps rs t v ty f).0
finds_if_grows (Some ps) None was ty t v f = grows_same t v f.1
finds_if_grows None (Some rs) was ty t v f = grows_same t v f.1
finds_if_grows None None was ty t v f = grows_same t v f.1

one_grows : (h : Handler) (was ty : InstrSeqType) (t v : Table) → GivesType h was t ty v → Grows t v
one_grows h was ty t v g = finds_if_grows (caught t h.tag_type) (block_results t h.block) was ty t v g

pub at_grows : (k : ℕ) (h : Option Handler) (b c : List Seq) (t v : Table) → GivesAt k h b t c v → Grows t v
at_grows k None b c t v (is, kept) = grows_same t v kept
at_grows k (Some h) b c t v (x, found, ty, one, is) = one_grows h x.ty ty t v one

pub given_types_grow : GivenTypesGrow
given_types_grow told [] b c old new (is, kept) = grows_same old new kept
given_types_grow told (k ∷ ks) b c old new (mid, t, one, rest) = grows_on old t new (at_grows k (told k) b mid old t one) (given_types_grow told ks mid c t new rest)

pub tree_types_grow : (tags : ℕ → Option ℕ) (b : List InstrSeq) (t : IsTree b 0) (old : Table) (c : List Seq) (new : Table) → GivesTree tags b t old c new → Grows old new
tree_types_grow tags b t old c new gives = given_types_grow (told_by tags b (tree_ids t)) (tree_ids t) (map seq_of b) c old new gives

-- ---- lists of handlers

-- one more behind
pub gives_more : (told : ℕ → Option Handler) (ks : List ℕ) (k : ℕ) (b m c : List Seq) (old t new : Table) → Gives told ks b old m t → GivesAt k (told k) m t c new → Gives told (ks ++ k ∷ []) b old c new
gives_more told [] k b m c old t new (is, kept) one =
    (c, new, subst (λ (l : List Seq). GivesAt k (told k) l old c new) is (subst (λ (v : Table). GivesAt k (told k) m v c new) kept one), (refl, refl))
gives_more told (j ∷ ks) k b m c old t new (mid, u, first, rest) one = (mid, u, first, gives_more told ks k mid m c u t new rest one)

-- where none is a handler nothing is given
pub gives_none : (told : ℕ → Option Handler) (ks : List ℕ) (b : List Seq) (old : Table) → ((k : ℕ) → told k ≡ None) → Gives told ks b old b old
gives_none told [] b old h = (refl, refl)
gives_none told (k ∷ ks) b old h = (b, old, subst (λ (o : Option Handler). GivesAt k o b old b old) (sym (h k)) (refl, refl), gives_none told ks b old h)

pub none_listed : (hs : List (Option Handler)) → list_any is_some hs ≡ false → (k : ℕ) → listed hs k ≡ None
none_listed [] e k = refl
none_listed (None ∷ hs) e zero = refl
none_listed (None ∷ hs) e (suc k) = none_listed hs e k
none_listed (Some h ∷ hs) e k = absurd (false≢true (sym e))

same_given : (f g : ℕ → Option Handler) (ks : List ℕ) → AllByRecursion (λ k. f k ≡ g k) ks → (b c : List Seq) (old new : Table) → Gives f ks b old c new → Gives g ks b old c new
same_given f g [] same b c old new gives = gives
same_given f g (k ∷ ks) same b c old new (mid, t, one, rest) =
    (mid, t, subst (λ (o : Option Handler). GivesAt k o b old mid t) same.0 one, same_given f g ks same.1 mid c t new rest)

each_later : {X : Type 0} (P Q : X → Type 0) → ((x : X) → P x → Q x) → (xs : List X) → AllByRecursion P xs → AllByRecursion Q xs
each_later P Q f [] h = tt
each_later P Q f (x ∷ xs) h = (f x h.0, each_later P Q f xs h.1)

pub lists_give : ListsGive
lists_give tags b t hs old new c are gives =
    same_given (listed hs) (told_by tags b js) js (each_later (λ j. j < length b) (λ j. listed hs j ≡ told_by tags b js j) are.told js (ids_there b t)) (map seq_of b) c old new gives
  where
    js : List ℕ
    js = tree_ids t

-- ---- all sequences

module _ (told : ℕ → Option Handler) (base : Table) where
  -- this table has the type for what the handler took and gave
  abbrev HasType : Handler → InstrSeqType → Table → Type 0
  HasType h ty t = (ps rs : List ValType) → caught base h.tag_type ≡ Some ps → block_results base h.block ≡ Some rs → picked ps rs t ≡ Some ty

  -- the sequence is a handler of this type
  abbrev IsGiven : ℕ → InstrSeqType → Table → Type 0
  IsGiven j ty t = (h : Handler) × (told j ≡ Some h) × HasType h ty t

  has_grown : (h : Handler) (ty : InstrSeqType) (t v : Table) → Grows t v → HasType h ty t → HasType h ty v
  has_grown h ty t v g has = λ ps rs c r. picks_grow t v g ps rs ty (has ps rs c r)

  has_given : (h : Handler) (was ty : InstrSeqType) (t v : Table) → Grows base t → GivesType h was t ty v → HasType h ty v
  has_given h was ty t v grown g = λ ps rs c r.
      let params = caught_grows base t grown h.tag_type ps c in
      let results = results_grow base t grown h.block rs r in
      let f = subst (λ (o : Option (List ValType)). FindsIf (Some ps) o was t ty v) results (subst (λ (o : Option (List ValType)). FindsIf o (block_results t h.block) was t ty v) params g) in
      (found_grows ps rs t v ty f).1

  -- what became of a sequence where these were given their types: it has its type still, or that of the handler that it is
  pub record Became (ks : List ℕ) (c : List Seq) (v : Table) (j : ℕ) (x : Seq) : Type 0 where
    pub ty : InstrSeqType
    pub there : slice_get c j ≡ Some (with_type ty x)
    pub either : (ty ≡ x.ty) ⊎ IsGiven j ty v
    pub given : Has ks j → (h : Handler) → told j ≡ Some h → HasType h ty v

  some_handler : (h k : Handler) → ◌≡◌ {A = Option Handler} (Some h) (Some k) → h ≡ k
  some_handler h k e = cc

  -- where one was given its type before
  module _ (k : ℕ) (ks : List ℕ) (c : List Seq) (u v : Table) (grows : Grows u v) (j : ℕ) (x : Seq) where
    after_none : told k ≡ None → Became ks c v j x → Became (k ∷ ks) c v j x
    after_none none r = record {
      ty = r.ty;
      there = r.there;
      either = r.either;
      given = λ has h is. elim has as (λ _. HasType h r.ty v) [ inl same ↦ absurd (no_handler h (sym none ∙ ap told same ∙ is)) | inr later ↦ r.given later h is ];
    }
      where
        no_handler : (h : Handler) → ◌≡◌ {A = Option Handler} None (Some h) → ⊥
        no_handler h e = cc

    after_other : (j ≡ k → ⊥) → Became ks c v j x → Became (k ∷ ks) c v j x
    after_other ne r = record {
      ty = r.ty;
      there = r.there;
      either = r.either;
      given = λ has h is. elim has as (λ _. HasType h r.ty v) [ inl same ↦ absurd (ne (sym same)) | inr later ↦ r.given later h is ];
    }

    after_own : (h : Handler) (ty : InstrSeqType) → told j ≡ Some h → HasType h ty u → Became ks c v j (with_type ty x) → Became (k ∷ ks) c v j x
    after_own h ty is has r = record { ty = r.ty; there = r.there; either = inr own; given = λ _ other too. subst (λ (z : Handler). HasType z r.ty v) (some_handler own.0 other (sym own.1 ∙ too)) own.2 }
      where
        own : IsGiven j r.ty v
        own = elim r.either as (λ _. IsGiven j r.ty v) [ inl same ↦ (h, is, subst (λ (z : InstrSeqType). HasType h z v) (sym same) (has_grown h ty u v grows has)) | inr given ↦ given ]

  become : (ks : List ℕ) (b c : List Seq) (t v : Table) → Grows base t → Gives told ks b t c v → (j : ℕ) (x : Seq) → slice_get b j ≡ Some x → Became ks c v j x
  become [] b c t v grown (is, kept) j x found = record { ty = x.ty; there = ap (λ (l : List Seq). slice_get l j) is ∙ found; either = inl refl; given = λ has. absurd has }
  become (k ∷ ks) b c t v grown (mid, u, one, rest) j x found =
      go (told k) refl one (λ y. become ks mid c u v (grows_on base t u grown (at_grows k (told k) b mid t u one)) rest j y)
    where
      later : Grows u v
      later = given_types_grow told ks mid c u v rest

      go : (o : Option Handler) → told k ≡ o → GivesAt k o b t mid u → ((y : Seq) → slice_get mid j ≡ Some y → Became ks c v j y) → Became (k ∷ ks) c v j x
      go None none (is, kept) on = after_none k ks c u v later j x none (on x (ap (λ (l : List Seq). slice_get l j) is ∙ found))
      go (Some h) told_so (y, there, ty, gives, is) on = here (cases_eq j k)
        where
          here : (j ≡ k) ⊎ (j ≢ k) → Became (k ∷ ks) c v j x
          here (inr ne) = after_other k ks c u v later j x ne (on x (ap (λ (l : List Seq). slice_get l j) is ∙ edited_others (with_type ty) b k j ne ∙ found))
          here (inl same) =
              after_own k ks c u v later j x h ty (ap told same ∙ told_so) (has_given h y.ty ty t u grown gives)
              (on (with_type ty x) (ap (λ (l : List Seq). slice_get l j) is ∙ ap (slice_get (edited (with_type ty) b k)) same ∙ edited_here (with_type ty) b k ∙ ap (option_map (with_type ty)) (ap (slice_get b) (sym same) ∙ found)))

  -- ---- who sees the tables

  typed_by : (ks : List ℕ) (c : List Seq) (j : ℕ) (x : Seq) (s u : Sight) (new later : Table) → ((h : Handler) → told j ≡ Some h → Has ks j) → Grows new later → SeesLists s base → PicksHandlers u later
      → (r : Became ks c new j x) → IsTyped s u (told j) x.ty r.ty
  typed_by ks c j x s u new later covers grown sees picks r = go (told j) refl
    where
      params_seen : (tag : Option ℕ) → handler_params s tag ≡ caught base tag
      params_seen None = refl
      params_seen (Some id) = sees.params id

      results_seen : (block : InstrSeqType) → results_of s block ≡ block_results base block
      results_seen (Simple ty) = refl
      results_seen (MultiValue id) = sees.results id

      no_handler : (h : Handler) → ◌≡◌ {A = Option Handler} None (Some h) → ⊥
      no_handler h e = cc

      go : (o : Option Handler) → told j ≡ o → IsTyped s u o x.ty r.ty
      go None none = elim r.either as (λ _. r.ty ≡ x.ty) [ inl same ↦ same | inr given ↦ absurd (no_handler given.0 (sym none ∙ given.1)) ]
      go (Some h) is = λ ps rs p q.
          picks ps rs ∙ has_grown h r.ty new later grown (r.given (covers h is) h is) ps rs (sym (params_seen h.tag_type) ∙ p) (sym (results_seen h.block) ∙ q)

pub trees_are_typed : TreesAreTyped
trees_are_typed tags b t c old new later s u gives grown sees picks j x found =
    let told : ℕ → Option Handler = told_by tags b (tree_ids t) in
    let r = become told old (tree_ids t) (map seq_of b) c old new (grows_same old old refl) gives j x found in
    (r.ty, r.there, typed_by told old (tree_ids t) c j x s u new later (λ h is. told_there tags b t j h is) grown sees picks r)

-- ---- what is given types holds what it held

total_typed : (ty : InstrSeqType) (b : List Seq) (k : ℕ) → total (edited (with_type ty) b k) ≡ total b
total_typed ty [] k = refl
total_typed ty (s ∷ b) zero = refl
total_typed ty (s ∷ b) (suc k) = ap (λ (n : ℕ). length s.instrs + n) (total_typed ty b k)

total_at : (k : ℕ) (h : Option Handler) (b c : List Seq) (old new : Table) → GivesAt k h b old c new → total c ≡ total b
total_at k None b c old new g = ap total g.0
total_at k (Some h) b c old new (x, found, ty, gives, is) = ap total is ∙ total_typed ty b k

pub total_given : (told : ℕ → Option Handler) (ks : List ℕ) (b c : List Seq) (old new : Table) → Gives told ks b old c new → total c ≡ total b
total_given told [] b c old new g = ap total g.0
total_given told (k ∷ ks) b c old new (mid, t, one, rest) = total_given told ks mid c t new rest ∙ total_at k (told k) b mid old t one
