-- Lemmas: references of modules that are alike, but for functions, the numbers of types and what tables and memories list themselves, stand for one another.
use Rattle.std.specs.Prelude.{ℕ, zero, suc, ◌≡◌, ◌+◌, Bool, List, [], ◌∷◌, ◌++◌, length, map, take, drop, Option, Some, None, MatchOption, Contains, slice_get, refl}
use Rattle.std.specs.List.{AllZip, range_with_len}
use Rattle.std.proofs.Common.{ap, sym, ◌∙◌, subst, arith, inl, inr}
use Rattle.std.proofs.lemmas.Option.{none-some, same_Some}
use Rattle.wasm_formats.specs.declared.fault.Space.{Space}
use Rattle.wasm_formats.specs.declared.fault.Space.TheVariants as spaces
use Rattle.wasm_operators.specs.declared.block_type.BlockType.{BlockType}
use Rattle.walrus_forms.specs.declared.value.ValType.{ValType}
use Rattle.walrus_forms.specs.Kinds.{Kind, kind_names}
use Rattle.walrus_forms.specs.Records.{TypeGroup}
use Rattle.wasm_grammar.specs.Modules.{Element, Export, Function, Item, Module, Segment}
use Rattle.wasm_references.specs.References.{HasData, HasElement, IsActiveIn, IsType, Numbered, Refers, RefersIn, TypeRefers, item, numbered, slot}
use Rattle.wasm_references.specs.Roots.{Root, declares, exports, fills_any, fills_import, is_active, is_pushed, starts}
use Rattle.wasm_references.specs.Kept.{IsReached}
use Rattle.walrus_pass_laws.proofs.Sets.{In, contains_of, in_map, in_of, map_in}
use Rattle.walrus_kept_laws.specs.Alike.{NumberStands, StandsFor}
use Rattle.walrus_kept_laws.proofs.Reach.{AreOnce, StandAlike, itself}

-- ---- lists side by side

module _ {A B : Type 0} (R : A → B → Type 0) where
  taken : (n : ℕ) (xs : List A) (ys : List B) → AllZip R xs ys → AllZip R (take n xs) (take n ys)
  taken zero [] [] h = tt
  taken zero [] (y ∷ ys) h = absurd h
  taken zero (x ∷ xs) [] h = absurd h
  taken zero (x ∷ xs) (y ∷ ys) h = tt
  taken (suc n) [] [] h = tt
  taken (suc n) [] (y ∷ ys) h = absurd h
  taken (suc n) (x ∷ xs) [] h = absurd h
  taken (suc n) (x ∷ xs) (y ∷ ys) h = (h.0, taken n xs ys h.1)

  dropped : (n : ℕ) (xs : List A) (ys : List B) → AllZip R xs ys → AllZip R (drop n xs) (drop n ys)
  dropped zero [] [] h = tt
  dropped zero [] (y ∷ ys) h = absurd h
  dropped zero (x ∷ xs) [] h = absurd h
  dropped zero (x ∷ xs) (y ∷ ys) h = h
  dropped (suc n) [] [] h = tt
  dropped (suc n) [] (y ∷ ys) h = absurd h
  dropped (suc n) (x ∷ xs) [] h = absurd h
  dropped (suc n) (x ∷ xs) (y ∷ ys) h = dropped n xs ys h.1

  pub at_right : (xs : List A) (ys : List B) → AllZip R xs ys → (i : ℕ) (x : A) → slice_get xs i ≡ Some x → (y : B) × (slice_get ys i ≡ Some y) × R x y
  at_right [] [] h i x e = absurd (none-some x e)
  at_right [] (y ∷ ys) h i x e = absurd h
  at_right (z ∷ xs) [] h i x e = absurd h
  at_right (z ∷ xs) (y ∷ ys) h zero x e = (y, refl, subst (λ (a : A). R a y) (same_Some z x e) h.0)
  at_right (z ∷ xs) (y ∷ ys) h (suc i) x e = at_right xs ys h.1 i x e

  pub at_left : (xs : List A) (ys : List B) → AllZip R xs ys → (i : ℕ) (y : B) → slice_get ys i ≡ Some y → (x : A) × (slice_get xs i ≡ Some x) × R x y
  at_left [] [] h i y e = absurd (none-some y e)
  at_left [] (z ∷ ys) h i y e = absurd h
  at_left (x ∷ xs) [] h i y e = absurd h
  at_left (x ∷ xs) (z ∷ ys) h zero y e = (x, refl, subst (λ (b : B). R x b) (same_Some z y e) h.0)
  at_left (x ∷ xs) (z ∷ ys) h (suc i) y e = at_left xs ys h.1 i y e

  in_right_of : (xs : List A) (ys : List B) → AllZip R xs ys → (x : A) → In xs x → (y : B) × In ys y × R x y
  in_right_of [] [] h x c = absurd c
  in_right_of [] (y ∷ ys) h x c = absurd h
  in_right_of (z ∷ xs) [] h x c = absurd h
  in_right_of (z ∷ xs) (y ∷ ys) h x (inl e) = (y, inl refl, subst (λ (a : A). R a y) e h.0)
  in_right_of (z ∷ xs) (y ∷ ys) h x (inr c) = let t = in_right_of xs ys h.1 x c in (t.0, inr t.1, t.2)

  in_left_of : (xs : List A) (ys : List B) → AllZip R xs ys → (y : B) → In ys y → (x : A) × In xs x × R x y
  in_left_of [] [] h y c = absurd c
  in_left_of [] (z ∷ ys) h y c = absurd h
  in_left_of (x ∷ xs) [] h y c = absurd h
  in_left_of (x ∷ xs) (z ∷ ys) h y (inl e) = (x, inl refl, subst (λ (b : B). R x b) e h.0)
  in_left_of (x ∷ xs) (z ∷ ys) h y (inr c) = let t = in_left_of xs ys h.1 y c in (t.0, inr t.1, t.2)

-- ---- groups, by the ids of their types and by their places

abbrev Pair : Type 0
Pair = TypeGroup × List ℕ

module _ (R : ℕ → ℕ → Type 0) where
  abbrev Both : Pair → Pair → Type 0
  Both a b = (a.0 ≡ b.0) × AllZip R a.1 b.1

  groups_beside : (groups : List TypeGroup) (xs ys : List ℕ) → AllZip R xs ys → AllZip Both (numbered groups xs) (numbered groups ys)
  groups_beside [] xs ys h = tt
  groups_beside (g ∷ groups) xs ys h =
      let n = length g.kinds in
      ((refl, taken R n xs ys h), groups_beside groups (drop n xs) (drop n ys) (dropped R n xs ys h))

-- each id beside its place
at_end : (before : List ℕ) (x : ℕ) (xs : List ℕ) → slice_get (before ++ x ∷ xs) (length before) ≡ Some x
at_end [] x xs = refl
at_end (b ∷ before) x xs = at_end before x xs

moved_on : (before : List ℕ) (x : ℕ) (xs : List ℕ) → (before ++ x ∷ []) ++ xs ≡ before ++ x ∷ xs
moved_on [] x xs = refl
moved_on (b ∷ before) x xs = ap (λ (l : List ℕ). b ∷ l) (moved_on before x xs)

one_longer : (before : List ℕ) (x : ℕ) → length (before ++ x ∷ []) ≡ suc (length before)
one_longer [] x = refl
one_longer (b ∷ before) x = ap suc (one_longer before x)

abbrev pub AtPlace : List ℕ → ℕ → ℕ → Type 0
AtPlace ids id n = slice_get ids n ≡ Some id

placed_from : (before xs : List ℕ) → AllZip (AtPlace (before ++ xs)) xs (range_with_len (length before) (length xs))
placed_from before [] = tt
placed_from before (x ∷ xs) = (
  at_end before x xs,
  subst (λ (n : ℕ). AllZip (AtPlace (before ++ x ∷ xs)) xs (range_with_len n (length xs))) (one_longer before x ∙ (let e : suc (length before) ≡ length before + 1 = omega arith in e))
      (subst (λ (l : List ℕ). AllZip (AtPlace l) xs (range_with_len (length (before ++ x ∷ [])) (length xs))) (moved_on before x xs) (placed_from (before ++ x ∷ []) xs)),
)

pub placed : (ids : List ℕ) → AllZip (AtPlace ids) ids (range_with_len 0 (length ids))
placed ids = placed_from [] ids

-- ---- what is there

pub there_is : {A : Type 0} {P : Type 0} (o : Option A) → MatchOption o ⊥ (λ (_ : A). P) → P
there_is None h = absurd h
there_is (Some x) h = h

there_too : {A : Type 0} (P Q : Type 0) (o : Option A) → MatchOption o ⊥ (λ (_ : A). P) → Q → MatchOption o ⊥ (λ (_ : A). Q)
there_too P Q None h q = absurd h
there_too P Q (Some x) h q = q

none_in : {A : Type 0} (x : A) → Contains [] x → ⊥
none_in x c = omega (arith, c.1)

-- ---- the two

module _ (m : Module) (fs : List (Option Function)) (ids : List ℕ) (count : ℕ) (vl wl : ℕ → ℕ → Option ValType) (vp wp : ℕ → List BlockType) (ve vd : ℕ → List ℕ) (keep : Bool) where
  abbrev pub by_ids : Numbered
  by_ids = record { filled = m; types = ids; local_type = vl; parts = vp; own_elements = ve; own_data = vd }

  abbrev pub by_places : Numbered
  by_places = record { filled = record m { functions = fs }; types = range_with_len 0 count; local_type = wl; parts = wp; own_elements = λ _. []; own_data = λ _. [] }

  abbrev pub Reached : Space → ℕ → Type 0
  Reached s n = IsReached by_ids keep [] (item s n)

  -- types that are named have their ids for places, but in groups; what functions name stands for one another
  pub record LookAlike : Type 0 where
    pub once : AreOnce ids
    pub counts : count ≡ length ids
    pub no_elements : (n e : ℕ) → Contains (ve n) e → ⊥
    pub no_data : (n e : ℕ) → Contains (vd n) e → ⊥
    pub given : (e : ℕ) (x : Export) → slot m.exports e ≡ Some x → x.item.space ≡ spaces.«Type» → ⊥
    pub fixed : (s : Space) (n : ℕ) → (s ≡ spaces.Function → ⊥) → (s ≡ spaces.«Type» → ⊥) → Reached s n → (z : Item) → RefersIn by_ids s n z → StandsFor ids z z
    pub kinds : (id : ℕ) (group : Pair) (kind : Kind) → Reached spaces.«Type» id → IsType by_ids id group kind → (z : Item) → Contains (map (item spaces.«Type») (kind_names kind)) z → StandsFor ids z z
    pub functions_forth : (n : ℕ) → Reached spaces.Function n → (z : Item) → RefersIn by_ids spaces.Function n z → (u : Item) × StandsFor ids z u × RefersIn by_places spaces.Function n u
    pub functions_back : (n : ℕ) → Reached spaces.Function n → (u : Item) → RefersIn by_places spaces.Function n u → (z : Item) × StandsFor ids z u × RefersIn by_ids spaces.Function n z

  module _ (h : LookAlike) where
    beside : AllZip (Both (AtPlace ids)) (numbered m.groups ids) (numbered m.groups (range_with_len 0 count))
    beside = groups_beside (AtPlace ids) m.groups ids (range_with_len 0 count) (subst (λ (n : ℕ). AllZip (AtPlace ids) ids (range_with_len 0 n)) (sym h.counts) (placed ids))

    typed : (id n : ℕ) → AtPlace ids id n → StandsFor ids (item spaces.«Type» id) (item spaces.«Type» n)
    typed id n e = record { space = refl; number = e }

    -- ---- types

    type_forth : (id n : ℕ) → AtPlace ids id n → Reached spaces.«Type» id → (z : Item) → TypeRefers by_ids id z → (u : Item) × StandsFor ids z u × TypeRefers by_places n u
    type_forth id n at reached z (group, kind, is, names) =
        let b = in_right_of (Both (AtPlace ids)) (numbered m.groups ids) (numbered m.groups (range_with_len 0 count)) beside group (in_of (numbered m.groups ids) group is.listed) in
        let k = at_right (AtPlace ids) group.1 b.0.1 b.2.1 is.place id is.number in
        let there : IsType by_places n b.0 kind = record {
          listed = contains_of (numbered m.groups (range_with_len 0 count)) b.0 b.1;
          place = is.place;
          number = k.1 ∙ ap (λ (j : ℕ). Some j) (h.once k.0 n id k.2 at);
          known = ap (λ (g : TypeGroup). slice_get g.kinds is.place) (sym b.2.0) ∙ is.known;
        } in
        elim names as (λ _. (u : Item) × StandsFor ids z u × TypeRefers by_places n u) [
          | inl c ↦ (z, h.kinds id group kind reached is z c, (b.0, kind, there, inl c))
          | inr c ↦ (
              let j = in_map (item spaces.«Type») group.1 z (in_of (map (item spaces.«Type») group.1) z c.1) in
              let l = in_right_of (AtPlace ids) group.1 b.0.1 b.2.1 j.0 j.1 in (
                item spaces.«Type» l.0,
                subst (λ (x : Item). StandsFor ids x (item spaces.«Type» l.0)) j.2 (typed j.0 l.0 l.2),
                (b.0, kind, there, inr (ap (λ (g : TypeGroup). g.marked) (sym b.2.0) ∙ c.0, contains_of (map (item spaces.«Type») b.0.1) (item spaces.«Type» l.0) (map_in (item spaces.«Type») b.0.1 l.0 l.1))),
              )
              )
        ]

    type_back : (id n : ℕ) → AtPlace ids id n → Reached spaces.«Type» id → (u : Item) → TypeRefers by_places n u → (z : Item) × StandsFor ids z u × TypeRefers by_ids id z
    type_back id n at reached u (group, kind, is, names) =
        let a = in_left_of (Both (AtPlace ids)) (numbered m.groups ids) (numbered m.groups (range_with_len 0 count)) beside group (in_of (numbered m.groups (range_with_len 0 count)) group is.listed) in
        let k = at_left (AtPlace ids) a.0.1 group.1 a.2.1 is.place n is.number in
        let here : IsType by_ids id a.0 kind = record {
          listed = contains_of (numbered m.groups ids) a.0 a.1;
          place = is.place;
          number = k.1 ∙ sym k.2 ∙ at;
          known = ap (λ (g : TypeGroup). slice_get g.kinds is.place) a.2.0 ∙ is.known;
        } in
        elim names as (λ _. (z : Item) × StandsFor ids z u × TypeRefers by_ids id z) [
          | inl c ↦ (u, h.kinds id a.0 kind reached here u c, (a.0, kind, here, inl c))
          | inr c ↦ (
              let j = in_map (item spaces.«Type») group.1 u (in_of (map (item spaces.«Type») group.1) u c.1) in
              let l = in_left_of (AtPlace ids) a.0.1 group.1 a.2.1 j.0 j.1 in (
                item spaces.«Type» l.0,
                subst (λ (x : Item). StandsFor ids (item spaces.«Type» l.0) x) j.2 (typed l.0 j.0 l.2),
                (a.0, kind, here, inr (ap (λ (g : TypeGroup). g.marked) a.2.0 ∙ c.0, contains_of (map (item spaces.«Type») a.0.1) (item spaces.«Type» l.0) (map_in (item spaces.«Type») a.0.1 l.0 l.1))),
              )
              )
        ]

    -- ---- segments of tables and memories

    abbrev element_is : ℕ → ℕ → Type 0
    element_is n e = MatchOption (slot m.elements e) ⊥ (λ (x : Element). IsActiveIn n x.mode)

    abbrev data_is : ℕ → ℕ → Type 0
    data_is n e = MatchOption (slot m.segments e) ⊥ (λ (x : Segment). IsActiveIn n x.mode)

    element_forth : (n : ℕ) (z : Item) → HasElement by_ids n z → StandsFor ids z z × HasElement by_places n z
    element_forth n z (e, is, how) =
        let active : element_is n e = elim how as (λ _. element_is n e) [ inl a ↦ a | inr l ↦ absurd (h.no_elements n e l.0) ] in
        (subst (λ (x : Item). StandsFor ids x x) (sym is) (itself ids spaces.Element e (λ d. absurd cc)), (e, is, inl active))

    element_back : (n : ℕ) (u : Item) → HasElement by_places n u → StandsFor ids u u × HasElement by_ids n u
    element_back n u (e, is, how) =
        let active : element_is n e = elim how as (λ _. element_is n e) [ inl a ↦ a | inr l ↦ absurd (none_in e l.0) ] in
        (subst (λ (x : Item). StandsFor ids x x) (sym is) (itself ids spaces.Element e (λ d. absurd cc)), (e, is, inl active))

    data_forth : (n : ℕ) (z : Item) → HasData by_ids n z → StandsFor ids z z × HasData by_places n z
    data_forth n z (e, is, how) =
        let active : data_is n e = elim how as (λ _. data_is n e) [ inl a ↦ a | inr l ↦ absurd (h.no_data n e l.0) ] in
        (subst (λ (x : Item). StandsFor ids x x) (sym is) (itself ids spaces.Data e (λ d. absurd cc)), (e, is, inl active))

    data_back : (n : ℕ) (u : Item) → HasData by_places n u → StandsFor ids u u × HasData by_ids n u
    data_back n u (e, is, how) =
        let active : data_is n e = elim how as (λ _. data_is n e) [ inl a ↦ a | inr l ↦ absurd (none_in e l.0) ] in
        (subst (λ (x : Item). StandsFor ids x x) (sym is) (itself ids spaces.Data e (λ d. absurd cc)), (e, is, inl active))

    -- ---- each space

    abbrev Forth : Space → ℕ → Item → Type 0
    Forth s n z = (u : Item) × StandsFor ids z u × RefersIn by_places s n u

    abbrev Back : Space → ℕ → Item → Type 0
    Back s n u = (z : Item) × StandsFor ids z u × RefersIn by_ids s n z

    here_forth : (s : Space) (n : ℕ) → Reached s n → (z : Item) → (s ≡ spaces.«Type» → ⊥) → RefersIn by_ids s n z → Forth s n z
    here_forth spaces.«Type» n reached z other r = absurd (other refl)
    here_forth spaces.Function n reached z other r = h.functions_forth n reached z r
    here_forth spaces.Table n reached z other (inl c) = (z, h.fixed spaces.Table n (λ e. absurd cc) (λ e. absurd cc) reached z (inl c), inl c)
    here_forth spaces.Table n reached z other (inr c) = let t = element_forth n z (there_is (slot m.tables n) c) in (z, t.0, inr (there_too _ _ (slot m.tables n) c t.1))
    here_forth spaces.Memory n reached z other c = let t = data_forth n z (there_is (slot m.memories n) c) in (z, t.0, there_too _ _ (slot m.memories n) c t.1)
    here_forth spaces.Global n reached z other c = (z, h.fixed spaces.Global n (λ e. absurd cc) (λ e. absurd cc) reached z c, c)
    here_forth spaces.Tag n reached z other c = (z, h.fixed spaces.Tag n (λ e. absurd cc) (λ e. absurd cc) reached z c, c)
    here_forth spaces.Element n reached z other c = (z, h.fixed spaces.Element n (λ e. absurd cc) (λ e. absurd cc) reached z c, c)
    here_forth spaces.Data n reached z other c = (z, h.fixed spaces.Data n (λ e. absurd cc) (λ e. absurd cc) reached z c, c)
    here_forth spaces.Local n reached z other c = absurd c
    here_forth spaces.Label n reached z other c = absurd c

    here_back : (s : Space) (n : ℕ) → Reached s n → (u : Item) → (s ≡ spaces.«Type» → ⊥) → RefersIn by_places s n u → Back s n u
    here_back spaces.«Type» n reached u other r = absurd (other refl)
    here_back spaces.Function n reached u other r = h.functions_back n reached u r
    here_back spaces.Table n reached u other (inl c) = (u, h.fixed spaces.Table n (λ e. absurd cc) (λ e. absurd cc) reached u (inl c), inl c)
    here_back spaces.Table n reached u other (inr c) = let t = element_back n u (there_is (slot m.tables n) c) in (u, t.0, inr (there_too _ _ (slot m.tables n) c t.1))
    here_back spaces.Memory n reached u other c = let t = data_back n u (there_is (slot m.memories n) c) in (u, t.0, there_too _ _ (slot m.memories n) c t.1)
    here_back spaces.Global n reached u other c = (u, h.fixed spaces.Global n (λ e. absurd cc) (λ e. absurd cc) reached u c, c)
    here_back spaces.Tag n reached u other c = (u, h.fixed spaces.Tag n (λ e. absurd cc) (λ e. absurd cc) reached u c, c)
    here_back spaces.Element n reached u other c = (u, h.fixed spaces.Element n (λ e. absurd cc) (λ e. absurd cc) reached u c, c)
    here_back spaces.Data n reached u other c = (u, h.fixed spaces.Data n (λ e. absurd cc) (λ e. absurd cc) reached u c, c)
    here_back spaces.Local n reached u other c = absurd c
    here_back spaces.Label n reached u other c = absurd c

    -- an item is a type, or has one number
    forth_in : (s : Space) (a b : ℕ) → NumberStands ids s a b → Reached s a → (z : Item) → RefersIn by_ids s a z → Forth s b z
    forth_in spaces.«Type» a b e reached z r = type_forth a b e reached z r
    forth_in spaces.Function a b e reached z r = subst (λ (n : ℕ). Forth spaces.Function n z) e (here_forth spaces.Function a reached z (λ d. absurd cc) r)
    forth_in spaces.Table a b e reached z r = subst (λ (n : ℕ). Forth spaces.Table n z) e (here_forth spaces.Table a reached z (λ d. absurd cc) r)
    forth_in spaces.Memory a b e reached z r = subst (λ (n : ℕ). Forth spaces.Memory n z) e (here_forth spaces.Memory a reached z (λ d. absurd cc) r)
    forth_in spaces.Tag a b e reached z r = subst (λ (n : ℕ). Forth spaces.Tag n z) e (here_forth spaces.Tag a reached z (λ d. absurd cc) r)
    forth_in spaces.Global a b e reached z r = subst (λ (n : ℕ). Forth spaces.Global n z) e (here_forth spaces.Global a reached z (λ d. absurd cc) r)
    forth_in spaces.Element a b e reached z r = subst (λ (n : ℕ). Forth spaces.Element n z) e (here_forth spaces.Element a reached z (λ d. absurd cc) r)
    forth_in spaces.Data a b e reached z r = subst (λ (n : ℕ). Forth spaces.Data n z) e (here_forth spaces.Data a reached z (λ d. absurd cc) r)
    forth_in spaces.Local a b e reached z r = absurd r
    forth_in spaces.Label a b e reached z r = absurd r

    back_in : (s : Space) (a b : ℕ) → NumberStands ids s a b → Reached s a → (u : Item) → RefersIn by_places s b u → Back s a u
    back_in spaces.«Type» a b e reached u r = type_back a b e reached u r
    back_in spaces.Function a b e reached u r = here_back spaces.Function a reached u (λ d. absurd cc) (subst (λ (n : ℕ). RefersIn by_places spaces.Function n u) (sym e) r)
    back_in spaces.Table a b e reached u r = here_back spaces.Table a reached u (λ d. absurd cc) (subst (λ (n : ℕ). RefersIn by_places spaces.Table n u) (sym e) r)
    back_in spaces.Memory a b e reached u r = here_back spaces.Memory a reached u (λ d. absurd cc) (subst (λ (n : ℕ). RefersIn by_places spaces.Memory n u) (sym e) r)
    back_in spaces.Tag a b e reached u r = here_back spaces.Tag a reached u (λ d. absurd cc) (subst (λ (n : ℕ). RefersIn by_places spaces.Tag n u) (sym e) r)
    back_in spaces.Global a b e reached u r = here_back spaces.Global a reached u (λ d. absurd cc) (subst (λ (n : ℕ). RefersIn by_places spaces.Global n u) (sym e) r)
    back_in spaces.Element a b e reached u r = here_back spaces.Element a reached u (λ d. absurd cc) (subst (λ (n : ℕ). RefersIn by_places spaces.Element n u) (sym e) r)
    back_in spaces.Data a b e reached u r = here_back spaces.Data a reached u (λ d. absurd cc) (subst (λ (n : ℕ). RefersIn by_places spaces.Data n u) (sym e) r)
    back_in spaces.Local a b e reached u r = absurd r
    back_in spaces.Label a b e reached u r = absurd r

    -- ---- roots are no types

    self : (s : Space) (n : ℕ) → (s ≡ spaces.«Type» → ⊥) → StandsFor ids (item s n) (item s n)
    self s n other = itself ids s n other

    root_forth : (x : Item) → Root m keep [] x → (y : Item) × StandsFor ids x y × Root by_places.filled keep [] y
    root_forth x (exports e export at) = (export.item, self export.item.space export.item.number (h.given e export at), exports e export at)
    root_forth x (starts f is) = (item spaces.Function f, self spaces.Function f (λ d. absurd cc), starts f is)
    root_forth x (is_active d memory offset segment at is) = (item spaces.Data d, self spaces.Data d (λ d. absurd cc), is_active d memory offset segment at is)
    root_forth x (fills_import e t offset segment table at is of brings) = (item spaces.Element e, self spaces.Element e (λ d. absurd cc), fills_import e t offset segment table at is of brings)
    root_forth x (fills_any e t offset segment all at is) = (item spaces.Element e, self spaces.Element e (λ d. absurd cc), fills_any e t offset segment all at is)
    root_forth x (declares e segment at is) = (item spaces.Element e, self spaces.Element e (λ d. absurd cc), declares e segment at is)
    root_forth x (is_pushed _ c) = absurd (none_in x c)

    root_back : (y : Item) → Root by_places.filled keep [] y → (x : Item) × StandsFor ids x y × Root m keep [] x
    root_back y (exports e export at) = (export.item, self export.item.space export.item.number (h.given e export at), exports e export at)
    root_back y (starts f is) = (item spaces.Function f, self spaces.Function f (λ d. absurd cc), starts f is)
    root_back y (is_active d memory offset segment at is) = (item spaces.Data d, self spaces.Data d (λ d. absurd cc), is_active d memory offset segment at is)
    root_back y (fills_import e t offset segment table at is of brings) = (item spaces.Element e, self spaces.Element e (λ d. absurd cc), fills_import e t offset segment table at is of brings)
    root_back y (fills_any e t offset segment all at is) = (item spaces.Element e, self spaces.Element e (λ d. absurd cc), fills_any e t offset segment all at is)
    root_back y (declares e segment at is) = (item spaces.Element e, self spaces.Element e (λ d. absurd cc), declares e segment at is)
    root_back y (is_pushed _ c) = absurd (none_in y c)

    -- ---- all of it

    forth : (x y z : Item) → StandsFor ids x y → IsReached by_ids keep [] x → Refers by_ids x z → (u : Item) × StandsFor ids z u × Refers by_places y u
    forth x y z s reached r =
        forth_in y.space x.number y.number s.number (subst (λ (p : Space). Reached p x.number) s.space reached) z (subst (λ (p : Space). RefersIn by_ids p x.number z) s.space r)

    back : (x y u : Item) → StandsFor ids x y → IsReached by_ids keep [] x → Refers by_places y u → (z : Item) × StandsFor ids z u × Refers by_ids x z
    back x y u s reached r =
        let t = back_in y.space x.number y.number s.number (subst (λ (p : Space). Reached p x.number) s.space reached) u r in
        (t.0, t.1, subst (λ (p : Space). RefersIn by_ids p x.number t.0) (sym s.space) t.2)

    pub stand_alike : StandAlike ids h.once by_ids by_places keep []
    stand_alike = record { root_forth = root_forth; root_back = root_back; refers_forth = forth; refers_back = back; memories = refl }
