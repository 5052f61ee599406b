-- What was met, and what is reached.
use Rattle.std.proofs.Common.{◌≡◌, ◌∙◌, ◌⊎◌, ◌<◌, ℕ, List, Bool, true, false, Option, Some, None, get_or, length, refl, sym, ap, subst, inl, inr, arith}
use Rattle.std.specs.Prelude.{◌↔◌, IsTrue, MatchOption, Decides, is_some}
use Rattle.std.specs.Option.{option_and_then}
use Rattle.std.proofs.lemmas.List.{get_or_past}
use Rattle.std.specs.Bool.{OnTrue}
use Rattle.std.proofs.lemmas.Bool.{cases_lt, false≢true, OnTrue_at, OnTrue_from}
use Rattle.wasm_formats.specs.declared.fault.Form.{Form}
use Rattle.wasm_formats.specs.declared.fault.Form.TheVariants as forms
use Rattle.wasm_formats.specs.declared.fault.Space.{Space}
use Rattle.wasm_formats.specs.declared.fault.Space.TheVariants as spaces
use Rattle.walrus_types.specs.TypeLaws.{AreGrouped}
use Rattle.walrus_arena.specs.Arena.{Arena, item_at, next_id}
use Rattle.walrus_used.specs.walrus_module.walrus_module_items.declared.import.Import.{Import}
use Rattle.walrus_used.specs.walrus_module.walrus_module_items.declared.function.Function.{Function}
use Rattle.walrus_used.specs.walrus_module.Parts.{Module}
use Rattle.walrus_used.specs.walrus_module.Linking.{import_in}
use Rattle.walrus_roots.specs.declared.item.Item.{Item}
use Rattle.walrus_roots.specs.Items.{item, space_number}
use Rattle.walrus_marks.specs.Marks.{State, is_one_claimed, is_claimed, misses_claimed}
use Rattle.walrus_marks.proofs.MetLemmas.{claimed_or_not}
use Rattle.walrus_marks.specs.Chains.{FitsIn, Lacks}
use Rattle.walrus_used.specs.Asked.{AllHold}
use Rattle.walrus_marks.specs.Chains.{IsReached as IsReachedIn}
use Rattle.walrus_used.specs.walrus_references.References.{Refers}
use Rattle.walrus_used.specs.walrus_references.Roots.{Root}
use Rattle.walrus_used.specs.walrus_references.Kept.{IsReached}
use Rattle.walrus_used.specs.walrus_module.Items.{Lives, LivesIn}
use Rattle.walrus_used.specs.walrus_references.Refused.{FormsTree, HasTree, IsTreeIn}
use Rattle.walrus_used.specs.Counts.{counts_of}
use Rattle.walrus_used.proofs.CountLemmas.{lives_fit}
use Rattle.walrus_refusals.specs.Asked.{Linked, IsOwnLinked, IsBrought, IsWholeIn, IsNamedBack}
use Rattle.walrus_used.specs.walrus_module.Items.{brought}
use Rattle.walrus_refusals.specs.Checks.{IsMet, IsWell, AreClaims, AreLinked, HoldsMet, HoldsOrFails, AllClaimTruly, AreInexact, AreWell, FailsIn, HasMetForm}
use Rattle.walrus_refusals.specs.Sound.{AllReached, HasForm, IsSound, Stands}
use Rattle.walrus_refusals.specs.Written.{HasNoExact, HasNoExactIn, IsUnshared, IsUnsharedIn, StaysIn, StaysInGroup}

-- nothing stands at an id that wasn't given out
none_at : {T : Type 0} (a : Arena T) (id : ℕ) → (id < length a.slots → ⊥) → item_at a id ≡ None
none_at a id past = elim (cases_lt id (length a.slots)) as (λ _. item_at a id ≡ None) [ inl below ↦ absurd (past below) | inr above ↦ get_or_past a.slots id None above ]

nothing_then : {A B : Type 0} (f : A → Option B) (o : Option A) → o ≡ None → option_and_then f o ≡ None
nothing_then f o is = ap (option_and_then f) is

nothing_asked : {A : Type 0} (P : A → Type 0) (o : Option A) → o ≡ None → MatchOption o (Unit {0}) P
nothing_asked P o is = subst (λ (p : Option _). MatchOption p (Unit {0}) P) (sym is) tt

not_brought : (imports : Arena Import) (x : Item) (named : Option ℕ) → named ≡ None → IsBrought imports x named
not_brought imports x named is = subst (IsBrought imports x) (sym is) tt

-- what stands somewhere stands below the next id
some_below : {T : Type 0} (a : Arena T) (id : ℕ) (t : T) → item_at a id ≡ Some t → id < next_id a
some_below a id t at = elim (cases_lt id (next_id a)) as (λ _. id < next_id a) [ inl below ↦ below | inr past ↦ absurd (let none : None ≡ Some t = sym (get_or_past a.slots id None past) ∙ at in cc) ]

module _ (m : Module) where
  -- what wasn't given out says nothing
  import_past : (space : Space) (id : ℕ) → (FitsIn (counts_of m) (item space id) → ⊥) → import_in m space id ≡ None
  import_past spaces.Type id past = refl
  import_past spaces.Function id past = nothing_then _ (item_at m.funcs id) (none_at m.funcs id past)
  import_past spaces.Table id past = nothing_then _ (item_at m.tables id) (none_at m.tables id past)
  import_past spaces.Memory id past = nothing_then _ (item_at m.memories id) (none_at m.memories id past)
  import_past spaces.Tag id past = nothing_then _ (item_at m.tags id) (none_at m.tags id past)
  import_past spaces.Global id past = nothing_then _ (item_at m.globals id) (none_at m.globals id past)
  import_past spaces.Element id past = refl
  import_past spaces.Data id past = refl
  import_past spaces.Local id past = refl
  import_past spaces.Label id past = refl

  whole_past : (space : Space) (id : ℕ) → (FitsIn (counts_of m) (item space id) → ⊥) → IsWholeIn m space id
  whole_past spaces.Type id past = tt
  whole_past spaces.Function id past = nothing_asked _ (item_at m.funcs id) (none_at m.funcs id past)
  whole_past spaces.Table id past = tt
  whole_past spaces.Memory id past = tt
  whole_past spaces.Tag id past = tt
  whole_past spaces.Global id past = tt
  whole_past spaces.Element id past = tt
  whole_past spaces.Data id past = tt
  whole_past spaces.Local id past = tt
  whole_past spaces.Label id past = tt

  own_past : (x : Item) → (FitsIn (counts_of m) x → ⊥) → IsOwnLinked m x
  own_past x past = (not_brought m.imports x (import_in m x.space x.id) (import_past x.space x.id past), whole_past x.space x.id past)

  tree_past : (space : Space) (id : ℕ) → (FitsIn (counts_of m) (item space id) → ⊥) → IsTreeIn m space id
  tree_past spaces.Type id past = tt
  tree_past spaces.Function id past = nothing_asked (λ (f : Function). HasTree f.kind) (item_at m.funcs id) (none_at m.funcs id past)
  tree_past spaces.Table id past = tt
  tree_past spaces.Memory id past = tt
  tree_past spaces.Tag id past = tt
  tree_past spaces.Global id past = tt
  tree_past spaces.Element id past = tt
  tree_past spaces.Data id past = tt
  tree_past spaces.Local id past = tt
  tree_past spaces.Label id past = tt

  -- of a space that isn't looked at in turn
  high_cases : (P : Space → Type 0) → P spaces.Local → P spaces.Label → (space : Space) → (space_number space < 8 → ⊥) → P space
  high_cases P local label spaces.Type high = absurd (high (omega arith))
  high_cases P local label spaces.Function high = absurd (high (omega arith))
  high_cases P local label spaces.Table high = absurd (high (omega arith))
  high_cases P local label spaces.Memory high = absurd (high (omega arith))
  high_cases P local label spaces.Tag high = absurd (high (omega arith))
  high_cases P local label spaces.Global high = absurd (high (omega arith))
  high_cases P local label spaces.Element high = absurd (high (omega arith))
  high_cases P local label spaces.Data high = absurd (high (omega arith))
  high_cases P local label spaces.Local high = local
  high_cases P local label spaces.Label high = label

  -- locals say nothing of that sort
  own_high : (space : Space) (id : ℕ) → (space_number space < 8 → ⊥) → IsOwnLinked m (item space id)
  own_high space id = high_cases (λ space. IsOwnLinked m (item space id)) (tt, tt) (tt, tt) space

  tree_high : (space : Space) (id : ℕ) → (space_number space < 8 → ⊥) → IsTreeIn m space id
  tree_high space id = high_cases (λ space. IsTreeIn m space id) tt tt space

  fits_or : (x : Item) → FitsIn (counts_of m) x ⊎ (FitsIn (counts_of m) x → ⊥)
  fits_or x = elim (cases_lt x.id (get_or (counts_of m) (space_number x.space) 0)) as (λ _. FitsIn (counts_of m) x ⊎ (FitsIn (counts_of m) x → ⊥)) [ inl below ↦ inl below | inr past ↦ inr (λ below. omega (arith, below, past)) ]

  low_or : (x : Item) → (space_number x.space < 8) ⊎ (space_number x.space < 8 → ⊥)
  low_or x = elim (cases_lt (space_number x.space) 8) as (λ _. (space_number x.space < 8) ⊎ (space_number x.space < 8 → ⊥)) [ inl low ↦ inl low | inr high ↦ inr (λ low. omega (arith, low, high)) ]

  module _ (pushed : List Item) (s : State) (h : IsReachedIn (counts_of m) (Root m pushed) (Refers m) s) where
    pub met_fits : (x : Item) → IsMet s x → FitsIn (counts_of m) x
    met_fits x met = ((h.marked x).0 met).1

    met_reached : (x : Item) → IsMet s x → IsReached m pushed x
    met_reached x met = ((h.marked x).0 met).0

    reached_met : (x : Item) → IsReached m pushed x → FitsIn (counts_of m) x → IsMet s x
    reached_met x r fits = (h.marked x).1 (r, fits)

    -- what holds of what was met, of what wasn't given out, and of locals holds of all that is reached
    all_of : (P : Item → Type 0) → ((x : Item) → (FitsIn (counts_of m) x → ⊥) → P x) → ((x : Item) → (space_number x.space < 8 → ⊥) → P x) → HoldsMet P s → AllReached m pushed P
    all_of P past high all x r = elim (fits_or x) as (λ _. P x) [
      | inr not_there ↦ past x not_there
      | inl fits ↦ elim (low_or x) as (λ _. P x) [ inl low ↦ all x low (reached_met x r fits) | inr over ↦ high x over ]
    ]

    module _ (claims : AreClaims m s.missing.claimed) where
      -- an item that wasn't given out and that an import brings isn't reached, where none that is claimed is missed
      none_past : (o : Option Item) → s.missing.item ≡ o → is_one_claimed s.missing.claimed o ≡ false → Lacks (counts_of m) (Root m pushed) (Refers m) (record { item = o; claimed = s.missing.claimed })
          → (x : Item) → IsReached m pushed x → IsTrue (is_claimed s.missing.claimed x) → FitsIn (counts_of m) x
      none_past None is missed all x r claimed = all x r
      none_past (Some j) is missed one x r claimed = elim one.2 as (λ _. FitsIn (counts_of m) x) [ inl is ↦ absurd (false≢true (sym missed ∙ is)) | inr all ↦ all x r claimed ]

      claimed_fits : misses_claimed s.missing ≡ false → (x : Item) → IsReached m pushed x → (i : ℕ) (import : Import) → item_at m.imports i ≡ Some import → brought import.kind ≡ x → FitsIn (counts_of m) x
      claimed_fits missed x r i import at is = elim (fits_or x) as (λ _. FitsIn (counts_of m) x) [
        | inl fits ↦ fits
        | inr past ↦ none_past s.missing.item refl missed h.missing x r ((claims x).1 (past, (i, some_below m.imports i import at, subst (λ (o : Option Import). MatchOption o ⊥ (λ import. brought import.kind ≡ x)) (sym at) is)))
      ]

      claims_from : AllClaimTruly m s → misses_claimed s.missing ≡ false → (x : Item) → IsReached m pushed x → IsNamedBack m x
      claims_from all missed x r i import at is =
          let met : IsMet s (brought import.kind) = subst (IsMet s) (sym is) (reached_met x r (claimed_fits missed x r i import at is)) in
          subst (λ y. import_in m y.space y.id ≡ Some i) is (all i import at met)

      pub linked_from : AreLinked m s → AllReached m pushed (Linked m)
      linked_from all x r = record {
        own = all_of (IsOwnLinked m) own_past (λ y high. own_high y.space y.id high) all.0 x r;
        named_back = claims_from all.1 all.2 x r;
      }

      -- the import that brings an item that wasn't given out isn't named by it
      unnamed : (j : Item) → (FitsIn (counts_of m) j → ⊥) → (i : ℕ) (o : Option Import) → item_at m.imports i ≡ o → MatchOption o ⊥ (λ import. brought import.kind ≡ j) → IsNamedBack m j → ⊥
      unnamed j past i None at is named = is
      unnamed j past i (Some import) at is named = (let none : None ≡ Some i = sym (import_past j.space j.id past) ∙ named i import at is in cc)

      none_missed : AllReached m pushed (Linked m) → (o : Option Item) → Lacks (counts_of m) (Root m pushed) (Refers m) (record { item = o; claimed = s.missing.claimed }) → is_one_claimed s.missing.claimed o ≡ false
      none_missed all None one = refl
      none_missed all (Some j) one = elim (claimed_or_not s.missing.claimed j) as (λ _. is_claimed s.missing.claimed j ≡ false) [
        | inl is ↦ (let by = ((claims j).0 is).1 in absurd (unnamed j one.1 by.0 (item_at m.imports by.0) refl by.2 (all j one.0).named_back))
        | inr not ↦ not
      ]

      pub linked_met : AllReached m pushed (Linked m) → AreLinked m s
      linked_met all = (
        λ x low met. (all x (met_reached x met)).own,
        λ i import at met. (all (brought import.kind) (met_reached (brought import.kind) met)).named_back i import at refl,
        none_missed all s.missing.item h.missing,
      )

      pub not_linked : (b : Bool) → b ≡ false → Decides b (AreLinked m s) → AllReached m pushed (Linked m) → ⊥
      not_linked b fails d all = false≢true (sym fails ∙ d.1 (linked_met all))

      pub are_linked : (b : Bool) → b ≡ true → Decides b (AreLinked m s) → AllReached m pushed (Linked m)
      are_linked b so d = linked_from (d.0 so)

    pub trees_from : HoldsMet (FormsTree m) s → AllReached m pushed (FormsTree m)
    trees_from all = all_of (FormsTree m) (λ x past. tree_past x.space x.id past) (λ x high. tree_high x.space x.id high) all

    pub trees_met : AllReached m pushed (FormsTree m) → HoldsMet (FormsTree m) s
    trees_met all x low met = all x (met_reached x met)

    pub not_trees : (b : Bool) → b ≡ false → Decides b (HoldsMet (FormsTree m) s) → AllReached m pushed (FormsTree m) → ⊥
    not_trees b fails d all = false≢true (sym fails ∙ d.1 (trees_met all))

    pub are_trees : (b : Bool) → b ≡ true → Decides b (HoldsMet (FormsTree m) s) → AllReached m pushed (FormsTree m)
    are_trees b so d = trees_from (d.0 so)

    -- one that doesn't live, or that names another past its group
    module _ (grouped : AreGrouped m.types) where
      missing_reached : (i : Item) → s.missing.item ≡ Some i → IsReached m pushed i × (FitsIn (counts_of m) i → ⊥)
      missing_reached i is = (let one = subst (λ (o : Option Item). Lacks (counts_of m) (Root m pushed) (Refers m) (record { item = o; claimed = s.missing.claimed })) is h.missing in (one.0, one.1))

      dead_found : (space : Space) → FailsIn (Stands m) s space → AllReached m pushed (λ x. x.space ≡ space → Stands m x) → ⊥
      dead_found space (inl fails) all = fails (λ x is met. all x (met_reached x met) is)
      dead_found space (inr (i, missing, is)) all = (let d = missing_reached i missing in d.1 (lives_fit m grouped i (all i d.0 is).0))

      pub dead_answered : (answer : Option Space) (space : Space) → answer ≡ Some space → MatchOption answer (HoldsMet (Stands m) s × (s.missing.item ≡ None)) (FailsIn (Stands m) s) → AllReached m pushed (λ x. x.space ≡ space → Stands m x) → ⊥
      dead_answered answer space is said = dead_found space (subst (λ (o : Option Space). MatchOption o (HoldsMet (Stands m) s × (s.missing.item ≡ None)) (FailsIn (Stands m) s)) is said)

    pub has_form : (form : Form) → HasMetForm m s form → HasForm m pushed form
    has_form forms.SharedGlobal fails = λ all. fails (λ x low met. all x (met_reached x met))
    has_form forms.ExactType fails = λ all. fails (λ x low met. all x (met_reached x met), λ id met. all (item spaces.Local id) (met_reached (item spaces.Local id) met))
    has_form forms.SharedTable fails = fails
    has_form forms.SharedType fails = fails
    has_form forms.ContinuationType fails = fails
    has_form forms.Select fails = fails

    module _ (none : s.missing.item ≡ None) where
      all_fit : (x : Item) → IsReached m pushed x → FitsIn (counts_of m) x
      all_fit = subst (λ (o : Option Item). Lacks (counts_of m) (Root m pushed) (Refers m) (record { item = o; claimed = s.missing.claimed })) none h.missing

      all_reached : (P : Space → ℕ → Type 0) → HoldsMet (λ x. P x.space x.id) s → ((id : ℕ) → IsMet s (item spaces.Local id) → P spaces.Local id) → ((id : ℕ) → FitsIn (counts_of m) (item spaces.Label id) → P spaces.Label id)
          → AllReached m pushed (λ x. P x.space x.id)
      all_reached P all local label x r = elim (low_or x) as (λ _. P x.space x.id) [
        | inl low ↦ all x low (reached_met x r (all_fit x r))
        | inr high ↦ high_cases (λ space. IsMet s (item space x.id) → FitsIn (counts_of m) (item space x.id) → P space x.id) (λ met _. local x.id met) (λ _ fits. label x.id fits) x.space high (reached_met x r (all_fit x r)) (all_fit x r)
      ]

      no_label : {P : Type 0} (id : ℕ) → FitsIn (counts_of m) (item spaces.Label id) → P
      no_label id fits = absurd (omega (arith, fits))

      pub all_stand : HoldsMet (Stands m) s → AllReached m pushed (Stands m)
      all_stand all = all_reached (λ space id. LivesIn m space id × StaysIn m space id) all (λ id met. (met_fits (item spaces.Local id) met, tt)) (λ id fits. no_label id fits)

      pub all_unshared : HoldsMet (IsUnshared m) s → AllReached m pushed (IsUnshared m)
      all_unshared all = all_reached (IsUnsharedIn m) all (λ id met. tt) (λ id fits. tt)

      pub all_inexact : AreInexact m s → AllReached m pushed (HasNoExact m)
      all_inexact all = all_reached (HasNoExactIn m) all.0 all.1 (λ id fits. tt)

      pub all_met : (x : Item) → IsMet s x ↔ IsReached m pushed x
      all_met x = (met_reached x, λ r. reached_met x r (all_fit x r))

    pub well_sound : AreClaims m s.missing.claimed → AreWell m s → IsSound m pushed
    well_sound claims w =
        let stand = all_stand w.flagged (λ x low met. (w.items x met).1.0) in record {
          linked = linked_from claims (λ x low met. (w.items x met).0.0, w.claims, ap (is_one_claimed s.missing.claimed) w.flagged);
          trees = trees_from (λ x low met. (w.items x met).0.1);
          live = λ x r. (stand x r).0;
          grouped = λ x r. (stand x r).1;
          unshared = all_unshared w.flagged (λ x low met. (w.items x met).1.1.0);
          inexact = all_inexact w.flagged (λ x low met. (w.items x met).1.1.1, λ id met. (w.items (item spaces.Local id) met).1.1.1);
        }

none_if : (o : Option Item) → is_some o ≡ false → o ≡ None
none_if None is = refl
none_if (Some i) is = absurd (false≢true (sym is))

-- nothing is wrong, where no test fails
module _ (m : Module) (s : State) where
  pub well_if : (held c : Bool) → held ≡ true → OnTrue held (AllHold (IsWell m) s) → is_some s.missing.item ≡ false → Decides c (AllClaimTruly m s) → OnTrue c (AreWell m s)
  well_if held c is holds none claimed = OnTrue_from c (AreWell m s) (λ e. record { flagged = none_if s.missing.item none; items = OnTrue_at is holds; claims = claimed.0 e })

-- what an answer says
pub holds_not : (holds : Item → Type 0) (s : State) (answer : Option Space) (space : Space) → answer ≡ Some space → HoldsOrFails holds s answer → ((x : Item) → x.space ≡ space → IsMet s x → holds x) → ⊥
holds_not holds s answer space is h = (subst (HoldsOrFails holds s) is h).1

pub holds_all : (holds : Item → Type 0) (s : State) (answer : Option Space) → answer ≡ None → HoldsOrFails holds s answer → HoldsMet holds s
holds_all holds s answer is h = subst (HoldsOrFails holds s) is h

-- what fails of two that are asked
module _ (m : Module) (s : State) where
  pub dead_first : (space : Space) → (((x : Item) → x.space ≡ space → IsMet s x → Lives m x) → ⊥) → FailsIn (Stands m) s space
  dead_first space fails = inl (λ all. fails (λ x is met. (all x is met).0))

  pub dead_last : HoldsMet (Lives m) s → s.missing.item ≡ None → (answer : Option Space) → HoldsOrFails (StaysInGroup m) s answer → MatchOption answer (HoldsMet (Stands m) s × (s.missing.item ≡ None)) (FailsIn (Stands m) s)
  dead_last live none None all = (λ x low met. (live x low met, all x low met), none)
  dead_last live none (Some space) fails = inl (λ all. fails.1 (λ x is met. (all x is met).1))

-- what is answered where nothing fails, and where something does
module _ (m : Module) (s : State) where
  pub stood : (answer : Option Space) → answer ≡ None → MatchOption answer (HoldsMet (Stands m) s × (s.missing.item ≡ None)) (FailsIn (Stands m) s) → HoldsMet (Stands m) s × (s.missing.item ≡ None)
  stood answer is said = subst (λ (o : Option Space). MatchOption o (HoldsMet (Stands m) s × (s.missing.item ≡ None)) (FailsIn (Stands m) s)) is said

  pub formed : (answer : Option Form) (form : Form) → answer ≡ Some form → MatchOption answer (HoldsMet (IsUnshared m) s × AreInexact m s) (HasMetForm m s) → HasMetForm m s form
  formed answer form is said = subst (λ (o : Option Form). MatchOption o (HoldsMet (IsUnshared m) s × AreInexact m s) (HasMetForm m s)) is said

  pub unformed : (answer : Option Form) → answer ≡ None → MatchOption answer (HoldsMet (IsUnshared m) s × AreInexact m s) (HasMetForm m s) → HoldsMet (IsUnshared m) s × AreInexact m s
  unformed answer is said = subst (λ (o : Option Form). MatchOption o (HoldsMet (IsUnshared m) s × AreInexact m s) (HasMetForm m s)) is said

-- nothing is wrong, where each of these holds of all that is reached
pub all_sound : (m : Module) (pushed : List Item) → AllReached m pushed (Linked m) → AllReached m pushed (FormsTree m) → AllReached m pushed (Stands m) → AllReached m pushed (IsUnshared m) → AllReached m pushed (HasNoExact m) → IsSound m pushed
all_sound m pushed linked trees stand unshared inexact = record {
  linked = linked;
  trees = trees;
  live = λ x r. (stand x r).0;
  grouped = λ x r. (stand x r).1;
  unshared = unshared;
  inexact = inexact;
}
