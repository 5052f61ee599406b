-- Lists of what indices name, of which only some name a local.
use Rattle.std.proofs.Common.{◌≡◌, ◌≢◌, ◌∙◌, ◌+◌, ◌-◌, ◌<◌, ◌≤◌, ◌==◌, ℕ, zero, suc, Bool, true, false, List, [], ◌∷◌, ◌++◌, length, take, replicate, slice_get, Some, None, Result, Ok, Err, MatchResult, if◌then◌else◌, refl, ap, sym, subst, nat_lt, arith, inl, inr, append-nil, get_or}
use Rattle.std.specs.List.{filter}
use Rattle.std.specs.List.Sorted.{IsSearchInRange, IsBinarySearchResult, IsNonDecreasingBy}
use Rattle.std.specs.Ordering.{nat_cmp, ordering_index}
use Rattle.std.proofs.lemmas.Cmp.{ranked}
use Rattle.std.proofs.lemmas.Option.{slice_get_past}
use Rattle.std.proofs.lemmas.List.{append_assoc}
use Rattle.std.proofs.lemmas.List.Sorted.{IsNonDecreasingBy-from_default}
use Rattle.std.proofs.lemmas.Bool.Decides.{nat_tests}
use Rattle.std.proofs.lemmas.Bool.{cases_Bool, cases_lt, eqb-true, eqb-false, ne_eqb, eq-eqb, le-ltb, lt-ltb}
use Rattle.walrus_index_maps.proofs.RunLemmas.{past_run, rest_cut, run_cut, run_next}
use Rattle.walrus_index_maps.specs.Runs.{IsRising, named_in, nowhere, run_from, spread}

-- ---- rising indices

pub rising_ends : (least past : ℕ) (xs : List (ℕ × ℕ)) → IsRising least past xs → least ≤ past
rising_ends least past [] h = h
rising_ends least past (x ∷ xs) h = let le = rising_ends (suc x.0) past xs h.1 in let first = h.0 in omega (arith, le, first)

-- none is left between an index and itself
pub none_between : (least : ℕ) (xs : List (ℕ × ℕ)) → IsRising least least xs → xs ≡ []
none_between least [] h = refl
none_between least (x ∷ xs) h = let le = rising_ends (suc x.0) least xs h.1 in let first = h.0 in absurd (omega (arith, le, first))

pub rising_on : (least past more : ℕ) (xs : List (ℕ × ℕ)) → past ≤ more → IsRising least past xs → IsRising least more xs
rising_on least past more [] le h = let p : least ≤ past = h in omega (arith, le, p)
rising_on least past more (x ∷ xs) le h = (h.0, rising_on (suc x.0) past more xs le h.1)

pub rising_pushed : (least past id : ℕ) (xs : List (ℕ × ℕ)) → IsRising least past xs → IsRising least (past + 1) (xs ++ (past, id) ∷ [])
rising_pushed least past id [] h = let p : least ≤ past = h in (p, omega arith)
rising_pushed least past id (x ∷ xs) h = (h.0, rising_pushed (suc x.0) past id xs h.1)

-- ---- what indices name

pub none_past : (index least past : ℕ) (xs : List (ℕ × ℕ)) → IsRising least past xs → past ≤ index → named_in index xs ≡ nowhere
none_past index least past [] h le = refl
none_past index least past (x ∷ xs) h le =
    let end = rising_ends (suc x.0) past xs h.1 in
    let other : x.0 ≢ index = λ e. omega (arith, end, le, e) in
    ap (λ (b : Bool). if b then x.1 else named_in index xs) (ne_eqb x.0 index other) ∙ none_past index (suc x.0) past xs h.1 le

pub pushed_other : (index past id : ℕ) (xs : List (ℕ × ℕ)) → index < past → named_in index (xs ++ (past, id) ∷ []) ≡ named_in index xs
pushed_other index past id [] lt = let other : past ≢ index = λ e. omega (arith, lt, e) in ap (λ (b : Bool). if b then id else nowhere) (ne_eqb past index other)
pushed_other index past id (x ∷ xs) lt = ap (λ (n : ℕ). if x.0 == index then x.1 else n) (pushed_other index past id xs lt)

pub pushed_own : (least past id : ℕ) (xs : List (ℕ × ℕ)) → IsRising least past xs → named_in past (xs ++ (past, id) ∷ []) ≡ id
pushed_own least past id [] h = ap (λ (b : Bool). if b then id else nowhere) (eq-eqb past past refl)
pushed_own least past id (x ∷ xs) h =
    let end = rising_ends (suc x.0) past xs h.1 in
    let other : x.0 ≢ past = λ e. omega (arith, end, e) in
    ap (λ (b : Bool). if b then x.1 else named_in past (xs ++ (past, id) ∷ [])) (ne_eqb x.0 past other) ∙ pushed_own (suc x.0) past id xs h.1

-- ---- lists of that

pub spread_length : (index n : ℕ) (xs : List (ℕ × ℕ)) → length (spread index n xs) ≡ n
spread_length index zero xs = refl
spread_length index (suc n) xs = ap suc (spread_length (suc index) n xs)

pub spread_get : (index n i : ℕ) (xs : List (ℕ × ℕ)) → i < n → slice_get (spread index n xs) i ≡ Some (named_in (index + i) xs)
spread_get index zero i xs lt = absurd (omega (arith, lt))
spread_get index (suc n) zero xs lt = ap (λ (k : ℕ). Some (named_in k xs)) (omega arith)
spread_get index (suc n) (suc i) xs lt = spread_get (suc index) n i xs (omega (arith, lt)) ∙ ap (λ (k : ℕ). Some (named_in k xs)) (omega arith)

-- one more index names a local
pub spread_pushed : (index n past id least : ℕ) (xs : List (ℕ × ℕ)) → index + n ≡ past → IsRising least past xs
    → spread index (suc n) (xs ++ (past, id) ∷ []) ≡ spread index n xs ++ id ∷ []
spread_pushed index zero past id least xs e h =
    let same : index ≡ past = omega (arith, e) in
    ap (λ (k : ℕ). named_in k (xs ++ (past, id) ∷ []) ∷ []) same ∙ ap (λ (k : ℕ). k ∷ []) (pushed_own least past id xs h)
spread_pushed index (suc n) past id least xs e h =
    ap (λ (k : ℕ). k ∷ spread (suc index) (suc n) (xs ++ (past, id) ∷ [])) (pushed_other index past id xs (omega (arith, e)))
    ∙ ap (λ (l : List ℕ). named_in index xs ∷ l) (spread_pushed (suc index) n past id least xs (omega (arith, e)) h)

-- so many more name none
pub spread_skipped : (index n more past least : ℕ) (xs : List (ℕ × ℕ)) → index + n ≡ past → IsRising least past xs → (m : ℕ) → m ≡ n + more
    → spread index m xs ≡ spread index n xs ++ replicate more nowhere
spread_skipped index zero zero past least xs e h m is = ap (λ (k : ℕ). spread index k xs) (let z : m ≡ 0 = omega (arith, is) in z)
spread_skipped index zero (suc more) past least xs e h m is =
    let le : past ≤ index = omega (arith, e) in
    ap (λ (k : ℕ). spread index k xs) (let z : m ≡ suc more = omega (arith, is) in z)
    ∙ ap (λ (k : ℕ). k ∷ spread (suc index) more xs) (none_past index least past xs h le)
    ∙ ap (λ (l : List ℕ). nowhere ∷ l) (spread_skipped (suc index) zero more (suc past) least xs (omega (arith, e)) (rising_on least past (suc past) xs (omega arith) h) more (omega arith))
spread_skipped index (suc n) more past least xs e h m is =
    ap (λ (k : ℕ). spread index k xs) (let z : m ≡ suc (n + more) = omega (arith, is) in z)
    ∙ ap (λ (l : List ℕ). named_in index xs ∷ l) (spread_skipped (suc index) n more past least xs (omega (arith, e)) h (n + more) refl)

-- ---- behind a run

pub list_length : (first run n : ℕ) (xs : List (ℕ × ℕ)) → length (run_from first run ++ spread run n xs) ≡ run + n
list_length first run n xs = go first run (spread run n xs) ∙ ap (λ (k : ℕ). run + k) (spread_length run n xs)
  where
    go : (first run : ℕ) (ys : List ℕ) → length (run_from first run ++ ys) ≡ run + length ys
    go first zero ys = omega arith
    go first (suc run) ys = omega (arith, go (suc first) run ys)

-- what a list gives for an index that names a local, or none
pub list_get : (first run n i : ℕ) (xs : List (ℕ × ℕ)) → run ≤ i → i < run + n → slice_get (run_from first run ++ spread run n xs) i ≡ Some (named_in i xs)
list_get first run n i xs le lt =
    past_run first run i (spread run n xs) le ∙ spread_get run n (i - run) xs (omega (arith, le, lt)) ∙ ap (λ (k : ℕ). Some (named_in k xs)) (omega (arith, le))

pub list_past : (first run n i : ℕ) (xs : List (ℕ × ℕ)) → run + n ≤ i → slice_get (run_from first run ++ spread run n xs) i ≡ None
list_past first run n i xs le = slice_get_past (run_from first run ++ spread run n xs) i (let many = list_length first run n xs in omega (arith, le, many))

-- ---- a search

rising_from : (i least past : ℕ) (xs : List (ℕ × ℕ)) → IsRising least past xs → i < length xs → least ≤ (get_or xs i (0, 0)).0
rising_from i least past [] h lt = absurd (omega (arith, lt))
rising_from zero least past (x ∷ xs) h lt = h.0
rising_from (suc i) least past (x ∷ xs) h lt =
    let le = rising_from i (suc x.0) past xs h.1 (omega (arith, lt)) in
    let first = h.0 in
    omega (arith, le, first)

rising_at : (i j least past : ℕ) (xs : List (ℕ × ℕ)) → IsRising least past xs → i < j → j < length xs → (get_or xs i (0, 0)).0 < (get_or xs j (0, 0)).0
rising_at i j least past [] h lt inside = absurd (omega (arith, inside))
rising_at i zero least past (x ∷ xs) h lt inside = absurd (omega (arith, lt))
rising_at zero (suc j) least past (x ∷ xs) h lt inside = let le = rising_from j (suc x.0) past xs h.1 (omega (arith, inside)) in omega (arith, le)
rising_at (suc i) (suc j) least past (x ∷ xs) h lt inside = rising_at i j (suc x.0) past xs h.1 (omega (arith, lt)) (omega (arith, inside))

named_at : (i least past : ℕ) (xs : List (ℕ × ℕ)) → IsRising least past xs → i < length xs → named_in (get_or xs i (0, 0)).0 xs ≡ (get_or xs i (0, 0)).1
named_at i least past [] h lt = absurd (omega (arith, lt))
named_at zero least past (x ∷ xs) h lt = ap (λ (b : Bool). if b then x.1 else named_in x.0 xs) (eq-eqb x.0 x.0 refl)
named_at (suc i) least past (x ∷ xs) h lt =
    let at = (get_or xs i (0, 0)).0 in
    let le : suc x.0 ≤ at = rising_from i (suc x.0) past xs h.1 (omega (arith, lt)) in
    ap (λ (b : Bool). if b then x.1 else named_in at xs) (ne_eqb x.0 at (λ e. omega (arith, le, e))) ∙ named_at i (suc x.0) past xs h.1 (omega (arith, lt))

named_none : (index : ℕ) (xs : List (ℕ × ℕ)) → ((i : ℕ) → i < length xs → (get_or xs i (0, 0)).0 ≢ index) → named_in index xs ≡ nowhere
named_none index [] h = refl
named_none index (x ∷ xs) h =
    ap (λ (b : Bool). if b then x.1 else named_in index xs) (ne_eqb x.0 index (h 0 (omega arith)))
    ∙ named_none index xs (λ i lt. h (suc i) (omega (arith, lt)))

module _ (xs : List (ℕ × ℕ)) (least past index : ℕ) (h : IsRising least past xs) where
  rises : IsNonDecreasingBy (λ (x : ℕ × ℕ). ordering_index (nat_cmp x.0 index)) xs
  rises = IsNonDecreasingBy-from_default (λ (x : ℕ × ℕ). ordering_index (nat_cmp x.0 index)) xs (0, 0) (λ i j le inside.
      let indices_rise : (get_or xs i (0, 0)).0 ≤ (get_or xs j (0, 0)).0 = elim (cases_lt i j) as (λ _. (get_or xs i (0, 0)).0 ≤ (get_or xs j (0, 0)).0) [
        | inl lt ↦ let less = rising_at i j least past xs h lt inside in omega (arith, less)
        | inr ge ↦ let same : i ≡ j = omega (arith, le, ge) in let at : (get_or xs i (0, 0)).0 ≡ (get_or xs j (0, 0)).0 = ap (λ (k : ℕ). (get_or xs k (0, 0)).0) same in omega (arith, at)
      ] in
      grind (arith, nat_tests))

  -- it finds what the index names, or that it names none
  pub searched : (r : Result ℕ ℕ) → IsSearchInRange r (length xs) → IsBinarySearchResult (λ (x : ℕ × ℕ). nat_cmp x.0 index) xs r
      → MatchResult r (λ at. named_in index xs ≡ (get_or xs at (0, 0)).1) (λ at. named_in index xs ≡ nowhere)
  searched (Ok at) inside equal =
      let same : (get_or xs at (0, 0)).0 ≡ index = ranked _ index _ (sym (equal (0, 0))) in
      ap (λ (k : ℕ). named_in k xs) (sym same) ∙ named_at at least past xs h inside
  searched (Err at) inside parted = named_none index xs (λ i lt. elim (cases_lt i at) as (λ _. (get_or xs i (0, 0)).0 ≢ index) [
    | inl front ↦ let less : (get_or xs i (0, 0)).0 < index = ranked _ index _ (sym ((parted rises).0 i (0, 0) (omega arith) front)) in λ e. omega (arith, less, e)
    | inr behind ↦ let more : index < (get_or xs i (0, 0)).0 = ranked _ index _ (sym ((parted rises).1 i (0, 0) behind lt)) in λ e. omega (arith, more, e)
  ])

-- ---- cut back

abbrev pub in_front : ℕ → List (ℕ × ℕ) → List (ℕ × ℕ)
in_front count xs = filter (λ (x : ℕ × ℕ). nat_lt x.0 count) xs

none_in_front : (count least past : ℕ) (xs : List (ℕ × ℕ)) → IsRising least past xs → count ≤ least → in_front count xs ≡ []
none_in_front count least past [] h le = refl
none_in_front count least past (x ∷ xs) h le =
    let first = h.0 in
    ap (λ (b : Bool). if b then x ∷ in_front count xs else in_front count xs) (le-ltb x.0 count (omega (arith, first, le)))
    ∙ none_in_front count (suc x.0) past xs h.1 (omega (arith, first, le))

pub rising_cut : (count least past : ℕ) (xs : List (ℕ × ℕ)) → least ≤ count → IsRising least past xs → IsRising least count (in_front count xs)
rising_cut count least past [] le h = le
rising_cut count least past (x ∷ xs) le h = elim (cases_lt x.0 count) as (λ _. IsRising least count (in_front count (x ∷ xs))) [
  | inl lt ↦
      let F : List (ℕ × ℕ) → Type 0 = λ ys. IsRising least count ys in
      let first : IsRising least count (x ∷ in_front count xs) = (h.0, rising_cut count (suc x.0) past xs (omega (arith, lt)) h.1) in
      subst (λ (b : Bool). F (if b then x ∷ in_front count xs else in_front count xs)) (sym (lt-ltb x.0 count lt)) first
  | inr ge ↦
      let F : List (ℕ × ℕ) → Type 0 = λ ys. IsRising least count ys in
      let none : in_front count xs ≡ [] = none_in_front count (suc x.0) past xs h.1 (omega (arith, ge)) in
      subst (λ (b : Bool). F (if b then x ∷ in_front count xs else in_front count xs)) (sym (le-ltb x.0 count ge)) (subst F (sym none) le)
]

pub named_cut : (index count : ℕ) (xs : List (ℕ × ℕ)) → index < count → named_in index (in_front count xs) ≡ named_in index xs
named_cut index count [] lt = refl
named_cut index count (x ∷ xs) lt = elim (cases_lt x.0 count) as (λ _. named_in index (in_front count (x ∷ xs)) ≡ named_in index (x ∷ xs)) [
  | inl front ↦
      ap (λ (b : Bool). named_in index (if b then x ∷ in_front count xs else in_front count xs)) (lt-ltb x.0 count front)
      ∙ ap (λ (n : ℕ). if x.0 == index then x.1 else n) (named_cut index count xs lt)
  | inr behind ↦
      ap (λ (b : Bool). named_in index (if b then x ∷ in_front count xs else in_front count xs)) (le-ltb x.0 count behind)
      ∙ named_cut index count xs lt ∙ sym (ap (λ (b : Bool). if b then x.1 else named_in index xs) (ne_eqb x.0 index (λ e. omega (arith, e, lt, behind))))
]

spread_cut : (index n m count : ℕ) (xs : List (ℕ × ℕ)) → index + n ≡ count → n ≤ m → spread index n (in_front count xs) ≡ take n (spread index m xs)
spread_cut index zero m count xs e le = refl
spread_cut index (suc n) zero count xs e le = absurd (omega (arith, le))
spread_cut index (suc n) (suc m) count xs e le =
    ap (λ (k : ℕ). k ∷ spread (suc index) n (in_front count xs)) (named_cut index count xs (omega (arith, e)))
    ∙ ap (λ (l : List ℕ). named_in index xs ∷ l) (spread_cut (suc index) n m count xs (omega (arith, e)) (omega (arith, le)))

-- within the run, or behind it
pub list_cut_run : (first run n count : ℕ) (xs ys : List (ℕ × ℕ)) → count ≤ run → run_from first count ++ spread count (count - count) ys ≡ take count (run_from first run ++ spread run n xs)
list_cut_run first run n count xs ys le =
    ap (λ (k : ℕ). run_from first count ++ spread count k ys) (let z : count - count ≡ 0 = omega arith in z) ∙ append-nil (run_from first count) ∙ run_cut first run count (spread run n xs) le

pub list_cut_rest : (first run n count : ℕ) (xs : List (ℕ × ℕ)) → run ≤ count → count ≤ run + n
    → run_from first run ++ spread run (count - run) (in_front count xs) ≡ take count (run_from first run ++ spread run n xs)
list_cut_rest first run n count xs le within =
    ap (λ (l : List ℕ). run_from first run ++ l) (spread_cut run (count - run) n count xs (omega (arith, le)) (omega (arith, le, within)))
    ∙ rest_cut first run count (spread run n xs) le

-- ---- one more

-- the list as it stands in memory
abbrev pub listed : ℕ → ℕ → ℕ → List (ℕ × ℕ) → List ℕ
listed first run count xs = run_from first run ++ spread run (count - run) xs

many_listed : (first run count least : ℕ) (xs : List (ℕ × ℕ)) → run ≤ count → count ≡ length (listed first run count xs)
many_listed first run count least xs le = let many = list_length first run (count - run) xs in omega (arith, many, le)

pub length_listed : (first run count : ℕ) (xs : List (ℕ × ℕ)) → IsRising run count xs → count ≡ length (listed first run count xs)
length_listed first run count xs h = many_listed first run count 0 xs (rising_ends run count xs h)

-- the first one
pub first_rises : (run count : ℕ) (xs : List (ℕ × ℕ)) → count ≡ 0 → IsRising run count xs → IsRising 1 1 xs
first_rises run count xs e h =
    let le = rising_ends run count xs h in
    let run_is : run ≡ 0 = omega (arith, e, le) in
    let none : xs ≡ [] = none_between 0 xs (subst (λ (k : ℕ). IsRising k 0 xs) run_is (subst (λ (k : ℕ). IsRising run k xs) e h)) in
    let one : 1 ≤ 1 = omega arith in
    subst (IsRising 1 1) (sym none) one

pub pushed_first : (first run count id number : ℕ) (xs : List (ℕ × ℕ)) → count ≡ 0 → IsRising run count xs → number ≡ id
    → (0 ≡ length (listed first run count xs)) × (run_from number 1 ++ spread 1 (1 - 1) xs ≡ listed first run count xs ++ id ∷ [])
pushed_first first run count id number xs e h n =
    let le = rising_ends run count xs h in
    let run_is : run ≡ 0 = omega (arith, e, le) in
    let left : count - run ≡ 0 = omega (arith, e) in
    let old_is : listed first run count xs ≡ [] = ap (λ (k : ℕ). run_from first run ++ spread run k xs) left ∙ ap (λ (k : ℕ). run_from first k ++ []) run_is in (
      sym (ap (λ (l : List ℕ). length l) old_is),
      ap (λ (k : ℕ). k ∷ []) n ∙ sym (ap (λ (l : List ℕ). l ++ id ∷ []) old_is),
    )

-- one that goes on with those at the beginning
pub run_rises : (run count : ℕ) (xs : List (ℕ × ℕ)) → run ≡ count → IsRising run count xs → IsRising (run + 1) (count + 1) xs
run_rises run count xs e h =
    let none : xs ≡ [] = none_between count xs (subst (λ (k : ℕ). IsRising k count xs) e h) in
    let le : run + 1 ≤ count + 1 = omega (arith, e) in
    subst (IsRising (run + 1) (count + 1)) (sym none) le

pub pushed_run : (first run count id : ℕ) (xs : List (ℕ × ℕ)) → run ≡ count → IsRising run count xs → first + run ≡ id
    → (count ≡ length (listed first run count xs)) × (listed first (run + 1) (count + 1) xs ≡ listed first run count xs ++ id ∷ [])
pushed_run first run count id xs e h next =
    let left : count - run ≡ 0 = omega (arith, e) in
    let more : count + 1 - (run + 1) ≡ 0 = omega (arith, e) in
    let one : run + 1 ≡ suc run = omega arith in
    let old_is : listed first run count xs ≡ run_from first run = ap (λ (k : ℕ). run_from first run ++ spread run k xs) left ∙ append-nil (run_from first run) in
    let new_is : listed first (run + 1) (count + 1) xs ≡ run_from first (suc run) =
    ap (λ (k : ℕ). run_from first (run + 1) ++ spread (run + 1) k xs) more ∙ append-nil (run_from first (run + 1)) ∙ ap (run_from first) one in (
      length_listed first run count xs h,
      new_is ∙ sym (run_next first run id next) ∙ sym (ap (λ (l : List ℕ). l ++ id ∷ []) old_is),
    )

-- any other
pub pushed_rest : (first run count id number : ℕ) (xs : List (ℕ × ℕ)) → IsRising run count xs → number ≡ id
    → (count ≡ length (listed first run count xs)) × (listed first run (count + 1) (xs ++ (count, number) ∷ []) ≡ listed first run count xs ++ id ∷ [])
pushed_rest first run count id number xs h n =
    let le = rising_ends run count xs h in
    let more : count + 1 - run ≡ suc (count - run) = omega (arith, le) in
    let total : run + (count - run) ≡ count = omega (arith, le) in (
      length_listed first run count xs h,
      ap (λ (k : ℕ). run_from first run ++ spread run k (xs ++ (count, number) ∷ [])) more
          ∙ ap (λ (l : List ℕ). run_from first run ++ l) (spread_pushed run (count - run) count number run xs total h)
          ∙ sym (append_assoc (run_from first run) (spread run (count - run) xs) (number ∷ []))
          ∙ ap (λ (k : ℕ). listed first run count xs ++ k ∷ []) n,
    )

-- so many that name none
pub skipped_rest : (first run count more : ℕ) (xs : List (ℕ × ℕ)) → IsRising run count xs → listed first run (count + more) xs ≡ listed first run count xs ++ replicate more nowhere
skipped_rest first run count more xs h =
    let le = rising_ends run count xs h in
    let total : run + (count - run) ≡ count = omega (arith, le) in
    let all : count + more - run ≡ count - run + more = omega (arith, le) in
    ap (λ (l : List ℕ). run_from first run ++ l) (spread_skipped run (count - run) more count run xs total h (count + more - run) all)
    ∙ sym (append_assoc (run_from first run) (spread run (count - run) xs) (replicate more nowhere))
