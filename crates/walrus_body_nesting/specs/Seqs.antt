-- Lemmas: lists of sequences to which one was added, or of which one was filled.
use Rattle.std.proofs.Common.{ℕ, zero, suc, ◌+◌, ◌<◌, ◌≤◌, ◌≡◌, ◌≢◌, true, false, Bool, List, [], ◌∷◌, ◌++◌, length, Option, Some, if◌then◌else◌, refl, sym, ap, arith, ◌∙◌, length-append, ne_eqb}
use Rattle.std.specs.Prelude.{slice_get}
use Rattle.std.specs.Option.{option_map}
use Rattle.walrus_body_env.specs.walrus_instr.declared.instr.Instr.{Instr}
use Rattle.walrus_body_env.specs.walrus_instr.declared.seq.InstrLocId.{InstrLocId}
use Rattle.walrus_body_env.specs.walrus_instr.declared.seq.InstrSeqType.{InstrSeqType}
use Rattle.walrus_builder.specs.Built.{Seq, edited, filled_with}
use Rattle.walrus_body_nesting.specs.Stands.{with}
use Rattle.walrus_body_nesting.specs.Opens.{Away, Later, Falling, type_at}

get_other : (f : Seq → Seq) (b : List Seq) (k j : ℕ) → j ≢ k → slice_get (edited f b k) j ≡ slice_get b j
get_other f [] k j n = refl
get_other f (s ∷ b) zero zero n = absurd (n refl)
get_other f (s ∷ b) zero (suc j) n = refl
get_other f (s ∷ b) (suc k) zero n = refl
get_other f (s ∷ b) (suc k) (suc j) n = get_other f b k j (λ e. n (ap suc e))

pub get_edited : (f : Seq → Seq) (b : List Seq) (k : ℕ) → k < length b → (s : Seq) × (slice_get (edited f b k) k ≡ Some (f s))
get_edited f [] k l = absurd (omega arith)
get_edited f (s ∷ b) zero l = (s, refl)
get_edited f (s ∷ b) (suc k) l = get_edited f b k (omega arith)

pub length_edited : (f : Seq → Seq) (b : List Seq) (k : ℕ) → length (edited f b k) ≡ length b
length_edited f [] k = refl
length_edited f (s ∷ b) zero = refl
length_edited f (s ∷ b) (suc k) = ap suc (length_edited f b k)

pub get_front : (b c : List Seq) (j : ℕ) → j < length b → slice_get (b ++ c) j ≡ slice_get b j
get_front [] c j l = absurd (omega arith)
get_front (s ∷ b) c zero l = refl
get_front (s ∷ b) c (suc j) l = get_front b c j (omega arith)

pub get_last : (b : List Seq) (s : Seq) → slice_get (b ++ s ∷ []) (length b) ≡ Some s
get_last [] s = refl
get_last (x ∷ b) s = get_last b s

pub length_begun : (b : List Seq) (s : Seq) → length (b ++ s ∷ []) ≡ length b + 1
length_begun b s = length-append b (s ∷ [])

-- a filled sequence keeps its type
type_filled : (is : List (Instr × InstrLocId)) (e : InstrLocId) (b : List Seq) (k j : ℕ) → type_at (edited (filled_with is e) b k) j ≡ type_at b j
type_filled is e [] k j = refl
type_filled is e (s ∷ b) zero zero = refl
type_filled is e (s ∷ b) zero (suc j) = refl
type_filled is e (s ∷ b) (suc k) zero = refl
type_filled is e (s ∷ b) (suc k) (suc j) = type_filled is e b k j

below_away : (n : ℕ) (ks : List ℕ) (j : ℕ) → n ≤ j → Falling n ks → Away j ks
below_away n [] j l h = tt
below_away n (k ∷ ks) j l h = ((λ e. absurd (let q = h.0 in omega (arith, e, l, q))), below_away k ks j (let q = h.0 in omega (arith, l, q)) h.1)

-- what is at or past the bound is none of them
pub away_past : (n : ℕ) (ks : List ℕ) → Falling n ks → Away n ks
away_past n ks h = below_away n ks n (omega arith) h

pub falling_up : (n m : ℕ) (ks : List ℕ) → n ≤ m → Falling n ks → Falling m ks
falling_up n m [] l h = tt
falling_up n m (k ∷ ks) l h = ((let q = h.0 in omega (arith, l, q)), h.1)

type_of_same : (x y : Option Seq) → x ≡ y → option_map (λ (s : Seq). s.ty) x ≡ option_map (λ (s : Seq). s.ty) y
type_of_same x y e = ap (option_map (λ (s : Seq). s.ty)) e

-- once a sequence was added, and is open
pub later_begun : (b : List Seq) (s : Seq) (ids : List ℕ) (later : List Seq) → Later (b ++ s ∷ []) (length b ∷ ids) later → Later b ids later
later_begun b s ids later h = record {
  closed = λ j l a.
      let n : j ≢ length b = λ e. absurd (omega (arith, e, l)) in
      h.closed j (omega (arith, l, length_begun b s)) (n, a) ∙ get_front b (s ∷ []) j l;
  typed = λ j l. h.typed j (omega (arith, l, length_begun b s)) ∙ type_of_same (slice_get (b ++ s ∷ []) j) (slice_get b j) (get_front b (s ∷ []) j l);
}

-- once a sequence was added, and is closed
pub later_added : (b : List Seq) (s : Seq) (ids : List ℕ) (later : List Seq) → Later (b ++ s ∷ []) ids later → Later b ids later
later_added b s ids later h = record {
  closed = λ j l a. h.closed j (omega (arith, l, length_begun b s)) a ∙ get_front b (s ∷ []) j l;
  typed = λ j l. h.typed j (omega (arith, l, length_begun b s)) ∙ type_of_same (slice_get (b ++ s ∷ []) j) (slice_get b j) (get_front b (s ∷ []) j l);
}

-- once an open sequence was filled, and is closed
pub later_filled : (is : List (Instr × InstrLocId)) (e : InstrLocId) (b : List Seq) (k : ℕ) (ids : List ℕ) (later : List Seq) → Later (edited (filled_with is e) b k) ids later → Later b (k ∷ ids) later
later_filled is e b k ids later h = record {
  closed = λ j l a. h.closed j (omega (arith, l, length_edited (filled_with is e) b k)) a.1 ∙ get_other (filled_with is e) b k j a.0;
  typed = λ j l. h.typed j (omega (arith, l, length_edited (filled_with is e) b k)) ∙ type_filled is e b k j;
}

pub later_now : (b : List Seq) (ids : List ℕ) → Later b ids b
later_now b ids = record { closed = λ j l a. refl; typed = λ j l. refl }

some_type : (x y : InstrSeqType) → (let some : InstrSeqType → Option InstrSeqType = λ t. Some t in some x ≡ some y) → x ≡ y
some_type x y e = cc

-- the type of a sequence that is found
pub found_type : (later : List Seq) (k : ℕ) (s : Seq) (ty : InstrSeqType) → slice_get later k ≡ Some s → type_at later k ≡ Some ty → s.ty ≡ ty
found_type later k s ty e h = some_type s.ty ty (sym (type_of_same (slice_get later k) (Some s) e) ∙ h)

pub type_of_found : (b : List Seq) (k : ℕ) (s : Seq) → slice_get b k ≡ Some s → type_at b k ≡ Some s.ty
type_of_found b k s e = type_of_same (slice_get b k) (Some s) e

-- the last one's type, later
pub last_type : (b : List Seq) (s : Seq) (ids : List ℕ) (later : List Seq) (x : Seq) → Later (b ++ s ∷ []) ids later → slice_get later (length b) ≡ Some x → x.ty ≡ s.ty
last_type b s ids later x h found =
    found_type later (length b) x s.ty found (h.typed (length b) (omega (arith, length_begun b s)) ∙ type_of_same (slice_get (b ++ s ∷ []) (length b)) (Some s) (get_last b s))

-- ---- what was met

pub with_met : (n j : ℕ) (met : ℕ → Bool) → n < j → with n met j ≡ met j
with_met n j met l = ap (λ (v : Bool). if v then true else met j) (ne_eqb j n (λ e. absurd (omega (arith, e, l))))

fresh_with : (n : ℕ) (met : ℕ → Bool) → ((j : ℕ) → n ≤ j → met j ≡ false) → (j : ℕ) → n + 1 ≤ j → with n met j ≡ false
fresh_with n met h j l = with_met n j met (omega (arith, l)) ∙ h j (omega (arith, l))

pub fresh_begun : (b : List Seq) (s : Seq) (met : ℕ → Bool) → ((j : ℕ) → length b ≤ j → met j ≡ false) → (j : ℕ) → length (b ++ s ∷ []) ≤ j → with (length b) met j ≡ false
fresh_begun b s met h j l = fresh_with (length b) met h j (omega (arith, l, length_begun b s))

-- what a filled sequence is later
pub filled_later : (b : List Seq) (is : List (Instr × InstrLocId)) (p : InstrLocId) (k : ℕ) (ids : List ℕ) (later : List Seq) → k < length b → Falling k ids → Later (edited (filled_with is p) b k) ids later
    → (s : Seq) × (slice_get later k ≡ Some s) × (s.instrs ≡ is) × (s.end ≡ p)
filled_later b is p k ids later l fa h =
    let at = get_edited (filled_with is p) b k l in
    (filled_with is p at.0, h.closed k (omega (arith, l, length_edited (filled_with is p) b k)) (away_past k ids fa) ∙ at.1, refl, refl)
