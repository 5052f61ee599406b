-- What is added of a body.
use Rattle.std.proofs.Common.{◌≡◌, ◌∙◌, ◌<◌, ℕ, zero, suc, true, false, List, [], ◌∷◌, length, get_or, Option, Some, Contains, sym, ap, subst, arith}
use Rattle.std.specs.Prelude.{slice_get}
use Rattle.std.proofs.lemmas.Bool.{false≢true}
use Rattle.wasm_formats.specs.declared.fault.Space.TheVariants as spaces
use Rattle.walrus_instr.specs.declared.seq.InstrSeq.{InstrSeq}
use Rattle.walrus_roots.specs.declared.item.Item.{Item}
use Rattle.walrus_roots.specs.Items.{item}
use Rattle.walrus_marks.specs.Marks.{State, is_marked}
use Rattle.walrus_marks.specs.Chains.{IsReached}
use Rattle.walrus_used.specs.Bodies.{SeqNames, seq_counts}
use Rattle.walrus_used.specs.walrus_references.References.{BodyNames, Reaches, Holds, IsEntry, known_items}
use Rattle.walrus_reasons.specs.Added.{Adds}
use Rattle.walrus_reasons.proofs.AddedLemmas.{Below, adds_same, below_all, none_in}

known_in : (b : List InstrSeq) (k j : ℕ) (y : Item) → Contains (known_items j (slice_get b k)) y → k < length b
known_in [] k j y c = absurd (none_in y c)
known_in (s ∷ b) zero j y c = omega arith
known_in (s ∷ b) (suc k) j y c = (let h = known_in b k j y c in omega (arith, h))

pub get_is : {A : Type 0} (xs : List A) (n : ℕ) (x : A) → n < length xs → x ≡ get_or xs n x → slice_get xs n ≡ Some x
get_is [] n x below e = absurd (omega arith)
get_is (y ∷ xs) zero x below e = ap Some (sym e)
get_is (y ∷ xs) (suc n) x below e = get_is xs n x (omega arith) e

pub named_now : (b : List InstrSeq) (n : ℕ) (s : InstrSeq) (m c : List Item) → slice_get b n ≡ Some s → Reaches b n → Adds (λ y. Contains (known_items n (Some s)) y) m c → Adds (SeqNames b n) m c
named_now b n s m c at reached now = adds_same (λ y. Contains (known_items n (Some s)) y) (SeqNames b n) m c (λ y. (
  λ h. (reached, subst (λ (o : Option InstrSeq). Contains (known_items n o) y) (sym at) h),
  λ h. subst (λ (o : Option InstrSeq). Contains (known_items n o) y) at h.1,
)) now

pub all_named : (b : List InstrSeq) (a m : List Item) → Adds (Below (SeqNames b) (length b)) a m → Adds (BodyNames b) a m
all_named b a m before = adds_same (λ y. (k : ℕ) × SeqNames b k y) (BodyNames b) a m (λ y. (λ h. (h.0, h.1.0, h.1.1), λ h. (h.0, (h.1, h.2))))
    (below_all (SeqNames b) (length b) a m (λ k y h. known_in b k k y h.1) before)

-- whether a sequence was reached, as it was marked
pub was_reached : (b : List InstrSeq) (r : State) (n : ℕ) → IsReached (seq_counts b) IsEntry (Holds b) r → is_marked r.met.marks (item spaces.Label n) ≡ true → Reaches b n
was_reached b r n h marked = ((h.marked (item spaces.Label n)).0 marked).0

pub was_not : (b : List InstrSeq) (r : State) (n : ℕ) → n < length b → IsReached (seq_counts b) IsEntry (Holds b) r → is_marked r.met.marks (item spaces.Label n) ≡ false → Reaches b n → ⊥
was_not b r n below h unmarked reached = false≢true (sym unmarked ∙ (h.marked (item spaces.Label n)).1 (reached, below))
