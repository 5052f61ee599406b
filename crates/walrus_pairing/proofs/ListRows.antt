-- Lemma: which operators hold lists, row by row of the table.
use Rattle.std.proofs.Common.{◌≡◌, ◌≤◌, ◌∙◌, ℕ, ◌==◌, ◌&&◌, ◌||◌, Bool, true, false, cond, List, [], ◌∷◌, Option, Some, None, inl, inr, refl, sym, ap, subst, nat_le, nat_lt, arith}
use Rattle.std.specs.Option.{option_map_or}
use Rattle.std.proofs.lemmas.Bool.{cases_Bool, or_cases, and_parts, false≢true, eqb-true, leb-true}
use Rattle.wasm_operators.specs.declared.entry.Entry.{Entry}
use Rattle.wasm_operators.specs.Kinds.{takes_memory}
use Rattle.wasm_operators.specs.Table.{Row, find, find_byte, structure_rows, call_rows, plain_rows, fb_rows, fc_rows, fd_rows, fe_rows}
use Rattle.walrus_pairing.specs.Lists.{holds_list, is_one_of_three, ListsAreThree}

lists : Option Entry → Bool
lists e = option_map_or (λ (e : Entry). takes_memory e.kind) e false

-- a row without lists, or of one code, which has this name
row_fits : (ℕ → Bool) → Row → Bool
row_fits named r = cond (takes_memory r.entry.kind) (r.first == r.last && named r.first) true

all_fit : (ℕ → Bool) → List Row → Bool
all_fit named [] = true
all_fit named (r ∷ rs) = row_fits named r && all_fit named rs

between : (first last n : ℕ) → first ≤ n → n ≤ last → first ≡ last → n ≡ first
between first last n low high one = omega arith

quiet : (named : ℕ → Bool) (r : Row) (n : ℕ) → row_fits named r ≡ true → nat_le r.first n && nat_le n r.last ≡ true → named n ≡ false → takes_memory r.entry.kind ≡ false
unfolding row_fits
quiet named r n fits here apart = elim (cases_Bool (takes_memory r.entry.kind)) as (λ _. takes_memory r.entry.kind ≡ false) [
  | inl list ↦
      let is = and_parts (r.first == r.last) (named r.first) (ap (λ (b : Bool). cond b (r.first == r.last && named r.first) true) (sym list) ∙ fits) in
      let at = and_parts (nat_le r.first n) (nat_le n r.last) here in
      let same = between r.first r.last n (leb-true r.first n at.0) (leb-true n r.last at.1) (eqb-true r.first r.last is.0) in
      absurd (false≢true (sym apart ∙ ap named same ∙ is.1))
  | inr none ↦ none
]

none_found : (named : ℕ → Bool) (rows : List Row) (n : ℕ) → all_fit named rows ≡ true → named n ≡ false → lists (find rows n) ≡ false
unfolding lists all_fit
none_found named [] n fit apart = refl
none_found named (r ∷ rs) n fit apart =
    let fits = and_parts (row_fits named r) (all_fit named rs) fit in
    elim (cases_Bool (nat_le r.first n && nat_le n r.last)) as (λ _. lists (find (r ∷ rs) n) ≡ false) [
      | inl here ↦ ap (λ (b : Bool). lists (cond b (Some r.entry) (find rs n))) here ∙ quiet named r n fits.0 here apart
      | inr past ↦ ap (λ (b : Bool). lists (cond b (Some r.entry) (find rs n))) past ∙ none_found named rs n fits.1 apart
    ]

-- in whichever of the three parts the byte lies
in_parts : (a b : Bool) (x y z : Option Entry) → lists x ≡ false → lists y ≡ false → lists z ≡ false → lists (cond a x (cond b y z)) ≡ false
in_parts true b x y z p q r = p
in_parts false true x y z p q r = q
in_parts false false x y z p q r = r

no_byte : (n : ℕ) → is_one_of_three n ≡ false → lists (find_byte n) ≡ false
unfolding structure_rows call_rows plain_rows all_fit row_fits
no_byte n apart = in_parts (nat_lt n 0x10) (nat_lt n 0x28) (find structure_rows n) (find call_rows n) (find plain_rows n)
    (none_found is_one_of_three structure_rows n refl apart) (none_found is_one_of_three call_rows n refl apart) (none_found is_one_of_three plain_rows n refl apart)

AtByte : ℕ → Type 0
AtByte n = lists (find_byte n) ≡ is_one_of_three n

at_named : (n : ℕ) → is_one_of_three n ≡ true → AtByte n
unfolding AtByte lists structure_rows call_rows
at_named n named_so = elim (or_cases (n == 0x0e || n == 0x1c) (n == 0x1f) named_so) as (λ _. AtByte n) [
  | inl other ↦ elim (or_cases (n == 0x0e) (n == 0x1c) other) as (λ _. AtByte n) [
    | inl table ↦ subst AtByte (sym (eqb-true n 0x0e table)) refl
    | inr select ↦ subst AtByte (sym (eqb-true n 0x1c select)) refl
  ]
  | inr try ↦ subst AtByte (sym (eqb-true n 0x1f try)) refl
]

at_byte : (n : ℕ) → lists (find_byte n) ≡ is_one_of_three n
unfolding AtByte
at_byte n = elim (cases_Bool (is_one_of_three n)) as (λ _. lists (find_byte n) ≡ is_one_of_three n) [
  | inl named_so ↦ at_named n named_so
  | inr apart ↦ no_byte n apart ∙ sym apart
]

nowhere : ℕ → Bool
nowhere _ = false

behind : ℕ → ℕ → Option Entry
behind prefix n = cond (prefix == 0xfb) (find fb_rows n) (cond (prefix == 0xfc) (find fc_rows n) (cond (prefix == 0xfd) (find fd_rows n) (cond (prefix == 0xfe) (find fe_rows n) None)))

in_tables : (a b c d : Bool) (w x y z : Option Entry) → lists w ≡ false → lists x ≡ false → lists y ≡ false → lists z ≡ false
    → lists (cond a w (cond b x (cond c y (cond d z None)))) ≡ false
unfolding lists
in_tables true b c d w x y z p q r s = p
in_tables false true c d w x y z p q r s = q
in_tables false false true d w x y z p q r s = r
in_tables false false false true w x y z p q r s = s
in_tables false false false false w x y z p q r s = refl

none_behind : (prefix n : ℕ) → lists (behind prefix n) ≡ false
unfolding behind fb_rows fc_rows fd_rows fe_rows all_fit row_fits nowhere
none_behind prefix n = in_tables (prefix == 0xfb) (prefix == 0xfc) (prefix == 0xfd) (prefix == 0xfe) (find fb_rows n) (find fc_rows n) (find fd_rows n) (find fe_rows n)
    (none_found nowhere fb_rows n refl refl) (none_found nowhere fc_rows n refl refl) (none_found nowhere fd_rows n refl refl) (none_found nowhere fe_rows n refl refl)

pub lists_are_three : ListsAreThree
unfolding lists behind
lists_are_three prefix n = elim (cases_Bool (prefix == 0)) as (λ _. holds_list prefix n ≡ (prefix == 0 && is_one_of_three n)) [
  | inl zero ↦ ap (λ (b : Bool). lists (cond b (find_byte n) (behind prefix n))) zero ∙ at_byte n ∙ ap (λ (b : Bool). b && is_one_of_three n) (sym zero)
  | inr not ↦ ap (λ (b : Bool). lists (cond b (find_byte n) (behind prefix n))) not ∙ none_behind prefix n ∙ ap (λ (b : Bool). b && is_one_of_three n) (sym not)
]
