-- Lemmas: the locals that a text names are those that the body's operators name.
use Rattle.std.proofs.Common.{ℕ, zero, suc, ◌≡◌, Bool, true, false, List, [], ◌∷◌, ◌++◌, Contains, Option, Some, refl, sym, ap, ◌∙◌, arith}
use Rattle.std.specs.Prelude.{◌==◌, ◌&&◌, ◌||◌, not, map}
use Rattle.std.specs.List.{filter, flat_map}
use Rattle.std.specs.Option.{unwrap_or}
use Rattle.std.proofs.lemmas.Bool.{eqb-true, eq-eqb, false≢true}
use Rattle.wasm_operators.specs.Operators.{Seen}
use Rattle.wasm_normal_form.specs.Bodies.{local_in as local_item, locals_named}
use Rattle.wasm_normal_form.specs.Locals.{Key, in_order, numbered}
use Rattle.walrus_instr.specs.declared.seq.InstrSeq.{InstrSeq}
use Rattle.walrus_builder.specs.Functions.{seqs_of}
use Rattle.walrus_tree.specs.Text.{operators}
use Rattle.walrus_body_trees.specs.walrus_pairing.Looks.{Or}
use Rattle.walrus_body_trees.specs.walrus_pairing.Laws.{all}
use Rattle.walrus_body_trees.specs.walrus_meaning.walrus_body_writer.Spelled.{AreWritten, Text}
use Rattle.walrus_body_laws.specs.WritingLaws.{placed_of, text_ops}
use Rattle.walrus_body_laws.specs.Naming.{LocalsAgree}
use Rattle.walrus_body_laws.specs.Renaming.{TextsAreRenamed}
use Rattle.walrus_body_names.specs.Names.{HaveSame, local_in, text_names}
use Rattle.walrus_local_numbers.specs.Declared.{has_number, types_of}
use Rattle.walrus_body_trees.specs.walrus_meaning.Bodies.{named_locals, own_operators, own_piece, own_seen}
use Rattle.walrus_body_laws.specs.EmissionLaws.{LocalsAreMeant}
use Rattle.walrus_body_laws.proofs.Meant.{piece_is}

-- ---- the operators of a text name what the body's do

named_is : (b : List InstrSeq) (t : Text) → AreWritten all b t → locals_named (text_ops all b t) ≡ named_locals (map (own_piece b) t)
named_is b [] w = refl
named_is b (p ∷ ps) w =
    ap (λ (a : Or (Option Seen)). locals_named (placed_of a p.1 ++ text_ops all b ps)) (piece_is b p.0 w.0)
    ∙ ap (λ (rest : List ℕ). flat_map local_item (own_seen b p.0).items ++ rest) (named_is b ps w.1)

got : (ns : List ℕ) → map (λ (n : Option ℕ). unwrap_or n 0) (map Some ns) ≡ ns
got [] = refl
got (n ∷ ns) = ap (λ (rest : List ℕ). n ∷ rest) (got ns)

text_named : LocalsAgree → (b : List InstrSeq) (t : Text) → AreWritten all b t → text_names local_in t ≡ named_locals (map (own_piece b) t)
text_named agree b t w =
    sym (got (text_names local_in t))
    ∙ ap (λ (ns : List (Option ℕ)). map (λ (n : Option ℕ). unwrap_or n 0) ns) (agree all b t w)
    ∙ got (locals_named (text_ops all b t))
    ∙ named_is b t w

-- ---- the same names pass the same tests

or_true : (b : Bool) → (b || true) ≡ true
or_true true = refl
or_true false = refl

has_of : (k : ℕ) (ns : List ℕ) → Contains ns k → has_number ns k ≡ true
has_of k [] (i, below, is) = absurd (omega (arith, below))
has_of k (n ∷ ns) (zero, below, is) = ap (λ (b : Bool). b || has_number ns k) (eq-eqb n k is)
has_of k (n ∷ ns) (suc i, below, is) = ap (λ (b : Bool). (n == k) || b) (has_of k ns (i, omega (arith, below), is)) ∙ or_true (n == k)

of_has : (k : ℕ) (ns : List ℕ) → has_number ns k ≡ true → Contains ns k
of_has k [] h = absurd (false≢true h)
of_has k (n ∷ ns) h = by (n == k) refl (of_has k ns)
  where
    by : (b : Bool) → (n == k) ≡ b → (has_number ns k ≡ true → Contains ns k) → Contains (n ∷ ns) k
    by true e more = (0, omega arith, eqb-true n k e)
    by false e more =
        let c = more (sym (ap (λ (b : Bool). b || has_number ns k) e) ∙ h) in
        let below = c.1 in
        (suc c.0, omega (arith, below), c.2)

same_test : (xs ys : List ℕ) → HaveSame xs ys → (k : ℕ) → has_number xs k ≡ has_number ys k
same_test xs ys same k = by (has_number xs k) (has_number ys k) refl refl
  where
    by : (a b : Bool) → has_number xs k ≡ a → has_number ys k ≡ b → has_number xs k ≡ has_number ys k
    by true true e f = e ∙ sym f
    by false false e f = e ∙ sym f
    by true false e f = absurd (false≢true (sym f ∙ has_of k ys ((same k).0 (of_has k xs e))))
    by false true e f = absurd (false≢true (sym e ∙ has_of k xs ((same k).1 (of_has k ys f))))

pub locals_meant : LocalsAgree → TextsAreRenamed → LocalsAreMeant
locals_meant agree renamed r look sends keeps local w locals used same =
    let b = seqs_of local.builder in
    let t = operators b 0 in
    let from = renamed r look sends keeps b t w in
    let test : (k : ℕ) → has_number used k ≡ has_number (named_locals (own_operators local)) k =
    λ k. same_test used (text_names local_in t) same k ∙ ap (λ (ns : List ℕ). has_number ns k) (text_named agree b t from.0) in
    ap (λ (passes : ℕ → Bool). in_order (filter (λ (key : Key). passes key.1 && not (has_number local.args.items key.1)) (numbered 0 (types_of locals)))) (λ i k. test k i)
