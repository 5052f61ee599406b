-- Runs of a body, of its normal form, and of renamed ones.
use Rattle.std.proofs.Common.{ℕ, ◌≡◌, false, List, [], ◌∷◌, map, refl, sym, ap, subst, ◌∙◌, inr}
use Rattle.std.specs.Prelude.{Some, None, slice_get}
use Rattle.wasm_operators.specs.declared.block_type.BlockType.{BlockType}
use Rattle.wasm_operators.specs.Items.{Space, Functions, Locals, Labels}
use Rattle.wasm_operators.specs.Operators.{Seen}
use Rattle.wasm_operators.specs.Names.{Renaming, renamed_operator}
use Rattle.wasm_operators.specs.NameLaws.{same, after}
use Rattle.wasm_operators.specs.Renamed.{same_is_same, renames_twice}
use Rattle.wasm_normal_form.specs.Roles.{Placed}
use Rattle.wasm_normal_form.specs.Normal.{picked, normal, normal_ops}
use Rattle.wasm_normal_form.specs.Bodies.{Body, used_keys, new_number, normal_body}
use Rattle.wasm_normal_form.specs.Laws.{TreeIsOne, NormalNests}
use Rattle.wasm_runs.specs.Outcomes.{Outcome, Enter, Ending}
use Rattle.wasm_runs.specs.Programs.{Signature, Executed, cut, executed, operators, unplaced, nested, functions_of, callee_of}
use Rattle.wasm_runs.specs.Traces.{Traces, starts, BodyTrace}
use Rattle.wasm_runs.specs.Renamed.{Maps, within, renamed_signature, renamed_executed, renamed_outcome, Fits}
use Rattle.wasm_runs.proofs.Ends.{each_body_ends, one_body_trace}
use Rattle.wasm_run_laws.specs.Stands.{normal_code, renamed_code, items_alone, KeepsSignatures, AreTypedSo, PicksKeep}
use Rattle.wasm_run_laws.specs.Laws.{RunsAs, RunsRenamed, NormalRunsTheSame, local_numbers, NormalBodyRunsTheSame, KeepsLabels, BodyRunsRenamed, NormalRunsRenamed, NormalBodiesStand}
use Rattle.wasm_run_laws.proofs.Images.{each_is, AllOf, Images, SameCallee, Good, IsGood, functions_renamed}
use Rattle.wasm_run_laws.proofs.Alike.{runs_alike}
use Rattle.wasm_run_laws.proofs.Nested.{nested_image, all_of, both_of, each_of, nested_all, normal_all, normal_unplaced, as_written, written_picked, operators_of, normal_renamed}
use Rattle.wasm_run_laws.proofs.Entries.{executed_renamed, executed_picked, executed_with_pick, locals_renamed, ops_typed_so}

-- ---- nothing renamed

-- of any number
abbrev pub Any : ℕ → Type 0
Any f = Unit {0}

pub any_fits : (outcomes : List Outcome) → Fits Any outcomes
any_fits [] = tt
any_fits (Enter f ∷ outcomes) = (tt, any_fits outcomes)
any_fits (_ ∷ outcomes) = (tt, any_fits outcomes)

pub outcome_is : (o : Outcome) → renamed_outcome (λ f. f) o ≡ o
outcome_is (Enter f) = refl
outcome_is _ = refl

-- ---- bodies

-- functions that have no body in either
callee_cut : {E : Type 0} (i : Images E) → ((g : ℕ) → i.here.body g ≡ None) → ((g : ℕ) → i.there.body g ≡ None) → (f : ℕ → ℕ) (xs : List ℕ) → SameCallee Any i (slice_get xs 0) (slice_get (map f xs) 0)
callee_cut i h k f [] = tt
callee_cut i h k f (x ∷ xs) = inr (h x, k (f x))

module _ (one : TreeIsOne) (nests : NormalNests) (here there : BlockType → Signature) (r : Renaming) (labels : KeepsLabels r) (pick : BlockType → BlockType) where
  -- an operator is executed there as `entry` says of it here
  abbrev ShownSo : (Executed → Executed) → Seen → Type 0
  ShownSo entry o = executed there (renamed_operator r o) ≡ entry (executed here o)

  -- a body and one in normal form and renamed, whatever stands in the trace
  body_runs : (entry : Executed → Executed) (picks : (o : Seen) → entry (executed here (picked pick o)) ≡ entry (executed here o)) (ops : List Seen) → AllOf (ShownSo entry) (normal pick (nested ops))
      → (outcomes : List Outcome) (bound : ℕ) (events : List Executed) (ending : Ending)
      → BodyTrace here ops outcomes bound events ending → BodyTrace there (renamed_code r (normal_code pick ops)) outcomes bound (map entry events) ending
  body_runs entry picks ops shows outcomes bound events ending run =
      let i : Images Executed = record { here = cut here; there = cut there; function = λ f. f; items = λ f. r; pick = pick; entry = entry; labels = λ f. labels; picks = λ f. picks } in
      let w = normal pick (nested ops) in
      let good : (o : Seen) → ShownSo entry o → Unit {0} → Good Any i 0 o = λ o e u. record {
        calls =
            let Q : List ℕ → Type 0 = λ xs. SameCallee Any i (callee_of o) (slice_get xs 0) in
            subst Q (sym (functions_renamed r o)) (callee_cut i (λ g. refl) (λ g. refl) (r Functions) (functions_of o));
        shows = e;
      } in
      let goods : IsGood Any i 0 (nested ops) false = both_of (ShownSo entry) (λ o. Unit {0}) (Good Any i 0) good w shows (each_of (λ o. Unit {0}) (λ o. tt) w) in
      let P : List Outcome → Type 0 = λ os. Traces (cut there) (starts 0 (Some (renamed_code r (normal_code pick ops))) os bound) (map entry events) ending in
      subst P (each_is (renamed_outcome (λ f. f)) outcome_is outcomes)
      (runs_alike Executed Any i (λ g k. tt) 0 (Some ops) (Some (renamed_code r (normal_code pick ops))) (nested_image r one nests pick ops, goods) outcomes (any_fits outcomes) bound events ending run)

  shown_of : (w : _) → AllOf (AreTypedSo r here there) w → AllOf (ShownSo (renamed_executed r)) w
  shown_of w h = both_of (AreTypedSo r here there) (λ o. Unit {0}) (ShownSo (renamed_executed r)) (λ o k u. executed_renamed r here there o k) w h (each_of (λ o. Unit {0}) (λ o. tt) w)

  normal_body_renamed : PicksKeep r pick here → (ops : List Seen) → AllOf (AreTypedSo r here there) (normal pick (nested ops)) → RunsRenamed r here there ops (renamed_code r (normal_code pick ops))
  normal_body_renamed keeps ops types outcomes bound events ending run =
      body_runs (renamed_executed r) (executed_picked r here pick keeps) ops (shown_of (normal pick (nested ops)) types) outcomes bound events ending run

pub normal_runs_renamed : TreeIsOne → NormalNests → NormalRunsRenamed
normal_runs_renamed one nests here there r labels pick keeps ops types outcomes bound events ending run =
    normal_body_renamed one nests here there r labels pick keeps ops (all_of (AreTypedSo r here there) (normal pick (nested ops)) types) outcomes bound events ending run

-- ---- a body and its normal form

module _ (one : TreeIsOne) (nests : NormalNests) (signature : BlockType → Signature) (pick : BlockType → BlockType) (keeps : KeepsSignatures pick signature) where
  to_normal : (ops : List Placed) → RunsAs signature (operators ops) (operators (normal_ops pick ops))
  to_normal ops outcomes bound events ending run =
      let code : List Seen = normal_code pick (operators ops) in
      let w = normal pick (nested (operators ops)) in
      let renamed : BodyTrace signature (renamed_code same code) outcomes bound (map (λ (v : Executed). v) events) ending =
      body_runs one nests signature signature same (λ n. refl) pick (λ v. v) (executed_with_pick signature pick keeps) (operators ops)
      (each_of (λ o. executed signature (renamed_operator same o) ≡ executed signature o) (λ o. ap (executed signature) (same_is_same o)) w) outcomes bound events ending run in
      let P : List Executed → Type 0 = λ vs. BodyTrace signature (renamed_code same code) outcomes bound vs ending in
      let Q : List Seen → Type 0 = λ os. BodyTrace signature os outcomes bound events ending in
      subst Q (each_is (renamed_operator same) same_is_same code ∙ normal_unplaced pick ops) (subst P (each_is (λ (v : Executed). v) (λ v. refl) events) renamed)

  -- since each has one trace
  from_normal : (ops : List Placed) → RunsAs signature (operators (normal_ops pick ops)) (operators ops)
  from_normal ops outcomes bound events ending run =
      let own = each_body_ends signature (operators ops) outcomes bound in
      let is = one_body_trace signature (operators (normal_ops pick ops)) outcomes bound own.0 events own.1 ending (to_normal ops outcomes bound own.0 own.1 own.2) run in
      let P : List Executed → Type 0 = λ vs. BodyTrace signature (operators ops) outcomes bound vs own.1 in
      let Q : Ending → Type 0 = λ e. BodyTrace signature (operators ops) outcomes bound events e in
      subst Q is.1 (subst P is.0 own.2)

  renumbered_runs : (params : ℕ) (b : Body)
      → RunsRenamed (local_numbers (new_number params (used_keys params b.locals (normal_ops pick b.ops)))) signature signature (operators b.ops) (operators (normal_body pick params b).ops)
  renumbered_runs params b outcomes bound events ending run =
      let number : ℕ → ℕ = new_number params (used_keys params b.locals (normal_ops pick b.ops)) in
      let r : Renaming = local_numbers number in
      let Q : List Seen → Type 0 = λ os. BodyTrace signature os outcomes bound (map (renamed_executed r) events) ending in
      subst Q (ap (renamed_code r) (normal_unplaced pick b.ops) ∙ sym (locals_renamed number (normal_ops pick b.ops)))
      (normal_runs_renamed one nests signature signature r (λ n. refl) pick (λ ty. ap (renamed_signature r) (keeps ty)) (operators b.ops)
      (ops_typed_so number signature (normal_code pick (operators b.ops))) outcomes bound events ending run)

pub normal_runs_the_same : TreeIsOne → NormalNests → NormalRunsTheSame
normal_runs_the_same one nests signature pick keeps ops = (to_normal one nests signature pick keeps ops, from_normal one nests signature pick keeps ops)

pub normal_body_runs_the_same : TreeIsOne → NormalNests → NormalBodyRunsTheSame
normal_body_runs_the_same one nests signature pick keeps params b outcomes bound events ending run = renumbered_runs one nests signature pick keeps params b outcomes bound events ending run

-- ---- a renamed body: both run as their normal forms

pub body_runs_renamed : TreeIsOne → NormalNests → BodyRunsRenamed
body_runs_renamed one nests here there r labels ops types outcomes bound events ending run =
    let keeps : (o : Seen) → AreTypedSo r here there o → AreTypedSo r here there (picked as_written o) = λ o h. subst (AreTypedSo r here there) (sym (written_picked o)) h in
    let w = normal_all (AreTypedSo r here there) as_written keeps (nested ops) false false (nested_all (AreTypedSo r here there) ops types) in
    let others : List Seen = renamed_code r ops in
    let e : renamed_code r (normal_code as_written ops) ≡ operators (normal_ops as_written (map unplaced others)) = sym (normal_renamed r ops) in
    let Q : List Seen → Type 0 = λ os. BodyTrace there os outcomes bound (map (renamed_executed r) events) ending in
    subst Q (operators_of others)
    (from_normal one nests there as_written (λ ty. refl) (map unplaced others) outcomes bound (map (renamed_executed r) events) ending
    (subst Q e (normal_body_renamed one nests here there r labels as_written (λ ty. refl) ops w outcomes bound events ending run)))

-- ---- normal forms with new numbers of locals, and then renamed

-- renamings that give the same numbers are one
same_renamings : (p q : Renaming) → ((space : Space) (n : ℕ) → p space n ≡ q space n) → p ≡ q
same_renamings p q h = λ i space n. h space n i

twice : (r s : Renaming) (ops : List Seen) → renamed_code s (renamed_code r ops) ≡ renamed_code (after s r) ops
twice r s [] = refl
twice r s (o ∷ ops) =
    ap (λ (x : Seen). x ∷ renamed_code s (renamed_code r ops)) (renames_twice r s o) ∙ ap (λ (xs : List Seen). renamed_operator (after s r) o ∷ xs) (twice r s ops)

both_numbers : (r : Maps) (f : ℕ) (number : ℕ → ℕ) → ((n : ℕ) → r.locals f n ≡ number n) → (space : Space) (n : ℕ) → within r f space n ≡ after (items_alone r) (local_numbers number) space n
both_numbers r f number h Locals n = h n
both_numbers r f number h Labels n = refl
both_numbers r f number h _ n = refl

pub normal_bodies_stand : NormalBodiesStand
normal_bodies_stand r f pick params b h =
    let number : ℕ → ℕ = new_number params (used_keys params b.locals (normal_ops pick b.ops)) in
    ap (λ (s : Renaming). renamed_code s (normal_code pick (operators b.ops))) (same_renamings (within r f) (after (items_alone r) (local_numbers number)) (both_numbers r f number h))
    ∙ ap (renamed_code (after (items_alone r) (local_numbers number))) (normal_unplaced pick b.ops)
    ∙ sym (twice (local_numbers number) (items_alone r) (operators (normal_ops pick b.ops))) ∙ ap (renamed_code (items_alone r)) (sym (locals_renamed number (normal_ops pick b.ops)))
