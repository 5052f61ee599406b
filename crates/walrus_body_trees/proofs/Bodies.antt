-- Lemmas: bodies that meet the grammar.
use Rattle.std.proofs.Common.{◌≡◌, ℕ, ◌<◌, Bool, true, false, List, [], ◌∷◌, ◌++◌, All, subst, map, refl, sym, ap, ◌∙◌}
use Rattle.std.specs.Prelude.{fold}
use Rattle.std.proofs.lemmas.List.Elements.{All-nil, All-cons, All-head, All-tail}
use Rattle.wasm_features.specs.declared.WasmFeatures.{WasmFeatures}
use Rattle.walrus_meaning.specs.walrus_local_function.walrus_body_locals.walrus_body_nesting.wasm_formats.Bytes.{either_type}
use Rattle.walrus_meaning.specs.walrus_local_function.walrus_body_locals.walrus_body_nesting.wasm_formats.Lists.{SpellsEntries}
use Rattle.walrus_meaning.specs.walrus_local_function.walrus_body_parser.wasm_operators.Operators.{Seen}
use Rattle.walrus_meaning.specs.walrus_local_function.walrus_body_parser.wasm_operators.Spellings.{SpellsEither, SpellsOperator}
use Rattle.walrus_meaning.specs.walrus_local_function.walrus_body_locals.wasm_body_grammar.wasm_operators.Bytes.{operator_bytes}
use Rattle.wasm_operators.specs.Ranges.{OperatorFits}
use Rattle.wasm_operators.specs.RangeLaws.{SpelledIfFits}
use Rattle.walrus_meaning.specs.walrus_local_function.walrus_body_locals.wasm_body_grammar.Rules.{Around}
use Rattle.walrus_meaning.specs.walrus_local_function.walrus_body_locals.wasm_body_grammar.Bodies.{Parts, Point, is_closed, next_point, next_total, operator, operator_in, opened}
use Rattle.walrus_meaning.specs.walrus_local_function.walrus_body_locals.wasm_normal_form.Trees.{Tree, flat, open_in, tree_of}
use Rattle.walrus_meaning.specs.walrus_local_function.walrus_body_locals.wasm_normal_form.Normal.{normal}
use Rattle.walrus_meaning.specs.walrus_module.walrus_builder.Functions.{seqs_of}
use Rattle.walrus_tree.specs.Text.{operators}
use Rattle.walrus_tree.specs.TextLaws.{TreesAreNested, TextIsPlain}
use Rattle.walrus_meaning.specs.Bodies.{own_piece}
use Rattle.walrus_meaning.specs.walrus_body_writer.walrus_pairing.wasm_operators.declared.block_type.BlockType.{BlockType}
use Rattle.walrus_pairing.specs.Laws.{OperatorComesBack}
use Rattle.walrus_meaning.specs.walrus_local_function.walrus_body_locals.walrus_body_nesting.Opens.{same}
use Rattle.walrus_body_trees.specs.Laws.{BodiesAreTrees, BodiesMeanTheirs, BodiesHoldTheirs, IsBody, meant, ops_of, renamed}
use Rattle.walrus_body_trees.proofs.Counted.{AllFit, Counts, CountsAll, counts, first_counts, normal_counts}
use Rattle.walrus_body_trees.proofs.Standing.{stands_tree}
use Rattle.walrus_meaning.specs.walrus_local_function.walrus_body_parser.walrus_body_steps.Picks.{normal_picked}
use Rattle.walrus_body_trees.proofs.Texts.{body_tells, first_fits, fit_all, normal_fits}
use Rattle.walrus_body_trees.proofs.Sizes.{body_size}

abbrev pub AreSpelled : Type 0
AreSpelled = (features : WasmFeatures) → SpelledIfFits (SpellsOperator features) operator_bytes (OperatorFits features)

pub all_front : (xs ys : List ℕ) → All (λ b. b < 256) (xs ++ ys) → All (λ b. b < 256) xs × All (λ b. b < 256) ys
all_front [] ys h = (All-nil (λ b. b < 256), h)
all_front (x ∷ xs) ys h =
    let rest = all_front xs ys (All-tail (λ b. b < 256) x (xs ++ ys) h) in
    (All-cons (λ b. b < 256) x xs (All-head (λ b. b < 256) x (xs ++ ys) h) rest.0, rest.1)

module _ (spelled : AreSpelled) (a : Around) (locals : ℕ) where
  pub one_fits : (p : Point) (bytes : List ℕ) (x : ℕ × Seen) → All (λ b. b < 256) bytes → (operator_in a locals p).spells bytes x → OperatorFits a.features x.1
  one_fits p bytes x small s = go (is_closed p.frames) s.0
    where
      go : (c : Bool) → either_type c ⊥ ((operator a.features).spells bytes x.1) → OperatorFits a.features x.1
      go true h = absurd h
      go false h = (spelled a.features).only bytes x.1 small (subst (λ o. SpellsEither a.features bytes o) h.1 h.2)

  -- the operators of a body that meets the grammar fit their codes
  pub fit : (ops : List (ℕ × Seen)) (p : Point) (bytes : List ℕ) → All (λ b. b < 256) bytes → SpellsEntries next_point (operator_in a locals) p bytes ops → AllFit a.features ops
  fit [] p bytes small s = tt
  fit (x ∷ xs) p bytes small s =
      let parts = all_front s.0 s.1 (subst (All (λ b. b < 256)) s.2 small) in
      (one_fits p s.0 x parts.0 s.3, fit xs (next_point p x) s.1 parts.1 s.4)

-- what is known of the operators of a body
record Known (a : Around) (parts : Parts) : Type 0 where
  pub fits : AllFit a.features parts.1
  pub counts : CountsAll a.features 1 (open_in (ops_of parts))

known : AreSpelled → (a : Around) (params place : ℕ) (bytes : List ℕ) (parts : Parts) → IsBody a params place bytes parts → Known a parts
known spelled a params place bytes parts (small, spells, rules) =
    let bytes_are = all_front spells.0 spells.1 (subst (All (λ b. b < 256)) spells.2 small) in
    let locals = fold next_total params parts.0.1 in
    let fits = fit spelled a locals parts.1 (opened parts.0.0) spells.1 bytes_are.1 spells.4 in
    record { fits = fits; counts = counts a locals a.features parts.1 (opened parts.0.0) spells.1 fits spells.4 rules.1.0 parts.0.0 }

normal_counted : (a : Around) (pick : BlockType → BlockType) (parts : Parts) → Known a parts → Counts a.features 1 (normal pick (tree_of (ops_of parts)))
normal_counted a pick parts k = normal_counts a.features pick (tree_of (ops_of parts)) 1 false false (first_counts a 0 a.features (open_in (ops_of parts)) 1 k.counts)

pub trees : OperatorComesBack → AreSpelled → BodiesAreTrees
trees back spelled a params place bytes parts is_body s b stands =
    stands_tree back a.features s b _ (normal_counted a same parts (known spelled a params place bytes parts is_body)) stands

pub means : OperatorComesBack → AreSpelled → TreesAreNested → TextIsPlain → BodiesMeanTheirs
means back spelled nested plain a params place bytes parts is_body s r pick naming own local stands =
    let k = known spelled a params place bytes parts is_body in
    let c = normal_counted a same parts k in
    let t = tree_of (ops_of parts) in
    let b = seqs_of local.builder in
    let n = nested b 0 (stands_tree back a.features s b (normal same t) c stands) in
    let fits = normal_fits a.features t false false (first_fits a.features (open_in (ops_of parts)) (fit_all a.features parts.1 parts.0.0 k.fits)) in
    twice (own_piece b) meant (operators b 0)
    ∙ body_tells back plain a.features s r naming pick own b n.rank n.is_rank (normal same t) c fits stands n.ranked
    ∙ ap (λ (u : Tree). map (renamed r) (flat u)) (normal_picked pick t false false)
  where
    twice : {A B C : Type 0} (f : A → B) (g : B → C) (xs : List A) → map g (map f xs) ≡ map (λ x. g (f x)) xs
    twice f g [] = refl
    twice f g (x ∷ xs) = ap (λ l. g (f x) ∷ l) (twice f g xs)

pub holds : OperatorComesBack → AreSpelled → TreesAreNested → TextIsPlain → BodiesHoldTheirs
holds back spelled nested plain a params place bytes parts is_body s pick b stands =
    let c = normal_counted a pick parts (known spelled a params place bytes parts is_body) in
    let t = normal pick (tree_of (ops_of parts)) in
    let n = nested b 0 (stands_tree back a.features s b t c stands) in
    body_size back plain a.features s b n.rank n.is_rank t c stands n.ranked ∙ sym stands.just
