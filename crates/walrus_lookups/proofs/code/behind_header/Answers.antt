use Rattle.std.proofs.Common.{◌≡◌, ◌++◌, ℕ, List, subst}
use Rattle.std.specs.Prelude.{MatchOption}
use Rattle.std.proofs.lemmas.Slice.Eq.{strip_prefix_is}
use Rattle.std.proofs.lemmas.Bool.Decides.{Decides-eqb}
use Rattle.walrus_lookups.proofs.code.behind_header.Goals as goal

pub returns : goal.returns
returns c =
    let file = c.args.file.now in
    subst (λ (front : List ℕ). MatchOption c.strip_prefix.result ((sections : List ℕ) → file ≡ front ++ sections → ⊥) (λ sections. file ≡ front ++ sections.now)) c.as_slice.ensures
    (strip_prefix_is Decides-eqb file c.as_slice.result.now c.strip_prefix.result c.strip_prefix.ensures.cases)
