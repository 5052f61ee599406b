-- Lemmas: what is written for a body that was read is its normal form, renamed twice.
use Rattle.std.proofs.Common.{ap, ◌∙◌, refl}
use Rattle.std.specs.Prelude.{◌≡◌, List, [], ◌∷◌, map}
use Rattle.wasm_normal_form.specs.Normal.{normal_ops}
use Rattle.wasm_normal_form.specs.Roles.{Placed, placed}
use Rattle.wasm_operators.specs.Operators.{Seen}
use Rattle.wasm_operators.specs.NameLaws.{RenamesTwice, after}
use Rattle.wasm_operators.specs.Names.{Renaming}
use Rattle.walrus_body_trees.specs.Laws.{BodiesMeanTheirs, meant, ops_of, renamed}
use Rattle.walrus_body_trees.specs.walrus_meaning.Bodies.{own_operators}
use Rattle.wasm_grammar.specs.Modules.{Placed as Meant}
use Rattle.walrus_body_laws.specs.EmissionLaws.{BodiesAreMeant, ReadBodiesAreWritten, sent}

-- what is sent is meant, and then renamed
is_sent : (r : Renaming) (os : List Meant) → map (sent r) os ≡ map (renamed r) (map meant os)
is_sent r [] = refl
is_sent r (o ∷ os) = ap (λ (rest : List Placed). sent r o ∷ rest) (is_sent r os)

twice : RenamesTwice → (r s : Renaming) (os : List Placed) → map (renamed s) (map (renamed r) os) ≡ map (renamed (after s r)) os
twice law r s [] = refl
twice law r s (o ∷ os) =
    ap (λ (op : Seen). placed op o.place ∷ map (renamed s) (map (renamed r) os)) (law r s o.op)
    ∙ ap (λ (rest : List Placed). renamed (after s r) o ∷ rest) (twice law r s os)

pub read_written : BodiesAreMeant → BodiesMeanTheirs → RenamesTwice → ReadBodiesAreWritten
read_written written theirs law a params place bytes parts is s ids pick names own local stands r look sends keeps w =
    written r look sends keeps local w
    ∙ is_sent r (own_operators local)
    ∙ ap (λ (os : List Placed). map (renamed r) os) (theirs a params place bytes parts is s ids pick names own local stands)
    ∙ twice law ids r (normal_ops pick (ops_of parts))
