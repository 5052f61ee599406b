use Rattle.std.specs.Prelude.{◌≡◌, ◌||◌, Bool, true, false, codes}
use Rattle.std.specs.BTreeMap.{is_at}
use Rattle.std.specs.Cmp.Lexicographic.{slice_cmp}
use Rattle.std.specs.Ordering.{nat_cmp}
use Rattle.std.proofs.Common.{ap, sym, ◌∙◌}
use Rattle.std.proofs.lemmas.Map.Text.{is_eq-slice_cmp}
use Rattle.walrus_tables_into.proofs.customs.is_payload.Goals as goal

pub returns-else-eq : goal.returns-else-eq
returns-else-eq c =
    let name = c.args.custom.now.name.now in
    let other : is_at (slice_cmp nat_cmp name) (codes "name") ≡ false = is_eq-slice_cmp name (codes "name") ∙ sym c.eq.ensures ∙ c.if-eq.false in
    c.eq-else-eq.ensures ∙ sym (is_eq-slice_cmp name (codes "producers")) ∙ ap (λ (b : Bool). b || is_at (slice_cmp nat_cmp name) (codes "producers")) (sym other)
