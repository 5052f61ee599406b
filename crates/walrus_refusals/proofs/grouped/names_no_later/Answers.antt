use Rattle.std.proofs.Common.{◌≡◌, ◌∙◌, ◌++◌, ℕ, Contains, Decides, List, MatchOption, Option, ap, subst, sym}
use Rattle.walrus_forms.specs.Kinds.{kind_names}
use Rattle.walrus_items.specs.Items.{Item as TypeItem, kind_of}
use Rattle.walrus_refusals.specs.Written.{MayName}
use Rattle.walrus_refusals.proofs.grouped.names_no_later.Goals as goal

pub returns : goal.returns
returns c =
    let t = c.args.types.now in
    let id = c.args.id in
    let ok = c.may_name_all.result in
    let named : c.as_slice.result.now ≡ kind_names (kind_of c.get.result.now) =
    c.as_slice.ensures.value ∙ c.in_ok-referenced_types.ensures.added ∙ ap (λ (xs : List ℕ). xs ++ kind_names (kind_of c.get.result.now)) c.new-names.ensures.items in
    subst (λ (o : Option TypeItem). Decides ok (MatchOption o (Unit {0}) (λ ty. (name : ℕ) → Contains (kind_names ty.kind) name → MayName t id name))) (sym c.get.ensures)
    (subst (λ (names : List ℕ). Decides ok ((name : ℕ) → Contains names name → MayName t id name)) named c.may_name_all.ensures)
