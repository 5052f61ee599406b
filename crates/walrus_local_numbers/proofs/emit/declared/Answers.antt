use Rattle.std.proofs.Common.{ℕ, Bool, List, ◌≡◌, ◌∙◌, ap, sym, subst}
use Rattle.walrus_index_maps.specs.Views.{indices}
use Rattle.walrus_items.specs.declared.local.Local.{Local}
use Rattle.walrus_local_numbers.specs.Declared.{declared, found_keys, has_lost, has_number}
use Rattle.walrus_local_numbers.specs.Written.{IsUnknown}
use Rattle.walrus_local_numbers.proofs.Numbering.{tests_same}
use Rattle.walrus_local_numbers.proofs.Members.{declared_is}
use Rattle.walrus_local_numbers.proofs.emit.declared.Goals as goal

pub returns : goal.returns
returns c = λ old e.
    let args = c.args.args.now in
    let used = c.args.used.now in
    let same = tests_same args c.args.function old (indices c.args.maps.now) e in
    let all : c.as_slice-locals.result.now ≡ c.args.locals.now = c.as_slice-locals.ensures.value ∙ c.iter.ensures in
    let keys = declared_is c.as_slice-locals.result.now args used c.in-Ok.found.items c.in_ok-keys.keys.items (c.in-Ok.ensures.found ∙ ap (λ (t : ℕ → Bool). found_keys c.as_slice-locals.result.now t used) same) c.in_ok-keys.ensures in
    let known = ap (λ (t : ℕ → Bool). has_lost c.as_slice-locals.result.now t used) (sym same) ∙ c.in-Ok.ensures.known in
    (keys ∙ ap (λ (z : List Local). declared z args used) all, ap (λ (z : List Local). has_lost z (has_number args) used) (sym all) ∙ known)

pub returns-in-Err : goal.returns-in-Err
returns-in-Err c = λ old e.
    let args = c.args.args.now in
    let used = c.args.used.now in
    let same = tests_same args c.args.function old (indices c.args.maps.now) e in
    let all : c.as_slice-locals.result.now ≡ c.args.locals.now = c.as_slice-locals.ensures.value ∙ c.iter.ensures in
    let F : (ℕ → Bool) → Type 0 = λ t. IsUnknown c.as_slice-locals.result.now t used c.in-Err.fault in
    let G : List Local → Type 0 = λ z. IsUnknown z (has_number args) used c.in-Err.fault in
    subst G all (subst F same c.in-Err.ensures.refused)
