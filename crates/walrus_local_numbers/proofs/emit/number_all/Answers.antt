use Rattle.std.proofs.Common.{ℕ, List, ◌∙◌, ◌++◌, ap, length, map, refl}
use Rattle.walrus_index_maps.specs.Views.{indices}
use Rattle.wasm_normal_form.specs.Locals.{Key}
use Rattle.walrus_local_numbers.specs.Declared.{with_numbers}
use Rattle.walrus_local_numbers.proofs.Numbering.{numbers_on}
use Rattle.walrus_local_numbers.proofs.emit.number_all.Goals as goal

pub returns-clause-declared : goal.returns-clause-declared
returns-clause-declared c = c.in-Ok.ensures (indices c.args.maps.now) c.in_ok-number.ensures.numbered

pub returns-in-Err-clause-declared : goal.returns-in-Err-clause-declared
returns-in-Err-clause-declared c = c.in-Err.ensures (indices c.args.maps.now) c.in_ok-number.ensures.numbered

pub returns-clause-numbered : goal.returns-clause-numbered
returns-clause-numbered c =
    let old = indices c.args.maps.now in
    let keys = (c.in-Ok.ensures old c.in_ok-number.ensures.numbered).0 in
    let ids = c.as_slice-2.ensures.value ∙ c.in_ok-ids.ensures ∙ ap (λ (z : List Key). map (λ (k : Key). k.1) z) (c.as_slice.ensures.value ∙ keys) in
    numbers_on c.args.function (length c.args.args.now) c.args.args.now c.as_slice-2.result.now old (indices c.number.new.maps) (indices c.number-2.new.maps) c.in_ok-number.ensures.numbered c.in_ok-number-2.ensures.numbered refl
    ∙ ap (λ (z : List ℕ). record old { locals = with_numbers c.args.function 0 (c.args.args.now ++ z) old.locals }) ids
