use Rattle.std.proofs.Common.{subst, ◌≡◌, true, List}
use Rattle.std.specs.Cmp.Lexicographic.{pointwise, lists_equiv}
use Rattle.wasm_types.specs.declared.subtype.SubType.{SubType}
use Rattle.wasm_types.specs.contracts.subtype.SubTypePartialEq.TheImpl.{ghosts as sub_eq}
use Rattle.wasm_types.specs.contracts.subtype.SubTypeEq.TheImpl.Laws.{laws-law}
use Rattle.wasm_types.proofs.Equal.{types_same}
use Rattle.wasm_types.proofs.laws.groups_are_equal_as_lists.Goals as goal

pub returns : goal.returns
returns c = λ a b. (
  λ e. types_same a.types b.types e,
  λ is. subst (λ (l : List SubType). pointwise sub_eq.eq a.types l ≡ true) is ((lists_equiv laws-law).refl a.types),
)
