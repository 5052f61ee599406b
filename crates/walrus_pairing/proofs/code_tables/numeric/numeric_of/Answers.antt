use Rattle.std.proofs.Common.{None, refl}
use Rattle.walrus_codes.specs.Runs.{in_runs}
use Rattle.walrus_codes.specs.Unary.{unary_bytes, unary_bulks, low_unary_vectors, high_unary_vectors, unary_vector_at}
use Rattle.walrus_codes.specs.Binary.{binary_bytes, binary_bulks, low_binary_vectors, high_binary_vectors, binary_vector_at}
use Rattle.walrus_codes.specs.Ternary.{ternary_vectors}
use Rattle.walrus_pairing.specs.Tables.{unary, binary, ternary}
use Rattle.walrus_pairing.proofs.Tables.{none_outside, none_outside_both, found_at}
use Rattle.walrus_pairing.proofs.code_tables.numeric.numeric_of.Goals as goal

pub returns-in-0-clause-unary : goal.returns-in-0-clause-unary
unfolding unary_bytes
returns-in-0-clause-unary c = rw c.in-0.is (found_at unary refl (in_runs unary_bytes) 69 128 c.args.code.number _ _ c.at.ensures refl
    (none_outside unary_bytes 69 197 c.args.code.number refl))

pub returns-in-252-clause-unary : goal.returns-in-252-clause-unary
unfolding unary_bulks
returns-in-252-clause-unary c = rw c.in-252.is (found_at unary refl (in_runs unary_bulks) 0 23 c.args.code.number _ _ c.at-in-252.ensures refl
    (none_outside unary_bulks 0 23 c.args.code.number refl))

pub returns-in-253-clause-unary : goal.returns-in-253-clause-unary
unfolding low_unary_vectors high_unary_vectors
returns-in-253-clause-unary c = rw c.in-253.is (found_at unary refl unary_vector_at 15 261 c.args.code.number _ _ c.at-in-253.ensures refl
    (none_outside_both low_unary_vectors high_unary_vectors 128 15 276 c.args.code.number refl refl))

pub returns-in-0-clause-binary : goal.returns-in-0-clause-binary
unfolding binary_bytes
returns-in-0-clause-binary c = rw c.in-0.is (found_at binary refl (in_runs binary_bytes) 69 128 c.args.code.number _ _ c.at.ensures refl
    (none_outside binary_bytes 69 197 c.args.code.number refl))

pub returns-in-252-clause-binary : goal.returns-in-252-clause-binary
unfolding binary_bulks
returns-in-252-clause-binary c = rw c.in-252.is (found_at binary refl (in_runs binary_bulks) 0 23 c.args.code.number _ _ c.at-in-252.ensures refl
    (none_outside binary_bulks 0 23 c.args.code.number refl))

pub returns-in-253-clause-binary : goal.returns-in-253-clause-binary
unfolding low_binary_vectors high_binary_vectors
returns-in-253-clause-binary c = rw c.in-253.is (found_at binary refl binary_vector_at 15 261 c.args.code.number _ _ c.at-in-253.ensures refl
    (none_outside_both low_binary_vectors high_binary_vectors 128 15 276 c.args.code.number refl refl))

pub returns-in-253-clause-ternary : goal.returns-in-253-clause-ternary
unfolding ternary_vectors
returns-in-253-clause-ternary c = rw c.in-253.is (found_at ternary refl (in_runs ternary_vectors) 15 261 c.args.code.number _ _ c.at-in-253.ensures refl
    (none_outside ternary_vectors 15 276 c.args.code.number refl))

pub returns-in-0-clause-ternary : goal.returns-in-0-clause-ternary
returns-in-0-clause-ternary c = rw c.in-0.is (found_at ternary refl (λ _. None) 69 128 c.args.code.number _ _ c.at.ensures refl
    (λ _. refl))

pub returns-in-252-clause-ternary : goal.returns-in-252-clause-ternary
returns-in-252-clause-ternary c = rw c.in-252.is (found_at ternary refl (λ _. None) 0 23 c.args.code.number _ _ c.at-in-252.ensures refl
    (λ _. refl))
