-- Lemmas: sixteen bytes are those of the number that they are read as.
use Rattle.std.specs.Prelude.{ℕ, ◌+◌, ◌*◌, ◌/◌, ◌%◌, ◌<◌, ◌≡◌, List, [], ◌∷◌, length, All, refl}
use Rattle.std.specs.List.{AllByRecursion}
use Rattle.std.specs.Int.{w128, to_le_bytes, from_le_bytes}
use Rattle.std.proofs.Common.{ap, sym, ◌∙◌, arith}
use Rattle.std.proofs.lemmas.List.Elements.{recursion_from_All}
use Rattle.std.proofs.Math.Nat.{div-div-eq-div-mul}

-- the lowest byte of what is left, and the rest
step : (n p left b rest : ℕ) → n / p ≡ left → left ≡ b + rest * 256 → b < 256 → (n / p % 256 ≡ b) × (n / (p * 256) ≡ rest)
step n p left b rest is parts small =
    let low : left % 256 ≡ b = omega (arith, parts, small) in
    let high : left / 256 ≡ rest = omega (arith, parts, small) in
    (ap (λ (k : ℕ). k % 256) is ∙ low, sym (div-div-eq-div-mul n p 256) ∙ (ap (λ (k : ℕ). k / 256) is ∙ high))

first : (n b rest : ℕ) → n ≡ b + rest * 256 → b < 256 → (n % 256 ≡ b) × (n / 256 ≡ rest)
first n b rest parts small =
    let low : n % 256 ≡ b = omega (arith, parts, small) in
    let high : n / 256 ≡ rest = omega (arith, parts, small) in
    (low, high)

-- bytes split off one after another
split : (n b0 b1 b2 b3 b4 b5 b6 b7 b8 b9 b10 b11 b12 b13 b14 b15 r1 r2 r3 r4 r5 r6 r7 r8 r9 r10 r11 r12 r13 r14 r15 r16 : ℕ) → n ≡ b0 + r1 * 256 → r1 ≡ b1 + r2 * 256 → r2 ≡ b2 + r3 * 256 → r3 ≡ b3 + r4 * 256 → r4 ≡ b4 + r5 * 256 → r5 ≡ b5 + r6 * 256 → r6 ≡ b6 + r7 * 256 → r7 ≡ b7 + r8 * 256 → r8 ≡ b8 + r9 * 256 → r9 ≡ b9 + r10 * 256 → r10 ≡ b10 + r11 * 256 → r11 ≡ b11 + r12 * 256 → r12 ≡ b12 + r13 * 256 → r13 ≡ b13 + r14 * 256 → r14 ≡ b14 + r15 * 256 → r15 ≡ b15 + r16 * 256 → b0 < 256 → b1 < 256 → b2 < 256 → b3 < 256 → b4 < 256 → b5 < 256 → b6 < 256 → b7 < 256 → b8 < 256 → b9 < 256 → b10 < 256 → b11 < 256 → b12 < 256 → b13 < 256 → b14 < 256 → b15 < 256 → (n % 256) ∷ (n / 256 % 256) ∷ (n / 65536 % 256) ∷ (n / 16777216 % 256) ∷ (n / 4294967296 % 256) ∷ (n / 1099511627776 % 256) ∷ (n / 281474976710656 % 256) ∷ (n / 72057594037927936 % 256) ∷ (n / 18446744073709551616 % 256) ∷ (n / 4722366482869645213696 % 256) ∷ (n / 1208925819614629174706176 % 256) ∷ (n / 309485009821345068724781056 % 256) ∷ (n / 79228162514264337593543950336 % 256) ∷ (n / 20282409603651670423947251286016 % 256) ∷ (n / 5192296858534827628530496329220096 % 256) ∷ (n / 1329227995784915872903807060280344576 % 256) ∷ [] ≡ b0 ∷ b1 ∷ b2 ∷ b3 ∷ b4 ∷ b5 ∷ b6 ∷ b7 ∷ b8 ∷ b9 ∷ b10 ∷ b11 ∷ b12 ∷ b13 ∷ b14 ∷ b15 ∷ []
split n b0 b1 b2 b3 b4 b5 b6 b7 b8 b9 b10 b11 b12 b13 b14 b15 r1 r2 r3 r4 r5 r6 r7 r8 r9 r10 r11 r12 r13 r14 r15 r16 e0 e1 e2 e3 e4 e5 e6 e7 e8 e9 e10 e11 e12 e13 e14 e15 s0 s1 s2 s3 s4 s5 s6 s7 s8 s9 s10 s11 s12 s13 s14 s15 =
    let at_0 = first n b0 r1 e0 s0 in
    let at_1 = step n 256 r1 b1 r2 at_0.1 e1 s1 in
    let at_2 = step n 65536 r2 b2 r3 at_1.1 e2 s2 in
    let at_3 = step n 16777216 r3 b3 r4 at_2.1 e3 s3 in
    let at_4 = step n 4294967296 r4 b4 r5 at_3.1 e4 s4 in
    let at_5 = step n 1099511627776 r5 b5 r6 at_4.1 e5 s5 in
    let at_6 = step n 281474976710656 r6 b6 r7 at_5.1 e6 s6 in
    let at_7 = step n 72057594037927936 r7 b7 r8 at_6.1 e7 s7 in
    let at_8 = step n 18446744073709551616 r8 b8 r9 at_7.1 e8 s8 in
    let at_9 = step n 4722366482869645213696 r9 b9 r10 at_8.1 e9 s9 in
    let at_10 = step n 1208925819614629174706176 r10 b10 r11 at_9.1 e10 s10 in
    let at_11 = step n 309485009821345068724781056 r11 b11 r12 at_10.1 e11 s11 in
    let at_12 = step n 79228162514264337593543950336 r12 b12 r13 at_11.1 e12 s12 in
    let at_13 = step n 20282409603651670423947251286016 r13 b13 r14 at_12.1 e13 s13 in
    let at_14 = step n 5192296858534827628530496329220096 r14 b14 r15 at_13.1 e14 s14 in
    let at_15 = step n 1329227995784915872903807060280344576 r15 b15 r16 at_14.1 e15 s15 in
    λ i. at_0.0 i ∷ at_1.0 i ∷ at_2.0 i ∷ at_3.0 i ∷ at_4.0 i ∷ at_5.0 i ∷ at_6.0 i ∷ at_7.0 i ∷ at_8.0 i ∷ at_9.0 i ∷ at_10.0 i ∷ at_11.0 i ∷ at_12.0 i ∷ at_13.0 i ∷ at_14.0 i ∷ at_15.0 i ∷ []

sixteen : (b0 b1 b2 b3 b4 b5 b6 b7 b8 b9 b10 b11 b12 b13 b14 b15 : ℕ) → b0 < 256 → b1 < 256 → b2 < 256 → b3 < 256 → b4 < 256 → b5 < 256 → b6 < 256 → b7 < 256 → b8 < 256 → b9 < 256 → b10 < 256 → b11 < 256 → b12 < 256 → b13 < 256 → b14 < 256 → b15 < 256 → to_le_bytes w128 (from_le_bytes w128 (b0 ∷ b1 ∷ b2 ∷ b3 ∷ b4 ∷ b5 ∷ b6 ∷ b7 ∷ b8 ∷ b9 ∷ b10 ∷ b11 ∷ b12 ∷ b13 ∷ b14 ∷ b15 ∷ [])) ≡ b0 ∷ b1 ∷ b2 ∷ b3 ∷ b4 ∷ b5 ∷ b6 ∷ b7 ∷ b8 ∷ b9 ∷ b10 ∷ b11 ∷ b12 ∷ b13 ∷ b14 ∷ b15 ∷ []
sixteen b0 b1 b2 b3 b4 b5 b6 b7 b8 b9 b10 b11 b12 b13 b14 b15 s0 s1 s2 s3 s4 s5 s6 s7 s8 s9 s10 s11 s12 s13 s14 s15 =
    let r16 : ℕ = 0 in
    let r15 : ℕ = b15 + r16 * 256 in
    let r14 : ℕ = b14 + r15 * 256 in
    let r13 : ℕ = b13 + r14 * 256 in
    let r12 : ℕ = b12 + r13 * 256 in
    let r11 : ℕ = b11 + r12 * 256 in
    let r10 : ℕ = b10 + r11 * 256 in
    let r9 : ℕ = b9 + r10 * 256 in
    let r8 : ℕ = b8 + r9 * 256 in
    let r7 : ℕ = b7 + r8 * 256 in
    let r6 : ℕ = b6 + r7 * 256 in
    let r5 : ℕ = b5 + r6 * 256 in
    let r4 : ℕ = b4 + r5 * 256 in
    let r3 : ℕ = b3 + r4 * 256 in
    let r2 : ℕ = b2 + r3 * 256 in
    let r1 : ℕ = b1 + r2 * 256 in
    let whole : b0 + b1 * 256 + b2 * 65536 + b3 * 16777216 + b4 * 4294967296 + b5 * 1099511627776 + b6 * 281474976710656 + b7 * 72057594037927936 + b8 * 18446744073709551616 + b9 * 4722366482869645213696 + b10 * 1208925819614629174706176 + b11 * 309485009821345068724781056 + b12 * 79228162514264337593543950336 + b13 * 20282409603651670423947251286016 + b14 * 5192296858534827628530496329220096 + b15 * 1329227995784915872903807060280344576 ≡ b0 + r1 * 256 = omega arith in
    split (b0 + b1 * 256 + b2 * 65536 + b3 * 16777216 + b4 * 4294967296 + b5 * 1099511627776 + b6 * 281474976710656 + b7 * 72057594037927936 + b8 * 18446744073709551616 + b9 * 4722366482869645213696 + b10 * 1208925819614629174706176 + b11 * 309485009821345068724781056 + b12 * 79228162514264337593543950336 + b13 * 20282409603651670423947251286016 + b14 * 5192296858534827628530496329220096 + b15 * 1329227995784915872903807060280344576) b0 b1 b2 b3 b4 b5 b6 b7 b8 b9 b10 b11 b12 b13 b14 b15 r1 r2 r3 r4 r5 r6 r7 r8 r9 r10 r11 r12 r13 r14 r15 r16 whole refl refl refl refl refl refl refl refl refl refl refl refl refl refl refl s0 s1 s2 s3 s4 s5 s6 s7 s8 s9 s10 s11 s12 s13 s14 s15

by_recursion : (bytes : List ℕ) → length bytes ≡ 16 → AllByRecursion (λ b. b < 256) bytes → to_le_bytes w128 (from_le_bytes w128 bytes) ≡ bytes
by_recursion [] long small = absurd (omega arith)
by_recursion (b0 ∷ []) long small = absurd (omega arith)
by_recursion (b0 ∷ b1 ∷ []) long small = absurd (omega arith)
by_recursion (b0 ∷ b1 ∷ b2 ∷ []) long small = absurd (omega arith)
by_recursion (b0 ∷ b1 ∷ b2 ∷ b3 ∷ []) long small = absurd (omega arith)
by_recursion (b0 ∷ b1 ∷ b2 ∷ b3 ∷ b4 ∷ []) long small = absurd (omega arith)
by_recursion (b0 ∷ b1 ∷ b2 ∷ b3 ∷ b4 ∷ b5 ∷ []) long small = absurd (omega arith)
by_recursion (b0 ∷ b1 ∷ b2 ∷ b3 ∷ b4 ∷ b5 ∷ b6 ∷ []) long small = absurd (omega arith)
by_recursion (b0 ∷ b1 ∷ b2 ∷ b3 ∷ b4 ∷ b5 ∷ b6 ∷ b7 ∷ []) long small = absurd (omega arith)
by_recursion (b0 ∷ b1 ∷ b2 ∷ b3 ∷ b4 ∷ b5 ∷ b6 ∷ b7 ∷ b8 ∷ []) long small = absurd (omega arith)
by_recursion (b0 ∷ b1 ∷ b2 ∷ b3 ∷ b4 ∷ b5 ∷ b6 ∷ b7 ∷ b8 ∷ b9 ∷ []) long small = absurd (omega arith)
by_recursion (b0 ∷ b1 ∷ b2 ∷ b3 ∷ b4 ∷ b5 ∷ b6 ∷ b7 ∷ b8 ∷ b9 ∷ b10 ∷ []) long small = absurd (omega arith)
by_recursion (b0 ∷ b1 ∷ b2 ∷ b3 ∷ b4 ∷ b5 ∷ b6 ∷ b7 ∷ b8 ∷ b9 ∷ b10 ∷ b11 ∷ []) long small = absurd (omega arith)
by_recursion (b0 ∷ b1 ∷ b2 ∷ b3 ∷ b4 ∷ b5 ∷ b6 ∷ b7 ∷ b8 ∷ b9 ∷ b10 ∷ b11 ∷ b12 ∷ []) long small = absurd (omega arith)
by_recursion (b0 ∷ b1 ∷ b2 ∷ b3 ∷ b4 ∷ b5 ∷ b6 ∷ b7 ∷ b8 ∷ b9 ∷ b10 ∷ b11 ∷ b12 ∷ b13 ∷ []) long small = absurd (omega arith)
by_recursion (b0 ∷ b1 ∷ b2 ∷ b3 ∷ b4 ∷ b5 ∷ b6 ∷ b7 ∷ b8 ∷ b9 ∷ b10 ∷ b11 ∷ b12 ∷ b13 ∷ b14 ∷ []) long small = absurd (omega arith)
by_recursion (b0 ∷ b1 ∷ b2 ∷ b3 ∷ b4 ∷ b5 ∷ b6 ∷ b7 ∷ b8 ∷ b9 ∷ b10 ∷ b11 ∷ b12 ∷ b13 ∷ b14 ∷ b15 ∷ []) long small = sixteen b0 b1 b2 b3 b4 b5 b6 b7 b8 b9 b10 b11 b12 b13 b14 b15 small.0 small.1.0 small.1.1.0 small.1.1.1.0 small.1.1.1.1.0 small.1.1.1.1.1.0 small.1.1.1.1.1.1.0 small.1.1.1.1.1.1.1.0 small.1.1.1.1.1.1.1.1.0 small.1.1.1.1.1.1.1.1.1.0 small.1.1.1.1.1.1.1.1.1.1.0 small.1.1.1.1.1.1.1.1.1.1.1.0 small.1.1.1.1.1.1.1.1.1.1.1.1.0 small.1.1.1.1.1.1.1.1.1.1.1.1.1.0 small.1.1.1.1.1.1.1.1.1.1.1.1.1.1.0 small.1.1.1.1.1.1.1.1.1.1.1.1.1.1.1.0
by_recursion (b0 ∷ b1 ∷ b2 ∷ b3 ∷ b4 ∷ b5 ∷ b6 ∷ b7 ∷ b8 ∷ b9 ∷ b10 ∷ b11 ∷ b12 ∷ b13 ∷ b14 ∷ b15 ∷ more ∷ bytes) long small = absurd (omega arith)

pub bytes_again : (bytes : List ℕ) → length bytes ≡ 16 → All (λ b. b < 256) bytes → to_le_bytes w128 (from_le_bytes w128 bytes) ≡ bytes
bytes_again bytes long small = by_recursion bytes long (recursion_from_All (λ b. b < 256) bytes small)
