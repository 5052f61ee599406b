use Rattle.std.proofs.Common.{ℕ, ◌≡◌, refl, sym, subst}
use Rattle.std.specs.declared.alloc.Global.{Global}
use Rattle.std.specs.declared.vec.Vec.{Vec}
use Rattle.walrus_body_text.specs.walrus_tree.walrus_walks.walrus_instr.walrus_forms.declared.value.RefType.{RefType}
use Rattle.walrus_body_text.specs.walrus_tree.walrus_walks.walrus_instr.declared.instr.Instr.TheVariants as instrs
use Rattle.walrus_body_text.specs.walrus_tree.walrus_walks.walrus_instr.declared.instr.LegacyCatch.{LegacyCatch}
use Rattle.walrus_body_text.specs.walrus_tree.walrus_walks.walrus_instr.declared.instr.TryTableCatch.{TryTableCatch}
use Rattle.walrus_body_writer.proofs.Refused.{IsOther, answered}
use Rattle.walrus_body_text.specs.walrus_tree.walrus_walks.walrus_instr.declared.instr.Instr.{Instr}
use Rattle.walrus_pairing.specs.Seen.{as_seen}
use Rattle.walrus_body_text.specs.Doing.{label_by}
use Rattle.walrus_body_writer.specs.Numbers.{look_of}
use Rattle.walrus_body_writer.specs.Refusals.{Gives, IsLarge, value_in}
use Rattle.walrus_body_writer.specs.Spelled.{written_instr}
use Rattle.walrus_body_writer.proofs.operators.written_of.Goals as goal

pub returns-in-TryTable : goal.returns-in-TryTable
returns-in-TryTable c =
    let look = look_of c.args.numbers.now in
    let F : Instr → Type 0 = λ i. Gives (IsLarge look (value_in c.args.seqs.now i)) (written_instr look c.args.seqs.now (label_by c.args.depths.now.depths.items c.args.depths.now.height) i) (as_seen c.try_table.result) in
    subst F (sym c.in-TryTable.is) (c.try_table.ensures c.in-TryTable.catches (sym c.as_slice.ensures.value))

pub returns-in-BrTable : goal.returns-in-BrTable
returns-in-BrTable c =
    let look = look_of c.args.numbers.now in
    let F : Instr → Type 0 = λ i. Gives (IsLarge look (value_in c.args.seqs.now i)) (written_instr look c.args.seqs.now (label_by c.args.depths.now.depths.items c.args.depths.now.height) i) (as_seen c.br_table.result) in
    subst F (sym c.in-BrTable.is) (c.br_table.ensures look c.args.seqs.now c.in-BrTable.blocks (sym c.as_slice-in-BrTable.ensures.value))

-- what is left is an instruction that holds no sequence and names none
other : (i : Instr)
    → ((k : ℕ) → i ≡ instrs.Block k → ⊥)
    → ((k : ℕ) → i ≡ instrs.Loop k → ⊥)
    → ((k : ℕ) (j : ℕ) → i ≡ instrs.IfElse k j → ⊥)
    → ((k : ℕ) (cs : Vec LegacyCatch Global) → i ≡ instrs.Try k cs → ⊥)
    → ((k : ℕ) (cs : Vec TryTableCatch Global) → i ≡ instrs.TryTable k cs → ⊥)
    → ((k : ℕ) → i ≡ instrs.Br k → ⊥)
    → ((k : ℕ) → i ≡ instrs.BrIf k → ⊥)
    → ((k : ℕ) (ks : Vec ℕ Global) → i ≡ instrs.BrTable k ks → ⊥)
    → ((k : ℕ) → i ≡ instrs.BrOnNull k → ⊥)
    → ((k : ℕ) → i ≡ instrs.BrOnNonNull k → ⊥)
    → ((k : ℕ) (from : RefType) (to : RefType) → i ≡ instrs.BrOnCast k from to → ⊥)
    → ((k : ℕ) (from : RefType) (to : RefType) → i ≡ instrs.BrOnCastFail k from to → ⊥)
    → ((n : ℕ) → i ≡ instrs.Rethrow n → ⊥)
    → IsOther i
other (instrs.Block k) n0 n1 n2 n3 n4 n5 n6 n7 n8 n9 n10 n11 n12 = n0 k refl
other (instrs.Loop k) n0 n1 n2 n3 n4 n5 n6 n7 n8 n9 n10 n11 n12 = n1 k refl
other (instrs.IfElse k j) n0 n1 n2 n3 n4 n5 n6 n7 n8 n9 n10 n11 n12 = n2 k j refl
other (instrs.Try k cs) n0 n1 n2 n3 n4 n5 n6 n7 n8 n9 n10 n11 n12 = n3 k cs refl
other (instrs.TryTable k cs) n0 n1 n2 n3 n4 n5 n6 n7 n8 n9 n10 n11 n12 = n4 k cs refl
other (instrs.Br k) n0 n1 n2 n3 n4 n5 n6 n7 n8 n9 n10 n11 n12 = n5 k refl
other (instrs.BrIf k) n0 n1 n2 n3 n4 n5 n6 n7 n8 n9 n10 n11 n12 = n6 k refl
other (instrs.BrTable k ks) n0 n1 n2 n3 n4 n5 n6 n7 n8 n9 n10 n11 n12 = n7 k ks refl
other (instrs.BrOnNull k) n0 n1 n2 n3 n4 n5 n6 n7 n8 n9 n10 n11 n12 = n8 k refl
other (instrs.BrOnNonNull k) n0 n1 n2 n3 n4 n5 n6 n7 n8 n9 n10 n11 n12 = n9 k refl
other (instrs.BrOnCast k from to) n0 n1 n2 n3 n4 n5 n6 n7 n8 n9 n10 n11 n12 = n10 k from to refl
other (instrs.BrOnCastFail k from to) n0 n1 n2 n3 n4 n5 n6 n7 n8 n9 n10 n11 n12 = n11 k from to refl
other (instrs.Rethrow n) n0 n1 n2 n3 n4 n5 n6 n7 n8 n9 n10 n11 n12 = n12 n refl
other _ n0 n1 n2 n3 n4 n5 n6 n7 n8 n9 n10 n11 n12 = tt

pub returns-in_default : goal.returns-in_default
returns-in_default c =
    let d = c.in_default in
    answered (look_of c.args.numbers.now) c.args.seqs.now (label_by c.args.depths.now.depths.items c.args.depths.now.height) c.args.instr.now c.operator_of.result
    (other c.args.instr.now d.not-Block d.not-Loop d.not-IfElse d.not-Try d.not-TryTable d.not-Br d.not-BrIf d.not-BrTable d.not-BrOnNull d.not-BrOnNonNull d.not-BrOnCast d.not-BrOnCastFail d.not-Rethrow)
    c.operator_of.ensures.answer
