use Rattle.std.proofs.Common.{◌∙◌, ◌++◌, ℕ, List, map, sym, ap}
use Rattle.std.specs.List.{filter_map}
use Rattle.std.proofs.lemmas.Result.{err_from_is_err_and}
use Rattle.walrus_forms.specs.Records.{record_kind}
use Rattle.wasm_types.specs.declared.subtype.SubType.{SubType}
use Rattle.walrus_known_sections.specs.wasm_sections.TypeSection.{members_test}
use Rattle.walrus_type_readers.specs.Groups.{kind_in}
use Rattle.walrus_type_readers.proofs.MemberLemmas.{later_tests, later_kinds, first_fails}
use Rattle.walrus_type_readers.proofs.groups.member_records.Goals as goal

pub returns-in_err-record : goal.returns-in_err-record
returns-in_err-record c =
    let p = err_from_is_err_and c.from_residual-in_err-record.result c.from_residual-in_err-record.ensures.1 in
    let so_far = ap (λ (ms : List (ℕ × SubType)). members_test c.args.end c.loop-member.number ms) (sym c.in-Some.ensures.steps) ∙ c.loop-member.invariant.tests in
    first_fails c.args.end c.loop-member.number c.in-Some.member c.next.new.self c.args.members c.args.first _ _ _ p.1 p.2 c.in_err-record.ensures.tells so_far

pub loop-member-preserved : goal.loop-member-preserved
loop-member-preserved c =
    let steps = sym c.in-Some.ensures.steps in
    let tests = ap (λ (ms : List (ℕ × SubType)). members_test c.args.end c.loop-member.number ms) steps ∙ c.loop-member.invariant.tests in
    let kinds = ap (λ (ms : List (ℕ × SubType)). map record_kind c.loop-member.records.items ++ filter_map kind_in ms) steps ∙ c.loop-member.invariant.kinds in
    record {
      can = tt;
      ends = tt;
      tests = later_tests c.args.end c.loop-member.number c.in-Some.member c.next.new.self c.args.members c.args.first c.in_ok-record.ensures.tells.0 tests;
      kinds = later_kinds c.in-Some.member c.next.new.self c.args.members c.in_ok-record.record _ _ c.in_ok-record.ensures.tells.1 c.in_ok-push.ensures.items kinds;
    }
