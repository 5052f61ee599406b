use Rattle.std.proofs.Common.{◌≡◌, ◌++◌, map}
use Rattle.std.specs.List.{filter_map}
use Rattle.walrus_forms.specs.Records.{record_kind}
use Rattle.walrus_known_sections.specs.wasm_sections.TypeSection.{members_test}
use Rattle.walrus_type_readers.specs.Groups.{kind_in}
use Rattle.walrus_type_readers.proofs.groups.member_records.Given as goal

abbrev pub invariant-loop-member : goal.invariant-loop-member
invariant-loop-member l = record {
  can : (goal.iterator-loop-member).can_next l.member-iterator;
  ends : (goal.iterator-loop-member).is_finite l.member-iterator;
  tests : members_test l.end l.number l.member-iterator ≡ members_test l.end l.first l.fn.members;
  kinds : map record_kind l.records.items ++ filter_map kind_in l.member-iterator ≡ filter_map kind_in l.fn.members;
}
