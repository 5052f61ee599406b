-- What a call answers where a section that it asked refuses.
use Rattle.walrus_errors.specs.declared.error.ModuleError.{ModuleError}
use Rattle.walrus_errors.specs.declared.error.ModuleError.TheVariants as refusals
use Rattle.walrus_sections.specs.declared.fault.SectionFault.{SectionFault}
use Rattle.walrus_sections.specs.declared.fault.SectionFault.TheVariants as faults

abbrev pub refusal_of : SectionFault → ModuleError
refusal_of faults.Memory = refusals.Memory
refusal_of faults.Refused = refusals.SectionRefused
