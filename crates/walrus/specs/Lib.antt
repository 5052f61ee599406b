-- The words of contracts, passed on under one name: a crate above lists the face alone, and names them here.
-- Flags and refusals.
pub use Rattle.walrus_config.specs.Config
pub use Rattle.walrus_errors.specs.Refusals
pub use Rattle.walrus_body_env.specs.Refusals as BodyRefusals
-- Items and functions with a body.
pub use Rattle.walrus_collections.specs.walrus_local_function.Locals as FunctionLends
pub use Rattle.walrus_module_items.specs.Copies as ItemCopies
pub use Rattle.walrus_module_items.specs.Functions as ItemFunctions
pub use Rattle.walrus_module_items.specs.New
-- Collections.
pub use Rattle.walrus_collections.specs.Added
pub use Rattle.walrus_collections.specs.Answers
pub use Rattle.walrus_collections.specs.Found
pub use Rattle.walrus_collections.specs.Lends as CollectionLends
pub use Rattle.walrus_collections.specs.LookUps
pub use Rattle.walrus_collections.specs.Tests
pub use Rattle.walrus_module_laws.specs.Given
pub use Rattle.walrus_module_laws.specs.Imports
-- Items by space and id, and which live; replacing functions.
pub use Rattle.walrus_roots.specs.Items
pub use Rattle.walrus_marks.specs.Named
pub use Rattle.walrus_pass_laws.specs.walrus_meaning.walrus_module.Items as ModuleItems
pub use Rattle.walrus_pass_laws.specs.walrus_meaning.walrus_module.Parts as ModuleParts
pub use Rattle.walrus_pass_laws.specs.walrus_meaning.walrus_module.Replaced
-- Custom sections and producers.
pub use Rattle.walrus_customs.specs.Producers
pub use Rattle.wasm_producers.specs.Entries as ProducerEntries
pub use Rattle.walrus_sections.specs.Answers as SectionAnswers
pub use Rattle.walrus_sections.specs.Lends as SectionLends
pub use Rattle.walrus_sections.specs.Refusals as SectionRefusals
pub use Rattle.walrus_sections.specs.Sections
-- Linked modules.
pub use Rattle.walrus_pass_laws.specs.walrus_meaning.walrus_linked.Empty
pub use Rattle.walrus_pass_laws.specs.walrus_meaning.walrus_linked.Kept
pub use Rattle.walrus_pass_laws.specs.walrus_meaning.walrus_linked.Linked
pub use Rattle.walrus_pass_laws.specs.walrus_meaning.walrus_linked.Names
pub use Rattle.walrus_pass_laws.specs.walrus_meaning.walrus_linked.OwnIds
pub use Rattle.walrus_module_laws.specs.Changes as LinkedChanges
pub use Rattle.walrus_module_laws.specs.Edits
-- What a module means.
pub use Rattle.walrus_pass_laws.specs.walrus_meaning.Bodies
pub use Rattle.walrus_pass_laws.specs.walrus_meaning.Laws as MeaningLaws
pub use Rattle.walrus_pass_laws.specs.walrus_meaning.Meaning
pub use Rattle.walrus_pass_laws.specs.walrus_meaning.Words
-- Modules that are read.
pub use Rattle.wasm_modules.specs.Laws as FileLaws
pub use Rattle.wasm_modules.specs.Modules as FileModules
pub use Rattle.walrus_parse_gc_laws.specs.walrus_parse_laws.walrus_named_bodies.Parsed as ReadModules
pub use Rattle.walrus_parse.specs.Nothing as EmptyModules
pub use Rattle.walrus_parse.specs.Refusals as ReadRefusals
pub use Rattle.walrus_parse_gc_laws.specs.walrus_parse_laws.Linked as ReadLinked
pub use Rattle.walrus_parse_gc_laws.specs.walrus_parse_laws.Means as ReadMeaning
pub use Rattle.walrus_parse_gc_laws.specs.Ruled as ReadRuled
pub use Rattle.walrus_parse_gc_laws.specs.RuledSent as ReadSent
pub use Rattle.walrus_parse_gc_laws.specs.Handed as ReadHanded
pub use Rattle.walrus_parse_gc_laws.specs.Moved as SentRules
pub use Rattle.walrus_parse_gc_laws.specs.SentRuled as SentRuled
pub use Rattle.walrus_parse_gc_laws.specs.Sent as SentModules
-- What names what, what is kept, why a pass is refused, and what it leaves.
pub use Rattle.walrus_pass_laws.specs.walrus_references.Kept as KeptItems
pub use Rattle.walrus_pass_laws.specs.walrus_references.References
pub use Rattle.walrus_pass_laws.specs.walrus_references.Refused as TreeItems
pub use Rattle.walrus_pass_laws.specs.walrus_references.Roots as RootItems
pub use Rattle.walrus_pass_laws.specs.walrus_exact.Exact
pub use Rattle.walrus_pass_laws.specs.walrus_refusals.Asked as LinkedItems
pub use Rattle.walrus_pass_laws.specs.walrus_refusals.Sound
pub use Rattle.walrus_pass_laws.specs.walrus_refusals.Written
pub use Rattle.walrus_pass_laws.specs.walrus_passes.Asked
pub use Rattle.walrus_pass_laws.specs.walrus_passes.Keeping
pub use Rattle.walrus_pass_laws.specs.walrus_passes.Part
pub use Rattle.walrus_pass_laws.specs.walrus_passes.UsedItems
pub use Rattle.walrus_pass_laws.specs.LinkedKept
pub use Rattle.walrus_pass_laws.specs.Served
pub use Rattle.walrus_pass_laws.specs.Twice
pub use Rattle.walrus_marks.specs.Chains
pub use Rattle.wasm_references.specs.Kept as MeantKept
pub use Rattle.wasm_references.specs.References as MeantReferences
pub use Rattle.wasm_references.specs.Roots as MeantRoots
pub use Rattle.walrus_pass_laws.specs.Meant
-- Look-ups, roots as a list, and what an item names.
pub use Rattle.walrus_lookups.specs.Code as CodeContents
pub use Rattle.walrus_lookups.specs.Customs as NamedSections
pub use Rattle.walrus_lookups.specs.Found as FoundFunctions
pub use Rattle.walrus_lookups.specs.Labels
pub use Rattle.walrus_lookups.specs.Places as CodePlaces
pub use Rattle.walrus_reasons.specs.Added as JustItems
pub use Rattle.walrus_reasons.specs.Picks as PickedItems
pub use Rattle.walrus_reasons.specs.RootLists
