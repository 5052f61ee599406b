-- What is known of the bodies of a module before they are written.
use Rattle.std.specs.Prelude.{ℕ, ◌≡◌}
use Rattle.walrus_body_names.specs.walrus_body_writer.walrus_body_text.Visiting.{text_size}
use Rattle.walrus_body_names.specs.walrus_body_writer.walrus_tree.walrus_builder.Functions.{seqs_of}
use Rattle.walrus_body_names.specs.walrus_tree.Text.{operators}
use Rattle.walrus_body_names.specs.walrus_tree.Trees.{IsTree}
use Rattle.walrus_body_names.specs.Names.{AreSet, function_in, has_any, local_in, segment_in, text_names}
use Rattle.walrus_module.specs.walrus_local_function.declared.local_function.LocalFunction.{LocalFunction}
use Rattle.walrus_emit_numbers.specs.declared.facts.BodyFacts.{BodyFacts}

-- this is known of a function and its body
pub record AreFacts (entry : ℕ × LocalFunction) (facts : BodyFacts) : Type 0 where
  pub function : facts.function ≡ entry.0
  pub tree : IsTree (seqs_of entry.1.builder) 0
  pub size : facts.size ≡ text_size (operators (seqs_of entry.1.builder) 0)
  pub segments : facts.uses_data_segments ≡ has_any (text_names segment_in (operators (seqs_of entry.1.builder) 0))
  pub locals : AreSet (text_names local_in (operators (seqs_of entry.1.builder) 0)) facts.used_locals.items
  pub referred : facts.referred.items ≡ text_names function_in (operators (seqs_of entry.1.builder) 0)
