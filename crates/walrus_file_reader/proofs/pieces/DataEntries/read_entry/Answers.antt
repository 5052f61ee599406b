use Rattle.walrus_section_frames.specs.walrus_known_sections.State.{state_of}
use Rattle.walrus_file_reader.proofs.DataLemmas.{data_reads}
use Rattle.walrus_file_reader.proofs.pieces.DataEntries.read_entry.Goals as goal

pub returns : goal.returns
returns c = data_reads (state_of c.args.into.now) _ c.args.reader.now c.read_data_count.new.reader c.read_entries.new.reader c.in_ok-count.count c.read_entries.result c.in_ok-count.ensures c.read_entries.ensures
