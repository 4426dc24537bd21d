-- Definitions to unfold when the walk of a literal file is computed.
use Rattle.std.specs.Prelude.{⊤}
use Rattle.std.specs.Str.{is_utf8, chars}
use Rattle.toml.proofs.OnLiterals.{toml_on_literals}
use Rattle.mcs_load.specs.Words.{only_keys, number, whole_number, number_with_default, text, new_name, rows, row_table, array_of}
use Rattle.mcs_load.specs.Script.{said, place_named, hears, few_steps, named, read_item, heard_item, next_item, no_bare_wait, texts, body, script, server_script}
use Rattle.mcs_load.specs.Dates.{offset, few_offsets, at_values, read_values, offsets, read_dates}
use Rattle.mcs_load.specs.Walk.{config, accepts, accepted_config, mode, takes_mode, settings, listed_context_keys, context, contexts, listed_note_keys, note, notes, server, few_notes, servers, known, known_name, own_context, times, thread, threads, source, sources, ordered_context, keeps_kind, order, orders, waits, waits_first, chain, chains, link_numbers, link, links, listed_keys, numbers, base, others, walk, document, file}

unfoldable pub load_on_literals : ⊤
unfolding toml_on_literals is_utf8 chars only_keys number whole_number number_with_default text new_name rows row_table array_of said place_named hears few_steps named read_item heard_item next_item no_bare_wait texts body script server_script offset few_offsets at_values read_values offsets read_dates config accepts accepted_config mode takes_mode settings listed_context_keys context contexts listed_note_keys note notes server few_notes servers known known_name own_context times thread threads source sources ordered_context keeps_kind order orders waits waits_first chain chains link_numbers link links listed_keys numbers base others walk document file
load_on_literals = tt
