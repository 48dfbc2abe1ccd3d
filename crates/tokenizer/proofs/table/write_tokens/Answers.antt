use Rattle.tokenizer.proofs.Walks.{begun, count_start, count_fits, count_more, count_end, write_start, write_room, total_fits, write_more, write_count, write_end}
use Rattle.tokenizer.proofs.RecordBytes.{record_length, records_are, records_room, records_written}
use Rattle.tokenizer.proofs.LevelLaws.{level_fits, level_low_past, level_low_start}
use Rattle.tokenizer.proofs.EscapedTotals.{token_marked, escaped_fit, totals_are}
use Rattle.tokenizer.proofs.table.write_tokens.Goals as goal

pub loop-token-init : goal.loop-token-init
loop-token-init c = search (begun, write_start, records_are, records_room, count_start, level_low_start c.args.search.settings)

pub put_record-requires : goal.put_record-requires
put_record-requires c = search (write_room, record_length)

pub overflow_add-at : goal.overflow_add-at
overflow_add-at c = search (count_fits, total_fits, record_length, c.well_formed)

pub overflow_add-escaped : goal.overflow_add-escaped
overflow_add-escaped c = search (count_fits, escaped_fit, token_marked)

pub level_past-level-requires : goal.level_past-level-requires
level_past-level-requires c = search level_fits

pub loop-token-preserved : goal.loop-token-preserved
loop-token-preserved c = search (write_more, record_length, count_more, token_marked, level_low_past)

pub returns-clause-value : goal.returns-clause-value
returns-clause-value c = search (totals_are, write_count, count_end)

pub returns-clause-table_after : goal.returns-clause-table_after
returns-clause-table_after c = search (records_written, write_end)
